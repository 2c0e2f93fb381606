use Rattle.std.proofs.Common.{◌≡◌, ℕ, ◌+◌, ◌<◌, List, ℤ, pos, length, get_or, set, take, ap₂, ◌∙◌, arith, rules}
use Rattle.std.proofs.lemmas.List.Edits.{sets}
use Rattle.signed.proofs.Signs.{read_back}
use Rattle.tidy.proofs.Nodes.{sets_next, sets_all}
use Rattle.tidy.proofs.node.copy.Goals as goal

-- what is stored at the k-th place is the k-th number
stored : (t t₀ row : List ℤ) (at k i : ℕ) (z : ℤ) → t ≡ sets t₀ at (take k row) → i ≡ k → z ≡ get_or row i (pos 0) → k < length row → set t (at + i) z ≡ sets t₀ at (take (k + 1) row)
stored t t₀ row at k i z before here is h =
    ap₂ (λ (u : List ℤ) (n : ℕ). set u (at + n) z) before here
    ∙ sets_next t₀ at row k h z (rw here at is)

pub loop-k-preserved : goal.loop-k-preserved
loop-k-preserved c =
    let l = c.loop-k in
    stored l.table c.args.table.now c.args.row.now c.args.at l.k _ _ l.invariant (omega arith) (search (rules, read_back)) (omega arith)

pub returns : goal.returns
returns c = c.loop-k.invariant ∙ sets_all c.args.table.now c.args.at c.args.row.now c.loop-k.k (omega arith)
