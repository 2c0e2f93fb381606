use Rattle.std.proofs.Common.{◌≡◌, ℕ, ◌+◌, ◌-◌, ◌*◌, ◌%◌, ◌^◌, ◌≤◌, List, ℤ, pos, sym, ◌∙◌, ap, ap₂, subst, arith}
use Rattle.stab.specs.Model.{listed}
use Rattle.pairs.specs.Pairs.{Sorted, keys_below}
use Rattle.pairs.specs.Word.{word_at}
use Rattle.pairs.proofs.Words.{small, one_shifted}
use Rattle.pairs.proofs.Keys.{key_rises, Parted, keys_parted, walk_start, walk_more, walk_end}
use Rattle.pairs.proofs.listed_word.Goals as goal

-- the pairs before the first one have smaller keys, and no others
parted : {t : List ℤ} {count key first : ℕ} → Sorted t count → first ≡ keys_below t count key → Parted t count key first
parted {t} {count} {key} s e = subst (Parted t count key) (sym e) (keys_parted t count key s)

-- the key of the next pair is not below the first one
not_below : (c : goal.Else-last-there) → c.args.symbol * 131072 + c.args.x ≤ c.key_at-there.result
not_below c =
    omega (arith, (parted c.requires.5 c.keys_below-first.ensures).above c.loop-k.k (omega arith) (omega arith))

-- one pair more
more : (c : goal.Else-last-there) →
    let a = c.args in
    word_at (listed a.pairs.now (c.loop-k.k + 1) (pos a.symbol)) a.x a.width
    ≡ c.loop-k.w + (1 * 2 ^ (c.key_at-there.result - (a.symbol * 131072 + a.x))) % 2 ^ 64
more c =
    let a = c.args in
    let d = c.key_at-there.result - (a.symbol * 131072 + a.x) in
    walk_more _ _ a.symbol a.x a.width c.requires.5 c.requires.4 _ (omega arith) (omega (arith, not_below c)) (omega arith)
    ∙ ap₂ (λ (v m : ℕ). v + 2 ^ (m - (a.symbol * 131072 + a.x))) (sym c.loop-k.invariant) (sym c.key_at-there.ensures)
    ∙ ap (λ (m : ℕ). c.loop-k.w + m) (sym (one_shifted d (omega arith)))

pub loop-k-init : goal.loop-k-init
loop-k-init c =
    walk_start _ _ _ _ _ c.requires.5 c.requires.4 _ (parted c.requires.5 c.keys_below-first.ensures)

pub returns-then-last-there : goal.returns-then-last-there
returns-then-last-there c =
    c.loop-k.invariant
    ∙ walk_end _ _ c.args.symbol c.args.x c.args.width c.requires.5 c.requires.4 _ (omega arith)
    (λ l p q. omega (arith, key_rises _ _ c.requires.5 _ l p q))

pub overflow_sub-w : goal.overflow_sub-w
overflow_sub-w c = not_below c

pub overflow_add-w : goal.overflow_add-w
overflow_add-w c =
    let a = c.args in
    record { fits = omega (arith, more c, small (listed a.pairs.now (c.loop-k.k + 1) (pos a.symbol)) a.x a.width (omega arith)) }

pub loop-k-preserved : goal.loop-k-preserved
loop-k-preserved c = sym (more c)

pub returns : goal.returns
returns c =
    let a = c.args in
    let e : c.loop-k.k ≡ a.count = omega (arith, (parted c.requires.5 c.keys_below-first.ensures).end) in
    c.loop-k.invariant ∙ ap (λ (k : ℕ). word_at (listed a.pairs.now k (pos a.symbol)) a.x a.width) e
