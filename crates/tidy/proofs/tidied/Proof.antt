use borrow.Author.Rules.{rules}
use native.Mathlib.Omega.{arith}
use Prim.Native.Nat.{ℕ, ◌*◌}
use mathlib.Core.Path.{◌≡◌, sym, ◌∙◌, ap, ap₂, subst}
use mathlib.Core.List.{List}
use lib.IntN.{pos}
use lib.ListN.{length}
use Rattle.stab.specs.Text.{padded}
use Rattle.std.specs.Prelude.{Ok}
use Rattle.signed.proofs.Tables.{cleared_padded}
use Rattle.stab.specs.Node.{Tableau}
use Rattle.stab.specs.Lent.{lent}
use Rattle.tidied.specs.Tidied.{new_number, folding_of, new_of, tidied}
use Rattle.tidied.specs.Tidy.{tidy_answer}
use Rattle.folds.proofs.Numbers.{new_padded}
use Rattle.tidy.specs.Kept.{AllFit, Tidies}
use Rattle.tidy.proofs.Fitting.{bare_members, bare_nodes}
use Rattle.tidy.proofs.tidied.Statement.{statement}
use Rattle.tidy.proofs.tidied.Tie as tie

-- where the rows are folded: the new numbers
abbrev start : tie.After-fold-rows → tie.Start
start c = c.before.before.before

abbrev numbers : tie.After-fold-rows → List ℕ
numbers c = c.fold-rows.new.numbers

abbrev Lent : tie.Start → Tableau
Lent b = let a = b.args in lent a.schema.now a.proof.now a.nodes.now a.members.now a.h

same_numbers : (c : tie.After-fold-rows) → new_number (start c).args.h.schema_rows (numbers c) ≡ new_of (Lent (start c))
unfolding new_of folding_of
same_numbers c = ap (new_number (start c).args.h.schema_rows) c.fold-rows.ensures.1.1.0 ∙ new_padded (start c).args.h.schema_rows _ _

-- where the nodes are put
abbrev fold_of : tie.After-each_node-m → tie.After-fold-rows
fold_of c = c.before.before.before.before.before.before

kept : (c : tie.After-each_node-m) →
    let b = start (fold_of c) in
    Tidies b.args.nodes.now b.args.members.now (new_of (Lent b)) b.args.h.node_rows c.each_node-m.result c.each_node-m.new.out_nodes c.each_node-m.new.out_members
kept c =
    let f = fold_of c in
    let b = start f in
    subst (λ (g : ℕ → ℕ). Tidies b.args.nodes.now b.args.members.now g b.args.h.node_rows c.each_node-m.result c.each_node-m.new.out_nodes c.each_node-m.new.out_members) (same_numbers f) c.each_node-m.ensures.0

slice_bounds-fold-end : tie.Need-slice_bounds-fold-end
slice_bounds-fold-end c = search rules

fold-rows-requires : tie.Need-fold-rows-requires
fold-rows-requires c κs = search rules

slice_bounds-each_node-end : tie.Need-slice_bounds-each_node-end
slice_bounds-each_node-end c = search rules

each_node-m-requires : tie.Need-each_node-m-requires
each_node-m-requires c κs =
    let b = start c.before.before.before.before.before in (
      (b.requires.0.1, b.requires.0.3, b.requires.0.4, c.fold-rows.ensures.1.1.1),
      subst (λ (g : ℕ → ℕ). AllFit b.args.nodes.now b.args.members.now g b.args.h.node_rows) (sym (same_numbers c.before.before.before.before.before)) b.requires.1,
    )

overflow_mul-k : tie.Need-overflow_mul-k
overflow_mul-k c = search rules

clear-requires : tie.Need-clear-requires
clear-requires c κs = search rules

clear-requires-2 : tie.Need-clear-requires-2
clear-requires-2 c κs =
    omega (arith, c.each_node-m.ensures.1, c.each_node-m.auto.out_members, (start (fold_of c.before.before.before.before.before.before)).requires.0.4)

shape_of-out_proof : tie.Need-shape_of-out_proof
shape_of-out_proof c = search rules

shape_of-out_nodes : tie.Need-shape_of-out_nodes
shape_of-out_nodes c = search rules

shape_of-out_members : tie.Need-shape_of-out_members
shape_of-out_members c = search rules

returns : tie.Need-returns
unfolding tidy_answer tidied folding_of
returns c =
    let f = fold_of c.before.before.before.before.before.before.before.before in
    let b = start f in
    let k = b.args.h.node_rows in
    let same = c.each_node-m.auto in
    let i = kept c.before.before.before.before.before.before.before.before in
    let members = bare_members (Lent b) (new_of (Lent b)) k in (
      ap₂ (λ (n m : ℕ). Ok (record { rows = n; nodes = k; members = m })) f.fold-rows.ensures.0 (i.counted ∙ ap length members),
      (
        f.fold-rows.ensures.1.0,
        (
          c.clear.ensures ∙ cleared_padded _ (9 * k) (length b.args.out_nodes.now) (omega (arith, same.out_nodes, b.requires.0.3)) same.out_nodes ∙ ap (padded (pos 0) (length b.args.out_nodes.now)) (i.rows ∙ bare_nodes (Lent b) (new_of (Lent b)) k),
          c.clear-2.ensures ∙ cleared_padded _ c.each_node-m.result (length b.args.out_members.now) (omega (arith, c.each_node-m.ensures.1, same.out_members, b.requires.0.4)) same.out_members ∙ ap (padded (pos 0) (length b.args.out_members.now)) (i.sets ∙ members),
        ),
      ),
    )

pub tidied_spec : {M : Type 1} → statement M
tidied_spec =
    tie.close
    (tie.spec
    slice_bounds-fold-end
    fold-rows-requires
    slice_bounds-each_node-end
    each_node-m-requires
    overflow_mul-k
    clear-requires
    clear-requires-2
    shape_of-out_proof
    shape_of-out_nodes
    shape_of-out_members
    returns)
