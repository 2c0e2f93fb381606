use mathlib.Core.Path.{◌≡◌, sym, ◌∙◌}
use mathlib.Core.Bool.{true, false}
use borrow.Author.Rules.{rules}
use borrow.Author.Tests.{eq-eqb, ne_eqb}
use Rattle.stab.proofs.Bools.{if_true, if_false}
use Rattle.find.specs.Search.{is_true}
use Rattle.find.proofs.put_true.Statement.{statement}
use Rattle.find.proofs.put_true.Tie as tie

overflow_sub-count : tie.Need-overflow_sub-count
overflow_sub-count c = search rules

overflow_sub-count-2 : tie.Need-overflow_sub-count-2
overflow_sub-count-2 c = search rules

overflow_shr-m : tie.Need-overflow_shr-m
overflow_shr-m c = search rules

offset_bounds-keys-k : tie.Need-offset_bounds-keys-k
offset_bounds-keys-k c = search rules

bounds-keys-k : tie.Need-bounds-keys-k
bounds-keys-k c = search rules

put_pair-requires : tie.Need-put_pair-requires
put_pair-requires c κs = search rules

overflow_add-result : tie.Need-overflow_add-result
overflow_add-result c = search rules

shape_of-pairs-then-m-count-eq1 : tie.Need-shape_of-pairs-then-m-count-eq1
shape_of-pairs-then-m-count-eq1 c = search rules

returns-then-m-count-eq1 : tie.Need-returns-then-m-count-eq1
unfolding is_true
returns-then-m-count-eq1 c =
    let a = c.args in
    let set : is_true a.m a.count a.k ≡ true = eq-eqb _ 1 c.if-m-count-eq1.true in
    (sym (if_true (is_true a.m a.count a.k) _ _ set), c.put_pair.ensures ∙ sym (if_true (is_true a.m a.count a.k) _ _ set))

returns : tie.Need-returns
unfolding is_true
returns c =
    let a = c.args in
    let unset : is_true a.m a.count a.k ≡ false = ne_eqb _ 1 c.if-m-count-eq1.false in
    (sym (if_false (is_true a.m a.count a.k) _ _ unset), sym (if_false (is_true a.m a.count a.k) _ _ unset))

pub put_true_spec : {M : Type 1} → statement M
put_true_spec =
    tie.close
    (tie.spec
    overflow_sub-count
    overflow_sub-count-2
    overflow_shr-m
    offset_bounds-keys-k
    bounds-keys-k
    put_pair-requires
    overflow_add-result
    shape_of-pairs-then-m-count-eq1
    returns-then-m-count-eq1
    returns)
