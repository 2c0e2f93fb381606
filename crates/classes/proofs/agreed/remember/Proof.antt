use borrow.Author.Rules.{rules}
use Prim.Native.Nat.{ℕ, ◌+◌}
use native.Mathlib.Omega.{arith}
use mathlib.Core.Path.{sym, ◌∙◌, ap}
use lib.ListN.{set}
use borrow.Author.Tests.{lt-ltb, le-ltb}
use Rattle.stab.proofs.Bools.{if_true, if_false}
use Rattle.classes.specs.Agreed.{stand_in, united_in}
use Rattle.classes.proofs.agreed.remember.Statement.{statement}
use Rattle.classes.proofs.agreed.remember.Tie as tie

stand_in-p-requires : tie.Need-stand_in-p-requires
stand_in-p-requires c κs = search rules

stand_in-q-requires : tie.Need-stand_in-q-requires
stand_in-q-requires c κs = search rules

-- where both rows that stand in have been read
abbrev begin : tie.After-stand_in-q → tie.Start
begin c = c.before.before.before

overflow_add-agreed : tie.Need-overflow_add-agreed
overflow_add-agreed c = search rules

overflow_cast-agreed : tie.Need-overflow_cast-agreed
overflow_cast-agreed c = search rules

offset_bounds-agreed-g : tie.Need-offset_bounds-agreed-g
offset_bounds-agreed-g c = search rules

bounds-agreed-g : tie.Need-bounds-agreed-g
bounds-agreed-g c = search rules

shape_of-agreed-then-p-q : tie.Need-shape_of-agreed-then-p-q
shape_of-agreed-then-p-q c = search rules

returns-then-p-q : tie.Need-returns-then-p-q
unfolding united_in
returns-then-p-q c =
    let a = (begin c.before).args in
    let p = c.stand_in-p.ensures.0 in
    let q = c.stand_in-q.ensures.0 in
    ap (λ (m : ℕ). set a.agreed.now a.g (m + 1)) p
    ∙ sym (if_true _ _ _ (lt-ltb (stand_in a.agreed.now a.f) (stand_in a.agreed.now a.g) (omega (arith, p, q, c.if-p-q.true))))

overflow_add-agreed-2 : tie.Need-overflow_add-agreed-2
overflow_add-agreed-2 c = search rules

overflow_cast-agreed-2 : tie.Need-overflow_cast-agreed-2
overflow_cast-agreed-2 c = search rules

offset_bounds-agreed-f : tie.Need-offset_bounds-agreed-f
offset_bounds-agreed-f c = search rules

bounds-agreed-f : tie.Need-bounds-agreed-f
bounds-agreed-f c = search rules

shape_of-agreed : tie.Need-shape_of-agreed
shape_of-agreed c = search rules

returns : tie.Need-returns
unfolding united_in
returns c =
    let a = (begin c.before).args in
    let p = c.stand_in-p.ensures.0 in
    let q = c.stand_in-q.ensures.0 in
    ap (λ (m : ℕ). set a.agreed.now a.f (m + 1)) q
    ∙ sym (if_false _ _ _ (le-ltb (stand_in a.agreed.now a.f) (stand_in a.agreed.now a.g) (omega (arith, p, q, c.if-p-q.false))))

pub remember_spec : {M : Type 1} → statement M
remember_spec =
    tie.close
    (tie.spec
    stand_in-p-requires
    stand_in-q-requires
    overflow_add-agreed
    overflow_cast-agreed
    offset_bounds-agreed-g
    bounds-agreed-g
    shape_of-agreed-then-p-q
    returns-then-p-q
    overflow_add-agreed-2
    overflow_cast-agreed-2
    offset_bounds-agreed-f
    bounds-agreed-f
    shape_of-agreed
    returns)
