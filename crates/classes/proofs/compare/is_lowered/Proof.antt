use borrow.Author.Rules.{rules}
use Prim.Native.Nat.{ℕ, ◌<◌, ◌^◌}
use native.Mathlib.Omega.{arith}
use mathlib.Core.Path.{◌≡◌, sym, ◌∙◌, ap, ap₂}
use mathlib.Core.Bool.{false, not}
use lib.IntN.{ℤ, pos, neg_ℤ, ◌-ℤ◌}
use mir.Facts.{to_z-of_z}
use Rattle.signed.proofs.Signs.{nat_small, under_small}
use Rattle.stab.specs.Basic.{nat}
use Rattle.stab.specs.Formula.{Row, formula_rows, tree}
use Rattle.stab.specs.Alike.{lower, alike}
use Rattle.stab.proofs.Bools.{asked_false}
use Rattle.classes.specs.Class.{ground}
use Rattle.classes.specs.Key.{fitting}
use Rattle.classes.proofs.Meets.{whole_parts, classes_differ, shifts_differ, outer_met}
use Rattle.classes.proofs.compare.is_lowered.Statement.{statement}
use Rattle.classes.proofs.compare.is_lowered.Tie as tie

abbrev rows : tie.Start → ℕ → Row
rows b = formula_rows b.args.schema.now b.args.s b.args.proof.now

small : (b : tie.Start) → (b.args.z < 1024) × (b.args.x < 1024)
small b = let p = b.requires.0 in (omega (arith, p.1, p.3.few), omega (arith, p.2, p.3.few))

overflow_mul-z : tie.Need-overflow_mul-z
overflow_mul-z c = omega (arith, small c.before.before)

kept_at-requires : tie.Need-kept_at-requires
kept_at-requires c κs = search rules

overflow_mul-x : tie.Need-overflow_mul-x
overflow_mul-x c = omega (arith, small c.before.before.before)

kept_at-requires-2 : tie.Need-kept_at-requires-2
kept_at-requires-2 c κs = search rules

abbrev begin : tie.After-kept_at-2 → tie.Start
begin c = c.before.before.before.before

-- the answer where two rows do not meet
unmet :
    (b : tie.Start)
    → alike (lower b.args.k (ground (tree (rows b) b.args.z))) (ground (tree (rows b) b.args.x)) ≡ false
    → false ≡ alike (lower b.args.k (tree (rows b) b.args.z)) (tree (rows b) b.args.x)
unmet b h = sym h ∙ outer_met b.args.k _ _ b.requires.1.0.0 b.requires.1.0.1

returns-then-kept_at : tie.Need-returns-then-kept_at
returns-then-kept_at c =
    let b = begin c.before in
    let p = b.requires.0 in (
      unmet b
          (classes_differ (rows b) _ _ p.3 b.args.k _ _ p.1 p.2
          (λ e. c.if-kept_at.true (c.kept_at.ensures.0 ∙ (p.3.worked _ p.1).class ∙ e ∙ sym (c.kept_at-2.ensures.0 ∙ (p.3.worked _ p.2).class)))),
      b.requires.1.1,
    )

natural-up-requires : tie.Need-natural-up-requires
natural-up-requires c κs = search rules

under-down-requires : tie.Need-under-down-requires
under-down-requires c κs = search rules

-- the two parts of k
abbrev start : tie.After-under-down → tie.Start
start c = begin c.before.before.before

up : (c : tie.After-under-down) → c.natural-up.result ≡ nat (start c).args.k
up c = c.natural-up.ensures ∙ ap nat (to_z-of_z (start c).ranges.k)

down : (c : tie.After-under-down) → c.under-down.result ≡ nat (neg_ℤ (start c).args.k)
down c = c.under-down.ensures ∙ ap (λ (z : ℤ). nat (neg_ℤ z)) (to_z-of_z (start c).ranges.k)

by : (c : tie.After-under-down) → (pos c.natural-up.result -ℤ pos c.under-down.result) ≡ (start c).args.k
by c = ap₂ (λ (m n : ℕ). pos m -ℤ pos n) (up c) (down c) ∙ whole_parts (start c).args.k

up_small : (c : tie.After-under-down) → c.natural-up.result < 2 ^ 32
up_small c = omega (arith, up c, nat_small _ (start c).ranges.k)

down_small : (c : tie.After-under-down) → c.under-down.result < 2 ^ 32
down_small c = omega (arith, down c, under_small _ (start c).ranges.k)

shifts_fit-requires : tie.Need-shifts_fit-requires
shifts_fit-requires c κs = let b = start c in (up_small c, down_small c, (small b).0, (small b).1)

returns-then-not-shifts_fit : tie.Need-returns-then-not-shifts_fit
returns-then-not-shifts_fit c =
    let b = start c.before.before in
    let p = b.requires.0 in (
      unmet b
          (shifts_differ (rows b) _ _ p.3 b.args.k _ _ p.1 p.2 _ _ (by c.before.before)
          (sym (ap₂ (fitting _ _) (p.3.worked _ p.1).shift (p.3.worked _ p.2).shift) ∙ asked_false c.shifts_fit.ensures (ap not c.if-not-shifts_fit.true))),
      b.requires.1.1,
    )

agrees-requires : tie.Need-agrees-requires
agrees-requires c κs =
    let b = start c.before.before.before in
    ((up_small c.before.before.before, down_small c.before.before.before), (b.requires.0, b.requires.1.1))

shape_of-agreed : tie.Need-shape_of-agreed
shape_of-agreed c = c.agrees.auto.agreed

returns : tie.Need-returns
returns c =
    let b = start c.before.before.before.before.before.before in (
      c.agrees.ensures.0
          ∙ ap (λ (k : ℤ). alike (lower k (ground (tree (rows b) b.args.z))) (ground (tree (rows b) b.args.x))) (by c.before.before.before.before.before.before)
          ∙ outer_met b.args.k _ _ b.requires.1.0.0 b.requires.1.0.1,
      c.agrees.ensures.1,
    )

pub is_lowered_spec : {M : Type 1} → statement M
is_lowered_spec =
    tie.close
    (tie.spec
    overflow_mul-z
    kept_at-requires
    overflow_mul-x
    kept_at-requires-2
    returns-then-kept_at
    natural-up-requires
    under-down-requires
    shifts_fit-requires
    returns-then-not-shifts_fit
    agrees-requires
    shape_of-agreed
    returns)
