use borrow.Author.Rules.{rules}
use Prim.Native.Nat.{ℕ, ◌<◌}
use native.Mathlib.Omega.{arith}
use mathlib.Core.Path.{◌≡◌, sym, ◌∙◌, ap₂}
use mathlib.Core.Bool.{true}
use lib.IntN.{ℤ, pos, ◌-ℤ◌}
use Rattle.stab.specs.Formula.{Row, Op, iteration, kind_of, formula_rows, tree, well_formed}
use Rattle.stab.specs.Alike.{lower, alike}
use Rattle.formula.specs.Column.{column}
use Rattle.formula.proofs.RowLaws.{offset_small, bit_zero, bit_one}
use Rattle.classes.specs.Class.{ground}
use Rattle.classes.proofs.ByKind.{is_iteration, body_less, body_fixed, limit_offset}
use Rattle.classes.proofs.Meets.{whole_parts, body_met, loose_none}
use Rattle.classes.proofs.compare.is_instance.Statement.{statement}
use Rattle.classes.proofs.compare.is_instance.Tie as tie

abbrev rows : tie.Start → ℕ → Row
rows b = formula_rows b.args.schema.now b.args.s b.args.proof.now

formed : (b : tie.Start) → well_formed (rows b) b.args.on ≡ true
formed b = b.requires.0.3.formed b.args.on b.requires.0.1

iterates : (b : tie.Start) → (o : Op) × (kind_of (rows b b.args.on).kind ≡ iteration o)
iterates b = is_iteration (rows b) b.args.on (formed b) b.requires.1.0

overflow_mul-z : tie.Need-overflow_mul-z
overflow_mul-z c = search rules

overflow_add-z : tie.Need-overflow_add-z
overflow_add-z c = search rules

kept_at-requires : tie.Need-kept_at-requires
kept_at-requires c κs = search rules

returns-then-kept_at-ne0 : tie.Need-returns-then-kept_at-ne0
returns-then-kept_at-ne0 c = (
  sym
      (loose_none _ _ _
      (bit_one _ (λ e. c.if-kept_at-ne0.true (c.kept_at.ensures.0 ∙ (c.requires.0.4 c.args.z c.requires.0.2).loose ∙ e)))),
  c.requires.1.1,
)

natural_in-up-requires : tie.Need-natural_in-up-requires
natural_in-up-requires c κs = search rules

under_in-down-requires : tie.Need-under_in-down-requires
under_in-down-requires c κs = search rules

natural_in-requires : tie.Need-natural_in-requires
natural_in-requires c κs = search rules

-- where the body has been read
abbrev start : tie.After-natural_in → tie.Start
start c = c.before.before.before.before.before.before.before.before

body_below : (c : tie.After-natural_in) → c.natural_in.result < (start c).args.on
unfolding column
body_below c =
    let b = start c in
    omega (arith, c.natural_in.ensures, body_less (rows b) b.args.on (formed b) _ (iterates b).1)

agrees_anew-requires : tie.Need-agrees_anew-requires
unfolding column
agrees_anew-requires d κs =
    let b = start d.before in
    let small = offset_small _ (limit_offset (rows b) b.args.on (formed b) _ (iterates b).1) in
    ((omega (arith, d.natural_in-up.ensures, small), omega (arith, d.under_in-down.ensures, small)), ((b.requires.0.0, omega (arith, body_below d.before, b.requires.0.1), b.requires.0.2, b.requires.0.3, b.requires.0.5), b.requires.1.1))

shape_of-agreed : tie.Need-shape_of-agreed
shape_of-agreed c = c.agrees_anew.auto.agreed

returns : tie.Need-returns
unfolding column
returns c =
    let b = start c.before.before.before.before in (
      c.agrees_anew.ensures.0
          ∙ ap₂ (λ (k : ℤ) (m : ℕ). alike (lower k (ground (tree (rows b) m))) (ground (tree (rows b) b.args.z)))
          (ap₂ (λ (m n' : ℕ). pos m -ℤ pos n') c.natural_in-up.ensures c.under_in-down.ensures ∙ whole_parts (rows b b.args.on).c)
          c.natural_in.ensures
          ∙ body_met (rows b b.args.on).c _ _ (body_fixed (rows b) b.args.on (formed b) _ (iterates b).1)
          (bit_zero _ (sym (b.requires.0.4 b.args.z b.requires.0.2).loose ∙ sym c.kept_at.ensures.0 ∙ c.if-kept_at-ne0.false)),
      c.agrees_anew.ensures.1,
    )

pub is_instance_spec : {M : Type 1} → statement M
is_instance_spec =
    tie.close
    (tie.spec
    overflow_mul-z
    overflow_add-z
    kept_at-requires
    returns-then-kept_at-ne0
    natural_in-up-requires
    under_in-down-requires
    natural_in-requires
    agrees_anew-requires
    shape_of-agreed
    returns)
