use Rattle.stab.proofs.Bools.{and_first_false}
use Rattle.stab.specs.Formula.{Formula, schema_formula, disj}
use Rattle.stab.specs.Formula as F
use Rattle.stab.specs.Lent.{lent_schema}
use Rattle.stab.specs.Basic.{◌and◌}
use borrow.Author.Tests.{lt-leb, le-leb}
use lib.Dec.{leb}
use mathlib.Core.Bool.{Bool}
use mathlib.Core.Path.{◌≡◌, sym, ◌∙◌, ap, ap₂}
use Prim.Native.Nat.{ℕ, ◌+◌, max}
use native.Mathlib.Omega.{arith}
use borrow.Author.Rules.{rules}
use Rattle.jointrefusal.specs.Before.{or_small}
use Rattle.jointrefusal.proofs.measure.or_fits.Statement.{statement}
use Rattle.jointrefusal.proofs.measure.or_fits.Tie as tie

-- where both roots are known
abbrev start : tie.After-root_facts-g → tie.Start
start c = c.before.before

abbrev first : tie.Start → Formula
first b = schema_formula (lent_schema b.args.first_schema.now b.args.first)

abbrev second : tie.Start → Formula
second b = schema_formula (lent_schema b.args.second_schema.now b.args.second)

first_size : (c : tie.After-root_facts-g) → c.root_facts-f.result.size ≡ F.size (first (start c))
first_size c = c.root_facts-f.ensures.0

second_size : (c : tie.After-root_facts-g) → c.root_facts-g.result.size ≡ F.size (second (start c))
second_size c = c.root_facts-g.ensures.0

root_facts-f-requires : tie.Need-root_facts-f-requires
root_facts-f-requires c κs = search rules

root_facts-g-requires : tie.Need-root_facts-g-requires
root_facts-g-requires c κs = search rules

overflow_add-f : tie.Need-overflow_add-f
overflow_add-f c = search rules

overflow_add-f-2 : tie.Need-overflow_add-f-2
overflow_add-f-2 c = search rules

returns-then-f-g-gt4096 : tie.Need-returns-then-f-g-gt4096
unfolding or_small F.size
returns-then-f-g-gt4096 c =
    let b = start c.before.before.before in
    sym (and_first_false _ _ (lt-leb (F.size (F.join disj (first b) (second b))) 4096 (omega (arith, c.if-f-g-gt4096.true, first_size c.before.before.before, second_size c.before.before.before))))

larger-requires : tie.Need-larger-requires
larger-requires c κs = search rules

overflow_add-result : tie.Need-overflow_add-result
overflow_add-result c = search rules

returns : tie.Need-returns
unfolding or_small F.size F.depth ◌and◌
returns c =
    let b = start c.before.before.before.before in
    ap (λ (d : ℕ). leb (1 + d) 64)
    (c.larger.ensures ∙ ap₂ max c.root_facts-f.ensures.1.0 c.root_facts-g.ensures.1.0)
    ∙ sym (ap (λ (x : Bool). x and leb (F.depth (F.join disj (first b) (second b))) 64) (le-leb (F.size (F.join disj (first b) (second b))) 4096 (omega (arith, c.if-f-g-gt4096.false, first_size c.before.before.before.before, second_size c.before.before.before.before))))

pub or_fits_spec : {M : Type 1} → statement M
or_fits_spec =
    tie.close
    (tie.spec
    root_facts-f-requires
    root_facts-g-requires
    overflow_add-f
    overflow_add-f-2
    returns-then-f-g-gt4096
    larger-requires
    overflow_add-result
    returns)
