use Prim.Native.Nat.{ℕ, ◌+◌, ◌*◌, ◌≤◌}
use native.Mathlib.Omega.{arith}
use mathlib.Core.Path.{◌≡◌, sym, ◌∙◌, ap₂, subst}
use mathlib.Core.Bool.{true}
use lib.Dec.{ltb}
use lib.ListN.{length}
use borrow.Author.Rules.{rules}
use borrow.Author.Tests.{lt-ltb, le-ltb}
use Rattle.stab.specs.Formula.{schema_formula}
use Rattle.stab.specs.Lent.{lent_schema}
use Rattle.stab.specs.Check.{schema_refusal}
use Rattle.stab.specs.declared.SchemaHeader.{SchemaHeader}
use Rattle.stab.specs.Finding.{no_refusal}
use Rattle.stab.proofs.Bools.{and_first_false, and_first_true}
use Rattle.jointrefusal.specs.Before.{or_small, sizes_fit}
use Rattle.jointrefusal.proofs.measure.both_fit.Statement.{statement}
use Rattle.jointrefusal.proofs.measure.both_fit.Tie as tie

-- the sums that are asked for
abbrev rows : tie.Start → ℕ
rows b = let a = b.args in a.first.schema_rows + a.second.schema_rows

abbrev nodes : tie.Start → ℕ
nodes b = let a = b.args in a.first.node_rows + a.second.node_rows

few_schema : (c : tie.Else-first-second-ge1024) → ltb (rows c.before.before.before) 1024 ≡ true
few_schema c = lt-ltb (rows c.before.before.before) 1024 (omega (arith, c.if-first-second-ge1024.false))

few_nodes_lem : (c : tie.Else-first-second-ge1024-2) → ltb (nodes c.before.before.before.before.before.before) 1024 ≡ true
few_nodes_lem c = lt-ltb (nodes c.before.before.before.before.before.before) 1024 (omega (arith, c.if-first-second-ge1024-2.false))

overflow_add-first : tie.Need-overflow_add-first
overflow_add-first c = search rules

returns-then-first-second-ge1024 : tie.Need-returns-then-first-second-ge1024
unfolding sizes_fit
returns-then-first-second-ge1024 c = sym (and_first_false _ _ (le-ltb _ 1024 c.if-first-second-ge1024.true))

overflow_add-first-2 : tie.Need-overflow_add-first-2
overflow_add-first-2 c = search rules

returns-then-first-second-ge1024-2 : tie.Need-returns-then-first-second-ge1024-2
unfolding sizes_fit
returns-then-first-second-ge1024-2 c =
    sym (and_first_true (ltb (rows c.before.before.before.before.before.before) 1024) _ (few_schema c.before.before.before) ∙ and_first_false _ _ (le-ltb _ 1024 c.if-first-second-ge1024-2.true))

schema_header-requires : tie.Need-schema_header-requires
schema_header-requires c κs = search rules

schema_header-requires-2 : tie.Need-schema_header-requires-2
schema_header-requires-2 c κs = search rules

abbrev start : tie.After-schema_header-2 → tie.Start
start c = c.before.before.before.before.before.before.before.before

or_fits-requires : tie.Need-or_fits-requires
or_fits-requires c κs =
    let b = start c in
    let p = b.requires in
    let f = sym c.schema_header.ensures in
    let s = sym c.schema_header-2.ensures in (
      subst (λ (h : SchemaHeader). (h.rows ≤ 1024) × (4 * h.rows ≤ length b.args.first_schema.now)) f (p.0.0, p.0.2),
      (
        subst (λ (h : SchemaHeader). (h.rows ≤ 1024) × (4 * h.rows ≤ length b.args.second_schema.now)) s (p.1.0.0, p.1.0.2),
        (
          subst (λ (h : SchemaHeader). schema_refusal (lent_schema b.args.first_schema.now h) ≡ no_refusal) f p.1.1.0,
          subst (λ (h : SchemaHeader). schema_refusal (lent_schema b.args.second_schema.now h) ≡ no_refusal) s p.1.1.1,
        ),
      ),
    )

returns : tie.Need-returns
unfolding sizes_fit
returns c =
    let b = start c.before in
    c.or_fits.ensures
    ∙ ap₂ (λ (h k : SchemaHeader). or_small (schema_formula (lent_schema b.args.first_schema.now h)) (schema_formula (lent_schema b.args.second_schema.now k))) c.schema_header.ensures c.schema_header-2.ensures
    ∙ sym (and_first_true (ltb (rows b) 1024) _ (few_schema c.before.before.before.before.before.before) ∙ and_first_true (ltb (nodes b) 1024) _ (few_nodes_lem c.before.before.before))

pub both_fit_spec : {M : Type 1} → statement M
both_fit_spec = tie.close (tie.spec overflow_add-first returns-then-first-second-ge1024 overflow_add-first-2 returns-then-first-second-ge1024-2 schema_header-requires schema_header-requires-2 or_fits-requires returns)
