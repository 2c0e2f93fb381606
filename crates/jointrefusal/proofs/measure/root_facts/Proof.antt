use Prim.Native.Nat.{ℕ, ◌+◌, ◌*◌, ◌<◌}
use native.Mathlib.Omega.{arith}
use mathlib.Core.Path.{◌≡◌, ◌∙◌, ap}
use mathlib.Core.List.{List}
use lib.Dec.{leb}
use lib.ListN.{get_or}
use borrow.Author.Rules.{rules}
use borrow.Author.Tests.{leb-true}
use Rattle.stab.specs.Basic.{nat, below}
use Rattle.stab.specs.Formula as F
use Rattle.stab.specs.Formula.{row_at, small_enough, schema_formula}
use Rattle.stab.specs.Lent.{lent_schema}
use Rattle.stab.specs.Check.{whole_unless, root_fits, formulas_refusal, schema_refusal}
use Rattle.stab.proofs.Bools.{and_left, and_right, unless_nothing, otherwise_first}
use Rattle.stab.proofs.Trees.{below_nat}
use Rattle.signed.proofs.Signs.{read_back}
use Rattle.formula.specs.declared.rows.Facts.{Facts}
use Rattle.formula.specs.Rows.{facts_at, Passed}
use Rattle.jointrefusal.proofs.measure.root_facts.Statement.{statement}
use Rattle.jointrefusal.proofs.measure.root_facts.Tie as tie

root_below : (b : tie.Start) → nat b.args.h.root < b.args.h.rows
unfolding schema_refusal formulas_refusal whole_unless root_fits
root_below b =
    let h = b.args.h in
    below_nat h.rows h.root (and_left (below h.rows h.root) _ (unless_nothing (root_fits h.rows h.root h.least) _ _ (otherwise_first _ _ b.requires.1)))

-- where the rows are passed
abbrev start : tie.After-schema_formulas → tie.Start
start c = c.before.before

abbrev facts : tie.After-schema_formulas → List ℕ
facts c = c.schema_formulas.new.facts

passed : (c : tie.After-schema_formulas) → let a = (start c).args in Passed (row_at a.schema.now) (facts c) a.h.rows
passed c = c.schema_formulas.ensures.1.0 (start c).requires.1

slice_bounds-schema_formulas-end : tie.Need-slice_bounds-schema_formulas-end
slice_bounds-schema_formulas-end c = search rules

schema_formulas-requires : tie.Need-schema_formulas-requires
schema_formulas-requires c κs = search rules

slice_bounds-known-end : tie.Need-slice_bounds-known-end
slice_bounds-known-end c = search rules

natural-requires : tie.Need-natural-requires
natural-requires c κs = search rules

root_is : (c : tie.After-natural) → c.natural.result ≡ nat (start c.before.before.before.before).args.h.root
root_is c =
    c.natural.ensures ∙ ap nat (read_back (start c.before.before.before.before).args.h.root c.struct_told-1.given.1.0.1)

known-requires : tie.Need-known-requires
known-requires c κs =
    let b = start c.before.before.before.before in
    omega (arith, root_is c, root_below b, b.requires.0.0)

returns : tie.Need-returns
unfolding facts_at small_enough
returns c =
    let b = start c.before.before.before.before.before in
    let n = root_is c.before in
    let p = passed c.before.before.before.before.before in
    let r = nat b.args.h.root in
    let l = root_below b in
    let k = p.known r l in
    let s = p.small r l in
    let t = schema_formula (lent_schema b.args.schema.now b.args.h) in
    let e = ap (λ (x : Facts). x.size) c.known.ensures ∙ ap (λ (m : ℕ). get_or (facts c.before.before.before.before.before) (4 * m) 0) n ∙ k.size in
    let d = ap (λ (x : Facts). x.depth) c.known.ensures ∙ ap (λ (m : ℕ). get_or (facts c.before.before.before.before.before) (4 * m + 1) 0) n ∙ k.depth in
    (e, (d, (omega (arith, e, leb-true (F.size t) 4096 (and_left _ (leb (F.depth t) 64) s)), omega (arith, d, leb-true (F.depth t) 64 (and_right (leb (F.size t) 4096) _ s)))))

pub root_facts_spec : {M : Type 1} → statement M
root_facts_spec =
    tie.close
    (tie.spec
    slice_bounds-schema_formulas-end
    schema_formulas-requires
    slice_bounds-known-end
    natural-requires
    known-requires
    returns)
