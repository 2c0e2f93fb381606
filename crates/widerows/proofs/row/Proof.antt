use native.Mathlib.Omega.{arith}
use Prim.Native.Nat.{◌<◌}
use mathlib.Core.Path.{◌≡◌, refl, sym, ◌∙◌, ap, subst}
use lib.IntN.{pos}
use borrow.Author.Rules.{rules}
use Rattle.stab.specs.Formula.{Row, formula_rows, Kind, kind_of}
use Rattle.wide.specs.WideFormula.{plain, wide_kind_of}
use Rattle.signed.proofs.Signs.{read_back}
use Rattle.formula.specs.Cells.{row_of}
use Rattle.formula.specs.Rows.{constant_judged, literal_judged, pair_judged, body_judged}
use Rattle.formula.proofs.RowLaws.{constant_judged_lem, literal_judged_lem, constant_kind, literal_kind, junction_kind, iteration_kind}
use Rattle.widerows.specs.WideRows.{not_judged}
use Rattle.widerows.proofs.WideLaws.{plain_kind, no_kind, negation_kind, kind_of_plain, TwoKind, joining, two_kind, constant_same, literal_same, no_kind_ill, pair_judged_lem, body_judged_lem, not_judged_lem, passed_sums}
use Rattle.widerows.proofs.row.Statement.{statement}
use Rattle.widerows.proofs.row.Tie as tie

-- where the row's columns are read, and its kind is known
abbrev start : tie.After-kind_of-k → tie.Start
start c = c.before.before.before.before

abbrev columns : tie.After-kind_of-k → Row
columns c = let a = (start c).args in formula_rows a.schema.now a.s a.proof.now a.r

known_kind : (c : tie.After-kind_of-k) → wide_kind_of (pos c.kind_of-k.result) ≡ wide_kind_of (columns c).kind
unfolding row_of
known_kind c =
    let w = c.of_row-w in
    rw (read_back w.result.kind c.struct_told-1.given.0.1) at c.kind_of-k.ensures
    ∙ ap (λ (u : Row). wide_kind_of u.kind) w.ensures

-- the row's kind, where its number is below 8
kind_is : (c : tie.After-kind_of-k) (k : Kind) → c.kind_of-k.result < 8 → kind_of (pos c.kind_of-k.result) ≡ k → wide_kind_of (columns c).kind ≡ plain k
kind_is c k l h = sym (known_kind c) ∙ plain_kind c.kind_of-k.result l ∙ ap plain h

of_row-w-requires : tie.Need-of_row-w-requires
of_row-w-requires c κs = search rules

kind_of-k-requires : tie.Need-kind_of-k-requires
kind_of-k-requires c κs = search rules

constant-requires : tie.Need-constant-requires
constant-requires c κs = search rules

returns-then-k-lt2 : tie.Need-returns-then-k-lt2
returns-then-k-lt2 c =
    let k = constant_kind c.kind_of-k.result c.if-k-lt2.true in
    let e = kind_is c.before.before _ (omega arith) k.1 in
    c.constant.ensures
    ∙ ap constant_judged c.of_row-w.ensures
    ∙ constant_judged_lem _ _ k.0 (kind_of_plain _ _ e)
    ∙ constant_same _ _ k.0 e

literal-requires : tie.Need-literal-requires
literal-requires c κs = search rules

returns-then-k-lt4 : tie.Need-returns-then-k-lt4
returns-then-k-lt4 c =
    let k = literal_kind c.kind_of-k.result c.if-k-lt2.false c.if-k-lt4.true in
    let e = kind_is c.before.before.before _ (omega arith) k.1 in
    c.literal.ensures
    ∙ ap literal_judged c.of_row-w.ensures
    ∙ literal_judged_lem _ _ k.0 (kind_of_plain _ _ e)
    ∙ literal_same _ _ k.0 e

junction-requires : tie.Need-junction-requires
junction-requires c κs = (search rules, passed_sums (start c.before.before.before).requires.1)

returns-then-k-lt6 : tie.Need-returns-then-k-lt6
returns-then-k-lt6 c =
    let k = junction_kind c.kind_of-k.result c.if-k-lt4.false c.if-k-lt6.true in
    c.junction.ensures
    ∙ ap (λ (u : Row). pair_judged (start c.before.before.before.before).args.r u (start c.before.before.before.before).args.facts.now) c.of_row-w.ensures
    ∙ pair_judged_lem _ _ _ (start c.before.before.before.before).requires.1 (joining k.0) (kind_is c.before.before.before.before _ (omega arith) k.1)

iteration-requires : tie.Need-iteration-requires
iteration-requires c κs = (search rules, passed_sums (start c.before.before.before.before).requires.1)

returns-then-k-lt8 : tie.Need-returns-then-k-lt8
returns-then-k-lt8 c =
    let k = iteration_kind c.kind_of-k.result c.if-k-lt6.false c.if-k-lt8.true in
    c.iteration.ensures
    ∙ ap (λ (u : Row). body_judged (start c.before.before.before.before.before).args.r u (start c.before.before.before.before.before).args.facts.now) c.of_row-w.ensures
    ∙ body_judged_lem _ _ _ (start c.before.before.before.before.before).requires.1 k.0 (kind_is c.before.before.before.before.before _ (omega arith) k.1)

negation-requires : tie.Need-negation-requires
negation-requires c κs = (search rules, passed_sums (start c.before.before.before.before.before).requires.1)

returns-then-k-lt9 : tie.Need-returns-then-k-lt9
returns-then-k-lt9 c =
    c.negation.ensures
    ∙ ap (λ (u : Row). not_judged (start c.before.before.before.before.before.before).args.r u (start c.before.before.before.before.before.before).args.facts.now) c.of_row-w.ensures
    ∙ not_judged_lem _ _ _ (start c.before.before.before.before.before.before).requires.1 (sym (known_kind c.before.before.before.before.before.before) ∙ negation_kind c.kind_of-k.result c.if-k-lt8.false c.if-k-lt9.true)

junction-requires-then-k-lt12 : tie.Need-junction-requires-then-k-lt12
junction-requires-then-k-lt12 c κs = (search rules, passed_sums (start c.before.before.before.before.before.before).requires.1)

returns-then-k-lt12 : tie.Need-returns-then-k-lt12
returns-then-k-lt12 c =
    c.junction-then-k-lt12.ensures
    ∙ ap (λ (u : Row). pair_judged (start c.before.before.before.before.before.before.before).args.r u (start c.before.before.before.before.before.before.before).args.facts.now) c.of_row-w.ensures
    ∙ pair_judged_lem _ _ _ (start c.before.before.before.before.before.before.before).requires.1 (subst TwoKind (known_kind c.before.before.before.before.before.before.before) (two_kind c.kind_of-k.result c.if-k-lt9.false c.if-k-lt12.true)) refl

returns : tie.Need-returns
returns c =
    no_kind_ill _ _ (sym (known_kind c.before.before.before.before.before.before) ∙ no_kind c.kind_of-k.result c.if-k-lt12.false)

pub row_spec : {M : Type 1} → statement M
row_spec =
    tie.close
    (tie.spec
    of_row-w-requires
    kind_of-k-requires
    constant-requires
    returns-then-k-lt2
    literal-requires
    returns-then-k-lt4
    junction-requires
    returns-then-k-lt6
    iteration-requires
    returns-then-k-lt8
    negation-requires
    returns-then-k-lt9
    junction-requires-then-k-lt12
    returns-then-k-lt12
    returns)
