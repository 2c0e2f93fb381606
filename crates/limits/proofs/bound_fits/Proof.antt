use borrow.Author.Rules.{rules}
use native.Mathlib.Omega.{arith}
use mathlib.Core.Path.{◌≡◌, sym, ◌∙◌, ap, ap₂}
use mathlib.Core.List.{[]}
use lib.IntN.{pos}
use Rattle.stab.specs.Basic.{nat}
use Rattle.stab.specs.Node.{Tableau, Bound, node, is_exact, split_at, bound, row, rows, row_count}
use Rattle.stab.specs.Rule.{split_fits, unfold_fits, clash_fits, void_fits, loop_fits}
use Rattle.stab.proofs.Trees.{below_pos}
use Rattle.stab.specs.Lent.{lent}
use Rattle.branch.specs.Lent.{bounded}
use Rattle.limits.proofs.BoundSteps.{bound_kept, split_asked, unfold_asked, clash_asked, void_asked, loop_asked, none_asked, unfold_on, void_on, clash_on, clash_with, by_natural}
use Rattle.stab.specs.Rule.{of_rule}
use Rattle.stab.proofs.Whole.{eq_z_of}
use Rattle.limits.proofs.bound_fits.Statement.{statement}
use Rattle.limits.proofs.bound_fits.Tie as tie

abbrev Lent : tie.Start → Tableau
Lent s = lent s.args.schema.now s.args.proof.now s.args.nodes.now [] s.args.h

-- where the rule's number has been read
abbrev Begin : tie.After-natural_of → tie.Start
Begin c = c.before.before.before.before.before.before

numbered : (c : tie.After-natural_of) → (node (Lent (Begin c)) (Begin c).args.j).rule ≡ pos c.natural_of.result
unfolding node
numbered c = sym (ap pos c.natural_of.ensures.0 ∙ below_pos 9 _ (Begin c).requires.1.0.rule)

-- the bound that has been read is the node's
bound_read : (c : tie.After-natural_of) → bounded c.kept_at-top.result c.kept_at-l.result ≡ bound (Lent (Begin c)) (Begin c).args.j
unfolding bound
bound_read c =
    let s = Begin c in
    ap₂ bounded c.kept_at-top.ensures.0 c.kept_at-l.ensures.0
    ∙ bound_kept _ _ _ _ s.args.j (s.requires.1.1.1.0 s.args.j s.requires.0.0)

overflow_mul-j : tie.Need-overflow_mul-j
overflow_mul-j c = search rules

overflow_add-j : tie.Need-overflow_add-j
overflow_add-j c = search rules

kept_at-l-requires : tie.Need-kept_at-l-requires
kept_at-l-requires c κs = search rules

overflow_mul-j-2 : tie.Need-overflow_mul-j-2
overflow_mul-j-2 c = search rules

overflow_add-j-2 : tie.Need-overflow_add-j-2
overflow_add-j-2 c = search rules

kept_at-top-requires : tie.Need-kept_at-top-requires
kept_at-top-requires c κs = search rules

natural_of-on-requires : tie.Need-natural_of-on-requires
natural_of-on-requires c κs = search rules

natural_of-with-requires : tie.Need-natural_of-with-requires
natural_of-with-requires c κs = search rules

natural_of-requires : tie.Need-natural_of-requires
natural_of-requires c κs = search rules

split_fits-requires : tie.Need-split_fits-requires
split_fits-requires c κs = search rules

is_exact-requires : tie.Need-is_exact-requires
is_exact-requires c κs = c.kept_at-l.ensures.1

clash_fits-requires : tie.Need-clash_fits-requires
unfolding row rows row_count node
clash_fits-requires c κs =
    let p = clash_on (Lent (Begin c.before.before)) _ _ (numbered c.before.before) (Begin c.before.before).requires.1.0 (Begin c.before.before).requires.1.1.0 c.in-6.is in
    let q = clash_with (Lent (Begin c.before.before)) _ _ (numbered c.before.before) (Begin c.before.before).requires.1.0 (Begin c.before.before).requires.1.1.0 c.in-6.is in
    rw (c.natural_of-on.ensures.0, c.natural_of-with.ensures.0)
    ((omega (arith, p.0), omega (arith, q.0), c.kept_at-l.ensures.1), (p.1, q.1))

void_fits-requires : tie.Need-void_fits-requires
unfolding row rows row_count node
void_fits-requires c κs =
    let p = void_on (Lent (Begin c.before)) _ _ (numbered c.before) (Begin c.before).requires.1.0 (Begin c.before).requires.1.1.0 c.in-7.is in
    rw c.natural_of-on.ensures.0
    ((omega (arith, p.0), c.kept_at-top.ensures.1), (p.1, p.2))

target_allows-requires : tie.Need-target_allows-requires
target_allows-requires c κs = search rules

reaches-requires : tie.Need-reaches-requires
unfolding row rows row_count node
reaches-requires c κs =
    let p = unfold_on (Lent (Begin c.before)) _ _ (numbered c.before) (Begin c.before).requires.1.0 (Begin c.before).requires.1.1.0 (omega arith) c.in-3.if-this-lt5-own.true in
    rw c.natural_of-on.ensures.0
    ((omega (arith, p.0), c.kept_at-l.ensures.1), (p.1, p.2))

returns-in-2 : tie.Need-returns-in-2
unfolding node
returns-in-2 c =
    c.split_fits.ensures
    ∙ ap (λ (B : Bound). split_fits B (split_at B.L (node (Lent (Begin c.before.before)) (Begin c.before.before).args.j).by)) (bound_read c.before.before)
    ∙ split_asked (Lent (Begin c.before.before)) _ _ (numbered c.before.before) c.in-2.is

returns-in-6 : tie.Need-returns-in-6
unfolding row rows node
returns-in-6 c =
    let on = row (Lent (Begin c.before.before.before)) (node (Lent (Begin c.before.before.before)) (Begin c.before.before.before).args.j).on in
    let with = row (Lent (Begin c.before.before.before)) (node (Lent (Begin c.before.before.before)) (Begin c.before.before.before).args.j).with in
    c.clash_fits.ensures
    ∙ rw (c.natural_of-on.ensures.0, c.natural_of-with.ensures.0, c.is_exact.ensures)
    (ap (λ (B : Bound). clash_fits (is_exact B) B.L on with) (bound_read c.before.before.before)
    ∙ clash_asked (Lent (Begin c.before.before.before)) _ _ (numbered c.before.before.before) c.in-6.is)

returns-in-7 : tie.Need-returns-in-7
unfolding row rows node
returns-in-7 c =
    c.void_fits.ensures
    ∙ rw c.natural_of-on.ensures.0
    (ap (λ (B : Bound). void_fits B.H (row (Lent (Begin c.before.before)) (node (Lent (Begin c.before.before)) (Begin c.before.before).args.j).on)) (bound_read c.before.before)
    ∙ void_asked (Lent (Begin c.before.before)) _ _ (numbered c.before.before) c.in-7.is)

returns-in-8 : tie.Need-returns-in-8
unfolding node rows row_count bound of_rule
returns-in-8 c =
    let s = Begin c.before.before in
    let l = s.requires.1.1.1.1 (eq_z_of _ _ (numbered c.before.before ∙ ap pos c.in-8.is)) in
    c.target_allows.ensures
    ∙ ap₂ (λ (B A : Bound). loop_fits B A (pos (nat (node (Lent s) s.args.j).by)))
    (bound_read c.before.before)
    (bound_kept _ _ _ _ (nat (node (Lent s) s.args.j).to) (s.requires.1.1.1.0 _ (omega (arith, l, s.requires.0.0))))
    ∙ ap (loop_fits (bound (Lent s) s.args.j) (bound (Lent s) (nat (node (Lent s) s.args.j).to))) (by_natural (Lent s) _ _ (numbered c.before.before) s.requires.1.0 s.requires.1.1.0 c.in-8.is)
    ∙ loop_asked (Lent s) _ _ (numbered c.before.before) c.in-8.is

returns-in-3 : tie.Need-returns-in-3
unfolding row rows node unfold_fits
returns-in-3 c =
    c.reaches.ensures
    ∙ rw c.natural_of-on.ensures.0
    (ap (λ (B : Bound). unfold_fits B.L (row (Lent (Begin c.before.before)) (node (Lent (Begin c.before.before)) (Begin c.before.before).args.j).on)) (bound_read c.before.before)
    ∙ unfold_asked (Lent (Begin c.before.before)) _ _ (numbered c.before.before) (omega arith) c.in-3.if-this-lt5-own.true)

returns-in_default : tie.Need-returns-in_default
returns-in_default c =
    none_asked (Lent (Begin c.before)) _ _ (numbered c.before) (omega arith) (omega arith) (omega arith) (omega arith) (omega arith) (omega arith)

returns-in_default-2 : tie.Need-returns-in_default-2
returns-in_default-2 c =
    none_asked (Lent (Begin c.before)) _ _ (numbered c.before) (omega arith) (omega arith) (omega arith) (omega arith) (omega arith) (omega arith)

pub bound_fits_spec : {M : Type 1} → statement M
bound_fits_spec =
    tie.close
    (tie.spec
    overflow_mul-j
    overflow_add-j
    kept_at-l-requires
    overflow_mul-j-2
    overflow_add-j-2
    kept_at-top-requires
    natural_of-on-requires
    natural_of-with-requires
    natural_of-requires
    split_fits-requires
    is_exact-requires
    clash_fits-requires
    void_fits-requires
    target_allows-requires
    reaches-requires
    returns-in-2
    returns-in-6
    returns-in-7
    returns-in-8
    returns-in-3
    returns-in_default
    returns-in_default-2)
