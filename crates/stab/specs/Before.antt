-- What the theorems of 02, Nos. 3 to 6 hold the older check against: the same check with a test or two of a node replaced. No entry rests on
-- these definitions, only those theorems do.
use Rattle.std.specs.Prelude.{ℕ, zero, suc, ◌≡◌, Bool, true, false, not, List, [], ◌∷◌, leb, ℤ, pos, ◌+ℤ◌, ◌-ℤ◌, if◌then◌else◌}
use Rattle.std.specs.Int.Signed.{le_z, lt_z}
use Rattle.stab.specs.Basic.{◌and◌, ◌or◌, ◌implies◌, eq_z, nat, below, all_of, ◌otherwise◌, scan}
use Rattle.stab.specs.Formula.{Row, Formula, const, lit, join, iter}
use Rattle.stab.specs.Alike.{lower, instance, eq_bool, eq_op, eq_base}
use Rattle.stab.specs.Node.{Tableau, Node, rows, row_count, row, formula, node_at, node, set, is_exact, inherited, bound}
use Rattle.stab.specs.Rule.{of_rule, drawn, fields_fit, target_fits, unfold_fits, clash_fits, bound_fits, shortened, partners_fit, lowered_fits, children_fit}
use Rattle.stab.specs.Check.{whole_unless, at_unless, formulas_refusal, set_refusal, parent_refusal, tables_hold, within_limits, enough_nodes, verdict_on}
use Rattle.stab.specs.declared.Refusal.TheVariants.{TableTooShort, TooMany, Parent, Drawn, Fields, Target, Bound, Partner, Lowered, Children}
use Rattle.stab.specs.Finding.{Verdict, Finding}

-- ---- a check by six tests

-- what 11 to 16 ask of a node
pub record Tests : Type 0 where
  pub drawn : Tableau → ℕ → Bool
  pub fields : Tableau → ℕ → Bool
  pub target : Tableau → ℕ → Bool
  pub bound : Tableau → ℕ → Bool
  pub partners : Tableau → ℕ → Bool
  pub lowered : Tableau → ℕ → Bool

unfoldable pub step_by : Tests → Tableau → ℕ → Finding
step_by t T j =
    at_unless (t.drawn T j) Drawn j otherwise
    at_unless (t.fields T j) Fields j otherwise
    at_unless (t.target T j) Target j otherwise
    at_unless (t.bound T j) Bound j otherwise
    at_unless (t.partners T j) Partner j otherwise
    at_unless (t.lowered T j) Lowered j

unfoldable pub node_by : Tests → Tableau → ℕ → Finding
node_by t T j = step_by t T j otherwise at_unless (children_fit T j) Children j

-- the older check with these tests
unfoldable pub refusal_by : Tests → Tableau → Finding
refusal_by t T =
    whole_unless (tables_hold T) TableTooShort otherwise
    whole_unless (within_limits T) TooMany otherwise
    formulas_refusal true (rows T) (row_count T) T.schema_rows T.root T.least otherwise
    scan (set_refusal T) T.node_rows otherwise
    whole_unless (enough_nodes true T) Parent otherwise
    scan (parent_refusal T) T.node_rows otherwise
    scan (node_by t T) T.node_rows

unfoldable pub check_by : Tests → Tableau → Verdict
check_by t T = verdict_on (refusal_by t T) T

-- those of the older check itself
unfoldable pub tests_now : Tests
tests_now = record { drawn = drawn; fields = fields_fit; target = target_fits; bound = bound_fits; partners = partners_fit; lowered = lowered_fits }

-- ---- after 02, No. 5 and before No. 6: a link goes to a proper ancestor, and its lower bound alone counts. What that check accepts the
-- older check accepts, with the same counts (`ancestor-links-accepted`).

unfoldable pub above_if : Bool → List ℤ → (ℕ → Bool) → ℤ → ℕ → Bool
above_if true nodes above z j = eq_z (node_at nodes j).up z or above (nat (node_at nodes j).up)
above_if false nodes above z j = false

-- z is a proper ancestor of node j, for k > j
unfoldable pub above_n : List ℤ → ℕ → ℤ → ℕ → Bool
above_n nodes zero z j = false
above_n nodes (suc k) z j = above_if (below j (node_at nodes j).up) nodes (above_n nodes k z) z j

-- z is the parent of node j, or its parent's parent, and so on
unfoldable pub is_ancestor : List ℤ → ℤ → ℕ → Bool
is_ancestor nodes z j = above_n nodes (suc j) z j

-- the same as a plain statement, where each parent has a smaller number: node i is a proper ancestor of node j
pub data Ancestor (nodes : List ℤ) (i : ℕ) : ℕ → Type 0 where
  parent : {j : ℕ} → (node_at nodes j).up ≡ pos i → Ancestor nodes i j
  further : {j k : ℕ} → (node_at nodes j).up ≡ pos k → Ancestor nodes i k → Ancestor nodes i j

-- 13: "to is a proper ancestor"
unfoldable pub target_above : Tableau → ℕ → Bool
target_above T j = of_rule 8 (node T j) implies is_ancestor T.nodes (node T j).to j

-- 14: "A link to a bounded ancestor needs L - k at or above that ancestor's L."
unfoldable pub loop_above : ℕ → ℕ → ℤ → Bool
loop_above L A k = le_z (pos A) (pos L -ℤ k)

-- 14 of a link is that, of any other rule it is the check's
unfoldable pub bound_above : Tableau → ℕ → Bool
bound_above T j =
    if of_rule 8 (node T j) then loop_above (bound T j).L (bound T (nat (node T j).to)).L (node T j).by else bound_fits T j

unfoldable pub tests_above : Tests
tests_above = record { drawn = drawn; fields = fields_fit; target = target_above; bound = bound_above; partners = partners_fit; lowered = lowered_fits }

-- ---- with the test put back that 02, No. 3 takes out of document 01's rule 8: "to is a proper ancestor, open". In 01 a node that is not
-- open is exact, and so it is read here: since No. 5 an ancestor may have an upper bound, and only L = H is excluded. That check gives the
-- same verdict as without the test, whatever the tableau (`open-needless`).

-- the target of a link is not exact
unfoldable pub target_open : Tableau → ℕ → Bool
target_open T j = of_rule 8 (node T j) implies not (is_exact (bound T (nat (node T j).to)))

unfoldable pub bound_open : Tableau → ℕ → Bool
bound_open T j = bound_above T j and target_open T j

unfoldable pub tests_open : Tests
tests_open = record { drawn = drawn; fields = fields_fit; target = target_above; bound = bound_open; partners = partners_fit; lowered = lowered_fits }

-- ---- after 02, No. 4 and before No. 5: a node knows n ≥ L or n = L, and a split takes away one value. Where each split's by is 0 the
-- check after No. 5, with links to proper ancestors, gives the same verdict (`stored-as-before`).

-- 01: "Each node knows n ≥ L (open) or n = L (exact)."
pub record OpenOrExact : Type 0 where
  pub exact : Bool
  pub L : ℕ

-- under rule 2 "the first child is exact with L, the second open with L + 1"
unfoldable pub split_one : OpenOrExact → ℕ → OpenOrExact
split_one B zero = record { exact = true; L = B.L }
split_one B (suc k) = record { exact = false; L = suc B.L }

-- "A child has its parent's bound, except under rule 2."
unfoldable pub child_one : Node → OpenOrExact → ℕ → OpenOrExact
child_one w B k = if eq_z w.rule (pos 2) then split_one B k else B

-- "Node 0 is open with the least value."
unfoldable pub first_one : ℤ → OpenOrExact
first_one least = record { exact = false; L = nat least }

unfoldable pub bound_one : Tableau → ℕ → OpenOrExact
bound_one T j = inherited (first_one T.least) child_one T.nodes j

-- 12: "Unused fields are -1, and by is 0.", of a split too
unfoldable pub fields_fit_one : Tableau → ℕ → Bool
fields_fit_one T j = fields_fit T j and (of_rule 2 (node T j) implies eq_z (node T j).by (pos 0))

-- 14 of a split: "The node is open, L ≤ 9998"
unfoldable pub split_fits_one : OpenOrExact → Bool
split_fits_one B = not B.exact and leb B.L 9998

-- 14 of void: "exact, L < b + c"
unfoldable pub void_fits_one : OpenOrExact → Row → Bool
void_fits_one B w = B.exact and lt_z (pos B.L) (w.b +ℤ w.c)

unfoldable pub bound_fits_one : Tableau → ℕ → Bool
bound_fits_one T j =
    (of_rule 2 (node T j) implies split_fits_one (bound_one T j)) and
    (of_rule 3 (node T j) or of_rule 4 (node T j) implies unfold_fits (bound_one T j).L (row T (node T j).on)) and
    (of_rule 6 (node T j) implies clash_fits (bound_one T j).exact (bound_one T j).L (row T (node T j).on) (row T (node T j).with)) and
    (of_rule 7 (node T j) implies void_fits_one (bound_one T j) (row T (node T j).on)) and
    (of_rule 8 (node T j) implies loop_above (bound_one T j).L (bound_one T (nat (node T j).to)).L (node T j).by)

unfoldable pub tests_one : Tests
tests_one = record { drawn = drawn; fields = fields_fit_one; target = target_above; bound = bound_fits_one; partners = partners_fit; lowered = lowered_fits }

-- ---- with formulas compared as before 02, No. 4: with sides in order, by document 01's "agree in shape and in all numbers"; all else is
-- the older check's. What that check accepts the older check accepts, with the same counts (`in-order-accepted`).

-- two formulas "agree in shape and in all numbers": "found by going down the two formulas side by side"
unfoldable pub agree : Formula → Formula → Bool
agree (const v) (const w) = eq_bool v w
agree (const v) (lit w t y d) = false
agree (const v) (join p h k) = false
agree (const v) (iter p h b d) = false
agree (lit v s x c) (const w) = false
agree (lit v s x c) (lit w t y d) = eq_bool v w and eq_z s t and eq_base x y and eq_z c d
agree (lit v s x c) (join p h k) = false
agree (lit v s x c) (iter p h b d) = false
agree (join o f g) (const w) = false
agree (join o f g) (lit w t y d) = false
agree (join o f g) (join p h k) = eq_op o p and agree f h and agree g k
agree (join o f g) (iter p h b d) = false
agree (iter o f b c) (const w) = false
agree (iter o f b c) (lit w t y d) = false
agree (iter o f b c) (join p h k) = false
agree (iter o f b c) (iter p h d e) = eq_op o p and agree f h and eq_z b d and eq_z c e

-- 15: "other is the body's instance at n - c"
unfoldable pub partners_in_order : Tableau → ℕ → Bool
partners_in_order T j =
    of_rule 3 (node T j) or of_rule 4 (node T j) implies
    shortened (row T (node T j).on) (row T (node T j).with) and
    agree (instance (row T (node T j).on).c (formula T (row T (node T j).on).a)) (formula T (node T j).other)

-- 16: row z, lowered by k, stands in the set
unfoldable pub has_lowered_in_order : Tableau → ℤ → List ℤ → ℤ → Bool
has_lowered_in_order T k [] z = false
has_lowered_in_order T k (x ∷ xs) z = agree (lower k (formula T z)) (formula T x) or has_lowered_in_order T k xs z

unfoldable pub lowered_in_order : Tableau → ℕ → Bool
lowered_in_order T j =
    of_rule 8 (node T j) implies all_of (has_lowered_in_order T (node T j).by (set T j)) (set T (nat (node T j).to))

unfoldable pub tests_in_order : Tests
tests_in_order = record { drawn = drawn; fields = fields_fit; target = target_fits; bound = bound_fits; partners = partners_in_order; lowered = lowered_in_order }
