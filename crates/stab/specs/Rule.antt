-- 01, "The rules"; 02, Nos. 3 to 7.
use Rattle.std.specs.Prelude.{ℕ, zero, suc, Bool, leb, eqb, ℤ, pos, neg_ℤ, ◌+ℤ◌, ◌-ℤ◌, get_or, if◌then◌else◌}
use Rattle.std.proofs.Math.Bool.{true, false}
use mathlib.Core.List.{List, [], ◌∷◌}
use Rattle.std.proofs.Math.Option.{Option, none, some}
use Rattle.std.specs.Int.Signed.{le_z, lt_z}
use Rattle.stab.specs.Basic.{◌and◌, ◌or◌, ◌implies◌, eq_z, nat, below, has, all_of}
use Rattle.stab.specs.Formula.{Row, base_of}
use Rattle.stab.specs.Meaning.{base}
use Rattle.stab.specs.Alike.{lower, instance, alike}
use Rattle.stab.specs.Node.{Tableau, Node, Bound, row, formula, is_row, node, set, is_exact, split_at, bound, rank, child_count}
use Rattle.stab.specs.declared.Rule.{Rule}

-- ---- the table

-- what an unused field holds
unfoldable pub unused : ℤ
unused = neg_ℤ (pos 1)

unfoldable pub entry : ℤ → ℤ → Bool → Bool → Bool → ℕ → Rule
entry on with other link split children = record { on = on; with = with; other = other; link = link; split = split; children = children }

-- "The table below says what each rule uses.": kind of on, kind of with, other, to and by, by alone ("A split names K in by"), children
unfoldable pub rule_table : List Rule
rule_table =
    -- 0 and, 1 or, 2 split
    entry (pos 4) unused false false false 1 ∷
    entry (pos 5) unused false false false 2 ∷
    entry unused unused false false true 2 ∷
    -- 3 unfold and, 4 unfold or
    entry (pos 6) (pos 6) true false false 1 ∷
    entry (pos 7) (pos 7) true false false 2 ∷
    -- 5 false, 6 clash, 7 void, 8 loop
    entry (pos 1) unused false false false 0 ∷
    entry (pos 2) (pos 3) false false false 0 ∷
    entry (pos 7) unused false false false 0 ∷
    entry unused unused false true false 0 ∷ []

-- the table's entry for a rule's number
unfoldable pub rule_of : ℤ → Rule
rule_of z = get_or rule_table (nat z) (entry unused unused false false false 0)

-- node j's entry
unfoldable pub rule : Tableau → ℕ → Rule
rule T j = rule_of (node T j).rule

-- node w is of the rule with number k
unfoldable pub of_rule : ℕ → Node → Bool
of_rule k w = eq_z w.rule (pos k)

-- ---- what a child's set is drawn from: refusal 11

-- "for the first child", "for the second"
unfoldable pub one_of : ℤ → ℤ → ℕ → List ℤ
one_of first second zero = first ∷ []
one_of first second (suc k) = second ∷ []

-- the rows that the rule of node w gives to its child of rank k
unfoldable pub given : Tableau → Node → ℕ → List ℤ
given T w k =
    -- "0: both parts."
    if of_rule 0 w then (row T w.on).a ∷ (row T w.on).b ∷ [] else
    -- "1: the left part for the first child, the right for the second."
    if of_rule 1 w then one_of (row T w.on).a (row T w.on).b k else
    -- "Rule 3's child gets both; rule 4's first child with, its second other."
    if of_rule 3 w then w.with ∷ w.other ∷ [] else
    if of_rule 4 w then one_of w.with w.other k else
    []

-- "A child's set is drawn from its parent's set and" what the rule gives: from the set and the rule of node p, for a child of rank k
unfoldable pub drawn_from : Tableau → ℕ → ℕ → ℤ → Bool
drawn_from T p k z = has z (set T p) or has z (given T (node T p) k)

-- the set of node j, for a child of rank k of node p
abbrev pub all_drawn : Tableau → ℕ → ℕ → ℕ → Bool
all_drawn T p k j = all_of (drawn_from T p k) (set T j)

-- "A child may leave formulas out, never add one that its rule doesn't give."
unfoldable pub drawn : Tableau → ℕ → Bool
drawn T zero = true
drawn T (suc i) = all_drawn T (nat (node T (suc i)).up) (rank T.nodes (suc i)) (suc i)

-- ---- fields: refusal 12

-- a field for which the table has no kind is unused; any other names a row of that kind
unfoldable pub kind_fits : Tableau → ℤ → ℤ → Bool
kind_fits T need z = if eq_z need unused then eq_z z unused else is_row T z and eq_z (row T z).kind need

-- "on stands in the node's set."
unfoldable pub on_stands : Tableau → ℕ → Bool
on_stands T j = eq_z (rule T j).on unused or has (node T j).on (set T j)

unfoldable pub other_fits : Tableau → ℕ → Bool
other_fits T j = if (rule T j).other then is_row T (node T j).other else eq_z (node T j).other unused

-- "Unused fields are -1, and by is 0."; of a loop "by = k ≥ 1"; "A split's negative by gives 12."
unfoldable pub link_fits : Tableau → ℕ → Bool
link_fits T j =
    if (rule T j).link then le_z (pos 1) (node T j).by else
    eq_z (node T j).to unused and
    (if (rule T j).split then le_z (pos 0) (node T j).by else eq_z (node T j).by (pos 0))

-- of a clash "with is in the set; same symbol"
unfoldable pub symbol_fits : Tableau → ℕ → Bool
symbol_fits T j = has (node T j).with (set T j) and eq_z (row T (node T j).on).a (row T (node T j).with).a

-- "no such rule, an unused field filled, on, with or other no row, a kind the table names, a symbol, by, or a row not in the set"
unfoldable pub fields_fit : Tableau → ℕ → Bool
fields_fit T j =
    below 9 (node T j).rule and
    kind_fits T (rule T j).on (node T j).on and
    on_stands T j and
    kind_fits T (rule T j).with (node T j).with and
    other_fits T j and
    link_fits T j and
    (of_rule 6 (node T j) implies symbol_fits T j)

-- ---- the target of a loop: refusal 13

-- 02, No. 6: 01's "proper ancestor" becomes "any node with a smaller number"
unfoldable pub target_fits : Tableau → ℕ → Bool
target_fits T j = of_rule 8 (node T j) implies below j (node T j).to

-- ---- bounds and the index of a clash: refusal 14

-- "K lies between L and H - 1, or between L and 9998 at an open node": the upper end of it
unfoldable pub stays_below : Option ℕ → ℕ → Bool
stays_below none K = leb K 9998
stays_below (some H) K = le_z (pos K) (pos H -ℤ pos 1)

unfoldable pub split_fits : Bound → ℕ → Bool
split_fits B K = leb B.L K and stays_below B.H K

-- "L ≥ b + c"
unfoldable pub unfold_fits : ℕ → Row → Bool
unfold_fits L w = le_z (w.b +ℤ w.c) (pos L)

-- the index that an outer literal names at n
unfoldable pub index_at : ℕ → Row → ℤ
index_at n w = base n (pos 0) (base_of w.b) +ℤ w.c

-- "same index: b and c equal, or the node exact and the values equal"; "a clash by value needs L = H"
unfoldable pub clash_fits : Bool → ℕ → Row → Row → Bool
clash_fits exact L v w = eq_z v.b w.b and eq_z v.c w.c or exact and eq_z (index_at L v) (index_at L w)

-- "Void needs H < b + c"
unfoldable pub void_fits : Option ℕ → Row → Bool
void_fits none w = false
void_fits (some H) w = lt_z (pos H) (w.b +ℤ w.c)

-- "if the target has an upper bound, the leaf has one too and H - k is at or below the target's H": for the leaf's and the target's
unfoldable pub upper_fits : Option ℕ → Option ℕ → ℤ → Bool
upper_fits leaf none k = true
upper_fits none (some A) k = false
upper_fits (some H) (some A) k = le_z (pos H -ℤ k) (pos A)

-- "Both bounds now count: L - k is at or above the target's L", for a leaf with bound B and a target with bound A
unfoldable pub loop_fits : Bound → Bound → ℤ → Bool
loop_fits B A k = le_z (pos A.L) (pos B.L -ℤ k) and upper_fits B.H A.H k

unfoldable pub bound_fits : Tableau → ℕ → Bool
bound_fits T j =
    (of_rule 2 (node T j) implies split_fits (bound T j) (split_at (bound T j).L (node T j).by)) and
    (of_rule 3 (node T j) or of_rule 4 (node T j) implies unfold_fits (bound T j).L (row T (node T j).on)) and
    (of_rule 6 (node T j) implies clash_fits (is_exact (bound T j)) (bound T j).L (row T (node T j).on) (row T (node T j).with)) and
    (of_rule 7 (node T j) implies void_fits (bound T j).H (row T (node T j).on)) and
    (of_rule 8 (node T j) implies loop_fits (bound T j) (bound T (nat (node T j).to)) (node T j).by)

-- ---- with and other of an unfolding: refusal 15

-- "with is the same kind, body number and b, with c + 1": for on and with as rows; the kinds are the table's
unfoldable pub shortened : Row → Row → Bool
shortened on with = eq_z with.a on.a and eq_z with.b on.b and eq_z with.c (on.c +ℤ pos 1)

-- "other is the body's instance at n - c", up to the order of sides
unfoldable pub is_instance : Tableau → Row → ℤ → Bool
is_instance T on z = alike (instance on.c (formula T on.a)) (formula T z)

unfoldable pub partners_fit : Tableau → ℕ → Bool
partners_fit T j =
    of_rule 3 (node T j) or of_rule 4 (node T j) implies
    shortened (row T (node T j).on) (row T (node T j).with) and is_instance T (row T (node T j).on) (node T j).other

-- ---- the lowered rows of a loop: refusal 16

-- row x is row z lowered by k, up to the order of sides
unfoldable pub is_lowered : Tableau → ℤ → ℤ → ℤ → Bool
is_lowered T k z x = alike (lower k (formula T z)) (formula T x)

-- row z, lowered by k, stands in the set
unfoldable pub has_lowered : Tableau → ℤ → List ℤ → ℤ → Bool
has_lowered T k [] z = false
has_lowered T k (x ∷ xs) z = is_lowered T k z x or has_lowered T k xs z

-- row z, lowered by k, stands in the set of node j
abbrev pub has_lowered_in : Tableau → ℤ → ℕ → ℤ → Bool
has_lowered_in T k j = has_lowered T k (set T j)

-- each row of the set of node i, lowered by k, stands in the set of node j
abbrev pub all_lowered : Tableau → ℤ → ℕ → ℕ → Bool
all_lowered T k i j = all_of (has_lowered_in T k j) (set T i)

-- "each row of the ancestor's set, lowered by k, stands in this set", of which 02, No. 6: "16 compares with that node's set"
unfoldable pub lowered_fits : Tableau → ℕ → Bool
lowered_fits T j = of_rule 8 (node T j) implies all_lowered T (node T j).by (nat (node T j).to) j

-- ---- the number of children: refusal 17

-- "17 number of children", by the table's last column
unfoldable pub children_fit : Tableau → ℕ → Bool
children_fit T j = eqb (child_count T j) (rule T j).children

-- 02, No. 7: "missing children aside", no child beyond the number that the rule has
unfoldable pub children_held : Tableau → ℕ → Bool
children_held T j = leb (child_count T j) (rule T j).children

-- just as many in a whole record; among rows that are held some may be missing
unfoldable pub children_as : Bool → Tableau → ℕ → Bool
children_as true T j = children_fit T j
children_as false T j = children_held T j
