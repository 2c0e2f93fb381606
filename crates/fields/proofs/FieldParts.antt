-- What it says of a node that its fields fit.
use Prim.Native.Nat.{ℕ}
use mathlib.Core.Path.{◌≡◌, refl, sym, ◌∙◌, ap, subst}
use mathlib.Core.Bool.{Bool, true, false}
use mathlib.Core.List.{List, []}
use lib.IntN.{ℤ, pos}
use Rattle.stab.specs.Basic.{◌and◌, ◌or◌, ◌implies◌, eq_z, nat, below, has}
use Rattle.stab.specs.Node.{Tableau, node, set, rows, row_count, row, is_row}
use Rattle.stab.specs.Rule as R
use Rattle.stab.specs.Rule.{unused, entry, rule_table, rule_of, rule, of_rule, kind_fits, on_stands, symbol_fits, fields_fit}
use Rattle.stab.specs.declared.Rule.{Rule}
use Rattle.stab.proofs.Bools.{and_left, and_right}
use Rattle.stab.proofs.Trees.{below_pos}
use Rattle.stab.proofs.Whole.{eq_z_true}
use Rattle.stab.specs.Lent.{lent}
use Rattle.branch.specs.Lent.{other_fits, by_fits, link_fits, rows_fit, rest_fits, FieldsKnown}
use Rattle.stab.specs.declared.Header.{Header}
use Rattle.fields.proofs.Answers.{first_fails, second_fails, second_decides, third_decides, implies_made, implies_spared}

regroup : (a b c d e f g : Bool) → (a and b and c and d and e and f and g) ≡ (a and (b and c and d) and (e and f) and g)
unfolding ◌and◌
regroup false b c d e f g = refl
regroup true false c d e f g = refl
regroup true true false d e f g = refl
regroup true true true false e f g = refl
regroup true true true true false f g = refl
regroup true true true true true f g = refl

module _ (T : Tableau) (j : ℕ) where
  -- in the order of the code
  fields_are :
      (below 9 (node T j).rule and rows_fit T j (rule T j) and rest_fits (row_count T) (node T j) (rule T j) and (of_rule 6 (node T j) implies symbol_fits T j))
      ≡ fields_fit T j
  unfolding fields_fit rows_fit rest_fits other_fits by_fits link_fits on_stands R.other_fits R.link_fits is_row
  fields_are = sym (regroup _ _ _ _ _ _ _)

  pub no_rule : below 9 (node T j).rule ≡ false → false ≡ fields_fit T j
  no_rule h = first_fails _ _ h ∙ fields_are

  -- the number that was looked up in the table is the rule's
  pub entry_is : (R : Rule) (n : ℕ) → below 9 (node T j).rule ≡ true → n ≡ nat (node T j).rule → R ≡ rule_of (pos n) → R ≡ rule T j
  unfolding rule
  entry_is R n b e h = h ∙ ap rule_of (ap pos e ∙ below_pos 9 (node T j).rule b)

  module _ (b : below 9 (node T j).rule ≡ true) (R : Rule) (e : R ≡ rule T j) where
    by_entry :
        (below 9 (node T j).rule and rows_fit T j R and rest_fits (row_count T) (node T j) R and (of_rule 6 (node T j) implies symbol_fits T j))
        ≡ fields_fit T j
    by_entry =
        ap (λ (r : Rule). below 9 (node T j).rule and rows_fit T j r and rest_fits (row_count T) (node T j) r and (of_rule 6 (node T j) implies symbol_fits T j)) e
        ∙ fields_are

    pub rows_fail : rows_fit T j R ≡ false → false ≡ fields_fit T j
    rows_fail h = second_fails _ _ _ b h ∙ by_entry

    module _ (h : rows_fit T j R ≡ true) where
      pub rest_fails : rest_fits (row_count T) (node T j) R ≡ false → false ≡ fields_fit T j
      rest_fails l = first_fails _ _ l ∙ third_decides _ _ _ b h ∙ by_entry

      module _ (l : rest_fits (row_count T) (node T j) R ≡ true) where
        pub clash_decides : of_rule 6 (node T j) ≡ true → symbol_fits T j ≡ fields_fit T j
        clash_decides six =
            implies_made _ _ six ∙ second_decides _ _ l ∙ third_decides _ _ _ b h ∙ by_entry

        pub others_fit : of_rule 6 (node T j) ≡ false → true ≡ fields_fit T j
        others_fit six =
            implies_spared _ _ six ∙ second_decides _ _ l ∙ third_decides _ _ _ b h ∙ by_entry

  -- ---- the rows that are named

  -- a kind that is needed is the kind of the row named
  pub named : (need z : ℤ) (k : ℕ) → need ≡ pos k → kind_fits T need z ≡ true → (below (row_count T) z ≡ true) × ((row T z).kind ≡ pos k)
  unfolding kind_fits is_row eq_z unused
  named need z k e h =
      let both : (below (row_count T) z and eq_z (row T z).kind (pos k)) ≡ true = subst (λ (n : ℤ). kind_fits T n z ≡ true) e h in
      (and_left _ _ both, eq_z_true (row T z).kind (pos k) (and_right (below (row_count T) z) _ both))

  module _ (R : Rule) (h : rows_fit T j R ≡ true) where
    pub on_named : (k : ℕ) → R.on ≡ pos k → (below (row_count T) (node T j).on ≡ true) × ((row T (node T j).on).kind ≡ pos k)
    unfolding rows_fit
    on_named k e = named R.on (node T j).on k e (and_left _ _ h)

    pub with_named : (k : ℕ) → R.with ≡ pos k → (below (row_count T) (node T j).with ≡ true) × ((row T (node T j).with).kind ≡ pos k)
    unfolding rows_fit
    with_named k e =
        named R.with (node T j).with k e
        (and_right (eq_z R.on unused or has (node T j).on (set T j)) _ (and_right (kind_fits T R.on (node T j).on) _ h))

  -- the entry of a node of rule k
  pub rule_is : (k : ℕ) → of_rule k (node T j) ≡ true → rule T j ≡ rule_of (pos k)
  unfolding of_rule rule
  rule_is k h = ap rule_of (eq_z_true (node T j).rule (pos k) h)

  pub clash_rows : (R : Rule) → R ≡ rule T j → of_rule 6 (node T j) ≡ true → rows_fit T j R ≡ true → (below (row_count T) (node T j).on ≡ true) × (below (row_count T) (node T j).with ≡ true)
  unfolding rule_of rule_table entry nat
  clash_rows R e six h =
      let d = e ∙ rule_is 6 six in
      ((on_named R h 2 (ap (λ (r : Rule). r.on) d)).0, (with_named R h 3 (ap (λ (r : Rule). r.with) d)).0)

-- ---- what fields that fit say, but for sets

pub fields_known_lem : (T : Tableau) (j : ℕ) → fields_fit T j ≡ true → FieldsKnown T j
unfolding fields_fit
fields_known_lem T j h =
    let a = and_right (below 9 (node T j).rule) _ h in
    let b = and_right (kind_fits T (rule T j).on (node T j).on) _ a in
    let c = and_right (on_stands T j) _ b in
    let d = and_right (kind_fits T (rule T j).with (node T j).with) _ c in
    record {
      rule = and_left _ _ h;
      on = and_left _ _ a;
      with = and_left _ _ c;
      other = and_left _ _ d;
      link = and_left _ _ (and_right (R.other_fits T j) _ d);
    }

-- no set is looked at
pub fields_bare : (schema proof nodes members : List ℤ) (h : Header) (j : ℕ) → FieldsKnown (lent schema proof nodes members h) j → FieldsKnown (lent schema proof nodes [] h) j
unfolding node rule kind_fits is_row row_count row rows R.other_fits R.link_fits
fields_bare schema proof nodes members h j k =
    record { rule = k.rule; on = k.on; with = k.with; other = k.other; link = k.link }
