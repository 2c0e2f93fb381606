-- One proof row folded: what is kept before it and after it.
use Prim.Native.Nat.{ℕ, zero, suc, ◌+◌, ◌*◌, ◌<◌, ◌≤◌}
use native.Mathlib.Omega.{arith}
use native.Mathlib.Numerals.{add-one}
use mathlib.Core.Path.{◌≡◌, refl, sym, ◌∙◌, ap, subst}
use mathlib.Core.Logic.{⊎_elim}
use mathlib.Core.List.{List, [], ◌∷◌, ◌++◌}
use mathlib.Core.Option.{Option, none, some}
use lib.Dec.{eqb}
use lib.IntN.{ℤ}
use lib.ListN.{length, get_or, take, set, replicate, length-append, length-set}
use lib.Seq.{sets, get_or-set_same, get_or-set_other}
use borrow.Author.Tests.{eqb-true, eqb-false}
use Rattle.stab.specs.Formula.{Row, row_at, formula_rows}
use Rattle.stab.specs.Text.{padded}
use Rattle.stab.proofs.Bools.{decide}
use Rattle.repeats.specs.Places.{Linked}
use Rattle.tidied.specs.Tidied.{renumbered, columns, Folding, new_number, earliest, folded_into, fold_row, fold_next, folding}
use Rattle.folds.specs.Folds.{row_or, AllSmall, Folds}
use Rattle.folds.proofs.Numbers.{get_d_zeros, new_padded, padded_empty, padded_more}
use Rattle.folds.proofs.Earlier.{was_found, none_found, found_small, earliest_agree, linked_agree}
use Rattle.folds.proofs.Fronts.{formula_rows_front, put_front, put_more, put_row_lem}

-- ---- how much k rows come to

pub record Counted (F : Folding) (k : ℕ) : Type 0 where
  pub numbered : length F.numbers ≡ k
  pub few : F.count ≤ k

counted_into : (s k : ℕ) (F : Folding) (w : Row) (x : Option ℕ) → Counted F k → Counted (folded_into s F w x) (suc k)
unfolding folded_into
counted_into s k F w none c =
    record { numbered = omega (arith, length-append F.numbers ((s + F.count) ∷ []), c.numbered); few = omega (arith, c.few) }
counted_into s k F w (some q) c =
    record { numbered = omega (arith, length-append F.numbers (q ∷ []), c.numbered); few = omega (arith, c.few) }

pub counted : (schema : List ℤ) (s : ℕ) (proof : List ℤ) (k : ℕ) → Counted (folding schema s proof k) k
unfolding folding fold_next fold_row
counted schema s proof zero = record { numbered = refl; few = omega arith }
counted schema s proof (suc k) = counted_into s k (folding schema s proof k) _ _ (counted schema s proof k)

-- ---- one number more

small_more : (numbers : List ℕ) (k q : ℕ) → k < length numbers → q ≤ 4096 → AllSmall numbers → AllSmall (set numbers k q)
small_more numbers k q l h a i =
    ⊎_elim
    (λ t. let e = eqb-true i k t in omega (arith, ap (λ (j : ℕ). get_or (set numbers k q) j 0) e, get_or-set_same numbers k q 0 l))
    (λ t. omega (arith, get_or-set_other numbers k i q 0 (eqb-false i k t), a i))
    (decide (eqb i k))

module _ (schema : List ℤ) (s : ℕ) (proof : List ℤ) (k count : ℕ) (out : List ℤ) (numbers next heads : List ℕ) (I : Folds schema s (folding schema s proof k) count out numbers next heads) (room : 4 * count + 3 < length out) where
  abbrev F : Folding
  F = folding schema s proof k

  -- the row with its parts put through, by the numbers as they are kept
  abbrev w : Row
  w = renumbered (new_number s numbers) (row_at proof k)

  abbrev w' : Row
  w' = renumbered (new_number s F.numbers) (row_at proof k)

  same_row : w ≡ w'
  same_row =
      ap (λ (new : ℕ → ℕ). renumbered new (row_at proof k)) (ap (new_number s) I.known ∙ new_padded s (length numbers) F.numbers)

  -- it is put after the rows that stay
  module _ (out₁ : List ℤ) (put : out₁ ≡ sets out (4 * count) (columns w)) where
    front : take (4 * count) out₁ ≡ F.table
    front = ap (take (4 * count)) put ∙ put_front schema s out F.table count I.held w room

    more : take (4 * (count + 1)) out₁ ≡ F.table ++ columns w'
    more =
        ap (take (4 * (count + 1))) put
        ∙ put_more schema s out F.table count I.held w room
        ∙ ap (λ (v : Row). F.table ++ columns v) same_row

    row : formula_rows schema s out₁ (s + count) ≡ w'
    row = ap (λ (t : List ℤ). formula_rows schema s t (s + count)) put ∙ put_row_lem schema s out F.table count I.held w room ∙ same_row

    rows_front : (q : ℕ) → q < s + count → formula_rows schema s out₁ q ≡ formula_rows schema s F.table q
    rows_front q l = formula_rows_front schema s out₁ F.table count front q l

    -- what was linked is
    pub still_linked : Linked (formula_rows schema s out₁) next heads (s + count)
    still_linked =
        linked_agree (formula_rows schema s out) (formula_rows schema s out₁) (s + count)
        (λ q l. formula_rows_front schema s out F.table count I.held q l ∙ sym (rows_front q l))
        I.linked

    abbrev equal : Option ℕ
    equal = earliest (formula_rows schema s out₁) (s + count) (formula_rows schema s out₁ (s + count))

    next_folding : {o : Option ℕ} → equal ≡ o → folded_into s F w' o ≡ folding schema s proof (k + 1)
    unfolding folding fold_next fold_row
    next_folding {o} e =
        ap (folded_into s F w') (sym e ∙ among) ∙ ap (folding schema s proof) (sym (add-one k))
      where
        -- what is found among the rows that stay
        among : equal ≡ earliest (formula_rows schema s F.table) (s + F.count) w'
        among =
            ap (earliest (formula_rows schema s out₁) (s + count)) row
            ∙ earliest_agree (formula_rows schema s out₁) (formula_rows schema s F.table) (s + count) rows_front w'
            ∙ ap (λ (n : ℕ). earliest (formula_rows schema s F.table) (s + n) w') I.counted

    module _ (q : ℕ) (e : q ≡ row_or (s + count) equal) (few : s + count ≤ 4096) (place : k < length numbers) where
      abbrev numbers₁ : List ℕ
      numbers₁ = set numbers k q

      pub number_small : q ≤ s + count
      number_small = found_small (formula_rows schema s out₁) (formula_rows schema s out₁ (s + count)) (s + count) q e

      known : numbers₁ ≡ padded 0 (length numbers₁) (F.numbers ++ q ∷ [])
      known =
          ap (λ (l : List ℕ). set l k q) I.known
          ∙ padded_more (length numbers) k q F.numbers (counted schema s proof k).numbered place
          ∙ ap (λ (n : ℕ). padded 0 n (F.numbers ++ q ∷ [])) (sym (length-set numbers k q))

      small : AllSmall numbers₁
      small = small_more numbers k q place (omega (arith, number_small)) I.small

      -- a row that has an equal
      pub folds_away : q < s + count → Folds schema s (folding schema s proof (k + 1)) count out₁ numbers₁ next heads
      unfolding folded_into
      folds_away l =
          subst (λ (G : Folding). Folds schema s G count out₁ numbers₁ next heads)
          (next_folding (was_found (formula_rows schema s out₁) (formula_rows schema s out₁ (s + count)) (s + count) q e l))
          (record { counted = I.counted; held = front; known = known; small = small; linked = still_linked })

      -- a row that stays
      pub folds_stays : s + count ≤ q → {next₁ heads₁ : List ℕ} → Linked (formula_rows schema s out₁) next₁ heads₁ (s + count + 1) → Folds schema s (folding schema s proof (k + 1)) (count + 1) out₁ numbers₁ next₁ heads₁
      unfolding folded_into
      folds_stays l {next₁} {heads₁} c =
          subst (λ (G : Folding). Folds schema s G (count + 1) out₁ numbers₁ next₁ heads₁)
          (next_folding (none_found (formula_rows schema s out₁) (formula_rows schema s out₁ (s + count)) (s + count) q e l))
          (record {
            counted = omega (arith, I.counted);
            held = more;
            known = known ∙ ap (λ (x : ℕ). padded 0 (length numbers₁) (F.numbers ++ x ∷ [])) last;
            small = small;
            linked = subst (Linked (formula_rows schema s out₁) next₁ heads₁) after c;
          })
        where
          last : q ≡ s + F.count
          last = omega (arith, number_small, I.counted)

          after : s + count + 1 ≡ s + (count + 1)
          after = omega arith

-- ---- no row yet

pub folds_none : (schema : List ℤ) (s : ℕ) (proof out : List ℤ) (numbers next heads : List ℕ) → numbers ≡ replicate (length numbers) 0 → Linked (formula_rows schema s out) next heads s → Folds schema s (folding schema s proof 0) 0 out numbers next heads
unfolding folding
folds_none schema s proof out numbers next heads z c = record {
  counted = refl;
  held = refl;
  known = z ∙ padded_empty 0 (length numbers);
  small = λ i. omega (arith, ap (λ (l : List ℕ). get_or l i 0) z, get_d_zeros (length numbers) i);
  linked = subst (Linked (formula_rows schema s out) next heads) after c;
}
  where
    after : s ≡ s + 0
    after = omega arith
