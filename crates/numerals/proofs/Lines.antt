-- The first line of a text: as the definitions have it, and by its first field.
use Prim.Native.Nat.{ℕ, suc, ◌+◌, ◌≤◌}
use native.Mathlib.Omega.{arith}
use mathlib.Core.Path.{◌≡◌, refl, sym, ◌∙◌, ap, ap₂}
use mathlib.Core.Logic.{⊎_elim}
use mathlib.Core.Bool.{Bool, true, false, true≢false}
use mathlib.Core.List.{List, [], ◌∷◌, ◌++◌}
use mathlib.Core.Option.{Option, none, some, none-ne-some, some-injective}
use lib.Dec.{eqb}
use lib.IntN.{ℤ}
use lib.ListN.{length, drop}
use borrow.Author.Tests.{eq-eqb, ne_eqb}
use Rattle.stab.specs.Text.{Line, newline, lines, in_front, in_front_of, numbers_in, numbers, number_of, is_digit, fields, space, into_field, lacks}
use Rattle.stab.proofs.Bools.{and_both, if_true, if_false, decide, not_of_false}
use Rattle.stab.proofs.Texts.Lines.{fields_last, fields_space}
use Rattle.numerals.specs.Here.{first_line, after_line, row, if_number, numbers_up_to, first_numbers, ends_field, field, field_end, past_field, number_here}
use Rattle.numerals.proofs.Fields.{field_none, field_more, end_here, end_later, ends_cases, ends_nonzero, ends_space, ends_line, natural_other, plain_of, here_plain}
use Rattle.numerals.proofs.Steps.{end_or_none}

-- ---- one byte in front of a text

abbrev pub with_byte : ℕ → Line → Line
with_byte x l = record { content = x ∷ l.content; ended = l.ended }

module _ (x : ℕ) (xs : List ℕ) where
  pub line_end_lem : eqb x 10 ≡ true → first_line (x ∷ xs) ≡ record { content = []; ended = true }
  unfolding first_line newline
  line_end_lem h = if_true (eqb x 10) _ _ h

  pub line_byte : eqb x 10 ≡ false → first_line (x ∷ xs) ≡ with_byte x (first_line xs)
  unfolding first_line newline
  line_byte h = if_false (eqb x 10) _ _ h

  pub after_end : eqb x 10 ≡ true → after_line (x ∷ xs) ≡ xs
  unfolding after_line newline
  after_end h = if_true (eqb x 10) _ _ h

  pub after_byte : eqb x 10 ≡ false → after_line (x ∷ xs) ≡ after_line xs
  unfolding after_line newline
  after_byte h = if_false (eqb x 10) _ _ h

-- ---- the lines of a text that is not empty

pub lines_nil : lines [] ≡ []
unfolding lines
lines_nil = refl

pub lines_first : (x : ℕ) (xs : List ℕ) → lines (x ∷ xs) ≡ first_line (x ∷ xs) ∷ lines (after_line (x ∷ xs))
unfolding lines newline
lines_first x [] =
    ⊎_elim
    (λ h. if_true (eqb x 10) _ _ h ∙ ap₂ (λ (l : Line) (ys : List ℕ). l ∷ lines ys) (sym (line_end_lem x [] h)) (sym (after_end x [] h)))
    (λ h. if_false (eqb x 10) _ _ h ∙ alone ∙ ap₂ (λ (l : Line) (ys : List ℕ). l ∷ lines ys) (sym (line_byte x [] h)) (sym (after_byte x [] h)))
    (decide (eqb x 10))
  where
    alone : in_front x (lines []) ≡ with_byte x (first_line []) ∷ lines (after_line [])
    alone = unfold in_front first_line after_line in refl
lines_first x (y ∷ ys) =
    ⊎_elim
    (λ h. if_true (eqb x 10) _ _ h ∙ ap₂ (λ (l : Line) (zs : List ℕ). l ∷ lines zs) (sym (line_end_lem x (y ∷ ys) h)) (sym (after_end x (y ∷ ys) h)))
    (λ h. if_false (eqb x 10) _ _ h
    ∙ ap (in_front x) (lines_first y ys)
    ∙ more
    ∙ ap₂ (λ (l : Line) (zs : List ℕ). l ∷ lines zs) (sym (line_byte x (y ∷ ys) h)) (sym (after_byte x (y ∷ ys) h)))
    (decide (eqb x 10))
  where
    more : in_front x (first_line (y ∷ ys) ∷ lines (after_line (y ∷ ys))) ≡ with_byte x (first_line (y ∷ ys)) ∷ lines (after_line (y ∷ ys))
    more = unfold in_front in refl

-- ---- a line by its first field

-- the line goes on after the field, or ends with it
pub record Goes (xs ys : List ℕ) : Type 0 where
  pub content : (first_line xs).content ≡ field xs ++ 32 ∷ (first_line ys).content
  pub ended : (first_line xs).ended ≡ (first_line ys).ended
  pub after : after_line xs ≡ after_line ys

pub record Ends (xs ys : List ℕ) : Type 0 where
  pub content : (first_line xs).content ≡ field xs
  pub ended : (first_line xs).ended ≡ true
  pub after : after_line xs ≡ ys

not_line : (x : ℕ) → ends_field x ≡ false → eqb x 10 ≡ false
not_line x h = ne_eqb x 10 (λ e. true≢false (sym (ends_line x e) ∙ h))

past_more : (x : ℕ) (xs : List ℕ) → ends_field x ≡ false → drop (past_field (x ∷ xs)) (x ∷ xs) ≡ drop (past_field xs) xs
unfolding past_field
past_more x xs h = ap (λ (f : List ℕ). drop (length f) xs) (field_more x xs h)

past_none : (x : ℕ) (xs : List ℕ) → ends_field x ≡ true → drop (past_field (x ∷ xs)) (x ∷ xs) ≡ xs
unfolding past_field
past_none x xs h = ap (λ (f : List ℕ). drop (length f) xs) (field_none x xs h)

-- no end at all
pub no_end : (xs : List ℕ) → field_end xs ≡ 0 → (first_line xs).ended ≡ false
no_end [] h = unfold first_line in refl
no_end (x ∷ xs) h =
    ⊎_elim
    (λ e. absurd (⊎_elim (λ p. omega (arith, end_here x xs e)) (λ p. omega (arith, end_here x xs e)) (ends_cases x e)))
    (λ e. ap (λ (l : Line). l.ended) (line_byte x xs (not_line x e)) ∙ no_end xs (sym (end_later x xs e) ∙ h))
    (decide (ends_field x))

module _ (x : ℕ) (xs : List ℕ) where
  ends_here : ends_field x ≡ true → x ≡ 10 → Ends (x ∷ xs) (drop (past_field (x ∷ xs)) (x ∷ xs))
  ends_here e h =
      let q = eq-eqb x 10 h in
      record {
        content = ap (λ (l : Line). l.content) (line_end_lem x xs q) ∙ sym (field_none x xs e);
        ended = ap (λ (l : Line). l.ended) (line_end_lem x xs q);
        after = after_end x xs q ∙ sym (past_none x xs e);
      }

  ends_on : ends_field x ≡ false → Ends xs (drop (past_field xs) xs) → Ends (x ∷ xs) (drop (past_field (x ∷ xs)) (x ∷ xs))
  ends_on e g =
      let q = not_line x e in
      record {
        content = ap (λ (l : Line). l.content) (line_byte x xs q) ∙ ap (λ (f : List ℕ). x ∷ f) g.content ∙ sym (field_more x xs e);
        ended = ap (λ (l : Line). l.ended) (line_byte x xs q) ∙ g.ended;
        after = after_byte x xs q ∙ g.after ∙ sym (past_more x xs e);
      }

  goes_here : ends_field x ≡ true → x ≡ 32 → Goes (x ∷ xs) (drop (past_field (x ∷ xs)) (x ∷ xs))
  goes_here e h =
      let q = ne_eqb x 10 (λ p. omega arith) in
      let r = past_none x xs e in
      record {
        content =
            ap (λ (l : Line). l.content) (line_byte x xs q)
            ∙ ap (λ (y : ℕ). y ∷ (first_line xs).content) h
            ∙ ap₂ (λ (f ys : List ℕ). f ++ 32 ∷ (first_line ys).content) (sym (field_none x xs e)) (sym r);
        ended = ap (λ (l : Line). l.ended) (line_byte x xs q) ∙ ap (λ (ys : List ℕ). (first_line ys).ended) (sym r);
        after = after_byte x xs q ∙ ap after_line (sym r);
      }

  goes_on : ends_field x ≡ false → Goes xs (drop (past_field xs) xs) → Goes (x ∷ xs) (drop (past_field (x ∷ xs)) (x ∷ xs))
  goes_on e g =
      let q = not_line x e in
      let r = past_more x xs e in
      record {
        content =
            ap (λ (l : Line). l.content) (line_byte x xs q)
            ∙ ap (λ (f : List ℕ). x ∷ f) g.content
            ∙ ap₂ (λ (f ys : List ℕ). f ++ 32 ∷ (first_line ys).content) (sym (field_more x xs e)) (sym r);
        ended = ap (λ (l : Line). l.ended) (line_byte x xs q) ∙ g.ended ∙ ap (λ (ys : List ℕ). (first_line ys).ended) (sym r);
        after = after_byte x xs q ∙ g.after ∙ ap after_line (sym r);
      }

end_nil : field_end [] ≡ 0
unfolding field_end
end_nil = refl

line_ends : (xs : List ℕ) → field_end xs ≡ 10 → Ends xs (drop (past_field xs) xs)
line_ends [] h = absurd (omega (arith, end_nil))
line_ends (x ∷ xs) h =
    ⊎_elim
    (λ e. ends_here x xs e (sym (end_here x xs e) ∙ h))
    (λ e. ends_on x xs e (line_ends xs (sym (end_later x xs e) ∙ h)))
    (decide (ends_field x))

line_goes : (xs : List ℕ) → field_end xs ≡ 32 → Goes xs (drop (past_field xs) xs)
line_goes [] h = absurd (omega (arith, end_nil))
line_goes (x ∷ xs) h =
    ⊎_elim
    (λ e. goes_here x xs e (sym (end_here x xs e) ∙ h))
    (λ e. goes_on x xs e (line_goes xs (sym (end_later x xs e) ∙ h)))
    (decide (ends_field x))

field_lacks : (xs : List ℕ) → lacks 32 (field xs) ≡ true
unfolding lacks
field_lacks [] = unfold field in refl
field_lacks (x ∷ xs) =
    ⊎_elim
    (λ e. ap (lacks 32) (field_none x xs e))
    (λ e. ap (lacks 32) (field_more x xs e) ∙ and_both _ _ (not_of_false _ (ne_eqb x 32 (λ p. true≢false (sym (ends_space x p) ∙ e)))) (field_lacks xs))
    (decide (ends_field x))

-- ---- a row by its first number

row_not : (xs : List ℕ) → (first_line xs).ended ≡ false → row xs ≡ none
unfolding row
row_not xs h = if_false (first_line xs).ended _ _ h

row_is : (xs : List ℕ) (l : List ℕ) → (first_line xs).ended ≡ true → (first_line xs).content ≡ l → row xs ≡ numbers l
unfolding row
row_is xs l h e = if_true (first_line xs).ended _ _ h ∙ ap numbers e

row_end : (xs : List ℕ) → field_end xs ≡ 10 → row xs ≡ in_front_of (number_of (field xs)) (some [])
unfolding numbers numbers_in
row_end xs h =
    let g = line_ends xs h in
    row_is xs (field xs) g.ended g.content ∙ ap numbers_in (fields_last (field xs) (field_lacks xs))

front_none : (o : Option ℤ) → in_front_of o none ≡ none
unfolding in_front_of
front_none none = refl
front_none (some z) = refl

row_space : (xs : List ℕ) → field_end xs ≡ 32 → row xs ≡ in_front_of (number_of (field xs)) (row (drop (past_field xs) xs))
row_space xs h =
    let g = line_goes xs h in
    let ys = drop (past_field xs) xs in
    ⊎_elim
    (λ e. row_is xs _ (g.ended ∙ e) g.content
    ∙ spaced (first_line ys).content
    ∙ ap (in_front_of (number_of (field xs))) (sym (row_is ys (first_line ys).content e refl)))
    (λ e. row_not xs (g.ended ∙ e) ∙ sym (ap (in_front_of (number_of (field xs))) (row_not ys e) ∙ front_none (number_of (field xs))))
    (decide (first_line ys).ended)
  where
    spaced : (l : List ℕ) → numbers (field xs ++ 32 ∷ l) ≡ in_front_of (number_of (field xs)) (numbers l)
    spaced l = unfold numbers numbers_in in ap numbers_in (fields_space (field xs) l (field_lacks xs))

-- ---- the numbers that a line starts with

-- no line is without a field
pub some_field : (l : List ℕ) → (f : List ℕ) × (fs : List (List ℕ)) × (fields l ≡ f ∷ fs)
unfolding fields space into_field
some_field [] = ([], [], refl)
some_field (x ∷ xs) =
    ⊎_elim
    (λ e. ([], fields xs, if_true (eqb x 32) _ _ e))
    (λ e. let g = some_field xs in (x ∷ g.0, g.1, if_false (eqb x 32) _ _ e ∙ ap (into_field x) g.2))
    (decide (eqb x 32))

-- a field without an end is all there is
line_open : (xs : List ℕ) → field_end xs ≡ 0 → (first_line xs).content ≡ field xs
line_open [] h = unfold first_line field in refl
line_open (x ∷ xs) h =
    ⊎_elim
    (λ e. absurd (ends_nonzero x e (sym (end_here x xs e) ∙ h)))
    (λ e. ap (λ (l : Line). l.content) (line_byte x xs (not_line x e)) ∙ ap (λ (f : List ℕ). x ∷ f) (line_open xs (sym (end_later x xs e) ∙ h)) ∙ sym (field_more x xs e))
    (decide (ends_field x))

first_is : (xs : List ℕ) (t : Bool) (fs : List (List ℕ)) → (first_line xs).ended ≡ t → fields (first_line xs).content ≡ fs → first_numbers xs ≡ numbers_up_to t fs
unfolding first_numbers
first_is xs t fs p q = ap₂ numbers_up_to p q

first_open : (xs : List ℕ) → field_end xs ≡ 0 → first_numbers xs ≡ []
unfolding numbers_up_to
first_open xs h = first_is xs false (field xs ∷ []) (no_end xs h) (ap fields (line_open xs h) ∙ fields_last (field xs) (field_lacks xs))

first_end : (xs : List ℕ) → field_end xs ≡ 10 → first_numbers xs ≡ if_number (number_of (field xs)) []
unfolding numbers_up_to
first_end xs h =
    let g = line_ends xs h in
    first_is xs true (field xs ∷ []) g.ended (ap fields g.content ∙ fields_last (field xs) (field_lacks xs))

first_space : (xs : List ℕ) → field_end xs ≡ 32 → first_numbers xs ≡ if_number (number_of (field xs)) (first_numbers (drop (past_field xs) xs))
unfolding numbers_up_to first_numbers
first_space xs h =
    let g = line_goes xs h in
    let ys = drop (past_field xs) xs in
    let s = some_field (first_line ys).content in
    first_is xs (first_line ys).ended (field xs ∷ (s.0 ∷ s.1)) g.ended
    (ap fields g.content ∙ fields_space (field xs) (first_line ys).content (field_lacks xs) ∙ ap (λ (fs : List (List ℕ)). field xs ∷ fs) s.2)
    ∙ ap (λ (fs : List (List ℕ)). if_number (number_of (field xs)) (numbers_up_to (first_line ys).ended fs)) (sym s.2)

-- of a row they are all its numbers
front_up : (o : Option ℤ) (p : Option (List ℤ)) (us vs : List ℤ) → ((ws : List ℤ) → p ≡ some ws → us ≡ ws) → in_front_of o p ≡ some vs → if_number o us ≡ vs
unfolding in_front_of if_number
front_up none p us vs k h = absurd (none-ne-some vs h)
front_up (some z) none us vs k h = absurd (none-ne-some vs h)
front_up (some z) (some ws) us vs k h = ap (λ (l : List ℤ). z ∷ l) (k ws refl) ∙ some-injective (z ∷ ws) vs h

up_to_all : (fs : List (List ℕ)) (vs : List ℤ) → numbers_in fs ≡ some vs → numbers_up_to true fs ≡ vs
unfolding numbers_in numbers_up_to
up_to_all [] vs h = some-injective [] vs h
up_to_all (f ∷ []) vs h = front_up (number_of f) (some []) [] vs (λ ws e. some-injective [] ws e) h
up_to_all (f ∷ (g ∷ fs)) vs h = front_up (number_of f) (numbers_in (g ∷ fs)) (numbers_up_to true (g ∷ fs)) vs (λ ws e. up_to_all (g ∷ fs) ws e) h

pub row_ended : (xs : List ℕ) (vs : List ℤ) → row xs ≡ some vs → (first_line xs).ended ≡ true
row_ended xs vs h = ⊎_elim (λ e. e) (λ e. absurd (none-ne-some vs (sym (row_not xs e) ∙ h))) (decide (first_line xs).ended)

pub row_numbers : (xs : List ℕ) (vs : List ℤ) → row xs ≡ some vs → first_numbers xs ≡ vs
row_numbers xs vs h =
    let e = row_ended xs vs h in
    first_is xs true (fields (first_line xs).content) e refl
    ∙ up_to_all (fields (first_line xs).content) vs (unfold numbers in sym (row_is xs (first_line xs).content e refl) ∙ h)

-- there are no more of them than bytes
number_few : (o : Option ℤ) (vs : List ℤ) (n : ℕ) → length vs ≤ n → length (if_number o vs) ≤ n + 1
unfolding if_number
number_few none vs n h = omega arith
number_few (some z) vs n h = omega arith

up_to_few : (t : Bool) (fs : List (List ℕ)) → length (numbers_up_to t fs) ≤ length fs
unfolding numbers_up_to
up_to_few t [] = omega arith
up_to_few true (f ∷ []) = omega (arith, number_few (number_of f) [] 0 (omega arith))
up_to_few false (f ∷ []) = omega arith
up_to_few t (f ∷ (g ∷ fs)) = omega (arith, number_few (number_of f) (numbers_up_to t (g ∷ fs)) (length (g ∷ fs)) (up_to_few t (g ∷ fs)))

into_length : (x : ℕ) (fs : List (List ℕ)) (n : ℕ) → length fs ≤ n + 1 → length (into_field x fs) ≤ n + 1
unfolding into_field
into_length x [] n h = omega arith
into_length x (f ∷ fs) n h = omega arith

fields_few : (l : List ℕ) → length (fields l) ≤ length l + 1
unfolding fields space
fields_few [] = omega arith
fields_few (x ∷ xs) =
    ⊎_elim
    (λ e. omega (arith, ap length (if_true (eqb x 32) ([] ∷ fields xs) (into_field x (fields xs)) e), fields_few xs))
    (λ e. omega (arith, ap length (if_false (eqb x 32) ([] ∷ fields xs) (into_field x (fields xs)) e), into_length x (fields xs) (length xs) (fields_few xs)))
    (decide (eqb x 32))

line_few : (xs : List ℕ) → length (first_line xs).content ≤ length xs
line_few [] = unfold first_line in omega arith
line_few (x ∷ xs) =
    ⊎_elim
    (λ e. omega (arith, ap (λ (l : Line). length l.content) (line_end_lem x xs e)))
    (λ e. omega (arith, ap (λ (l : Line). length l.content) (line_byte x xs e), line_few xs))
    (decide (eqb x 10))

pub first_few : (xs : List ℕ) → length (first_numbers xs) ≤ length xs + 1
unfolding first_numbers
first_few xs = omega (arith, up_to_few (first_line xs).ended (fields (first_line xs).content), fields_few (first_line xs).content, line_few xs)

-- what follows a line's byte 10, by how long the line is
pub after_ended : (xs : List ℕ) → (first_line xs).ended ≡ true → (after_line xs ≡ drop (suc (length (first_line xs).content)) xs) × (suc (length (first_line xs).content) ≤ length xs)
after_ended [] h = absurd (true≢false (sym h ∙ unfold first_line in refl))
after_ended (x ∷ xs) h =
    ⊎_elim
    (λ e. let n = ap (λ (l : Line). length l.content) (line_end_lem x xs e) in
    (after_end x xs e ∙ ap (λ (k : ℕ). drop (suc k) (x ∷ xs)) (sym n), omega arith))
    (λ e. let n = ap (λ (l : Line). length l.content) (line_byte x xs e) in
    let r = after_ended xs (sym (ap (λ (l : Line). l.ended) (line_byte x xs e)) ∙ h) in
    (after_byte x xs e ∙ r.0 ∙ ap (λ (k : ℕ). drop (suc k) (x ∷ xs)) (sym n), omega (arith, r.1)))
    (decide (eqb x 10))

-- ---- the number that a line starts with

-- a field that has an end lies within the text
pub past_within : (xs : List ℕ) → ends_field (field_end xs) ≡ true → past_field xs ≤ length xs
unfolding past_field
past_within [] h = absurd (ends_nonzero _ h end_nil)
past_within (x ∷ xs) h =
    ⊎_elim
    (λ e. omega (arith, ap length (field_none x xs e)))
    (λ e. omega (arith, ap length (field_more x xs e), past_within xs (ap ends_field (sym (end_later x xs e)) ∙ h)))
    (decide (ends_field x))

module _ (xs : List ℕ) where
  here_closed : ends_field (field_end xs) ≡ true → number_here xs ≡ number_of (field xs)
  unfolding number_here
  here_closed h = if_false (eqb (field_end xs) 0) _ _ (ne_eqb _ 0 (ends_nonzero _ h))

  pub row_none : number_here xs ≡ none → row xs ≡ none
  unfolding in_front_of
  row_none h =
      ⊎_elim
      (λ e. row_not xs (no_end xs e))
      (λ e. let n = sym (here_closed e) ∙ h in
      ⊎_elim
      (λ p. row_space xs p ∙ ap (λ (o : Option ℤ). in_front_of o (row (drop (past_field xs) xs))) n)
      (λ p. row_end xs p ∙ ap (λ (o : Option ℤ). in_front_of o (some [])) n)
      (ends_cases _ e))
      (end_or_none xs)

  pub row_more : (z : ℤ) → number_here xs ≡ some z → field_end xs ≡ 32 → row xs ≡ in_front_of (some z) (row (drop (past_field xs) xs))
  row_more z h e =
      row_space xs e ∙ ap (λ (o : Option ℤ). in_front_of o (row (drop (past_field xs) xs))) (sym (here_closed (ends_space _ e)) ∙ h)

  pub row_last : (z : ℤ) → number_here xs ≡ some z → field_end xs ≡ 10 → row xs ≡ some (z ∷ [])
  unfolding in_front_of
  row_last z h e = row_end xs e ∙ ap (λ (o : Option ℤ). in_front_of o (some [])) (sym (here_closed (ends_line _ e)) ∙ h)

  pub first_none : number_here xs ≡ none → first_numbers xs ≡ []
  unfolding if_number
  first_none h =
      ⊎_elim
      (λ e. first_open xs e)
      (λ e. let n = sym (here_closed e) ∙ h in
      ⊎_elim
      (λ p. first_space xs p ∙ ap (λ (o : Option ℤ). if_number o (first_numbers (drop (past_field xs) xs))) n)
      (λ p. first_end xs p ∙ ap (λ (o : Option ℤ). if_number o []) n)
      (ends_cases _ e))
      (end_or_none xs)

  pub first_more : (z : ℤ) → number_here xs ≡ some z → field_end xs ≡ 32 → first_numbers xs ≡ z ∷ first_numbers (drop (past_field xs) xs)
  unfolding if_number
  first_more z h e = first_space xs e ∙ ap (λ (o : Option ℤ). if_number o (first_numbers (drop (past_field xs) xs))) (sym (here_closed (ends_space _ e)) ∙ h)

  pub after_more : field_end xs ≡ 32 → after_line xs ≡ after_line (drop (past_field xs) xs)
  after_more e = (line_goes xs e).after

  pub after_last : field_end xs ≡ 10 → after_line xs ≡ drop (past_field xs) xs
  after_last e = (line_ends xs e).after

-- a byte that no number starts with
pub first_other : (x : ℕ) (xs : List ℕ) → is_digit x ≡ false → (x ≡ 45 → ⊥) → first_numbers (x ∷ xs) ≡ []
unfolding plain_of
first_other x xs h m = first_none (x ∷ xs) (here_plain (x ∷ xs) m ∙ ap plain_of (natural_other x xs h))
