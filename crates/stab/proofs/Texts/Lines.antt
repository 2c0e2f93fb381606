-- Rows and lines as text: fields between spaces, lines that end with byte 10, and both put together again.
use Rattle.std.specs.Prelude.{if◌then◌else◌}
use Prim.Native.Nat.{ℕ, ◌<◌, ◌≤◌}
use native.Mathlib.Omega.{arith}
use mathlib.Core.Path.{◌≡◌, refl, sym, ◌∙◌, ap, ap₂}
use mathlib.Core.Logic.{⊎_elim}
use mathlib.Core.Bool.{Bool, true, false, not}
use mathlib.Core.List.{List, [], ◌∷◌, ◌++◌, map, append_assoc, append-nil, cons-ne-nil}
use mathlib.Core.Option.{Option, none, some, none-ne-some, some-injective}
use lib.Dec.{leb, eqb}
use lib.IntN.{ℤ}
use lib.ListN.{length}
use borrow.Author.Tests.{leb-true, eqb-true, ne_eqb}
use Rattle.stab.specs.Basic.{◌and◌, all_of}
use Rattle.stab.specs.Text.{Line, newline, in_front, lines, space, number_of, into_field, fields, in_front_of, numbers_in, numbers, five_digits, decimal, row_line, heading_line, lacks}
use Rattle.stab.specs.Read.{starts_with_u}
use Rattle.stab.proofs.Bools.{and_left, and_right, and_both, decide, if_true, if_false, not_of_false, false_of_not}
use Rattle.stab.proofs.Texts.Numbers.{decimal_number, number_decimal, decimal_high, number_start}

-- ---- bytes that a part of a text lacks

pub lacks_append : (c : ℕ) (xs ys : List ℕ) → lacks c xs ≡ true → lacks c ys ≡ true → lacks c (xs ++ ys) ≡ true
unfolding lacks
lacks_append c [] ys h k = k
lacks_append c (x ∷ xs) ys h k = and_both _ _ (and_left _ _ h) (lacks_append c xs ys (and_right (not (eqb x c)) _ h) k)

lacks_high : (a c : ℕ) (xs : List ℕ) → c < a → all_of (leb a) xs ≡ true → lacks c xs ≡ true
unfolding lacks all_of
lacks_high a c [] l h = refl
lacks_high a c (x ∷ xs) l h =
    let g = leb-true a x (and_left _ _ h) in
    and_both _ _ (not_of_false _ (ne_eqb x c (λ e. omega arith))) (lacks_high a c xs l (and_right (leb a x) _ h))

-- no byte of a number is a space or byte 10
pub decimal_lacks : (c : ℕ) (z : ℤ) → c < 45 → lacks c (decimal z) ≡ true
decimal_lacks c z l = lacks_high 45 c (decimal z) l (decimal_high z)

-- ---- fields

-- fields, a space before each, and with spaces between
unfoldable pub spaced : List (List ℕ) → List ℕ
spaced [] = []
spaced (f ∷ fs) = 32 ∷ (f ++ spaced fs)

unfoldable pub join : List (List ℕ) → List ℕ
join [] = []
join (f ∷ fs) = f ++ spaced fs

pub fields_last : (f : List ℕ) → lacks 32 f ≡ true → fields f ≡ f ∷ []
unfolding fields space lacks into_field
fields_last [] h = refl
fields_last (x ∷ xs) h =
    if_false (eqb x 32) _ _ (false_of_not _ (and_left _ _ h)) ∙ ap (into_field x) (fields_last xs (and_right (not (eqb x 32)) _ h))

pub fields_space : (f rest : List ℕ) → lacks 32 f ≡ true → fields (f ++ 32 ∷ rest) ≡ f ∷ fields rest
unfolding fields space lacks into_field
fields_space [] rest h = refl
fields_space (x ∷ xs) rest h =
    if_false (eqb x 32) _ _ (false_of_not _ (and_left _ _ h)) ∙ ap (into_field x) (fields_space xs rest (and_right (not (eqb x 32)) _ h))

pub fields_join : (f : List ℕ) (fs : List (List ℕ)) → all_of (lacks 32) (f ∷ fs) ≡ true → fields (join (f ∷ fs)) ≡ f ∷ fs
unfolding join spaced all_of
fields_join f [] h = ap fields (append-nil f) ∙ fields_last f (and_left _ _ h)
fields_join f (g ∷ gs) h =
    fields_space f (g ++ spaced gs) (and_left _ _ h)
    ∙ ap (λ (l : List (List ℕ)). f ∷ l) (fields_join g gs (and_right (lacks 32 f) _ h))

join_into : (x : ℕ) (fs : List (List ℕ)) → join (into_field x fs) ≡ x ∷ join fs
unfolding join spaced into_field
join_into x [] = refl
join_into x (f ∷ fs) = refl

spaced_into : (x : ℕ) (fs : List (List ℕ)) → spaced (into_field x fs) ≡ 32 ∷ join (into_field x fs)
unfolding join spaced into_field
spaced_into x [] = refl
spaced_into x (f ∷ fs) = refl

-- there is a first field
spaced_fields : (l : List ℕ) → spaced (fields l) ≡ 32 ∷ join (fields l)
unfolding fields join spaced space
spaced_fields [] = refl
spaced_fields (x ∷ xs) = ⊎_elim blank other (decide (eqb x 32))
  where
    cut : List (List ℕ)
    cut = if eqb x 32 then [] ∷ fields xs else into_field x (fields xs)

    blank : eqb x 32 ≡ true → spaced cut ≡ 32 ∷ join cut
    blank e = let p = if_true (eqb x 32) ([] ∷ fields xs) (into_field x (fields xs)) e in ap spaced p ∙ ap (λ (fs : List (List ℕ)). 32 ∷ join fs) (sym p)

    other : eqb x 32 ≡ false → spaced cut ≡ 32 ∷ join cut
    other e =
        let p = if_false (eqb x 32) ([] ∷ fields xs) (into_field x (fields xs)) e in
        ap spaced p ∙ spaced_into x (fields xs) ∙ ap (λ (fs : List (List ℕ)). 32 ∷ join fs) (sym p)

-- fields with spaces between are the bytes again
pub join_fields : (l : List ℕ) → join (fields l) ≡ l
unfolding fields join space
join_fields [] = unfold spaced in refl
join_fields (x ∷ xs) =
    ⊎_elim
    (λ e. ap join (if_true (eqb x 32) _ _ e) ∙ spaced_fields xs ∙ ap₂ (λ (y : ℕ) (l : List ℕ). y ∷ l) (sym (eqb-true x 32 e)) (join_fields xs))
    (λ e. ap join (if_false (eqb x 32) _ _ e) ∙ join_into x (fields xs) ∙ ap (λ (l : List ℕ). x ∷ l) (join_fields xs))
    (decide (eqb x 32))

-- ---- rows

-- numbers with one space between
unfoldable pub row_bytes : List ℤ → List ℕ
row_bytes vs = join (map decimal vs)

pub row_line_lem : (vs : List ℤ) → row_line vs ≡ row_bytes vs ++ 10 ∷ []
unfolding row_line row_bytes join spaced newline space
row_line_lem [] = refl
row_line_lem (z ∷ []) = ap (λ (l : List ℕ). l ++ 10 ∷ []) (sym (append-nil (decimal z)))
row_line_lem (z ∷ (y ∷ ys)) =
    ap (λ (l : List ℕ). decimal z ++ 32 ∷ l) (row_line_lem (y ∷ ys))
    ∙ sym (append_assoc (decimal z) (spaced (map decimal (y ∷ ys))) (10 ∷ []))

decimals_lack : (vs : List ℤ) → all_of (lacks 32) (map decimal vs) ≡ true
unfolding all_of
decimals_lack [] = refl
decimals_lack (z ∷ zs) = and_both _ _ (decimal_lacks 32 z (omega arith)) (decimals_lack zs)

-- no byte of a row is byte 10
spaced_lacks : (vs : List ℤ) → lacks 10 (spaced (map decimal vs)) ≡ true
unfolding lacks spaced ◌and◌
spaced_lacks [] = refl
spaced_lacks (z ∷ zs) = lacks_append 10 (decimal z) _ (decimal_lacks 10 z (omega arith)) (spaced_lacks zs)

pub row_lacks : (vs : List ℤ) → lacks 10 (row_bytes vs) ≡ true
unfolding lacks row_bytes join
row_lacks [] = refl
row_lacks (z ∷ zs) = lacks_append 10 (decimal z) _ (decimal_lacks 10 z (omega arith)) (spaced_lacks zs)

numbers_decimals : (vs : List ℤ) → all_of five_digits vs ≡ true → numbers_in (map decimal vs) ≡ some vs
unfolding numbers_in in_front_of all_of
numbers_decimals [] h = refl
numbers_decimals (z ∷ zs) h =
    ap₂ in_front_of (decimal_number z (and_left _ _ h)) (numbers_decimals zs (and_right (five_digits z) _ h))

some_front : {A : Type 0} (o : Option A) (p : Option (List A)) (a : A) (rest : List A)
    → in_front_of o p ≡ some (a ∷ rest) → (o ≡ some a) × (p ≡ some rest)
unfolding in_front_of
some_front none p a rest h = absurd (none-ne-some (a ∷ rest) h)
some_front (some b) none a rest h = absurd (none-ne-some (a ∷ rest) h)
some_front (some b) (some q) a rest h = (cc, cc)

front_not_nil : {A : Type 0} (o : Option A) (p : Option (List A)) → in_front_of o p ≡ some [] → ⊥
unfolding in_front_of
front_not_nil none p h = none-ne-some [] h
front_not_nil (some b) none h = none-ne-some [] h
front_not_nil (some b) (some q) h = cons-ne-nil b q (some-injective (b ∷ q) [] h)

decimals_numbers : (fs : List (List ℕ)) (vs : List ℤ) → numbers_in fs ≡ some vs → (map decimal vs ≡ fs) × (all_of five_digits vs ≡ true)
unfolding numbers_in all_of
decimals_numbers [] [] h = (refl, refl)
decimals_numbers [] (z ∷ zs) h = absurd (cons-ne-nil z zs (sym (some-injective [] (z ∷ zs) h)))
decimals_numbers (f ∷ fs) [] h = absurd (front_not_nil (number_of f) (numbers_in fs) h)
decimals_numbers (f ∷ fs) (z ∷ zs) h =
    let s = some_front (number_of f) (numbers_in fs) z zs h in
    let first = number_decimal f z s.0 in
    let rest = decimals_numbers fs zs s.1 in
    (ap₂ (λ (g : List ℕ) (gs : List (List ℕ)). g ∷ gs) first.0 rest.0, and_both _ _ first.1 rest.1)

-- numbers of at most five digits, written as a row, read as themselves
pub numbers_row : (vs : List ℤ) → 1 ≤ length vs → all_of five_digits vs ≡ true → numbers (row_bytes vs) ≡ some vs
unfolding numbers row_bytes
numbers_row [] l h = absurd (omega arith)
numbers_row (z ∷ zs) l h =
    ap numbers_in (fields_join (decimal z) (map decimal zs) (decimals_lack (z ∷ zs))) ∙ numbers_decimals (z ∷ zs) h

-- and bytes that read as numbers are those numbers' row
pub row_numbers : (l : List ℕ) (vs : List ℤ) → numbers l ≡ some vs → (row_bytes vs ≡ l) × (all_of five_digits vs ≡ true)
unfolding numbers row_bytes
row_numbers l vs h =
    let d = decimals_numbers (fields l) vs h in
    (ap join d.0 ∙ join_fields l, d.1)

-- a row of numbers does not start with `u`
number_not_u : (f rest : List ℕ) (z : ℤ) → number_of f ≡ some z → starts_with_u (f ++ rest) ≡ false
unfolding starts_with_u
number_not_u [] rest z h = absurd (none-ne-some z (unfold number_of in h))
number_not_u (x ∷ xs) rest z h = let low = number_start x xs z h in ne_eqb x 117 (λ e. omega arith)

row_start : (vs : List ℤ) → all_of five_digits vs ≡ true → starts_with_u (row_bytes vs) ≡ false
unfolding starts_with_u row_bytes join all_of
row_start [] h = refl
row_start (z ∷ zs) h = number_not_u (decimal z) (spaced (map decimal zs)) z (decimal_number z (and_left _ _ h))

pub row_not_u : (l : List ℕ) (vs : List ℤ) → numbers l ≡ some vs → starts_with_u l ≡ false
row_not_u l vs h = let r = row_numbers l vs h in ap starts_with_u (sym r.0) ∙ row_start vs r.1

-- ---- lines

-- a line that has its byte 10
unfoldable pub full : List ℕ → Line
full l = record { content = l; ended = true }

pub lines_full : (l rest : List ℕ) → lacks 10 l ≡ true → lines (l ++ 10 ∷ rest) ≡ full l ∷ lines rest
unfolding lines newline lacks in_front full
lines_full [] rest h = refl
lines_full (x ∷ xs) rest h =
    if_false (eqb x 10) _ _ (false_of_not _ (and_left _ _ h)) ∙ ap (in_front x) (lines_full xs rest (and_right (not (eqb x 10)) _ h))

pub lines_row : (vs : List ℤ) (rest : List ℕ) → lines (row_line vs ++ rest) ≡ full (row_bytes vs) ∷ lines rest
lines_row vs rest =
    ap lines (ap (λ (l : List ℕ). l ++ rest) (row_line_lem vs) ∙ append_assoc (row_bytes vs) (10 ∷ []) rest)
    ∙ lines_full (row_bytes vs) rest (row_lacks vs)

pub lines_heading : (h rest : List ℕ) → lacks 10 h ≡ true → lines (heading_line h ++ rest) ≡ full h ∷ lines rest
unfolding heading_line newline
lines_heading h rest e = ap lines (append_assoc h (10 ∷ []) rest) ∙ lines_full h rest e

-- the bytes of lines
unfoldable pub line_end : Bool → List ℕ
line_end true = 10 ∷ []
line_end false = []

unfoldable pub text_of : List Line → List ℕ
text_of [] = []
text_of (l ∷ ls) = (l.content ++ line_end l.ended) ++ text_of ls

text_front : (x : ℕ) (ls : List Line) → text_of (in_front x ls) ≡ x ∷ text_of ls
unfolding text_of in_front line_end
text_front x [] = refl
text_front x (l ∷ ls) = refl

-- the lines of a text hold all its bytes
pub text_lines : (text : List ℕ) → text_of (lines text) ≡ text
unfolding lines newline text_of line_end
text_lines [] = refl
text_lines (x ∷ xs) =
    ⊎_elim
    (λ e. ap text_of (if_true (eqb x 10) _ _ e) ∙ ap₂ (λ (y : ℕ) (l : List ℕ). y ∷ l) (sym (eqb-true x 10 e)) (text_lines xs))
    (λ e. ap text_of (if_false (eqb x 10) _ _ e) ∙ text_front x (lines xs) ∙ ap (λ (l : List ℕ). x ∷ l) (text_lines xs))
    (decide (eqb x 10))

-- a line that has its byte 10 and reads as a row, or as a heading, is that row's, or that heading's
pub text_row : (l : Line) (vs : List ℤ) (ls : List Line) → l.ended ≡ true → numbers l.content ≡ some vs → text_of (l ∷ ls) ≡ row_line vs ++ text_of ls
unfolding text_of line_end
text_row l vs ls e h =
    ap (λ (b : Bool). (l.content ++ line_end b) ++ text_of ls) e
    ∙ ap (λ (c : List ℕ). (c ++ 10 ∷ []) ++ text_of ls) (sym (row_numbers l.content vs h).0)
    ∙ ap (λ (c : List ℕ). c ++ text_of ls) (sym (row_line_lem vs))

pub text_heading : (l : Line) (h : List ℕ) (ls : List Line) → l.ended ≡ true → l.content ≡ h → text_of (l ∷ ls) ≡ heading_line h ++ text_of ls
unfolding text_of line_end heading_line newline
text_heading l h ls e c = ap₂ (λ (b : Bool) (k : List ℕ). (k ++ line_end b) ++ text_of ls) e c
