-- Rows of a text, as the definitions have them and as they are stored.
use Rattle.std.specs.Prelude.{if◌then◌else◌}
use Prim.Native.Nat.{ℕ, suc, ◌+◌, ◌*◌, ◌-◌, ◌<◌, ◌≤◌}
use native.Mathlib.Omega.{arith}
use native.Mathlib.Numerals.{add-one}
use mathlib.Core.Path.{◌≡◌, refl, sym, ◌∙◌, ap, ap₂}
use mathlib.Core.Bool.{Bool, true, false}
use mathlib.Core.List.{List, [], ◌∷◌, ◌++◌, append_assoc, append-nil}
use mathlib.Core.Option.{Option, none, some, none-ne-some, some-injective}
use lib.Dec.{eqb, leb}
use lib.IntN.{ℤ}
use lib.ListN.{length, take, drop, get_or, length-append, length-drop, drop_of_length-le, get_or-append}
use lib.Seq.{sets, sets-eq, length-sets, take_at, take_all, length-take-le, drop-cons, drop-drop}
use borrow.Author.Tests.{eqb-true, eq-eqb, ne_eqb, le-leb, lt-leb}
use Rattle.stab.specs.Text.{Line, lines, fields, in_front_of, number_of, numbers_in, numbers, some_if}
use Rattle.stab.specs.Read.{Reading, read, stopped, ◌and_then◌, require, values_of, values, values_at, rows_from}
use Rattle.stab.specs.declared.Refusal.{Refusal}
use Rattle.stab.specs.declared.Refusal.TheVariants.{TooMany}
use Rattle.stab.specs.declared.Refusal.TheVariants.{Line as BadLine}
use Rattle.numerals.specs.Here.{first_line, after_line, row, first_numbers, number_here, field_end}
use Rattle.text.specs.Rows.{row_front, wanted, RowEnded, RowOpen, past_line, found_by, row_found, row_into, ahead}
use Rattle.text.specs.declared.rows.Found.{Found}
use Rattle.text.specs.declared.rows.Found.TheVariants.{At, Nothing}
use Rattle.numerals.proofs.Lines.{lines_first, lines_nil, some_field, row_ended, row_numbers, first_none, after_ended}

-- ---- how many numbers there are

front_length : (o : Option ℤ) (p : Option (List ℤ)) (vs : List ℤ) → in_front_of o p ≡ some vs → 1 ≤ length vs
unfolding in_front_of
front_length none p vs h = absurd (none-ne-some vs h)
front_length (some z) none vs h = absurd (none-ne-some vs h)
front_length (some z) (some ws) vs h = omega (arith, ap length (some-injective (z ∷ ws) vs h))

-- a row has a number
pub row_length : (xs : List ℕ) (vs : List ℤ) → row xs ≡ some vs → 1 ≤ length vs
unfolding row numbers
row_length xs vs h = go (first_line xs).ended h
  where
    go : (t : Bool) → (if t then numbers_in (fields (first_line xs).content) else none) ≡ some vs → 1 ≤ length vs
    go true e =
        let g = some_field (first_line xs).content in
        front_length (number_of g.0) (numbers_in g.1) vs (unfold numbers_in in sym (ap numbers_in g.2) ∙ e)
    go false e = absurd (none-ne-some vs e)

-- ---- as many as required

pub wanted_if : (fits : ℕ → Bool) (vs : List ℤ) → fits (length vs) ≡ true → wanted fits (some vs) ≡ some vs
unfolding wanted some_if
wanted_if fits vs h = ap (λ (t : Bool). some_if t vs) h

pub wanted_not : (fits : ℕ → Bool) (vs : List ℤ) → fits (length vs) ≡ false → wanted fits (some vs) ≡ none
unfolding wanted some_if
wanted_not fits vs h = ap (λ (t : Bool). some_if t vs) h

pub wanted_some : (fits : ℕ → Bool) (o : Option (List ℤ)) (vs : List ℤ) → wanted fits o ≡ some vs → (o ≡ some vs) × (fits (length vs) ≡ true)
unfolding wanted
wanted_some fits none vs h = absurd (none-ne-some vs h)
wanted_some fits (some us) vs h = go (fits (length us)) refl h
  where
    go : (t : Bool) → fits (length us) ≡ t → some_if t us ≡ some vs → (some us ≡ some vs) × (fits (length vs) ≡ true)
    go true e q = unfold some_if in (q, ap (λ (ws : List ℤ). fits (length ws)) (sym (some-injective us vs q)) ∙ e)
    go false e q = unfold some_if in absurd (none-ne-some vs q)

-- the place after a row's line
pub past_row : (text : List ℕ) (at : ℕ) (vs : List ℤ) → row (drop at text) ≡ some vs
    → (after_line (drop at text) ≡ drop (past_line text at) text) × (at < past_line text at) × (past_line text at ≤ length text)
unfolding past_line
past_row text at vs h =
    let e = after_ended (drop at text) (row_ended (drop at text) vs h) in
    let n = length (first_line (drop at text)).content in
    (e.0 ∙ drop-drop (suc n) at text, omega arith, omega (arith, e.1, length-drop at text))

pub past_only : (text : List ℕ) (at : ℕ) (vs : List ℤ) (next : ℕ) → row (drop at text) ≡ some vs → after_line (drop at text) ≡ drop next text → next ≤ length text → next ≡ past_line text at
past_only text at vs next h e l =
    let p = past_row text at vs h in
    omega (arith, p.2, ap length (sym e ∙ p.0), length-drop next text, length-drop (past_line text at) text)

module _ (text : List ℕ) (at : ℕ) (t : List ℤ) (to w : ℕ) (t' : List ℤ) where
  abbrev here : Option (List ℤ)
  here = row (drop at text)

  -- what is found, as a function of the row
  pub found_nothing : wanted (eqb w) here ≡ none → Nothing ≡ row_found text at w
  unfolding row_found found_by
  found_nothing h = sym (ap (λ (o : Option (List ℤ)). found_by o (past_line text at)) h)

  pub found_at : (next : ℕ) → RowEnded text at t to t' (to + w) next → At next ≡ row_found text at w
  unfolding row_found found_by
  found_at next r =
      ap At (past_only text at r.vs next r.numbers r.rest r.within)
      ∙ sym (ap (λ (o : Option (List ℤ)). found_by o (past_line text at)) (ap (wanted (eqb w)) r.numbers ∙ wanted_if (eqb w) r.vs (eq-eqb w _ (omega (arith, r.count)))))

  pub row_bad : here ≡ none → wanted (eqb w) here ≡ none
  unfolding wanted
  row_bad h = ap (wanted (eqb w)) h

  -- another number of numbers
  pub row_short : (to' next : ℕ) → (to' ≡ to + w → ⊥) → RowEnded text at t to t' to' next → wanted (eqb w) here ≡ none
  row_short to' next n r =
      ap (wanted (eqb w)) r.numbers ∙ wanted_not (eqb w) r.vs (ne_eqb w _ (λ e. n (r.count ∙ ap (λ (k : ℕ). to + k) (sym e))))

  -- more numbers
  pub row_long : (next : ℕ) → RowOpen text at t to t' (to + w) next → wanted (eqb w) here ≡ none
  unfolding row_front
  row_long next r = go (row (drop next text)) refl
    where
      go : (o : Option (List ℤ)) → row (drop next text) ≡ o → wanted (eqb w) here ≡ none
      go none e = row_bad (r.numbers ∙ ap (row_front r.vs) e)
      go (some us) e =
          let l = row_length (drop next text) us e in
          ap (wanted (eqb w)) (r.numbers ∙ ap (row_front r.vs) e)
          ∙ wanted_not (eqb w) (r.vs ++ us) (ne_eqb w _ (λ q. omega (arith, r.count, length-append r.vs us)))

-- a row of w numbers, into a table from `to` on
abbrev pub RowOf : List ℕ → ℕ → List ℤ → ℕ → ℕ → List ℤ → Found → Type 0
RowOf text at t to w t' Nothing = wanted (eqb w) (row (drop at text)) ≡ none
RowOf text at t to w t' (At next) = RowEnded text at t to t' (to + w) next

pub row_of : (text : List ℕ) (at : ℕ) (t : List ℤ) (to w : ℕ) → RowOf text at t to w (row_into text at w to t) (row_found text at w)
unfolding row_found row_into found_by
row_of text at t to w = go (wanted (eqb w) (row (drop at text))) refl
  where
    go : (o : Option (List ℤ)) → wanted (eqb w) (row (drop at text)) ≡ o → RowOf text at t to w (sets t to (take w (first_numbers (drop at text)))) (found_by o (past_line text at))
    go none h = h
    go (some vs) h =
        let q = wanted_some (eqb w) (row (drop at text)) vs h in
        let c = eqb-true w (length vs) q.1 in
        let p = past_row text at vs q.0 in
        record {
          vs = vs;
          numbers = q.0;
          table = ap (sets t to) (ap (take w) (row_numbers (drop at text) vs q.0) ∙ take_all w vs (omega arith));
          count = ap (λ (n : ℕ). to + n) c;
          rest = p.0;
          ahead = p.1;
          within = p.2;
        }

-- ---- what a line leaves in a table

pub into_length : (text : List ℕ) (at w to : ℕ) (t : List ℤ) → length (row_into text at w to t) ≡ length t
unfolding row_into
into_length text at w to t = length-sets t to (take w (first_numbers (drop at text)))

-- a line that starts with no number
pub into_none : (text : List ℕ) (at w to : ℕ) (t : List ℤ) → first_numbers (drop at text) ≡ [] → t ≡ row_into text at w to t
unfolding row_into
into_none text at w to t h = sym (ap (λ (vs : List ℤ). sets t to (take w vs)) h ∙ ap (sets t to) (take_all w [] (omega arith)))

pub first_over : (text : List ℕ) (at : ℕ) → length text ≤ at → first_numbers (drop at text) ≡ []
first_over text at l = ap first_numbers (drop_of_length-le text l) ∙ first_none [] (unfold number_here field_end in refl)

pub into_over : (text : List ℕ) (at w to : ℕ) (t : List ℤ) → length text ≤ at → t ≡ row_into text at w to t
into_over text at w to t l = into_none text at w to t (first_over text at l)

-- ---- the definitions' lines

-- what the definitions make of the numbers of line k
unfoldable pub line_read : ℕ → Option (List ℤ) → Reading (List ℤ)
line_read k none = stopped BadLine k
line_read k (some vs) = read vs

pub values_are : (fits : ℕ → Bool) (k : ℕ) (xs : List ℕ) → values fits k (first_line xs) ≡ line_read k (wanted fits (row xs))
unfolding values row require
values_are fits k xs = go (first_line xs).ended (numbers (first_line xs).content)
  where
    count : (t : Bool) (vs : List ℤ) → require t BadLine k (read vs) ≡ line_read k (some_if t vs)
    count true vs = unfold line_read some_if in refl
    count false vs = unfold line_read some_if in refl

    go : (t : Bool) (o : Option (List ℤ)) → require t BadLine k (values_of fits k o) ≡ line_read k (wanted fits (if t then o else none))
    go true none = unfold values_of wanted line_read in refl
    go true (some vs) = unfold values_of wanted in count (fits (length vs)) vs
    go false o = unfold wanted line_read in refl

pub ahead_none : (r : Reading (List ℤ)) → ahead [] r ≡ r
unfolding ahead ◌and_then◌
ahead_none (read vs) = refl
ahead_none (stopped why k) = refl

pub ahead_ahead : (us vs : List ℤ) (r : Reading (List ℤ)) → ahead us (ahead vs r) ≡ ahead (us ++ vs) r
unfolding ahead ◌and_then◌
ahead_ahead us vs (read ws) = ap read (sym (append_assoc us vs ws))
ahead_ahead us vs (stopped why k) = refl

module _ (w m k x : ℕ) (xs : List ℕ) where
  pub rows_bad : wanted (eqb w) (row (x ∷ xs)) ≡ none → rows_from w m k (lines (x ∷ xs)) ≡ stopped BadLine k
  unfolding rows_from ◌and_then◌ line_read
  rows_bad h =
      ap (rows_from w m k) (lines_first x xs)
      ∙ ap (λ (r : Reading (List ℤ)). r and_then λ vs. require (leb 1 m) TooMany k (rows_from w (m - 1) (suc k) (lines (after_line (x ∷ xs))) and_then λ rest. read (vs ++ rest)))
      (values_are (eqb w) k (x ∷ xs) ∙ ap (line_read k) h)

  rows_read_lem : (vs : List ℤ) → wanted (eqb w) (row (x ∷ xs)) ≡ some vs
      → rows_from w m k (lines (x ∷ xs)) ≡ require (leb 1 m) TooMany k (ahead vs (rows_from w (m - 1) (suc k) (lines (after_line (x ∷ xs)))))
  unfolding rows_from ◌and_then◌ line_read ahead
  rows_read_lem vs h =
      ap (rows_from w m k) (lines_first x xs)
      ∙ ap (λ (r : Reading (List ℤ)). r and_then λ vs. require (leb 1 m) TooMany k (rows_from w (m - 1) (suc k) (lines (after_line (x ∷ xs))) and_then λ rest. read (vs ++ rest)))
      (values_are (eqb w) k (x ∷ xs) ∙ ap (line_read k) h)

  pub rows_many : (vs : List ℤ) → wanted (eqb w) (row (x ∷ xs)) ≡ some vs → m ≡ 0 → rows_from w m k (lines (x ∷ xs)) ≡ stopped TooMany k
  unfolding require
  rows_many vs h e =
      rows_read_lem vs h
      ∙ ap (λ (t : Bool). require t TooMany k (ahead vs (rows_from w (m - 1) (suc k) (lines (after_line (x ∷ xs)))))) (lt-leb 1 m (omega arith))

  pub rows_more : (vs : List ℤ) → wanted (eqb w) (row (x ∷ xs)) ≡ some vs → 1 ≤ m
      → rows_from w m k (lines (x ∷ xs)) ≡ ahead vs (rows_from w (m - 1) (k + 1) (lines (after_line (x ∷ xs))))
  unfolding require
  rows_more vs h l =
      rows_read_lem vs h
      ∙ ap (λ (t : Bool). require t TooMany k (ahead vs (rows_from w (m - 1) (suc k) (lines (after_line (x ∷ xs)))))) (le-leb 1 m l)
      ∙ ap (λ (j : ℕ). ahead vs (rows_from w (m - 1) j (lines (after_line (x ∷ xs))))) (sym (add-one k))

-- ---- rows that are stored

pub take_sets : (vs t : List ℤ) (i : ℕ) → i + length vs ≤ length t → take (i + length vs) (sets t i vs) ≡ take i t ++ vs
take_sets vs t i h =
    ap (take (i + length vs)) (sets-eq vs t i h)
    ∙ take_at (take i t ++ vs) (drop (i + length vs) t) (i + length vs) (length-append (take i t) vs ∙ ap (λ (n : ℕ). n + length vs) (length-take-le i t (omega arith)))

-- ---- the loop over rows: n of them are stored, and the rest of the text starts at i

module _ (text : List ℕ) (w most line : ℕ) where
  -- what the whole comes to
  unfoldable pub rows_so_far : List ℤ → ℕ → ℕ → Reading (List ℤ)
  rows_so_far t n i = ahead (take (w * n) t) (rows_from w (most - n) (line + n) (lines (drop i text)))

  pub rows_done : (t : List ℤ) (n i : ℕ) → length text ≤ i → rows_so_far t n i ≡ read (take (w * n) t)
  unfolding rows_so_far rows_from ahead ◌and_then◌
  rows_done t n i l =
      ap (λ (ls : List Line). ahead (take (w * n) t) (rows_from w (most - n) (line + n) ls)) (ap lines (drop_of_length-le text l) ∙ lines_nil)
      ∙ ap read (append-nil (take (w * n) t))

  module _ (t : List ℤ) (n i : ℕ) (l : i < length text) where
    first : drop i text ≡ get_or text i 256 ∷ drop (suc i) text
    first = drop-cons text i 256 l

    pub rows_stop : wanted (eqb w) (row (drop i text)) ≡ none → rows_so_far t n i ≡ stopped BadLine (line + n)
    unfolding rows_so_far ahead ◌and_then◌
    rows_stop h =
        ap (ahead (take (w * n) t))
        (ap (λ (xs : List ℕ). rows_from w (most - n) (line + n) (lines xs)) first
        ∙ rows_bad w (most - n) (line + n) (get_or text i 256) (drop (suc i) text) (ap (λ (xs : List ℕ). wanted (eqb w) (row xs)) (sym first) ∙ h))

    module _ (t' : List ℤ) (next : ℕ) (r : RowEnded text i t (w * n) t' (w * n + w) next) where
      count : length r.vs ≡ w
      count = omega (arith, r.count)

      fits : wanted (eqb w) (row (get_or text i 256 ∷ drop (suc i) text)) ≡ some r.vs
      fits =
          ap (λ (xs : List ℕ). wanted (eqb w) (row xs)) (sym first)
          ∙ ap (wanted (eqb w)) r.numbers
          ∙ wanted_if (eqb w) r.vs (eq-eqb w _ (sym count))

      pub rows_full : most ≤ n → rows_so_far t n i ≡ stopped TooMany (line + n)
      unfolding rows_so_far ahead ◌and_then◌
      rows_full h =
          ap (ahead (take (w * n) t))
          (ap (λ (xs : List ℕ). rows_from w (most - n) (line + n) (lines xs)) first
          ∙ rows_many w (most - n) (line + n) (get_or text i 256) (drop (suc i) text) r.vs fits (omega arith))

      pub rows_next : n < most → w * n + w ≤ length t → rows_so_far t n i ≡ rows_so_far t' (n + 1) next
      unfolding rows_so_far
      rows_next h room =
          let a : most - n - 1 ≡ most - (n + 1) = omega arith in
          let b : line + n + 1 ≡ line + (n + 1) = omega arith in
          let c : w * n + length r.vs ≡ w * (n + 1) = omega (arith, count) in
          let d : after_line (get_or text i 256 ∷ drop (suc i) text) ≡ drop next text = ap after_line (sym first) ∙ r.rest in
          let e : take (w * n) t ++ r.vs ≡ take (w * (n + 1)) t' =
          sym (take_sets r.vs t (w * n) (omega (arith, count))) ∙ ap₂ take c (sym r.table) in
          ap (λ (xs : List ℕ). ahead (take (w * n) t) (rows_from w (most - n) (line + n) (lines xs))) first
          ∙ ap (ahead (take (w * n) t)) (rows_more w (most - n) (line + n) (get_or text i 256) (drop (suc i) text) r.vs fits (omega arith))
          ∙ ahead_ahead _ _ _
          ∙ ap₂ (λ (vs : List ℤ) (r : Reading (List ℤ)). ahead vs r) e
          (ap₂ (λ (m k : ℕ). rows_from w m k (lines (after_line (get_or text i 256 ∷ drop (suc i) text)))) a b
          ∙ ap (λ (xs : List ℕ). rows_from w (most - (n + 1)) (line + (n + 1)) (lines xs)) d)

-- ---- a reading that goes on, or stops

pub then_stops : {A B : Type 0} (r : Reading A) (f : A → Reading B) (why : Refusal) (k : ℕ) → r ≡ stopped why k → (r and_then f) ≡ stopped why k
unfolding ◌and_then◌
then_stops r f why k h = ap (λ s. s and_then f) h

-- ---- the one line of values

values_at_lem : (fits : ℕ → Bool) (k : ℕ) (xs : List ℕ)
    → values_at fits k (lines xs) ≡ (line_read k (wanted fits (row xs)) and_then λ vs. read (vs, lines (after_line xs)))
unfolding values_at ◌and_then◌
values_at_lem fits k [] = ap (values_at fits k) lines_nil ∙ unfold line_read wanted row first_line in refl
values_at_lem fits k (x ∷ xs) =
    ap (values_at fits k) (lines_first x xs)
    ∙ ap (λ (r : Reading (List ℤ)). r and_then λ vs. read (vs, lines (after_line (x ∷ xs)))) (values_are fits k (x ∷ xs))

pub values_stop : (fits : ℕ → Bool) (k : ℕ) (xs : List ℕ) → wanted fits (row xs) ≡ none → values_at fits k (lines xs) ≡ stopped BadLine k
unfolding line_read ◌and_then◌
values_stop fits k xs h = values_at_lem fits k xs ∙ ap (λ (o : Option (List ℤ)). line_read k o and_then λ vs. read (vs, lines (after_line xs))) h

values_read : (fits : ℕ → Bool) (k : ℕ) (xs : List ℕ) (vs : List ℤ) → wanted fits (row xs) ≡ some vs → values_at fits k (lines xs) ≡ read (vs, lines (after_line xs))
unfolding line_read ◌and_then◌
values_read fits k xs vs h = values_at_lem fits k xs ∙ ap (λ (o : Option (List ℤ)). line_read k o and_then λ vs. read (vs, lines (after_line xs))) h

sets_front : (vs t : List ℤ) (i : ℕ) (d : ℤ) → length vs ≤ length t → i < length vs → get_or (sets t 0 vs) i d ≡ get_or vs i d
sets_front vs t i d l h = ap (λ (u : List ℤ). get_or u i d) (sets-eq vs t 0 (omega arith)) ∙ get_or-append vs (drop (0 + length vs) t) d i h

-- numbers of line k that stand in front of a table
pub record Front (w k : ℕ) (ls : List Line) (t : List ℤ) (rest : List Line) : Type 0 where
  pub vs : List ℤ
  pub values : values_at (eqb w) k ls ≡ read (vs, rest)
  pub at : (i : ℕ) (d : ℤ) → i < w → get_or t i d ≡ get_or vs i d

pub front : (text : List ℕ) (at : ℕ) (t : List ℤ) (w k : ℕ) (t' : List ℤ) (next : ℕ) → RowEnded text at t 0 t' (0 + w) next → w ≤ length t
    → Front w k (lines (drop at text)) t' (lines (drop next text))
front text at t w k t' next r l =
    let c : length r.vs ≡ w = omega (arith, r.count) in
    record {
      vs = r.vs;
      values =
          values_read (eqb w) k (drop at text) r.vs (ap (wanted (eqb w)) r.numbers ∙ wanted_if (eqb w) r.vs (eq-eqb w _ (sym c)))
          ∙ ap (λ (xs : List ℕ). read (r.vs, lines xs)) r.rest;
      at = λ i d h. ap (λ (u : List ℤ). get_or u i d) r.table ∙ sets_front r.vs t i d (omega arith) (omega arith);
    }
