-- Readers and rows: what a reader that ends has passed, and rows against their lines.
use Prim.Native.Nat.{ℕ, zero, suc, ◌+◌, ◌*◌, ◌-◌, ◌≤◌}
use native.Mathlib.Omega.{arith}
use native.Mathlib.Nat.{mul-zero}
use mathlib.Core.Path.{◌≡◌, refl, sym, ◌∙◌, ap, ap₂, subst}
use mathlib.Core.Bool.{Bool, true, false, false≢true}
use mathlib.Core.List.{List, [], ◌∷◌, ◌++◌, append_assoc}
use mathlib.Core.Option.{Option, none, some}
use lib.Dec.{leb, eqb}
use lib.IntN.{ℤ}
use lib.ListN.{length, take, drop, length-append, length-drop}
use lib.Seq.{take-add, length-take-le, take_at, drop_at}
use borrow.Author.Tests.{leb-true, eqb-true, le-leb, eq-eqb}
use Rattle.stab.specs.Basic.{◌and◌, all_of}
use Rattle.stab.specs.Text.{Line, lines, numbers, same_bytes, five_digits, row_line, heading_line}
use Rattle.stab.specs.Read.{Reading, read, stopped, ◌and_then◌, require, heading_at, values_of, values, values_at, rows_from}
use Rattle.stab.specs.Write.{row_lines}
use Rattle.stab.specs.declared.Refusal.{Refusal}
use Rattle.stab.proofs.Bools.{and_left, and_right, and_both}
use Rattle.stab.proofs.Texts.Numbers.{same_bytes_true, same_bytes_refl}
use Rattle.stab.proofs.Texts.Lines.{full, row_bytes, text_of, lines_row, numbers_row, row_numbers, text_row, text_heading}

-- ---- steps of a reader

pub read_injective : {A : Type 0} (a b : A) → read a ≡ read b → a ≡ b
read_injective a b e = cc

pub stopped_not_read : {A : Type 0} (why : Refusal) (k : ℕ) (a : A) → stopped why k ≡ read a → ⊥
stopped_not_read why k a e = let z : ◌≡◌ {A = ℕ} 0 1 = cc in omega arith

pub then_read : {A B : Type 0} (r : Reading A) (f : A → Reading B) (b : B) → (r and_then f) ≡ read b → (a : A) × (r ≡ read a) × (f a ≡ read b)
unfolding ◌and_then◌
then_read (read a) f b h = (a, refl, h)
then_read (stopped why k) f b h = absurd (stopped_not_read why k b h)

pub then_is : {A B : Type 0} (r : Reading A) (f : A → Reading B) (a : A) → r ≡ read a → (r and_then f) ≡ f a
unfolding ◌and_then◌
then_is r f a h = ap (λ (q : Reading _). q and_then f) h

pub require_true : {A : Type 0} (t : Bool) (why : Refusal) (k : ℕ) (r : Reading A) → t ≡ true → require t why k r ≡ r
unfolding require
require_true true why k r h = refl
require_true false why k r h = absurd (false≢true h)

pub require_read : {A : Type 0} (t : Bool) (why : Refusal) (k : ℕ) (r : Reading A) (a : A) → require t why k r ≡ read a → (t ≡ true) × (r ≡ read a)
unfolding require
require_read true why k r a h = (refl, h)
require_read false why k r a h = absurd (stopped_not_read why k a h)

-- ---- single lines

pub heading_full : (h : List ℕ) (k : ℕ) (ls : List Line) → heading_at h k (full h ∷ ls) ≡ read ls
unfolding heading_at full
heading_full h k ls = require_true _ _ k (read ls) (and_both _ _ refl (same_bytes_refl h))

pub heading_text : (h : List ℕ) (k : ℕ) (ls rest : List Line) → heading_at h k ls ≡ read rest → text_of ls ≡ heading_line h ++ text_of rest
unfolding heading_at
heading_text h k [] rest e = absurd (stopped_not_read _ k rest e)
heading_text h k (l ∷ ls) rest e =
    let r = require_read (l.ended and same_bytes l.content h) _ k (read ls) rest e in
    text_heading l h ls (and_left _ _ r.0) (same_bytes_true _ _ (and_right l.ended _ r.0))
    ∙ ap (λ (t : List Line). heading_line h ++ text_of t) (read_injective ls rest r.1)

pub values_row : (fits : ℕ → Bool) (k : ℕ) (vs : List ℤ) → 1 ≤ length vs → all_of five_digits vs ≡ true → fits (length vs) ≡ true → values fits k (full (row_bytes vs)) ≡ read vs
unfolding values full require values_of
values_row fits k vs l d h = ap (values_of fits k) (numbers_row vs l d) ∙ require_true (fits (length vs)) _ k (read vs) h

-- what a line is that gives values
pub record Row (fits : ℕ → Bool) (l : Line) (vs : List ℤ) : Type 0 where
  pub whole : l.ended ≡ true
  pub are : numbers l.content ≡ some vs
  pub count : fits (length vs) ≡ true
  pub digits : all_of five_digits vs ≡ true
  pub text : (ls : List Line) → text_of (l ∷ ls) ≡ row_line vs ++ text_of ls

values_of_lem : (fits : ℕ → Bool) (k : ℕ) (o : Option (List ℤ)) (vs : List ℤ) → values_of fits k o ≡ read vs → (o ≡ some vs) × (fits (length vs) ≡ true)
unfolding values_of
values_of_lem fits k none vs h = absurd (stopped_not_read _ k vs h)
values_of_lem fits k (some ws) vs h =
    let r = require_read (fits (length ws)) _ k (read ws) vs h in
    let e = read_injective ws vs r.1 in
    (ap (λ (l : List ℤ). some l) e, subst (λ (l : List ℤ). fits (length l) ≡ true) e r.0)

pub row_values : (fits : ℕ → Bool) (k : ℕ) (l : Line) (vs : List ℤ) → values fits k l ≡ read vs → Row fits l vs
unfolding values
row_values fits k l vs h =
    let r = require_read l.ended _ k (values_of fits k (numbers l.content)) vs h in
    let v = values_of_lem fits k (numbers l.content) vs r.1 in
    record {
      whole = r.0;
      are = v.0;
      count = v.1;
      digits = (row_numbers l.content vs v.0).1;
      text = λ ls. text_row l vs ls r.0 v.0;
    }

pub values_at_row : (fits : ℕ → Bool) (k : ℕ) (vs : List ℤ) (ls : List Line)
    → 1 ≤ length vs → all_of five_digits vs ≡ true → fits (length vs) ≡ true
    → values_at fits k (full (row_bytes vs) ∷ ls) ≡ read (vs, ls)
unfolding values_at ◌and_then◌
values_at_row fits k vs ls l d h = ap (λ (r : Reading (List ℤ)). r and_then λ us. read (us, ls)) (values_row fits k vs l d h)

-- what the lines are that give the one line of values
pub record First (fits : ℕ → Bool) (ls : List Line) (v : List ℤ × List Line) : Type 0 where
  pub count : fits (length v.0) ≡ true
  pub digits : all_of five_digits v.0 ≡ true
  pub text : text_of ls ≡ row_line v.0 ++ text_of v.1

pub first_values : (fits : ℕ → Bool) (k : ℕ) (ls : List Line) (v : List ℤ × List Line) → values_at fits k ls ≡ read v → First fits ls v
unfolding values_at
first_values fits k [] v h = absurd (stopped_not_read _ k v h)
first_values fits k (l ∷ ls) v h =
    let s = then_read (values fits k l) (λ us. read (us, ls)) v h in
    let r = row_values fits k l s.0 s.1 in
    subst (First fits (l ∷ ls)) (read_injective (s.0, ls) v s.2)
    (record { count = r.count; digits = r.digits; text = r.text ls })

-- ---- rows

pub all_append : {A : Type 0} (p : A → Bool) (xs ys : List A) → all_of p xs ≡ true → all_of p ys ≡ true → all_of p (xs ++ ys) ≡ true
unfolding all_of
all_append p [] ys h k = k
all_append p (x ∷ xs) ys h k = and_both _ _ (and_left _ _ h) (all_append p xs ys (and_right (p x) _ h) k)

pub all_front : {A : Type 0} (p : A → Bool) (xs ys : List A) → all_of p (xs ++ ys) ≡ true → all_of p xs ≡ true
unfolding all_of
all_front p [] ys h = refl
all_front p (x ∷ xs) ys h = and_both _ _ (and_left _ _ h) (all_front p xs ys (and_right (p x) _ h))

pub all_back : {A : Type 0} (p : A → Bool) (xs ys : List A) → all_of p (xs ++ ys) ≡ true → all_of p ys ≡ true
unfolding all_of
all_back p [] ys h = h
all_back p (x ∷ xs) ys h = all_back p xs ys (and_right (p x) _ h)

-- the first row of w numbers, and the rows after it
pub take_row : (w n : ℕ) (t : List ℤ) → take (w * suc n) t ≡ take w t ++ take (w * n) (drop w t)
take_row w n t = let e : w * suc n ≡ w + w * n = omega arith in ap (λ (j : ℕ). take j t) e ∙ take-add w (w * n) t

-- one row more in front
pub rows_step : (w m k : ℕ) (l : Line) (ls : List Line) (vs rest : List ℤ)
    → values (eqb w) k l ≡ read vs → 1 ≤ m → rows_from w (m - 1) (suc k) ls ≡ read rest
    → rows_from w m k (l ∷ ls) ≡ read (vs ++ rest)
unfolding rows_from
rows_step w m k l ls vs rest h le r =
    then_is (values (eqb w) k l) _ vs h
    ∙ require_true (leb 1 m) _ k _ (le-leb 1 m le)
    ∙ then_is (rows_from w (m - 1) (suc k) ls) _ rest r

-- rows, written, read back as they were
pub rows_back : (w m k n : ℕ) (t : List ℤ)
    → 1 ≤ w → w * n ≤ length t → n ≤ m → all_of five_digits (take (w * n) t) ≡ true
    → rows_from w m k (lines (row_lines w n t)) ≡ read (take (w * n) t)
unfolding row_lines
rows_back w m k zero t a b c d = unfold lines rows_from in ap (λ (j : ℕ). read (take j t)) (sym (mul-zero w))
rows_back w m k (suc n) t a b c d =
    let held : w + w * n ≤ length t = omega arith in
    let digits = subst (λ (l : List ℤ). all_of five_digits l ≡ true) (take_row w n t) d in
    let size : length (take w t) ≡ w = length-take-le w t (omega arith) in
    ap (rows_from w m k) (lines_row (take w t) (row_lines w n (drop w t)))
    ∙ rows_step w m k (full (row_bytes (take w t))) (lines (row_lines w n (drop w t))) (take w t) (take (w * n) (drop w t))
    (values_row (eqb w) k (take w t) (omega arith) (all_front five_digits (take w t) _ digits) (eq-eqb w _ (sym size)))
    (omega arith)
    (rows_back w (m - 1) (suc k) n (drop w t) a (omega (arith, length-drop w t)) (omega arith)
    (all_back five_digits (take w t) (take (w * n) (drop w t)) digits))
    ∙ ap (λ (l : List ℤ). read l) (sym (take_row w n t))

-- what lines are that give rows: as many as the lines, each of w numbers of at most five digits, and the bytes are theirs
pub record Rows (w m : ℕ) (ls : List Line) (t : List ℤ) : Type 0 where
  pub count : w * length ls ≡ length t
  pub few : length ls ≤ m
  pub digits : all_of five_digits t ≡ true
  pub text : (more : List ℤ) → text_of ls ≡ row_lines w (length ls) (t ++ more)

-- a row in front of rows, as lines
pub front_rows : (w n : ℕ) (vs t : List ℤ) → length vs ≡ w → row_line vs ++ row_lines w n t ≡ row_lines w (suc n) (vs ++ t)
unfolding row_lines
front_rows w n vs t e =
    ap₂ (λ (a b : List ℤ). row_line a ++ row_lines w n b) (sym (take_at vs t w e)) (sym (drop_at vs t w e))

pub rows_are : (w m k : ℕ) (ls : List Line) (t : List ℤ) → rows_from w m k ls ≡ read t → Rows w m ls t
unfolding rows_from
rows_are w m k [] t h =
    subst (Rows w m []) (read_injective [] t h)
    (record { count = omega arith; few = omega arith; digits = unfold all_of in refl; text = λ more. unfold text_of row_lines in refl })
rows_are w m k (l ∷ ls) t h =
    let a = then_read (values (eqb w) k l) _ t h in
    let vs = a.0 in
    let r = row_values (eqb w) k l vs a.1 in
    let b = require_read (leb 1 m) _ k _ t a.2 in
    let c = then_read (rows_from w (m - 1) (suc k) ls) _ t b.1 in
    let rest = c.0 in
    let i = rows_are w (m - 1) (suc k) ls rest c.1 in
    let size = eqb-true w (length vs) r.count in
    subst (Rows w m (l ∷ ls)) (read_injective (vs ++ rest) t c.2)
    (record {
      count = omega (arith, length-append vs rest, i.count);
      few = omega (arith, leb-true 1 m b.0, i.few);
      digits = all_append five_digits vs rest r.digits i.digits;
      text = λ more.
          r.text ls
          ∙ ap (λ (x : List ℕ). row_line vs ++ x) (i.text more)
          ∙ front_rows w (length ls) vs (rest ++ more) (sym size)
          ∙ ap (row_lines w (suc (length ls))) (sym (append_assoc vs rest more));
    })
