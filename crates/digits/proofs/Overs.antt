-- Texts written one after the other into what is left of an output.
use Prim.Native.Nat.{ℕ, suc, ◌+◌, ◌-◌, ◌<◌, ◌≤◌, ◌^◌}
use native.Mathlib.Omega.{arith}
use mathlib.Core.Path.{◌≡◌, refl, sym, ◌∙◌, ap, ap₂}
use mathlib.Core.List.{List, [], ◌∷◌, ◌++◌, append_assoc, append-nil}
use lib.ListN.{length, take, drop, get_or, set, length-append, length-drop, drop_of_length-le, replicate}
use lib.Seq.{drop-cons, take-suc, take_all, take-append_seam, drop-append_seam, drop-drop, set_at, length-take-le}
use borrow.Rule.Slice.PartMut.{mid_of, put_mid}
use mir.Syntax.{w64}
use mir.Val.{Fits}
use Rattle.stab.specs.Text.{padded}
use Rattle.digits.specs.Over.{over}

pub over_length : (x l : List ℕ) → length x ≤ length l → length (over x l) ≡ length l
unfolding over
over_length x l h = omega (arith, length-append x (drop (length x) l), length-drop (length x) l)

-- one text, and after it another into what is left
pub over_more : (x y l : List ℕ) → take (length x) (over x l) ++ over y (drop (length x) (over x l)) ≡ over (x ++ y) l
unfolding over
over_more x y l =
    ap₂ (λ (a b : List ℕ). a ++ (y ++ drop (length y) b)) (take-append_seam x (drop (length x) l)) (drop-append_seam x (drop (length x) l))
    ∙ sym (append_assoc x y (drop (length y) (drop (length x) l)))
    ∙ ap (λ (r : List ℕ). (x ++ y) ++ r) (drop-drop (length y) (length x) l)
    ∙ ap (λ (n : ℕ). (x ++ y) ++ drop n l) (sym (length-append x y))

-- one text, and after it a byte
pub over_byte : (x l : List ℕ) (b : ℕ) → length x < length l → set (over x l) (length x) b ≡ over (x ++ b ∷ []) l
unfolding over
over_byte x l b h =
    ap (λ (r : List ℕ). set (x ++ r) (length x) b) (drop-cons l (length x) 0 h)
    ∙ set_at x (get_or l (length x) 0) (drop (suc (length x)) l) b (length x) refl
    ∙ sym (append_assoc x (b ∷ []) (drop (suc (length x)) l))
    ∙ ap (λ (n : ℕ). (x ++ b ∷ []) ++ drop n l) more
  where
    more : suc (length x) ≡ length (x ++ b ∷ [])
    more = omega (arith, length-append x (b ∷ []))

pub over_next : (x l out : List ℕ) (i b : ℕ) → out ≡ over x l → i ≡ length x → i < length l → set out i b ≡ over (x ++ b ∷ []) l
over_next x l out i b e n h = ap₂ (λ (o : List ℕ) (k : ℕ). set o k b) e n ∙ over_byte x l b (omega arith)

pub over_none : (l : List ℕ) → l ≡ over [] l
unfolding over
over_none l = refl

-- from the last place to the first: the front as it was, and after it the new
pub back_step : (l f : List ℕ) (i b : ℕ) → i < length l → i < length f → get_or f i 0 ≡ b
    → set (take (suc i) l ++ drop (suc i) f) i b ≡ take i l ++ drop i f
back_step l f i b h k e =
    ap (λ (r : List ℕ). set (r ++ drop (suc i) f) i b) (take-suc l i 0 h)
    ∙ ap (λ (r : List ℕ). set r i b) (append_assoc (take i l) (get_or l i 0 ∷ []) (drop (suc i) f))
    ∙ set_at (take i l) (get_or l i 0) (drop (suc i) f) b i (length-take-le i l (omega arith))
    ∙ ap (λ (a : ℕ). take i l ++ a ∷ drop (suc i) f) (sym e)
    ∙ ap (λ (r : List ℕ). take i l ++ r) (sym (drop-cons f i 0 k))

-- ---- the end of the output from `at` on, lent and given back

pub rest_whole : (at : ℕ) (out : List ℕ) → mid_of at (length out - at) out ≡ drop at out
rest_whole at out = take_all (length out - at) (drop at out) (omega (arith, length-drop at out))

pub rest_back : (at : ℕ) (out ys : List ℕ) → put_mid at (length out - at) out ys ≡ take at out ++ ys
rest_back at out ys =
    ap (λ (r : List ℕ). take at out ++ (ys ++ r)) (drop_of_length-le (drop at out) {i = length out - at} (omega (arith, length-drop at out)))
    ∙ ap (λ (r : List ℕ). take at out ++ r) (append-nil ys)

-- x is written, and there is room for y after it
pub record Room (x y l out : List ℕ) (at : ℕ) : Type 0 where
  pub is : out ≡ over x l
  pub ends : at ≡ length x
  pub fits : length (x ++ y) ≤ length l

module _ {x y l out : List ℕ} {at : ℕ} (r : Room x y l out at) where
  short : length x + length y ≤ length l
  short = omega (arith, length-append x y, r.fits)

  same : length out ≡ length l
  same = ap length r.is ∙ over_length x l (omega (arith, short))

  pub lent_start : at ≤ length out
  lent_start = omega (arith, short, r.ends, same)

  pub lent_room : length y ≤ length (mid_of at (length out - at) out)
  lent_room = omega (arith, short, r.ends, same, ap length (rest_whole at out), length-drop at out)

  -- y is written
  module _ {last : List ℕ} (w : last ≡ over y (mid_of at (length out - at) out)) where
    pub lent_over : put_mid at (length out - at) out last ≡ over (x ++ y) l
    lent_over =
        rest_back at out last
        ∙ ap (λ (o : List ℕ). take at out ++ o) (w ∙ ap (over y) (rest_whole at out))
        ∙ ap₂ (λ (k : ℕ) (o : List ℕ). take k o ++ over y (drop k o)) r.ends r.is
        ∙ over_more x y l

    pub lent_length : length (put_mid at (length out - at) out last) ≡ length l
    lent_length = ap length lent_over ∙ over_length (x ++ y) l r.fits

  pub lent_count : {k : ℕ} → k ≡ length y → at + k ≡ length (x ++ y)
  lent_count {k} w = omega (arith, length-append x y, r.ends)

  pub count_fits : {k : ℕ} → k ≡ length y → length l < 2 ^ 64 → Fits w64 (at + k)
  count_fits {k} w h = record { fits = omega (arith, lent_count w, r.fits) }

-- ---- 0 past the text

pub padded_none : (n : ℕ) → replicate {A = ℕ} n 0 ≡ padded 0 n []
unfolding padded
padded_none n = let e : n ≡ n - 0 = omega arith in ap (λ (k : ℕ). replicate {A = ℕ} k 0) e

pub padded_rest : (k : ℕ) (l z : List ℕ) → k ≤ length l → z ≡ replicate (length (mid_of k (length l - k) l)) 0
    → put_mid k (length l - k) l z ≡ padded 0 (length l) (take k l)
unfolding padded
padded_rest k l z h e = rest_back k l z ∙ ap (λ (y : List ℕ). take k l ++ y) (e ∙ ap (λ (n : ℕ). replicate {A = ℕ} n 0) count)
  where
    count : length (mid_of k (length l - k) l) ≡ length l - length (take k l)
    count = omega (arith, ap length (rest_whole k l), length-drop k l, length-take-le k l h)

pub padded_over : (x l : List ℕ) → length x ≤ length l → padded 0 (length (over x l)) (take (length x) (over x l)) ≡ padded 0 (length l) x
unfolding over
padded_over x l h = ap₂ (padded 0) (over_length x l h) (take-append_seam x (drop (length x) l))
