-- Rows written into a table, one after the other.
use Prim.Native.Nat.{ℕ, suc, ◌+◌, ◌*◌, ◌≤◌}
use native.Mathlib.Omega.{arith}
use mathlib.Core.Path.{◌≡◌, refl, sym, ◌∙◌, ap}
use mathlib.Core.List.{List, [], ◌∷◌, ◌++◌}
use lib.IntN.{ℤ, pos}
use lib.ListN.{length, set, take, drop}
use lib.Seq.{sets, length-sets, sets-eq, take_at}
use Rattle.stab.specs.Formula.{Row}
use Rattle.stab.specs.Text.{padded}
use Rattle.signed.specs.Numbers.{cleared}
use Rattle.signed.proofs.Tables.{cleared_padded}
use Rattle.wide.specs.Plain.{row, columns}
use Rattle.wide.proofs.Tables.{columns_length, columns_append}
use Rattle.convert.specs.Emission.{written}

sets_append : (t : List ℤ) (i : ℕ) (xs ys : List ℤ) → sets (sets t i xs) (i + length xs) ys ≡ sets t i (xs ++ ys)
sets_append t i [] ys = let e : i + 0 ≡ i = omega arith in ap (λ (j : ℕ). sets t j ys) e
sets_append t i (x ∷ xs) ys =
    let e : i + suc (length xs) ≡ suc i + length xs = omega arith in
    ap (λ (j : ℕ). sets (sets (set t i x) (suc i) xs) j ys) e ∙ sets_append (set t i x) (suc i) xs ys

-- four stores are a row
pub four_stores : (t : List ℤ) (s k : ℕ) (a b c : ℤ) → set (set (set (set t (4 * s) (pos k)) (4 * s + 1) a) (4 * s + 2) b) (4 * s + 3) c ≡ written t s (row k a b c ∷ [])
unfolding written columns row
four_stores t s k a b c =
    let i : ℕ = 4 * s in
    let p : i + 1 ≡ suc i = omega arith in
    let q : i + 2 ≡ suc (suc i) = omega arith in
    let r : i + 3 ≡ suc (suc (suc i)) = omega arith in
    λ j. set (set (set (set t i (pos k)) (p j) a) (q j) b) (r j) c

module _ (t : List ℤ) (s : ℕ) where
  pub written_length : (ws : List Row) → length (written t s ws) ≡ length t
  unfolding written
  written_length ws = length-sets t (4 * s) (columns ws)

  -- rows after rows
  pub written_append : (m : ℕ) (vs ws : List Row) → m ≡ s + length vs → written (written t s vs) m ws ≡ written t s (vs ++ ws)
  unfolding written
  written_append m vs ws e =
      let f : 4 * m ≡ 4 * s + length (columns vs) = omega (arith, columns_length vs) in
      ap (λ (j : ℕ). sets (sets t (4 * s) (columns vs)) j (columns ws)) f
      ∙ sets_append t (4 * s) (columns vs) (columns ws)
      ∙ ap (sets t (4 * s)) (sym (columns_append vs ws))

-- what is written from the first row on stands in front
pub written_front : (t : List ℤ) (m : ℕ) (ws : List Row) → m ≡ length ws → 4 * m ≤ length t → take (4 * m) (written t 0 ws) ≡ columns ws
unfolding written
written_front t m ws e h =
    let n : ℕ = length (columns ws) in
    let f : n ≡ 4 * m = omega (arith, columns_length ws) in
    ap (take (4 * m)) (sets-eq (columns ws) t 0 (omega arith)) ∙ take_at (columns ws) (drop (0 + n) t) (4 * m) f

-- one run of rows, then another
pub then_written : (t : List ℤ) {u v : List ℤ} (s m : ℕ) (vs ws : List Row) {xs : List Row} → u ≡ written t s vs → v ≡ written u m ws → m ≡ s + length vs → vs ++ ws ≡ xs → v ≡ written t s xs
then_written t s m vs ws p q e h =
    q ∙ ap (λ (l : List ℤ). written l m ws) p ∙ written_append t s m vs ws e ∙ ap (written t s) h

-- and past it is 0
pub filled_is : (t : List ℤ) {u : List ℤ} (m : ℕ) (ws : List Row) → u ≡ written t 0 ws → m ≡ length ws → 4 * m ≤ length t → cleared u (4 * m) ≡ padded (pos 0) (length t) (columns ws)
filled_is t {u} m ws p e h =
    let l = ap length p ∙ written_length t 0 ws in
    cleared_padded u (4 * m) (length t) (omega arith) l ∙ ap (λ (v : List ℤ). padded (pos 0) (length t) (take (4 * m) v)) p ∙ ap (padded (pos 0) (length t)) (written_front t m ws e h)

pub emptied_is : (t : List ℤ) → cleared t 0 ≡ padded (pos 0) (length t) []
emptied_is t = cleared_padded t 0 (length t) (omega arith) refl
