-- Laws of a table that keeps four numbers for each row or node: what stands in it after those of one are kept.
use Prim.Native.Nat.{ℕ, ◌+◌, ◌*◌, ◌<◌}
use native.Mathlib.Omega.{arith}
use mathlib.Core.Path.{◌≡◌, ◌∙◌, ap}
use mathlib.Core.List.{List}
use lib.ListN.{length, get_or, set, length-set}
use lib.Seq.{get_or-set_same, get_or-set_other}
use Rattle.formula.specs.Kept.{kept}

-- the first of the four, by its place
pub first_at_lem : (t : List ℕ) (i : ℕ) → get_or t (4 * i + 0) 0 ≡ get_or t (4 * i) 0
first_at_lem t i = let e : 4 * i + 0 ≡ 4 * i = omega arith in ap (λ (x : ℕ). get_or t x 0) e

module _ (t : List ℕ) (i a b c d : ℕ) where
  -- the table after the first store, the second and the third
  abbrev once : List ℕ
  once = set t (4 * i) a

  abbrev twice : List ℕ
  twice = set once (4 * i + 1) b

  abbrev thrice : List ℕ
  thrice = set twice (4 * i + 2) c

  -- what stands anywhere but at the four places
  pub kept_other : (x : ℕ) → ((k : ℕ) → k < 4 → x ≡ 4 * i + k → ⊥) → get_or (kept t i a b c d) x 0 ≡ get_or t x 0
  unfolding kept
  kept_other x f =
      get_or-set_other thrice (4 * i + 3) x d 0 (λ q. f 3 (omega arith) q)
      ∙ get_or-set_other twice (4 * i + 2) x c 0 (λ q. f 2 (omega arith) q)
      ∙ get_or-set_other once (4 * i + 1) x b 0 (λ q. f 1 (omega arith) q)
      ∙ get_or-set_other t (4 * i) x a 0 (λ q. f 0 (omega arith) (omega arith))

  pub kept_length : length (kept t i a b c d) ≡ length t
  unfolding kept
  kept_length = simp length-set

  -- at the four places
  module _ (room : 4 * i + 3 < length t) where
    pub kept_first : get_or (kept t i a b c d) (4 * i) 0 ≡ a
    unfolding kept
    kept_first =
        get_or-set_other thrice (4 * i + 3) (4 * i) d 0 (λ q. omega arith)
        ∙ get_or-set_other twice (4 * i + 2) (4 * i) c 0 (λ q. omega arith)
        ∙ get_or-set_other once (4 * i + 1) (4 * i) b 0 (λ q. omega arith)
        ∙ get_or-set_same t (4 * i) a 0 (omega arith)

    pub kept_second : get_or (kept t i a b c d) (4 * i + 1) 0 ≡ b
    unfolding kept
    kept_second =
        get_or-set_other thrice (4 * i + 3) (4 * i + 1) d 0 (λ q. omega arith)
        ∙ get_or-set_other twice (4 * i + 2) (4 * i + 1) c 0 (λ q. omega arith)
        ∙ get_or-set_same once (4 * i + 1) b 0 (simp length-set (omega arith))

    pub kept_third : get_or (kept t i a b c d) (4 * i + 2) 0 ≡ c
    unfolding kept
    kept_third =
        get_or-set_other thrice (4 * i + 3) (4 * i + 2) d 0 (λ q. omega arith)
        ∙ get_or-set_same twice (4 * i + 2) c 0 (simp length-set (omega arith))

    pub kept_fourth : get_or (kept t i a b c d) (4 * i + 3) 0 ≡ d
    unfolding kept
    kept_fourth = get_or-set_same thrice (4 * i + 3) d 0 (simp length-set (omega arith))
