-- What is told of a line, part by part; and where nothing is told.
use Prim.Native.Nat.{ℕ, ◌+◌, ◌-◌, ◌<◌, ◌≤◌}
use native.Mathlib.Omega.{arith}
use mathlib.Core.Path.{◌≡◌, sym, ◌∙◌, ap}
use mathlib.Core.Bool.{false}
use mathlib.Core.List.{List, [], ◌∷◌, ◌++◌, append_assoc}
use lib.Dec.{leb}
use lib.IntN.{pos}
use lib.ListN.{length, drop, set, replicate, length-append}
use lib.Seq.{set_at}
use borrow.Author.Tests.{le-leb, lt-leb, leb-true}
use Rattle.stab.specs.Basic.{◌and◌}
use Rattle.stab.specs.Text.{bytes, newline, decimal, heading_line, padded}
use Rattle.stab.proofs.Bools.{and_both, and_first_false, and_second_false, if_true, if_false, same_test}
use Rattle.digits.specs.Over.{over}
use Rattle.digits.proofs.Overs.{over_next, padded_none}
use Rattle.output.proofs.HeadedTexts.{heading_length}
use Rattle.shown.specs.Told.{told, told_in}

-- ---- the parts

pub name_length : (name : List ℕ) → length (name ++ bytes ":") ≡ length name + 1
unfolding bytes
name_length name = length-append name (58 ∷ [])

pub place_length : (d : List ℕ) → length (d ++ bytes ": ") ≡ length d + 2
unfolding bytes
place_length d = length-append d (58 ∷ 32 ∷ [])

-- a colon in the place of byte 10
pub name_end : (name l : List ℕ) (n : ℕ) → n ≡ length (heading_line name) → set (over (heading_line name) l) (n - 1) 58 ≡ over (name ++ bytes ":") l
unfolding over heading_line newline bytes
name_end name l n e =
    ap (λ (r : List ℕ). set r (n - 1) 58) (append_assoc name (10 ∷ []) rest)
    ∙ set_at name 10 rest 58 (n - 1) last
    ∙ sym (append_assoc name (58 ∷ []) rest)
    ∙ ap (λ (k : ℕ). (name ++ 58 ∷ []) ++ drop k l) same
  where
    rest : List ℕ
    rest = drop (length (name ++ 10 ∷ [])) l

    last : length name ≡ n - 1
    last = omega (arith, length-append name (10 ∷ []))

    same : length (name ++ 10 ∷ []) ≡ length (name ++ 58 ∷ [])
    same = omega (arith, length-append name (10 ∷ []), length-append name (58 ∷ []))

-- a colon and a space after the number
pub place_end : (d l out : List ℕ) (n : ℕ) → out ≡ over d l → n ≡ length d → length d + 2 ≤ length l
    → set (set out n 58) (n + 1) 32 ≡ over (d ++ bytes ": ") l
unfolding bytes
place_end d l out n e k h =
    over_next (d ++ 58 ∷ []) l (set out n 58) (n + 1) 32
    (over_next d l out n 58 e k (omega arith))
    (omega (arith, length-append d (58 ∷ [])))
    (omega arith)
    ∙ ap (λ (x : List ℕ). over x l) (append_assoc d (58 ∷ []) (32 ∷ []))

module _ (name : List ℕ) (k : ℕ) (line : List ℕ) where
  pub told_parts : told name k line ≡ (name ++ bytes ":") ++ (decimal (pos k) ++ bytes ": ") ++ heading_line line
  unfolding told heading_line
  told_parts =
      append_assoc (name ++ bytes ":" ++ decimal (pos k) ++ bytes ": ") line (newline ∷ [])
      ∙ ap (λ (x : List ℕ). x ++ (line ++ newline ∷ [])) (append_assoc (name ++ bytes ":") (decimal (pos k)) (bytes ": "))

  pub told_length : length (told name k line) ≡ length name + length line + (length (decimal (pos k)) + 4)
  told_length =
      omega (
        arith,
        ap length told_parts,
        length-append ((name ++ bytes ":") ++ (decimal (pos k) ++ bytes ": ")) (heading_line line),
        length-append (name ++ bytes ":") (decimal (pos k) ++ bytes ": "),
        name_length name,
        place_length (decimal (pos k)),
        heading_length line,
      )

  -- ---- whether it is told in n bytes

  module _ (n : ℕ) where
    untold : (leb 1 k and leb k 99999 and leb (length (told name k line)) n) ≡ false → told_in n name k line ≡ []
    unfolding told_in
    untold e = if_false _ _ _ e

    pub none_told : k ≡ 0 → told_in n name k line ≡ []
    none_told e = untold (and_first_false _ _ (lt-leb 1 k (omega arith)))

    pub over_told : 99999 < k → told_in n name k line ≡ []
    over_told h = untold (and_second_false (leb 1 k) _ (and_first_false _ _ (lt-leb k 99999 h)))

    pub wide_told : n < length (told name k line) → told_in n name k line ≡ []
    wide_told h = untold (and_second_false (leb 1 k) _ (and_second_false (leb k 99999) _ (lt-leb _ n h)))

    pub whole_told : 1 ≤ k → k ≤ 99999 → length (told name k line) ≤ n → told_in n name k line ≡ told name k line
    unfolding told_in
    whole_told a b h = if_true _ _ _ (and_both _ _ (le-leb 1 k a) (and_both _ _ (le-leb k 99999 b) (le-leb _ n h)))

-- what is left of n bytes
pub room_left : (n a b c : ℕ) → a ≤ n → b ≤ n - a → leb c (n - a - b) ≡ leb (a + b + c) n
room_left n a b c h k =
    same_test _ _
    (λ e. le-leb (a + b + c) n (omega (arith, leb-true c (n - a - b) e)))
    (λ e. le-leb c (n - a - b) (omega (arith, leb-true (a + b + c) n e)))

-- nothing, in an output that is all 0
pub nothing : (n : ℕ) (t out : List ℕ) → t ≡ [] → out ≡ replicate n 0 → (0 ≡ length t) × (out ≡ padded 0 n t)
nothing n t out e o = (ap length (sym e), o ∙ padded_none n ∙ ap (padded 0 n) (sym e))
