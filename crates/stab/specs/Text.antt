-- 01, "Model, texts, lines": numbers, lines, headings.
use Rattle.std.specs.Prelude.{ℕ, zero, suc, ◌+◌, ◌*◌, ◌-◌, ◌/◌, ◌%◌, Bool, true, false, not, List, [], ◌∷◌, ◌++◌, leb, ltb, eqb, ℤ, pos, negsuc, neg_ℤ, length, replicate, if◌then◌else◌}
use Prim.Native.Char.{code}
use Prim.Native.String.{String, [] as «end», ◌∷◌ as ◌then◌}
use Rattle.std.proofs.Math.Option.{Option, none, some}
use Rattle.stab.specs.Basic.{◌and◌, all_of}

-- the bytes of a text that is written out here
unfoldable pub bytes : String → List ℕ
bytes «end» = []
bytes (c then s) = code c ∷ bytes s

unfoldable pub same_bytes : List ℕ → List ℕ → Bool
same_bytes [] [] = true
same_bytes [] (y ∷ ys) = false
same_bytes (x ∷ xs) [] = false
same_bytes (x ∷ xs) (y ∷ ys) = eqb x y and same_bytes xs ys

-- none of these bytes is c
unfoldable pub lacks : ℕ → List ℕ → Bool
lacks c [] = true
lacks c (x ∷ xs) = not (eqb x c) and lacks c xs

-- ---- lines

-- A line's bytes, without its byte 10, and whether it has one: only a text's last line can be without.
pub record Line : Type 0 where
  pub content : List ℕ
  pub ended : Bool

unfoldable pub newline : ℕ
newline = 10

-- one more byte in front of the first line
unfoldable pub in_front : ℕ → List Line → List Line
in_front x [] = record { content = x ∷ []; ended = false } ∷ []
in_front x (l ∷ ls) = record { content = x ∷ l.content; ended = l.ended } ∷ ls

-- "Every line ends with byte 10."
unfoldable pub lines : List ℕ → List Line
lines [] = []
lines (x ∷ xs) = if eqb x newline then record { content = []; ended = true } ∷ lines xs else in_front x (lines xs)

-- ---- numbers

unfoldable pub space : ℕ
space = 32

unfoldable pub minus : ℕ
minus = 45

unfoldable pub zero_digit : ℕ
zero_digit = 48

unfoldable pub is_digit : ℕ → Bool
is_digit x = leb 48 x and leb x 57

-- the number that digits stand for, after those that stand for v
unfoldable pub digits_value : ℕ → List ℕ → ℕ
digits_value v [] = v
digits_value v (x ∷ xs) = digits_value (10 * v + (x - zero_digit)) xs

-- "1 to 5 digits, the first not 0"
unfoldable pub is_natural : List ℕ → Bool
is_natural [] = false
is_natural (x ∷ xs) = not (eqb x zero_digit) and leb (length xs) 4 and is_digit x and all_of is_digit xs

unfoldable pub some_if : {A : Type 0} → Bool → A → Option A
some_if true a = some a
some_if false a = none

-- "a number is 0, or an optional minus and 1 to 5 digits, the first not 0"
unfoldable pub number_of : List ℕ → Option ℤ
number_of [] = none
number_of (x ∷ xs) =
    if same_bytes (x ∷ xs) (zero_digit ∷ []) then some (pos 0) else
    if eqb x minus then some_if (is_natural xs) (neg_ℤ (pos (digits_value 0 xs))) else
    some_if (is_natural (x ∷ xs)) (pos (digits_value 0 (x ∷ xs)))

-- one more byte in front of the first field
unfoldable pub into_field : ℕ → List (List ℕ) → List (List ℕ)
into_field x [] = (x ∷ []) ∷ []
into_field x (f ∷ fs) = (x ∷ f) ∷ fs

-- what stands between spaces
unfoldable pub fields : List ℕ → List (List ℕ)
fields [] = [] ∷ []
fields (x ∷ xs) = if eqb x space then [] ∷ fields xs else into_field x (fields xs)

unfoldable pub in_front_of : {A : Type 0} → Option A → Option (List A) → Option (List A)
in_front_of none o = none
in_front_of (some a) none = none
in_front_of (some a) (some rest) = some (a ∷ rest)

unfoldable pub numbers_in : List (List ℕ) → Option (List ℤ)
numbers_in [] = some []
numbers_in (f ∷ fs) = in_front_of (number_of f) (numbers_in fs)

-- "A row is numbers with one space between"
unfoldable pub numbers : List ℕ → Option (List ℤ)
numbers l = numbers_in (fields l)

-- ---- writing numbers and rows

-- the digits of v, for v below 10 ^ (k + 1)
unfoldable pub digits_n : ℕ → ℕ → List ℕ
digits_n zero v = (zero_digit + v) ∷ []
digits_n (suc k) v = if ltb v 10 then (zero_digit + v) ∷ [] else digits_n k (v / 10) ++ (zero_digit + v % 10) ∷ []

-- a number of at most 5 digits
unfoldable pub five_digits : ℤ → Bool
five_digits (pos v) = leb v 99999
five_digits (negsuc v) = leb (suc v) 99999

unfoldable pub decimal : ℤ → List ℕ
decimal (pos v) = digits_n 4 v
decimal (negsuc v) = minus ∷ digits_n 4 (suc v)

-- numbers with one space between, and byte 10
unfoldable pub row_line : List ℤ → List ℕ
row_line [] = newline ∷ []
row_line (z ∷ []) = decimal z ++ newline ∷ []
row_line (z ∷ (y ∷ ys)) = decimal z ++ space ∷ row_line (y ∷ ys)

-- a heading's line
unfoldable pub heading_line : List ℕ → List ℕ
heading_line h = h ++ newline ∷ []

-- ---- headings

unfoldable pub schema_heading : List ℕ
schema_heading = bytes "root least"

unfoldable pub row_heading : List ℕ
row_heading = bytes "kind a b c"

unfoldable pub node_heading : List ℕ
node_heading = bytes "up rule on with other to by set"

unfoldable pub model_heading : List ℕ
model_heading = bytes "n"

unfoldable pub pair_heading : List ℕ
pair_heading = bytes "symbol index"

-- ---- limits

-- "Texts have at most 65,536 bytes."
unfoldable pub text_limit : ℕ
text_limit = 65536

-- what stands in lent memory of n numbers or bytes after success: 0 past the last
unfoldable pub padded : {A : Type 0} → A → ℕ → List A → List A
padded z n xs = xs ++ replicate (n - length xs) z
