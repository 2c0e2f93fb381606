-- A text from a place on: its first line, what follows that line, and the number that the line starts with.
use Rattle.std.specs.Prelude.{ℕ, zero, suc, ◌+◌, ◌*◌, ◌-◌, Bool, true, false, List, [], ◌∷◌, eqb, ℤ, length, if◌then◌else◌}
use Rattle.std.proofs.Math.Option.{Option, none, some}
use Rattle.stab.specs.Basic.{◌or◌}
use Rattle.stab.specs.Text.{Line, newline, space, same_bytes, is_digit, digits_value, is_natural, some_if, number_of, fields, numbers}

-- ---- the first line

unfoldable pub first_line : List ℕ → Line
first_line [] = record { content = []; ended = false }
first_line (x ∷ xs) =
    if eqb x newline
    then record { content = []; ended = true }
    else record { content = x ∷ (first_line xs).content; ended = (first_line xs).ended }

-- what follows its byte 10
unfoldable pub after_line : List ℕ → List ℕ
after_line [] = []
after_line (x ∷ xs) = if eqb x newline then xs else after_line xs

-- the numbers of a first line that has its byte 10
unfoldable pub row : List ℕ → Option (List ℤ)
row xs = if (first_line xs).ended then numbers (first_line xs).content else none

-- a number in front of others; none in front of none
unfoldable pub if_number : Option ℤ → List ℤ → List ℤ
if_number none vs = []
if_number (some z) vs = z ∷ vs

-- numbers of a line's fields, up to one that is none; the last field is none where the line has no byte 10
unfoldable pub numbers_up_to : Bool → List (List ℕ) → List ℤ
numbers_up_to ended [] = []
numbers_up_to ended (f ∷ []) = if ended then if_number (number_of f) [] else []
numbers_up_to ended (f ∷ (g ∷ fs)) = if_number (number_of f) (numbers_up_to ended (g ∷ fs))

-- the numbers that a first line starts with, whether or not it is a row
unfoldable pub first_numbers : List ℕ → List ℤ
first_numbers xs = numbers_up_to (first_line xs).ended (fields (first_line xs).content)

-- ---- the first field

unfoldable pub ends_field : ℕ → Bool
ends_field x = eqb x space or eqb x newline

-- the bytes before the first space or byte 10
unfoldable pub field : List ℕ → List ℕ
field [] = []
field (x ∷ xs) = if ends_field x then [] else x ∷ field xs

-- that space or byte 10; 0 where there is none
unfoldable pub field_end : List ℕ → ℕ
field_end [] = 0
field_end (x ∷ xs) = if ends_field x then x else field_end xs

-- how many bytes there are up to and with it
unfoldable pub past_field : List ℕ → ℕ
past_field xs = suc (length (field xs))

-- the number that is the whole of the first field, if the field has an end
unfoldable pub number_here : List ℕ → Option ℤ
number_here xs = if eqb (field_end xs) 0 then none else number_of (field xs)

-- ---- natural numbers

-- digits as a number's digits stand, 0 alone or up to five
unfoldable pub natural_of : List ℕ → Option ℕ
natural_of f = if same_bytes f (48 ∷ []) then some 0 else some_if (is_natural f) (digits_value 0 f)

unfoldable pub natural_here : List ℕ → Option ℕ
natural_here xs = if eqb (field_end xs) 0 then none else natural_of (field xs)

-- how many digits stand in front, counting n at most
unfoldable pub run_length : ℕ → List ℕ → ℕ
run_length zero xs = 0
run_length (suc n) [] = 0
run_length (suc n) (x ∷ xs) = if is_digit x then suc (run_length n xs) else 0

-- the number that these stand for, after digits that stand for v
unfoldable pub run_value : ℕ → ℕ → List ℕ → ℕ
run_value zero v xs = v
run_value (suc n) v [] = v
run_value (suc n) v (x ∷ xs) = if is_digit x then run_value n (10 * v + (x - 48)) xs else v
