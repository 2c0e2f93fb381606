-- 01, "A whole record, and its neighbours": the twelve starred cases, evaluated on the definitions.
-- Each case goes from the texts' bytes to the printed bytes; what is expected is written from the paper.
use Prim.Native.Nat.{ℕ}
use Prim.Native.String.{String}
use mathlib.Core.Path.{◌≡◌, refl}
use mathlib.Core.Bool.{false}
use mathlib.Core.List.{List, [], ◌∷◌, ◌++◌}
use Rattle.stab.specs.Text.{bytes}
use Rattle.stab.specs.Program.{check_program, model_program}
use Rattle.stab.proofs.Evaluate.{evaluated}

-- ---- the record, and how a case changes it

schema : String → List ℕ
schema root_and_least = bytes "root least\n" ++ bytes root_and_least ++ bytes "\nkind a b c\n2 0 2 0\n3 0 2 0\n7 0 2 0\n6 1 2 0\n4 2 3 0\n"

formulas : String
formulas = "kind a b c\n7 0 2 1\n2 0 1 0\n6 1 2 1\n3 0 1 0\n"

nodes₀₋₃ : String
nodes₀₋₃ = "up rule on with other to by set\n-1 0 4 -1 -1 -1 0 4\n0 2 -1 -1 -1 -1 0 2 3\n1 7 2 -1 -1 -1 0 2 3\n1 3 3 7 8 -1 0 2 3\n"

node₄ : String
node₄ = "3 4 2 5 6 -1 0 2 7 8\n"

node₅ : String
node₅ = "4 8 -1 -1 -1 1 1 5 7\n"

node₆ : String
node₆ = "4 6 6 8 -1 -1 0 6 8\n"

proof : String → String → String → List ℕ
proof n₄ n₅ n₆ = bytes formulas ++ bytes nodes₀₋₃ ++ bytes n₄ ++ bytes n₅ ++ bytes n₆

unfoldable pub answer : String → List ℕ
answer numbers = bytes "answer place nodes links\n" ++ bytes numbers ++ bytes "\n"

-- ---- the cases

pub computed : List (List ℕ)
computed =
    check_program false (schema "4 1") (proof node₄ node₅ node₆) ∷
    -- least 0, least 2
    check_program false (schema "4 0") (proof node₄ node₅ node₆) ∷
    check_program false (schema "4 2") (proof node₄ node₅ node₆) ∷
    -- node 5 by 2; its set 5
    check_program false (schema "4 1") (proof node₄ "4 8 -1 -1 -1 1 2 5 7\n" node₆) ∷
    check_program false (schema "4 1") (proof node₄ "4 8 -1 -1 -1 1 1 5\n" node₆) ∷
    -- node 6 on 8 with 6
    check_program false (schema "4 1") (proof node₄ node₅ "4 6 8 6 -1 -1 0 6 8\n") ∷
    -- node 4's other 8
    check_program false (schema "4 1") (proof "3 4 2 5 8 -1 0 2 7 8\n" node₅ node₆) ∷
    -- last row gone
    check_program false (schema "4 1") (proof node₄ node₅ "") ∷
    -- node 6's set 6 7 8; 5 6 8
    check_program false (schema "4 1") (proof node₄ node₅ "4 6 6 8 -1 -1 0 6 7 8\n") ∷
    check_program false (schema "4 1") (proof node₄ node₅ "4 6 6 8 -1 -1 0 5 6 8\n") ∷
    -- models with no pair: n = 1; root 3, n = 1
    model_program (schema "4 1") (bytes "n\n1\nsymbol index\n") ∷
    model_program (schema "3 1") (bytes "n\n1\nsymbol index\n") ∷ []

pub stated : List (List ℕ)
stated =
    answer "0 0 7 1" ∷
    answer "14 3 0 0" ∷
    answer "14 2 0 0" ∷
    answer "14 5 0 0" ∷
    answer "16 5 0 0" ∷
    answer "12 6 0 0" ∷
    answer "15 4 0 0" ∷
    answer "17 4 0 0" ∷
    answer "0 0 7 1" ∷
    answer "11 6 0 0" ∷
    answer "20 -1 0 0" ∷
    answer "0 0 0 0" ∷ []

pub starred : computed ≡ stated
unfolding evaluated schema formulas nodes₀₋₃ node₄ node₅ node₆ proof answer computed stated
starred = refl
