-- Refusals 9 and 10 at a node, over what the passes are lent.
use Rattle.std.specs.Prelude.{ℕ, List, ℤ}
use Rattle.stab.specs.Check.{at_unless}
use Rattle.stab.specs.declared.Refusal.TheVariants.{Set, Parent}
use Rattle.stab.specs.Finding.{Finding}
use Rattle.branch.specs.Sets.{set_right}
use Rattle.branch.specs.Parents.{parent_right}

-- 9, for k nodes and m members, with the facts of n formula rows
unfoldable pub set_fault : List ℕ → ℕ → List ℤ → ℕ → List ℤ → ℕ → ℕ → Finding
set_fault facts n nodes k members m j = at_unless (set_right facts n nodes k members m j) Set j

-- 10
unfoldable pub parent_fault : List ℤ → List ℤ → ℤ → ℕ → Finding
parent_fault nodes members root j = at_unless (parent_right nodes members root j) Parent j
