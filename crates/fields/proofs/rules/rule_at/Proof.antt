-- The constant table is the paper's.
use borrow.Author.Rules.{rules}
use native.Mathlib.Omega.{arith}
use Prim.Native.Nat.{ℕ, ◌<◌, ◌≤◌}
use mathlib.Core.Path.{◌≡◌, sym, ap}
use lib.IntN.{pos}
use Rattle.stab.specs.Basic.{nat}
use Rattle.stab.specs.Rule.{unused, entry, rule_table, rule_of}
use Rattle.fields.proofs.rules.rule_at.Statement.{statement}
use Rattle.fields.proofs.rules.rule_at.Tie as tie

-- the entry of a rule whose number is k
entry_of : (k z : ℕ) → z ≡ k → rule_of (pos k) ≡ rule_of (pos z)
entry_of k z e = ap (λ (n : ℕ). rule_of (pos n)) (sym e)

-- the last rule is none of those before it
later : (z : ℕ) → (z ≡ 0 → ⊥) → (z ≡ 1 → ⊥) → (z ≡ 2 → ⊥) → (z ≡ 3 → ⊥) → 4 ≤ z
later z a b c d = omega arith

last : (z : ℕ) → 4 ≤ z → z < 9 → (z ≡ 4 → ⊥) → (z ≡ 5 → ⊥) → (z ≡ 6 → ⊥) → (z ≡ 7 → ⊥) → z ≡ 8
last z l h a b c d = omega arith

bounds-0 : tie.Need-bounds-0
bounds-0 c = search rules

bounds-1 : tie.Need-bounds-1
bounds-1 c = search rules

bounds-2 : tie.Need-bounds-2
bounds-2 c = search rules

bounds-3 : tie.Need-bounds-3
bounds-3 c = search rules

bounds-4 : tie.Need-bounds-4
bounds-4 c = search rules

bounds-5 : tie.Need-bounds-5
bounds-5 c = search rules

bounds-6 : tie.Need-bounds-6
bounds-6 c = search rules

bounds-7 : tie.Need-bounds-7
bounds-7 c = search rules

bounds-8 : tie.Need-bounds-8
bounds-8 c = search rules

returns-in-0 : tie.Need-returns-in-0
unfolding rule_of rule_table entry unused nat
returns-in-0 c = entry_of 0 _ c.in-0.is

returns-in-1 : tie.Need-returns-in-1
unfolding rule_of rule_table entry unused nat
returns-in-1 c = entry_of 1 _ c.in-1.is

returns-in-2 : tie.Need-returns-in-2
unfolding rule_of rule_table entry unused nat
returns-in-2 c = entry_of 2 _ c.in-2.is

returns-in-3 : tie.Need-returns-in-3
unfolding rule_of rule_table entry unused nat
returns-in-3 c = entry_of 3 _ c.in-3.is

returns-in-4 : tie.Need-returns-in-4
unfolding rule_of rule_table entry unused nat
returns-in-4 c = entry_of 4 _ c.in-4.is

returns-in-5 : tie.Need-returns-in-5
unfolding rule_of rule_table entry unused nat
returns-in-5 c = entry_of 5 _ c.in-5.is

returns-in-6 : tie.Need-returns-in-6
unfolding rule_of rule_table entry unused nat
returns-in-6 c = entry_of 6 _ c.in-6.is

returns-in-7 : tie.Need-returns-in-7
unfolding rule_of rule_table entry unused nat
returns-in-7 c = entry_of 7 _ c.in-7.is

returns-in_default : tie.Need-returns-in_default
unfolding rule_of rule_table entry unused nat
returns-in_default c =
    let r = c.in_default.in_default-own.rest in
    entry_of 8 _
    (last _ (later _ r.0.0.0.0.0.0.0.1 r.0.0.0.0.0.0.1 r.0.0.0.0.0.1 r.0.0.0.0.1)
    c.requires r.0.0.0.1 r.0.0.1 r.0.1 r.1)

pub rule_at_spec : {M : Type 1} → statement M
rule_at_spec =
    tie.close
    (tie.spec
    bounds-0
    bounds-1
    bounds-2
    bounds-3
    bounds-4
    bounds-5
    bounds-6
    bounds-7
    bounds-8
    returns-in-0
    returns-in-1
    returns-in-2
    returns-in-3
    returns-in-4
    returns-in-5
    returns-in-6
    returns-in-7
    returns-in_default)
