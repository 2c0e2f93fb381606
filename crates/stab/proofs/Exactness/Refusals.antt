-- The place of what the check and the model check find is within the limits; and what is accepted.
use Prim.Native.Nat.{ℕ, zero, suc, ◌≤◌, ◌<◌}
use mathlib.Core.Path.{◌≡◌, refl, sym, ap, subst}
use native.Mathlib.Omega.{arith}
use mathlib.Core.Bool.{Bool, true, false}
use lib.IntN.{ℤ}
use Rattle.stab.specs.Basic.{◌otherwise◌, scan, unless}
use Rattle.stab.specs.Formula.{Row}
use Rattle.stab.specs.Node.{Tableau, rows, row_count}
use Rattle.stab.specs.Check.{whole_unless, at_unless, row_refusal, repeat_refusal, formula_refusal, formulas_refusal, schema_refusal, set_refusal, parent_refusal, step_refusal, node_refusal, within_limits, refusal, present_mode, verdict, verdict_on, check, link_count}
use Rattle.stab.specs.Model.{Model, pair_refusal, model_refusal}
use Rattle.stab.specs.declared.Mode.{Mode}
use Rattle.std.specs.Prelude.{None, Some, Ok, Err}
use Rattle.stab.specs.declared.Counts.{Counts}
use Rattle.stab.specs.declared.Refused.{Refused}
use Rattle.stab.specs.Finding.{Place, accept, refuse, Finding, no_refusal}
use Rattle.stab.specs.declared.Refusal.{Refusal}
use Rattle.stab.specs.declared.Refusal.TheVariants.{TooMany, Drawn, Fields, Target, Bound, Partner, Lowered, Children}
use Rattle.stab.proofs.Bools.{nothing≢found}
use Rattle.stab.proofs.Tests.{◌&◌, le_tests, whole_clears}

-- a place below 4,096, or the whole record
abbrev pub Near : Place → Type 0
Near None = Unit {0}
Near (Some k) = k < 4096

-- what is found, if anything, is at such a place
abbrev pub FindsNear : Finding → Type 0
FindsNear x = (why : Refusal) (place : Place) → x ≡ refuse why place → Near place

of_unless : (t : Bool) (why : Refusal) (place : Place) → Near place → FindsNear (unless t why place)
unfolding unless
of_unless true why place near w q h = absurd (nothing≢found h)
of_unless false why place near w q h = subst Near (ap (λ (r : Refused). r.place) (let e : ◌≡◌ {A = Refused} (record { why = why; place = place }) (record { why = w; place = q }) = cc in e)) near

pub of_whole : (t : Bool) (why : Refusal) → FindsNear (whole_unless t why)
unfolding whole_unless
of_whole t why = of_unless t why None tt

pub of_at : (t : Bool) (why : Refusal) (k : ℕ) → k < 4096 → FindsNear (at_unless t why k)
unfolding at_unless
of_at t why k near = of_unless t why (Some k) near

infixr 25 ◌or_else◌
pub ◌or_else◌ : {x y : Finding} → FindsNear x → FindsNear y → FindsNear (x otherwise y)
unfolding ◌otherwise◌
◌or_else◌ {x = (Ok u)} f g = g
◌or_else◌ {x = (Err r)} f g = f

-- the second finding may use that the first test passed
pub once : {x y : Finding} → FindsNear x → (x ≡ no_refusal → FindsNear y) → FindsNear (x otherwise y)
unfolding ◌otherwise◌
once {x = (Ok u)} f g = g refl
once {x = (Err r)} f g = f

pub of_scan : (f : ℕ → Finding) (n : ℕ) → n ≤ 4096 → ((k : ℕ) → k < 4096 → FindsNear (f k)) → FindsNear (scan f n)
unfolding scan
of_scan f zero l h why place e = absurd (nothing≢found e)
of_scan f (suc n) l h why place e = ◌or_else◌ (of_scan f n (omega arith) h) (h n (omega arith)) why place e

of_row : (older : Bool) (rows : ℕ → Row) (s r : ℕ) → r < 4096 → FindsNear (formula_refusal older rows s r)
unfolding formula_refusal row_refusal repeat_refusal
of_row true rows s r k = of_at _ _ r k or_else of_at _ _ r k
of_row false rows s r k = (of_at _ _ r k or_else of_at _ _ r k) or_else of_at _ _ r k

pub of_formulas : (older : Bool) (rows : ℕ → Row) (n s : ℕ) (root least : ℤ) → n ≤ 4096 → FindsNear (formulas_refusal older rows n s root least)
unfolding formulas_refusal
of_formulas older rows n s root least l =
    of_whole _ _ or_else
    of_scan (formula_refusal older rows s) n l (of_row older rows s) or_else
    of_whole _ _

-- 11 to 17, by any tests
of_tests : (j : ℕ) (drawn fields target bound partners lowered children : Bool) → j < 4096 → FindsNear ((at_unless drawn Drawn j otherwise at_unless fields Fields j otherwise at_unless target Target j otherwise at_unless bound Bound j otherwise at_unless partners Partner j otherwise at_unless lowered Lowered j) otherwise at_unless children Children j)
of_tests j drawn fields target bound partners lowered children l =
    (of_at _ _ j l or_else of_at _ _ j l or_else of_at _ _ j l or_else of_at _ _ j l or_else of_at _ _ j l or_else of_at _ _ j l) or_else
    of_at _ _ j l

pub of_refusal : (m : Mode) (T : Tableau) → FindsNear (refusal m T)
unfolding refusal set_refusal parent_refusal node_refusal step_refusal within_limits
of_refusal m T =
    of_whole _ _ or_else
    once (of_whole _ TooMany)
    (λ h.
    let limits = (whole_clears TooMany (le_tests (row_count T) 1024 & le_tests T.node_rows 1024 & le_tests T.member_count 8192)).0 h in
    let few : row_count T ≤ 4096 = omega (arith, limits.0) in
    let nodes : T.node_rows ≤ 4096 = omega (arith, limits.1.0) in
    of_formulas m.older (rows T) (row_count T) T.schema_rows T.root T.least few or_else
    of_scan (set_refusal T) T.node_rows nodes (λ j l. of_at _ _ j l) or_else
    of_whole _ _ or_else
    of_scan (parent_refusal T) T.node_rows nodes (λ j l. of_at _ _ j l) or_else
    of_scan (node_refusal m.whole T) T.node_rows nodes (λ j. of_tests j _ _ _ _ _ _ _))

pub of_model_refusal : (M : Model) → FindsNear (model_refusal M)
unfolding model_refusal schema_refusal pair_refusal
of_model_refusal M =
    of_whole _ _ or_else
    once (of_whole _ TooMany)
    (λ h.
    let limits = (whole_clears TooMany (le_tests M.schema.rows 1024 & le_tests M.pair_rows 4096)).0 h in
    of_formulas true _ M.schema.rows M.schema.rows M.schema.root M.schema.least (omega (arith, limits.0)) or_else
    of_scan (pair_refusal M.pairs) M.pair_rows (omega (arith, limits.1)) (λ k l. of_at _ _ k l) or_else
    of_whole _ _ or_else
    of_whole _ _)

-- an acceptance is the verdict where nothing is found
pub accepted : (x : Finding) (m k n l : ℕ) → verdict x (accept m k) ≡ accept n l → (x ≡ no_refusal) × (n ≡ m) × (l ≡ k)
unfolding verdict
accepted (Ok u) m k n l h =
    let e : ◌≡◌ {A = Counts} (record { nodes = m; links = k }) (record { nodes = n; links = l }) = cc in
    (refl, sym (ap (λ (c : Counts). c.nodes) e), sym (ap (λ (c : Counts). c.links) e))
accepted (Err r) m k n l h =
    let z : ◌≡◌ {A = ℕ} 0 1 = cc in
    absurd (omega arith)

-- and a refusal is what is found
pub refused : (x : Finding) (m k : ℕ) (why : Refusal) (p : Place) → verdict x (accept m k) ≡ refuse why p → x ≡ refuse why p
unfolding verdict
refused (Ok u) m k why p h =
    let z : ◌≡◌ {A = ℕ} 0 1 = cc in
    absurd (omega arith)
refused (Err r) m k why p h = cc

pub accepted_finds : (T : Tableau) (n l : ℕ) → check T ≡ accept n l → refusal present_mode T ≡ no_refusal
unfolding check verdict_on
accepted_finds T n l h = (accepted (refusal present_mode T) T.node_rows (link_count T) n l h).0

pub refused_finds : (T : Tableau) (why : Refusal) (p : Place) → check T ≡ refuse why p → refusal present_mode T ≡ refuse why p
unfolding check verdict_on
refused_finds T why p h = refused (refusal present_mode T) T.node_rows (link_count T) why p h

pub finds_accepted : (T : Tableau) → refusal present_mode T ≡ no_refusal → check T ≡ accept T.node_rows (link_count T)
unfolding check verdict_on verdict
finds_accepted T h = ap (λ (x : Finding). verdict x (accept T.node_rows (link_count T))) h
