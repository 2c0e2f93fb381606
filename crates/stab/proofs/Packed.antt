-- The one number that provers get: its parts do not run into one another and are read back, its answer is 0 exactly for an acceptance,
-- and demand 3 holds of it.
use Prim.Native.Nat.{ℕ, ◌+◌, ◌*◌, ◌/◌, ◌%◌, ◌<◌, ◌≤◌}
use native.Mathlib.Omega.{arith}
use mathlib.Core.Path.{◌≡◌, refl, ◌∙◌, ap}
use mathlib.Core.Bool.{Bool, true, false}
use lib.IntN.{pos, ◌+ℤ◌, ◌-ℤ◌}
use Rattle.stab.specs.Basic.{nat}
use Rattle.stab.specs.Node.{Tableau, schema_of}
use Rattle.stab.specs.Check.{refusal, present_mode, older_mode, verdict_on, check, check_older, check_as, verdict, link_count}
use Rattle.stab.specs.Model.{Model, model_refusal, check_model}
use Rattle.stab.specs.Answer.{Numbers, refusal_number, place_number, refused_numbers, verdict_numbers, one_number, packed, answer_in, numbers_in, place_code, Packs}
use Rattle.stab.specs.Refuted.{Refuted, SameSchema, Irrefutable}
use Rattle.std.specs.Prelude.{None, Some, Ok, Err}
use Rattle.stab.specs.Finding.{Place, Verdict, accept, refuse, Finding, no_refusal}
use Rattle.stab.specs.declared.Refusal.{Refusal}
use Rattle.stab.specs.declared.Refusal.TheVariants.{TextTooLong, TableTooShort, Heading, Line, TooMany, Root, IllFormed, TooLarge, Set, Parent, Drawn, Fields, Target, Bound, Partner, Lowered, Children, Pair, Width, False, Number, Output, Repeated, Wires, Plain, Leasts, Joint, Room, NoRow, Waiting, NotListed}
use Rattle.stab.proofs.Whole.{num, ◌⊖◌, eq_of}
use Rattle.stab.proofs.Scans.{count_le}
use Rattle.stab.proofs.Soundness.{sound, sound_older, no_model_lem}
use Rattle.stab.proofs.Exactness.Checked.{older_clears, tableau_clears}
use Rattle.stab.proofs.Exactness.Refusals.{Near, FindsNear, of_refusal, of_model_refusal}

-- ---- a refusal's number is from 1 to 31

pub number_range : (w : Refusal) → (1 ≤ refusal_number w) × (refusal_number w ≤ 31)
number_range TextTooLong = (omega arith, omega arith)
number_range TableTooShort = (omega arith, omega arith)
number_range Heading = (omega arith, omega arith)
number_range Line = (omega arith, omega arith)
number_range TooMany = (omega arith, omega arith)
number_range Root = (omega arith, omega arith)
number_range IllFormed = (omega arith, omega arith)
number_range TooLarge = (omega arith, omega arith)
number_range Set = (omega arith, omega arith)
number_range Parent = (omega arith, omega arith)
number_range Drawn = (omega arith, omega arith)
number_range Fields = (omega arith, omega arith)
number_range Target = (omega arith, omega arith)
number_range Bound = (omega arith, omega arith)
number_range Partner = (omega arith, omega arith)
number_range Lowered = (omega arith, omega arith)
number_range Children = (omega arith, omega arith)
number_range Pair = (omega arith, omega arith)
number_range Width = (omega arith, omega arith)
number_range False = (omega arith, omega arith)
number_range Number = (omega arith, omega arith)
number_range Output = (omega arith, omega arith)
number_range Plain = (omega arith, omega arith)
number_range Room = (omega arith, omega arith)
number_range NoRow = (omega arith, omega arith)
number_range Waiting = (omega arith, omega arith)
number_range Repeated = (omega arith, omega arith)
number_range Leasts = (omega arith, omega arith)
number_range Joint = (omega arith, omega arith)
number_range Wires = (omega arith, omega arith)
number_range NotListed = (omega arith, omega arith)

-- ---- the verdicts pack

pub near_packs : (why : Refusal) (place : Place) → Near place → Packs (refuse why place)
near_packs why None h = tt
near_packs why (Some k) h = omega arith

-- whatever is found packs, and an acceptance where few nodes are kept
packs_of : (T : Tableau) (x : Finding) → (x ≡ no_refusal → T.node_rows ≤ 1024) → FindsNear x → Packs (verdict x (accept T.node_rows (link_count T)))
unfolding verdict link_count
packs_of T (Ok u) few near =
    (omega (arith, few refl), omega (arith, few refl, count_le (Rattle.stab.specs.Check.is_link T.nodes) T.node_rows))
packs_of T (Err r) few near = near_packs r.why r.place (near r.why r.place refl)

pub check_packs : (T : Tableau) → Packs (check T)
unfolding check verdict_on
check_packs T =
    packs_of T (refusal present_mode T) (λ e. ((tableau_clears T).0 e).older.tables.node_limit) (of_refusal present_mode T)

pub older_packs : (T : Tableau) → Packs (check_older T)
unfolding check_older verdict_on
older_packs T =
    packs_of T (refusal older_mode T) (λ e. ((older_clears T).0 e).tables.node_limit) (of_refusal older_mode T)

pub checked_packs : (older : Bool) (T : Tableau) → Packs (check_as older T)
unfolding check_as
checked_packs true T = older_packs T
checked_packs false T = check_packs T

pub model_packs : (M : Model) → Packs (check_model M)
unfolding check_model verdict
model_packs M = go (model_refusal M) (of_model_refusal M)
  where
    go : (x : Finding) → FindsNear x → Packs (verdict x (accept 0 0))
    go (Ok u) near = (omega arith, omega arith)
    go (Err r) near = near_packs r.why r.place (near r.why r.place refl)

-- ---- the number in parts

code_is : (p : Place) → nat (place_number p +ℤ pos 1) ≡ place_code p
unfolding nat
code_is None = refl
code_is (Some k) = refl

pub packed_acceptance : (n l : ℕ) → packed (accept n l) ≡ (8192 + n) * 8192 + l
unfolding packed one_number verdict_numbers nat
packed_acceptance n l = refl

pub packed_refusal : (why : Refusal) (p : Place) → packed (refuse why p) ≡ (refusal_number why * 8192 + place_code p) * 67108864
unfolding packed one_number verdict_numbers refused_numbers
packed_refusal why p = omega (arith, code_is p)

-- ---- reading it back gives the answer's numbers

numbers_are : {a b : Numbers} → a.answer ≡ b.answer → a.place ≡ b.place → a.nodes ≡ b.nodes → a.links ≡ b.links → a ≡ b
numbers_are p q r s i = record { answer = p i; place = q i; nodes = r i; links = s i }

pub code_below : (why : Refusal) (p : Place) → Packs (refuse why p) → place_code p < 8192
code_below why None h = omega arith
code_below why (Some k) h = h

place_back : (p : Place) → pos (place_code p) -ℤ pos 1 ≡ place_number p
place_back None = refl
place_back (Some k) = eq_of (num (k + 1) ⊖ num 1) (num k) (omega arith)

pub read_back : (v : Verdict) → Packs v → numbers_in (packed v) ≡ verdict_numbers v
unfolding numbers_in verdict_numbers refused_numbers
read_back (Ok c) h =
    let e = packed_acceptance c.nodes c.links in
    let place : packed (accept c.nodes c.links) / 67108864 % 8192 ≡ 1 = omega (arith, h.0, h.1) in
    numbers_are (omega (arith, h.0, h.1)) (ap (λ (c : ℕ). pos c -ℤ pos 1) place) (omega (arith, h.0, h.1)) (omega (arith, h.0, h.1))
read_back (Err r) h =
    let e = packed_refusal r.why r.place in
    let below = code_below r.why r.place h in
    let place : packed (Err r) / 67108864 % 8192 ≡ place_code r.place = omega arith in
    numbers_are (omega arith) (ap (λ (c : ℕ). pos c -ℤ pos 1) place ∙ place_back r.place) (omega arith) (omega arith)

-- ---- its answer is 0 exactly for an acceptance

pub packed_accepted : (v : Verdict) → Packs v → answer_in (packed v) ≡ 0 → (n : ℕ) × (l : ℕ) × (v ≡ accept n l)
packed_accepted (Ok c) p h = (c.nodes, c.links, refl)
packed_accepted (Err r) p h = absurd (omega (arith, packed_refusal r.why r.place, (number_range r.why).0))

pub accepted_packed : (n l : ℕ) → Packs (accept n l) → answer_in (packed (accept n l)) ≡ 0
accepted_packed n l p = omega (arith, packed_acceptance n l, p.0, p.1)

-- ---- demand 3 in the one number

-- If the check's answer is 0, the schema is false at every natural n from its least value up, under every assignment.
pub packed_sound : (T : Tableau) → answer_in (packed (check T)) ≡ 0 → Refuted (schema_of T)
packed_sound T h = let a = packed_accepted (check T) (check_packs T) h in sound T a.0 a.1 a.2

pub packed_sound_older : (T : Tableau) → answer_in (packed (check_older T)) ≡ 0 → Refuted (schema_of T)
packed_sound_older T h = let a = packed_accepted (check_older T) (older_packs T) h in sound_older T a.0 a.1 a.2

-- If the model check's answer is 0, no tableau of the same schema rows, root and least value is accepted.
pub packed_no_model : (M : Model) → answer_in (packed (check_model M)) ≡ 0 → Irrefutable M.schema
packed_no_model M h = let a = packed_accepted (check_model M) (model_packs M) h in no_model_lem M a.0 a.1 a.2

-- The two numbers of a tableau and a model of the same schema rows, root and least value do not both have answer 0.
-- Nor do those of the older check and a model.
pub packed_not_both : (T : Tableau) (M : Model) → SameSchema T M.schema
    → answer_in (packed (check_model M)) ≡ 0 → (answer_in (packed (check T)) ≡ 0 → ⊥) × (answer_in (packed (check_older T)) ≡ 0 → ⊥)
packed_not_both T M same g = (
  λ h. let a = packed_accepted (check T) (check_packs T) h in (packed_no_model M g T same a.0 a.1).0 a.2,
  λ h. let a = packed_accepted (check_older T) (older_packs T) h in (packed_no_model M g T same a.0 a.1).1 a.2,
)
