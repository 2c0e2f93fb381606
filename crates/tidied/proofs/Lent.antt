-- 02, No. 10: what stands in lent memory is accepted, and stays as it is when it is tidied again; refusals, and what stands there after them.
use Prim.Native.Nat.{ℕ, ◌*◌, ◌≤◌}
use native.Mathlib.Omega.{arith}
use mathlib.Core.Path.{◌≡◌, refl, sym, ◌∙◌, ap, ap₂}
use mathlib.Core.Bool.{Bool, true, false}
use mathlib.Core.List.{List, []}
use lib.Dec.{leb}
use lib.IntN.{ℤ, pos}
use lib.ListN.{length, take}
use Rattle.stab.specs.Basic.{◌and◌, unless}
use Rattle.stab.specs.Node.{Tableau, row_count}
use Rattle.stab.specs.Check.{at_unless, check, check_older, verdict}
use Rattle.stab.specs.Keeps.{Keeps}
use Rattle.stab.specs.Text.{padded}
use Rattle.stab.specs.Answer.{Packs}
use Rattle.std.specs.Prelude.{Some, Ok, Err}
use Rattle.stab.specs.Finding.{accept, refuse, Verdict, Place}
use Rattle.stab.specs.declared.Refusal.{Refusal}
use Rattle.stab.specs.declared.Refusal.TheVariants.{TableTooShort}
use Rattle.stab.proofs.Bools.{nothing_unless, found_unless}
use Rattle.stab.proofs.Packed.{older_packs}
use Rattle.stab.specs.Entry.{ProofFits}
use Rattle.stab.proofs.Exactness.{accepts_exactly, older_accepts_exactly}
use Rattle.tidied.specs.Tidied.{tidied}
use Rattle.tidied.specs.Tidy.{Rooms, tidy_verdict, tidy_answer, tidy, tidy_table_by, tidy_proof, tidy_node_table, tidy_member_table, in_tables, tidied_in}
use Rattle.tidied.proofs.Tidying.{tidied_keeps, tidied_accepted}
use Rattle.tidied.proofs.Again.{tidy_again}
use Rattle.tidied.proofs.Longer.{padded_begins, tidied_longer, longer_accepted}

-- the result tables have their full sizes
abbrev Full : Rooms → Type 0
Full R = (leb 4096 R.rows and leb 9216 R.nodes and leb 8192 R.members) ≡ true

full_verdict : (R : Rooms) (T : Tableau) → Full R → tidy_verdict R T ≡ check_older T
unfolding tidy_verdict at_unless verdict
full_verdict R T h = ap (λ x. verdict x (check_older T)) (nothing_unless _ _ _ h)

-- "A record refused by the older entry is refused with that number and place."
pub older_refused : (R : Rooms) (T : Tableau) (why : Refusal) (p : Place) → Full R → check_older T ≡ refuse why p → tidy R T ≡ refuse why p
unfolding tidy tidy_answer
older_refused R T why p h e = ap (λ v. tidy_answer v (tidied T)) (full_verdict R T h ∙ e)

-- a record that it accepts is tidied, with the counts of what is left
pub older_tidied : (R : Rooms) (T : Tableau) (n l : ℕ) → Full R → check_older T ≡ accept n l → tidy R T ≡ Ok (record { rows = (tidied T).proof_rows; nodes = (tidied T).node_rows; members = (tidied T).member_count })
unfolding tidy tidy_answer
older_tidied R T n l h e = ap (λ v. tidy_answer v (tidied T)) (full_verdict R T h ∙ e)

-- ---- what is left in lent memory, with those counts

module _ (R : Rooms) (T : Tableau) (n l : ℕ) (full : Full R) (older : check_older T ≡ accept n l) where
  begins : {c : ℕ} (m : ℕ) (xs : List ℤ) → c ≤ length xs → take c (tidy_table_by (tidy_verdict R T) m xs) ≡ take c xs
  unfolding tidy_table_by
  begins {c} m xs held = ap (λ v. take c (tidy_table_by v m xs)) (full_verdict R T full ∙ older) ∙ padded_begins c m xs held

  tidied_kept : Keeps (tidied T)
  tidied_kept = ((accepts_exactly (tidied T) n l).0 (tidied_accepted T n l older)).0

  same_proof_lem : take (4 * (tidied T).proof_rows) (tidy_proof R T) ≡ take (4 * (tidied T).proof_rows) (tidied T).proof
  unfolding tidy_proof
  same_proof_lem = begins R.rows (tidied T).proof tidied_kept.older.tables.proof_held

  same_nodes_lem : take (9 * (tidied T).node_rows) (tidy_node_table R T) ≡ take (9 * (tidied T).node_rows) (tidied T).nodes
  unfolding tidy_node_table
  same_nodes_lem = begins R.nodes (tidied T).nodes tidied_kept.older.tables.nodes_held

  same_members_lem : take (tidied T).member_count (tidy_member_table R T) ≡ take (tidied T).member_count (tidied T).members
  unfolding tidy_member_table
  same_members_lem = begins R.members (tidied T).members tidied_kept.older.tables.members_held

  same_schema_lem : take (4 * (tidied T).schema_rows) T.schema ≡ take (4 * (tidied T).schema_rows) (tidied T).schema
  unfolding tidied
  same_schema_lem = refl

  -- it is accepted by the check
  pub tidied_lent : check (tidied_in R T) ≡ accept n l
  tidied_lent =
      longer_accepted (tidied T) T.schema (tidy_proof R T) (tidy_node_table R T) (tidy_member_table R T) same_schema_lem same_proof_lem same_nodes_lem same_members_lem
      n l (tidied_accepted T n l older)

  lent_older : check_older (tidied_in R T) ≡ accept n l
  lent_older =
      let a = (accepts_exactly (tidied_in R T) n l).0 tidied_lent in
      (older_accepts_exactly (tidied_in R T) n l).1 (a.0.older, a.1, a.2)

  lent_tidied : tidied (tidied_in R T) ≡ tidied T
  lent_tidied =
      tidied_longer (tidied T) T.schema (tidy_proof R T) (tidy_node_table R T) (tidy_member_table R T) same_schema_lem same_proof_lem same_nodes_lem same_members_lem tidied_kept
      ∙ ap (λ (U : Tableau). in_tables U T.schema U.proof U.nodes U.members) (tidy_again T n l older)
      ∙ whole
    where
      whole : in_tables (tidied T) T.schema (tidied T).proof (tidied T).nodes (tidied T).members ≡ tidied T
      whole = unfold in_tables tidied in refl

  -- "tidying again changes nothing": result tables of any length, here those of S, come out as they would of the record itself
  pub lent_again : (S : Rooms) → (tidy S (tidied_in R T) ≡ tidy S T) × (tidy_proof S (tidied_in R T) ≡ tidy_proof S T) × (tidy_node_table S (tidied_in R T) ≡ tidy_node_table S T) × (tidy_member_table S (tidied_in R T) ≡ tidy_member_table S T)
  unfolding tidy tidy_proof tidy_node_table tidy_member_table tidy_verdict
  lent_again S =
      let v = ap (verdict (at_unless (leb 4096 S.rows and leb 9216 S.nodes and leb 8192 S.members) TableTooShort 0)) (lent_older ∙ sym older) in (
        ap₂ tidy_answer v lent_tidied,
        ap₂ (λ (w : Verdict) (U : Tableau). tidy_table_by w S.rows U.proof) v lent_tidied,
        ap₂ (λ (w : Verdict) (U : Tableau). tidy_table_by w S.nodes U.nodes) v lent_tidied,
        ap₂ (λ (w : Verdict) (U : Tableau). tidy_table_by w S.members U.members) v lent_tidied,
      )

-- a result table that is too short comes first
pub short_first : (R : Rooms) (T : Tableau) → (leb 4096 R.rows and leb 9216 R.nodes and leb 8192 R.members) ≡ false → tidy R T ≡ refuse TableTooShort (Some 0)
unfolding tidy tidy_answer tidy_verdict at_unless verdict
short_first R T h = ap (λ x. tidy_answer (verdict x (check_older T)) (tidied T)) (found_unless _ _ _ h)

-- after a refusal all that was lent is 0
pub refused_zeros : (R : Rooms) (T : Tableau) (why : Refusal) (p : Place) → tidy_verdict R T ≡ refuse why p → (tidy_proof R T ≡ padded (pos 0) R.rows []) × (tidy_node_table R T ≡ padded (pos 0) R.nodes []) × (tidy_member_table R T ≡ padded (pos 0) R.members [])
unfolding tidy_proof tidy_node_table tidy_member_table tidy_table_by
refused_zeros R T why p e = (
  ap (λ v. tidy_table_by v R.rows (tidied T).proof) e,
  ap (λ v. tidy_table_by v R.nodes (tidied T).nodes) e,
  ap (λ v. tidy_table_by v R.members (tidied T).members) e,
)

-- ---- the one number

-- what the tool finds packs, and what it gives is within the limits
tidy_packs : (R : Rooms) (T : Tableau) → Packs (tidy_verdict R T)
unfolding tidy_verdict at_unless verdict unless
tidy_packs R T = by (leb 4096 R.rows and leb 9216 R.nodes and leb 8192 R.members)
  where
    by : (b : Bool) → Packs (verdict (unless b TableTooShort (Some 0)) (check_older T))
    by true = older_packs T
    by false = omega arith

-- an acceptance is the older check's
tidy_accepts : (R : Rooms) (T : Tableau) (n l : ℕ) → tidy_verdict R T ≡ accept n l → check_older T ≡ accept n l
unfolding tidy_verdict at_unless verdict unless
tidy_accepts R T n l e = by (leb 4096 R.rows and leb 9216 R.nodes and leb 8192 R.members) e
  where
    by : (b : Bool) → verdict (unless b TableTooShort (Some 0)) (check_older T) ≡ accept n l → check_older T ≡ accept n l
    by true d = d
    by false d = let z : ◌≡◌ {A = ℕ} 0 1 = cc in absurd (omega arith)

pub tidy_fits : (R : Rooms) (T : Tableau) → ProofFits (tidy R T)
unfolding tidy tidy_answer row_count
tidy_fits R T = by (tidy_verdict R T) refl (tidy_packs R T)
  where
    by : (v : Verdict) → tidy_verdict R T ≡ v → Packs v → ProofFits (tidy_answer v (tidied T))
    by (Ok c) e p =
        let k = (tidied_keeps T ((older_accepts_exactly T c.nodes c.links).0 (tidy_accepts R T c.nodes c.links e)).0).older.tables in
        (omega (arith, k.row_limit), k.node_limit, k.member_limit)
    by (Err r) e p = p
