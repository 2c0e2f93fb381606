-- The numbers of the check, of the older check and of the model check say what demands 2 and 3 ask, of tables and of texts.
use Prim.Native.Nat.{ℕ}
use native.Mathlib.Omega.{arith}
use mathlib.Core.Path.{◌≡◌, refl, sym, ◌∙◌, ap, ap₂, subst}
use mathlib.Core.Logic.{◌↔◌}
use mathlib.Core.Bool.{Bool, true, false}
use mathlib.Core.List.{List}
use Rattle.stab.specs.Node.{Tableau}
use Rattle.stab.specs.Check.{link_count, check, check_older, check_as}
use Rattle.stab.specs.Model.{Model, check_model}
use Rattle.stab.specs.Keeps.{Keeps, KeepsOlder, KeepsModel}
use Rattle.stab.specs.Answer.{Numbers, verdict_numbers, packed, answer_in, nodes_in, links_in, numbers_in, Packs}
use Rattle.stab.specs.Read.{Reading, read, stopped, read_schema, read_proof, read_model}
use Rattle.stab.specs.Program.{tableau_of, model_of, after_reading, check_texts, model_texts, check_fault, model_fault}
use Rattle.stab.specs.Entry.{texts_packed, number_part, fault_part}
use Rattle.stab.specs.Finding.{accept, Verdict}
use Rattle.stab.proofs.Exactness.{accepts_exactly, older_accepts_exactly, model_accepts_exactly, model_counts_zero}
use Rattle.stab.proofs.Soundness.{no_model_lem}
use Rattle.stab.proofs.Packed.{check_packs, older_packs, model_packs, read_back, packed_accepted, accepted_packed, packed_sound, packed_sound_older, packed_no_model}
use Rattle.stab.proofs.Entries.{check_texts_pack, model_texts_pack, number_part_lem, fault_part_lem}
use Rattle.told.specs.Demands.{SaysOf, CheckSays, OlderSays, ModelSays, KeepsAs, ReadAs, TextsSay, ReadAsModel, ModelTextsSay}

-- of a verdict that accepts exactly where something is kept, and then with these counts
module _ (v : Verdict) (kept : Type 0) (nodes links : ℕ) (packs : Packs v) (accepts : (n l : ℕ) → (v ≡ accept n l) ↔ (kept × (n ≡ nodes) × (l ≡ links))) where
  accepted : answer_in (packed v) ≡ 0 → v ≡ accept nodes links
  accepted h =
      let a = packed_accepted v packs h in
      let k = (accepts a.0 a.1).0 a.2 in
      a.2 ∙ ap₂ accept k.1 k.2

  exactly : (answer_in (packed v) ≡ 0) ↔ kept
  exactly = (
    λ h. ((accepts nodes links).0 (accepted h)).0,
    λ k.
        let e = (accepts nodes links).1 (k, refl, refl) in
        ap (λ (w : Verdict). answer_in (packed w)) e ∙ accepted_packed nodes links (subst Packs e packs),
  )

  counts : answer_in (packed v) ≡ 0 → (nodes_in (packed v) ≡ nodes) × (links_in (packed v) ≡ links)
  unfolding numbers_in verdict_numbers
  counts h =
      let e = read_back v packs ∙ ap verdict_numbers (accepted h) in
      (ap (λ (a : Numbers). a.nodes) e, ap (λ (a : Numbers). a.links) e)

pub check_says_lem : (T : Tableau) → CheckSays T (packed (check T))
check_says_lem T =
    let by = counts (check T) (Keeps T) T.node_rows (link_count T) (check_packs T) (accepts_exactly T) in record {
      exactly = exactly (check T) (Keeps T) T.node_rows (link_count T) (check_packs T) (accepts_exactly T);
      nodes = λ h. (by h).0;
      links = λ h. (by h).1;
      refuted = packed_sound T;
      no_model = λ h M same n l b. let a = packed_accepted (check T) (check_packs T) h in (no_model_lem M n l b T same a.0 a.1).0 a.2;
    }

pub check_told : {T : Tableau} {v : Verdict} {x : ℕ} → v ≡ check T → x ≡ packed v → (x ≡ packed (check T)) × CheckSays T x
check_told {T} e f = let g = f ∙ ap packed e in (g, subst (CheckSays T) (sym g) (check_says_lem T))

pub older_says_lem : (T : Tableau) → OlderSays T (packed (check_older T))
older_says_lem T =
    let by = counts (check_older T) (KeepsOlder T) T.node_rows (link_count T) (older_packs T) (older_accepts_exactly T) in record {
      exactly = exactly (check_older T) (KeepsOlder T) T.node_rows (link_count T) (older_packs T) (older_accepts_exactly T);
      nodes = λ h. (by h).0;
      links = λ h. (by h).1;
      refuted = packed_sound_older T;
      no_model = λ h M same n l b. let a = packed_accepted (check_older T) (older_packs T) h in (no_model_lem M n l b T same a.0 a.1).1 a.2;
    }

pub older_told : {T : Tableau} {v : Verdict} {x : ℕ} → v ≡ check_older T → x ≡ packed v → (x ≡ packed (check_older T)) × OlderSays T x
older_told {T} e f = let g = f ∙ ap packed e in (g, subst (OlderSays T) (sym g) (older_says_lem T))

model_accepts : (M : Model) (n l : ℕ) → (check_model M ≡ accept n l) ↔ (KeepsModel M × (n ≡ 0) × (l ≡ 0))
model_accepts M n l = (
  λ h. let z = model_counts_zero M n l h in ((model_accepts_exactly M).0 (h ∙ ap₂ accept z.0 z.1), z.0, z.1),
  λ p. (model_accepts_exactly M).1 p.0 ∙ ap₂ accept (sym p.1) (sym p.2),
)

pub model_says_lem : (M : Model) → ModelSays M (packed (check_model M))
model_says_lem M =
    let by = counts (check_model M) (KeepsModel M) 0 0 (model_packs M) (model_accepts M) in record {
      exactly = exactly (check_model M) (KeepsModel M) 0 0 (model_packs M) (model_accepts M);
      nodes = λ h. (by h).0;
      links = λ h. (by h).1;
      irrefutable = packed_no_model M;
    }

pub model_told : {M : Model} {v : Verdict} {x : ℕ} → v ≡ check_model M → x ≡ packed v → (x ≡ packed (check_model M)) × ModelSays M x
model_told {M} e f = let g = f ∙ ap packed e in (g, subst (ModelSays M) (sym g) (model_says_lem M))

-- ---- two texts

-- an acceptance, after reading: both are read
accepted_read : {A B : Type 0} (judge : A → B → Verdict) (r : Reading A) (s : Reading B) (n l : ℕ)
    → after_reading judge r s ≡ accept n l → (a : A) × (b : B) × (r ≡ read a) × (s ≡ read b)
unfolding after_reading
accepted_read judge (read a) (read b) n l e = (a, b, refl, refl)
accepted_read judge (read a) (stopped why k) n l e = let z : ◌≡◌ {A = ℕ} 0 1 = cc in absurd (omega arith)
accepted_read judge (stopped why k) s n l e = let z : ◌≡◌ {A = ℕ} 0 1 = cc in absurd (omega arith)

says_as : (older : Bool) (T : Tableau) → SaysOf T (KeepsAs older T) (packed (check_as older T))
unfolding check_as
says_as true T = older_says_lem T
says_as false T = check_says_lem T

module _ (older : Bool) (schema proof : List ℕ) where
  check_of : (T : Tableau) → ReadAs schema proof T → check_texts older schema proof ≡ check_as older T
  unfolding check_texts after_reading
  check_of T (s, p, e, g, t) = ap₂ (after_reading (λ a b. check_as older (tableau_of a b))) e g ∙ ap (check_as older) (sym t)

  check_says_of : (T : Tableau) → ReadAs schema proof T → SaysOf T (KeepsAs older T) (packed (check_texts older schema proof))
  check_says_of T r = subst (λ (v : Verdict). SaysOf T (KeepsAs older T) (packed v)) (sym (check_of T r)) (says_as older T)

  check_read : answer_in (packed (check_texts older schema proof)) ≡ 0 → (T : Tableau) × ReadAs schema proof T
  unfolding check_texts
  check_read h =
      let a = packed_accepted (check_texts older schema proof) (check_texts_pack older schema proof) h in
      let r = accepted_read _ (read_schema 4096 schema) (read_proof 4096 9216 8192 proof) a.0 a.1 a.2 in
      (tableau_of r.0 r.1, (r.0, r.1, r.2, r.3, refl))

  check_texts_exactly : (answer_in (packed (check_texts older schema proof)) ≡ 0) ↔ ((T : Tableau) × ReadAs schema proof T × KeepsAs older T)
  check_texts_exactly = (
    λ h. let t = check_read h in (t.0, t.1, (check_says_of t.0 t.1).exactly.0 h),
    λ k. (check_says_of k.0 k.1).exactly.1 k.2,
  )

  pub check_texts_say : {x : ℕ} → x ≡ texts_packed (check_texts older schema proof) (check_fault older schema proof) → TextsSay older schema proof x
  check_texts_say e =
      let packs = check_texts_pack older schema proof in
      let n = ap (λ (y : ℕ). number_part y) e ∙ number_part_lem _ (check_fault older schema proof) packs in record {
        number = n;
        fault = ap (λ (y : ℕ). fault_part y) e ∙ fault_part_lem (check_texts older schema proof) _ packs;
        exactly = rw n check_texts_exactly;
        says = λ T r. rw n (check_says_of T r);
      }

module _ (schema model : List ℕ) where
  model_of_lem : (M : Model) → ReadAsModel schema model M → model_texts schema model ≡ check_model M
  unfolding model_texts after_reading
  model_of_lem M (s, m, e, g, t) = ap₂ (after_reading (λ a b. check_model (model_of a b))) e g ∙ ap check_model (sym t)

  model_says_of : (M : Model) → ReadAsModel schema model M → ModelSays M (packed (model_texts schema model))
  model_says_of M r = subst (λ (v : Verdict). ModelSays M (packed v)) (sym (model_of_lem M r)) (model_says_lem M)

  model_read_lem : answer_in (packed (model_texts schema model)) ≡ 0 → (M : Model) × ReadAsModel schema model M
  unfolding model_texts
  model_read_lem h =
      let a = packed_accepted (model_texts schema model) (model_texts_pack schema model) h in
      let r = accepted_read _ (read_schema 4096 schema) (read_model 8192 model) a.0 a.1 a.2 in
      (model_of r.0 r.1, (r.0, r.1, r.2, r.3, refl))

  model_texts_exactly : (answer_in (packed (model_texts schema model)) ≡ 0) ↔ ((M : Model) × ReadAsModel schema model M × KeepsModel M)
  model_texts_exactly = (
    λ h. let t = model_read_lem h in (t.0, t.1, (model_says_of t.0 t.1).exactly.0 h),
    λ k. (model_says_of k.0 k.1).exactly.1 k.2,
  )

  pub model_texts_say_lem : {x : ℕ} → x ≡ texts_packed (model_texts schema model) (model_fault schema model) → ModelTextsSay schema model x
  model_texts_say_lem e =
      let packs = model_texts_pack schema model in
      let n = ap (λ (y : ℕ). number_part y) e ∙ number_part_lem _ (model_fault schema model) packs in record {
        number = n;
        fault = ap (λ (y : ℕ). fault_part y) e ∙ fault_part_lem (model_texts schema model) _ packs;
        exactly = rw n model_texts_exactly;
        says = λ M r. rw n (model_says_of M r);
      }
