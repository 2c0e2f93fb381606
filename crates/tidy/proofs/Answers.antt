-- What tidying answers and leaves, by its verdict.
use Prim.Native.Nat.{ℕ}
use mathlib.Core.Path.{◌≡◌, sym, ◌∙◌, ap}
use mathlib.Core.Bool.{true, false}
use mathlib.Core.List.{List, []}
use lib.Dec.{leb}
use lib.IntN.{ℤ, pos}
use Rattle.stab.specs.Basic.{◌and◌}
use Rattle.stab.specs.Node.{Tableau}
use Rattle.stab.specs.Text.{padded}
use Rattle.stab.specs.Check.{at_unless, check_older, verdict}
use Rattle.std.specs.Prelude.{Some, Result}
use Rattle.stab.specs.Finding.{accept, refuse, Verdict, Place, Finding}
use Rattle.stab.specs.declared.Refused.{Refused}
use Rattle.stab.specs.declared.ProofCounts.{ProofCounts}
use Rattle.stab.specs.declared.Refusal.{Refusal}
use Rattle.stab.specs.declared.Refusal.TheVariants.{TableTooShort}
use Rattle.stab.proofs.Bools.{nothing_unless, found_unless}
use Rattle.tidied.specs.Tidied.{tidied}
use Rattle.tidied.specs.Tidy.{Rooms, tidy_verdict, tidy_answer, tidy, tidy_table_by, tidy_proof, tidy_node_table, tidy_member_table}

module _ (R : Rooms) (T : Tableau) where
  -- an answer and three tables, in this order
  abbrev pub Answers : Result ProofCounts Refused → List ℤ → List ℤ → List ℤ → Type 0
  Answers r rows nodes members =
      (r ≡ tidy R T) × ((rows ≡ tidy_proof R T) × ((nodes ≡ tidy_node_table R T) × (members ≡ tidy_member_table R T)))

  -- ---- the verdict

  verdict_short : (leb 4096 R.rows and leb 9216 R.nodes and leb 8192 R.members) ≡ false → tidy_verdict R T ≡ refuse TableTooShort (Some 0)
  unfolding tidy_verdict at_unless verdict
  verdict_short h = ap (λ (o : Finding). verdict o (check_older T)) (found_unless _ _ _ h)

  verdict_older : (leb 4096 R.rows and leb 9216 R.nodes and leb 8192 R.members) ≡ true → tidy_verdict R T ≡ check_older T
  unfolding tidy_verdict at_unless verdict
  verdict_older h = ap (λ (o : Finding). verdict o (check_older T)) (nothing_unless _ _ _ h)

  -- ---- a refusal

  module _ {why : Refusal} {p : Place} {r : Result ProofCounts Refused} {rows nodes members : List ℤ} (a : r ≡ refuse why p) (b : rows ≡ padded (pos 0) R.rows []) (c : nodes ≡ padded (pos 0) R.nodes []) (d : members ≡ padded (pos 0) R.members []) where
    answers_by : tidy_verdict R T ≡ refuse why p → Answers r rows nodes members
    unfolding tidy tidy_answer tidy_proof tidy_node_table tidy_member_table tidy_table_by
    answers_by v = (
      a ∙ sym (ap (λ (w : Verdict). tidy_answer w (tidied T)) v),
      (
        b ∙ sym (ap (λ (w : Verdict). tidy_table_by w R.rows (tidied T).proof) v),
        (
          c ∙ sym (ap (λ (w : Verdict). tidy_table_by w R.nodes (tidied T).nodes) v),
          d ∙ sym (ap (λ (w : Verdict). tidy_table_by w R.members (tidied T).members) v),
        ),
      ),
    )

    pub answers_refused : (leb 4096 R.rows and leb 9216 R.nodes and leb 8192 R.members) ≡ true → check_older T ≡ refuse why p → Answers r rows nodes members
    answers_refused h e = answers_by (verdict_older h ∙ e)

  pub answers_short : {r : Result ProofCounts Refused} {rows nodes members : List ℤ} → (leb 4096 R.rows and leb 9216 R.nodes and leb 8192 R.members) ≡ false → r ≡ refuse TableTooShort (Some 0) → rows ≡ padded (pos 0) R.rows [] → nodes ≡ padded (pos 0) R.nodes [] → members ≡ padded (pos 0) R.members [] → Answers r rows nodes members
  answers_short h a b c d = answers_by a b c d (verdict_short h)

  -- ---- the tidied record

  pub answers_tidied : {n l : ℕ} {r : Result ProofCounts Refused} {rows nodes members : List ℤ} → (leb 4096 R.rows and leb 9216 R.nodes and leb 8192 R.members) ≡ true → check_older T ≡ accept n l
      → r ≡ tidy_answer (accept 0 0) (tidied T)
      → rows ≡ padded (pos 0) R.rows (tidied T).proof
      → nodes ≡ padded (pos 0) R.nodes (tidied T).nodes
      → members ≡ padded (pos 0) R.members (tidied T).members
      → Answers r rows nodes members
  unfolding tidy tidy_answer tidy_proof tidy_node_table tidy_member_table tidy_table_by
  answers_tidied h e a b c d =
      let v = verdict_older h ∙ e in (
        a ∙ sym (ap (λ (w : Verdict). tidy_answer w (tidied T)) v),
        (
          b ∙ sym (ap (λ (w : Verdict). tidy_table_by w R.rows (tidied T).proof) v),
          (
            c ∙ sym (ap (λ (w : Verdict). tidy_table_by w R.nodes (tidied T).nodes) v),
            d ∙ sym (ap (λ (w : Verdict). tidy_table_by w R.members (tidied T).members) v),
          ),
        ),
      )
