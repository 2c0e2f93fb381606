-- The lines that stand once in a text, and its rows.
use Prim.Native.Nat.{ℕ, ◌+◌, ◌*◌}
use native.Mathlib.Omega.{arith}
use mathlib.Core.Path.{◌≡◌, refl, sym, ◌∙◌, ap, ap₂}
use mathlib.Core.Bool.{false}
use mathlib.Core.List.{List}
use lib.Dec.{eqb}
use lib.IntN.{ℤ, pos}
use lib.ListN.{drop, get_or}
use Rattle.stab.specs.Text.{Line, lines, schema_heading, row_heading, model_heading, pair_heading}
use Rattle.stab.specs.Read.{Reading, read, stopped, ◌and_then◌, heading_at, values_at, rows_from, proof_rows_from, read_schema_lines, read_model_lines, read_proof_lines}
use Rattle.stab.specs.declared.Refusal.TheVariants.{Line as LineRefused}
use Rattle.stab.proofs.Texts.Rows.{then_is}
use Rattle.text.specs.Awaiting.{schema, model, schema_with, model_with, schema_rows, model_rows, as_proof, rest, goes_on, Ready}
use Rattle.text.specs.OneLine.{headed, row_by, listed_by}
use Rattle.text.specs.Rows.{row_found, row_into}
use Rattle.text.specs.declared.awaited.Taken.{Taken}
use Rattle.text.specs.declared.awaited.Awaited.{Awaited}
use Rattle.text.specs.declared.awaited.Awaited.TheVariants.{Row, Pair, Formula, SchemaHeading, SchemaValues, RowHeading, ModelHeading, ModelValue, PairHeading, ProofHeading, Schema, Model, BadLine}
use Rattle.text.proofs.Openings.{then_then, then_same}
use Rattle.text.proofs.ProofLaws.{proof_ahead_none}
use Rattle.text.proofs.RowLaws.{into_length, ahead_none, then_stops, values_stop, front, rows_so_far}
use Rattle.text.proofs.TakenLaws.{Moved, stays, goes, heading_moved, row_moved, listed_moved}
use Rattle.stab.proofs.Texts.Kinds.{schema_heading_lacks, row_heading_lacks, model_heading_lacks, pair_heading_lacks}

-- ---- the definitions, one line at a time

schema_made : (vs : List ℤ) (r : Reading (List ℤ))
    → ((r and_then λ t. read (record { root = get_or vs 0 (pos 0); least = get_or vs 1 (pos 0); table = t })) and_then λ s. read (schema s)) ≡ schema_with vs r
unfolding schema_with ◌and_then◌
schema_made vs (read t) = refl
schema_made vs (stopped why k) = refl

model_made : (vs : List ℤ) (r : Reading (List ℤ)) → ((r and_then λ t. read (record { n = get_or vs 0 (pos 0); table = t })) and_then λ s. read (model s)) ≡ model_with vs r
unfolding model_with ◌and_then◌
model_made vs (read t) = refl
model_made vs (stopped why k) = refl

schema_lines : (ls : List Line) → (read_schema_lines ls and_then λ s. read (schema s)) ≡ (heading_at schema_heading 1 ls and_then λ rest. values_at (eqb 2) 2 rest and_then λ v. schema_rows v.0 v.1)
unfolding read_schema_lines schema_rows
schema_lines ls =
    then_then (heading_at schema_heading 1 ls) _ _
    ∙ then_same (heading_at schema_heading 1 ls) _ _ (λ ls₁.
    then_then (values_at (eqb 2) 2 ls₁) _ _
    ∙ then_same (values_at (eqb 2) 2 ls₁) _ _ (λ v.
    then_then (heading_at row_heading 3 v.1) _ _
    ∙ then_same (heading_at row_heading 3 v.1) _ _ (λ ls₃.
    schema_made v.0 (rows_from 4 1024 4 ls₃))))

model_lines : (ls : List Line) → (read_model_lines ls and_then λ s. read (model s)) ≡ (heading_at model_heading 1 ls and_then λ rest. values_at (eqb 1) 2 rest and_then λ v. model_rows v.0 v.1)
unfolding read_model_lines model_rows
model_lines ls =
    then_then (heading_at model_heading 1 ls) _ _
    ∙ then_same (heading_at model_heading 1 ls) _ _ (λ ls₁.
    then_then (values_at (eqb 1) 2 ls₁) _ _
    ∙ then_same (values_at (eqb 1) 2 ls₁) _ _ (λ v.
    then_then (heading_at pair_heading 3 v.1) _ _
    ∙ then_same (heading_at pair_heading 3 v.1) _ _ (λ ls₃.
    model_made v.0 (rows_from 2 4096 4 ls₃))))

proof_lines : (ls : List Line) → as_proof (read_proof_lines ls) ≡ (heading_at row_heading 1 ls and_then λ rest. as_proof (proof_rows_from 1024 2 rest))
unfolding read_proof_lines as_proof
proof_lines ls = then_then (heading_at row_heading 1 ls) _ _

-- values count by their first two
schema_values_same : (vs us : List ℤ) (ls : List Line) → get_or us 0 (pos 0) ≡ get_or vs 0 (pos 0) → get_or us 1 (pos 0) ≡ get_or vs 1 (pos 0) → schema_rows vs ls ≡ schema_rows us ls
unfolding schema_rows schema_with
schema_values_same vs us ls p q =
    ap₂ (λ (a b : ℤ). heading_at row_heading 3 ls and_then λ rest. rows_from 4 1024 4 rest and_then λ t. read (schema (record { root = a; least = b; table = t }))) (sym p) (sym q)

model_value_same : (vs us : List ℤ) (ls : List Line) → get_or us 0 (pos 0) ≡ get_or vs 0 (pos 0) → model_rows vs ls ≡ model_rows us ls
unfolding model_rows model_with
model_value_same vs us ls p = ap (λ (a : ℤ). heading_at pair_heading 3 ls and_then λ rest. rows_from 2 4096 4 rest and_then λ t. read (model (record { n = a; table = t }))) (sym p)

module _ (text : List ℕ) (at : ℕ) (t u m : List ℤ) where
  -- ---- schema

  pub schema_heading_lem : Ready text at SchemaHeading t u m → (a : Taken) → a ≡ headed schema_heading text at 1 SchemaValues → Moved text at SchemaHeading t u m a.next a.got t u m
  unfolding rest
  schema_heading_lem r a x =
      heading_moved text at SchemaHeading t u m r schema_heading schema_heading_lacks 1 SchemaValues r.room refl
      (λ ls. values_at (eqb 2) 2 ls and_then λ v. schema_rows v.0 v.1) (schema_lines (lines (drop at text))) (λ ls. refl) a x

  pub schema_values : Ready text at SchemaValues t u m → (a : Taken) → a ≡ row_by at 0 1 2 RowHeading (row_found text at 2)
      → Moved text at SchemaValues t u m a.next a.got t (row_into text at 2 0 u) m
  unfolding rest
  schema_values r a x =
      let u' = row_into text at 2 0 u in
      row_moved text at SchemaValues t u m t u' m 0 1 2 RowHeading u 0 2 a x
      (λ y. stays text at SchemaValues t u m r (BadLine 2) t u' m tt refl (then_stops (values_at (eqb 2) 2 (lines (drop at text))) _ LineRefused 2 (values_stop (eqb 2) 2 (drop at text) y)))
      (λ next y e. absurd (omega arith))
      (λ next y e. let f = front text at u 2 2 u' next y r.room.1 in
      goes text at SchemaValues t u m r RowHeading t u' m r.room.0 next y.ahead y.within
      (then_is (values_at (eqb 2) 2 (lines (drop at text))) _ (f.vs, lines (drop next text)) f.values
      ∙ schema_values_same f.vs u' (lines (drop next text)) (f.at 0 (pos 0) (omega arith)) (f.at 1 (pos 0) (omega arith))) refl)

  pub row_heading_lem : Ready text at RowHeading t u m → (a : Taken) → a ≡ headed row_heading text at 3 (Row 0) → Moved text at RowHeading t u m a.next a.got t u m
  unfolding rest schema_rows
  row_heading_lem r a x =
      heading_moved text at RowHeading t u m r row_heading row_heading_lacks 3 (Row 0) (omega arith, r.room) refl (λ ls. schema_with u (rows_from 4 1024 4 ls)) refl (λ ls. ap (schema_with u) (sym (ahead_none (rows_from 4 1024 4 ls)))) a x

  pub schema_row : (n : ℕ) → Ready text at (Row n) t u m → (a : Taken) → a ≡ listed_by text at 4 n 1024 (Row (n + 1)) (Schema n)
      → Moved text at (Row n) t u m a.next a.got (row_into text at 4 (4 * n) t) u m
  unfolding rest rows_so_far
  schema_row n r a x =
      listed_moved text at (Row n) t u m r 4 n 1024 (Row (n + 1)) (Schema n) (schema_with u) (λ why k. unfold schema_with ◌and_then◌ in refl) refl r.room.0 (λ l. omega (arith, r.room.1)) refl refl
      (omega (arith, r.room.0, r.room.1)) (λ ls. refl) (λ l. (omega arith, omega (arith, r.room.1, into_length text at 4 (4 * n) t))) (λ i. refl) a x

  -- ---- model

  pub model_heading_lem : Ready text at ModelHeading t u m → (a : Taken) → a ≡ headed model_heading text at 1 ModelValue → Moved text at ModelHeading t u m a.next a.got t u m
  unfolding rest
  model_heading_lem r a x =
      heading_moved text at ModelHeading t u m r model_heading model_heading_lacks 1 ModelValue r.room refl
      (λ ls. values_at (eqb 1) 2 ls and_then λ v. model_rows v.0 v.1) (model_lines (lines (drop at text))) (λ ls. refl) a x

  pub model_value : Ready text at ModelValue t u m → (a : Taken) → a ≡ row_by at 0 1 2 PairHeading (row_found text at 1)
      → Moved text at ModelValue t u m a.next a.got t (row_into text at 1 0 u) m
  unfolding rest
  model_value r a x =
      let u' = row_into text at 1 0 u in
      row_moved text at ModelValue t u m t u' m 0 1 2 PairHeading u 0 1 a x
      (λ y. stays text at ModelValue t u m r (BadLine 2) t u' m tt refl (then_stops (values_at (eqb 1) 2 (lines (drop at text))) _ LineRefused 2 (values_stop (eqb 1) 2 (drop at text) y)))
      (λ next y e. absurd (omega arith))
      (λ next y e. let f = front text at u 1 2 u' next y r.room.1 in
      goes text at ModelValue t u m r PairHeading t u' m r.room.0 next y.ahead y.within
      (then_is (values_at (eqb 1) 2 (lines (drop at text))) _ (f.vs, lines (drop next text)) f.values
      ∙ model_value_same f.vs u' (lines (drop next text)) (f.at 0 (pos 0) (omega arith))) refl)

  pub pair_heading_lem : Ready text at PairHeading t u m → (a : Taken) → a ≡ headed pair_heading text at 3 (Pair 0) → Moved text at PairHeading t u m a.next a.got t u m
  unfolding rest model_rows
  pair_heading_lem r a x =
      heading_moved text at PairHeading t u m r pair_heading pair_heading_lacks 3 (Pair 0) (omega arith, r.room) refl (λ ls. model_with u (rows_from 2 4096 4 ls)) refl (λ ls. ap (model_with u) (sym (ahead_none (rows_from 2 4096 4 ls)))) a x

  pub model_pair : (k : ℕ) → Ready text at (Pair k) t u m → (a : Taken) → a ≡ listed_by text at 2 k 4096 (Pair (k + 1)) (Model k)
      → Moved text at (Pair k) t u m a.next a.got (row_into text at 2 (2 * k) t) u m
  unfolding rest rows_so_far
  model_pair k r a x =
      listed_moved text at (Pair k) t u m r 2 k 4096 (Pair (k + 1)) (Model k) (model_with u) (λ why i. unfold model_with ◌and_then◌ in refl) refl r.room.0 (λ l. omega (arith, r.room.1)) refl refl
      (omega (arith, r.room.0, r.room.1)) (λ ls. refl) (λ l. (omega arith, omega (arith, r.room.1, into_length text at 2 (2 * k) t))) (λ i. refl) a x

  -- ---- proof

  pub proof_heading : Ready text at ProofHeading t u m → (a : Taken) → a ≡ headed row_heading text at 1 (Formula 0) → Moved text at ProofHeading t u m a.next a.got t u m
  unfolding rest
  proof_heading r a x =
      heading_moved text at ProofHeading t u m r row_heading row_heading_lacks 1 (Formula 0) (omega arith, r.room.0, r.room.1, r.room.2) refl
      (λ ls. as_proof (proof_rows_from 1024 2 ls)) (proof_lines (lines (drop at text))) (λ ls. ap as_proof (sym (proof_ahead_none (proof_rows_from 1024 2 ls)))) a x

  -- ---- nothing is awaited

  pub over_stays : (p : Awaited) → Ready text at p t u m → goes_on p ≡ false → Moved text at p t u m at p t u m
  over_stays p r e = stays text at p t u m r p t u m r.room e refl
