-- Demands 2 and 3, as the one number x says them that the check, the older check or the model check gives, of tables or of texts.
use Rattle.std.specs.Prelude.{ℕ, ◌≡◌, ◌↔◌, ◌≢◌, Bool, true, false, List}
use Rattle.stab.specs.Node.{Tableau, schema_of}
use Rattle.stab.specs.Check.{link_count}
use Rattle.stab.specs.Model.{Model, check_model}
use Rattle.stab.specs.Keeps.{Keeps, KeepsOlder, KeepsModel}
use Rattle.stab.specs.Answer.{packed, answer_in, nodes_in, links_in}
use Rattle.stab.specs.Read.{read, SchemaText, ProofText, ModelText, read_schema, read_proof, read_model}
use Rattle.stab.specs.Program.{tableau_of, model_of, check_texts, model_texts, check_fault, model_fault}
use Rattle.stab.specs.Entry.{number_part, fault_part}
use Rattle.stab.specs.Refuted.{Refuted, SameSchema, Irrefutable}
use Rattle.stab.specs.Finding.{accept}

-- demand 3: "whatever model the model check is given with the same schema rows, root and least value, it does not accept that model"
abbrev pub NoModel : Tableau → Type 0
NoModel T = (M : Model) → SameSchema T M.schema → (nodes links : ℕ) → check_model M ≢ accept nodes links

-- of a tableau that is to keep some rules
pub record SaysOf (T : Tableau) (kept : Type 0) (x : ℕ) : Type 0 where
  -- demand 2: "A tableau is accepted exactly when it has a node and all its rows keep document 01's rules"
  pub exactly : (answer_in x ≡ 0) ↔ kept
  -- "and the reported node and link counts are those of its rows"
  pub nodes : answer_in x ≡ 0 → nodes_in x ≡ T.node_rows
  pub links : answer_in x ≡ 0 → links_in x ≡ link_count T
  -- demand 3: "if it accepts, the schema is false at every natural number n from its least value upward"
  pub refuted : answer_in x ≡ 0 → Refuted (schema_of T)
  pub no_model : answer_in x ≡ 0 → NoModel T

-- the check's number
abbrev pub CheckSays : Tableau → ℕ → Type 0
CheckSays T x = SaysOf T (Keeps T) x

-- the older check's number
abbrev pub OlderSays : Tableau → ℕ → Type 0
OlderSays T x = SaysOf T (KeepsOlder T) x

-- the model check's number, in which both counts are 0
pub record ModelSays (M : Model) (x : ℕ) : Type 0 where
  -- demand 2: "A model is accepted exactly when it and its schema are well formed, n is in document 01's range and the schema is true there."
  pub exactly : (answer_in x ≡ 0) ↔ KeepsModel M
  pub nodes : answer_in x ≡ 0 → nodes_in x ≡ 0
  pub links : answer_in x ≡ 0 → links_in x ≡ 0
  -- demand 3: no tableau of the same schema rows, root and least value is accepted
  pub irrefutable : answer_in x ≡ 0 → Irrefutable M.schema

-- ---- of two texts: "A text refused in reading, the schema's first, is printed the same way with counts 0, and nothing is checked."

-- the rules of the check for older records, or of the check
abbrev pub KeepsAs : Bool → Tableau → Type 0
KeepsAs true T = KeepsOlder T
KeepsAs false T = Keeps T

-- both texts are read, as this tableau
abbrev pub ReadAs : List ℕ → List ℕ → Tableau → Type 0
ReadAs schema proof T =
    (s : SchemaText) × (p : ProofText) × (read_schema 4096 schema ≡ read s) × (read_proof 4096 9216 8192 proof ≡ read p) × (T ≡ tableau_of s p)

-- what the number x of a schema text and a proof text says, of an older record or not
pub record TextsSay (older : Bool) (schema proof : List ℕ) (x : ℕ) : Type 0 where
  -- its two parts
  pub number : number_part x ≡ packed (check_texts older schema proof)
  pub fault : fault_part x ≡ check_fault older schema proof
  -- demand 2: accepted exactly when both are read and what they say keeps the rules
  pub exactly : (answer_in (number_part x) ≡ 0) ↔ ((T : Tableau) × ReadAs schema proof T × KeepsAs older T)
  -- of what is read it says what the check's number does
  pub says : (T : Tableau) → ReadAs schema proof T → SaysOf T (KeepsAs older T) (number_part x)

-- both texts are read, as this model
abbrev pub ReadAsModel : List ℕ → List ℕ → Model → Type 0
ReadAsModel schema model M =
    (s : SchemaText) × (m : ModelText) × (read_schema 4096 schema ≡ read s) × (read_model 8192 model ≡ read m) × (M ≡ model_of s m)

-- what the number x of a schema text and a model text says
pub record ModelTextsSay (schema model : List ℕ) (x : ℕ) : Type 0 where
  pub number : number_part x ≡ packed (model_texts schema model)
  pub fault : fault_part x ≡ model_fault schema model
  pub exactly : (answer_in (number_part x) ≡ 0) ↔ ((M : Model) × ReadAsModel schema model M × KeepsModel M)
  pub says : (M : Model) → ReadAsModel schema model M → ModelSays M (number_part x)
