-- Demand 2: the check accepts exactly the records that keep the rules, and the model check exactly the models that are right.
pub mod Formulas
pub mod Nodes
pub mod Steps
pub mod Checked
mod Models
pub mod Refusals
use Prim.Native.Nat.{ℕ}
use mathlib.Core.Path.{◌≡◌}
use mathlib.Core.Logic.{◌↔◌}
use Rattle.stab.specs.Node.{Tableau}
use Rattle.stab.specs.Check.{link_count, verdict, refusal, present_mode, older_mode, verdict_on, check, check_older}
use Rattle.stab.specs.Model.{Model, model_refusal, check_model}
use Rattle.stab.specs.Keeps.{KeepsOlder, Keeps, KeepsModel}
use Rattle.stab.specs.Finding.{accept}
use Checked.{older_clears, tableau_clears}
use Models.{model_clears}
use Refusals.{accepted}

-- the check accepts exactly the records that keep the rules, and says how many nodes and links they have
pub accepts_exactly : (T : Tableau) (n l : ℕ) → (check T ≡ accept n l) ↔ (Keeps T × (n ≡ T.node_rows) × (l ≡ link_count T))
unfolding check verdict_on verdict
accepts_exactly T n l = (
  λ h.
      let a = accepted (refusal present_mode T) T.node_rows (link_count T) n l h in
      ((tableau_clears T).0 a.0, a.1, a.2),
  λ p. rw ((tableau_clears T).1 p.0, p.1, p.2),
)

-- the older check exactly those that keep document 01's rules, as 02, Nos. 3 to 6 amend them
pub older_accepts_exactly : (T : Tableau) (n l : ℕ) → (check_older T ≡ accept n l) ↔ (KeepsOlder T × (n ≡ T.node_rows) × (l ≡ link_count T))
unfolding check_older verdict_on verdict
older_accepts_exactly T n l = (
  λ h.
      let a = accepted (refusal older_mode T) T.node_rows (link_count T) n l h in
      ((older_clears T).0 a.0, a.1, a.2),
  λ p. rw ((older_clears T).1 p.0, p.1, p.2),
)

-- the model check accepts exactly the models that are right
pub model_accepts_exactly : (M : Model) → (check_model M ≡ accept 0 0) ↔ KeepsModel M
unfolding check_model verdict
model_accepts_exactly M = (
  λ h. (model_clears M).0 (accepted (model_refusal M) 0 0 0 0 h).0,
  λ k. rw ((model_clears M).1 k),
)

-- an accepted model has both counts 0
pub model_counts_zero : (M : Model) (n l : ℕ) → check_model M ≡ accept n l → (n ≡ 0) × (l ≡ 0)
unfolding check_model
model_counts_zero M n l h = let a = accepted (model_refusal M) 0 0 n l h in (a.1, a.2)
