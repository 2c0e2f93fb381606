-- What is known of the tables when single steps are judged: the earlier passes found nothing, and what they worked out is kept.
use Rattle.std.specs.Prelude.{ℕ, ◌*◌, ◌≤◌, ◌<◌, ◌≡◌, true, List, pos, length}
use Rattle.stab.specs.Basic.{within}
use Rattle.stab.specs.Node.{Tableau, rows, row_count, set_fits, parent_fits}
use Rattle.formula.specs.Facts.{AllKnown}
use Rattle.classes.specs.Class.{Ready as Compared}
use Rattle.branch.specs.Work.{AllWorked}

pub record Ready (T : Tableau) (facts forms work : List ℕ) : Type 0 where
  pub node_limit : T.node_rows ≤ 1024
  pub member_limit : T.member_count ≤ 8192
  pub nodes_held : 9 * T.node_rows ≤ length T.nodes
  pub members_held : T.member_count ≤ length T.members
  pub least_fits : within (pos 0) (pos 9999) T.least ≡ true
  pub known : AllKnown (rows T) facts (row_count T)
  pub compared : Compared (rows T) forms (row_count T)
  pub sets : (j : ℕ) → j < T.node_rows → set_fits T j ≡ true
  pub parents : (j : ℕ) → j < T.node_rows → parent_fits T j ≡ true
  pub worked : AllWorked T.nodes T.least T.node_rows work T.node_rows
