-- A row as it is lent and laid behind the rows held, and the nodes alone.
use Rattle.std.specs.Prelude.{ℕ, suc, ◌+◌, ◌*◌, ◌<◌, ◌≤◌, ◌≡◌, true, List, [], ℤ, pos, length, get_or}
use Rattle.std.proofs.lemmas.List.Edits.{sets}
use Rattle.stab.specs.Basic.{within, below}
use Rattle.stab.specs.Node.{Tableau, node_at}
use Rattle.stab.specs.Lent.{lent, header}
use Rattle.stab.specs.Check.{link_count}
use Rattle.stab.specs.declared.Header.{Header}
use Rattle.branch.specs.Parents.{AllUpFit}
use Rattle.growing.specs.Growing.{NodeRow, node_numbers, held_rows}
use Rattle.growing.specs.Complete.{complete}
use Rattle.growing.specs.declared.Growth.{Growth}

-- a node row, from its seven numbers and its set
unfoldable pub row_from : List ℤ → List ℤ → NodeRow
row_from row set = record {
  up = get_or row 0 (pos 0);
  rule = get_or row 1 (pos 0);
  on = get_or row 2 (pos 0);
  with = get_or row 3 (pos 0);
  other = get_or row 4 (pos 0);
  to = get_or row 5 (pos 0);
  by = get_or row 6 (pos 0);
  members = set;
}

-- the rows held with one more behind them, and past it whatever stands there
unfoldable pub grown : Tableau → NodeRow → Tableau
grown T w = record {
  schema = T.schema;
  schema_rows = T.schema_rows;
  proof = T.proof;
  proof_rows = T.proof_rows;
  root = T.root;
  least = T.least;
  nodes = sets T.nodes (9 * T.node_rows) (node_numbers w T.member_count);
  node_rows = suc T.node_rows;
  members = sets T.members T.member_count w.members;
  member_count = T.member_count + length w.members;
}

-- nodes alone
abbrev pub nodes_only : List ℤ → ℕ → Tableau
nodes_only nodes k = lent [] [] nodes [] (header 0 0 (pos 0) (pos 0) k 0)

-- what is shown of them
unfoldable pub shown : List ℤ → ℕ → Growth
shown nodes k = held_rows k (link_count (nodes_only nodes k)) (complete (nodes_only nodes k))

-- what is known of them when their children are counted
pub record Countable (nodes : List ℤ) (h : Header) : Type 0 where
  pub few : h.node_rows ≤ 1024
  pub least_fits : within (pos 0) (pos 9999) h.least ≡ true
  pub parents : AllUpFit nodes h.node_rows
  pub rules : (j : ℕ) → j < h.node_rows → below 9 (node_at nodes j).rule ≡ true
