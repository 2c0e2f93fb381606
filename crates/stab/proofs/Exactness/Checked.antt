-- Nothing is found in a tableau exactly if all its rows keep the rules.
use Prim.Native.Nat.{ℕ, ◌*◌, ◌<◌}
use native.Mathlib.Omega.{arith}
use mathlib.Core.Path.{◌≡◌, ◌∙◌}
use mathlib.Core.Logic.Iff
use mathlib.Core.Bool.{Bool, true, false}
use lib.ListN.{length}
use Rattle.stab.specs.Basic.{◌implies◌, ◌otherwise◌}
use Rattle.stab.specs.Node.{Tableau, rows, row_count}
use Rattle.stab.specs.Check.{holds, formulas_refusal, set_refusal, parent_refusal, node_refusal, tables_hold, within_limits, enough_nodes, refusal, present_mode, older_mode}
use Rattle.stab.specs.Before.{Tests, node_by, refusal_by}
use Rattle.stab.specs.Keeps.{KeepsParent, KeepsTables, KeepsNode, KeepsOlder, Keeps}
use Rattle.stab.specs.declared.Refusal.TheVariants.{TableTooShort, TooMany, Parent}
use Rattle.stab.specs.Finding.{Finding, no_refusal}
use Rattle.stab.proofs.Bools.{otherwise_same, otherwise_first, otherwise_second, otherwise_nothing}
use Rattle.stab.proofs.Scans.{scan_same, scan_nothing, nothing_scan}
use Rattle.stab.proofs.Tests.{◌&◌, le_tests, lt_tests, ◌clears◌, whole_clears, ◌then◌, scan_clears}
use Rattle.stab.proofs.Exactness.Formulas.{formulas_clears, present_clears}
use Rattle.stab.proofs.Exactness.Nodes.{set_clears, parent_clears}
use Rattle.stab.proofs.Exactness.Steps.{step_clears}

-- a whole record, older or not, where what is found of its formulas clears a statement
module _ (T : Tableau) (older : Bool) (F : Type 0) (found-clears : formulas_refusal older (rows T) (row_count T) T.schema_rows T.root T.least clears F) where
  record Cleared : Type 0 where
    tables : KeepsTables T
    formulas : F
    has_node : 0 < T.node_rows
    nodes : (j : ℕ) → j < T.node_rows → KeepsNode T j

  cleared : refusal (record { older = older; whole = true }) T clears Cleared
  unfolding refusal tables_hold holds within_limits enough_nodes ◌implies◌
  cleared =
      Iff.trans
      (whole_clears TableTooShort
      (le_tests (4 * T.schema_rows) (length T.schema) &
      le_tests (4 * T.proof_rows) (length T.proof) &
      le_tests (9 * T.node_rows) (length T.nodes) &
      le_tests (1 * T.member_count) (length T.members)) then
      whole_clears TooMany (le_tests (row_count T) 1024 & le_tests T.node_rows 1024 & le_tests T.member_count 8192) then
      found-clears then
      scan_clears (set_refusal T) T.node_rows (λ j l. set_clears T j) then
      whole_clears Parent (lt_tests 0 T.node_rows) then
      scan_clears (parent_refusal T) T.node_rows (λ j l. parent_clears T j) then
      scan_clears (node_refusal true T) T.node_rows (λ j l. step_clears T j)) (
        λ p. record {
          tables = record {
            schema_held = p.0.0;
            proof_held = p.0.1.0;
            nodes_held = p.0.1.1.0;
            members_held = omega (arith, p.0.1.1.1);
            row_limit = p.1.0.0;
            node_limit = p.1.0.1.0;
            member_limit = p.1.0.1.1;
          };
          formulas = p.1.1.0;
          has_node = p.1.1.1.1.0;
          nodes = λ j l. record {
            set = p.1.1.1.0 j l;
            parent = p.1.1.1.1.1.0 j l;
            drawn = (p.1.1.1.1.1.1 j l).0;
            step = (p.1.1.1.1.1.1 j l).1;
          };
        },
        λ k.
            let t = k.tables in
            let each = k.nodes in (
              (t.schema_held, (t.proof_held, (t.nodes_held, omega (arith, t.members_held)))),
              (
                (t.row_limit, (t.node_limit, t.member_limit)),
                (
                  k.formulas,
                  (
                    λ j l. (each j l).set,
                    (
                      k.has_node,
                      (λ j l. (each j l).parent, λ j l. ((each j l).drawn, (each j l).step)),
                    ),
                  ),
                ),
              ),
            ),
      )

-- the older check, and the check
pub older_clears : (T : Tableau) → refusal older_mode T clears KeepsOlder T
unfolding older_mode
older_clears T =
    Iff.trans
    (cleared T true _ (formulas_clears (rows T) (row_count T) T.schema_rows T.root T.least))
    (λ c. record { tables = c.tables; formulas = c.formulas; has_node = c.has_node; nodes = c.nodes }, λ k. record { tables = k.tables; formulas = k.formulas; has_node = k.has_node; nodes = k.nodes })

pub tableau_clears : (T : Tableau) → refusal present_mode T clears Keeps T
unfolding present_mode
tableau_clears T =
    Iff.trans (cleared T false _ (present_clears T)) (
      λ c. record {
        older = record { tables = c.tables; formulas = c.formulas.0; has_node = c.has_node; nodes = c.nodes };
        fresh = c.formulas.1;
      },
      λ k. record { tables = k.older.tables; formulas = (k.older.formulas, k.fresh); has_node = k.older.has_node; nodes = k.older.nodes },
    )

-- ---- the check by other tests of a node

-- two such checks find the same in a tableau if they find the same at each node before which nothing is found
pub refusal_by_same : (t u : Tests) (T : Tableau) → (((k : ℕ) → k < T.node_rows → KeepsParent T k) → (j : ℕ) → j < T.node_rows → ((k : ℕ) → k < j → node_by u T k ≡ no_refusal) → node_by t T j ≡ node_by u T j) → refusal_by t T ≡ refusal_by u T
unfolding refusal_by
refusal_by_same t u T same =
    otherwise_same _ _ _ (λ a.
    otherwise_same _ _ _ (λ b.
    otherwise_same _ _ _ (λ c.
    otherwise_same _ _ _ (λ d.
    otherwise_same _ _ _ (λ e.
    otherwise_same _ _ _ (λ p.
    scan_same (node_by t T) (node_by u T) T.node_rows (λ j l h.
    same ((scan_clears (parent_refusal T) T.node_rows (λ i m. parent_clears T i)).0 p) j l (nothing_scan (node_by u T) j h))))))))

-- nothing is found at last, where nothing is found first
at_last : {x y z : Finding} → (x otherwise y) ≡ no_refusal → (x ≡ no_refusal → y ≡ no_refusal → z ≡ no_refusal) → (x otherwise z) ≡ no_refusal
at_last {x} {y} {z} h f = otherwise_nothing x z (otherwise_first x y h) ∙ f (otherwise_first x y h) (otherwise_second x y h)

-- where one finds nothing in a tableau, neither does the older check if it finds nothing at any node then
pub refusal_by_kept : (t : Tests) (T : Tableau) → (((k : ℕ) → k < T.node_rows → KeepsParent T k) → ((k : ℕ) → k < T.node_rows → node_by t T k ≡ no_refusal) → (j : ℕ) → j < T.node_rows → node_refusal true T j ≡ no_refusal) → refusal_by t T ≡ no_refusal → refusal older_mode T ≡ no_refusal
unfolding refusal_by refusal older_mode
refusal_by_kept t T kept h =
    at_last h (λ a h₁.
    at_last h₁ (λ b h₂.
    at_last h₂ (λ c h₃.
    at_last h₃ (λ d h₄.
    at_last h₄ (λ e h₅.
    at_last h₅ (λ p h₆.
    scan_nothing (node_refusal true T) T.node_rows
    (kept ((scan_clears (parent_refusal T) T.node_rows (λ i m. parent_clears T i)).0 p) (nothing_scan (node_by t T) T.node_rows h₆))))))))
