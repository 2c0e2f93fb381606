-- Two records in which nothing is found before their rows are tidied.
use Prim.Native.Nat.{ℕ, ◌+◌, ◌<◌, ◌≤◌}
use native.Mathlib.Omega.{arith}
use mathlib.Core.Path.{◌≡◌, sym, ap, ap₂, ◌∙◌, subst}
use mathlib.Core.Bool.{Bool, true}
use lib.Dec.{leb, ltb}
use borrow.Author.Tests.{ltb-true}
use Rattle.stab.specs.Basic.{◌and◌, nat, eq_z}
use Rattle.stab.specs.Formula as F
use Rattle.stab.specs.Formula.{Row, row_at, Kind, constant, literal, junction, iteration, unknown, kind_of, Formula, disj, size, depth, tree, small_enough, schema_formula}
use Rattle.stab.specs.Node.{Tableau, rows, row_count, formula, schema_of}
use Rattle.stab.specs.Check.{whole_unless, schema_refusal, refusal, present_mode, link_count}
use Rattle.stab.specs.Keeps.{Loose, Fixed, Outer, FormedAs, KeepsRow, KeepsOlder, Keeps}
use Rattle.stab.specs.declared.Refusal.TheVariants.{Leasts}
use Rattle.stab.specs.Finding.{no_refusal}
use Rattle.stab.proofs.Bools.{and_left, and_right, unless_nothing, otherwise_first, otherwise_second}
use Rattle.stab.proofs.Tests.{below_tests}
use Rattle.stab.proofs.Trees.{below_nat, tree_agrees}
use Rattle.stab.proofs.Exactness.{accepts_exactly}
use Rattle.stab.proofs.Exactness.Formulas.{formulas_clears}
use Rattle.stab.proofs.Exactness.Refusals.{finds_accepted}
use Rattle.formula.proofs.Columns.{formula_rows_schema}
use Rattle.tidied.proofs.Tidying.{rules_of}
use Rattle.joint.specs.Joint.{or_row, joint}
use Rattle.joint.proofs.Accepted.{or_tidied}
use Rattle.joint.proofs.Joining.{or_tree}
use Rattle.jointrefusal.specs.Before.{or_small, sizes_fit, fits_before, found_before}

-- ---- one record

-- what is not refused is accepted, and keeps the rules
pub keeps : (T : Tableau) → refusal present_mode T ≡ no_refusal → Keeps T
keeps T h = ((accepts_exactly T T.node_rows (link_count T)).0 (finds_accepted T h)).0

pub few_rows : (A : Tableau) → KeepsOlder A → A.schema_rows + A.proof_rows ≤ 1024
unfolding row_count
few_rows A K = K.tables.row_limit

-- rows that agree keep the same rules
formed_same : (rows rows' : ℕ → Row) (r : ℕ) → ((a : ℕ) → a ≤ r → rows a ≡ rows' a) → (w : Row) (k : Kind) → FormedAs rows r w k → FormedAs rows' r w k
formed_same rows rows' r e w (constant v) h = h
formed_same rows rows' r e w (literal v) h = h
formed_same rows rows' r e w (junction o) h = (h.0, (h.1.0, (h.1.1.0, subst (λ (f : Formula). ¬ (Loose f × Fixed f)) (tree_agrees rows rows' r e) h.1.1.1)))
formed_same rows rows' r e w (iteration o) h =
    let l = below_nat r w.a ((below_tests r w.a).1 h.0) in
    (h.0, (h.1.0, (h.1.1.0, subst (λ (f : Formula). ¬ Fixed f) (tree_agrees rows rows' (nat w.a) (λ a k. e a (omega arith))) h.1.1.1)))
formed_same rows rows' r e w unknown h = h

row_same : (rows rows' : ℕ → Row) (r : ℕ) → ((a : ℕ) → a ≤ r → rows a ≡ rows' a) → KeepsRow rows r → KeepsRow rows' r
row_same rows rows' r e k =
    let t = tree_agrees rows rows' r e in
    record {
      formed = subst (λ (w : Row). FormedAs rows' r w (kind_of w.kind)) (e r (omega arith)) (formed_same rows rows' r e (rows r) (kind_of (rows r).kind) k.formed);
      small = subst (λ (f : Formula). size f ≤ 4096) t k.small;
      flat = subst (λ (f : Formula). depth f ≤ 64) t k.flat;
    }

module _ (A : Tableau) (K : KeepsOlder A) where
  schema_row : (r : ℕ) → r < A.schema_rows → rows A r ≡ row_at A.schema r
  unfolding rows
  schema_row r h = formula_rows_schema A.schema A.schema_rows A.proof r h

  -- the root's formula is made of schema rows
  root_tree : tree (rows A) (nat A.root) ≡ schema_formula (schema_of A)
  root_tree =
      let l = below_nat A.schema_rows A.root ((below_tests A.schema_rows A.root).1 K.formulas.root_row) in
      tree_agrees (rows A) (row_at A.schema) (nat A.root) (λ a k. schema_row a (omega arith))

  -- the schema rows pass by themselves
  pub schema_passes : schema_refusal (schema_of A) ≡ no_refusal
  unfolding schema_refusal row_count
  schema_passes =
      (formulas_clears (row_at A.schema) A.schema_rows A.schema_rows A.root A.least).1
      (record {
        root_row = K.formulas.root_row;
        least_range = K.formulas.least_range;
        each = λ r h. row_same (rows A) (row_at A.schema) r (λ a l. schema_row a (omega arith)) (K.formulas.each r (omega arith));
        root_outer = subst Outer root_tree K.formulas.root_outer;
      })

-- ---- both

-- how large the or is
or_is : (A B : Tableau) → Keeps A → Keeps B → A.least ≡ B.least → small_enough (rows (joint A B)) (or_row A B) ≡ or_small (schema_formula (schema_of A)) (schema_formula (schema_of B))
unfolding small_enough or_small formula
or_is A B KA KB e =
    ap (λ (f : Formula). leb (size f) 4096 and leb (depth f) 64)
    (or_tidied A B
    ∙ or_tree A B (rules_of A KA.older) (rules_of B KB.older) KA.older.has_node KB.older.has_node KA.older.tables.members_held KB.older.tables.members_held e
    ∙ ap₂ (F.join disj) (root_tree A KA.older) (root_tree B KB.older))

pub sizes_are : (A B : Tableau) → Keeps A → Keeps B → A.least ≡ B.least → sizes_fit A B ≡ fits_before A B
unfolding sizes_fit fits_before
sizes_are A B KA KB e =
    ap (λ (o : Bool). ltb (A.schema_rows + B.schema_rows) 1024 and ltb (A.node_rows + B.node_rows) 1024 and o) (sym (or_is A B KA KB e))

-- ---- nothing is found

module _ (A B : Tableau) (h : found_before A B ≡ no_refusal) where
  pub first_passes : refusal present_mode A ≡ no_refusal
  unfolding found_before
  first_passes = otherwise_first _ _ h

  pub second_passes : refusal present_mode B ≡ no_refusal
  unfolding found_before
  second_passes = otherwise_first _ _ (otherwise_second (refusal present_mode A) _ h)

  pub leasts_pass : whole_unless (eq_z A.least B.least) Leasts ≡ no_refusal
  unfolding found_before
  leasts_pass = otherwise_first _ _ (otherwise_second (refusal present_mode B) _ (otherwise_second (refusal present_mode A) _ h))

  before_fits : fits_before A B ≡ true
  unfolding found_before whole_unless
  before_fits =
      unless_nothing _ _ _
      (otherwise_second (whole_unless (eq_z A.least B.least) Leasts) _ (otherwise_second (refusal present_mode B) _ (otherwise_second (refusal present_mode A) _ h)))

  pub first_keeps : Keeps A
  first_keeps = keeps A first_passes

  pub second_keeps : Keeps B
  second_keeps = keeps B second_passes

  pub few_schema : A.schema_rows + B.schema_rows < 1024
  unfolding fits_before
  few_schema = ltb-true _ 1024 (and_left _ _ before_fits)

  pub few_nodes_lem : A.node_rows + B.node_rows < 1024
  unfolding fits_before
  few_nodes_lem = ltb-true _ 1024 (and_left _ _ (and_right (ltb (A.schema_rows + B.schema_rows) 1024) _ before_fits))

  pub small_or : small_enough (rows (joint A B)) (or_row A B) ≡ true
  unfolding fits_before
  small_or = and_right (ltb (A.node_rows + B.node_rows) 1024) _ (and_right (ltb (A.schema_rows + B.schema_rows) 1024) _ before_fits)
