-- What is found of the rows held rests on these rows alone: two states that agree in them find the same.
use Prim.Native.Nat.{ℕ, suc, ◌<◌}
use native.Mathlib.Omega.{arith}
use mathlib.Core.Path.{◌≡◌, refl, sym, ◌∙◌, ap, ap₂, subst}
use mathlib.Core.Bool.{Bool, true, false}
use lib.Dec.{leb}
use lib.IntN.{pos}
use lib.ListN.{length}
use lib.Signed.{le_z}
use Rattle.stab.specs.Basic.{◌implies◌, ◌otherwise◌, scan}
use Rattle.stab.specs.Node.{Tableau, rows, row_count, set_end, child_count, child_count_of}
use Rattle.stab.specs.Rule.{children_held, children_as}
use Rattle.stab.specs.Check.{whole_unless, at_unless, holds, formulas_refusal, set_refusal, parent_refusal, node_refusal, tables_hold, within_limits, enough_nodes, refusal, held_mode}
use Rattle.stab.specs.Keeps.{KeepsSet, KeepsParent}
use Rattle.stab.specs.declared.Refusal.{Refusal}
use Rattle.stab.specs.declared.Refusal.TheVariants.{TableTooShort, TooMany, Children}
use Rattle.stab.specs.declared.Rule.{Rule}
use Rattle.stab.specs.Finding.{no_refusal, Finding}
use Rattle.stab.proofs.Bools.{same_test, unless_nothing, nothing_unless, otherwise_same, otherwise_first_same}
use Rattle.stab.proofs.Scans.{scan_same, nothing_scan}
use Rattle.stab.proofs.Whole.{le_z_of}
use Rattle.stab.proofs.Exactness.Nodes.{set_clears, parent_clears}
use Rattle.growing.proofs.Local.{Alike, step_same}
use Rattle.growing.proofs.Held.{set_kept, parent_kept, rule_same, counted_same}

pub alike_back : {S T : Tableau} {k : ℕ} → Alike S T k → Alike T S k
alike_back A = record {
  schema = sym A.schema;
  schema_rows = sym A.schema_rows;
  proof = sym A.proof;
  proof_rows = sym A.proof_rows;
  root = sym A.root;
  least = sym A.least;
  node = λ j h. sym (A.node j h);
  set = λ j h. sym (A.set j h);
}

-- two tests that refuse alike
at_same : (a b : Bool) (why : Refusal) (j : ℕ) → (at_unless a why j ≡ no_refusal → at_unless b why j ≡ no_refusal) → (at_unless b why j ≡ no_refusal → at_unless a why j ≡ no_refusal) → at_unless a why j ≡ at_unless b why j
unfolding at_unless
at_same a b why j f g =
    ap (λ (t : Bool). at_unless t why j) (same_test a b (λ e. unless_nothing b _ _ (f (nothing_unless a _ _ e))) (λ e. unless_nothing a _ _ (g (nothing_unless b _ _ e))))

otherwise_both : {x y z w : Finding} → x ≡ y → (y ≡ no_refusal → z ≡ w) → (x otherwise z) ≡ (y otherwise w)
otherwise_both {x} {y} {z} {w} e f = otherwise_first_same z e ∙ otherwise_same y z w f

-- the rows held, all of them
pub record Agree (S T : Tableau) : Type 0 where
  pub alike : Alike S T S.node_rows
  pub node_rows : T.node_rows ≡ S.node_rows
  pub member_count : T.member_count ≡ S.member_count
  pub nodes : length T.nodes ≡ length S.nodes
  pub members : length T.members ≡ length S.members

agree_back : {S T : Tableau} → Agree S T → Agree T S
agree_back {S} {T} G = record {
  alike = subst (Alike T S) (sym G.node_rows) (alike_back G.alike);
  node_rows = sym G.node_rows;
  member_count = sym G.member_count;
  nodes = sym G.nodes;
  members = sym G.members;
}

set_too : {S T : Tableau} → Agree S T → (j : ℕ) → j < S.node_rows → KeepsSet S j → KeepsSet T j
set_too {S} {T} G j h s = set_kept G.alike j h s within last
  where
    within : le_z (set_end S.nodes j) (pos T.member_count) ≡ true
    within = rw G.member_count (le_z_of s.counted)

    last : suc j ≡ T.node_rows → set_end S.nodes j ≡ pos T.member_count
    last e = s.last (e ∙ G.node_rows) ∙ ap pos (sym G.member_count)

module _ {S T : Tableau} (G : Agree S T) where
  B : Agree T S
  B = agree_back G

  below : (j : ℕ) → j < S.node_rows → j < T.node_rows
  below j h = omega (arith, G.node_rows)

  set_same : (j : ℕ) → j < S.node_rows → set_refusal T j ≡ set_refusal S j
  unfolding set_refusal
  set_same j h =
      at_same _ _ _ j
      (λ e. (set_clears S j).1 (set_too B j (below j h) ((set_clears T j).0 e)))
      (λ e. (set_clears T j).1 (set_too G j h ((set_clears S j).0 e)))

  parent_same : (j : ℕ) → j < S.node_rows → parent_refusal T j ≡ parent_refusal S j
  unfolding parent_refusal
  parent_same j h =
      at_same _ _ _ j
      (λ e. (parent_clears S j).1 (parent_kept B.alike j (below j h) ((parent_clears T j).0 e)))
      (λ e. (parent_clears T j).1 (parent_kept G.alike j h ((parent_clears S j).0 e)))

  node_same : (j : ℕ) → j < S.node_rows → KeepsParent S j → node_refusal false T j ≡ node_refusal false S j
  unfolding node_refusal children_as children_held child_count
  node_same j h p =
      ap₂ (λ (x : Finding) (b : Bool). x otherwise at_unless b Children j) (step_same G.alike j h p)
      (ap₂ leb (ap (λ (n : ℕ). child_count_of T.nodes n j) G.node_rows ∙ counted_same G.alike j S.node_rows (omega arith)) (ap (λ (r : Rule). r.children) (rule_same G.alike j h)))

  tables_same : tables_hold T ≡ tables_hold S
  unfolding tables_hold holds
  tables_same = rw (G.alike.schema, G.alike.schema_rows, G.alike.proof, G.alike.proof_rows, G.node_rows, G.member_count, G.nodes, G.members)

  limits_same : within_limits T ≡ within_limits S
  unfolding within_limits row_count
  limits_same = rw (G.alike.schema_rows, G.alike.proof_rows, G.node_rows, G.member_count)

  formulas_same : formulas_refusal false (rows T) (row_count T) T.schema_rows T.root T.least ≡ formulas_refusal false (rows S) (row_count S) S.schema_rows S.root S.least
  unfolding rows row_count
  formulas_same = rw (G.alike.schema, G.alike.schema_rows, G.alike.proof, G.alike.proof_rows, G.alike.root, G.alike.least)

  scanned : (f g : ℕ → Finding) → ((j : ℕ) → j < S.node_rows → f j ≡ g j) → scan f T.node_rows ≡ scan g S.node_rows
  scanned f g h = ap (scan f) G.node_rows ∙ scan_same f g S.node_rows (λ j l e. h j l)

  pub held_same : refusal held_mode T ≡ refusal held_mode S
  unfolding refusal held_mode enough_nodes ◌implies◌
  held_same =
      otherwise_both (ap (λ (b : Bool). whole_unless b TableTooShort) tables_same)
      (λ a. otherwise_both (ap (λ (b : Bool). whole_unless b TooMany) limits_same)
      (λ b. otherwise_both formulas_same
      (λ c. otherwise_both (scanned _ _ set_same)
      (λ d. otherwise_both refl
      (λ n. otherwise_both (scanned _ _ parent_same)
      (λ e. scanned _ _ (λ j l. node_same j l ((parent_clears S j).0 (nothing_scan (parent_refusal S) S.node_rows e j l)))))))))
