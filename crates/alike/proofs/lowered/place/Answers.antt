use Rattle.std.proofs.Common.{◌≡◌, ℕ, ◌+◌, ◌<◌, false, List, get_or, sym, ◌∙◌, ap, arith, below_more}
use Rattle.std.proofs.lemmas.Int.{to_z-of_z}
use lib.IntN.{ℤ, pos}
use Rattle.stab.specs.Alike.{lower, alike}
use Rattle.stab.specs.Basic.{nat}
use Rattle.stab.specs.Formula.{Row, tree, loose}
use Rattle.stab.specs.Lent.{lent}
use Rattle.stab.specs.Node.{Tableau, node_at, set_of, formula, rows}
use Rattle.stab.specs.Rule.{is_lowered}
use Rattle.stab.proofs.Trees.{below_nat}
use Rattle.branch.specs.Lent.{SetOfRows}
use Rattle.branch.proofs.HeldLaws.{member_nat}
use Rattle.alike.proofs.lowered.place.Goals as goal

-- row x is member i of the set of node j
module _ {R : ℕ → Row} {nodes members : List ℤ} {n j : ℕ} (set : SetOfRows R nodes members n j) (i : ℕ) (within : i < nat (node_at nodes j).size) {start : ℕ} (from : start ≡ nat (node_at nodes j).start) {x : ℕ} (read : x ≡ nat (get_or members (start + i) (pos 0))) where
  is_member : x ≡ nat (get_or (set_of members (node_at nodes j)) i (pos 0))
  is_member = member_nat nodes members j set.held i within x start read from

  is_row : x < n
  is_row = omega (arith, is_member, below_nat _ _ (set.named i within))

  is_outer : loose (tree R x) ≡ false
  is_outer = ap (λ (m : ℕ). loose (tree R m)) is_member ∙ set.outer i within

  asked : (T : Tableau) (k : ℤ) (z : ℕ) → alike (lower k (tree (rows T) z)) (tree (rows T) x) ≡ is_lowered T k (pos z) (get_or (set_of members (node_at nodes j)) i (pos 0))
  unfolding is_lowered formula nat
  asked T k z = ap (λ (m : ℕ). alike (lower k (tree (rows T) z)) (tree (rows T) m)) is_member

pub is_lowered-requires : goal.is_lowered-requires
is_lowered-requires c =
    let set = c.requires.set_of_rows in
    let from = c.natural_of-start.ensures.0 in
    let read = c.natural_at-x.ensures.0 in
    let within : c.loop-i.i < nat (node_at c.args.nodes.now c.args.j).size = omega (arith, c.requires.j_bound) in
    record {
      by_index = (c.args.h.schema_rows + c.args.h.proof_rows, omega (arith, c.requires.j_bound), is_row set c.loop-i.i within from read, c.requires.ready, omega (arith, c.requires.remembers));
      z_value = (c.requires.z_value, is_outer set c.loop-i.i within from read);
      remembers = c.loop-i.invariant.remembers;
    }

pub returns-then-is_lowered-clause-pos_value : goal.returns-then-is_lowered-clause-pos_value
unfolding rows
returns-then-is_lowered-clause-pos_value c less =
    let a = c.args in
    let within : c.loop-i.i < nat (node_at a.nodes.now a.j).size = omega (arith, c.requires.j_bound) in
    let here = c.is_lowered.ensures.value ∙ asked c.requires.set_of_rows c.loop-i.i within c.natural_of-start.ensures.0 c.natural_at-x.ensures.0 (lent a.schema.now a.proof.now a.nodes.now a.members.now a.h) _ a.z in
    rw (to_z-of_z _ _ c.ranges.k) at (sym here ∙ c.if-is_lowered.true)

pub loop-i-preserved : goal.loop-i-preserved
unfolding rows
loop-i-preserved c =
    let a = c.args in
    let within : c.loop-i.i < nat (node_at a.nodes.now a.j).size = omega (arith, c.requires.j_bound) in
    let here = c.is_lowered.ensures.value ∙ asked c.requires.set_of_rows c.loop-i.i within c.natural_of-start.ensures.0 c.natural_at-x.ensures.0 (lent a.schema.now a.proof.now a.nodes.now a.members.now a.h) _ a.z in
    record {
      none = below_more _ _ c.loop-i.invariant.none (λ _. sym here ∙ c.if-is_lowered.false);
      remembers = c.is_lowered.ensures.remembers_2;
    }
