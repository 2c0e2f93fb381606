use mathlib.Core.Path.{◌≡◌, ◌∙◌, ap, subst}
use lib.IntN.{ℤ, pos}
use mir.Syntax.{w32}
use mir.Val.{to_z, of_z}
use borrow.Author.Rules.{rules}
use Rattle.stab.specs.Basic.{within}
use Rattle.stab.specs.Node.{Tableau, rows, row_count}
use Rattle.stab.specs.Lent.{lent}
use Rattle.stab.specs.Finding.{no_refusal}
use Rattle.stab.proofs.Bools.{otherwise_first, otherwise_second}
use Rattle.signed.proofs.Signs.{read_back}
use Rattle.branch.specs.Work.{AllWorked}
use Rattle.branch.proofs.ParentLaws.{parents_known}
use Rattle.tableau.specs.Passes.{rows_refusal, nodes_refusal, passes_refusal}
use Rattle.tableau.proofs.CheckLaws.{least_fits, nodes_parents, set_fits_lem, parent_fits_lem}
use Rattle.tableau.proofs.check.single_steps.Statement.{statement}
use Rattle.tableau.proofs.check.single_steps.Tie as tie

abbrev Lent : tie.Start → Tableau
Lent s = lent s.args.schema.now s.args.proof.now s.args.nodes.now s.args.members.now s.args.h

rows_passed : (s : tie.Start) → rows_refusal s.args.m.older (Lent s) ≡ no_refusal
unfolding passes_refusal
rows_passed s = otherwise_first _ _ s.requires.1.1.0

nodes_passed : (s : tie.Start) → nodes_refusal s.args.m.whole (Lent s) ≡ no_refusal
unfolding passes_refusal
nodes_passed s = otherwise_second (rows_refusal s.args.m.older (Lent s)) _ s.requires.1.1.0

-- the least value as it is passed on
least_is : (c : tie.After-struct_told-1) → to_z w32 (of_z w32 c.args.h.least) ≡ c.args.h.least
least_is c = read_back c.args.h.least c.struct_told-1.given.1.1.1.0.1

work_out-requires : tie.Need-work_out-requires
work_out-requires c κs = (
  c.requires.0.3,
  c.requires.0.7,
  ap (within (pos 0) (pos 9999)) (least_is c) ∙ least_fits (Lent c.before.before.before.before.before.before.before) _ (rows_passed c.before.before.before.before.before.before.before),
  parents_known (Lent c.before.before.before.before.before.before.before) c.args.h.node_rows (nodes_parents (Lent c.before.before.before.before.before.before.before) _ (nodes_passed c.before.before.before.before.before.before.before)),
)

classify-requires : tie.Need-classify-requires
classify-requires c κs = search rules

each_node-requires : tie.Need-each_node-requires
unfolding rows row_count
each_node-requires c κs =
    let T = Lent c.before.before.before.before.before.before.before.before.before.before.before.before.before.before.before.before.before.before in (
      record {
        node_limit = c.requires.0.3;
        member_limit = c.requires.0.4;
        nodes_held = c.requires.0.5;
        members_held = c.requires.0.6;
        least_fits = least_fits T _ (rows_passed c.before.before.before.before.before.before.before.before.before.before.before.before.before.before.before.before.before.before);
        known = c.requires.1.0.0;
        compared = record { few = c.requires.0.0; formed = c.requires.1.0.1; worked = c.classify.ensures };
        sets = set_fits_lem T _ (nodes_passed c.before.before.before.before.before.before.before.before.before.before.before.before.before.before.before.before.before.before);
        parents = parent_fits_lem T _ (nodes_passed c.before.before.before.before.before.before.before.before.before.before.before.before.before.before.before.before.before.before);
        worked = subst (λ (z : ℤ). AllWorked T.nodes z T.node_rows c.work_out.new.work T.node_rows) (least_is c.before.before.before.before.before.before.before.before.before.before.before) c.work_out.ensures.0;
      },
      c.requires.1.1.1,
    )

shape_of-forms : tie.Need-shape_of-forms
shape_of-forms c = search rules

shape_of-sides : tie.Need-shape_of-sides
shape_of-sides c = search rules

shape_of-work : tie.Need-shape_of-work
shape_of-work c = search rules

shape_of-agreed : tie.Need-shape_of-agreed
shape_of-agreed c = search rules

returns : tie.Need-returns
returns c = search rules

pub single_steps_spec : {M : Type 1} → statement M
single_steps_spec =
    tie.close
    (tie.spec
    work_out-requires
    classify-requires
    each_node-requires
    shape_of-forms
    shape_of-sides
    shape_of-work
    shape_of-agreed
    returns)
