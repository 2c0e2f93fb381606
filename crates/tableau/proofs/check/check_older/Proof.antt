use mathlib.Core.Path.{sym, ◌∙◌, ap}
use borrow.Author.Rules.{rules}
use Rattle.stab.specs.Node.{Tableau}
use Rattle.stab.specs.Lent.{lent}
use Rattle.stab.specs.Check.{link_count, older_mode, verdict_on, check_older}
use Rattle.stab.specs.Finding.{Finding}
use Rattle.stab.proofs.Soundness.{sound_older}
use Rattle.tableau.proofs.CheckLaws.{few_nodes_lem}
use Rattle.tableau.proofs.check.check_older.Statement.{statement}
use Rattle.tableau.proofs.check.check_older.Tie as tie

abbrev Lent : tie.Start → Tableau
Lent s = lent s.args.schema.now s.args.proof.now s.args.nodes.now s.args.members.now s.args.h

first_refusal-found-requires : tie.Need-first_refusal-found-requires
first_refusal-found-requires c κs = search rules

verdict_on-requires : tie.Need-verdict_on-requires
unfolding older_mode
verdict_on-requires c κs e = few_nodes_lem (Lent c.before) older_mode (sym c.first_refusal-found.ensures ∙ e)

returns : tie.Need-returns
unfolding check_older older_mode verdict_on link_count
returns c =
    let T = Lent c.before.before in
    let e = c.verdict_on.ensures ∙ ap (λ (x : Finding). verdict_on x T) c.first_refusal-found.ensures in
    (e, λ n l a. sound_older T n l (sym e ∙ a))

pub check_older_spec : {M : Type 1} → statement M
check_older_spec = tie.close (tie.spec first_refusal-found-requires verdict_on-requires returns)
