use mathlib.Core.Bool.{not}
use borrow.Author.Rules.{rules}
use mathlib.Core.Path.{◌∙◌, ap}
use Rattle.stab.specs.Node.{node, node_at}
use Rattle.stab.specs.Rule.{of_rule, lowered_fits}
use Rattle.signed.proofs.Signs.{read_back}
use Rattle.fields.proofs.Answers.{implies_made, implies_spared}
use Rattle.steps.proofs.steps.lowered_fits.Statement.{statement}
use Rattle.steps.proofs.steps.lowered_fits.Tie as tie
use Rattle.stab.proofs.Bools.{asked_false, asked_true}

is_of-requires : tie.Need-is_of-requires
is_of-requires c κs = search rules

returns-then-not-is_of : tie.Need-returns-then-not-is_of
unfolding lowered_fits of_rule node
returns-then-not-is_of c = (implies_spared _ _ (asked_false c.is_of.ensures (ap not c.if-not-is_of.true)), c.requires.1.1.1.1.0)

natural_of-to-requires : tie.Need-natural_of-to-requires
natural_of-to-requires c κs = search rules

overflow_mul-j : tie.Need-overflow_mul-j
overflow_mul-j c = search rules

overflow_add-j : tie.Need-overflow_add-j
overflow_add-j c = search rules

at-by-requires : tie.Need-at-by-requires
at-by-requires c κs = search rules

all_lowered-requires : tie.Need-all_lowered-requires
unfolding of_rule
all_lowered-requires c κs =
    let p = c.requires in
    let q = p.1.1.1.0 (asked_true c.is_of.ensures (ap not c.if-not-is_of.false)) in
    rw c.natural_of-to.ensures.0 ((p.0, q.0), (p.1.0, (p.1.1.0, (q.1, p.1.1.1.1))))

shape_of-agreed : tie.Need-shape_of-agreed
shape_of-agreed c = c.all_lowered.auto.agreed

returns : tie.Need-returns
unfolding lowered_fits of_rule node node_at
returns c = (
  rw (read_back _ c.at-by.type_inv, c.at-by.ensures, c.natural_of-to.ensures.0) at c.all_lowered.ensures.0
      ∙ implies_made _ _ (asked_true c.is_of.ensures (ap not c.if-not-is_of.false)),
  c.all_lowered.ensures.1,
)

pub lowered_fits_spec : {M : Type 1} → statement M
lowered_fits_spec =
    tie.close
    (tie.spec
    is_of-requires
    returns-then-not-is_of
    natural_of-to-requires
    overflow_mul-j
    overflow_add-j
    at-by-requires
    all_lowered-requires
    shape_of-agreed
    returns)
