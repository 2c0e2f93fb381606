use Rattle.std.proofs.Common.{refl}
use Rattle.classes.specs.Key.{forms_after, sides_after, heads_after}
use Rattle.classes.proofs.GoingBack.{done_none, forms_more, sides_more, heads_more}
use Rattle.classes.proofs.work_out.Goals as goal

pub loop-r-init : goal.loop-r-init
unfolding forms_after sides_after heads_after
loop-r-init c = record {
  done = done_none _ _ _ _ c.requires.by_index;
  forms_so_far = refl;
  sides_so_far = refl;
  heads_so_far = refl;
}

pub loop-r-preserved : goal.loop-r-preserved
loop-r-preserved c = record {
  done = c.step.ensures.done_2;
  forms_so_far = forms_more _ _ _ c.loop-r.invariant.forms_so_far c.step.ensures.forms_after;
  sides_so_far = sides_more _ _ _ c.loop-r.invariant.sides_so_far c.step.ensures.sides_after;
  heads_so_far = heads_more _ _ _ c.loop-r.invariant.heads_so_far c.step.ensures.heads_after;
}
