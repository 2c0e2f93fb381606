use native.Mathlib.Omega.{arith}
use mathlib.Core.Path.{◌≡◌, sym, ◌∙◌, ap}
use lib.IntN.{pos}
use borrow.Author.Rules.{rules}
use Rattle.stab.specs.Formula.{row_at}
use Rattle.signed.proofs.Signs.{read_back}
use Rattle.wide.proofs.Places.{plain_length}
use Rattle.wide.specs.Plain.{image, plain_rows}
use Rattle.convert.specs.declared.rows.Stands.{Stands}
use Rattle.convert.specs.Emission.{stands_of, image_at}
use Rattle.convert.proofs.WriteLaws.{filled_is}
use Rattle.convert.proofs.rows.filled.Statement.{statement}
use Rattle.convert.proofs.rows.filled.Tie as tie

abbrev emitted : tie.After-kept_at → tie.After-each
emitted c = c.before.before.before.before.before.before.before

abbrev start : tie.After-kept_at → tie.Start
start c = (emitted c).before.before.before

root_is : (c : tie.After-kept_at) → let a = (start c).args in c.kept_at.result ≡ (image (row_at a.wide.now) a.root).own
unfolding stands_of image_at
root_is c =
    let s = start c in
    c.kept_at.ensures.0 ∙ ap (λ (m : Stands). m.own) ((emitted c).each.ensures.0.known s.args.root s.requires.1)

slice_bounds-each-end : tie.Need-slice_bounds-each-end
slice_bounds-each-end c = search rules

each-requires : tie.Need-each-requires
each-requires c κs = search rules

overflow_mul-m : tie.Need-overflow_mul-m
overflow_mul-m c = search rules

clear-requires : tie.Need-clear-requires
clear-requires c κs = search rules

slice_bounds-kept_at-end : tie.Need-slice_bounds-kept_at-end
slice_bounds-kept_at-end c = search rules

overflow_mul-root : tie.Need-overflow_mul-root
overflow_mul-root c = search rules

kept_at-requires : tie.Need-kept_at-requires
kept_at-requires c κs = search rules

of-requires : tie.Need-of-requires
of-requires c κs = let s = start c in omega (arith, root_is c, (emitted c).each.ensures.0.own s.args.root s.requires.1)

shape_of-plain : tie.Need-shape_of-plain
shape_of-plain c = search rules

returns : tie.Need-returns
returns c =
    let e = emitted c.before in
    let s = start c.before in
    let a = s.args in
    let ws = plain_rows (row_at a.wide.now) a.n in (
      read_back _ c.of.type_inv ∙ c.of.ensures ∙ ap pos (root_is c.before),
      c.clear.ensures
          ∙ filled_is a.plain.now a.m ws e.each.ensures.1 (s.requires.2 ∙ sym (plain_length (row_at a.wide.now) a.n)) (omega (arith, s.requires.2, s.requires.0.limit, s.requires.0.room)),
    )

pub filled_spec : {M : Type 1} → statement M
filled_spec =
    tie.close
    (tie.spec
    slice_bounds-each-end
    each-requires
    overflow_mul-m
    clear-requires
    slice_bounds-kept_at-end
    overflow_mul-root
    kept_at-requires
    of-requires
    shape_of-plain
    returns)
