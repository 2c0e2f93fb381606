use Rattle.std.proofs.Common.{ℕ, ◌+◌, refl, sym, ◌∙◌, ap, add-one, arith}
use Rattle.std.specs.Prelude.{ℤ, pos}
use Rattle.stab.specs.Formula.{row_at}
use Rattle.wide.specs.Plain.{rows_given, start_of}
use Rattle.wide.specs.WideFormula.{wide_kind_of}
use Rattle.wide.proofs.Places.{start_next}
use Rattle.convert.proofs.ImageLaws.{kind_number, given_most}
use Rattle.convert.proofs.rows.count.Goals as goal

pub loop-r-init : goal.loop-r-init
unfolding start_of
loop-r-init c = record { so_far = refl; at_most = omega arith }

pub overflow_add-s : goal.overflow_add-s
overflow_add-s c = omega (arith, given_most (wide_kind_of (pos c.natural_at.result)))

pub loop-r-preserved : goal.loop-r-preserved
unfolding row_at
loop-r-preserved c =
    let l = c.loop-r in
    let rows = row_at c.args.wide.now in
    let kind = kind_number rows l.r (c.requires.1 l.r c.loop-r-test.true) in
    let given = c.rows_given-s.ensures ∙ ap (λ (z : ℤ). rows_given (wide_kind_of z)) (ap pos c.natural_at.ensures.0 ∙ sym kind) in
    record {
      so_far = ap (λ (m : ℕ). m + c.rows_given-s.result) l.invariant.so_far ∙ ap (λ (m : ℕ). start_of rows l.r + m) given ∙ sym (start_next rows l.r) ∙ ap (start_of rows) (sym (add-one l.r));
      at_most = omega (arith, given_most (wide_kind_of (pos c.natural_at.result)));
    }
