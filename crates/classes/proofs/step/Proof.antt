use native.Mathlib.Omega.{arith}
use Prim.Native.Nat.{ℕ, ◌+◌}
use mathlib.Core.Path.{◌≡◌, sym, ◌∙◌, ap, ap₂}
use borrow.Author.Rules.{rules}
use lib.ListN.{get_or, set}
use Rattle.stab.specs.Basic.{nat}
use Rattle.stab.specs.Formula.{Row, formula_rows}
use Rattle.signed.proofs.Signs.{read_back}
use Rattle.formula.specs.Cells.{row_of}
use Rattle.classes.specs.Class.{class_of}
use Rattle.classes.specs.Key.{form_of, kept_form, hash_of, hash_at, latest, forms_with, sides_with}
use Rattle.classes.specs.declared.form.Form.{Form}
use Rattle.classes.proofs.Least.{class_small}
use Rattle.classes.proofs.ByKind.{kind_small}
use Rattle.classes.proofs.Forms.{kept_form_lem, form_small}
use Rattle.classes.proofs.GoingBack.{hash_small, done_more}
use Rattle.classes.proofs.step.Statement.{statement}
use Rattle.classes.proofs.step.Tie as tie

-- where the kind has been read
abbrev begin : tie.After-natural-kind → tie.Start
begin k = k.before.before.before.before.before.before

abbrev rows_from : tie.Start → ℕ → Row
rows_from b = let a = b.args in formula_rows a.schema.now a.s a.proof.now

columns_are : (k : tie.After-natural-kind) → row_of k.of_row-w.result ≡ rows_from (begin k) (begin k).args.r
columns_are k = k.of_row-w.ensures

kind_column : (k : tie.After-natural-kind) → k.natural-kind.result ≡ nat k.of_row-w.result.kind
kind_column k = k.natural-kind.ensures ∙ ap nat (read_back k.of_row-w.result.kind k.struct_told-1.given.0.1)

-- and the row's numbers are worked out
abbrev start : tie.After-of_row-f → tie.Start
start c = begin c.before

abbrev rows : tie.After-of_row-f → ℕ → Row
rows c = rows_from (start c)

kind_is : (c : tie.After-of_row-f) → c.natural-kind.result ≡ nat (rows c (start c).args.r).kind
unfolding row_of
kind_is c = kind_column c.before ∙ ap (λ (u : Row). nat u.kind) (columns_are c.before)

form_is : (c : tie.After-of_row-f) → c.of_row-f.result ≡ form_of (rows c) (start c).args.r
form_is c =
    let b = start c in
    c.of_row-f.ensures
    ∙ ap (λ (u : Row). kept_form b.args.r u b.args.forms.now) (columns_are c.before)
    ∙ kept_form_lem (rows c) b.args.r b.requires.0.0 b.requires.1.0 b.args.forms.now b.requires.1.1.worked

hash_is : (c : tie.After-hash-h) → c.hash-h.result ≡ hash_at (rows c.before) (start c.before).args.r
unfolding hash_at form_of
hash_is c =
    let f = form_is c.before in
    c.hash-h.ensures
    ∙ ap (λ (k : ℕ). hash_of k c.of_row-f.result.low c.of_row-f.result.high) (kind_is c.before)
    ∙ ap (λ (g : Form). hash_of (nat (rows c.before (start c.before).args.r).kind) g.low g.high) f

of_row-w-requires : tie.Need-of_row-w-requires
of_row-w-requires c κs = search rules

natural-kind-requires : tie.Need-natural-kind-requires
natural-kind-requires c κs = search rules

of_row-f-requires : tie.Need-of_row-f-requires
of_row-f-requires c κs =
    let b = begin c in
    (b.requires.0.0, kind_column c, record { rows = rows_from b; row = sym (columns_are c); formed = b.requires.1.0 b.args.r (omega arith) }, omega (arith, b.requires.0.1))

hash-h-requires : tie.Need-hash-h-requires
hash-h-requires c κs =
    let b = start c in
    let s = form_small (rows c) b.args.r b.requires.0.0 b.requires.1.0 (form_is c) in
    (omega (arith, kind_is c, kind_small (rows c) b.args.r (b.requires.1.0 b.args.r (omega arith))), s.2, s.3)

class_of-class-requires : tie.Need-class_of-class-requires
class_of-class-requires c κs =
    let b = start c.before in
    ((b.requires.0.0, kind_is c.before, omega (arith, b.requires.0.1), omega (arith, b.requires.0.2), omega (arith, hash_is c, hash_small (rows c.before) b.args.r, b.requires.0.3)), (b.requires.1.0, (b.requires.1.1, (form_is c.before, hash_is c))))

keep-requires : tie.Need-keep-requires
keep-requires c κs =
    let b = start c.before.before.before.before.before in
    let s = form_small (rows c.before.before.before.before.before) b.args.r b.requires.0.0 b.requires.1.0 (form_is c.before.before.before.before.before) in (
      (b.requires.0.0, b.requires.0.1, b.requires.0.2, omega (arith, hash_is c.before.before.before.before, hash_small (rows c.before.before.before.before.before) b.args.r, b.requires.0.3)),
      (omega (arith, c.class_of-class.ensures, class_small (rows c.before.before.before.before.before) b.args.r, b.requires.0.0), s.0, s.1, s.2, s.3),
    )

shape_of-forms : tie.Need-shape_of-forms
shape_of-forms c = search rules

shape_of-sides : tie.Need-shape_of-sides
shape_of-sides c = search rules

shape_of-heads : tie.Need-shape_of-heads
shape_of-heads c = search rules

returns : tie.Need-returns
returns c =
    let b = start c.before.before.before.before.before.before.before.before.before.before.before.before in
    let a = b.args in
    let f = form_is c.before.before.before.before.before.before.before.before.before.before.before.before in
    let h = hash_is c.before.before.before.before.before.before.before.before.before.before.before in
    let small = hash_small (rows c.before.before.before.before.before.before.before.before.before.before.before.before) a.r in
    let first = b.requires.1.1.latest_of _ (omega (arith, h, small)) ∙ ap (λ (x : ℕ). latest (rows c.before.before.before.before.before.before.before.before.before.before.before.before) x a.r) h in (
      c.keep.ensures.0
          ∙ ap (λ (m : ℕ). forms_with a.forms.now a.r m c.of_row-f.result (get_or a.heads.now c.hash-h.result 0)) c.class_of-class.ensures
          ∙ ap₂ (forms_with a.forms.now a.r (class_of (rows c.before.before.before.before.before.before.before.before.before.before.before.before) a.r)) f first,
      (
        c.keep.ensures.1.0 ∙ ap (sides_with a.sides.now a.r) f,
        (
          c.keep.ensures.1.1 ∙ ap (λ (x : ℕ). set a.heads.now x (a.r + 1)) h,
          done_more (rows c.before.before.before.before.before.before.before.before.before.before.before.before) _ _ _ a.r c.of_row-f.result c.hash-h.result
              b.requires.1.1 b.requires.0.1 b.requires.0.2
              (omega (arith, h, small))
              (omega (arith, h, small, b.requires.0.3))
              f
              h
              c.class_of-class.ensures
              c.keep.ensures.0
              c.keep.ensures.1.0
              c.keep.ensures.1.1,
        ),
      ),
    )

pub step_spec : {M : Type 1} → statement M
step_spec =
    tie.close
    (tie.spec
    of_row-w-requires
    natural-kind-requires
    of_row-f-requires
    hash-h-requires
    class_of-class-requires
    keep-requires
    shape_of-forms
    shape_of-sides
    shape_of-heads
    returns)
