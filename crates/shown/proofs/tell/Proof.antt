use Prim.Native.Nat.{ℕ}
use mathlib.Core.Path.{sym, ◌∙◌, ap}
use mathlib.Core.Bool.{Bool}
use mathlib.Core.List.{List}
use borrow.Author.Rules.{rules}
use lib.ListN.{length}
use Rattle.stab.specs.Text.{padded}
use Rattle.stab.specs.LineNumber.{line_of}
use Rattle.line.specs.LineParts.{named}
use Rattle.printing.proofs.Prints.{counted}
use Rattle.shown.specs.Told.{told_in, told_at}
use Rattle.shown.proofs.tell.Statement.{statement}
use Rattle.shown.proofs.tell.Tie as tie

line-requires : tie.Need-line-requires
line-requires c κs = search rules

tell_line-requires : tie.Need-tell_line-requires
tell_line-requires c κs = search rules

shape_of-out-then-fault : tie.Need-shape_of-out-then-fault
shape_of-out-then-fault c = search rules

line-requires-2 : tie.Need-line-requires-2
line-requires-2 c κs = search rules

tell_line-requires-2 : tie.Need-tell_line-requires-2
tell_line-requires-2 c κs = search rules

shape_of-out : tie.Need-shape_of-out
shape_of-out c = search rules

returns-then-fault : tie.Need-returns-then-fault
unfolding told_at
returns-then-fault c =
    let a = c.args in
    let n = length a.out.now in
    let k = a.fault.line in
    let at : Bool → List ℕ = λ b. told_in n (named b a.first.now a.second.now) k (line_of (named b a.schema.now a.proof.now) k) in
    let w = ap (told_in n a.second.now k) c.line.ensures.0 ∙ sym (ap at c.if-fault.true) in
    let r = c.tell_line.ensures.0 ∙ ap length w in
    let o = c.tell_line.ensures.1 ∙ ap (padded 0 n) w in
    (r, (o, counted _ _ _ n r o))

returns : tie.Need-returns
unfolding told_at
returns c =
    let a = c.args in
    let n = length a.out.now in
    let k = a.fault.line in
    let at : Bool → List ℕ = λ b. told_in n (named b a.first.now a.second.now) k (line_of (named b a.schema.now a.proof.now) k) in
    let w = ap (told_in n a.first.now k) c.line-2.ensures.0 ∙ sym (ap at c.if-fault.false) in
    let r = c.tell_line-2.ensures.0 ∙ ap length w in
    let o = c.tell_line-2.ensures.1 ∙ ap (padded 0 n) w in
    (r, (o, counted _ _ _ n r o))

pub tell_spec : {M : Type 1} → statement M
tell_spec =
    tie.close
    (tie.spec line-requires tell_line-requires shape_of-out-then-fault returns-then-fault line-requires-2 tell_line-requires-2 shape_of-out returns)
