use mathlib.Core.Path.{sym, ◌∙◌, ap}
use mathlib.Core.Bool.{Bool}
use lib.Dec.{leb}
use Rattle.std.proofs.lemmas.Bool.{lt-leb, le-leb}
use Prim.Native.Nat.{ℕ}
use Rattle.stab.specs.Basic.{◌and◌}
use Rattle.stab.specs.Program.{among}
use Rattle.stab.proofs.Bools.{and_first_false}
use Rattle.program.proofs.fault.among.Goals as goal

pub returns-then-n-a : goal.returns-then-n-a
unfolding among
returns-then-n-a c =
    sym (and_first_false _ _ (lt-leb _ _ c.if-n-a.true)) ∙ ap (λ (n : ℕ). leb c.args.a n and leb n c.args.b) c.number-n.ensures

pub returns : goal.returns
unfolding among ◌and◌
returns c =
    ap (λ (t : Bool). t and leb c.number-n.result c.args.b) (sym (le-leb _ _ c.if-n-a.false))
    ∙ ap (λ (n : ℕ). leb c.args.a n and leb n c.args.b) c.number-n.ensures
