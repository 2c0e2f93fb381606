use Prim.Native.Nat.{◌-◌}
use native.Mathlib.Omega.{arith}
use mathlib.Core.Path.{◌∙◌}
use mir.Syntax.{w32}
use mir.Facts.{to_z-of_z}
use borrow.Author.Rules.{rules}
use Rattle.stab.proofs.Whole.{num, less, ◌⊖◌, eq_of}
use Rattle.signed.specs.Numbers.{signed_of}
use Rattle.pairs.specs.Index.{unbiased}
use Rattle.find.proofs.index_of.Statement.{statement}
use Rattle.find.proofs.index_of.Tie as tie

overflow_sub-x : tie.Need-overflow_sub-x
overflow_sub-x c = search rules

with_sign-requires : tie.Need-with_sign-requires
with_sign-requires c κs = search rules

returns-then-x-lt65536 : tie.Need-returns-then-x-lt65536
unfolding signed_of unbiased
returns-then-x-lt65536 c =
    let x = c.args.x in
    to_z-of_z {w = w32} (record { sfits = c.with_sign.type_inv }) ∙ c.with_sign.ensures ∙ eq_of (less (num (65536 - x))) (num x ⊖ num 65536) (omega arith)

with_sign-requires-2 : tie.Need-with_sign-requires-2
with_sign-requires-2 c κs = search rules

returns : tie.Need-returns
unfolding signed_of unbiased
returns c =
    let x = c.args.x in
    to_z-of_z {w = w32} (record { sfits = c.with_sign-2.type_inv }) ∙ c.with_sign-2.ensures ∙ eq_of (num (x - 65536)) (num x ⊖ num 65536) (omega arith)

pub index_of_spec : {M : Type 1} → statement M
index_of_spec =
    tie.close (tie.spec overflow_sub-x with_sign-requires returns-then-x-lt65536 with_sign-requires-2 returns)
