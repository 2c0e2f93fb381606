use borrow.Author.Rules.{rules}
use native.Mathlib.Omega.{arith}
use Prim.Native.Nat.{ℕ, ◌-◌}
use mathlib.Core.Path.{◌≡◌, sym, ◌∙◌, ap}
use mathlib.Core.Bool.{false}
use lib.IntN.{ℤ, pos}
use lib.Signed.{lt_z}
use lib.ListN.{get_or}
use mir.Facts.{to_z-of_z}
use Rattle.stab.specs.Basic.{nat}
use Rattle.signed.proofs.Signs.{read_back}
use Rattle.folds.proofs.Numbers.{names_none, names_schema, names_proof}
use Rattle.folds.proofs.number.through.Statement.{statement}
use Rattle.folds.proofs.number.through.Tie as tie

less-requires : tie.Need-less-requires
less-requires c κs = search rules

returns-then-less : tie.Need-returns-then-less
returns-then-less c =
    let e = to_z-of_z c.ranges.z in
    e ∙ names_none _ _ _ (sym (c.less.ensures ∙ ap (λ (z : ℤ). lt_z z (pos 0)) e) ∙ c.if-less.true)

natural-r-requires : tie.Need-natural-r-requires
natural-r-requires c κs = search rules

-- the number is no less than 0
natural : (c : tie.After-natural-r) → lt_z c.args.z (pos 0) ≡ false
natural c =
    sym (c.less.ensures ∙ ap (λ (z : ℤ). lt_z z (pos 0)) (to_z-of_z c.ranges.z)) ∙ c.if-less.false

named : (c : tie.After-natural-r) → c.natural-r.result ≡ nat c.args.z
named c = c.natural-r.ensures ∙ ap nat (to_z-of_z c.ranges.z)

returns-then-r-s : tie.Need-returns-then-r-s
returns-then-r-s c =
    to_z-of_z c.ranges.z ∙ names_schema _ _ _ (natural c.before) (omega (arith, named c.before, c.if-r-s.true))

kept_at-requires : tie.Need-kept_at-requires
kept_at-requires c κs = search rules

of-requires : tie.Need-of-requires
of-requires c κs =
    omega (arith, c.kept_at.ensures.0, c.requires (c.natural-r.result - c.args.s))

returns : tie.Need-returns
returns c =
    read_back _ c.of.type_inv
    ∙ c.of.ensures
    ∙ ap pos (c.kept_at.ensures.0 ∙ ap (λ (r : ℕ). get_or c.args.numbers.now (r - c.args.s) 0) (named c.before.before.before))
    ∙ names_proof _ _ _ (natural c.before.before.before) (omega (arith, named c.before.before.before, c.if-r-s.false))

pub through_spec : {M : Type 1} → statement M
through_spec =
    tie.close
    (tie.spec
    less-requires
    returns-then-less
    natural-r-requires
    returns-then-r-s
    kept_at-requires
    of-requires
    returns)
