use Prim.Native.Nat.{◌+◌, ◌≤◌}
use native.Mathlib.Omega.{arith}
use mathlib.Core.Path.{◌≡◌, sym, ◌∙◌, subst}
use mathlib.Core.Bool.{true}
use borrow.Author.Rules.{rules}
use borrow.Author.Tests.{le-leb}
use lib.IntN.{ℤ, pos}
use lib.ListN.{length, length-set}
use Rattle.stab.specs.Text.{decimal, five_digits}
use Rattle.signed.proofs.Signs.{read_back}
use Rattle.digits.specs.Over.{over}
use Rattle.shown.proofs.Tellings.{place_length, place_end}
use Rattle.shown.proofs.put_place.Statement.{statement}
use Rattle.shown.proofs.put_place.Tie as tie

of-requires : tie.Need-of-requires
of-requires c κs = search rules

put_number-n-requires : tie.Need-put_number-n-requires
unfolding five_digits
put_number-n-requires c κs =
    subst (λ (z : ℤ). (five_digits z ≡ true) × (length (decimal z) ≤ length c.args.out.now)) (sym (read_back _ c.of.type_inv ∙ c.of.ensures))
    (le-leb c.args.k 99999 c.requires.0, omega (arith, place_length (decimal (pos c.args.k)), c.requires.1))

-- what the number's writer says
wrote : (c : tie.After-put_number-n) →
    (c.put_number-n.result ≡ length (decimal (pos c.args.k))) × (c.put_number-n.new.out ≡ over (decimal (pos c.args.k)) c.args.out.now)
wrote c =
    subst (λ (z : ℤ). (c.put_number-n.result ≡ length (decimal z)) × (c.put_number-n.new.out ≡ over (decimal z) c.args.out.now))
    (read_back _ c.of.type_inv ∙ c.of.ensures)
    c.put_number-n.ensures

-- there is room for two bytes after it
room : (c : tie.After-put_number-n) → c.put_number-n.result + 2 ≤ length c.args.out.now
room c =
    omega (arith, (wrote c).0, place_length (decimal (pos c.args.k)), c.requires.1)

bounds-out-n : tie.Need-bounds-out-n
bounds-out-n c = omega (arith, room c.before.before, c.put_number-n.auto.out)

overflow_add-out : tie.Need-overflow_add-out
overflow_add-out c = omega (arith, room c.before.before, c.well_formed.0.0)

bounds-out-n-2 : tie.Need-bounds-out-n-2
bounds-out-n-2 c = rw length-set (omega (arith, room c.before.before, c.put_number-n.auto.out))

overflow_add-result : tie.Need-overflow_add-result
overflow_add-result c = omega (arith, room c.before.before, c.well_formed.0.0)

shape_of-out : tie.Need-shape_of-out
shape_of-out c = search rules

returns : tie.Need-returns
returns c =
    let d = decimal (pos c.args.k) in (
      omega (arith, (wrote c.before.before).0, place_length d),
      place_end d c.args.out.now c.put_number-n.new.out c.put_number-n.result (wrote c.before.before).1 (wrote c.before.before).0 (omega (arith, (wrote c.before.before).0, room c.before.before)),
    )

pub put_place_spec : {M : Type 1} → statement M
put_place_spec =
    tie.close
    (tie.spec
    of-requires
    put_number-n-requires
    bounds-out-n
    overflow_add-out
    bounds-out-n-2
    overflow_add-result
    shape_of-out
    returns)
