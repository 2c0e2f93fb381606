-- What passes find, one after the other; and a table that holds its rows.
use Prim.Native.Nat.{ℕ, ◌*◌, ◌/◌, ◌<◌}
use native.Mathlib.Omega.{arith}
use native.Mathlib.Nat.{le-div_iff_mul-le}
use mathlib.Core.Path.{◌≡◌, refl, sym, ◌∙◌}
use lib.Dec.{leb}
use borrow.Author.Tests.{leb-true, le-leb}
use Rattle.stab.specs.Basic.{◌otherwise◌}
use Rattle.std.specs.Prelude.{Ok, Err}
use Rattle.stab.specs.Finding.{Place, Finding, no_refusal, refuse}
use Rattle.stab.specs.declared.Refusal.{Refusal}
use Rattle.stab.proofs.Bools.{same_test, otherwise_nothing, otherwise_found}

-- n rows of w numbers fit into l numbers
pub rows_fit : (w n l : ℕ) → 0 < w → leb n (l / w) ≡ leb (w * n) l
rows_fit w n l h =
    same_test _ _
    (λ e. le-leb (w * n) l (omega (arith, (le-div_iff_mul-le h).0 (leb-true n (l / w) e))))
    (λ e. le-leb n (l / w) ((le-div_iff_mul-le h).1 (omega (arith, leb-true (w * n) l e))))

pub otherwise_assoc : (x y z : Finding) → ((x otherwise y) otherwise z) ≡ (x otherwise (y otherwise z))
unfolding ◌otherwise◌
otherwise_assoc (Ok u) y z = refl
otherwise_assoc (Err r) y z = refl

-- a pass that found something, and one that found nothing
pub stays : (f x rest : Finding) (why : Refusal) (p : Place) → f ≡ x → f ≡ refuse why p → f ≡ (x otherwise rest)
stays f x rest why p e h = h ∙ sym (otherwise_found x rest (sym e ∙ h))

pub later : (x rest y : Finding) → x ≡ no_refusal → y ≡ rest → y ≡ (x otherwise rest)
later x rest y h e = e ∙ sym (otherwise_nothing x rest h)
