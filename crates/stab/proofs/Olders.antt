-- The check beside the older check, which does not look for repeated proof rows (02, No. 9).
use Prim.Native.Nat.{ℕ, zero, suc}
use mathlib.Core.Path.{◌≡◌, refl, ◌∙◌, ap}
use mathlib.Core.Logic.{◌↔◌, ◌⊎◌, inl, inr, ⊎_elim}
use mathlib.Core.Bool.{Bool, true, false, not}
use lib.Dec.{ltb}
use Rattle.stab.specs.Basic.{◌or◌, ◌otherwise◌, scan, unless}
use Rattle.stab.specs.Formula.{Row}
use Rattle.stab.specs.Node.{Tableau, rows, row_count}
use Rattle.stab.specs.Check.{at_unless, row_refusal, stands_before, repeat_refusal, formula_refusal, formulas_refusal, refusal, present_mode, older_mode, link_count, verdict, verdict_on, check, check_older}
use Rattle.stab.specs.Keeps.{Fresh}
use Rattle.stab.specs.Finding.{accept, refuse, Finding}
use Rattle.std.specs.Prelude.{Some, Ok, Err}
use Rattle.stab.specs.declared.Refusal.TheVariants.{Repeated}
use Rattle.stab.proofs.Exactness.{accepts_exactly, older_accepts_exactly}

-- the two find the same, or the first finds 27
abbrev Or27 : Finding → Finding → Type 0
Or27 x y = (x ≡ y) ⊎ ((r : ℕ) × (x ≡ refuse Repeated (Some r)))

-- what comes after, and what comes before
first_or_27 : {x y : Finding} (z : Finding) → Or27 x y → Or27 (x otherwise z) (y otherwise z)
unfolding ◌otherwise◌
first_or_27 z (inl e) = inl (ap (λ (w : Finding). w otherwise z) e)
first_or_27 z (inr p) = inr (p.0, ap (λ (w : Finding). w otherwise z) p.1)

then_or_27 : (x : Finding) {y z : Finding} → Or27 y z → Or27 (x otherwise y) (x otherwise z)
unfolding ◌otherwise◌
then_or_27 (Ok u) h = h
then_or_27 (Err r) h = inl refl

both_or_27 : {x y w z : Finding} → Or27 x y → Or27 w z → Or27 (x otherwise w) (y otherwise z)
unfolding ◌otherwise◌
both_or_27 {y = y} {w = w} (inl e) h =
    ⊎_elim
    (λ f. inl (ap (λ (v : Finding). v otherwise w) e ∙ f))
    (λ p. inr (p.0, ap (λ (v : Finding). v otherwise w) e ∙ p.1))
    (then_or_27 y h)
both_or_27 {w = w} (inr p) h = inr (p.0, ap (λ (v : Finding). v otherwise w) p.1)

row_or_27 : (rows : ℕ → Row) (s r : ℕ) → Or27 (formula_refusal false rows s r) (formula_refusal true rows s r)
unfolding formula_refusal repeat_refusal ◌otherwise◌ at_unless unless
row_or_27 rows s r = go (row_refusal rows r) (ltb r s or not (stands_before rows r (rows r)))
  where
    go : (x : Finding) (t : Bool) → Or27 (x otherwise at_unless t Repeated r) x
    go (Ok u) true = inl refl
    go (Ok u) false = inr (r, refl)
    go (Err r) t = inl refl

scan_or_27 : (rows : ℕ → Row) (s n : ℕ) → Or27 (scan (formula_refusal false rows s) n) (scan (formula_refusal true rows s) n)
unfolding scan
scan_or_27 rows s zero = inl refl
scan_or_27 rows s (suc n) = both_or_27 (scan_or_27 rows s n) (row_or_27 rows s n)

refusal_or_27 : (T : Tableau) → Or27 (refusal present_mode T) (refusal older_mode T)
unfolding refusal present_mode older_mode formulas_refusal
refusal_or_27 T =
    then_or_27 _ (then_or_27 _ (first_or_27 _ (then_or_27 _ (first_or_27 _ (scan_or_27 (rows T) T.schema_rows (row_count T))))))

-- ---- the theorems

-- the check gives what the older check gives, or 27 at a row, for every tableau, whatever its numbers
pub older_or_27 : (T : Tableau) → (check T ≡ check_older T) ⊎ ((r : ℕ) × (check T ≡ refuse Repeated (Some r)))
unfolding check check_older verdict_on verdict
older_or_27 T =
    ⊎_elim
    (λ e. inl (ap (λ (x : Finding). verdict x (accept T.node_rows (link_count T))) e))
    (λ p. inr (p.0, ap (λ (x : Finding). verdict x (accept T.node_rows (link_count T))) p.1))
    (refusal_or_27 T)

-- it accepts exactly what the older check accepts and repeats no proof row
pub accepts_fresh : (T : Tableau) (n l : ℕ) → (check T ≡ accept n l) ↔ ((check_older T ≡ accept n l) × Fresh T)
accepts_fresh T n l = (
  λ h. let k = (accepts_exactly T n l).0 h in ((older_accepts_exactly T n l).1 (k.0.older, k.1, k.2), k.0.fresh),
  λ p.
      let k = (older_accepts_exactly T n l).0 p.0 in
      (accepts_exactly T n l).1 (record { older = k.0; fresh = p.1 }, k.1, k.2),
)
