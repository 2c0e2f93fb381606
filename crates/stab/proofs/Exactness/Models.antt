-- Nothing is found in a model exactly if it is right.
use Prim.Native.Nat.{ℕ, zero, suc, ◌*◌}
use native.Mathlib.Omega.{arith}
use mathlib.Core.Path.{◌≡◌, refl, subst}
use mathlib.Core.Logic.Iff
use mathlib.Core.List.{List}
use lib.IntN.{ℤ, pos, neg_ℤ}
use lib.ListN.{length}
use Rattle.stab.specs.Check.{holds, schema_refusal}
use Rattle.stab.specs.Model.{Model, pair_symbol, pair_index, pair_in_range, pair_before, pair_follows, pair_refusal, satisfied, model_refusal}
use Rattle.stab.specs.Keeps.{PairBefore, KeepsPair, KeepsModel}
use Rattle.stab.specs.declared.Refusal.TheVariants.{TableTooShort, TooMany, Pair, Width, False}
use Rattle.stab.proofs.Tests.{◌tests◌, itself, ◌&◌, or_tests, le_tests, le_z_tests, lt_z_tests, eq_z_tests, within_tests, ◌clears◌, whole_clears, at_clears, ◌then◌, scan_clears}
use Rattle.stab.proofs.Exactness.Formulas.{formulas_clears}

before_tests : (s i t j : ℤ) → pair_before s i t j tests PairBefore s i t j
unfolding pair_before
before_tests s i t j = or_tests (lt_z_tests s t) (eq_z_tests s t & lt_z_tests i j)

follows_tests : (t : List ℤ) (k : ℕ) → pair_follows t k tests ((i : ℕ) → k ≡ suc i → PairBefore (pair_symbol t i) (pair_index t i) (pair_symbol t k) (pair_index t k))
unfolding pair_follows
follows_tests t zero = (λ h i e. absurd (omega arith), λ f. refl)
follows_tests t (suc k) =
    Iff.trans
    (before_tests (pair_symbol t k) (pair_index t k) (pair_symbol t (suc k)) (pair_index t (suc k)))
    (λ p i e. subst (λ (m : ℕ). PairBefore (pair_symbol t m) (pair_index t m) (pair_symbol t (suc k)) (pair_index t (suc k))) (omega arith) p, λ f. f k refl)

pair_clears : (t : List ℤ) (k : ℕ) → pair_refusal t k clears KeepsPair t k
unfolding pair_refusal pair_in_range
pair_clears t k =
    Iff.trans
    (at_clears Pair k
    ((within_tests (pos 0) (pos 255) (pair_symbol t k) & within_tests (neg_ℤ (pos 29997)) (pos 29997) (pair_index t k)) &
    follows_tests t k))
    (λ p. record { symbol = p.0.0; index = p.0.1; follows = p.1 }, λ q. ((q.symbol, q.index), q.follows))

pub model_clears : (M : Model) → model_refusal M clears KeepsModel M
unfolding model_refusal schema_refusal holds
model_clears M =
    Iff.trans
    (whole_clears TableTooShort (le_tests (4 * M.schema.rows) (length M.schema.table) & le_tests (2 * M.pair_rows) (length M.pairs)) then
    whole_clears TooMany (le_tests M.schema.rows 1024 & le_tests M.pair_rows 4096) then
    formulas_clears _ M.schema.rows M.schema.rows M.schema.root M.schema.least then
    scan_clears (pair_refusal M.pairs) M.pair_rows (λ k l. pair_clears M.pairs k) then
    whole_clears Width (le_z_tests M.schema.least M.n & le_z_tests M.n (pos 9999)) then
    whole_clears False (itself (satisfied M))) (
      λ p. record {
        schema_held = p.0.0;
        pairs_held = p.0.1;
        row_limit = p.1.0.0;
        pair_limit = p.1.0.1;
        formulas = p.1.1.0;
        pairs = p.1.1.1.0;
        in_range = p.1.1.1.1.0;
        holds = p.1.1.1.1.1;
      },
      λ k. ((k.schema_held, k.pairs_held), ((k.row_limit, k.pair_limit), (k.formulas, (k.pairs, (k.in_range, k.holds))))),
    )
