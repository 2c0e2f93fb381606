-- A model's pairs in a longer table: only the pairs that are counted are looked at.
use Prim.Native.Nat.{ℕ, zero, suc, ◌+◌, ◌*◌, ◌<◌, ◌≤◌}
use native.Mathlib.Omega.{arith}
use mathlib.Core.Path.{◌≡◌, refl, sym, ◌∙◌, ap, ap₂, subst, fun_ext}
use mathlib.Core.List.{List, ◌++◌}
use lib.IntN.{ℤ, pos, neg_ℤ}
use lib.ListN.{length, length-append, get_or-append}
use Rattle.stab.specs.Basic.{◌and◌, ◌or◌, eq_z, nat}
use Rattle.stab.specs.Formula.{Schema, schema_formula}
use Rattle.stab.specs.Meaning.{Assignment, truth}
use Rattle.stab.specs.Model.{pair_symbol, pair_index, is_pair, listed, assignment, satisfied, check_model}
use Rattle.stab.specs.Keeps.{Within, KeepsPair}
use Rattle.stab.specs.Occurs.{listing}
use Rattle.stab.specs.Finding.{accept}
use Rattle.stab.proofs.Exactness.{model_accepts_exactly}

module _ (t more : List ℤ) where
  symbol_front : (k : ℕ) → 2 * k + 1 < length t → pair_symbol (t ++ more) k ≡ pair_symbol t k
  unfolding pair_symbol
  symbol_front k l = get_or-append t more (pos 0) (2 * k) (omega arith)

  index_front : (k : ℕ) → 2 * k + 1 < length t → pair_index (t ++ more) k ≡ pair_index t k
  unfolding pair_index
  index_front k l = get_or-append t more (pos 0) (2 * k + 1) l

  listed_front : (k : ℕ) → 2 * k ≤ length t → (s z : ℤ) → listed (t ++ more) k s z ≡ listed t k s z
  unfolding listed is_pair
  listed_front zero h s z = refl
  listed_front (suc k) h s z =
      let l : 2 * k + 1 < length t = omega arith in
      ap₂ ◌or◌
      (ap₂ (λ (x y : ℤ). eq_z x s and eq_z y z) (symbol_front k l) (index_front k l))
      (listed_front k (omega arith) s z)

  keeps_front : (k : ℕ) → 2 * k + 1 < length t → KeepsPair t k → KeepsPair (t ++ more) k
  keeps_front k l K = record {
    symbol = subst (Within (pos 0) (pos 255)) (sym (symbol_front k l)) K.symbol;
    index = subst (Within (neg_ℤ (pos 29997)) (pos 29997)) (sym (index_front k l)) K.index;
    follows = λ i e.
        let m : 2 * i + 1 < length t = omega arith in
        rw (symbol_front k l, index_front k l, symbol_front i m, index_front i m) (K.follows i e);
  }

-- an accepted model stays accepted
pub model_front : (S : Schema) (n : ℤ) (t more : List ℤ) (k : ℕ)
    → check_model (listing S n t k) ≡ accept 0 0 → check_model (listing S n (t ++ more) k) ≡ accept 0 0
unfolding satisfied assignment
model_front S n t more k h =
    let K = (model_accepts_exactly (listing S n t k)).0 h in
    (model_accepts_exactly (listing S n (t ++ more) k)).1 (record {
      schema_held = K.schema_held;
      pairs_held = omega (arith, K.pairs_held, length-append t more);
      row_limit = K.row_limit;
      pair_limit = K.pair_limit;
      formulas = K.formulas;
      pairs = λ j l. keeps_front t more j (omega (arith, K.pairs_held)) (K.pairs j l);
      in_range = K.in_range;
      holds = ap (λ (σ : Assignment). truth σ (nat n) (schema_formula S)) (fun_ext (λ s. fun_ext (listed_front t more k K.pairs_held s))) ∙ K.holds;
    })
