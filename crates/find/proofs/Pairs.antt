-- The pairs of an assignment, put in a table one by one.
use Rattle.std.specs.Prelude.{if◌then◌else◌}
use Prim.Native.Nat.{ℕ, zero, suc, ◌+◌, ◌*◌, ◌/◌, ◌%◌, ◌<◌, ◌≤◌}
use native.Mathlib.Omega.{arith}
use native.Mathlib.Numerals.{add-one}
use mathlib.Core.Path.{◌≡◌, refl, sym, ◌∙◌, ap, ap₂, subst₂}
use mathlib.Core.Logic.{⊎_elim}
use mathlib.Core.Bool.{true, false}
use mathlib.Core.List.Memᴰ
use mathlib.Core.List.{List, [], ◌∷◌, ◌++◌, append-nil, append_assoc}
use lib.IntN.{ℤ, pos, ◌+ℤ◌}
use lib.ListN.{length, get_or, take, drop, set, length-set, drop_of_length-le}
use lib.Seq.{take-suc-set, length-take-le, get_or-take}
use Rattle.stab.specs.Basic.{nat}
use Rattle.stab.specs.Occurs.{Wire, table}
use Rattle.stab.proofs.Bools.{if_true, if_false, decide}
use Rattle.stab.proofs.Wires.Lists.{same_wire}
use Rattle.pairs.specs.Index.{unbiased}
use Rattle.found.specs.Keys.{key_of, keys_of}
use Rattle.found.specs.Number.{numbered}
use Rattle.found.proofs.Numbers.{numbered_step}
use Rattle.occurring.specs.Held.{Near}
use Rattle.occurring.proofs.Keys.{AllNear, symbol_is, index_is, index_small}
use Rattle.find.specs.Search.{wire_of, wires_of, pair_put, is_true}

-- ---- pairs from their keys

pub wires_length : (ks : List ℕ) → length (wires_of ks) ≡ length ks
unfolding wires_of
wires_length [] = refl
wires_length (k ∷ ks) = ap suc (wires_length ks)

pub wires_at_lem : (ks : List ℕ) (i : ℕ) → get_or (wires_of ks) i (wire_of 0) ≡ wire_of (get_or ks i 0)
unfolding wires_of
wires_at_lem [] i = refl
wires_at_lem (k ∷ ks) zero = refl
wires_at_lem (k ∷ ks) (suc i) = wires_at_lem ks i

wire_back : (w : Wire) → Near w → wire_of (key_of w) ≡ w
unfolding wire_of key_of
wire_back w h =
    let a = nat w.symbol in
    let x = nat (w.index +ℤ pos 65536) in
    let symbol : (a * 131072 + x) / 131072 ≡ a = omega (arith, index_small w h) in
    let index : (a * 131072 + x) % 131072 ≡ x = omega (arith, index_small w h) in
    same_wire (ap pos symbol ∙ sym (symbol_is w h)) (ap unbiased index ∙ sym (index_is w h))

pub wires_back : (ws : List Wire) → AllNear ws → wires_of (keys_of ws) ≡ ws
unfolding wires_of keys_of
wires_back [] h = refl
wires_back (w ∷ ws) h = ap₂ ◌∷◌ (wire_back w (h w (Memᴰ.head refl))) (wires_back ws (λ x m. h x (Memᴰ.tail m)))

-- ---- one by one

-- of the first k pairs, those that are true stand in the table
pub record Given (ws : List Wire) (m k given : ℕ) (pairs : List ℤ) : Type 0 where
  pub count : length (numbered ws m) ≡ given + length (numbered (drop k ws) m)
  pub rows : table (numbered ws m) ≡ take (2 * given) pairs ++ table (numbered (drop k ws) m)

-- a pair stands after those before it
pair_after : (t : List ℤ) (k : ℕ) (w : Wire) → 2 * k + 1 < length t → take (2 * (k + 1)) (pair_put t k w) ≡ take (2 * k) t ++ w.symbol ∷ w.index ∷ []
unfolding pair_put
pair_after t k w h =
    let t' = set t (2 * k) w.symbol in
    let e : 2 * (k + 1) ≡ suc (2 * k + 1) = omega arith in
    ap (λ (j : ℕ). take j (set t' (2 * k + 1) w.index)) e
    ∙ take-suc-set t' (2 * k + 1) w.index (omega (arith, length-set t (2 * k) w.symbol))
    ∙ ap (λ (l : List ℤ). l ++ w.index ∷ []) (ap (λ (j : ℕ). take j t') (add-one (2 * k)) ∙ take-suc-set t (2 * k) w.symbol (omega arith))
    ∙ append_assoc (take (2 * k) t) (w.symbol ∷ []) (w.index ∷ [])

module _ (ws : List Wire) (m k given : ℕ) (pairs : List ℤ) (l : k < length ws) (g : Given ws m k given pairs) where
  step : numbered (drop k ws) m ≡ (if is_true m (length ws) k then get_or ws k (wire_of 0) ∷ numbered (drop (k + 1) ws) m else numbered (drop (k + 1) ws) m)
  unfolding is_true
  step =
      numbered_step ws m k (wire_of 0) l
      ∙ ap (λ (j : ℕ). if is_true m (length ws) k then get_or ws k (wire_of 0) ∷ numbered (drop j ws) m else numbered (drop j ws) m) (sym (add-one k))

  given_true : is_true m (length ws) k ≡ true → 2 * given + 1 < length pairs → Given ws m (k + 1) (given + 1) (pair_put pairs given (get_or ws k (wire_of 0)))
  unfolding table
  given_true t h =
      let w = get_or ws k (wire_of 0) in
      let rest = numbered (drop (k + 1) ws) m in
      let here = step ∙ if_true (is_true m (length ws) k) (w ∷ rest) rest t in
      record {
        count = omega (arith, g.count, ap length here);
        rows =
            g.rows ∙ ap (λ (x : List Wire). take (2 * given) pairs ++ table x) here
            ∙ sym (append_assoc (take (2 * given) pairs) (w.symbol ∷ w.index ∷ []) (table rest))
            ∙ ap (λ (x : List ℤ). x ++ table rest) (sym (pair_after pairs given w h));
      }

  given_false : is_true m (length ws) k ≡ false → Given ws m (k + 1) given pairs
  given_false t =
      let here = step ∙ if_false (is_true m (length ws) k) _ _ t in
      record { count = g.count ∙ ap (λ (x : List Wire). given + length x) here; rows = g.rows ∙ ap (λ (x : List Wire). take (2 * given) pairs ++ table x) here }

-- pair k, whose key is read from a table
pub given_more : (keys : List ℕ) (count : ℕ) → count ≤ length keys → (m k given : ℕ) (pairs : List ℤ) → k < count → 2 * given + 1 < length pairs → Given (wires_of (take count keys)) m k given pairs
    → (r : ℕ) (new : List ℤ) → r ≡ (if is_true m count k then given + 1 else given) → new ≡ (if is_true m count k then pair_put pairs given (wire_of (get_or keys k 0)) else pairs)
    → Given (wires_of (take count keys)) m (k + 1) r new × (r ≤ given + 1)
given_more keys count h m k given pairs l room g r new p q = ⊎_elim yes_true no_true (decide (is_true m count k))
  where
    ws : List Wire
    ws = wires_of (take count keys)

    long : length ws ≡ count
    long = wires_length (take count keys) ∙ length-take-le count keys h

    same : is_true m (length ws) k ≡ is_true m count k
    same = ap (λ (c : ℕ). is_true m c k) long

    here : get_or ws k (wire_of 0) ≡ wire_of (get_or keys k 0)
    here = wires_at_lem (take count keys) k ∙ ap wire_of (get_or-take count keys k 0 l)

    yes_true : is_true m count k ≡ true → Given ws m (k + 1) r new × (r ≤ given + 1)
    yes_true t =
        let e : r ≡ given + 1 = p ∙ if_true (is_true m count k) _ _ t in
        let f : new ≡ pair_put pairs given (get_or ws k (wire_of 0)) = q ∙ if_true (is_true m count k) _ _ t ∙ ap (pair_put pairs given) (sym here) in
        (subst₂ (Given ws m (k + 1)) (sym e) (sym f) (given_true ws m k given pairs (omega (arith, long)) g (same ∙ t) room), omega arith)

    no_true : is_true m count k ≡ false → Given ws m (k + 1) r new × (r ≤ given + 1)
    no_true t =
        let e : r ≡ given = p ∙ if_false (is_true m count k) _ _ t in
        let f : new ≡ pairs = q ∙ if_false (is_true m count k) _ _ t in
        (subst₂ (Given ws m (k + 1)) (sym e) (sym f) (given_false ws m k given pairs (omega (arith, long)) g (same ∙ t)), omega arith)

-- all of them
pub given_all : (ws : List Wire) (m k given : ℕ) (pairs : List ℤ) → length ws ≤ k → Given ws m k given pairs → (given ≡ length (numbered ws m)) × (take (2 * given) pairs ≡ table (numbered ws m))
unfolding numbered table
given_all ws m k given pairs h g =
    let none = drop_of_length-le ws {i = k} h in (
      sym (g.count ∙ ap (λ (x : List Wire). given + length (numbered x m)) none ∙ omega arith),
      sym (g.rows ∙ ap (λ (x : List Wire). take (2 * given) pairs ++ table (numbered x m)) none ∙ append-nil (take (2 * given) pairs)),
    )
