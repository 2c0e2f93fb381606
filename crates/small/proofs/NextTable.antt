-- The next table on the list, and repeated calls.
use Rattle.std.specs.Prelude.{if◌then◌else◌, Err, Ok, Result}
use Prim.Native.Nat.{ℕ, zero, suc, ◌*◌, ◌≤◌}
use native.Mathlib.Omega.{arith}
use mathlib.Core.Path.{◌≡◌, refl, sym, ◌∙◌, ap, ap₂, subst}
use mathlib.Core.Logic.{◌↔◌, ◌⊎◌, inl, inr, ⊎_elim}
use mathlib.Core.Bool.{Bool, true, false, true≢false, false≢true}
use mathlib.Core.List.Memᴰ
use mathlib.Core.List.{List, [], ◌∷◌, ◌++◌, append_assoc, Memᴰ}
use mathlib.Core.Option.{Option, none, some, none-ne-some, some-ne-none}
use lib.IntN.{ℤ, pos}
use lib.ListN.{length, take, replicate, length-take}
use lib.Seq.{take_at}
use borrow.Author.Tests.{le-leb}
use Rattle.stab.specs.Basic.{◌and◌, ◌or◌, eq_z, within, nat, below}
use Rattle.stab.specs.Formula.{row_at, kind_of, base_of, part_if, part, decode, tree_n, tree, on_index, loose, fixed, is_body, is_outer, mixes, offset, well_formed_as, well_formed}
use Rattle.stab.specs.Check.{whole_unless, holds}
use Rattle.stab.specs.Text.{padded}
use Rattle.stab.specs.Finding.{refuse, no_refusal, Place, Finding}
use Rattle.small.specs.declared.Next.TheVariants.{Table, Last}
use Rattle.stab.specs.declared.Refused.{Refused}
use Rattle.small.specs.declared.Next.{Next}
use Rattle.stab.specs.declared.Refusal.{Refusal}
use Rattle.stab.proofs.Bools.{and_both, nothing_unless, otherwise_nothing, decide, if_true, if_false}
use Rattle.stab.proofs.Texts.Outcomes.{padded_none}
use Rattle.small.specs.Small.{small_as, is_small, all_small, on_list, table_before, over_each, row_of, literal_rows, junction_rows, iteration_rows, rows_for, extended, extended_all, tables, filtered, small_tables, first_after, next_table, next_refusal, next_or, next_by, next_small, numbers_or, next_numbers, next_small_table}
use Rattle.small.specs.Calls.{Ascends, NextIn, first_of, given, calls}
use Rattle.small.proofs.Order.{not_before_itself, not_both_before, small_ascends}
use Rattle.small.proofs.Listed.{listed_exactly, list_carried}

-- ---- the first of an ascending list that comes after a table

first_is : (t u : List ℤ) (us : List (List ℤ)) → Ascends us → first_after t us ≡ some u → NextIn us t u
unfolding first_after
first_is t u [] a h = absurd (none-ne-some u h)
first_is t u (v ∷ us) a h = go (table_before t v) refl h (first_is t u us a.1)
  where
    go : (b : Bool) → table_before t v ≡ b → (if b then some v else first_after t us) ≡ some u → (first_after t us ≡ some u → NextIn us t u) → NextIn (v ∷ us) t u
    go true e q ih =
        let s : v ≡ u = cc in
        record {
          listed = Memᴰ.head (sym s);
          after = ap (table_before t) (sym s) ∙ e;
          least = λ w m k l.
              ⊎_elim
              (λ p. true≢false (sym l ∙ ap₂ table_before p (sym s) ∙ not_before_itself v))
              (λ p. not_both_before v w (a.0 w p) (ap (table_before w) s ∙ l))
              (Memᴰ.cases_cons m);
        }
    go false e q ih =
        let n = ih q in
        record {
          listed = Memᴰ.tail n.listed;
          after = n.after;
          least = λ w m k l.
              ⊎_elim
              (λ p. false≢true (sym e ∙ ap (table_before t) (sym p) ∙ k))
              (λ p. n.least w p k l)
              (Memᴰ.cases_cons m);
        }

is_first : (t u : List ℤ) (us : List (List ℤ)) → Ascends us → NextIn us t u → first_after t us ≡ some u
unfolding first_after
is_first t u [] a n = absurd (Memᴰ.not-nil n.listed)
is_first t u (v ∷ us) a n = go (table_before t v) refl (Memᴰ.cases_cons n.listed) (is_first t u us a.1)
  where
    go : (b : Bool) → table_before t v ≡ b → (u ≡ v) ⊎ Memᴰ u us → (NextIn us t u → first_after t us ≡ some u) → (if b then some v else first_after t us) ≡ some u
    go true e (inl p) ih = ap some (sym p)
    go true e (inr m) ih = absurd (n.least v (Memᴰ.head refl) e (a.0 u m))
    go false e (inl p) ih = absurd (false≢true (sym e ∙ ap (table_before t) (sym p) ∙ n.after))
    go false e (inr m) ih = ih (record { listed = m; after = n.after; least = λ w k. n.least w (Memᴰ.tail k) })

none_after : (t : List ℤ) (us : List (List ℤ)) → first_after t us ≡ none → (v : List ℤ) → Memᴰ v us → table_before t v ≡ false
unfolding first_after
none_after t [] h v m = absurd (Memᴰ.not-nil m)
none_after t (u ∷ us) h v m = go (table_before t u) refl h (λ k. none_after t us k v)
  where
    go : (b : Bool) → table_before t u ≡ b → (if b then some u else first_after t us) ≡ none → (first_after t us ≡ none → Memᴰ v us → table_before t v ≡ false) → table_before t v ≡ false
    go true e q ih = absurd (some-ne-none u q)
    go false e q ih = ⊎_elim (λ p. ap (table_before t) p ∙ e) (ih q) (Memᴰ.cases_cons m)

after_none : (t : List ℤ) (us : List (List ℤ)) → ((v : List ℤ) → Memᴰ v us → table_before t v ≡ false) → first_after t us ≡ none
unfolding first_after
after_none t [] h = refl
after_none t (u ∷ us) h = if_false (table_before t u) _ _ (h u (Memᴰ.head refl)) ∙ after_none t us (λ v m. h v (Memᴰ.tail m))

-- "From one table the operation gives the next": u is given exactly if it is on the list, comes after the given table, and nothing on the list
-- lies between them
pub next_least : (n : ℕ) (t u : List ℤ) → (next_table n t ≡ some u) ↔ NextIn (small_tables n) (take (4 * n) t) u
unfolding next_table
next_least n t u =
    (first_is (take (4 * n) t) u (small_tables n) (small_ascends n), is_first (take (4 * n) t) u (small_tables n) (small_ascends n))

-- "or "last"": exactly if nothing on the list comes after it
pub next_none : (n : ℕ) (t : List ℤ) → (next_table n t ≡ none) ↔ ((v : List ℤ) → Memᴰ v (small_tables n) → table_before (take (4 * n) t) v ≡ false)
unfolding next_table
next_none n t = (none_after (take (4 * n) t) (small_tables n), after_none (take (4 * n) t) (small_tables n))

-- ---- repeated calls

not_after : (t u : List ℤ) → table_before u t ≡ true → table_before t u ≡ false
not_after t u h = ⊎_elim (λ e. absurd (not_both_before u t h e)) (λ e. e) (decide (table_before t u))

-- the first after t, where what stands in front comes before it
pub skips : (t : List ℤ) (us vs : List (List ℤ)) → ((u : List ℤ) → Memᴰ u us → table_before u t ≡ true) → first_after t (us ++ vs) ≡ first_after t vs
unfolding first_after
skips t [] vs f = refl
skips t (u ∷ us) vs f =
    if_false (table_before t u) _ _ (not_after t u (f u (Memᴰ.head refl))) ∙ skips t us vs (λ v m. f v (Memᴰ.tail m))

pub skips_itself : (t : List ℤ) (vs : List (List ℤ)) → first_after t (t ∷ vs) ≡ first_after t vs
unfolding first_after
skips_itself t vs = if_false (table_before t t) _ _ (not_before_itself t)

-- and where what follows comes after it
pub takes_first : (t : List ℤ) (vs : List (List ℤ)) → ((v : List ℤ) → Memᴰ v vs → table_before t v ≡ true) → first_after t vs ≡ first_of vs
unfolding first_after
takes_first t [] f = refl
takes_first t (v ∷ vs) f = if_true (table_before t v) _ _ (f v (Memᴰ.head refl))

-- in an ascending list each comes after those in front of it
pub after_front : (us vs : List (List ℤ)) (t : List ℤ) → Ascends (us ++ t ∷ vs) → (u : List ℤ) → Memᴰ u us → table_before u t ≡ true
after_front [] vs t a u m = absurd (Memᴰ.not-nil m)
after_front (w ∷ us) vs t a u m =
    ⊎_elim
    (λ e. ap (λ (x : List ℤ). table_before x t) e ∙ a.0 t (Memᴰ.append_right us (Memᴰ.head refl)))
    (after_front us vs t a.1 u)
    (Memᴰ.cases_cons m)

pub before_behind : (us vs : List (List ℤ)) (t : List ℤ) → Ascends (us ++ t ∷ vs) → (v : List ℤ) → Memᴰ v vs → table_before t v ≡ true
before_behind [] vs t a v m = a.0 v m
before_behind (w ∷ us) vs t a v m = before_behind us vs t a.1 v m

-- so the first after t is what stands behind t
behind : (t : List ℤ) (us vs : List (List ℤ)) → Ascends (us ++ t ∷ vs) → first_after t (us ++ t ∷ vs) ≡ first_of vs
behind t us vs a =
    skips t us (t ∷ vs) (after_front us vs t a) ∙ skips_itself t vs ∙ takes_first t vs (before_behind us vs t a)

-- each table on the list has n rows
on_it : (n : ℕ) (u : List ℤ) (us vs : List (List ℤ)) → small_tables n ≡ us ++ u ∷ vs → (length u ≡ 4 * n) × (on_list n u ≡ true)
on_it n u us vs e = (listed_exactly n u).0 (subst (Memᴰ u) (sym e) (Memᴰ.append_right us (Memᴰ.head refl)))

-- a lent table that starts with one on the list
module _ (n : ℕ) (t : List ℤ) (us vs : List (List ℤ)) (e : small_tables n ≡ us ++ take (4 * n) t ∷ vs) where
  held : 4 * n ≤ length t
  held = omega (arith, (on_it n (take (4 * n) t) us vs e).0, length-take (4 * n) t)

  next_is : next_table n t ≡ first_of vs
  unfolding next_table
  next_is =
      ap (first_after (take (4 * n) t)) e
      ∙ behind (take (4 * n) t) us vs (subst Ascends e (small_ascends n))

  module _ (room : ℕ) (l : 4 * n ≤ room) where
    not_refused : next_refusal n t room ≡ no_refusal
    unfolding next_refusal whole_unless holds
    not_refused =
        otherwise_nothing _ _ (nothing_unless _ _ _ (and_both _ _ (le-leb (4 * n) (length t) held) (le-leb (4 * n) room l)))
        ∙ nothing_unless (on_list n t) _ _ (list_carried n t (on_it n (take (4 * n) t) us vs e).1)

    -- from a table on the list with v behind it the next one is v
    pub call_is : next_small n t room ≡ next_or (first_of vs)
    unfolding next_small next_by
    call_is = ap₂ next_by not_refused next_is

    pub call_gives : next_small_table n t room ≡ padded (pos 0) room (numbers_or (first_of vs))
    unfolding next_small_table next_numbers
    call_gives = ap₂ (λ (x : Finding) (y : Option (List ℤ)). padded (pos 0) room (next_numbers x y)) not_refused next_is

padded_front : (m room : ℕ) (u : List ℤ) → length u ≡ m → take m (padded (pos 0) room u) ≡ u
unfolding padded
padded_front m room u e = take_at u _ m e

calls_from : (n : ℕ) (rooms : List ℕ) (t : List ℤ) (us vs : List (List ℤ)) → ((room : ℕ) → Memᴰ room rooms → 4 * n ≤ room)
    → small_tables n ≡ us ++ take (4 * n) t ∷ vs → length vs ≤ length rooms → calls n rooms t ≡ vs
unfolding calls given next_or numbers_or
calls_from n [] t us [] f e l = refl
calls_from n [] t us (v ∷ vs) f e l = absurd (omega arith)
calls_from n (room ∷ rooms) t us [] f e l =
    ap (λ (r : Result Next Refused). given r (take (4 * n) (next_small_table n t room)) (calls n rooms (next_small_table n t room))) (call_is n t us [] e room (f room (Memᴰ.head refl)))
calls_from n (room ∷ rooms) t us (v ∷ vs) f e l =
    let h = f room (Memᴰ.head refl) in
    let u : List ℤ = next_small_table n t room in
    let before : List (List ℤ) = us ++ (take (4 * n) t ∷ []) in
    let e' : small_tables n ≡ before ++ v ∷ vs = e ∙ sym (append_assoc us (take (4 * n) t ∷ []) (v ∷ vs)) in
    let g : take (4 * n) u ≡ v = ap (take (4 * n)) (call_gives n t us (v ∷ vs) e room h) ∙ padded_front (4 * n) room v (on_it n v before vs e').0 in
    ap₂ (λ (r : Result Next Refused) (x : List ℤ). given r x (calls n rooms u)) (call_is n t us (v ∷ vs) e room h) g
    ∙ ap (λ (x : List (List ℤ)). v ∷ x)
    (calls_from n rooms u before vs (λ i m. f i (Memᴰ.tail m)) (e' ∙ ap (λ (x : List ℤ). before ++ x ∷ vs) (sym g)) (omega arith))

split_first : (us : List (List ℤ)) (t : List ℤ) → first_of us ≡ some t → (vs : List (List ℤ)) × (us ≡ t ∷ vs)
split_first [] t h = absurd (none-ne-some t h)
split_first (u ∷ us) t h = (us, let e : u ≡ t = cc in ap (λ (x : List ℤ). x ∷ us) e)

-- "the first table, which is all 0"
pub first_zeros : (n : ℕ) → 1 ≤ n → n ≤ 3 → first_of (small_tables n) ≡ some (replicate (4 * n) (pos 0))
unfolding ◌and◌ ◌or◌ eq_z within nat below row_at kind_of base_of part_if part decode tree_n tree on_index loose fixed is_body is_outer mixes offset well_formed_as well_formed small_as is_small all_small on_list over_each row_of literal_rows junction_rows iteration_rows rows_for extended extended_all tables filtered small_tables
first_zeros zero l m = absurd (omega arith)
first_zeros (suc zero) l m = refl
first_zeros (suc (suc zero)) l m = refl
first_zeros (suc (suc (suc zero))) l m = refl
first_zeros (suc (suc (suc (suc n)))) l m = absurd (omega arith)

-- "From the first table, which is all 0, repeated calls give every other such table of that length just one time": it and what the calls from it
-- give, as many as there are tables or more, are the list; lent tables may be longer than their rows, each result table by as much as it is
pub walk : (n : ℕ) (t : List ℤ) (rooms : List ℕ) → 1 ≤ n → n ≤ 3 → take (4 * n) t ≡ replicate (4 * n) (pos 0)
    → ((room : ℕ) → Memᴰ room rooms → 4 * n ≤ room) → length (small_tables n) ≤ length rooms → take (4 * n) t ∷ calls n rooms t ≡ small_tables n
walk n t rooms l m z f h =
    let s = split_first (small_tables n) (take (4 * n) t) (first_zeros n l m ∙ ap some (sym z)) in
    let k : length s.0 ≤ length rooms = omega (arith, ap length s.1) in
    ap (λ (x : List (List ℤ)). take (4 * n) t ∷ x) (calls_from n rooms t [] s.0 f s.1 k) ∙ sym s.1

-- from each table on the list the next call gives the one behind it, 0 past its rows; from the last one it says "last", and "a result table of 0s"
pub walk_step : (n room : ℕ) (t v : List ℤ) (us vs : List (List ℤ)) → small_tables n ≡ us ++ take (4 * n) t ∷ v ∷ vs → 4 * n ≤ room
    → (next_small n t room ≡ Ok Table) × (next_small_table n t room ≡ padded (pos 0) room v)
unfolding next_or numbers_or
walk_step n room t v us vs e l = (call_is n t us (v ∷ vs) e room l, call_gives n t us (v ∷ vs) e room l)

pub walk_last : (n room : ℕ) (t : List ℤ) (us : List (List ℤ)) → small_tables n ≡ us ++ take (4 * n) t ∷ [] → 4 * n ≤ room
    → (next_small n t room ≡ Ok Last) × (next_small_table n t room ≡ replicate room (pos 0))
unfolding next_or numbers_or
walk_last n room t us e l = (call_is n t us [] e room l, call_gives n t us [] e room l ∙ padded_none (pos 0) room)

-- ---- the answer

-- "or "last"": exactly if nothing is turned away and nothing on the list comes after the given table
pub last_exactly : (n : ℕ) (t : List ℤ) (room : ℕ) → (next_small n t room ≡ Ok Last)
    ↔ ((next_refusal n t room ≡ no_refusal) × ((v : List ℤ) → Memᴰ v (small_tables n) → table_before (take (4 * n) t) v ≡ false))
unfolding next_small next_by next_or
last_exactly n t room =
    (λ h. let s = go (next_refusal n t room) (next_table n t) h in (s.0, (next_none n t).0 s.1), λ k. ap₂ next_by k.0 ((next_none n t).1 k.1))
  where
    go : (x : Finding) (y : Option (List ℤ)) → next_by x y ≡ Ok Last → (x ≡ no_refusal) × (y ≡ none)
    go (Ok tt) none h = (refl, refl)
    go (Ok x) (some u) h = let z : ◌≡◌ {A = ℕ} 0 1 = cc in absurd (omega arith)
    go (Err r) y h = let z : ◌≡◌ {A = ℕ} 0 1 = cc in absurd (omega arith)

-- "Lent result memory is then all 0": after a refusal
pub refused_zeros : (n : ℕ) (t : List ℤ) (room : ℕ) (why : Refusal) (p : Place) → next_refusal n t room ≡ refuse why p → next_small_table n t room ≡ replicate room (pos 0)
unfolding next_small_table next_numbers
refused_zeros n t room why p h = ap (λ (x : Finding). padded (pos 0) room (next_numbers x (next_table n t))) h ∙ padded_none (pos 0) room

-- "'last' and a result table of 0s"
pub last_zeros : (n : ℕ) (t : List ℤ) (room : ℕ) → next_small n t room ≡ Ok Last → next_small_table n t room ≡ replicate room (pos 0)
unfolding next_small_table next_numbers numbers_or
last_zeros n t room h =
    let s = (last_exactly n t room).0 h in
    ap₂ (λ (x : Finding) (y : Option (List ℤ)). padded (pos 0) room (next_numbers x y)) s.0 ((next_none n t).1 s.1) ∙ padded_none (pos 0) room
