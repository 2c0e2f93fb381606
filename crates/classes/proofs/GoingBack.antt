-- Going back through the rows of one hash, and the tables after one row more.
use Prim.Native.Nat.{ℕ, zero, suc, ◌+◌, ◌*◌, ◌-◌, ◌≤◌, ◌<◌}
use native.Mathlib.Omega.{arith}
use native.Mathlib.Numerals.{add-one}
use mathlib.Core.Path.{◌≡◌, sym, ◌∙◌, ap, ap₂, subst}
use mathlib.Core.Logic.{◌⊎◌, inl, inr, ⊎_elim}
use mathlib.Core.Bool.{Bool, true, false, false≢true}
use mathlib.Core.List.{List}
use lib.Dec.{eqb, ltb}
use lib.ListN.{length, get_or, set, length-set}
use lib.Seq.{get_or-set_same, get_or-set_other}
use borrow.Author.Tests.{eqb-true, eqb-false, eq-eqb, ne_eqb, ltb-true, ltb-false}
use Rattle.stab.specs.Basic.{◌and◌, nat}
use Rattle.stab.specs.Formula.{Row, tree}
use Rattle.stab.proofs.Bools.{decide, and_left, and_right, and_both, if_true, if_false}
use Rattle.stab.proofs.Scans.{below_suc}
use Rattle.formula.specs.Facts.{AllFormed}
use Rattle.formula.proofs.SpreadLaws.{spread_small}
use Rattle.classes.specs.Class.{akin, class_of, Worked}
use Rattle.classes.specs.Key.{low_of, high_of, form_of, hash_of, hash_at, latest, Listed, Done, forms_with, sides_with, forms_after, sides_after, heads_after}
use Rattle.classes.specs.declared.form.Form.{Form}
use Rattle.classes.proofs.Least.{class_same, class_new}
use Rattle.classes.proofs.Keys.{key_akin, akin_key}

-- ---- the last row of a hash

module _ (rows : ℕ → Row) (h : ℕ) where
  latest_here : (n : ℕ) → hash_at rows n ≡ h → latest rows h (suc n) ≡ suc n
  unfolding latest
  latest_here n e = if_true _ _ _ (eq-eqb (hash_at rows n) h e)

  latest_other : (n : ℕ) → (hash_at rows n ≡ h → ⊥) → latest rows h (suc n) ≡ latest rows h n
  unfolding latest
  latest_other n f = if_false _ _ _ (ne_eqb (hash_at rows n) h f)

  latest_none : (n : ℕ) → latest rows h n ≡ 0 → (q : ℕ) → q < n → hash_at rows q ≡ h → ⊥
  latest_none zero e q l p = omega arith
  latest_none (suc n) e q l p =
      let f : hash_at rows n ≡ h → ⊥ = λ k. omega (arith, latest_here n k) in
      ⊎_elim
      (λ m. latest_none n (sym (latest_other n f) ∙ e) q m p)
      (λ m. f (ap (hash_at rows) (sym m) ∙ p))
      (below_suc q n l)

  latest_small : (n : ℕ) → latest rows h n ≤ n
  unfolding latest
  latest_small zero = omega arith
  latest_small (suc n) =
      ⊎_elim
      (λ t. omega (arith, latest_here n (eqb-true _ h t)))
      (λ t. omega (arith, latest_other n (eqb-false _ h t), latest_small n))
      (decide (eqb (hash_at rows n) h))

  -- row q is the last one below n
  abbrev Last : ℕ → ℕ → Type 0
  Last n q = (q < n) × (hash_at rows q ≡ h) × ((p : ℕ) → q < p → p < n → hash_at rows p ≡ h → ⊥)

  latest_some : (n q : ℕ) → latest rows h n ≡ suc q → Last n q
  unfolding latest
  latest_some zero q e = absurd (omega arith)
  latest_some (suc n) q e =
      ⊎_elim
      (λ t. let k : q ≡ n = omega (arith, latest_here n (eqb-true _ h t)) in (omega arith, ap (hash_at rows) k ∙ eqb-true _ h t, λ p a b _. omega arith))
      (λ t.
      let f = eqb-false (hash_at rows n) h t in
      let i = latest_some n q (sym (latest_other n f) ∙ e) in
      (omega (arith, i.0), i.1, λ p a b g. ⊎_elim (λ m. i.2 p a m g) (λ m. f (ap (hash_at rows) (sym m) ∙ g)) (below_suc p n b)))
      (decide (eqb (hash_at rows n) h))

pub hash_small : (rows : ℕ → Row) (r : ℕ) → hash_at rows r < 512
unfolding hash_at
hash_small rows r = omega (arith, spread_small (low_of rows r) (high_of rows r) (nat (rows r).kind) 0)

either : (a b : ℕ) → (a < b) ⊎ (b ≤ a)
either a b = ⊎_elim (λ t. inl (ltb-true a b t)) (λ t. inr (ltb-false a b t)) (decide (ltb a b))

-- ---- the key as it is tested

key_tested : (k l m a b c : ℕ) → (eqb k a and eqb l b and eqb m c) ≡ true → (k ≡ a) × (l ≡ b) × (m ≡ c)
key_tested k l m a b c h =
    let t = and_right (eqb k a) _ h in
    (eqb-true k a (and_left _ _ h), eqb-true l b (and_left _ _ t), eqb-true m c (and_right (eqb l b) _ t))

tested_key : (k l m a b c : ℕ) → k ≡ a → l ≡ b → m ≡ c → (eqb k a and eqb l b and eqb m c) ≡ true
tested_key k l m a b c p q r = and_both _ _ (eq-eqb k a p) (and_both _ _ (eq-eqb l b q) (eq-eqb m c r))

-- ---- going back

-- the next row to look at, one more than its number, is the last of the hash below m, and no row from m on is akin to r
pub record Walk (rows : ℕ → Row) (r h next : ℕ) : Type 0 where
  pub m : ℕ
  pub within : m ≤ r
  pub is_latest : next ≡ latest rows h m
  pub none_from : (q : ℕ) → m ≤ q → q < r → akin (tree rows q) (tree rows r) ≡ true → ⊥

module _ (rows : ℕ → Row) (r : ℕ) (few : r < 1024) (formed : AllFormed rows (r + 1)) where
  akin_hash : (q : ℕ) → q < r → akin (tree rows q) (tree rows r) ≡ true → hash_at rows q ≡ hash_at rows r
  unfolding hash_at
  akin_hash q l h =
      let k = akin_key rows (r + 1) formed (omega arith) q r (omega arith) (omega arith) h in
      ap (λ (x : ℕ). hash_of x (low_of rows q) (high_of rows q)) k.0 ∙ ap₂ (hash_of (nat (rows r).kind)) k.1 k.2

  pub walk_start : (h next : ℕ) → next ≡ latest rows h r → Walk rows r h next
  walk_start h next e = record { m = r; within = omega arith; is_latest = e; none_from = λ q a b _. omega arith }

  module _ (h next : ℕ) (eh : h ≡ hash_at rows r) (w : Walk rows r h next) where
    pub walk_end : next ≤ 0 → r ≡ class_of rows r
    walk_end z =
        let e : latest rows h w.m ≡ 0 = sym w.is_latest ∙ (let o : next ≡ 0 = omega arith in o) in
        sym
        (class_new rows r λ q l k.
        ⊎_elim
        (λ t. latest_none rows h w.m e q t (akin_hash q l k ∙ sym eh))
        (λ t. w.none_from q t l k)
        (either q w.m))

    module _ (some_row : 0 < next) where
      last_is : Last rows h w.m (next - 1)
      last_is = latest_some rows h w.m (next - 1) (sym w.is_latest ∙ (let o : next ≡ suc (next - 1) = omega arith in o))

      pub walk_row : next - 1 < r
      walk_row = omega (arith, last_is.0, w.within)

      module _ {k : ℕ} {f : Form} {forms sides : List ℕ} (ek : k ≡ nat (rows r).kind) (ef : f ≡ form_of rows r) (listed : Listed rows forms sides (next - 1)) where
        abbrev Tested : Bool
        Tested = eqb (nat (rows (next - 1)).kind) k and eqb (get_or sides (2 * (next - 1)) 0) f.low and eqb (get_or sides (2 * (next - 1) + 1) 0) f.high

        low_is : f.low ≡ low_of rows r
        unfolding form_of
        low_is = ap (λ (g : Form). g.low) ef

        high_is : f.high ≡ high_of rows r
        unfolding form_of
        high_is = ap (λ (g : Form). g.high) ef

        -- a row with the key has the class
        pub walk_found : Tested ≡ true → class_of rows (next - 1) ≡ class_of rows r
        walk_found h =
            let t = key_tested _ _ _ _ _ _ h in
            class_same rows (next - 1) r
            (key_akin rows (r + 1) formed (omega arith) (next - 1) r (omega (arith, walk_row)) (omega arith)
            (t.0 ∙ ek)
            (sym listed.low ∙ t.1 ∙ low_is)
            (sym listed.high ∙ t.2 ∙ high_is))

        pub walk_falls : {n : ℕ} → n ≡ get_or forms (4 * (next - 1) + 3) 0 → n < next
        walk_falls e = omega (arith, e ∙ listed.before, latest_small rows (hash_at rows (next - 1)) (next - 1))

        -- one without it is not akin, and the one before it is next
        pub walk_next : {n : ℕ} → Tested ≡ false → n ≡ get_or forms (4 * (next - 1) + 3) 0 → Walk rows r h n
        walk_next h e =
            record {
              m = next - 1;
              within = omega (arith, walk_row);
              is_latest = e ∙ listed.before ∙ ap (λ (x : ℕ). latest rows x (next - 1)) last_is.1;
              none_from = λ q a b k.
                  ⊎_elim
                  (λ t. later q t b k)
                  (λ t. not_this (subst (λ (x : ℕ). akin (tree rows x) (tree rows r) ≡ true) (let o : q ≡ next - 1 = omega arith in o) k))
                  (either (next - 1) q);
            }
          where
            not_this : akin (tree rows (next - 1)) (tree rows r) ≡ true → ⊥
            not_this k =
                let a = akin_key rows (r + 1) formed (omega arith) (next - 1) r (omega (arith, walk_row)) (omega arith) k in
                false≢true (sym h ∙ tested_key _ _ _ _ _ _ (a.0 ∙ sym ek) (listed.low ∙ a.1 ∙ sym low_is) (listed.high ∙ a.2 ∙ sym high_is))

            later : (q : ℕ) → next - 1 < q → q < r → akin (tree rows q) (tree rows r) ≡ true → ⊥
            later q a b k =
                ⊎_elim
                (λ t. last_is.2 q a t (akin_hash q b k ∙ sym eh))
                (λ t. w.none_from q t b k)
                (either q w.m)

-- ---- one row more

module _ (rows : ℕ → Row) (forms sides heads : List ℕ) (r : ℕ) (f : Form) (h : ℕ) where
  abbrev forms₁ : List ℕ
  forms₁ = set forms (4 * r) (class_of rows r)

  abbrev forms₂ : List ℕ
  forms₂ = set forms₁ (4 * r + 1) f.shift

  abbrev forms₃ : List ℕ
  forms₃ = set forms₂ (4 * r + 2) f.lead

  abbrev forms₄ : List ℕ
  forms₄ = set forms₃ (4 * r + 3) (get_or heads h 0)

  abbrev sides₁ : List ℕ
  sides₁ = set sides (2 * r) f.low

  abbrev sides₂ : List ℕ
  sides₂ = set sides₁ (2 * r + 1) f.high

  forms_other : (i : ℕ) → i < 4 * r → get_or forms₄ i 0 ≡ get_or forms i 0
  forms_other i l =
      get_or-set_other forms₃ (4 * r + 3) i (get_or heads h 0) 0 (omega arith)
      ∙ get_or-set_other forms₂ (4 * r + 2) i f.lead 0 (omega arith)
      ∙ get_or-set_other forms₁ (4 * r + 1) i f.shift 0 (omega arith)
      ∙ get_or-set_other forms (4 * r) i (class_of rows r) 0 (omega arith)

  sides_other : (i : ℕ) → i < 2 * r → get_or sides₂ i 0 ≡ get_or sides i 0
  sides_other i l =
      get_or-set_other sides₁ (2 * r + 1) i f.high 0 (omega arith) ∙ get_or-set_other sides (2 * r) i f.low 0 (omega arith)

  module _ (done : Done rows forms sides heads r) (room : 4 * r + 3 < length forms) (space : 2 * r + 1 < length sides) (small : h < 512) (place : h < length heads) (ef : f ≡ form_of rows r) (eh : h ≡ hash_at rows r) where
    worked_before : (q : ℕ) → q < r → Worked rows forms₄ q
    worked_before q l =
        let w = done.worked q l in
        record {
          class = forms_other (4 * q) (omega arith) ∙ w.class;
          shift = forms_other (4 * q + 1) (omega arith) ∙ w.shift;
          lead = forms_other (4 * q + 2) (omega arith) ∙ w.lead;
        }

    worked_here : Worked rows forms₄ r
    unfolding form_of
    worked_here =
        record {
          class =
              get_or-set_other forms₃ (4 * r + 3) (4 * r) (get_or heads h 0) 0 (omega arith)
              ∙ get_or-set_other forms₂ (4 * r + 2) (4 * r) f.lead 0 (omega arith)
              ∙ get_or-set_other forms₁ (4 * r + 1) (4 * r) f.shift 0 (omega arith)
              ∙ get_or-set_same forms (4 * r) (class_of rows r) 0 (omega arith);
          shift =
              get_or-set_other forms₃ (4 * r + 3) (4 * r + 1) (get_or heads h 0) 0 (omega arith)
              ∙ get_or-set_other forms₂ (4 * r + 2) (4 * r + 1) f.lead 0 (omega arith)
              ∙ get_or-set_same forms₁ (4 * r + 1) f.shift 0 (simp length-set (omega arith))
              ∙ ap (λ (g : Form). g.shift) ef;
          lead =
              get_or-set_other forms₃ (4 * r + 3) (4 * r + 2) (get_or heads h 0) 0 (omega arith)
              ∙ get_or-set_same forms₂ (4 * r + 2) f.lead 0 (simp length-set (omega arith))
              ∙ ap (λ (g : Form). g.lead) ef;
        }

    listed_before : (q : ℕ) → q < r → Listed rows forms₄ sides₂ q
    listed_before q l =
        let w = done.listed q l in
        record {
          before = forms_other (4 * q + 3) (omega arith) ∙ w.before;
          low = sides_other (2 * q) (omega arith) ∙ w.low;
          high = sides_other (2 * q + 1) (omega arith) ∙ w.high;
        }

    listed_here : Listed rows forms₄ sides₂ r
    unfolding form_of
    listed_here =
        record {
          before =
              get_or-set_same forms₃ (4 * r + 3) (get_or heads h 0) 0 (simp length-set (omega arith))
              ∙ done.latest_of h small
              ∙ ap (λ (x : ℕ). latest rows x r) eh;
          low =
              get_or-set_other sides₁ (2 * r + 1) (2 * r) f.high 0 (omega arith)
              ∙ get_or-set_same sides (2 * r) f.low 0 (omega arith)
              ∙ ap (λ (g : Form). g.low) ef;
          high = get_or-set_same sides₁ (2 * r + 1) f.high 0 (simp length-set (omega arith)) ∙ ap (λ (g : Form). g.high) ef;
        }

    latest_more : (x : ℕ) → x < 512 → get_or (set heads h (r + 1)) x 0 ≡ latest rows x (suc r)
    latest_more x l =
        ⊎_elim
        (λ t.
        let e = eqb-true x h t in
        ap (λ (y : ℕ). get_or (set heads h (r + 1)) y 0) e
        ∙ get_or-set_same heads h (r + 1) 0 place
        ∙ add-one r
        ∙ sym (latest_here rows x r (sym eh ∙ sym e)))
        (λ t.
        let f = eqb-false x h t in
        get_or-set_other heads h x (r + 1) 0 f
        ∙ done.latest_of x l
        ∙ sym (latest_other rows x r (λ e. f (sym e ∙ sym eh))))
        (decide (eqb x h))

    each_more : {P : ℕ → Type 0} → ((a : ℕ) → a < r → P a) → P r → (a : ℕ) → a < r + 1 → P a
    each_more {P} p k a l = ⊎_elim (λ t. p a t) (λ e. subst P (sym e) k) (below_suc a r (omega arith))

    pub done_more : {c : ℕ} {forms' sides' heads' : List ℕ} → c ≡ class_of rows r → forms' ≡ forms_with forms r c f (get_or heads h 0) → sides' ≡ sides_with sides r f → heads' ≡ set heads h (r + 1) → Done rows forms' sides' heads' (r + 1)
    unfolding forms_with sides_with
    done_more {sides' = sides'} {heads' = heads'} e x y z =
        subst (λ (l : List ℕ). Done rows l sides' heads' (r + 1)) (sym (x ∙ ap (λ (c : ℕ). forms_with forms r c f (get_or heads h 0)) e))
        (subst (λ (l : List ℕ). Done rows forms₄ l heads' (r + 1)) (sym y)
        (subst (λ (l : List ℕ). Done rows forms₄ sides₂ l (r + 1)) (sym z)
        (record {
          worked = each_more worked_before worked_here;
          listed = each_more listed_before listed_here;
          latest_of = λ x l. latest_more x l ∙ ap (latest rows x) (sym (add-one r));
        })))

-- no row yet
pub done_none : (rows : ℕ → Row) (forms sides heads : List ℕ) → ((h : ℕ) → h < 512 → get_or heads h 0 ≡ 0) → Done rows forms sides heads 0
unfolding latest
done_none rows forms sides heads z =
    record { worked = λ a l. absurd (omega arith); listed = λ a l. absurd (omega arith); latest_of = z }

-- the tables after one row more, by those before it
module _ (rows : ℕ → Row) (t : List ℕ) (r : ℕ) {u w : List ℕ} where
  pub forms_more : u ≡ forms_after rows t r → w ≡ forms_with u r (class_of rows r) (form_of rows r) (latest rows (hash_at rows r) r) → w ≡ forms_after rows t (r + 1)
  unfolding forms_after
  forms_more p q = q ∙ ap (λ (x : List ℕ). forms_with x r (class_of rows r) (form_of rows r) (latest rows (hash_at rows r) r)) p ∙ ap (forms_after rows t) (sym (add-one r))

  pub sides_more : u ≡ sides_after rows t r → w ≡ sides_with u r (form_of rows r) → w ≡ sides_after rows t (r + 1)
  unfolding sides_after
  sides_more p q = q ∙ ap (λ (x : List ℕ). sides_with x r (form_of rows r)) p ∙ ap (sides_after rows t) (sym (add-one r))

  pub heads_more : u ≡ heads_after rows t r → w ≡ set u (hash_at rows r) (r + 1) → w ≡ heads_after rows t (r + 1)
  unfolding heads_after
  heads_more p q = q ∙ ap (λ (x : List ℕ). set x (hash_at rows r) (r + 1)) p ∙ ap (heads_after rows t) (sym (add-one r))
