-- 02, No. 1: the plain rows are well formed, mean what the wide rows mean, and pass the check's tests of formula rows.
use Prim.Native.Nat.{ℕ, zero, suc, ◌*◌, ◌<◌, ◌≤◌}
use native.Mathlib.Omega.{arith}
use mathlib.Core.Path.{◌≡◌, refl, sym, ◌∙◌, ap, ap₂}
use mathlib.Core.Logic.Iff
use mathlib.Core.Logic.{◌↔◌, ◌⊎◌, inl, inr, ⊎_elim}
use mathlib.Core.Bool.{Bool, true, false, not}
use mathlib.Core.List.{List}
use lib.IntN.{ℤ, pos}
use lib.ListN.{length}
use Rattle.stab.specs.Basic.{nat, below, within, ◌otherwise◌, scan, unless}
use Rattle.stab.specs.Formula.{Row, row_at, Schema, Formula, tree, is_outer, well_formed, small_enough}
use Rattle.stab.specs.Meaning.{Assignment, value, signed, truth}
use Rattle.stab.specs.Check.{whole_unless, at_unless, holds, row_refusal, root_fits, formula_refusal, formulas_refusal, schema_refusal}
use Rattle.stab.specs.declared.Refusal.TheVariants.{TableTooShort, TooMany, Root, IllFormed, TooLarge, Plain}
use Rattle.std.specs.Prelude.{None, Ok, Err}
use Rattle.stab.specs.Finding.{no_refusal, refuse, Finding}
use Rattle.stab.proofs.Bools.{otherwise_nothing, otherwise_found}
use Rattle.stab.proofs.Scans.{scan_same}
use Rattle.stab.proofs.Trees.{below_nat, below_of}
use Rattle.stab.proofs.Tests.{itself, ◌&◌, le_tests, ◌clears◌, whole_clears, at_clears, ◌then◌, scan_clears}
use Rattle.wide.specs.WideFormula.{wide_tree, wide_formula, is_wide_outer, wide_formed, wide_small}
use Rattle.wide.specs.WideMeaning.{wide_value, wide_truth}
use Rattle.wide.specs.Plain.{image, plain_rows}
use Rattle.wide.specs.Convert.{WideSchema, plain_table, plain_count, plain_root, wide_row_refusal, wide_refusal, plain_refusal, convert_refusal, plain_in}
use Rattle.wide.proofs.Tables.{columns_row, small_agrees}
use Rattle.wide.proofs.Places.{start_rises, plain_length}
use Rattle.wide.proofs.PlainForms.{plain_value}
use Rattle.wide.proofs.Images.{side, image_below, Stand}
use Rattle.wide.proofs.ImageTrees.{image_tree}
use Rattle.wide.proofs.PlainFormed.{rows_formed, image_outer}

-- ---- when nothing is refused

-- the wide rows, root and least value keep the rules
pub record KeepsWide (S : Schema) : Type 0 where
  pub root_row : below S.rows S.root ≡ true
  pub least_range : within (pos 0) (pos 9999) S.least ≡ true
  pub formed : (r : ℕ) → r < S.rows → wide_formed (row_at S.table) r ≡ true
  pub small : (r : ℕ) → r < S.rows → wide_small (row_at S.table) r ≡ true
  pub root_outer : is_wide_outer (wide_formula S) ≡ true

pub wide_clears : (S : Schema) → wide_refusal S clears KeepsWide S
unfolding wide_refusal wide_row_refusal root_fits
wide_clears S =
    Iff.trans
    (whole_clears Root (itself (below S.rows S.root) & itself (within (pos 0) (pos 9999) S.least)) then
    scan_clears (wide_row_refusal (row_at S.table)) S.rows (λ r l. at_clears IllFormed r (itself (wide_formed (row_at S.table) r)) then at_clears TooLarge r (itself (wide_small (row_at S.table) r))) then
    whole_clears Root (itself (is_wide_outer (wide_formula S)))) (
      λ p. record { root_row = p.0.0; least_range = p.0.1; formed = λ r l. (p.1.0 r l).0; small = λ r l. (p.1.0 r l).1; root_outer = p.1.1 },
      λ k. ((k.root_row, k.least_range), (λ r l. (k.formed r l, k.small r l), k.root_outer)),
    )

pub record KeepsPlain (W : WideSchema) : Type 0 where
  pub limit : plain_count W ≤ 1024
  pub small : (r : ℕ) → r < plain_count W → small_enough (row_at (plain_table W)) r ≡ true

pub plain_clears : (W : WideSchema) → plain_refusal W clears KeepsPlain W
unfolding plain_refusal
plain_clears W =
    Iff.trans
    (whole_clears Plain (le_tests (plain_count W) 1024) then
    scan_clears _ (plain_count W) (λ r l. whole_clears Plain (itself (small_enough (row_at (plain_table W)) r))))
    (λ p. record { limit = p.0; small = p.1 }, λ k. (k.limit, k.small))

-- the converter fills the table
pub record Converts (W : WideSchema) : Type 0 where
  pub room : 4096 ≤ W.room
  pub held : 4 * W.schema.rows ≤ length W.schema.table
  pub limit : W.schema.rows ≤ 1024
  pub wide_rules : KeepsWide W.schema
  pub plain_rules : KeepsPlain W

pub convert_clears : (W : WideSchema) → convert_refusal W clears Converts W
unfolding convert_refusal holds
convert_clears W =
    Iff.trans
    (at_clears TableTooShort 0 (le_tests 4096 W.room) then
    whole_clears TableTooShort (le_tests (4 * W.schema.rows) (length W.schema.table)) then
    whole_clears TooMany (le_tests W.schema.rows 1024) then
    wide_clears W.schema then
    plain_clears W) (
      λ p. record { room = p.0; held = p.1.0; limit = p.1.1.0; wide_rules = p.1.1.1.0; plain_rules = p.1.1.1.1 },
      λ k. (k.room, (k.held, (k.limit, (k.wide_rules, k.plain_rules)))),
    )

-- ---- the plain rows, in any table that has them

nothing_after : (x : Finding) → (x otherwise no_refusal) ≡ x
unfolding ◌otherwise◌
nothing_after (Ok u) = refl
nothing_after (Err r) = refl

abbrev pub HasPlainRows : WideSchema → (ℕ → Row) → Type 0
HasPlainRows W plains = (p : ℕ) → p < plain_count W → plains p ≡ row_at (plain_table W) p

module _ (W : WideSchema) (plains : ℕ → Row) (has : HasPlainRows W plains) where
  stand : Stand (row_at W.schema.table) W.schema.rows plains
  unfolding plain_count plain_table
  stand p l =
      has p (omega (arith, plain_length (row_at W.schema.table) W.schema.rows)) ∙ columns_row (plain_rows (row_at W.schema.table) W.schema.rows) p

  module _ (formed : (r : ℕ) → r < W.schema.rows → wide_formed (row_at W.schema.table) r ≡ true) where
    pub row_formed : (r : ℕ) → r < plain_count W → well_formed plains r ≡ true
    unfolding plain_count
    row_formed r l =
        rows_formed (row_at W.schema.table) W.schema.rows plains formed stand r (omega (arith, plain_length (row_at W.schema.table) W.schema.rows))

    -- the row that stands for a wide row has its value, and the one that stands for its negation the other, at every n, i and assignment
    pub row_means : (r : ℕ) → r < W.schema.rows → (σ : Assignment) (n : ℕ) (i : ℤ)
        → (value σ n (tree plains (image (row_at W.schema.table) r).own) i ≡ wide_value σ n (wide_tree (row_at W.schema.table) r) i) × (value σ n (tree plains (image (row_at W.schema.table) r).negated) i ≡ not (wide_value σ n (wide_tree (row_at W.schema.table) r) i))
    unfolding side signed
    row_means r l σ n i = (means true, means false)
      where
        means : (v : Bool) → value σ n (tree plains (side v (image (row_at W.schema.table) r))) i ≡ signed v (wide_value σ n (wide_tree (row_at W.schema.table) r) i)
        means v =
            ap (λ (f : Formula). value σ n f i) (image_tree (row_at W.schema.table) W.schema.rows plains formed stand v r l)
            ∙ plain_value v σ n (wide_tree (row_at W.schema.table) r) i

    module _ (root_row : below W.schema.rows W.schema.root ≡ true) where
      pub root_below : plain_root W < plain_count W
      unfolding plain_root plain_count side
      root_below =
          let l = below_nat W.schema.rows W.schema.root root_row in
          omega (arith, plain_length (row_at W.schema.table) W.schema.rows, image_below (row_at W.schema.table) W.schema.rows formed true (nat W.schema.root) l, start_rises (row_at W.schema.table) (suc (nat W.schema.root)) W.schema.rows l)

      pub root_outer_lem : is_outer (tree plains (plain_root W)) ≡ is_wide_outer (wide_formula W.schema)
      unfolding plain_root side
      root_outer_lem = image_outer (row_at W.schema.table) W.schema.rows plains formed stand true (nat W.schema.root) (below_nat W.schema.rows W.schema.root root_row)

      pub root_means : (σ : Assignment) (n : ℕ) → truth σ n (tree plains (plain_root W)) ≡ wide_truth σ n (wide_formula W.schema)
      unfolding truth wide_truth plain_root
      root_means σ n = (row_means (nat W.schema.root) (below_nat W.schema.rows W.schema.root root_row) σ n (pos 0)).0

-- in a table that starts with them
module _ (W : WideSchema) (t : List ℤ) (has : HasPlainRows W (row_at t)) where
  -- all that the check's pass over formula rows can find of them is 8
  finds_8 : KeepsWide W.schema → schema_refusal (plain_in W t) ≡ scan (λ r. at_unless (small_enough (row_at t) r) TooLarge r) (plain_count W)
  unfolding schema_refusal formulas_refusal formula_refusal row_refusal root_fits nat
  finds_8 K =
      let plains = row_at t in
      otherwise_nothing _ _ ((whole_clears Root (itself (below (plain_count W) (pos (plain_root W))) & itself (within (pos 0) (pos 9999) W.schema.least))).1
      (below_of (plain_count W) (plain_root W) (root_below W plains has K.formed K.root_row), K.least_range))
      ∙ ap₂ ◌otherwise◌
      (scan_same _ (λ r. at_unless (small_enough plains r) TooLarge r) (plain_count W) (λ r l h. otherwise_nothing _ _ ((at_clears IllFormed r (itself _)).1 (row_formed W plains has K.formed r l))))
      ((whole_clears Root (itself _)).1 (root_outer_lem W plains has K.formed K.root_row ∙ K.root_outer))
      ∙ nothing_after _

  pub judged : KeepsWide W.schema → schema_refusal (plain_in W t) clears ((r : ℕ) → r < plain_count W → small_enough (row_at (plain_table W)) r ≡ true)
  judged K =
      Iff.trans (λ e. sym (finds_8 K) ∙ e, λ e. finds_8 K ∙ e)
      (Iff.trans (scan_clears _ (plain_count W) (λ r l. at_clears TooLarge r (itself (small_enough (row_at t) r)))) (
        λ h r l. small_agrees (row_at (plain_table W)) (row_at t) r (λ a m. sym (has a (omega arith))) ∙ h r l,
        λ h r l. small_agrees (row_at t) (row_at (plain_table W)) r (λ a m. has a (omega arith)) ∙ h r l,
      ))

-- ---- the theorems

-- in a table that starts with the plain rows, the check's pass over formula rows finds nothing exactly if 23 is not given, where the wide
-- rows pass and the plain rows are few enough
pub plain_judged : (W : WideSchema) (t : List ℤ) → HasPlainRows W (row_at t) → wide_refusal W.schema ≡ no_refusal → plain_count W ≤ 1024
    → (schema_refusal (plain_in W t) ≡ no_refusal) ↔ (plain_refusal W ≡ no_refusal)
plain_judged W t has h few =
    let j = judged W t has ((wide_clears W.schema).0 h) in (
      λ e. (plain_clears W).1 (record { limit = few; small = j.0 e }),
      λ e. j.1 ((plain_clears W).0 e).small,
    )

-- what it finds otherwise is 8
pub plain_finds : (W : WideSchema) (t : List ℤ) → HasPlainRows W (row_at t) → wide_refusal W.schema ≡ no_refusal
    → schema_refusal (plain_in W t) ≡ scan (λ r. at_unless (small_enough (row_at t) r) TooLarge r) (plain_count W)
plain_finds W t has h = finds_8 W t has ((wide_clears W.schema).0 h)

-- nothing, or 23 of the whole
abbrev Or23 : Finding → Type 0
Or23 x = (x ≡ no_refusal) ⊎ (x ≡ refuse Plain None)

unless_23 : (t : Bool) → Or23 (whole_unless t Plain)
unfolding whole_unless unless
unless_23 true = inl refl
unless_23 false = inr refl

then_23 : (x y : Finding) → Or23 x → Or23 y → Or23 (x otherwise y)
then_23 x y (inl e) h = ⊎_elim (λ f. inl (otherwise_nothing x y e ∙ f)) (λ f. inr (otherwise_nothing x y e ∙ f)) h
then_23 x y (inr e) h = inr (otherwise_found x y e)

scan_23 : (f : ℕ → Finding) (n : ℕ) → ((r : ℕ) → Or23 (f r)) → Or23 (scan f n)
unfolding scan
scan_23 f zero h = inl refl
scan_23 f (suc n) h = then_23 (scan f n) (f n) (scan_23 f n h) (h n)

-- what the plain rows are refused with has place -1
pub plain_refused : (W : WideSchema) → (plain_refusal W ≡ no_refusal) ⊎ (plain_refusal W ≡ refuse Plain None)
unfolding plain_refusal
plain_refused W = then_23 _ _ (unless_23 _) (scan_23 _ (plain_count W) (λ r. unless_23 _))
