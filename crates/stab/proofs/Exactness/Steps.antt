-- A node's step is passed exactly if it keeps its rule.
-- What the rules ask is first grouped by refusal, 12 to 17, as the tests are; at the end it is regrouped by rule.
use Prim.Native.Nat.{ℕ, ◌≤◌, ◌<◌}
use native.Mathlib.Omega.{arith}
use mathlib.Core.Path.{◌≡◌, refl, sym, ap, subst}
use mathlib.Core.Logic.Iff
use mathlib.Core.Logic.{◌≢◌, ◌⊎◌, inl, inr, ⊎_elim}
use mathlib.Core.Bool.{true, false, false≢true}
use mathlib.Core.List.Memᴰ
use mathlib.Core.List.{List, [], ◌∷◌, Memᴰ}
use mathlib.Core.Option.{Option, none, some, none-ne-some, some-ne-none, some-injective}
use lib.IntN.{ℤ, pos, ◌+ℤ◌, ◌-ℤ◌}
use lib.Signed.{le_z, ◌≤ℤ◌, ◌<ℤ◌}
use Rattle.stab.specs.Basic.{◌or◌, eq_z, nat, below}
use Rattle.stab.specs.Formula.{Row}
use Rattle.stab.specs.Alike.{lower, instance}
use Rattle.stab.specs.Node.{Tableau, Node, Bound, row_count, is_row, row, formula, node, set, is_upper, is_exact, split_at, bound, child_count}
use Rattle.stab.specs.Rule.{unused, rule, of_rule, kind_fits, on_stands, other_fits, link_fits, symbol_fits, fields_fit, target_fits, stays_below, split_fits, unfold_fits, index_at, clash_fits, void_fits, upper_fits, loop_fits, bound_fits, shortened, is_instance, partners_fit, is_lowered, has_lowered, lowered_fits, children_fit, children_as}
use Rattle.stab.specs.Check.{step_refusal, node_refusal}
use Rattle.stab.specs.Keeps.{Below, Alike, KeepsDrawn, KeepsKind, Splits, SameIndex, Loops, KeepsStep}
use Rattle.stab.specs.declared.Refusal.TheVariants.{Drawn, Fields as FieldsWrong, Target, Bound as BoundWrong, Partner, Lowered, Children}
use Rattle.stab.proofs.Whole.{atom, num, ◌⊖◌, of_le, le_of, eq_z_of, eq_z_true, eq_z_not, not_eq_z}
use Rattle.stab.proofs.Bools.{decide}
use Rattle.stab.proofs.Trees.{below_nat, below_pos, below_of}
use Rattle.stab.proofs.Tests.{◌tests◌, ◌&◌, or_tests, ◌⇒◌, if_tests, le_tests, eq_tests, le_z_tests, lt_z_tests, eq_z_tests, below_tests, has_tests, all_tests, ◌clears◌, at_clears, ◌then◌}
use Rattle.stab.proofs.Alikes.{alike_tests}
use Rattle.stab.proofs.Exactness.Nodes.{drawn_tests}

-- ---- fields: 12

kind_tests : (T : Tableau) (need z : ℤ) → kind_fits T need z tests KeepsKind T need z
unfolding kind_fits is_row
kind_tests T need z =
    Iff.trans
    (if_tests (eq_z need unused) (eq_z_tests z unused) (below_tests (row_count T) z & eq_z_tests (row T z).kind need)) (
      λ p. record {
        unused_field = λ e. p.0 (eq_z_of need unused e);
        is_row = λ n. (p.1 (eq_z_not need unused n)).0;
        of_kind = λ n. (p.1 (eq_z_not need unused n)).1;
      },
      λ k. (λ e. k.unused_field (eq_z_true need unused e), λ n. (k.is_row (not_eq_z need unused n), k.of_kind (not_eq_z need unused n))),
    )

on_tests : (T : Tableau) (j : ℕ) → on_stands T j tests ((rule T j).on ≢ unused → Memᴰ (node T j).on (set T j))
unfolding on_stands
on_tests T j =
    Iff.trans
    (or_tests (eq_z_tests (rule T j).on unused) (has_tests (node T j).on (set T j)))
    (λ p n. ⊎_elim (λ e. absurd (n e)) (λ m. m) p, λ f. ⊎_elim (λ e. inl (eq_z_true _ _ e)) (λ e. inr (f (not_eq_z _ _ e))) (decide (eq_z (rule T j).on unused)))

pub rule_tests : (k : ℕ) (w : Node) → of_rule k w tests (w.rule ≡ pos k)
unfolding of_rule
rule_tests k w = eq_z_tests w.rule (pos k)

pub record Fields (T : Tableau) (j : ℕ) : Type 0 where
  known : Below 9 (node T j).rule
  on : KeepsKind T (rule T j).on (node T j).on
  on_stands : (rule T j).on ≢ unused → Memᴰ (node T j).on (set T j)
  with : KeepsKind T (rule T j).with (node T j).with
  other : ((rule T j).other ≡ true → Below (row_count T) (node T j).other) × ((rule T j).other ≡ false → (node T j).other ≡ unused)
  pub link : ((rule T j).link ≡ true → pos 1 ≤ℤ (node T j).by) × ((rule T j).link ≡ false → ((node T j).to ≡ unused) × (((rule T j).split ≡ true → pos 0 ≤ℤ (node T j).by) × ((rule T j).split ≡ false → (node T j).by ≡ pos 0)))
  clash : (node T j).rule ≡ pos 6 → Memᴰ (node T j).with (set T j) × ((row T (node T j).on).a ≡ (row T (node T j).with).a)

pub fields_tests : (T : Tableau) (j : ℕ) → fields_fit T j tests Fields T j
unfolding fields_fit other_fits is_row link_fits symbol_fits
fields_tests T j =
    Iff.trans
    (below_tests 9 (node T j).rule &
    kind_tests T (rule T j).on (node T j).on &
    on_tests T j &
    kind_tests T (rule T j).with (node T j).with &
    if_tests (rule T j).other (below_tests (row_count T) (node T j).other) (eq_z_tests (node T j).other unused) &
    if_tests (rule T j).link (le_z_tests (pos 1) (node T j).by) (eq_z_tests (node T j).to unused & if_tests (rule T j).split (le_z_tests (pos 0) (node T j).by) (eq_z_tests (node T j).by (pos 0))) &
    (rule_tests 6 (node T j) ⇒
    has_tests (node T j).with (set T j) & eq_z_tests (row T (node T j).on).a (row T (node T j).with).a)) (
      λ p. record {
        known = p.0;
        on = p.1.0;
        on_stands = p.1.1.0;
        with = p.1.1.1.0;
        other = p.1.1.1.1.0;
        link = p.1.1.1.1.1.0;
        clash = p.1.1.1.1.1.1;
      },
      λ k. (k.known, (k.on, (k.on_stands, (k.with, (k.other, (k.link, k.clash)))))),
    )

-- ---- the target of a loop: 13

-- z is the number of a node before j
before_tests : (j : ℕ) (z : ℤ) → below j z tests ((i : ℕ) × (z ≡ pos i) × (i < j))
before_tests j z =
    (λ h. (nat z, sym (below_pos j z h), below_nat j z h), λ p. rw p.1 (below_of j p.0 p.2))

pub target_tests : (T : Tableau) (j : ℕ) → target_fits T j tests ((node T j).rule ≡ pos 8 → (i : ℕ) × ((node T j).to ≡ pos i) × (i < j))
unfolding target_fits
target_tests T j = rule_tests 8 (node T j) ⇒ before_tests j (node T j).to

-- ---- bounds and the index of a clash: 14

unfold_tests : (w : Node) → (of_rule 3 w or of_rule 4 w) tests ((w.rule ≡ pos 3) ⊎ (w.rule ≡ pos 4))
unfold_tests w = or_tests (rule_tests 3 w) (rule_tests 4 w)

-- "K lies between L and H - 1, or between L and 9998 at an open node"
stays_tests : (u : Option ℕ) (K : ℕ) → stays_below u K tests ((u ≡ none → K ≤ 9998) × ((H : ℕ) → u ≡ some H → K < H))
unfolding stays_below
stays_tests none K = (
  λ h. (λ e. (le_tests K 9998).0 h, λ H e. absurd (none-ne-some H e)),
  λ p. (le_tests K 9998).1 (p.0 refl),
)
stays_tests (some G) K = (
  λ h. (
    λ e. absurd (some-ne-none G e),
    λ H e. omega (arith, some-injective G H e, of_le (num K) (num G ⊖ num 1) h),
  ),
  λ p. le_of (num K) (num G ⊖ num 1) (omega (arith, p.1 G refl)),
)

split_tests : (B : Bound) (K : ℕ) → split_fits B K tests Splits B K
unfolding split_fits
split_tests B K =
    Iff.trans (le_tests B.L K & stays_tests B.H K)
    (λ p. record { from_l = p.0; at_open = p.1.0; below_h = p.1.1 }, λ k. (k.from_l, (k.at_open, k.below_h)))

upper_tests : (u : Option ℕ) (n : ℕ) → is_upper u n tests (u ≡ some n)
unfolding is_upper
upper_tests none n = (λ h. absurd (false≢true h), λ e. absurd (none-ne-some n e))
upper_tests (some H) n =
    Iff.trans (eq_tests n H) (λ e. ap some (sym e), λ e. sym (some-injective H n e))

pub exact_tests : (B : Bound) → is_exact B tests (B.H ≡ some B.L)
unfolding is_exact
exact_tests B = upper_tests B.H B.L

index_tests : (B : Bound) (v w : Row) → clash_fits (is_exact B) B.L v w tests SameIndex B v w
unfolding clash_fits
index_tests B v w =
    or_tests
    (eq_z_tests v.b w.b & eq_z_tests v.c w.c)
    (exact_tests B & eq_z_tests (index_at B.L v) (index_at B.L w))

-- an upper bound H with H < z
void_tests : (u : Option ℕ) (w : Row) → void_fits u w tests ((H : ℕ) × (u ≡ some H) × (pos H <ℤ (w.b +ℤ w.c)))
unfolding void_fits
void_tests none w = (λ h. absurd (false≢true h), λ p. absurd (none-ne-some p.0 p.1))
void_tests (some H) w =
    Iff.trans (lt_z_tests (pos H) (w.b +ℤ w.c))
    (λ l. (H, refl, l), λ p. subst (λ (n : ℕ). pos n <ℤ (w.b +ℤ w.c)) (sym (some-injective H p.0 p.1)) p.2)

-- "if the target has an upper bound, the leaf has one too and H - k is at or below the target's H"
abbrev pub UpperFits : Option ℕ → Option ℕ → ℤ → Type 0
UpperFits leaf target k = (A : ℕ) → target ≡ some A → (H : ℕ) × (leaf ≡ some H) × ((pos H -ℤ k) ≤ℤ pos A)

upper_fits_tests : (leaf target : Option ℕ) (k : ℤ) → upper_fits leaf target k tests UpperFits leaf target k
unfolding upper_fits
upper_fits_tests leaf none k = (λ h A e. absurd (none-ne-some A e), λ p. refl)
upper_fits_tests none (some A) k =
    (λ h B e. absurd (false≢true h), λ p. let h = p A refl in absurd (none-ne-some h.0 h.1))
upper_fits_tests (some H) (some A) k = (
  λ h B e. (H, refl, (le_z_tests (pos H -ℤ k) (pos B)).0 (subst (λ (n : ℕ). le_z (pos H -ℤ k) (pos n) ≡ true) (some-injective A B e) h)),
  λ p.
      let h = p A refl in
      (le_z_tests (pos H -ℤ k) (pos A)).1
      (subst (λ (n : ℕ). (pos n -ℤ k) ≤ℤ pos A) (sym (some-injective H h.0 h.1)) h.2),
)

-- what a link from a node with bound B to one with bound A asks of them
abbrev pub LoopFits : Bound → Bound → ℤ → Type 0
LoopFits B A k = (pos A.L ≤ℤ (pos B.L -ℤ k)) × UpperFits B.H A.H k

pub loop_tests : (B A : Bound) (k : ℤ) → loop_fits B A k tests LoopFits B A k
unfolding loop_fits
loop_tests B A k = le_z_tests (pos A.L) (pos B.L -ℤ k) & upper_fits_tests B.H A.H k

pub record Bounds (T : Tableau) (j : ℕ) : Type 0 where
  pub split : (node T j).rule ≡ pos 2 → Splits (bound T j) (split_at (bound T j).L (node T j).by)
  pub unfolds : ((node T j).rule ≡ pos 3) ⊎ ((node T j).rule ≡ pos 4) → ((row T (node T j).on).b +ℤ (row T (node T j).on).c) ≤ℤ pos (bound T j).L
  pub clash : (node T j).rule ≡ pos 6 → SameIndex (bound T j) (row T (node T j).on) (row T (node T j).with)
  pub void : (node T j).rule ≡ pos 7 → (H : ℕ) × ((bound T j).H ≡ some H) × (pos H <ℤ ((row T (node T j).on).b +ℤ (row T (node T j).on).c))
  pub loop : (node T j).rule ≡ pos 8 → LoopFits (bound T j) (bound T (nat (node T j).to)) (node T j).by

pub bound_tests : (T : Tableau) (j : ℕ) → bound_fits T j tests Bounds T j
unfolding bound_fits unfold_fits
bound_tests T j =
    Iff.trans
    ((rule_tests 2 (node T j) ⇒ split_tests (bound T j) (split_at (bound T j).L (node T j).by)) &
    (unfold_tests (node T j) ⇒ le_z_tests ((row T (node T j).on).b +ℤ (row T (node T j).on).c) (pos (bound T j).L)) &
    (rule_tests 6 (node T j) ⇒ index_tests (bound T j) (row T (node T j).on) (row T (node T j).with)) &
    (rule_tests 7 (node T j) ⇒ void_tests (bound T j).H (row T (node T j).on)) &
    (rule_tests 8 (node T j) ⇒ loop_tests (bound T j) (bound T (nat (node T j).to)) (node T j).by))
    (λ p. record { split = p.0; unfolds = p.1.0; clash = p.1.1.0; void = p.1.1.1.0; loop = p.1.1.1.1 }, λ k. (k.split, (k.unfolds, (k.clash, (k.void, k.loop)))))

-- ---- with and other of an unfolding: 15

record Partners (T : Tableau) (j : ℕ) : Type 0 where
  same_body : (row T (node T j).with).a ≡ (row T (node T j).on).a
  same_start : (row T (node T j).with).b ≡ (row T (node T j).on).b
  shorter : (row T (node T j).with).c ≡ ((row T (node T j).on).c +ℤ pos 1)
  instance_of : Alike (instance (row T (node T j).on).c (formula T (row T (node T j).on).a)) (formula T (node T j).other)

partners_tests : (T : Tableau) (j : ℕ) → partners_fit T j tests (((node T j).rule ≡ pos 3) ⊎ ((node T j).rule ≡ pos 4) → Partners T j)
unfolding partners_fit shortened is_instance
partners_tests T j =
    unfold_tests (node T j) ⇒
    Iff.trans
    ((eq_z_tests (row T (node T j).with).a (row T (node T j).on).a &
    eq_z_tests (row T (node T j).with).b (row T (node T j).on).b &
    eq_z_tests (row T (node T j).with).c ((row T (node T j).on).c +ℤ pos 1)) &
    alike_tests (instance (row T (node T j).on).c (formula T (row T (node T j).on).a)) (formula T (node T j).other))
    (λ p. record { same_body = p.0.0; same_start = p.0.1.0; shorter = p.0.1.1; instance_of = p.1 }, λ k. ((k.same_body, (k.same_start, k.shorter)), k.instance_of))

-- ---- the lowered rows of a loop: 16

-- row z, lowered by k, stands in the set
abbrev Lowers : Tableau → ℤ → List ℤ → ℤ → Type 0
Lowers T k xs z = (x : ℤ) × Memᴰ x xs × Alike (lower k (formula T z)) (formula T x)

has_lowered_tests : (T : Tableau) (k : ℤ) (xs : List ℤ) (z : ℤ) → has_lowered T k xs z tests Lowers T k xs z
unfolding has_lowered is_lowered
has_lowered_tests T k [] z = (λ h. absurd (false≢true h), λ p. absurd (Memᴰ.not-nil p.1))
has_lowered_tests T k (x ∷ xs) z =
    Iff.trans
    (or_tests (alike_tests (lower k (formula T z)) (formula T x)) (has_lowered_tests T k xs z)) (
      ⊎_elim (λ e. (x, Memᴰ.head refl, e)) (λ p. (p.0, Memᴰ.tail p.1, p.2)),
      λ p.
          ⊎_elim
          (λ e. inl (subst (λ (y : ℤ). Alike (lower k (formula T z)) (formula T y)) e p.2))
          (λ m. inr (p.0, m, p.2))
          (Memᴰ.cases_cons p.1),
    )

lowered_tests : (T : Tableau) (j : ℕ) → lowered_fits T j tests ((node T j).rule ≡ pos 8 → (z : ℤ) → Memᴰ z (set T (nat (node T j).to)) → Lowers T (node T j).by (set T j) z)
unfolding lowered_fits
lowered_tests T j =
    rule_tests 8 (node T j) ⇒ all_tests (set T (nat (node T j).to)) (has_lowered_tests T (node T j).by (set T j))

-- ---- the whole step

-- what the tests of a node say, in their order
record Judged (T : Tableau) (j : ℕ) : Type 0 where
  drawn : KeepsDrawn T j
  fields : Fields T j
  target : (node T j).rule ≡ pos 8 → (i : ℕ) × ((node T j).to ≡ pos i) × (i < j)
  bounds : Bounds T j
  partners : ((node T j).rule ≡ pos 3) ⊎ ((node T j).rule ≡ pos 4) → Partners T j
  lowered : (node T j).rule ≡ pos 8 → (z : ℤ) → Memᴰ z (set T (nat (node T j).to)) → Lowers T (node T j).by (set T j) z
  children : child_count T j ≡ (rule T j).children

judged_clears : (T : Tableau) (j : ℕ) → node_refusal true T j clears Judged T j
unfolding node_refusal step_refusal children_as children_fit
judged_clears T j =
    Iff.trans
    ((at_clears Drawn j (drawn_tests T j) then
    at_clears FieldsWrong j (fields_tests T j) then
    at_clears Target j (target_tests T j) then
    at_clears BoundWrong j (bound_tests T j) then
    at_clears Partner j (partners_tests T j) then
    at_clears Lowered j (lowered_tests T j)) then
    at_clears Children j (eq_tests (child_count T j) (rule T j).children)) (
      λ p. record {
        drawn = p.0.0;
        fields = p.0.1.0;
        target = p.0.1.1.0;
        bounds = p.0.1.1.1.0;
        partners = p.0.1.1.1.1.0;
        lowered = p.0.1.1.1.1.1;
        children = p.1;
      },
      λ k. ((k.drawn, (k.fields, (k.target, (k.bounds, (k.partners, k.lowered))))), k.children),
    )

loops : (T : Tableau) (j : ℕ) → Judged T j → (node T j).rule ≡ pos 8 → (i : ℕ) × Loops T j i
unfolding nat
loops T j k r =
    let i : ℕ = (k.target r).0 in
    let e : nat (node T j).to ≡ i = ap nat (k.target r).1 in (
      i,
      record {
        target = (k.target r).1;
        before = (k.target r).2;
        above = subst (λ (m : ℕ). pos (bound T m).L ≤ℤ (pos (bound T j).L -ℤ (node T j).by)) e (k.bounds.loop r).0;
        below = subst (λ (m : ℕ). UpperFits (bound T j).H (bound T m).H (node T j).by) e (k.bounds.loop r).1;
        lowered = λ z m. k.lowered r z (subst (λ (m : ℕ). Memᴰ z (set T m)) (sym e) m);
      },
    )

-- of a loop "by = k ≥ 1", so that a split's by is not negative whether or not the rule is a loop too
split_used_lem : (T : Tableau) (j : ℕ) → Judged T j → (rule T j).split ≡ true → pos 0 ≤ℤ (node T j).by
split_used_lem T j k e =
    ⊎_elim
    (λ l. (le_z_tests (pos 0) (node T j).by).0 (le_of (num 0) (atom (node T j).by) (omega (arith, of_le (num 1) (atom (node T j).by) ((le_z_tests (pos 1) (node T j).by).1 (k.fields.link.0 l))))))
    (λ l. (k.fields.link.1 l).1.0 e)
    (decide (rule T j).link)

keeps_judged : (T : Tableau) (j : ℕ) → Judged T j → KeepsStep T j
keeps_judged T j k = record {
  known = k.fields.known;
  on = k.fields.on;
  on_stands = k.fields.on_stands;
  with = k.fields.with;
  other_used = k.fields.other.0;
  other_unused = k.fields.other.1;
  link_used = k.fields.link.0;
  link_unused = λ e. (k.fields.link.1 e).0;
  split_used = split_used_lem T j k;
  by_unused = λ e f. (k.fields.link.1 e).1.1 f;
  split = k.bounds.split;
  unfolds = λ r. record {
    nonempty = k.bounds.unfolds r;
    same_body = (k.partners r).same_body;
    same_start = (k.partners r).same_start;
    shorter = (k.partners r).shorter;
    instance_of = (k.partners r).instance_of;
  };
  clash = λ r. record { with_stands = (k.fields.clash r).0; same_symbol = (k.fields.clash r).1; same_index = k.bounds.clash r };
  void = k.bounds.void;
  loop = loops T j k;
  children = k.children;
}

judged_keeps : (T : Tableau) (j : ℕ) → KeepsDrawn T j → KeepsStep T j → Judged T j
unfolding nat
judged_keeps T j d k = record {
  drawn = d;
  fields = record {
    known = k.known;
    on = k.on;
    on_stands = k.on_stands;
    with = k.with;
    other = (k.other_used, k.other_unused);
    link = (k.link_used, λ e. (k.link_unused e, (k.split_used, k.by_unused e)));
    clash = λ r. ((k.clash r).with_stands, (k.clash r).same_symbol);
  };
  target = λ r. ((k.loop r).0, (k.loop r).1.target, (k.loop r).1.before);
  bounds = record {
    split = k.split;
    unfolds = λ r. (k.unfolds r).nonempty;
    clash = λ r. (k.clash r).same_index;
    void = k.void;
    loop = λ r.
        let e : nat (node T j).to ≡ (k.loop r).0 = ap nat (k.loop r).1.target in
        subst (λ (m : ℕ). LoopFits (bound T j) (bound T m) (node T j).by) (sym e) ((k.loop r).1.above, (k.loop r).1.below);
  };
  partners = λ r. record {
    same_body = (k.unfolds r).same_body;
    same_start = (k.unfolds r).same_start;
    shorter = (k.unfolds r).shorter;
    instance_of = (k.unfolds r).instance_of;
  };
  lowered = λ r z m. (k.loop r).1.lowered z (subst (λ (m : ℕ). Memᴰ z (set T m)) (ap nat (k.loop r).1.target) m);
  children = k.children;
}

pub step_clears : (T : Tableau) (j : ℕ) → node_refusal true T j clears (KeepsDrawn T j × KeepsStep T j)
step_clears T j =
    Iff.trans (judged_clears T j) (λ k. (k.drawn, keeps_judged T j k), λ p. judged_keeps T j p.0 p.1)
