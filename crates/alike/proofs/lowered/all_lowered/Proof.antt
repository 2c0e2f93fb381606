use borrow.Author.Rules.{rules}
use Prim.Native.Nat.{ℕ, ◌+◌, ◌-◌, ◌<◌, ◌≤◌}
use native.Mathlib.Omega.{arith}
use mathlib.Core.Path.{◌≡◌, refl, sym, ◌∙◌, ap, subst}
use mathlib.Core.Bool.{true, false, true≢false}
use mathlib.Core.List.{List}
use lib.IntN.{ℤ, pos}
use lib.ListN.{get_or, length, take, drop}
use mir.Syntax.{w32}
use mir.Val.{to_z, of_z}
use mir.Facts.{to_z-of_z}
use Rattle.stab.specs.Basic.{nat, below}
use Rattle.stab.specs.Formula.{formula_rows, tree, loose}
use Rattle.stab.specs.Alike.{alike}
use Rattle.stab.specs.Node.{Tableau, node, node_at, set, set_of, rows, formula}
use Rattle.stab.specs.Rule.{has_lowered}
use Rattle.stab.proofs.Trees.{below_nat, below_pos}
use Rattle.classes.proofs.Twins.{twins_alike}
use Rattle.classes.specs.Agreed.{Remembers}
use Rattle.stab.specs.Lent.{lent}
use Rattle.branch.proofs.HeldLaws.{part_set, set_length, member_nat}
use Rattle.sets.proofs.SetLaws.{all_at, at_all, fails}
use Rattle.alike.proofs.LoweredLaws.{all_past, OneForm, twins_lowered}
use Rattle.alike.proofs.lowered.all_lowered.Statement.{statement}
use Rattle.alike.proofs.lowered.all_lowered.Tie as tie

abbrev invariant_loop : tie.invariant-loop-i
invariant_loop schema proof nodes members forms h j to k agreed₀ size width start from₀ i₀ agreed from i =
    (i ≤ nat (node_at nodes to).size)
    × ((a : ℕ) → a < i → has_lowered (lent schema proof nodes members h) (to_z w32 k) (set_of members (node_at nodes j)) (get_or (set_of members (node_at nodes to)) a (pos 0)) ≡ true)
    × (from ≤ nat (node_at nodes j).size)
    × Remembers (formula_rows schema h.schema_rows proof) agreed
    × (length agreed ≡ length agreed₀)

abbrev decreases_loop : tie.decreases-loop-i
decreases_loop schema proof nodes members forms h j to k agreed₀ size width start from₀ i₀ agreed from i = size - i

natural_of-size-requires : tie.Need-natural_of-size-requires invariant_loop decreases_loop
natural_of-size-requires c κs = omega arith

natural_of-width-requires : tie.Need-natural_of-width-requires invariant_loop decreases_loop
natural_of-width-requires c κs = omega arith

natural_of-start-requires : tie.Need-natural_of-start-requires invariant_loop decreases_loop
natural_of-start-requires c κs = omega arith

loop-i-init : tie.Need-loop-i-init invariant_loop decreases_loop
loop-i-init c = (omega arith, λ a p. absurd (omega arith), omega arith, c.requires.1.1.1.1.0, refl)

overflow_add-start : tie.Need-overflow_add-start invariant_loop decreases_loop
overflow_add-start c = omega (arith, c.natural_of-start.ensures.1, c.natural_of-size.ensures.1)

natural_at-z-requires : tie.Need-natural_at-z-requires invariant_loop decreases_loop
natural_at-z-requires c κs = search rules

-- ---- the target's set

abbrev Start : Type 0
Start = tie.Start invariant_loop decreases_loop

abbrev Lent : Start → Tableau
Lent s = lent s.args.schema.now s.args.proof.now s.args.nodes.now s.args.members.now s.args.h

abbrev Size : Start → ℕ
Size s = nat (node_at s.args.nodes.now s.args.to).size

abbrev Member : Start → ℕ → ℤ
Member s a = get_or (set_of s.args.members.now (node_at s.args.nodes.now s.args.to)) a (pos 0)

module _ (s : Start) (a : ℕ) (l : a < Size s) where
  named : below (s.args.h.schema_rows + s.args.h.proof_rows) (Member s a) ≡ true
  named = s.requires.1.1.1.0.named a l

  small : nat (Member s a) < s.args.h.schema_rows + s.args.h.proof_rows
  small = below_nat _ _ named

  outer : loose (tree (rows (Lent s)) (nat (Member s a))) ≡ false
  unfolding rows
  outer = s.requires.1.1.1.0.outer a l

long : (s : Start) → length (set_of s.args.members.now (node_at s.args.nodes.now s.args.to)) ≡ Size s
long s = set_length s.args.nodes.now s.args.members.now s.args.to s.requires.1.1.1.0.held

-- ---- at the head of the loop

abbrev Head : Type 0
Head = tie.At-loop-i invariant_loop decreases_loop

abbrev begin : Head → Start
begin h = h.before.before.before.before.before.before

-- what is lent on is the set
part : (h : Head) → let a = h.natural_of-start.result in take (a + h.natural_of-size.result - a) (drop a (begin h).args.members.now) ≡ set_of (begin h).args.members.now (node_at (begin h).args.nodes.now (begin h).args.to)
part h = part_set (begin h).args.members.now (node_at (begin h).args.nodes.now (begin h).args.to) _ _ h.natural_of-start.ensures.0 h.natural_of-size.ensures.0

wide : (h : Head) → h.natural_of-width.result ≡ nat (node_at (begin h).args.nodes.now (begin h).args.j).size
wide h = h.natural_of-width.ensures.0

-- ---- where a row is read

abbrev Read : Type 0
Read = tie.After-natural_at-z invariant_loop decreases_loop

abbrev head : Read → Head
head c = c.before.before

inside : (c : Read) → (head c).loop-i.i < Size (begin (head c))
inside c = omega (arith, (head c).natural_of-size.ensures.0)

read : (c : Read) → c.natural_at-z.result ≡ nat (Member (begin (head c)) (head c).loop-i.i)
read c =
    let h = head c in
    let s = begin h in
    member_nat s.args.nodes.now s.args.members.now s.args.to s.requires.1.1.1.0.held _ (inside c) _ _ c.natural_at-z.ensures.0 h.natural_of-start.ensures.0

partner-found-requires : tie.Need-partner-found-requires invariant_loop decreases_loop
unfolding rows
partner-found-requires a κs =
    let s = begin (head a.before) in
    let l = (head a.before).loop-i in
    ((s.requires.0.0, omega (arith, read a.before, small s _ (inside a.before)), l.invariant.2), (s.requires.1.0, (ap (λ (m : ℕ). loose (tree (rows (Lent s)) m)) (read a.before) ∙ outer s _ (inside a.before), (s.requires.1.1.0, (l.invariant.3, omega (arith, l.invariant.4, s.requires.1.1.1.1.1))))))

is : (c : Read) → Member (begin (head c)) (head c).loop-i.i ≡ pos c.natural_at-z.result
is c = sym (below_pos _ _ (named (begin (head c)) _ (inside c))) ∙ ap pos (sym (read c))

-- what is lent is as long as it was
as_long : (c : tie.After-partner-found invariant_loop decreases_loop) → length c.partner-found.new.agreed ≡ length (begin (head c.before.before)).args.agreed.now
as_long c = c.partner-found.auto.agreed ∙ (head c.before.before).loop-i.invariant.4

shape_of-agreed-then-width-found : tie.Need-shape_of-agreed-then-width-found invariant_loop decreases_loop
shape_of-agreed-then-width-found c = as_long c.before.before.before

returns-then-width-found : tie.Need-returns-then-width-found invariant_loop decreases_loop
unfolding set node
returns-then-width-found c =
    let h = head c.before.before.before.before.before in
    let s = begin h in (
      sym (fails _ (λ t. true≢false (sym (at_all _ (pos 0) _ t h.loop-i.i (omega (arith, inside c.before.before.before.before.before, long s))) ∙ ap (has_lowered _ _ _) (is c.before.before.before.before.before) ∙ sym (rw (to_z-of_z s.ranges.k) at (c.partner-found.ensures.1.0 (omega (arith, wide h, c.if-width-found.true))))))),
      c.partner-found.ensures.1.1,
    )

overflow_add-from : tie.Need-overflow_add-from invariant_loop decreases_loop
overflow_add-from c = omega arith

overflow_add-start-in-loop-i : tie.Need-overflow_add-start-in-loop-i invariant_loop decreases_loop
overflow_add-start-in-loop-i c = search rules

offset_bounds-members-start : tie.Need-offset_bounds-members-start invariant_loop decreases_loop
offset_bounds-members-start c = search rules

slice_bounds-past-count : tie.Need-slice_bounds-past-count invariant_loop decreases_loop
slice_bounds-past-count c = search rules

slice_bounds-past-start : tie.Need-slice_bounds-past-start invariant_loop decreases_loop
slice_bounds-past-start c = search rules

slice_bounds-past-end : tie.Need-slice_bounds-past-end invariant_loop decreases_loop
slice_bounds-past-end c =
    let h = head c.before.before.before.before.before in
    omega (arith, h.natural_of-start.ensures.0, h.natural_of-size.ensures.0, (begin h).requires.1.1.1.0.held.within)

past-i-requires : tie.Need-past-i-requires invariant_loop decreases_loop
past-i-requires c κs =
    omega (arith, inside c.before.before.before.before.before.before, long (begin (head c.before.before.before.before.before.before)), ap length (part (head c.before.before.before.before.before.before)))

-- ---- past the rows of one form

abbrev Past : Type 0
Past = tie.After-past-i invariant_loop decreases_loop

abbrev from_read : Past → Read
from_read c = c.before.before.before.before.before.before.before

within : (c : Past) → c.past-i.result ≤ Size (begin (head (from_read c)))
within c = let h = head (from_read c) in omega (arith, c.past-i.ensures.0.1, long (begin h), ap length (part h))

loop-i-smaller : tie.Need-loop-i-smaller invariant_loop decreases_loop
loop-i-smaller c =
    let r = from_read c in
    omega (arith, c.past-i.ensures.0.0, inside r, (head r).natural_of-size.ensures.0)

-- its partner is one of each row with its form
found : (c : Past) → let r = from_read c in let s = begin (head r) in has_lowered (Lent s) (to_z w32 (of_z w32 s.args.k)) (set_of s.args.members.now (node_at s.args.nodes.now s.args.j)) (Member s (head r).loop-i.i) ≡ true
unfolding set node
found c =
    let r = from_read c in
    ap (has_lowered _ _ _) (is r) ∙ sym (c.partner-found.ensures.0 (omega (arith, wide (head r), c.if-width-found.false)))

module _ (c : Past) (a : ℕ) (l : a < c.past-i.result) (p : (head (from_read c)).loop-i.i < a) where
  abbrev own : Start
  own = begin (head (from_read c))

  abbrev here : ℕ
  here = (head (from_read c)).loop-i.i

  one_form : OneForm own.args.forms.now (nat (Member own here)) (nat (Member own a))
  one_form =
      subst (λ (xs : List ℤ). OneForm own.args.forms.now (nat (get_or xs here (pos 0))) (nat (get_or xs a (pos 0)))) (part (head (from_read c))) (c.past-i.ensures.1 a l p)

  twins : alike (formula (Lent own) (Member own here)) (formula (Lent own) (Member own a)) ≡ true
  unfolding formula rows
  twins =
      let q = inside (from_read c) in
      let q' : a < Size own = omega (arith, within c) in
      twins_alike (rows (Lent own)) own.args.forms.now _ own.requires.1.0 _ _ (small own _ q) (small own _ q') (outer own _ q) (outer own _ q') one_form.0 one_form.1

  later : has_lowered (Lent own) (to_z w32 (of_z w32 own.args.k)) (set_of own.args.members.now (node_at own.args.nodes.now own.args.j)) (Member own a) ≡ true
  later = sym (twins_lowered (Lent own) _ _ _ twins _) ∙ found c

loop-i-preserved : tie.Need-loop-i-preserved invariant_loop decreases_loop
loop-i-preserved c =
    let h = head (from_read c) in
    (within c, all_past _ _ h.loop-i.invariant.1 (found c) (later c), omega (arith, wide h, c.if-width-found.false), c.partner-found.ensures.1.1, as_long c.before.before.before.before.before)

shape_of-agreed : tie.Need-shape_of-agreed invariant_loop decreases_loop
shape_of-agreed c = c.loop-i.invariant.4

returns : tie.Need-returns invariant_loop decreases_loop
unfolding set node
returns c =
    let s = begin c.before in
    (sym (all_at _ (pos 0) _ (λ i q. rw (to_z-of_z s.ranges.k) at (c.loop-i.invariant.1 i (omega (arith, c.natural_of-size.ensures.0, long s))))), c.loop-i.invariant.3)

pub all_lowered_spec : {M : Type 1} → statement M
all_lowered_spec =
    tie.close
    (tie.spec
    invariant_loop
    decreases_loop
    natural_of-size-requires
    natural_of-width-requires
    natural_of-start-requires
    loop-i-init
    overflow_add-start
    natural_at-z-requires
    partner-found-requires
    shape_of-agreed-then-width-found
    returns-then-width-found
    overflow_add-from
    overflow_add-start-in-loop-i
    offset_bounds-members-start
    slice_bounds-past-count
    slice_bounds-past-start
    slice_bounds-past-end
    past-i-requires
    loop-i-smaller
    loop-i-preserved
    shape_of-agreed
    returns)
