use native.Mathlib.Omega.{arith}
use Prim.Native.Nat.{ℕ, ◌-◌, ◌<◌}
use mathlib.Core.Path.{◌≡◌, sym, ◌∙◌}
use borrow.Author.Rules.{rules}
use Rattle.stab.specs.Basic.{nat}
use Rattle.stab.specs.Formula.{Row, formula_rows}
use Rattle.classes.proofs.GoingBack.{Walk, hash_small, walk_start, walk_end, walk_row, walk_found, walk_falls, walk_next}
use Rattle.classes.proofs.chain.class_of.Statement.{statement}
use Rattle.classes.proofs.chain.class_of.Tie as tie

abbrev invariant_loop : tie.invariant-loop-next
invariant_loop schema s proof r kind f h forms sides heads next₀ next = Walk (formula_rows schema s proof) r h next

abbrev decreases_loop : tie.decreases-loop-next
decreases_loop schema s proof r kind f h forms sides heads next₀ next = next

-- in a turn of the loop
abbrev Turn : Type 0
Turn = tie.In-loop-next invariant_loop decreases_loop

abbrev start : Turn → tie.Start invariant_loop decreases_loop
start c = c.before.before.before.before.before.before

abbrev rows : Turn → ℕ → Row
rows c = let a = (start c).args in formula_rows a.schema.now a.s a.proof.now

kind_is : (c : Turn) → (start c).args.kind ≡ nat (rows c (start c).args.r).kind
kind_is c = (start c).requires.0.1

row_below : (c : Turn) → c.loop-next.next - 1 < (start c).args.r
row_below c =
    let b = start c in
    walk_row (rows c) b.args.r b.requires.0.0 b.requires.1.0 b.args.h c.loop-next.next b.requires.1.1.1.1 c.loop-next.invariant c.loop-next-test.true

head_at-next-requires : tie.Need-head_at-next-requires invariant_loop decreases_loop
head_at-next-requires c κs = search rules

loop-next-init : tie.Need-loop-next-init invariant_loop decreases_loop
loop-next-init c =
    walk_start _ c.args.r c.requires.0.0 c.requires.1.0 c.args.h _ (c.head_at-next.ensures ∙ c.requires.1.1.0.latest_of c.args.h (omega (arith, c.requires.1.1.1.1, hash_small (formula_rows c.args.schema.now c.args.s c.args.proof.now) c.args.r)))

overflow_sub-q : tie.Need-overflow_sub-q invariant_loop decreases_loop
overflow_sub-q c = omega arith

has_key-requires : tie.Need-has_key-requires invariant_loop decreases_loop
has_key-requires c κs = let p = (start c).requires.0 in (omega (arith, row_below c, p.0), omega (arith, row_below c, p.3))

overflow_mul-q : tie.Need-overflow_mul-q invariant_loop decreases_loop
overflow_mul-q c = omega (arith, row_below c.before.before, (start c.before.before).requires.0.0)

held_at-requires : tie.Need-held_at-requires invariant_loop decreases_loop
held_at-requires c κs = omega (arith, row_below c.before.before, (start c.before.before).requires.0.2)

returns-then-has_key : tie.Need-returns-then-has_key invariant_loop decreases_loop
returns-then-has_key c =
    let b = start c.before.before.before in
    c.held_at.ensures.0
    ∙ (b.requires.1.1.0.worked _ (row_below c.before.before.before)).class
    ∙ walk_found (rows c.before.before.before) b.args.r b.requires.0.0 b.requires.1.0 b.args.h _ b.requires.1.1.1.1 c.loop-next.invariant c.loop-next-test.true (kind_is c.before.before.before) b.requires.1.1.1.0 (b.requires.1.1.0.listed _ (row_below c.before.before.before))
    (sym c.has_key.ensures ∙ c.if-has_key.true)

overflow_mul-q-in-loop-next : tie.Need-overflow_mul-q-in-loop-next invariant_loop decreases_loop
overflow_mul-q-in-loop-next c = omega (arith, row_below c.before.before, (start c.before.before).requires.0.0)

overflow_add-q : tie.Need-overflow_add-q invariant_loop decreases_loop
overflow_add-q c = omega (arith, row_below c.before.before, (start c.before.before).requires.0.0)

held_at-next-requires : tie.Need-held_at-next-requires invariant_loop decreases_loop
held_at-next-requires c κs = omega (arith, row_below c.before.before, (start c.before.before).requires.0.2)

loop-next-smaller : tie.Need-loop-next-smaller invariant_loop decreases_loop
loop-next-smaller c =
    let b = start c.before.before.before in
    walk_falls (rows c.before.before.before) b.args.r b.requires.0.0 b.requires.1.0 b.args.h _ b.requires.1.1.1.1 c.loop-next.invariant c.loop-next-test.true (kind_is c.before.before.before) b.requires.1.1.1.0 (b.requires.1.1.0.listed _ (row_below c.before.before.before)) c.held_at-next.ensures.0

loop-next-preserved : tie.Need-loop-next-preserved invariant_loop decreases_loop
loop-next-preserved c =
    let b = start c.before.before.before in
    walk_next (rows c.before.before.before) b.args.r b.requires.0.0 b.requires.1.0 b.args.h _ b.requires.1.1.1.1 c.loop-next.invariant c.loop-next-test.true (kind_is c.before.before.before) b.requires.1.1.1.0 (b.requires.1.1.0.listed _ (row_below c.before.before.before))
    (sym c.has_key.ensures ∙ c.if-has_key.false)
    c.held_at-next.ensures.0

returns : tie.Need-returns invariant_loop decreases_loop
returns c =
    walk_end _ c.args.r c.requires.0.0 c.requires.1.0 c.args.h _ c.requires.1.1.1.1 c.loop-next.invariant c.loop-next-test.false

pub class_of_spec : {M : Type 1} → statement M
class_of_spec =
    tie.close
    (tie.spec
    invariant_loop
    decreases_loop
    head_at-next-requires
    loop-next-init
    overflow_sub-q
    has_key-requires
    overflow_mul-q
    held_at-requires
    returns-then-has_key
    overflow_mul-q-in-loop-next
    overflow_add-q
    held_at-next-requires
    loop-next-smaller
    loop-next-preserved
    returns)
