use borrow.Author.Rules.{rules}
use native.Mathlib.Omega.{arith}
use Prim.Native.Nat.{ℕ, ◌+◌, ◌≤◌}
use mathlib.Core.Path.{◌≡◌, sym, ◌∙◌, ap}
use mathlib.Core.Bool.{true, not}
use lib.IntN.{pos}
use lib.ListN.{take, drop}
use borrow.Author.Tests.{not-true, not-false}
use Rattle.stab.specs.Node.{node_at, set_of}
use Rattle.branch.specs.Sets.{list_fits, place_fits}
use Rattle.sets.proofs.SetLaws.{place_end, place_within, place_part, wrong_place, wrong_list, right_last, right_inner}
use Rattle.sets.proofs.set_is_right.Statement.{statement}
use Rattle.sets.proofs.set_is_right.Tie as tie

place_fits-requires : tie.Need-place_fits-requires
place_fits-requires c κs = search rules

returns-then-not-place_fits : tie.Need-returns-then-not-place_fits
returns-then-not-place_fits c =
    let a = c.args in
    wrong_place a.facts.now a.n a.nodes.now a.k a.members.now a.m a.j (sym c.place_fits.ensures ∙ not-true c.place_fits.result (ap not c.if-not-place_fits.true))

-- the set's place is right, so its end is known
placed : (c : tie.After-natural_of-len) → place_fits c.args.nodes.now c.args.m c.args.j ≡ true
placed c = sym c.place_fits.ensures ∙ not-false c.place_fits.result (ap not c.if-not-place_fits.false)

within : (c : tie.After-natural_of-len) → c.args.from + c.natural_of-len.result ≤ c.args.m
within c =
    let a = c.args in
    omega (arith, c.natural_of-len.ensures.0, place_within a.nodes.now a.m a.j a.from c.requires.4 (placed c))

-- the list that was judged is the node's set
list : (c : tie.After-list_fits) → list_fits c.args.facts.now c.args.n (set_of c.args.members.now (node_at c.args.nodes.now c.args.j)) ≡ c.list_fits.result
list c =
    let a = c.args in
    ap (list_fits a.facts.now a.n) (place_part a.nodes.now a.m a.j a.from c.requires.4 a.members.now (placed c.before) ∙ ap (λ (n : ℕ). take n (drop a.from a.members.now)) (sym c.natural_of-len.ensures.0))
    ∙ sym c.list_fits.ensures

natural_of-len-requires : tie.Need-natural_of-len-requires
natural_of-len-requires c κs = search rules

list_fits-requires : tie.Need-list_fits-requires
list_fits-requires c κs =
    (c.requires.0, omega (arith, within c, c.requires.1))

returns-then-not-list_fits : tie.Need-returns-then-not-list_fits
returns-then-not-list_fits c =
    let a = c.args in
    wrong_list a.facts.now a.n a.nodes.now a.k a.members.now a.m a.j (list c.before ∙ not-true c.list_fits.result (ap not c.if-not-list_fits.true))

overflow_add-j : tie.Need-overflow_add-j
overflow_add-j c = search rules

overflow_add-result : tie.Need-overflow_add-result
overflow_add-result c = omega (arith, within c.before.before.before)

returns-then-j-k : tie.Need-returns-then-j-k
returns-then-j-k c =
    let a = c.args in
    right_last a.facts.now a.n a.nodes.now a.k a.members.now a.m a.j (placed c.before.before.before)
    (list c.before.before ∙ not-false c.list_fits.result (ap not c.if-not-list_fits.false))
    _
    (place_end a.nodes.now a.m a.j a.from c.requires.4 (placed c.before.before.before) ∙ ap (λ (n : ℕ). pos (a.from + n)) (sym c.natural_of-len.ensures.0))
    c.if-j-k.true

returns : tie.Need-returns
returns c =
    let a = c.args in
    right_inner a.facts.now a.n a.nodes.now a.k a.members.now a.m a.j (placed c.before.before.before)
    (list c.before.before ∙ not-false c.list_fits.result (ap not c.if-not-list_fits.false))
    c.if-j-k.false

pub set_is_right_spec : {M : Type 1} → statement M
set_is_right_spec =
    tie.close
    (tie.spec
    place_fits-requires
    returns-then-not-place_fits
    natural_of-len-requires
    list_fits-requires
    returns-then-not-list_fits
    overflow_add-j
    overflow_add-result
    returns-then-j-k
    returns)
