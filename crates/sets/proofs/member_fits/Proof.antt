use mathlib.Core.Bool.{not}
use borrow.Author.Rules.{rules}
use Prim.Native.Nat.{◌+◌, ◌-◌}
use mathlib.Core.Path.{sym, ◌∙◌, ap₂, ap}
use lib.IntN.{pos}
use lib.ListN.{get_or}
use lib.Signed.{lt_z}
use Rattle.signed.proofs.Signs.{read_back}
use borrow.Author.Tests.{not-true, not-false}
use Rattle.sets.proofs.SetLaws.{member_inner, member_first, member_next}
use Rattle.sets.proofs.member_fits.Statement.{statement}
use Rattle.sets.proofs.member_fits.Tie as tie

overflow_add-at : tie.Need-overflow_add-at
overflow_add-at c = search rules

offset_bounds-members-at : tie.Need-offset_bounds-members-at
offset_bounds-members-at c = search rules

bounds-members-at : tie.Need-bounds-members-at
bounds-members-at c = search rules

is_outer-requires : tie.Need-is_outer-requires
is_outer-requires c κs = search rules

returns-then-not-is_outer : tie.Need-returns-then-not-is_outer
returns-then-not-is_outer c =
    let a = c.args in
    let e = read_back (get_or a.members.now (a.start + a.i) (pos 0)) c.z-1.given in
    member_inner a.facts.now a.n a.members.now a.start a.len c.requires.1 a.i c.requires.2
    (rw e at (sym c.is_outer.ensures ∙ not-true c.is_outer.result (ap not c.if-not-is_outer.true)))

returns-then-i-eq0 : tie.Need-returns-then-i-eq0
returns-then-i-eq0 c =
    let a = c.args in
    let e = read_back (get_or a.members.now (a.start + a.i) (pos 0)) c.z-1.given in
    member_first a.facts.now a.n a.members.now a.start a.len c.requires.1 a.i c.requires.2
    (rw e at (sym c.is_outer.ensures ∙ not-false c.is_outer.result (ap not c.if-not-is_outer.false)))
    c.if-i-eq0.true

overflow_sub-at : tie.Need-overflow_sub-at
overflow_sub-at c = search rules

offset_bounds-members-at-2 : tie.Need-offset_bounds-members-at-2
offset_bounds-members-at-2 c = search rules

bounds-members-at-2 : tie.Need-bounds-members-at-2
bounds-members-at-2 c = search rules

less-requires : tie.Need-less-requires
less-requires c κs = search rules

returns : tie.Need-returns
returns c =
    let a = c.args in
    let e = read_back (get_or a.members.now (a.start + a.i) (pos 0)) c.z-1.given in
    let f = read_back (get_or a.members.now (a.start + a.i - 1) (pos 0)) c.less-arg-1.given in
    c.less.ensures
    ∙ ap₂ lt_z f e
    ∙ member_next a.facts.now a.n a.members.now a.start a.len c.requires.1 a.i c.requires.2
    (rw e at (sym c.is_outer.ensures ∙ not-false c.is_outer.result (ap not c.if-not-is_outer.false)))
    c.if-i-eq0.false

pub member_fits_spec : {M : Type 1} → statement M
member_fits_spec =
    tie.close
    (tie.spec
    overflow_add-at
    offset_bounds-members-at
    bounds-members-at
    is_outer-requires
    returns-then-not-is_outer
    returns-then-i-eq0
    overflow_sub-at
    offset_bounds-members-at-2
    bounds-members-at-2
    less-requires
    returns)
