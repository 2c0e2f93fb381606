use mathlib.Core.Bool.{not}
use borrow.Author.Rules.{rules}
use native.Mathlib.Omega.{arith}
use mathlib.Core.Path.{sym, ◌∙◌, ap}
use Prim.Native.Nat.{ℕ, ◌+◌, ◌≤◌, ◌^◌}
use borrow.Author.Tests.{not-true, not-false}
use Rattle.stab.specs.Node.{Bound, node_at, split_at}
use Rattle.bounds.proofs.BoundLaws.{child_same, child_first, child_second}
use Rattle.bounds.proofs.child_l.Statement.{statement}
use Rattle.bounds.proofs.child_l.Tie as tie

is_of-requires : tie.Need-is_of-requires
is_of-requires c κs = search rules

returns-then-not-is_of : tie.Need-returns-then-not-is_of
returns-then-not-is_of c =
    let a = c.args in (
      λ B e. ap (λ (C : Bound). C.L) (child_same (node_at a.nodes.now a.u) B a.rank (sym c.is_of.ensures ∙ not-true c.is_of.result (ap not c.if-not-is_of.true))) ∙ e,
      omega (arith, c.requires.1),
    )

returns-then-rank-eq0 : tie.Need-returns-then-rank-eq0
returns-then-rank-eq0 c =
    let a = c.args in (
      λ B e. ap (λ (C : Bound). C.L) (child_first (node_at a.nodes.now a.u) B a.rank (sym c.is_of.ensures ∙ not-false c.is_of.result (ap not c.if-not-is_of.false)) c.if-rank-eq0.true) ∙ e,
      omega (arith, c.requires.1),
    )

at-requires : tie.Need-at-requires
at-requires c κs = search rules

small : (c : tie.After-at) → c.at.result ≤ 2 ^ 31 + c.args.u
small c =
    c.at.ensures.1 (2 ^ 31 + c.args.u) c.requires.1 (omega arith)

overflow_cast-result : tie.Need-overflow_cast-result
overflow_cast-result c = record { fits = omega (arith, small c, c.requires.0) }

overflow_add-result : tie.Need-overflow_add-result
overflow_add-result c = record { fits = omega (arith, small c, c.requires.0) }

returns : tie.Need-returns
returns c =
    let a = c.args in
    let k = c.at in (
      λ B e.
          ap (λ (C : Bound). C.L) (child_second (node_at a.nodes.now a.u) B a.rank (sym c.is_of.ensures ∙ not-false c.is_of.result (ap not c.if-not-is_of.false)) c.if-rank-eq0.false)
          ∙ ap (λ (n : ℕ). split_at n (node_at a.nodes.now a.u).by + 1) e
          ∙ ap (λ (n : ℕ). n + 1) (sym k.ensures.0),
      omega (arith, small c),
    )

pub child_l_spec : {M : Type 1} → statement M
child_l_spec = tie.close (tie.spec is_of-requires returns-then-not-is_of returns-then-rank-eq0 at-requires overflow_cast-result overflow_add-result returns)
