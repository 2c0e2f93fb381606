use borrow.Author.Rules.{rules}
use native.Mathlib.Omega.{arith}
use Prim.Native.Nat.{ℕ, ◌+◌, ◌*◌}
use mathlib.Core.Path.{◌≡◌, ◌∙◌, ap, ap₂}
use lib.IntN.{pos}
use lib.ListN.{get_or}
use Rattle.stab.specs.Basic.{nat}
use Rattle.stab.specs.Node.{node_at}
use Rattle.stab.specs.Rule.{upper_fits}
use Rattle.branch.specs.Lent.{upper, bounded, bound_by}
use Rattle.limits.proofs.LimitLaws.{link_low, link_from}
use Rattle.limits.proofs.target_allows.Statement.{statement}
use Rattle.limits.proofs.target_allows.Tie as tie

natural_of-to-requires : tie.Need-natural_of-to-requires
natural_of-to-requires c κs = search rules

natural_of-k-requires : tie.Need-natural_of-k-requires
natural_of-k-requires c κs = search rules

overflow_mul-to : tie.Need-overflow_mul-to
overflow_mul-to c = search rules

overflow_add-to : tie.Need-overflow_add-to
overflow_add-to c = search rules

kept_at-requires : tie.Need-kept_at-requires
kept_at-requires c κs = search rules

-- where the target's L has been read
abbrev Begin : tie.After-kept_at → tie.Start
Begin c = c.before.before.before.before

abbrev To : tie.After-kept_at → ℕ
To c = nat (node_at (Begin c).args.nodes.now (Begin c).args.j).to

abbrev By : tie.After-kept_at → ℕ
By c = nat (node_at (Begin c).args.nodes.now (Begin c).args.j).by

least_read : (c : tie.After-kept_at) → c.kept_at.result ≡ get_or (Begin c).args.work.now (4 * To c + 1) 0
least_read c = c.kept_at.ensures.0 ∙ ap (λ (i : ℕ). get_or (Begin c).args.work.now (4 * i + 1) 0) c.natural_of-to.ensures.0

by_read : (c : tie.After-kept_at) → c.natural_of-k.result ≡ By c
by_read c = c.natural_of-k.ensures.0

overflow_add-kept_at : tie.Need-overflow_add-kept_at
overflow_add-kept_at c = omega (arith, c.kept_at.ensures.1, c.natural_of-k.ensures.1)

returns-then-l-kept_at : tie.Need-returns-then-l-kept_at
returns-then-l-kept_at c =
    let a = (Begin c.before).args in
    link_low (bounded a.h a.l) (bound_by a.work.now (To c.before)) (By c.before) (omega (arith, c.if-l-kept_at.true, least_read c.before, by_read c.before))

overflow_mul-to-2 : tie.Need-overflow_mul-to-2
overflow_mul-to-2 c = search rules

overflow_add-to-2 : tie.Need-overflow_add-to-2
overflow_add-to-2 c = search rules

kept_at-requires-2 : tie.Need-kept_at-requires-2
kept_at-requires-2 c κs = search rules

upper_fits-requires : tie.Need-upper_fits-requires
upper_fits-requires c κs = (c.kept_at-2.ensures.1, c.natural_of-k.ensures.1)

returns : tie.Need-returns
returns c =
    let a = (Begin c.before.before.before).args in
    c.upper_fits.ensures
    ∙ ap₂ (λ (t n : ℕ). upper_fits (upper a.h) (upper t) (pos n)) (c.kept_at-2.ensures.0 ∙ ap (λ (i : ℕ). get_or a.work.now (4 * i + 2) 0) c.natural_of-to.ensures.0) (by_read c.before.before.before)
    ∙ link_from (bounded a.h a.l) (bound_by a.work.now (To c.before.before.before)) (By c.before.before.before) (omega (arith, c.if-l-kept_at.false, least_read c.before.before.before, by_read c.before.before.before))

pub target_allows_spec : {M : Type 1} → statement M
target_allows_spec =
    tie.close
    (tie.spec
    natural_of-to-requires
    natural_of-k-requires
    overflow_mul-to
    overflow_add-to
    kept_at-requires
    overflow_add-kept_at
    returns-then-l-kept_at
    overflow_mul-to-2
    overflow_add-to-2
    kept_at-requires-2
    upper_fits-requires
    returns)
