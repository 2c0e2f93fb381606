use Rattle.stab.proofs.Bools.{and_first_false}
use Rattle.stab.specs.Basic.{◌and◌}
use borrow.Author.Tests.{le-leb, lt-leb}
use lib.ListN.{length}
use lib.Dec.{leb}
use mathlib.Core.Bool.{Bool}
use mathlib.Core.Path.{sym, ◌∙◌, ap}
use borrow.Author.Rules.{rules}
use Rattle.join.proofs.full.Statement.{statement}
use Rattle.join.proofs.full.Tie as tie

returns-then-schema-lt4096 : tie.Need-returns-then-schema-lt4096
returns-then-schema-lt4096 c =
    let a = c.args in
    sym (and_first_false _ _ (lt-leb 4096 (length a.schema.now) c.if-schema-lt4096.true))

full-requires : tie.Need-full-requires
full-requires c κs = search rules

returns : tie.Need-returns
unfolding ◌and◌
returns c =
    let a = c.args in
    c.full.ensures
    ∙ sym (ap (λ (x : Bool). x and (leb 4096 (length a.proof.now) and (leb 9216 (length a.nodes.now) and leb 8192 (length a.members.now)))) (le-leb 4096 (length a.schema.now) c.if-schema-lt4096.false))

pub full_spec : {M : Type 1} → statement M
full_spec = tie.close (tie.spec returns-then-schema-lt4096 full-requires returns)
