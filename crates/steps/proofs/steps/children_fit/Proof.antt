use borrow.Author.Rules.{rules}
use native.Mathlib.Omega.{arith}
use mathlib.Core.Path.{◌≡◌, sym, ◌∙◌, ap, ap₂}
use lib.Dec.{eqb, leb}
use Rattle.stab.specs.Node.{node_at}
use Rattle.stab.proofs.Bools.{if_true, if_false}
use lib.IntN.{pos}
use Rattle.stab.specs.Rule.{rule_of}
use Rattle.stab.specs.declared.Rule.{Rule}
use Rattle.stab.proofs.Trees.{below_nat, below_pos}
use Rattle.steps.proofs.steps.children_fit.Statement.{statement}
use Rattle.steps.proofs.steps.children_fit.Tie as tie

natural_of-requires : tie.Need-natural_of-requires
natural_of-requires c κs = search rules

rule_at-rule-requires : tie.Need-rule_at-rule-requires
rule_at-rule-requires c κs = omega (arith, c.natural_of.ensures.0, below_nat 9 _ c.requires.1)

overflow_mul-j : tie.Need-overflow_mul-j
overflow_mul-j c = search rules

overflow_add-j : tie.Need-overflow_add-j
overflow_add-j c = search rules

kept_at-children-requires : tie.Need-kept_at-children-requires
kept_at-children-requires c κs = search rules

-- the number of children that the rule has
children_are : (c : tie.After-rule_at-rule) → c.rule_at-rule.result.children ≡ (rule_of (node_at c.args.nodes.now c.args.j).rule).children
children_are c =
    ap (λ (x : Rule). x.children) (c.rule_at-rule.ensures ∙ ap rule_of (ap pos c.natural_of.ensures.0 ∙ below_pos 9 _ c.requires.1))

returns-then-whole : tie.Need-returns-then-whole
returns-then-whole c =
    ap₂ eqb c.kept_at-children.ensures.0 (children_are c.before.before.before) ∙ sym (if_true _ _ _ c.if-whole.true)

returns-else-whole : tie.Need-returns-else-whole
returns-else-whole c =
    ap₂ leb c.kept_at-children.ensures.0 (children_are c.before.before.before) ∙ sym (if_false _ _ _ c.if-whole.false)

pub children_fit_spec : {M : Type 1} → statement M
children_fit_spec =
    tie.close
    (tie.spec
    natural_of-requires
    rule_at-rule-requires
    overflow_mul-j
    overflow_add-j
    kept_at-children-requires
    returns-then-whole
    returns-else-whole)
