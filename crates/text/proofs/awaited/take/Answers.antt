use mathlib.Core.Path.{sym, ap₂, subst}
use mathlib.Core.List.{List}
use lib.IntN.{ℤ}
use Rattle.text.specs.OneLine.{stand, step, Stepped}
use Rattle.text.specs.declared.awaited.Taken.{Taken}
use Rattle.text.specs.declared.awaited.Awaited.{Awaited}
use Rattle.text.proofs.StepLaws.{stand_same}
use Rattle.text.proofs.awaited.take.Goals as goal

pub returns-in-Row : goal.returns-in-Row
unfolding step
returns-in-Row c =
    let a = c.args in
    let l = c.listed in
    subst (λ (p : Awaited). Stepped a.text.now a.at p a.table.now a.nodes.now a.members.now l.result l.new.table a.nodes.now a.members.now) (sym c.in-Row.is) (ap₂ (λ (x : Taken) (t : List ℤ). stand x t a.nodes.now a.members.now) l.ensures.0 l.ensures.1)

pub returns-in-Pair : goal.returns-in-Pair
unfolding step
returns-in-Pair c =
    let a = c.args in
    let l = c.listed-in-Pair in
    subst (λ (p : Awaited). Stepped a.text.now a.at p a.table.now a.nodes.now a.members.now l.result l.new.table a.nodes.now a.members.now) (sym c.in-Pair.is) (ap₂ (λ (x : Taken) (t : List ℤ). stand x t a.nodes.now a.members.now) l.ensures.0 l.ensures.1)

pub returns-in-Formula : goal.returns-in-Formula
unfolding step
returns-in-Formula c =
    let a = c.args in
    let f = c.formula in
    subst (λ (p : Awaited). Stepped a.text.now a.at p a.table.now a.nodes.now a.members.now f.result f.new.table a.nodes.now a.members.now) (sym c.in-Formula.is) (ap₂ (λ (x : Taken) (t : List ℤ). stand x t a.nodes.now a.members.now) f.ensures.0 f.ensures.1)

pub returns-in-Node : goal.returns-in-Node
unfolding step
returns-in-Node c =
    let a = c.args in
    let f = c.node in
    subst (λ (p : Awaited). Stepped a.text.now a.at p a.table.now a.nodes.now a.members.now f.result a.table.now f.new.nodes f.new.members) (sym c.in-Node.is)
    (stand_same a.table.now f.ensures.0 f.ensures.1 f.ensures.2)
