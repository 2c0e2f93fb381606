-- The reader's text is the text that was passed, and after each line all the lines come to what they came to at first.
use Prim.Native.Nat.{ℕ}
use mathlib.Core.Path.{◌≡◌, sym, ◌∙◌, ap, subst}
use mathlib.Core.List.{List}
use lib.IntN.{ℤ}
use denote.Bor.{Bor}
use Rattle.text.specs.Awaiting.{Ready}
use Rattle.text.specs.OneLine.{Stepped}
use Rattle.text.specs.declared.awaited.Awaited.{Awaited}
use Rattle.text.specs.declared.awaited.Taken.{Taken}
use Rattle.text.proofs.TakenLaws.{Moved}
use Rattle.text.proofs.Reached.{Reached, reached_start, reached_next, reached_done}
use Rattle.text.proofs.StepLaws.{stepped_moved}
use Rattle.text.proofs.reader.read_lines.Goals as goal

-- a line of the reader's text was read
moved : (s text : List ℕ) (at : ℕ) (p : Awaited) (t u m : List ℤ) (r : Taken) (t' u' m' : List ℤ) → s ≡ text → Ready text at p t u m → Stepped s at p t u m r t' u' m' → Moved text at p t u m r.next r.got t' u' m'
moved s text at p t u m r t' u' m' e ready stepped =
    stepped_moved text at t u m p r t' u' m' ready (subst (λ (x : List ℕ). Stepped x at p t u m r t' u' m') e stepped)

pub loop-r-init : goal.loop-r-init
loop-r-init c =
    let a = c.args in
    record {
      same_text = ap (λ (s : Bor (List ℕ)). s.now) c.open-r.ensures.0;
      reached = subst (λ (i : ℕ). Reached a.text.now a.start a.table.now a.nodes.now a.members.now i a.start a.table.now a.nodes.now a.members.now) (sym c.open-r.ensures.1)
          (reached_start a.text.now a.start a.table.now a.nodes.now a.members.now c.requires);
    }

pub next_line-p-requires : goal.next_line-p-requires
next_line-p-requires c =
    let l = c.loop-r in
    subst (λ (s : List ℕ). Ready s l.r.at l.p l.table l.nodes l.members) (sym l.invariant.same_text) l.invariant.reached.ready

pub loop-r-smaller : goal.loop-r-smaller
loop-r-smaller c =
    let l = c.loop-r in
    let n = c.next_line-p in
    let x = moved l.r.text.now c.args.text.now l.r.at l.p l.table l.nodes l.members (record { next = n.new.self.at; got = n.result }) n.new.table n.new.nodes n.new.members l.invariant.same_text l.invariant.reached.ready n.ensures.1 in
    x.less (sym c.goes_on.ensures ∙ c.loop-r-test.true)

pub loop-r-preserved : goal.loop-r-preserved
loop-r-preserved c =
    let a = c.args in
    let l = c.loop-r in
    let n = c.next_line-p in
    let x = moved l.r.text.now c.args.text.now l.r.at l.p l.table l.nodes l.members (record { next = n.new.self.at; got = n.result }) n.new.table n.new.nodes n.new.members l.invariant.same_text l.invariant.reached.ready n.ensures.1 in
    record {
      same_text = ap (λ (s : Bor (List ℕ)). s.now) n.ensures.0 ∙ l.invariant.same_text;
      reached = reached_next a.text.now a.start a.table.now a.nodes.now a.members.now l.r.at l.p l.table l.nodes l.members l.invariant.reached n.new.self.at n.result n.new.table n.new.nodes n.new.members x;
    }

pub returns : goal.returns
returns c =
    let a = c.args in
    let l = c.loop-r in
    reached_done a.text.now a.start a.table.now a.nodes.now a.members.now l.r.at l.p l.table l.nodes l.members l.invariant.reached (sym c.goes_on.ensures ∙ c.loop-r-test.false)
