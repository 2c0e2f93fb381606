use Prim.Native.Nat.{◌+◌}
use native.Mathlib.Omega.{arith}
use mathlib.Core.Path.{◌∙◌, subst}
use lib.ListN.{length}
use Rattle.stab.specs.Text.{text_limit}
use Rattle.text.specs.Rows.{PartOf}
use Rattle.text.proofs.NodeLaws.{all_set, set_ends}
use borrow.Author.Rules.{rules}
use Rattle.text.proofs.nodes.set_at.Statement.{statement}
use Rattle.text.proofs.nodes.set_at.Tie as tie

overflow_add-text : tie.Need-overflow_add-text
unfolding text_limit
overflow_add-text c = search rules

numbers-requires : tie.Need-numbers-requires
unfolding text_limit
numbers-requires c κs = (c.requires.0, omega arith)

enum_told-1 : tie.Need-enum_told-1
enum_told-1 c = search rules

enum_known-to : tie.Need-enum_known-to
enum_known-to c = search rules

enum_told-in-Open : tie.Need-enum_told-in-Open
enum_told-in-Open c = search rules

shape_of-members-in-Bad : tie.Need-shape_of-members-in-Bad
shape_of-members-in-Bad c = search rules

returns-in-Bad : tie.Need-returns-in-Bad
returns-in-Bad c =
    let a = c.args in
    let r = subst (PartOf a.text.now a.at a.members.now a.start (length a.text.now + 1) c.numbers.new.table) c.in-Bad.is c.numbers.ensures.0 in
    (r.0, c.numbers.ensures.1 ∙ all_set a.text.now a.at a.start a.members.now)

shape_of-members-in-Ended : tie.Need-shape_of-members-in-Ended
shape_of-members-in-Ended c = search rules

returns-in-Ended : tie.Need-returns-in-Ended
returns-in-Ended c =
    let a = c.args in
    let r = subst (PartOf a.text.now a.at a.members.now a.start (length a.text.now + 1) c.numbers.new.table) c.in-Ended.is c.numbers.ensures.0 in
    (r.0, c.numbers.ensures.1 ∙ all_set a.text.now a.at a.start a.members.now)

shape_of-members-in-Open : tie.Need-shape_of-members-in-Open
shape_of-members-in-Open c = search rules

returns-in-Open : tie.Need-returns-in-Open
returns-in-Open c =
    let a = c.args in
    absurd (set_ends a.text.now a.at a.members.now a.start c.numbers.new.table c.in-Open.next (subst (PartOf a.text.now a.at a.members.now a.start (length a.text.now + 1) c.numbers.new.table) c.in-Open.is c.numbers.ensures.0))

pub set_at_spec : {M : Type 1} → statement M
set_at_spec =
    tie.close
    (tie.spec
    overflow_add-text
    numbers-requires
    enum_told-1
    enum_known-to
    enum_told-in-Open
    shape_of-members-in-Bad
    returns-in-Bad
    shape_of-members-in-Ended
    returns-in-Ended
    shape_of-members-in-Open
    returns-in-Open)
