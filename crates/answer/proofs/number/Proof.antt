use mathlib.Core.Path.{sym, ap}
use Rattle.stab.specs.Answer.{refusal_number}
use borrow.Author.Rules.{rules}
use Rattle.answer.proofs.number.Statement.{statement}
use Rattle.answer.proofs.number.Tie as tie

enum_told-1 : tie.Need-enum_told-1
enum_told-1 c = search rules

enum_told-in-TableTooShort : tie.Need-enum_told-in-TableTooShort
enum_told-in-TableTooShort c = search rules

enum_told-in-Heading : tie.Need-enum_told-in-Heading
enum_told-in-Heading c = search rules

enum_told-in-Line : tie.Need-enum_told-in-Line
enum_told-in-Line c = search rules

enum_told-in-TooMany : tie.Need-enum_told-in-TooMany
enum_told-in-TooMany c = search rules

enum_told-in-Root : tie.Need-enum_told-in-Root
enum_told-in-Root c = search rules

enum_told-in-IllFormed : tie.Need-enum_told-in-IllFormed
enum_told-in-IllFormed c = search rules

enum_told-in-TooLarge : tie.Need-enum_told-in-TooLarge
enum_told-in-TooLarge c = search rules

enum_told-in-Set : tie.Need-enum_told-in-Set
enum_told-in-Set c = search rules

enum_told-in-Parent : tie.Need-enum_told-in-Parent
enum_told-in-Parent c = search rules

enum_told-in-Drawn : tie.Need-enum_told-in-Drawn
enum_told-in-Drawn c = search rules

enum_told-in-Fields : tie.Need-enum_told-in-Fields
enum_told-in-Fields c = search rules

enum_told-in-Target : tie.Need-enum_told-in-Target
enum_told-in-Target c = search rules

enum_told-in-Bound : tie.Need-enum_told-in-Bound
enum_told-in-Bound c = search rules

enum_told-in-Partner : tie.Need-enum_told-in-Partner
enum_told-in-Partner c = search rules

enum_told-in-Lowered : tie.Need-enum_told-in-Lowered
enum_told-in-Lowered c = search rules

enum_told-in-Children : tie.Need-enum_told-in-Children
enum_told-in-Children c = search rules

enum_told-in-Pair : tie.Need-enum_told-in-Pair
enum_told-in-Pair c = search rules

enum_told-in-Width : tie.Need-enum_told-in-Width
enum_told-in-Width c = search rules

enum_told-in-False : tie.Need-enum_told-in-False
enum_told-in-False c = search rules

enum_told-in-Number : tie.Need-enum_told-in-Number
enum_told-in-Number c = search rules

enum_told-in-Output : tie.Need-enum_told-in-Output
enum_told-in-Output c = search rules

enum_told-in-Plain : tie.Need-enum_told-in-Plain
enum_told-in-Plain c = search rules

enum_told-in-Room : tie.Need-enum_told-in-Room
enum_told-in-Room c = search rules

enum_told-in-NoRow : tie.Need-enum_told-in-NoRow
enum_told-in-NoRow c = search rules

enum_told-in-Waiting : tie.Need-enum_told-in-Waiting
enum_told-in-Waiting c = search rules

enum_told-in-Repeated : tie.Need-enum_told-in-Repeated
enum_told-in-Repeated c = search rules

enum_told-in-Leasts : tie.Need-enum_told-in-Leasts
enum_told-in-Leasts c = search rules

enum_told-in-Joint : tie.Need-enum_told-in-Joint
enum_told-in-Joint c = search rules

enum_told-in-Wires : tie.Need-enum_told-in-Wires
enum_told-in-Wires c = search rules

enum_told-in-NotListed : tie.Need-enum_told-in-NotListed
enum_told-in-NotListed c = search rules

returns-in-TextTooLong : tie.Need-returns-in-TextTooLong
returns-in-TextTooLong c = ap refusal_number (sym c.in-TextTooLong.is)

returns-in-TableTooShort : tie.Need-returns-in-TableTooShort
returns-in-TableTooShort c = ap refusal_number (sym c.in-TableTooShort.is)

returns-in-Heading : tie.Need-returns-in-Heading
returns-in-Heading c = ap refusal_number (sym c.in-Heading.is)

returns-in-Line : tie.Need-returns-in-Line
returns-in-Line c = ap refusal_number (sym c.in-Line.is)

returns-in-TooMany : tie.Need-returns-in-TooMany
returns-in-TooMany c = ap refusal_number (sym c.in-TooMany.is)

returns-in-Root : tie.Need-returns-in-Root
returns-in-Root c = ap refusal_number (sym c.in-Root.is)

returns-in-IllFormed : tie.Need-returns-in-IllFormed
returns-in-IllFormed c = ap refusal_number (sym c.in-IllFormed.is)

returns-in-TooLarge : tie.Need-returns-in-TooLarge
returns-in-TooLarge c = ap refusal_number (sym c.in-TooLarge.is)

returns-in-Set : tie.Need-returns-in-Set
returns-in-Set c = ap refusal_number (sym c.in-Set.is)

returns-in-Parent : tie.Need-returns-in-Parent
returns-in-Parent c = ap refusal_number (sym c.in-Parent.is)

returns-in-Drawn : tie.Need-returns-in-Drawn
returns-in-Drawn c = ap refusal_number (sym c.in-Drawn.is)

returns-in-Fields : tie.Need-returns-in-Fields
returns-in-Fields c = ap refusal_number (sym c.in-Fields.is)

returns-in-Target : tie.Need-returns-in-Target
returns-in-Target c = ap refusal_number (sym c.in-Target.is)

returns-in-Bound : tie.Need-returns-in-Bound
returns-in-Bound c = ap refusal_number (sym c.in-Bound.is)

returns-in-Partner : tie.Need-returns-in-Partner
returns-in-Partner c = ap refusal_number (sym c.in-Partner.is)

returns-in-Lowered : tie.Need-returns-in-Lowered
returns-in-Lowered c = ap refusal_number (sym c.in-Lowered.is)

returns-in-Children : tie.Need-returns-in-Children
returns-in-Children c = ap refusal_number (sym c.in-Children.is)

returns-in-Pair : tie.Need-returns-in-Pair
returns-in-Pair c = ap refusal_number (sym c.in-Pair.is)

returns-in-Width : tie.Need-returns-in-Width
returns-in-Width c = ap refusal_number (sym c.in-Width.is)

returns-in-False : tie.Need-returns-in-False
returns-in-False c = ap refusal_number (sym c.in-False.is)

returns-in-Number : tie.Need-returns-in-Number
returns-in-Number c = ap refusal_number (sym c.in-Number.is)

returns-in-Output : tie.Need-returns-in-Output
returns-in-Output c = ap refusal_number (sym c.in-Output.is)

returns-in-Plain : tie.Need-returns-in-Plain
returns-in-Plain c = ap refusal_number (sym c.in-Plain.is)

returns-in-Room : tie.Need-returns-in-Room
returns-in-Room c = ap refusal_number (sym c.in-Room.is)

returns-in-NoRow : tie.Need-returns-in-NoRow
returns-in-NoRow c = ap refusal_number (sym c.in-NoRow.is)

returns-in-Waiting : tie.Need-returns-in-Waiting
returns-in-Waiting c = ap refusal_number (sym c.in-Waiting.is)

returns-in-Repeated : tie.Need-returns-in-Repeated
returns-in-Repeated c = ap refusal_number (sym c.in-Repeated.is)

returns-in-Leasts : tie.Need-returns-in-Leasts
returns-in-Leasts c = ap refusal_number (sym c.in-Leasts.is)

returns-in-Joint : tie.Need-returns-in-Joint
returns-in-Joint c = ap refusal_number (sym c.in-Joint.is)

returns-in-Wires : tie.Need-returns-in-Wires
returns-in-Wires c = ap refusal_number (sym c.in-Wires.is)

returns-in-NotListed : tie.Need-returns-in-NotListed
returns-in-NotListed c = ap refusal_number (sym c.in-NotListed.is)

pub number_spec : {M : Type 1} → statement M
number_spec =
    tie.close
    (tie.spec
    enum_told-1
    enum_told-in-TableTooShort
    enum_told-in-Heading
    enum_told-in-Line
    enum_told-in-TooMany
    enum_told-in-Root
    enum_told-in-IllFormed
    enum_told-in-TooLarge
    enum_told-in-Set
    enum_told-in-Parent
    enum_told-in-Drawn
    enum_told-in-Fields
    enum_told-in-Target
    enum_told-in-Bound
    enum_told-in-Partner
    enum_told-in-Lowered
    enum_told-in-Children
    enum_told-in-Pair
    enum_told-in-Width
    enum_told-in-False
    enum_told-in-Number
    enum_told-in-Output
    enum_told-in-Plain
    enum_told-in-Room
    enum_told-in-NoRow
    enum_told-in-Waiting
    enum_told-in-Repeated
    enum_told-in-Leasts
    enum_told-in-Joint
    enum_told-in-Wires
    enum_told-in-NotListed
    returns-in-TextTooLong
    returns-in-TableTooShort
    returns-in-Heading
    returns-in-Line
    returns-in-TooMany
    returns-in-Root
    returns-in-IllFormed
    returns-in-TooLarge
    returns-in-Set
    returns-in-Parent
    returns-in-Drawn
    returns-in-Fields
    returns-in-Target
    returns-in-Bound
    returns-in-Partner
    returns-in-Lowered
    returns-in-Children
    returns-in-Pair
    returns-in-Width
    returns-in-False
    returns-in-Number
    returns-in-Output
    returns-in-Plain
    returns-in-Room
    returns-in-NoRow
    returns-in-Waiting
    returns-in-Repeated
    returns-in-Leasts
    returns-in-Joint
    returns-in-Wires
    returns-in-NotListed)
