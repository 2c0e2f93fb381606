-- The numbers that go with lent tables while a tableau grows.
use Rattle.std.specs.Prelude.{ℕ, List, ℤ, get_or}
use Rattle.stab.specs.Lent.{header}
use Rattle.stab.specs.declared.Header.{Header}
use Rattle.growing.specs.declared.Reply.{Reply}
use Rattle.growing.specs.declared.Growth.{Growth}

-- those of an entry, which is lent the two counts of what is held as a table
abbrev pub held_header : ℕ → ℕ → ℤ → ℤ → List ℕ → Header
held_header schema_rows proof_rows root least held = header schema_rows proof_rows root least (get_or held 0 0) (get_or held 1 0)

-- the same formula rows, with n node rows and m members held
abbrev pub holding_in : Header → ℕ → ℕ → Header
holding_in h n m = header h.schema_rows h.proof_rows h.root h.least n m

-- those after a call that gives r
abbrev pub header_after : Header → Reply → Header
header_after h r = holding_in h r.node_rows r.member_count

-- an answer, where h says what is held
abbrev pub reply_of : Header → Growth → Reply
reply_of h answer = record { answer = answer; node_rows = h.node_rows; member_count = h.member_count }
