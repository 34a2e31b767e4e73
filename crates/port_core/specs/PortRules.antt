-- The table of port rules: at which moments a connection allows each call and each delivery, and what it is then.
-- It follows the chapter on custom stream processing of the Akka Streams 2.6 reference. That a pull needs nothing to grab is own.
use Rattle.std.specs.Prelude.{◌≡◌, Bool, true, false, Option, None, Some, ⊤}
use Rattle.elem_core.specs.Tree.{Tree}
use Rattle.elem_core.specs.declared.why.Cause.{Cause}
use Rattle.port_core.specs.Connection.{quiet, pulled, ready, pushed, Connection}

-- what is done at a connection: the calls of its two ends, and the deliveries to them, which have the names of the handlers
pub data Move : Type 0 where
  pull : Move
  on_pull : Move
  push : Tree → Move
  on_push : Tree → Move
  grab : Tree → Move
  complete : Move
  fail : Cause → Move
  cancel : Move
  on_cancel : Move
  on_finish : Move
  on_fail : Cause → Move

-- no side is closed
abbrev pub IsOpen : Connection → Type 0
IsOpen p = (p.in_closed ≡ false) × (p.out_closed ≡ false)

-- the output has closed and the input does not know it, and no element is on its way
abbrev pub IsEnding : Connection → Type 0
IsEnding p = (p.in_closed ≡ false) × ((p.out_closed ≡ true) × ((e : Tree) → p.step ≡ pushed e → ⊥))

-- where it is allowed
abbrev pub Allowed : Move → Connection → Type 0
Allowed pull p = IsOpen p × ((p.step ≡ quiet) × (p.to_grab ≡ None))
Allowed on_pull p = IsOpen p × (p.step ≡ pulled)
Allowed (push e) p = IsOpen p × (p.step ≡ ready)
Allowed (on_push e) p = (p.in_closed ≡ false) × (p.step ≡ pushed e)
Allowed (grab e) p = p.to_grab ≡ Some e
Allowed complete p = ⊤
Allowed (fail c) p = ⊤
Allowed cancel p = ⊤
Allowed on_cancel p = (p.in_closed ≡ true) × (p.out_closed ≡ false)
Allowed on_finish p = IsEnding p × (p.cause ≡ None)
Allowed (on_fail c) p = IsEnding p × (p.cause ≡ Some c)

-- the cause that a failure leaves: its own where no side was closed, else the one that was
abbrev pub cause_after : Cause → Bool → Bool → Option Cause → Option Cause
cause_after c false false was = Some c
cause_after c _ _ was = was

-- what the connection is then
abbrev pub after_move : Move → Connection → Connection
after_move pull p = record p { step = pulled }
after_move on_pull p = record p { step = ready }
after_move (push e) p = record p { step = pushed e }
after_move (on_push e) p = record p { step = quiet; to_grab = Some e }
after_move (grab e) p = record p { to_grab = None }
after_move complete p = record p { out_closed = true }
after_move (fail c) p = record p { out_closed = true; cause = cause_after c p.in_closed p.out_closed p.cause }
after_move cancel p = record p { in_closed = true }
after_move on_cancel p = record p { out_closed = true }
after_move on_finish p = record p { in_closed = true }
after_move (on_fail c) p = record p { in_closed = true }

-- a line of the table: p allows the move, and is q then
-- Choice: docs/DECISIONS.md#table-of-three-columns
abbrev pub Rule : Move → Connection → Connection → Type 0
Rule m p q = Allowed m p × (q ≡ after_move m p)
