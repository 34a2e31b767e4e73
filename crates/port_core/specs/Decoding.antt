-- The tests of a connection, the event of one that was queued, and what an event delivers.
use Rattle.std.specs.Prelude.{◌≡◌, Bool, true, false, not, ◌&&◌, IsTrue, Option, None, Some, ◌⊎◌}
use Rattle.elem_core.specs.Tree.{Tree}
use Rattle.elem_core.specs.declared.why.Cause.{Cause}
use Rattle.port_core.specs.Connection.{ConnStep, quiet, pulled, ready, pushed, Connection}
use Rattle.port_core.specs.PortRules.{on_pull, on_push, on_cancel, on_finish, on_fail, IsOpen, after_move, Rule}
use Rattle.port_core.specs.declared.conn.Event.{Event}
use Rattle.port_core.specs.declared.conn.Event.TheVariants.{Push, PushThenClose, Pull, Cancel, Finish, Fail, Nothing}

-- nobody pulled, and nothing waits to be grabbed
abbrev pub is_idle : ConnStep → Option Tree → Bool
is_idle quiet None = true
is_idle quiet (Some e) = false
is_idle pulled g = false
is_idle ready g = false
is_idle (pushed e) g = false

-- the output was pulled, and did not push since
abbrev pub is_ready : ConnStep → Bool
is_ready quiet = false
is_ready pulled = false
is_ready ready = true
is_ready (pushed e) = false

-- a pull or an element is on its way to the other end
abbrev pub is_moving : ConnStep → Bool
is_moving quiet = false
is_moving pulled = true
is_moving ready = false
is_moving (pushed e) = true

-- No side is closed. This stands first in each test, which is then known at a closed side whatever the step is.
abbrev pub is_open : Connection → Bool
is_open p = not p.in_closed && not p.out_closed

-- the input may pull
abbrev pub can_pull : Connection → Bool
can_pull p = is_open p && is_idle p.step p.to_grab

-- the output may push
abbrev pub can_push : Connection → Bool
can_push p = is_open p && is_ready p.step

-- nothing closed and nothing on its way: only then a closing has to be queued
abbrev pub is_at_rest : Connection → Bool
is_at_rest p = is_open p && not (is_moving p.step)

-- a failure where a cause was kept, else a completion
abbrev pub ending_by : Option Cause → Event
ending_by None = Finish
ending_by (Some c) = Fail

-- an element that is on its way comes before the closing
abbrev pub closing_by : ConnStep → Option Cause → Event
closing_by (pushed e) c = PushThenClose
closing_by quiet c = ending_by c
closing_by pulled c = ending_by c
closing_by ready c = ending_by c

-- where no side is closed: an element or a pull that is on its way
abbrev pub moving_by : ConnStep → Event
moving_by (pushed e) = Push
moving_by pulled = Pull
moving_by quiet = Nothing
moving_by ready = Nothing

-- by the closed sides, the input's first and the output's second
abbrev pub event_by : Bool → Bool → ConnStep → Option Cause → Event
event_by false false s c = moving_by s
event_by true false s c = Cancel
event_by false true s c = closing_by s c
event_by true true s c = Nothing

-- The event of a connection. A connection that was queued has one, or both its sides are closed.
abbrev pub event_of : Connection → Event
event_of p = event_by p.in_closed p.out_closed p.step p.cause

-- the connection once the element that is on its way came
abbrev pub arrived_by : Connection → ConnStep → Connection
arrived_by p (pushed e) = after_move (on_push e) p
arrived_by p quiet = p
arrived_by p pulled = p
arrived_by p ready = p

-- the connection once this event was delivered
abbrev pub after : Event → Connection → Connection
after Push p = arrived_by p p.step
after PushThenClose p = arrived_by p p.step
after Pull p = after_move on_pull p
after Cancel p = after_move on_cancel p
after Finish p = after_move on_finish p
after Fail p = record p { in_closed = true }
after Nothing p = p

-- the connection once its event was delivered
abbrev pub delivered : Connection → Connection
delivered p = after (event_of p) p

-- The events in the order in which they are decoded, each with the line of the table that it is.
abbrev pub Decodes : Event → Connection → Connection → Type 0
Decodes Push p q = IsOpen p × ((e : Tree) × Rule (on_push e) p q)
Decodes Pull p q = Rule on_pull p q
Decodes Cancel p q = Rule on_cancel p q
Decodes PushThenClose p q = (p.out_closed ≡ true) × ((e : Tree) × Rule (on_push e) p q)
Decodes Finish p q = Rule on_finish p q
Decodes Fail p q = (c : Cause) × Rule (on_fail c) p q
Decodes Nothing p q = (((p.in_closed ≡ true) × (p.out_closed ≡ true)) ⊎ IsTrue (is_at_rest p)) × (q ≡ p)
