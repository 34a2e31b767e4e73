-- A wire of an island: the wire itself, and whether its input has pulled and was not answered by an element yet.
use Rattle.std.specs.Prelude.{◌≡◌, Bool, true, false, if◌then◌else◌, None, Some, [], ◌∷◌, ◌++◌}
use Rattle.elem_core.specs.Tree.{Tree}
use Rattle.elem_core.specs.declared.item.Item.TheVariants as item
use Rattle.port_core.specs.Connection.{Connection}
use Rattle.port_core.specs.PortRules as rule
use Rattle.port_core.specs.PortRules.{after_move}
use Rattle.port_core.specs.Decoding.{can_pull, can_push, is_at_rest}
use Rattle.port_core.specs.Wire.{JointPorts, new_wire, pull_of, push_of, close_of, cancel_of, Delivery, nothing, pull, cancel, arrived, end_item, delivery_of, after_delivery}
use Rattle.port_core.specs.declared.conn.Event.{Event}
use Rattle.port_core.specs.declared.conn.Event.TheVariants as event
use Rattle.port_core.specs.declared.view.InView.TheVariants.{Idle}
use Rattle.port_core.specs.declared.act.Act.{Act}
use Rattle.port_core.specs.declared.act.Act.TheVariants.{Pull, Push, Complete, FailOut, Cancel}

-- A pull that a closing forbids, which has not come to the input, is none. A push answers the pull, also one that a cancel
-- forbids which has not come to the output. A closing leaves the pull as it is.
pub record WireState : Type 0 where
  pub wire : JointPorts
  pub asked : Bool

-- nothing happened on it
abbrev pub new_cell : WireState
new_cell = record { wire = new_wire; asked = false }

-- what an action does at its wire
abbrev pub moved_by : Act → WireState → WireState
moved_by (Pull i) c = record { wire = pull_of c.wire; asked = if can_pull c.wire.conn then true else c.asked }
moved_by (Push j e) c = record { wire = push_of e c.wire; asked = false }
moved_by (Complete j) c = record c { wire = close_of None c.wire }
moved_by (FailOut j cause) c = record c { wire = close_of (Some cause) c.wire }
moved_by (Cancel i) c = record c { wire = cancel_of c.wire }

-- whether the wire has to be queued then
abbrev pub queues_by : Act → Connection → Bool
queues_by (Pull i) p = can_pull p
queues_by (Push j e) p = can_push p
queues_by (Complete j) p = is_at_rest p
queues_by (FailOut j cause) p = is_at_rest p
queues_by (Cancel i) p = is_at_rest p

-- an element that waits to be grabbed goes to the input
abbrev pub brought_in : Tree → WireState → WireState
brought_in e c = record c { wire = record c.wire { inp = Idle; conn = after_move (rule.grab e) c.wire.conn; got = c.wire.got ++ item.Elem e ∷ [] } }

-- the wire once its event was delivered
abbrev pub delivered : WireState → WireState
delivered c = record c { wire = after_delivery (delivery_of c.wire) c.wire }

-- Its event is an element, which waits to be grabbed; once that went to the input, the event was delivered. The wire has to be
-- queued again or not.
pub record Brings (more : Bool) (old new : WireState) : Type 0 where
  pub e : Tree
  pub waits : new.wire.conn.to_grab ≡ Some e
  pub is_open : new.wire.conn.in_closed ≡ false
  pub brings : delivery_of old.wire ≡ arrived (item.Elem e) more
  pub after : brought_in e new ≡ delivered old

-- Its event brings this, and was delivered.
pub record Brought (d : Delivery) (old new : WireState) : Type 0 where
  pub brings : delivery_of old.wire ≡ d
  pub after : new ≡ delivered old

-- a wire whose event was this one, which is told but for an element
abbrev pub Tells : Event → WireState → WireState → Type 0
Tells event.Push old new = Brings false old new
Tells event.PushThenClose old new = Brings true old new
Tells event.Pull old new = Brought pull old new
Tells event.Cancel old new = Brought cancel old new
Tells event.Finish old new = Brought (arrived (end_item new.wire.conn.cause) false) old new
Tells event.Fail old new = Brought (arrived (end_item new.wire.conn.cause) false) old new
Tells event.Nothing old new = Brought nothing old new
