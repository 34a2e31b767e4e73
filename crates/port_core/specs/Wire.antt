-- A wire: a connection, what the two stages at its ends know of it, and the histories of both; and what their actions and a
-- delivery make of it. A pull or a push that only a closing which has not come forbids is dropped at the connection: such a
-- pull changes nothing there, and such a push counts as sent and answers the pull.
use Rattle.std.specs.Prelude.{Bool, true, false, if◌then◌else◌, Option, None, Some, List, [], ◌∷◌, ◌++◌}
use Rattle.elem_core.specs.Tree.{Tree}
use Rattle.elem_core.specs.declared.why.Cause.{Cause}
use Rattle.elem_core.specs.declared.item.Item.{Item}
use Rattle.elem_core.specs.declared.item.Item.TheVariants as item
use Rattle.port_core.specs.Connection.{ConnStep, quiet, pulled, ready, pushed, Connection, unasked}
use Rattle.port_core.specs.PortRules as rule
use Rattle.port_core.specs.PortRules.{after_move}
use Rattle.port_core.specs.Decoding.{can_pull, can_push}
use Rattle.port_core.specs.declared.view.InView.{InView}
use Rattle.port_core.specs.declared.view.InView.TheVariants.{Idle, Pulled, Finished, Cancelled}
use Rattle.port_core.specs.declared.view.OutView.{OutView}
use Rattle.port_core.specs.declared.view.OutView.TheVariants as outlet

-- what its output's stage and its input's stage know of it, its connection, what the output gave and what the input got
pub record JointPorts : Type 0 where
  pub out : OutView
  pub inp : InView
  pub conn : Connection
  pub sent : List Item
  pub got : List Item

-- a wire on which nothing happened
abbrev pub new_wire : JointPorts
new_wire = record { out = outlet.Unpulled; inp = Idle; conn = unasked; sent = []; got = [] }

-- the input pulls
abbrev pub pull_of : JointPorts → JointPorts
pull_of w = record w { inp = Pulled; conn = if can_pull w.conn then after_move rule.pull w.conn else w.conn }

-- the output gives an element
abbrev pub push_of : Tree → JointPorts → JointPorts
push_of e w = record w { out = outlet.Unpulled; conn = if can_push w.conn then after_move (rule.push e) w.conn else w.conn; sent = w.sent ++ item.Elem e ∷ [] }

-- the end of an output, which completes, or fails with a cause
abbrev pub end_item : Option Cause → Item
end_item None = item.Ended
end_item (Some c) = item.Failed c

-- the connection then
abbrev pub closed_by : Option Cause → Connection → Connection
closed_by None p = after_move rule.complete p
closed_by (Some c) p = after_move (rule.fail c) p

-- the output completes, or fails with a cause
abbrev pub close_of : Option Cause → JointPorts → JointPorts
close_of c w = record w { out = outlet.Closed; conn = closed_by c w.conn; sent = w.sent ++ end_item c ∷ [] }

-- the input cancels
abbrev pub cancel_of : JointPorts → JointPorts
cancel_of w = record w { inp = Cancelled; conn = after_move rule.cancel w.conn }

-- what the event of a wire brings: nothing, a pull or a cancel to the output; an item to the input, and whether the wire has
-- to be queued again behind it
pub data Delivery : Type 0 where
  nothing : Delivery
  pull : Delivery
  cancel : Delivery
  arrived : Item → Bool → Delivery

-- where no side is closed: an element or a pull that is on its way
abbrev pub moving_item : ConnStep → Delivery
moving_item quiet = nothing
moving_item pulled = pull
moving_item ready = nothing
moving_item (pushed e) = arrived (item.Elem e) false

-- where the output has closed: an element that is on its way comes first
abbrev pub closing_item : ConnStep → Option Cause → Delivery
closing_item quiet c = arrived (end_item c) false
closing_item pulled c = arrived (end_item c) false
closing_item ready c = arrived (end_item c) false
closing_item (pushed e) c = arrived (item.Elem e) true

-- by the closed sides, the input's first and the output's second
abbrev pub delivery_by : Bool → Bool → ConnStep → Option Cause → Delivery
delivery_by false false s c = moving_item s
delivery_by true false s c = cancel
delivery_by false true s c = closing_item s c
delivery_by true true s c = nothing

-- what the event of the wire brings
abbrev pub delivery_of : JointPorts → Delivery
delivery_of w = delivery_by w.conn.in_closed w.conn.out_closed w.conn.step w.conn.cause

-- the wire once that was delivered, and the element grabbed
abbrev pub after_delivery : Delivery → JointPorts → JointPorts
after_delivery nothing w = w
after_delivery pull w = record w { out = outlet.Available; conn = after_move rule.on_pull w.conn }
after_delivery cancel w = record w { out = outlet.Cancelled; conn = after_move rule.on_cancel w.conn }
after_delivery (arrived (item.Elem e) more) w = record w {
  inp = Idle;
  conn = after_move (rule.grab e) (after_move (rule.on_push e) w.conn);
  got = w.got ++ item.Elem e ∷ [];
}
after_delivery (arrived item.Ended more) w = record w { inp = Finished; conn = after_move rule.on_finish w.conn; got = w.got ++ item.Ended ∷ [] }
after_delivery (arrived (item.Failed c) more) w = record w { inp = Finished; conn = after_move (rule.on_fail c) w.conn; got = w.got ++ item.Failed c ∷ [] }

-- whether the wire has to be queued again
abbrev pub again : Delivery → Bool
again nothing = false
again pull = false
again cancel = false
again (arrived x more) = more
