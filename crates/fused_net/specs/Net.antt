-- A fused graph as contracts see it, and what each step makes of it. The nodes are of any type.
use Rattle.std.specs.Prelude.{◌≡◌, ℕ, ◌+◌, ◌^◌, ◌<◌, ◌⊎◌, Bool, true, false, if◌then◌else◌, List, [], ◌∷◌, ◌++◌, length, slice_index_or, slice_set}
use Rattle.elem_core.specs.Items.{elements}
use Rattle.elem_core.specs.declared.item.Item.{Item}
use Rattle.port_core.specs.Ring.{is_queued}
use Rattle.port_core.specs.View.{View}
use Rattle.port_core.specs.Call.{Call, starts, pulls, arrives, cancels}
use Rattle.port_core.specs.Wire.{Delivery, nothing, pull, cancel, arrived, delivery_of, after_delivery, again}
use Rattle.port_core.specs.declared.act.Act.{Act}
use Rattle.port_core.specs.declared.act.Act.TheVariants.{Pull, Push, Complete, FailOut, Cancel}
use Rattle.port_core.specs.Cell.{WireState, moved_by, queues_by}
use Rattle.port_core.specs.Reading.{no_wire, inp_of, out_of, got_of, sent_of}
use Rattle.fused_net.specs.PortLists.{PortLists}
use Rattle.fused_net.specs.declared.net.WireEnds.{WireEnds}
use Rattle.fused_net.specs.declared.engine.Delivered.{Delivered}
use Rattle.fused_net.specs.declared.engine.Delivered.TheVariants as brings

-- the nodes, and as they were handed in; the wires; of each wire the ports at its ends, and of each node its wires, which no
-- step changes; and the wires that have an event, first in first out
pub record Net (N : Type 0) : Type 0 where
  pub nodes : List N
  pub firsts : List N
  pub wires : List WireState
  pub ends : List WireEnds
  pub ports : List PortLists
  pub queue : List ℕ

-- the ends that stand where there is no wire
abbrev pub no_ends : WireEnds
no_ends = record { from = 0; output = 0; to = 0; input = 0 }

-- the wires that stand where there is no node: none
abbrev pub no_ports : PortLists
no_ports = record { ins = []; outs = [] }

-- the ends of wire w
abbrev pub end_at : List WireEnds → ℕ → WireEnds
end_at ends w = slice_index_or ends w no_ends

-- the wires of node n
abbrev pub port_at : List PortLists → ℕ → PortLists
port_at ports n = slice_index_or ports n no_ports

-- what f reads off each of these wires
abbrev pub read_all : {X : Type 0} → (WireState → X) → List WireState → List ℕ → List X
read_all f wires [] = []
read_all f wires (w ∷ ws) = f (slice_index_or wires w no_wire) ∷ read_all f wires ws

-- the wire that an action is for
abbrev pub wire_for : Act → PortLists → ℕ
wire_for (Pull i) p = slice_index_or p.ins i 0
wire_for (Push j e) p = slice_index_or p.outs j 0
wire_for (Complete j) p = slice_index_or p.outs j 0
wire_for (FailOut j c) p = slice_index_or p.outs j 0
wire_for (Cancel i) p = slice_index_or p.ins i 0

-- the node has the port that an action is for
abbrev pub HasPort : Act → PortLists → Type 0
HasPort (Pull i) p = i < length p.ins
HasPort (Push j e) p = j < length p.outs
HasPort (Complete j) p = j < length p.outs
HasPort (FailOut j c) p = j < length p.outs
HasPort (Cancel i) p = i < length p.ins

-- the node that a delivery goes to
abbrev pub target : Delivery → WireEnds → ℕ
target nothing e = e.from
target pull e = e.from
target cancel e = e.from
target (arrived x more) e = e.to

-- and the call of its handler
abbrev pub call_of : Delivery → WireEnds → Call
call_of nothing e = starts
call_of pull e = pulls e.output
call_of cancel e = cancels e.output
call_of (arrived x more) e = arrives e.input x

-- what the code says that a delivery brings
abbrev pub IsBrought : Delivered → Delivery → Type 0
IsBrought brings.Cancel d = d ≡ cancel
IsBrought (brings.Arrived x) d = (more : Bool) × (d ≡ arrived x more)

-- the node whose handler is called for what a delivery brings
abbrev pub node_for : Delivered → WireEnds → ℕ
node_for brings.Cancel e = e.from
node_for (brings.Arrived x) e = e.to

-- the call of a handler for what a delivery brings
abbrev pub call_for : Delivered → WireEnds → Call
call_for brings.Cancel e = cancels e.output
call_for (brings.Arrived x) e = arrives e.input x

-- the wire once this was delivered
abbrev pub told_by : Delivery → WireState → WireState
told_by d c = record c { wire = after_delivery d c.wire }

module _ {N : Type 0} where
  -- wire w
  abbrev pub wire_at : Net N → ℕ → WireState
  wire_at net w = slice_index_or net.wires w no_wire

  -- the wires of node n
  abbrev pub ports_at : Net N → ℕ → PortLists
  ports_at net n = port_at net.ports n

  -- what node n knows of its ports
  abbrev pub view_of : Net N → ℕ → View
  view_of net n = record { ins = read_all inp_of net.wires (ports_at net n).ins; outs = read_all out_of net.wires (ports_at net n).outs }

  -- what a node took at each of its inputs
  abbrev pub took : Net N → ℕ → List (List Item)
  took net n = read_all got_of net.wires (ports_at net n).ins

  -- what a node gave at each of its outputs
  abbrev pub gave : Net N → ℕ → List (List Item)
  gave net n = read_all sent_of net.wires (ports_at net n).outs

  -- a wire is set, and queued where it has to be
  abbrev pub put : Net N → ℕ → WireState → Bool → Net N
  put net w c queued = record net { wires = slice_set net.wires w c; queue = if queued then net.queue ++ w ∷ [] else net.queue }

  -- node n acts
  abbrev pub acted : Net N → ℕ → Act → Net N
  acted net n a = let w = wire_for a (ports_at net n) in put net w (moved_by a (wire_at net w)) (queues_by a (wire_at net w).wire.conn)

  -- node n does all these actions
  abbrev pub acted_all : Net N → ℕ → List Act → Net N
  acted_all net n [] = net
  acted_all net n (a ∷ acts) = acted_all (acted net n a) n acts

  -- this is delivered on wire w
  abbrev pub delivered_on : Net N → ℕ → Delivery → Net N
  delivered_on net w d = put net w (told_by d (wire_at net w)) (again d)

  -- the event of wire w is delivered
  abbrev pub event_told : Net N → ℕ → Net N
  event_told net w = delivered_on net w (delivery_of (wire_at net w).wire)

  -- another node stands in the place of node n
  abbrev pub with_node : Net N → ℕ → N → Net N
  with_node net n y = record net { nodes = slice_set net.nodes n y }

  -- what the code of an action needs: its port and its wire are there, the wire has a place in the queue where it wants one,
  -- and one element more can be counted
  pub record Able (net : Net N) (n : ℕ) (a : Act) : Type 0 where
    pub node : n < length net.ports
    pub port : HasPort a (ports_at net n)
    pub wire : wire_for a (ports_at net n) < length net.wires
    pub free : queues_by a (wire_at net (wire_for a (ports_at net n))).wire.conn ≡ true → is_queued net.queue (wire_for a (ports_at net n)) ≡ false
    pub count : elements (wire_at net (wire_for a (ports_at net n))).wire.sent + 1 < 2 ^ 64

  -- wire w was not taken from the queue yet
  abbrev pub before : Net N → ℕ → Net N
  before net w = record net { queue = w ∷ net.queue }

  -- wire w was taken from the queue, where it stood first or last
  pub record Takes (old : Net N) (w : ℕ) (new : Net N) : Type 0 where
    pub is : old ≡ record new { queue = old.queue }
    pub stood : (old.queue ≡ w ∷ new.queue) ⊎ (old.queue ≡ new.queue ++ w ∷ [])
