-- The boundary stages of a net of nodes, each by the place of the connection that it has.
use Rattle.port_core.specs.View.{input_closed, output_closed}
use Rattle.std.specs.Prelude.{◌≡◌, ◌≤◌, ◌++◌, ℕ, Bool, true, false, if◌then◌else◌, Option, None, Some, List, [], slice_get, ⊤}
use Rattle.elem_core.specs.declared.why.Cause.{Cause}
use Rattle.elem_core.specs.Tree.{Tree}
use Rattle.elem_core.specs.Items.{elements}
use Rattle.stream_model.specs.Outlook.{End}
use Rattle.stage_core.specs.Held.{told}
use Rattle.port_core.specs.Decoding.{can_push}
use Rattle.port_core.specs.declared.act.Act.{Act}
use Rattle.port_core.specs.declared.act.Act.TheVariants as act
use Rattle.port_core.specs.declared.view.OutView.{OutView}
use Rattle.port_core.specs.declared.view.OutView.TheVariants.{Cancelled}
use Rattle.port_core.specs.Cell.{WireState, moved_by, queues_by}
use Rattle.port_core.specs.Marks.{wanted as asks_of}
use Rattle.nodes.specs.declared.node.IslandNode.{IslandNode}
use Rattle.nodes.specs.declared.node.IslandNode.TheVariants as node
use Rattle.nodes.specs.Nodes.{node_gone, node_waits}
use Rattle.fused_net.specs.Net.{Net, put, end_at, wire_at}
use Rattle.fused_net.specs.Poking.{AtNode}
use Rattle.interpreter.specs.declared.wanted.Wanted.{Wanted}
use Rattle.interpreter.specs.declared.wanted.Wanted.TheVariants as wanted

-- the node is one at which a lane comes in
abbrev pub IsEntering : {S D L H B : Type 0} → IslandNode S D L H B → Type 0
IsEntering (node.Entering x) = ⊤
IsEntering _ = ⊥

-- the node is one at which a lane goes out
abbrev pub IsLeaving : {S D L H B : Type 0} → IslandNode S D L H B → Type 0
IsLeaving (node.Leaving x) = ⊤
IsLeaving _ = ⊥

-- cancelled where the stage heard of it, asked where its connection lets it push
abbrev pub wanted_by : OutView → Bool → Wanted
wanted_by Cancelled b = wanted.Cancelled
wanted_by _ b = if b then wanted.Asked else wanted.Quiet

-- what is wanted of the stage at this connection: cancelled where it heard of that, asked where the connection lets it push
abbrev pub wanted_at : WireState → Wanted
wanted_at c = wanted_by c.wire.out (can_push c.wire.conn)

-- the action that ends an output
abbrev pub ends_at : ℕ → Option Cause → Act
ends_at j None = act.Complete j
ends_at j (Some c) = act.FailOut j c

module _ {S D L H B : Type 0} where
  -- a lane comes in at the node that stands at the output of connection q, as it was handed in
  abbrev pub EntersAt : Net (IslandNode S D L H B) → ℕ → Type 0
  EntersAt net q = (x : IslandNode S D L H B) → slice_get net.firsts (end_at net.ends q).from ≡ Some x → IsEntering x

  -- a lane goes out at the node that stands at the input of connection q, as it was handed in
  abbrev pub LeavesAt : Net (IslandNode S D L H B) → ℕ → Type 0
  LeavesAt net q = (x : IslandNode S D L H B) → slice_get net.firsts (end_at net.ends q).to ≡ Some x → IsLeaving x

  -- a stage at an end of the connection at place q did this: the connection has changed alone, and stands in the queue where it has an event
  abbrev pub moved_at : Net (IslandNode S D L H B) → ℕ → Act → Net (IslandNode S D L H B)
  moved_at net q a = put net q (moved_by a (wire_at net q)) (queues_by a (wire_at net q).wire.conn)

  -- the input there is cancelled, where it is open
  abbrev pub cancelled_at : Net (IslandNode S D L H B) → ℕ → Net (IslandNode S D L H B)
  cancelled_at net q = if input_closed (wire_at net q).wire.inp then net else moved_at net q (act.Cancel 0)

  -- the output there ends, where it is open
  abbrev pub ended_at : Net (IslandNode S D L H B) → ℕ → Option Cause → Net (IslandNode S D L H B)
  ended_at net q cause = if output_closed (wire_at net q).wire.out then net else moved_at net q (ends_at 0 cause)

  -- nothing waits to be handed out where the connection at place q leads
  abbrev pub IsClearAt : Net (IslandNode S D L H B) → ℕ → Type 0
  IsClearAt net q = AtNode net (end_at net.ends q).to (λ x. node_waits x ≡ [])

  -- what came there is what was handed out or dropped, and then what waits: a list and its end; no more came than was asked
  pub record ReceivedAt (net : Net (IslandNode S D L H B)) (q : ℕ) : Type 0 where
    pub got : AtNode net (end_at net.ends q).to (λ x. (wire_at net q).wire.got ≡ node_gone x ++ node_waits x)
    pub few : elements (wire_at net q).wire.got ≤ asks_of (wire_at net q)
    pub list : List Tree
    pub end : End
    pub told_is : (wire_at net q).wire.got ≡ told list end
