-- What events make of a graph, one and several of them.
use Rattle.std.specs.Prelude.{◌≡◌, ℕ, Bool, List, map}
use Rattle.elem_core.specs.declared.item.Item.{Item}
use Rattle.port_core.specs.View.{View}
use Rattle.fused_net.specs.Net.{Net, before}
use Rattle.fused_net.specs.Laws.{Settled, NetGoesOn}
use Rattle.fused_net.specs.Costs.{Uses}
use Rattle.fused_net.specs.Outside.{StandsStill, Untouched, touched}

module _ {N : Type 0} (port_state : N → View → Type 0) (law : N → N → View → List (List Item) → List (List Item) → Type 0) (asking : N → View → Type 0)
    (moves : N → List ℕ) (gone : N → List Item) (passive : N → Bool) where
  -- N events lead from one graph to the other: the laws hold behind the last, the graph went on by N units, nothing left it, and at
  -- the wires of passive nodes only their peers acted (own).
  pub record EventsLead (old new : Net N) (events : ℕ) : Type 0 where
    pub laws : Settled port_state law asking moves new
    pub on : NetGoesOn old new
    pub uses : Uses old new events
    pub none_gone : map gone new.nodes ≡ map gone old.nodes
    pub still : StandsStill passive old new

  -- The event of wire w, which was taken from the queue, is handled: one event from the graph in which w waited. No passive node
  -- heard of anything, but of that wire if one is said to have heard (own).
  pub record EventHandled (net new : Net N) (w : ℕ) (heard : Bool) : Type 0 where
    pub step : EventsLead (before net w) new 1
    pub untouched : Untouched passive (touched heard w) net new
