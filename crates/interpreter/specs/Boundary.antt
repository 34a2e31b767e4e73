-- The boundary stages of an island, each by the number of the wire that its lane is.
use Rattle.std.specs.Prelude.{◌≡◌, ◌≢◌, ℕ, ◌<◌, Some, List, [], length}
use Rattle.elem_core.specs.declared.item.Item.{Item}
use Rattle.port_core.specs.declared.view.InView.TheVariants.{Cancelled}
use Rattle.port_core.specs.Cell.{WireState}
use Rattle.port_core.specs.Marks.{wanted}
use Rattle.nodes.specs.declared.node.IslandNode.{IslandNode}
use Rattle.nodes.specs.Nodes.{node_gone, node_waits}
use Rattle.fused_net.specs.Net.{Net, end_at, wire_at}
use Rattle.fused_net.specs.Poking.{AtNode, HandsAt}
use Rattle.interpreter.specs.BoundaryPlaces.{EntersAt, LeavesAt, cancelled_at}
use Rattle.interpreter.specs.LanePlaces.{listed_place, lane_place_of}
use Rattle.interpreter.specs.Island.{Kept}

module _ {S D L H B : Type 0} where
  -- the place of the connection at which the lane that is wire u comes in
  abbrev pub way_in : Kept S D L H B → ℕ → ℕ
  way_in i u = lane_place_of i.ins u

  -- the place of the connection at which the lane that is wire u goes out
  abbrev pub way_out : Kept S D L H B → ℕ → ℕ
  way_out i u = lane_place_of i.outs u

  -- the connection there at which it comes in
  abbrev pub cell_in : Kept S D L H B → ℕ → WireState
  cell_in i u = wire_at i.net (way_in i u)

  -- the connection there at which it goes out
  abbrev pub cell_out : Kept S D L H B → ℕ → WireState
  cell_out i u = wire_at i.net (way_out i u)

  -- the island has a stage at which the lane that is wire u comes in
  pub record Enters (i : Kept S D L H B) (u : ℕ) : Type 0 where
    pub listed : listed_place i.ins u ≡ Some (way_in i u)
    pub place : way_in i u < length i.net.wires
    pub stage : EntersAt i.net (way_in i u)

  -- the island has a stage at which the lane that is wire u goes out
  pub record Leaves (i : Kept S D L H B) (u : ℕ) : Type 0 where
    pub listed : listed_place i.outs u ≡ Some (way_out i u)
    pub place : way_out i u < length i.net.wires
    pub stage : LeavesAt i.net (way_out i u)

  -- the lane that is wire u comes in at the connection of place q
  abbrev pub EntersBy : Kept S D L H B → ℕ → ℕ → Type 0
  EntersBy i u q = Enters i u × (way_in i u ≡ q)

  -- the lane that is wire u goes out at the connection of place q
  abbrev pub LeavesBy : Kept S D L H B → ℕ → ℕ → Type 0
  LeavesBy i u q = Leaves i u × (way_out i u ≡ q)

  -- where a lane goes out at place q nothing was asked, cancelled or handed out
  pub record BeginsOut (net : Net (IslandNode S D L H B)) (q : ℕ) : Type 0 where
    pub unasked : wanted (wire_at net q) ≡ 0
    pub stays : (wire_at net q).wire.inp ≢ Cancelled
    pub none_gone : AtNode net (end_at net.ends q).to (λ x. node_gone x ≡ [])

  -- the island with another graph
  abbrev pub with_net : Kept S D L H B → Net (IslandNode S D L H B) → Kept S D L H B
  with_net i net = record i { net = net }

  -- these items, which waited where the lane goes out, were handed out
  pub record HandsOut (old : Kept S D L H B) (u : ℕ) (items : List Item) (new : Kept S D L H B) : Type 0 where
    pub hands : HandsAt node_gone node_waits old.net (end_at old.net.ends (way_out old u)).to items new.net
    pub rest : new ≡ with_net old new.net

  -- the input there is cancelled where it is open, and what waited there is dropped
  pub record Drops (old : Kept S D L H B) (u : ℕ) (new : Kept S D L H B) : Type 0 where
    pub drops : AtNode (cancelled_at old.net (way_out old u)) (end_at old.net.ends (way_out old u)).to
        (λ x. HandsAt node_gone node_waits (cancelled_at old.net (way_out old u)) (end_at old.net.ends (way_out old u)).to (node_waits x) new.net)
    pub rest : new ≡ with_net old new.net
