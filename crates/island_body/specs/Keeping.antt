-- What a body keeps between two turns, how it goes on, and what it leaves where memory was wanting.
use Rattle.std.specs.Prelude.{◌≡◌, ◌≢◌, ℕ, ◌+◌, ◌≤◌, Bool, true, false, List, [], ◌∷◌, slice_get, Some}
use Rattle.stream_io.specs.State.{SourceState, DrainState}
use Rattle.fused_net.specs.Costs.{total_cost}
use Rattle.fused_net.specs.Laws.{Settled, AllKept}
use Rattle.nodes.specs.Nodes.{node_port_state, node_law, node_asking, node_moves, KeepsNode, NoneLate}
use Rattle.lane_core.specs.Ends.{IsSameOut}
use Rattle.lane_core.specs.Boundary.{IsSameEnd}
use Rattle.interpreter.specs.Island.{Kept, IslandKeeps}
use Rattle.interpreter.specs.Boundary.{way_in, way_out}
use Rattle.island_body.specs.declared.output.OutputBoundary.{OutputBoundary}
use Rattle.island_body.specs.declared.input.IslandInput.{IslandInput}
use Rattle.island_body.specs.Ends.{in_wires, out_wires, all_taken, all_finds, AllStand, AllDone, AreApart, IsTable, IslandGoes}
use Rattle.island_body.specs.Moving.{TookNone, FoundNone}
use Rattle.island_body.specs.declared.body.Body.{Body}
use Rattle.stream_model.specs.Linear.{Book}

-- the same lanes, in their order
pub record SameLanes (ins ins' : List IslandInput) (outs outs' : List OutputBoundary) : Type 0 where
  pub ins_wires : in_wires ins' ≡ in_wires ins
  pub outs_wires : out_wires outs' ≡ out_wires outs
  pub ins_same : (k : ℕ) (x y : IslandInput) → slice_get ins k ≡ Some x → slice_get ins' k ≡ Some y → IsSameEnd x.boundary y.boundary
  pub outs_same : (k : ℕ) (o p : OutputBoundary) → slice_get outs k ≡ Some o → slice_get outs' k ≡ Some p → IsSameOut o.lane p.lane

-- there is one
abbrev pub has_some : List ℕ → Bool
has_some [] = false
has_some (w ∷ ws) = true

module _ {S D L H B : Type 0} where
  -- what a body may have cost: what its connections have, the items that it took, and its finds of demand or of a cancel
  abbrev pub cost_of : Body S D L H B → ℕ
  cost_of b = total_cost b.island.net + (all_taken b.ins.items + all_finds b.outs.items)

  -- an event is pending in its island
  abbrev pub is_pending : Body S D L H B → Bool
  is_pending b = has_some b.island.net.queue

  -- no sink in its island has put lines off
  abbrev pub NoneLateIn : Body S D L H B → Type 0
  NoneLateIn b = NoneLate b.island.net.nodes

  -- A body between two moments of a turn: its island is whole, and each end of a lane stands.
  pub record BodyStands (b : Body S D L H B) : Type 0 where
    pub whole : b.island.broken ≡ false
    pub stand : AllStand b.island b.ins.items b.outs.items
    pub apart : AreApart b.island (in_wires b.ins.items) (out_wires b.outs.items)
    pub table : IsTable b.island (in_wires b.ins.items) (out_wires b.outs.items) b.ways.items

  -- A body between two turns: its island keeps its laws, and no end of a lane has anything to do. Each event of its island, each item
  -- that it took and each find of demand or of a cancel took a unit, and each unit was paid. Where no event is pending no sink has put
  -- lines off.
  pub record BodyKeeps (sources : S → SourceState) (drains : D → DrainState) (book : Book) (b : Body S D L H B) : Type 0 where
    pub laws : IslandKeeps sources drains book b.island.net b.island.used
    pub stands : BodyStands b
    pub served : AllDone b.island b.ins.items b.outs.items
    pub charged : b.island.used + (all_taken b.ins.items + all_finds b.outs.items) ≤ b.spent
    pub paid : b.spent ≤ cost_of b
    pub calm : is_pending b ≡ false → NoneLateIn b

  -- An island that has started, and ends of lanes that stand there: each at a stage and at a connection of its own, as at the start. No
  -- item was taken, and neither demand nor a cancel was found.
  pub record BodyBegins (i : Kept S D L H B) (ins : List IslandInput) (outs : List OutputBoundary) : Type 0 where
    pub whole : i.broken ≡ false
    pub unused : i.used ≡ 0
    pub untaken : all_taken ins ≡ 0
    pub unfound : all_finds outs ≡ 0
    pub stand : AllStand i ins outs
    pub apart : AreApart i (in_wires ins) (out_wires outs)
    pub differ : (j k u v : ℕ) → slice_get (in_wires ins) j ≡ Some u → slice_get (out_wires outs) k ≡ Some v → way_in i u ≢ way_out i v

  -- a body goes on
  pub record BodyGoes (old new : Body S D L H B) : Type 0 where
    pub island : IslandGoes old.island new.island
    pub lanes : SameLanes old.ins.items new.ins.items old.outs.items new.outs.items
    pub ways : new.ways ≡ old.ways

  -- a turn found nothing to do: no event in the island, nothing to take, and neither demand nor a cancel
  pub record IsIdle (old new : Body S D L H B) : Type 0 where
    pub queue : old.island.net.queue ≡ []
    pub ins : (k : ℕ) (x y : IslandInput) → slice_get old.ins.items k ≡ Some x → slice_get new.ins.items k ≡ Some y → TookNone x y
    pub outs : (k : ℕ) (o p : OutputBoundary) → slice_get old.outs.items k ≡ Some o → slice_get new.outs.items k ≡ Some p → FoundNone o p

  -- Memory was wanting in a turn. Up to a last moment between two events the body had gone on, and its lanes stood; since then each
  -- node has kept what outlives that. The lanes were met since.
  pub record BodyBreaks (sources : S → SourceState) (drains : D → DrainState) (book : Book) (old new : Body S D L H B) : Type 0 where
    pub last : Kept S D L H B
    pub island : IslandGoes old.island last
    pub laws : Settled node_port_state (node_law sources drains book) node_asking node_moves last.net
    pub stand : AllStand last new.ins.items new.outs.items
    pub kept : AllKept (KeepsNode sources drains) last.net.nodes new.island.net.nodes
    pub lanes : SameLanes old.ins.items new.ins.items old.outs.items new.outs.items
