-- What islands cost, over the wires of their blueprint.
use Rattle.std.specs.Prelude.{◌≡◌, ℕ, zero, suc, ◌+◌, ◌<◌, ◌⊎◌, List, [], ◌∷◌, length, slice_get, Option, None, Some}
use Rattle.stream_model.specs.Graph.{Graph, Edge}
use Rattle.fused_net.specs.Costs.{sum_below}
use Rattle.fused_net.specs.Net.{Net, wire_at}
use Rattle.run_laws.specs.Ends.{LaneKeeps}
use Rattle.run_laws.specs.Seats.{Seats}

-- whether the wire of this number is a lane, and of which size
abbrev pub lane_at : List Edge → ℕ → Option ℕ
lane_at [] u = None
lane_at (v ∷ vs) zero = v.lane
lane_at (v ∷ vs) (suc u) = lane_at vs u

-- what a lane alone costs
abbrev pub if_lane : Option ℕ → ℕ → ℕ
if_lane None n = 0
if_lane (Some size) n = n

-- the sum over all lanes
abbrev pub over_lanes : Graph → (ℕ → ℕ) → ℕ
over_lanes g f = sum_below (λ u. if_lane (lane_at g.wires u) (f u)) (length g.wires)

module _ {N : Type 0} (g : Graph) (nets : ℕ → Net N) (s : Seats) where
  -- each connection of each of so many islands is one of a wire's
  pub record Owned (islands : ℕ) : Type 0 where
    pub owner : (b q : ℕ) → b < islands → q < length (nets b).wires
        → (u : ℕ) × ((v : Edge) × ((slice_get g.wires u ≡ Some v) × ((s.near u ≡ record { island = b; at = q }) ⊎ (s.far u ≡ record { island = b; at = q }))))

  -- of each lane, by what is kept of it: so many items were taken off it, and so many looks found new demand or a cancel, in all
  abbrev pub LanesCost : (ℕ → ℕ) → (ℕ → ℕ) → Type 0
  LanesCost asked cost = (u : ℕ) (v : Edge) (size : ℕ) → slice_get g.wires u ≡ Some v → v.lane ≡ Some size
      → (k : LaneKeeps v.keep size (wire_at (nets (s.near u).island) (s.near u).at) (wire_at (nets (s.far u).island) (s.far u).at) (asked u))
      × (cost u ≡ length k.inp.taken + k.out.finds)
