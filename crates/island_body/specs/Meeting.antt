-- Bodies whose lanes are brought together.
use Rattle.std.specs.Prelude.{◌≡◌, ℕ, ◌<◌, length, slice_get, Some}
use Rattle.lane_core.specs.declared.room.Waits.{Waits}
use Rattle.lane_core.specs.Ends.{AreOneLane, IsLaneHistory, WaitsAre}
use Rattle.lane_core.specs.Meeting.{KeepsOut, KeepsIn, AreTold}
use Rattle.lane_core.specs.Boundary.{given, waits, is_over, state, keeps_all}
use Rattle.island_body.specs.declared.output.OutputBoundary.{OutputBoundary}
use Rattle.island_body.specs.declared.input.IslandInput.{IslandInput}
use Rattle.island_body.specs.declared.body.Body.{Body}

-- an output end that only met: what it sent and saw is as it was
pub record OutMet (o p : OutputBoundary) : Type 0 where
  pub wire : p.wire ≡ o.wire
  pub lane : KeepsOut o.lane p.lane

-- an input end that only met: what it took, handed on and keeps is as it was
pub record InMet (x y : IslandInput) : Type 0 where
  pub wire : y.wire ≡ x.wire
  pub lane : KeepsIn x.boundary.lane y.boundary.lane
  pub given_is : given y.boundary ≡ given x.boundary
  pub waits_is : waits y.boundary ≡ waits x.boundary
  pub over_is : is_over y.boundary ≡ is_over x.boundary
  pub state_is : state y.boundary ≡ state x.boundary
  pub keep_is : keeps_all y.boundary ≡ keeps_all x.boundary

module _ {S D L H B : Type 0} where
  -- a body that only met
  pub record OnlyMet (old new : Body S D L H B) : Type 0 where
    pub island : new.island ≡ old.island
    pub ways : new.ways ≡ old.ways
    pub spent : new.spent ≡ old.spent
    pub peers : new.peers ≡ old.peers
    pub outs_count : length new.outs.items ≡ length old.outs.items
    pub ins_count : length new.ins.items ≡ length old.ins.items
    pub outs_met : (k : ℕ) (o p : OutputBoundary) → slice_get old.outs.items k ≡ Some o → slice_get new.outs.items k ≡ Some p → OutMet o p
    pub ins_met : (k : ℕ) (x y : IslandInput) → slice_get old.ins.items k ≡ Some x → slice_get new.ins.items k ≡ Some y → InMet x y

  -- the two ends are there, and are of one lane
  pub record BodiesMayMeet (from : Body S D L H B) (out : ℕ) (to : Body S D L H B) (inp : ℕ) : Type 0 where
    pub out_there : out < length from.outs.items
    pub inp_there : inp < length to.ins.items
    pub one : (o : OutputBoundary) (x : IslandInput) → slice_get from.outs.items out ≡ Some o → slice_get to.ins.items inp ≡ Some x
        → AreOneLane o.lane x.boundary.lane

  -- they were brought together: what is known of both lists and numbers, and what waits at each
  pub record BodiesJoined (from : Body S D L H B) (out : ℕ) (to : Body S D L H B) (inp : ℕ) (w : Waits) : Type 0 where
    pub history : (o : OutputBoundary) (x : IslandInput) → slice_get from.outs.items out ≡ Some o → slice_get to.ins.items inp ≡ Some x
        → IsLaneHistory o.lane x.boundary.lane
    pub waits_are : (o : OutputBoundary) (x : IslandInput) → slice_get from.outs.items out ≡ Some o → slice_get to.ins.items inp ≡ Some x
        → WaitsAre o.lane x.boundary.lane w

  -- This meeting did it: each end was told what the other did, and nothing else changed.
  pub record BodiesMeet (from : Body S D L H B) (out : ℕ) (to : Body S D L H B) (inp : ℕ) (from' to' : Body S D L H B) (w : Waits) : Type 0 where
    pub from_met : OnlyMet from from'
    pub to_met : OnlyMet to to'
    pub joined : BodiesJoined from' out to' inp w
    pub told : (o : OutputBoundary) (x : IslandInput) → slice_get from'.outs.items out ≡ Some o → slice_get to'.ins.items inp ≡ Some x
        → AreTold o.lane x.boundary.lane
