-- The two ends of a lane are brought together, each among the ends of an island.
use Rattle.std.specs.Prelude.{◌≡◌, ◌≢◌, ◌<◌, ℕ, Some, length, slice_get}
use Rattle.lane_core.specs.declared.lane_out.LaneOut.{LaneOut}
use Rattle.lane_core.specs.declared.lane_in.LaneIn.{LaneIn}
use Rattle.lane_core.specs.declared.room.Waits.{Waits}
use Rattle.lane_core.specs.Ends.{sent, seen_count, saw_cancel, finds, learnt, told_asked, told_cancel, told_sent, has_ended, out_looks, taken_items, asked_in_all, ask_calls, has_cancelled, in_looks, AreOneLane, IsSameOut, IsSameIn, IsLaneHistory, WaitsAre}
use Rattle.lane_core.specs.declared.ends.LaneEnds.{LaneEnds}

-- an output end that a meeting leaves as it is: only what was asked for in all may be learnt
pub record KeepsOut (o p : LaneOut) : Type 0 where
  pub same : IsSameOut o p
  pub sent : sent p ≡ sent o
  pub ended : has_ended p ≡ has_ended o
  pub seen : seen_count p ≡ seen_count o
  pub cancel : saw_cancel p ≡ saw_cancel o
  pub finds : finds p ≡ finds o
  pub looks : out_looks p ≡ out_looks o

-- an input end that a meeting leaves as it is
pub record KeepsIn (i j : LaneIn) : Type 0 where
  pub same : IsSameIn i j
  pub taken : taken_items j ≡ taken_items i
  pub asked : asked_in_all j ≡ asked_in_all i
  pub asks : ask_calls j ≡ ask_calls i
  pub cancel : has_cancelled j ≡ has_cancelled i
  pub looks : in_looks j ≡ in_looks i

-- each end was told what the other did: how many items were sent, how many elements were asked for, and whether the lane was cancelled
pub record AreTold (o : LaneOut) (i : LaneIn) : Type 0 where
  pub asked_is : told_asked o ≡ asked_in_all i
  pub cancel_is : told_cancel o ≡ has_cancelled i
  pub sent_is : told_sent i ≡ length (sent o)

-- the two ends are there, and are of one lane
pub record MayMeet (from : LaneEnds) (out : ℕ) (to : LaneEnds) (inp : ℕ) : Type 0 where
  pub out_there : out < length from.outs.items
  pub inp_there : inp < length to.ins.items
  pub one : (o : LaneOut) (i : LaneIn) → slice_get from.outs.items out ≡ Some o → slice_get to.ins.items inp ≡ Some i → AreOneLane o i

-- These two ends were brought together, and no other end was touched: what waits at each, and what is known of both from then on.
pub record MeetsOne (from : LaneEnds) (out : ℕ) (to : LaneEnds) (inp : ℕ) (from' to' : LaneEnds) (w : Waits) : Type 0 where
  pub outs_count : length from'.outs.items ≡ length from.outs.items
  pub ins_count : length to'.ins.items ≡ length to.ins.items
  pub outs_other : (k : ℕ) → k ≢ out → slice_get from'.outs.items k ≡ slice_get from.outs.items k
  pub ins_other : (k : ℕ) → k ≢ inp → slice_get to'.ins.items k ≡ slice_get to.ins.items k
  pub keeps_out : (o p : LaneOut) → slice_get from.outs.items out ≡ Some o → slice_get from'.outs.items out ≡ Some p → KeepsOut o p
  pub keeps_in : (i j : LaneIn) → slice_get to.ins.items inp ≡ Some i → slice_get to'.ins.items inp ≡ Some j → KeepsIn i j
  pub learnt : (p : LaneOut) (j : LaneIn) → slice_get from'.outs.items out ≡ Some p → slice_get to'.ins.items inp ≡ Some j → learnt p ≡ asked_in_all j
  pub told : (p : LaneOut) (j : LaneIn) → slice_get from'.outs.items out ≡ Some p → slice_get to'.ins.items inp ≡ Some j → AreTold p j
  pub waits : (p : LaneOut) (j : LaneIn) → slice_get from'.outs.items out ≡ Some p → slice_get to'.ins.items inp ≡ Some j → WaitsAre p j w
  pub history : (p : LaneOut) (j : LaneIn) → slice_get from'.outs.items out ≡ Some p → slice_get to'.ins.items inp ≡ Some j → IsLaneHistory p j
