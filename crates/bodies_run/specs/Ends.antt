-- The ends of a lane as they stand, as what a run tells of them.
use Rattle.lane_core.specs.declared.lane_out.LaneOut.{LaneOut}
use Rattle.lane_core.specs.declared.lane_in.LaneIn.{LaneIn}
use Rattle.lane_core.specs.Ends as lane
use Rattle.run_laws.specs.Ends.{OutEnd, InEnd}

-- the output end of a lane, as an account tells of it
abbrev pub out_end : LaneOut → OutEnd
out_end o = record { sent = lane.sent o; seen = lane.seen_count o; refused = lane.saw_cancel o; finds = lane.finds o }

-- the input end of a lane, as an account tells of it
abbrev pub in_end : LaneIn → InEnd
in_end i = record { taken = lane.taken_items i; asked = lane.asked_in_all i; calls = lane.ask_calls i; cancelled = lane.has_cancelled i }
