use Rattle.std.proofs.Common.{rules}
use Rattle.lane_core.proofs.Notes.{notes}
use Rattle.lane_core.proofs.lane_in.LaneIn.tell.Goals as goal

pub split_seat-requires : goal.split_seat-requires
split_seat-requires c = (search rules, search rules, notes _ _ _)
