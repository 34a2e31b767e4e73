use Rattle.std.proofs.Common.{rules}
use Rattle.lane_core.proofs.Notes.{joins}
use Rattle.lane_core.proofs.Steps.{compares_as}
use Rattle.lane_core.proofs.lane_out.LaneOut.hear.Goals as goal

pub join_seat-requires : goal.join_seat-requires
join_seat-requires c = (search rules, search rules, c.requires.1, search rules, joins _ _ _ _ _)

pub load-requires : goal.load-requires
load-requires c = (search rules, search rules, compares_as c.args.self.now.size _ _ _ _ (search rules) (search rules))
