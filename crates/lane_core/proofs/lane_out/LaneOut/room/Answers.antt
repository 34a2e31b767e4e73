use Rattle.std.proofs.Common.{rules}
use Rattle.lane_core.proofs.Steps.{sees_as}
use Rattle.lane_core.proofs.lane_out.LaneOut.room.Goals as goal

pub load-word-requires : goal.load-word-requires
load-word-requires c = let o = c.args.self.now in (search rules, search rules, sees_as o.size _ _ _ _ (search rules) (search rules) o.role.0 o.role.1)
