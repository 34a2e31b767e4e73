use Rattle.std.proofs.Common.{rules, arith}
use Rattle.lane_core.proofs.Steps.{cancels_as}
use Rattle.lane_core.proofs.lane_in.LaneIn.cancel.Goals as goal

pub fetch_or-requires : goal.fetch_or-requires
fetch_or-requires c = let o = c.args.self.now in let n = o.asked_is.0 in let s = o.asked_is.3 in (search rules, search rules, cancels_as o.size _ _ _ _ (search rules) (search rules) o.role.0 o.role.1 (omega (arith, n, s)) c.requires)
