use Rattle.std.proofs.Common.{rules}
use Rattle.lane_core.proofs.Steps.{asks_as}
use Rattle.lane_core.proofs.lane_in.LaneIn.ask.Goals as goal

pub fetch_add-requires : goal.fetch_add-requires
fetch_add-requires c = let o = c.args.self.now in (search rules, search rules, asks_as o.size _ _ _ c.args.n _ (search rules) (search rules) (o.role.0, o.role.1, o.hand) c.requires.1 c.requires.2 c.requires.3)
