use Rattle.std.proofs.Common.{rules, ap}
use Rattle.lane_core.proofs.Notes.{opens, parts}
use Rattle.lane_core.proofs.Steps.{sits_as}
use Rattle.lane_core.proofs.lane.lane.Goals as goal

pub vacant-requires : goal.vacant-requires
vacant-requires c = opens c.args.size

pub split_seat-second-requires : goal.split_seat-second-requires
split_seat-second-requires c = let is = c.in_ok-made.ensures.4 in (search rules, search rules, parts _ _ _ (ap (λ m. m.0.sends) is) (ap (λ m. m.0.gets) is))

pub load-requires : goal.load-requires
load-requires c = (search rules, search rules, sits_as c.args.size _ _ _ _ (search rules) (search rules) (search rules))
