use Rattle.std.proofs.Common.{rules, arith}
use Rattle.stage_switch.proofs.Keeps.{looks}
use Rattle.stage_switch.proofs.switch.Switch.look.Goals as goal

pub load-requires : goal.load-requires
load-requires c = let part = c.seat.invariant.1 in (search rules, search rules, looks _ _ _ _ (omega arith))
