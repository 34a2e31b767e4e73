use Rattle.std.proofs.Common.{subst}
use Rattle.stage_switch.specs.States.{Valve, SeatBy}
use Rattle.stage_switch.proofs.valve.Valve.is_stuck.Goals as goal

pub returns-clause-well : goal.returns-clause-well
returns-clause-well c = subst (λ (l : Valve). SeatBy l.left l.switch l.seat l.moves) c.self.view_is c.self.invariant
