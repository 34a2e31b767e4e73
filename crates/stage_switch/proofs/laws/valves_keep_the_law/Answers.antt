use Rattle.stage_switch.proofs.ValveTurns.{valve_new, valve_call, valve_stands, valve_counts, valve_residual, valve_rest}
use Rattle.stage_switch.proofs.laws.valves_keep_the_law.Goals as goal

pub returns-clause-new : goal.returns-clause-new
returns-clause-new c = valve_new

pub returns-clause-call : goal.returns-clause-call
returns-clause-call c = valve_call

pub returns-clause-stands : goal.returns-clause-stands
returns-clause-stands c = valve_stands

pub returns-clause-counts : goal.returns-clause-counts
returns-clause-counts c = valve_counts

pub returns-clause-residual : goal.returns-clause-residual
returns-clause-residual c = valve_residual

pub returns-clause-rest : goal.returns-clause-rest
returns-clause-rest c = valve_rest
