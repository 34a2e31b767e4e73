use Rattle.stage_out.proofs.Handled.{begins_idle}
use Rattle.stage_out.proofs.machines.OutMachines.start.Goals as goal

pub returns-clause-gives : goal.returns-clause-gives
returns-clause-gives c = rw c.requires.empty (begins_idle c.args.self.now c.requires.meets).gives
