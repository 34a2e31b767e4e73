use Rattle.stage_out.proofs.OutMachines.{if_ok, begins}
use Rattle.stage_out.proofs.machines.OutMachines.new.Goals as goal

pub returns : goal.returns
returns c = if_ok c.made.result (λ new. begins c.args.stage c.args.kind new c.requires) c.made.ensures
