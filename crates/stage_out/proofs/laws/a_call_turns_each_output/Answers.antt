use Rattle.stage_out.proofs.OutMachines.{turns_of}
use Rattle.stage_out.proofs.laws.a_call_turns_each_output.Goals as goal

pub returns : goal.returns
returns c = turns_of
