use Rattle.run_laws.proofs.InRuns.{in_laws, in_hears}
use Rattle.run_laws.proofs.OutStages.{out_laws, out_hears}
use Rattle.run_laws.proofs.fan_laws.nodes_with_several_ports_agree.Goals as goal

pub returns-clause-ins : goal.returns-clause-ins
returns-clause-ins c = in_laws

pub returns-clause-outs : goal.returns-clause-outs
returns-clause-outs c = out_laws

pub returns-clause-ins_heard : goal.returns-clause-ins_heard
returns-clause-ins_heard c = in_hears

pub returns-clause-outs_heard : goal.returns-clause-outs_heard
returns-clause-outs_heard c = out_hears
