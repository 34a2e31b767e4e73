use Rattle.std.proofs.Common.{Some, None}
use Rattle.blue_names.proofs.OpenPorts.{open_input-found}
use Rattle.blue_names.proofs.ports.open_input.Goals as goal

pub returns-in-Some : goal.returns-in-Some
returns-in-Some c = λ n ws k f. open_input-found c.args.heads.now c.args.targets.now c.args.i n ws c.args.kind.now c.kind_inputs.result (Some c.in-Some.port) k f c.kind_inputs.ensures c.in-Some.ensures

pub returns-in-None : goal.returns-in-None
returns-in-None c = λ n ws k f. open_input-found c.args.heads.now c.args.targets.now c.args.i n ws c.args.kind.now c.kind_inputs.result None k f c.kind_inputs.ensures c.in-None.ensures
