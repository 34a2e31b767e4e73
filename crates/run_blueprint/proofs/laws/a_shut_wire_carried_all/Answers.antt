use Rattle.run_blueprint.proofs.ShutWires.{shut_carried}
use Rattle.run_blueprint.proofs.laws.a_shut_wire_carried_all.Goals as goal

pub returns : goal.returns
returns c = shut_carried
