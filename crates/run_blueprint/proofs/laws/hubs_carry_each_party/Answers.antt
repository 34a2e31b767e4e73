use Rattle.run_blueprint.proofs.Parties.{hub_carries}
use Rattle.run_blueprint.proofs.laws.hubs_carry_each_party.Goals as goal

pub returns : goal.returns
returns g c = λ b ss ds a nodes m. hub_carries g.S.Source.state g.D.Drain.state g.B.PlugBook.lists b ss ds a nodes m
