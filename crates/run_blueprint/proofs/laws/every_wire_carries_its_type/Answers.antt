use Rattle.run_blueprint.proofs.Runs.{run_sends, island_sends}
use Rattle.run_blueprint.proofs.laws.every_wire_carries_its_type.Goals as goal

pub returns : goal.returns
returns g c = record {
  run = λ heads chains nodes graph w rank. run_sends g.S.Source.state g.D.Drain.state heads chains nodes graph w rank;
  island = λ heads chains nodes graph w rank. island_sends g.S.Source.state g.D.Drain.state heads chains nodes graph w rank;
}
