use Rattle.run_laws.proofs.Islands.{island_run, island_still, island_counts}
use Rattle.run_laws.proofs.outlook_laws.an_island_leaves_a_run.Goals as goal

pub returns : goal.returns
returns g c = record {
  run = λ graph net joined settled made. island_run g.S.Source.state g.D.Drain.state g.B.PlugBook.lists graph net settled made joined;
  still = λ graph net settled made empty. island_still g.S.Source.state g.D.Drain.state g.B.PlugBook.lists graph net settled made empty;
  counts = λ graph net settled made. island_counts g.S.Source.state g.D.Drain.state g.B.PlugBook.lists graph net settled made;
}
