use Rattle.materializer.specs.Graphs.{graph_of}
use Rattle.materializer.proofs.Fitting.{fit_joined}
use Rattle.materializer.proofs.Ranking.{ranked}
use Rattle.materializer.proofs.laws.fit_blueprints_are_whole.Goals as goal

pub returns : goal.returns
returns c = record {
  ranked = λ b heads taken fit. ranked (graph_of b) fit.open_walks;
  joined = fit_joined;
}
