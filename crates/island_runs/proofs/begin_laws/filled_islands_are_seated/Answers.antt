-- The islands of a blueprint, whose nodes hold their handles, are seated, and its lanes can be made.
use Rattle.island_runs.proofs.Filling.{few, seated, graph_is, parts_are, wires_begin, lanes_made, lanes_rise}
use Rattle.island_runs.proofs.begin_laws.filled_islands_are_seated.Goals as goal

pub returns : goal.returns
returns g c = record {
  few = λ p is. few p is;
  seated = λ b ss ds f links is. seated b ss ds f is links;
  graph = λ b ss ds f is. graph_is b ss ds f is;
  parts = λ b ss ds f k x is here. parts_are b ss ds f is k x here;
  homes = λ p is. wires_begin p is;
  lanes = λ p is. lanes_made p is;
  rise = λ p is. lanes_rise p is;
}
