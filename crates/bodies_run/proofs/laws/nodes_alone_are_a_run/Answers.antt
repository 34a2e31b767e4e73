use Rattle.bodies_run.proofs.Alone.{run_alone, still_alone, counts_alone}
use Rattle.bodies_run.proofs.laws.nodes_alone_are_a_run.Goals as goal

pub returns : goal.returns
returns g c = record {
  run = λ graph a places nodes left many run. run_alone g.S.Source.state g.D.Drain.state g.B.PlugBook.lists graph a places nodes left many run;
  still = λ graph a firsts nodes s. still_alone graph a firsts nodes s;
  counts = λ graph a firsts nodes. counts_alone a firsts nodes 0 graph.wires;
}
