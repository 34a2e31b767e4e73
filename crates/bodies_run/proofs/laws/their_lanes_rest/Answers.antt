use Rattle.bodies_run.proofs.Nets.{went, stood}
use Rattle.bodies_run.proofs.Lanes.{lanes_on, lanes_rest, no_queues}
use Rattle.bodies_run.proofs.laws.their_lanes_rest.Goals as goal

pub returns : goal.returns
returns g c = record {
  queues = λ crossings now rest. no_queues now rest.rings;
  lanes = λ graph homes count ws nodes crossings begun now all m goes keep asked rest.
      lanes_rest g.S.Source.state g.D.Drain.state g.B.PlugBook.lists graph homes count ws nodes m.seated m.graph.wires_are now (λ k b at. stood g.S.Source.state g.D.Drain.state g.B.PlugBook.lists b (keep k b at))
      crossings (lanes_on homes ws begun now goes.count (λ k a b x y. went a b (goes.each k a b x y)) crossings m.lanes_are) all asked keep rest;
}
