use Rattle.bodies_run.proofs.Nets.{went, stood}
use Rattle.bodies_run.proofs.Lanes.{lanes_on, lanes_keep}
use Rattle.bodies_run.proofs.laws.their_lanes_keep.Goals as goal

pub returns : goal.returns
returns g c = λ graph homes count ws nodes crossings begun now all m goes keep asked joined.
    lanes_keep g.S.Source.state g.D.Drain.state g.B.PlugBook.lists graph homes count ws nodes m.seated m.graph.wires_are now (λ k b at. stood g.S.Source.state g.D.Drain.state g.B.PlugBook.lists b (keep k b at))
    crossings (lanes_on homes ws begun now goes.count (λ k a b x y. went a b (goes.each k a b x y)) crossings m.lanes_are) all asked joined
