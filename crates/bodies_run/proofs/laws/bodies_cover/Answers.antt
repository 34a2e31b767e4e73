use Rattle.bodies_run.proofs.Nets.{went, stood, all_settled, now_nets, nets_began, nets_cover, nets_owned}
use Rattle.bodies_run.proofs.Lanes.{lanes_on}
use Rattle.bodies_run.proofs.laws.bodies_cover.Goals as goal

pub returns : goal.returns
returns g c = record {
  covers = λ graph homes count ws nodes crossings begun now m goes keep. nets_cover g.S.Source.state g.D.Drain.state g.B.PlugBook.lists graph homes count ws nodes crossings begun m now goes.count (λ k a b x y. went a b (goes.each k a b x y));
  owned = λ graph homes count ws nodes crossings begun now m goes keep. nets_owned g.S.Source.state g.D.Drain.state g.B.PlugBook.lists graph homes count ws nodes crossings begun m now goes.count (λ k a b x y. went a b (goes.each k a b x y));
  nets = λ graph homes count ws nodes crossings begun now m goes keep. now_nets g.S.Source.state g.D.Drain.state g.B.PlugBook.lists graph homes count ws nodes crossings begun m now goes.count (λ k a b x y. went a b (goes.each k a b x y));
  began = λ graph homes count ws nodes crossings begun now all m goes keep. nets_began g.S.Source.state g.D.Drain.state g.B.PlugBook.lists graph homes count ws nodes crossings begun m now goes.count (λ k a b x y. went a b (goes.each k a b x y)) all;
  lanes = λ graph homes count ws nodes crossings begun now m goes keep. lanes_on homes ws begun now goes.count (λ k a b x y. went a b (goes.each k a b x y)) crossings m.lanes_are;
  settled = λ now keep. all_settled g.S.Source.state g.D.Drain.state g.B.PlugBook.lists now (λ k b at. stood g.S.Source.state g.D.Drain.state g.B.PlugBook.lists b (keep k b at));
}
