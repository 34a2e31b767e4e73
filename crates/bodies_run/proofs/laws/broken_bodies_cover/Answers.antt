use Rattle.bodies_run.proofs.Broken.{last, last_settled, last_kept, last_cover, last_nets, last_began, last_owned, last_lanes}
use Rattle.bodies_run.proofs.laws.broken_bodies_cover.Goals as goal

pub returns : goal.returns
returns g c = record {
  last = λ begun now broke. last g.S.Source.state g.D.Drain.state g.B.PlugBook.lists begun now broke;
  covers = λ graph homes count ws nodes crossings begun now then m broke l. last_cover g.S.Source.state g.D.Drain.state g.B.PlugBook.lists begun now broke then l graph homes count ws nodes crossings m;
  owned = λ graph homes count ws nodes crossings begun now then m broke l. last_owned g.S.Source.state g.D.Drain.state g.B.PlugBook.lists begun now broke then l graph homes count ws nodes crossings m;
  nets = λ graph homes count ws nodes crossings begun now then m broke l. last_nets g.S.Source.state g.D.Drain.state g.B.PlugBook.lists begun now broke then l graph homes count ws nodes crossings m;
  began = λ graph homes count ws nodes crossings begun now then all m broke l. last_began g.S.Source.state g.D.Drain.state g.B.PlugBook.lists begun now broke then l graph homes count ws nodes crossings m all;
  settled = λ begun now then broke l. last_settled g.S.Source.state g.D.Drain.state g.B.PlugBook.lists begun now broke then l;
  lanes = λ graph homes count ws nodes crossings begun now then all m broke l asked joined. last_lanes g.S.Source.state g.D.Drain.state g.B.PlugBook.lists begun now broke then l graph homes count ws nodes crossings m all asked joined;
  kept = λ begun now then broke l. last_kept g.S.Source.state g.D.Drain.state g.B.PlugBook.lists begun now broke then l;
}
