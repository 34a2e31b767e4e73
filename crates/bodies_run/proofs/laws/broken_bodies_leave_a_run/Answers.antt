use Rattle.bodies_run.proofs.Breaking.{broken_run, broken_back, broken_left, broken_kept}
use Rattle.bodies_run.proofs.laws.broken_bodies_leave_a_run.Goals as goal

pub returns : goal.returns
returns g c = record {
  run = λ b homes count nodes crossings begun now then all plugs taken ss ds fit seats given m broke l asked joined. broken_run g.S.Source.state g.D.Drain.state g.B.PlugBook.lists begun now broke then l b homes count nodes crossings m all asked joined plugs taken ss ds fit seats given;
  back = λ b homes count nodes crossings begun now then m broke l. broken_back g.S.Source.state g.D.Drain.state g.B.PlugBook.lists begun now broke then l b homes count nodes crossings m;
  nodes = λ b homes count nodes crossings begun now then all last ends m broke l r. broken_left g.S.Source.state g.D.Drain.state g.B.PlugBook.lists begun now broke then l b homes count nodes crossings m all last ends r;
  kept = λ homes count b begun now then last ends broken later broke l r s. broken_kept g.S.Source.state g.D.Drain.state g.B.PlugBook.lists begun now broke then l homes count b last ends broken later r s;
}
