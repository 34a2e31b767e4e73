-- The bodies that were made of a blueprint's islands are its bodies.
use Rattle.std.proofs.Common.{◌∙◌}
use Rattle.island_runs.proofs.MadeOf.{bodies_are, unspent, meet, numbered, aligned}
use Rattle.island_runs.proofs.begin_laws.made_bodies_begin_their_blueprint.Goals as goal

pub returns : goal.returns
returns g c = record {
  are = λ b ss ds f started e bodies few filled all ends made. bodies_are g.S.Source.state g.D.Drain.state g.B.PlugBook.lists b ss ds f filled started all e ends bodies made few;
  unspent = λ f started e bodies many each ends made. unspent g.S.Source.state g.D.Drain.state g.B.PlugBook.lists f.lanes.items f.count started (many ∙ each) e ends bodies made;
  meet = λ f started e bodies many each ends made. meet g.S.Source.state g.D.Drain.state g.B.PlugBook.lists f.lanes.items f.count started (many ∙ each) e ends bodies made;
  numbered = λ b ss ds f started e bodies filled all ends made. numbered g.S.Source.state g.D.Drain.state g.B.PlugBook.lists b ss ds f filled started all e ends bodies made;
  aligned = λ f started e bodies many each ends made. aligned g.S.Source.state g.D.Drain.state g.B.PlugBook.lists f.lanes.items f.count started (many ∙ each) e ends bodies made;
}
