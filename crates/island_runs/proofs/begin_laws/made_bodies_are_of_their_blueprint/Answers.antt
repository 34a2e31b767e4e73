-- The bodies made of the islands of a blueprint are its bodies.
use Rattle.island_runs.proofs.Making.{begun, lanes}
use Rattle.island_runs.proofs.begin_laws.made_bodies_are_of_their_blueprint.Goals as goal

pub returns : goal.returns
returns g c = record {
  begun = λ homes count ws nodes e bodies a all made. begun g.S.Source.state g.D.Drain.state g.B.PlugBook.lists homes count ws nodes e bodies a all made;
  lanes = λ homes count ws nodes e bodies a all made. lanes g.S.Source.state g.D.Drain.state g.B.PlugBook.lists homes count ws nodes e bodies a all made;
}
