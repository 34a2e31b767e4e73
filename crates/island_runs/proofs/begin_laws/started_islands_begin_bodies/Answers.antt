-- Islands of a blueprint that have started are fit to be bodies.
use Rattle.island_runs.proofs.Starting.{can_begin}
use Rattle.island_runs.proofs.begin_laws.started_islands_begin_bodies.Goals as goal

pub returns : goal.returns
returns g c = λ b ss ds f started e tables peers few filled all ends blank others. can_begin g.S.Source.state g.D.Drain.state g.B.PlugBook.lists b ss ds f filled started all few e ends tables blank peers others
