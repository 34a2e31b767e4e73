-- What is read off items comes back with them.
use Rattle.bodies_run.proofs.Gathering.{mapped}
use Rattle.bodies_run.proofs.seat_laws.maps_come_back.Goals as goal

pub returns : goal.returns
returns g c = λ homes count ws f lists all ends r. mapped homes count ws f lists all ends r
