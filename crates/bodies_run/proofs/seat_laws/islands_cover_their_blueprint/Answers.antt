-- The nets of islands cover the graph of their blueprint.
use Rattle.bodies_run.proofs.Covering.{covers, owned, go_on}
use Rattle.bodies_run.proofs.seat_laws.islands_cover_their_blueprint.Goals as goal

pub returns : goal.returns
returns g c = record {
  covers = λ graph homes count ws nodes nets a i b. covers homes count ws nodes nets a b graph i;
  owned = λ graph homes count ws nodes nets a i b. owned homes count ws nodes nets a b graph i;
  on = λ homes count ws nodes nets later b goes. go_on homes count ws nodes nets later b goes;
}
