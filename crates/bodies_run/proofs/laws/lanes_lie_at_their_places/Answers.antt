use Rattle.bodies_run.proofs.Places.{out_place, in_place}
use Rattle.bodies_run.proofs.laws.lanes_lie_at_their_places.Goals as goal

pub returns : goal.returns
returns g c = record {
  out = λ homes count ws nodes u v size i a at lane h. out_place homes count ws nodes u v size i a at lane h;
  inp = λ homes count ws nodes u v size i a at lane h. in_place homes count ws nodes u v size i a at lane h;
}
