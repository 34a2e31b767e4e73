-- The connections at which lanes come in and go out.
use Rattle.bodies_run.proofs.Leading.{has_ways, only_out, only_in, apart, islands}
use Rattle.bodies_run.proofs.seat_laws.lanes_have_ways.Goals as goal

pub returns : goal.returns
returns g c = record {
  ways = λ homes count ws nodes u v size a at lane. has_ways homes count ws nodes a u v size at lane;
  only_out = λ homes count ws nodes k q l a at goes. only_out homes count ws nodes a k q l at goes;
  only_in = λ homes count ws nodes k q l a at comes. only_in homes count ws nodes a k q l at comes;
  apart = λ homes count ws nodes k q l a at comes. apart homes count ws nodes a k q l at comes;
  islands = λ homes count ws nodes u v a at. islands homes count ws nodes a u v at;
}
