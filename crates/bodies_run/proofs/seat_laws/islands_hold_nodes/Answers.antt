-- What the islands of a blueprint hold of its nodes.
use Rattle.bodies_run.proofs.Standing.{all_below}
use Rattle.bodies_run.proofs.Covering.{firsts_count, nodes_count}
use Rattle.bodies_run.proofs.Gathering.{first, become, become_ends}
use Rattle.bodies_run.proofs.seat_laws.islands_hold_nodes.Goals as goal

pub returns : goal.returns
returns g c = record {
  below = λ homes count ws nodes a. all_below homes count ws nodes a;
  counts = λ homes count ws nodes nets k a b lt. (firsts_count homes count ws nodes nets a b k lt, nodes_count homes count ws nodes nets a b k lt);
  first = λ homes count ws nodes nets k s a b at. first homes count ws nodes nets a b k s at;
  became = λ homes count ws nodes nets all ends a b r. become homes count ws nodes nets a b all ends r;
  ends_became = λ homes count ws nodes nets all ends a b r. become_ends homes count ws nodes nets a b all ends r;
}
