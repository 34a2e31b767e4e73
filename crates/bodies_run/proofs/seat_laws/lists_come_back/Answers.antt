-- Lists of islands are brought back into one.
use Rattle.bodies_run.proofs.Gathering.{back, one}
use Rattle.bodies_run.proofs.seat_laws.lists_come_back.Goals as goal

pub returns : goal.returns
returns g c = record {
  back = λ homes count ws nodes lists a counts. back homes count ws nodes a lists counts;
  one = λ homes count ws nodes lists all ends xs a r long shares. one homes count ws nodes a lists all ends xs r long shares;
}
