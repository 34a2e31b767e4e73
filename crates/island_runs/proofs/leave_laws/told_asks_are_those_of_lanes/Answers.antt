use Rattle.blue_check.specs.Wires.{blueprint_wires}
use Rattle.island_runs.proofs.Asking.{told, some_asks, wires_within}
use Rattle.island_runs.proofs.leave_laws.told_asks_are_those_of_lanes.Goals as goal

pub returns : goal.returns
returns g c = record {
  are = λ lanes crossings bodies all many rise aligned asks. told bodies lanes crossings all many rise aligned asks;
  some = λ crossings bodies lie. some_asks bodies crossings lie;
  within = λ homes b. wires_within homes (blueprint_wires b);
}
