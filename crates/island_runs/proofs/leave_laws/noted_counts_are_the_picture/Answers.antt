use Rattle.std.proofs.Common.{refl}
use Rattle.blue_check.specs.Wires.{blueprint_wires}
use Rattle.blue_check.specs.Plan.{lanes_from}
use Rattle.bodies_run.specs.Leaving.{account_in}
use Rattle.bodies_run.specs.Counts.{lane_demand}
use Rattle.island_runs.proofs.Drawing.{drawn}
use Rattle.island_runs.proofs.leave_laws.noted_counts_are_the_picture.Goals as goal

pub returns : goal.returns
returns g c = λ b homes now all counts many note.
    let a = account_in homes (blueprint_wires b) now (lane_demand (lanes_from homes 0 (blueprint_wires b)) all) in
    drawn homes (blueprint_wires b) all a.near counts many note a refl refl
