use Rattle.stage_switch.proofs.Outlooks.{trip_agrees}
use Rattle.stage_switch.proofs.laws.a_trip_agrees_with_its_outlook.Goals as goal

pub returns : goal.returns
returns c = trip_agrees
