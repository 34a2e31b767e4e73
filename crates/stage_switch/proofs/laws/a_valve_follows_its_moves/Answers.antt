use Rattle.stage_switch.proofs.Outlooks.{follows_plan, follows_whole, follows_seat, follows_few}
use Rattle.stage_switch.proofs.laws.a_valve_follows_its_moves.Goals as goal

pub returns-clause-plan : goal.returns-clause-plan
returns-clause-plan c = follows_plan

pub returns-clause-whole : goal.returns-clause-whole
returns-clause-whole c = follows_whole

pub returns-clause-seat : goal.returns-clause-seat
returns-clause-seat c = follows_seat

pub returns-clause-few : goal.returns-clause-few
returns-clause-few c = follows_few
