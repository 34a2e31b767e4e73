use Rattle.step_work.proofs.LineChains.{through_append}
use Rattle.step_work.proofs.laws.a_list_may_come_in_two_parts.Goals as goal

pub returns : goal.returns
returns c = through_append
