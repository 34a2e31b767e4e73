use Rattle.stage_in.proofs.Nodes.{logic_rests, free_rests}
use Rattle.stage_in.proofs.laws.a_started_stage_rests.Goals as goal

pub returns-clause-rests : goal.returns-clause-rests
returns-clause-rests c = logic_rests

pub returns-clause-free : goal.returns-clause-free
returns-clause-free c = free_rests
