use Rattle.stage_dropping.proofs.RecoverNodes.{new_may_start, follower_may_start}
use Rattle.stage_dropping.proofs.recover_laws.a_new_recover_may_start.Goals as goal

pub returns-clause-new : goal.returns-clause-new
returns-clause-new c = new_may_start

pub returns-clause-follows : goal.returns-clause-follows
returns-clause-follows c = follower_may_start
