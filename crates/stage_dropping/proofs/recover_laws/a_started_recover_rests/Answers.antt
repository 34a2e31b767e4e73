use Rattle.stage_dropping.proofs.RecoverNodes.{rests, rests_without, stays_free}
use Rattle.stage_dropping.proofs.recover_laws.a_started_recover_rests.Goals as goal

pub returns-clause-rests : goal.returns-clause-rests
returns-clause-rests c = rests

pub returns-clause-without : goal.returns-clause-without
returns-clause-without c = rests_without

pub returns-clause-free : goal.returns-clause-free
returns-clause-free c = stays_free
