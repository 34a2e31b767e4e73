use Rattle.stage_dropping.proofs.RecoverNodes.{rest_given}
use Rattle.stage_dropping.proofs.RecoverTurns.{recover_residual}
use Rattle.stage_dropping.proofs.recover_laws.a_recover_gives_for_every_rest.Goals as goal

pub returns-clause-call : goal.returns-clause-call
returns-clause-call c = recover_residual

pub returns-clause-rest : goal.returns-clause-rest
returns-clause-rest c = rest_given
