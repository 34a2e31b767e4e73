use Rattle.run_laws.proofs.Misfits.{ins_stop, states_stop}
use Rattle.run_laws.proofs.misfit_laws.stopped_stages_have_their_cause.Goals as goal

pub returns-clause-ins : goal.returns-clause-ins
returns-clause-ins c = ins_stop

pub returns-clause-states : goal.returns-clause-states
returns-clause-states c = states_stop
