use Rattle.port_core.proofs.Counting.{deliver_spent, pull_spent, push_spent, close_spent, cancel_spent}
use Rattle.port_core.proofs.wire_laws.events_are_paid.Goals as goal

pub returns-clause-deliver : goal.returns-clause-deliver
returns-clause-deliver c = deliver_spent

pub returns-clause-pull : goal.returns-clause-pull
returns-clause-pull c = pull_spent

pub returns-clause-push : goal.returns-clause-push
returns-clause-push c = push_spent

pub returns-clause-close : goal.returns-clause-close
returns-clause-close c = close_spent

pub returns-clause-cancel : goal.returns-clause-cancel
returns-clause-cancel c = cancel_spent
