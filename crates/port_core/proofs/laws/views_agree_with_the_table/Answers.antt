-- The goals of `laws::views_agree_with_the_table`.
use Rattle.port_core.proofs.Wires.{pull_agrees, push_agrees, deliver_heard}
use Rattle.port_core.proofs.laws.views_agree_with_the_table.Goals as goal

pub returns-clause-pull : goal.returns-clause-pull
returns-clause-pull c = pull_agrees

pub returns-clause-push : goal.returns-clause-push
returns-clause-push c = push_agrees

pub returns-clause-delivery : goal.returns-clause-delivery
returns-clause-delivery c = deliver_heard
