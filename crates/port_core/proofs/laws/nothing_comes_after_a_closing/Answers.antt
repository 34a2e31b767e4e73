-- The goals of `laws::nothing_comes_after_a_closing`.
use Rattle.port_core.proofs.Runs.{no_push_after, no_pull_after}
use Rattle.port_core.proofs.laws.nothing_comes_after_a_closing.Goals as goal

pub returns-clause-input : goal.returns-clause-input
returns-clause-input c = λ p m ms e ending run. no_push_after m p ms e ending run

pub returns-clause-output : goal.returns-clause-output
returns-clause-output c = no_pull_after
