-- The goals of `laws::input_pulls_when_free`.
use Rattle.std.proofs.Common.{refl}
use Rattle.port_core.specs.PortRules.{pull, on_push, after_move}
use Rattle.port_core.proofs.Runs.{pull_after_push, pull_after_grab, closed_for_good}
use Rattle.port_core.proofs.laws.input_pulls_when_free.Goals as goal

pub returns-clause-answered : goal.returns-clause-answered
returns-clause-answered c = λ p ms run. pull_after_push (after_move pull p) ms (λ e. cc) run.1

pub returns-clause-grabbed : goal.returns-clause-grabbed
returns-clause-grabbed c = λ p e ms run. pull_after_grab (after_move (on_push e) p) ms refl run.1

pub returns-clause-open : goal.returns-clause-open
returns-clause-open c = λ p m ms closing run. closed_for_good pull (λ r a. a.0) m p ms closing run
