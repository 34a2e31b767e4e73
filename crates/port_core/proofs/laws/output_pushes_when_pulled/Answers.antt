-- The goals of `laws::output_pushes_when_pulled`.
use Rattle.std.proofs.Common.{refl}
use Rattle.port_core.specs.Connection.{unasked}
use Rattle.port_core.specs.PortRules.{push, after_move}
use Rattle.port_core.proofs.Runs.{push_after_pull, closed_for_good}
use Rattle.port_core.proofs.laws.output_pushes_when_pulled.Goals as goal

pub returns-clause-first : goal.returns-clause-first
returns-clause-first c = λ ms e run. push_after_pull unasked ms e refl run

pub returns-clause-again : goal.returns-clause-again
returns-clause-again c = λ p d e ms run. push_after_pull (after_move (push d) p) ms e refl run.1

pub returns-clause-open : goal.returns-clause-open
returns-clause-open c = λ p m ms e closing run. closed_for_good (push e) (λ r a. a.0) m p ms closing run
