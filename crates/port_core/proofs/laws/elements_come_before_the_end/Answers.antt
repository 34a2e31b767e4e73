-- The goals of `laws::elements_come_before_the_end`.
use Rattle.port_core.proofs.Runs.{end_after_push}
use Rattle.port_core.proofs.laws.elements_come_before_the_end.Goals as goal

pub returns : goal.returns
returns c = λ p e m ms ending run. end_after_push p e m ms ending run
