use Rattle.line_chain.proofs.Starts.{lasting_kept}
use Rattle.line_chain.proofs.kind.StepKind.ending.Goals as goal

pub returns-in-Keeps : goal.returns-in-Keeps
returns-in-Keeps c = rw c.in-Keeps.is (lasting_kept c.in-Keeps._kind)
