use Rattle.plan_laws.proofs.Unread.{wires_same, sinks_same}
use Rattle.plan_laws.proofs.laws.outlooks_are_of_bytes.Goals as goal

pub returns-clause-wires : goal.returns-clause-wires
returns-clause-wires c = wires_same

pub returns-clause-sinks : goal.returns-clause-sinks
returns-clause-sinks c = sinks_same
