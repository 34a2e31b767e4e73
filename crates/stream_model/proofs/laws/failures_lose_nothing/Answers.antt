use Rattle.stream_model.proofs.Exacts.{failed_whole, reaches_last}
use Rattle.stream_model.proofs.laws.failures_lose_nothing.Goals as goal

pub returns-clause-whole : goal.returns-clause-whole
returns-clause-whole c = failed_whole

pub returns-clause-sink : goal.returns-clause-sink
returns-clause-sink c = reaches_last
