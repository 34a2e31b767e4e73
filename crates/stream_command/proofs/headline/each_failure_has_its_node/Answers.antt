use Rattle.stream_command.proofs.SinkFiles.{failures_lead}
use Rattle.stream_command.proofs.headline.each_failure_has_its_node.Goals as goal

pub returns : goal.returns
returns c = failures_lead c.fit_blueprints_are_whole.ensures.ranked c.causes_lead.ensures.sinks
