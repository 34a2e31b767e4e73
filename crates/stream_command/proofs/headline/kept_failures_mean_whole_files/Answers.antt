use Rattle.stream_command.proofs.SinkFiles.{failed_whole}
use Rattle.stream_command.proofs.headline.kept_failures_mean_whole_files.Goals as goal

pub returns : goal.returns
returns c = failed_whole c.fit_blueprints_are_whole.ensures.ranked c.failures_lose_nothing.ensures.whole c.failures_lose_nothing.ensures.sink
