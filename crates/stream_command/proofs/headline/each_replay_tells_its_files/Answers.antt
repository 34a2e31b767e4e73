use Rattle.stream_command.proofs.SinkFiles.{replays_tell}
use Rattle.stream_command.proofs.headline.each_replay_tells_its_files.Goals as goal

pub returns : goal.returns
returns c = replays_tell
