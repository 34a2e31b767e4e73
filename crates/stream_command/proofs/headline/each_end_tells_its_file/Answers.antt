use Rattle.stream_command.proofs.SinkFiles.{ends_tell}
use Rattle.stream_command.proofs.headline.each_end_tells_its_file.Goals as goal

pub returns : goal.returns
returns c = ends_tell
