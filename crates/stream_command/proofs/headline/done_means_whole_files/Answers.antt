use Rattle.stream_command.proofs.SinkFiles.{done_whole}
use Rattle.stream_command.proofs.headline.done_means_whole_files.Goals as goal

pub returns : goal.returns
returns c = done_whole
