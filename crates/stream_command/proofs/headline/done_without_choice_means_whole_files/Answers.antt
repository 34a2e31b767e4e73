use Rattle.stream_command.proofs.SinkFiles.{unchosen_whole}
use Rattle.stream_command.proofs.headline.done_without_choice_means_whole_files.Goals as goal

pub returns : goal.returns
returns c = unchosen_whole
