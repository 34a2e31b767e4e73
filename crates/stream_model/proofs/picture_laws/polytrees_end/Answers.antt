use Rattle.stream_model.proofs.Polytrees.{sinks_end}
use Rattle.stream_model.proofs.picture_laws.polytrees_end.Goals as goal

pub returns : goal.returns
returns c = λ g w counts outlook wired rests tell. sinks_end g w counts outlook wired rests tell
