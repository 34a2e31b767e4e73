use Rattle.blue_lang.proofs.Texts.{kind_again}
use Rattle.blue_lang.proofs.laws.kinds_are_read_again.Goals as goal

pub returns : goal.returns
returns c = kind_again
