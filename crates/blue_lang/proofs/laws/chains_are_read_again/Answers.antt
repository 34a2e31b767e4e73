use Rattle.blue_lang.proofs.Texts.{chain_again}
use Rattle.blue_lang.proofs.laws.chains_are_read_again.Goals as goal

pub returns : goal.returns
returns c = chain_again
