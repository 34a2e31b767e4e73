use Rattle.blue_lang.proofs.Texts.{one_text}
use Rattle.blue_lang.proofs.laws.one_text_says_one_text.Goals as goal

pub returns : goal.returns
returns c = one_text
