use Rattle.blue_lang.proofs.Texts.{says_or_fault}
use Rattle.blue_lang.proofs.laws.a_text_says_something_or_has_a_fault.Goals as goal

pub returns : goal.returns
returns c = says_or_fault
