use Rattle.blue_lang.proofs.SameWords.{same_words}
use Rattle.blue_lang.proofs.laws.words_alone_say_a_text.Goals as goal

pub returns : goal.returns
returns c = same_words
