use Rattle.blue_lang.proofs.Roundtrip.{canonical_says}
use Rattle.blue_lang.proofs.laws.canonical_texts_say_their_texts.Goals as goal

pub returns : goal.returns
returns c = canonical_says
