use Rattle.std.proofs.Common.{◌≡◌, ◌++◌, ◌∷◌, rules}
use Rattle.blue_lang.specs.Spaced.{spaced}
use Rattle.blue_lang.specs.Functions.{pred_words}
use Rattle.blue_lang.specs.Kinds.{each_words, joining_word}
use Rattle.blue_lang.proofs.Spacing.{spaced_behind}
use Rattle.blue_lang.proofs.kinds.write_split.Goals as goal

pub returns : goal.returns
returns c =
    let each : c.write_each.new.out.items ≡ c.write_word_pred.new.out.items ++ spaced (each_words c.args.chain.now (joining_word c.args.joining)) = search rules in
    spaced_behind _ _ _ (c.args.word.now ∷ pred_words c.args.pred.now) _ c.in_ok-write_word_pred.ensures each
