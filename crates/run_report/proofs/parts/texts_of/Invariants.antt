use Rattle.std.proofs.Common.{◌≡◌, map, take, drop}
use Rattle.std.specs.List.{list_all}
use Rattle.run_report.specs.Shape.{is_text}
use Rattle.run_report.proofs.parts.texts_of.Given as goal

abbrev pub invariant-loop-word : goal.invariant-loop-word
invariant-loop-word l = record {
  texts : map (λ text. text.now) l.texts.items ≡ take l.word-index l.words;
  rest : list_all is_text l.words ≡ list_all is_text (drop l.word-index l.words);
}
