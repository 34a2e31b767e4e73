use Rattle.std.proofs.Common.{◌≡◌, map, take, drop, Ok}
use Rattle.blue_words.specs.Numbers.{read_count}
use Rattle.workbench_top.specs.Task.{are_numbers}
use Rattle.workbench_top.proofs.task.counts_of.Given as goal

abbrev pub invariant-loop-word : goal.invariant-loop-word
invariant-loop-word l = record {
  numbers : map (λ n. Ok n) l.counts.items ≡ map (read_count 64) (take l.word-index l.words);
  rest : are_numbers l.words ≡ are_numbers (drop l.word-index l.words);
}
