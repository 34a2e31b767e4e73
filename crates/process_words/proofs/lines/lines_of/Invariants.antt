-- The loop of `lines::lines_of`.
use Rattle.std.proofs.Common.{◌≡◌, ◌++◌, drop, map}
use Rattle.process_words.specs.Words.{bytes_of, word_line}
use Rattle.process_words.proofs.lines.lines_of.Given as goal

-- with those of the words that are left they are all
abbrev pub invariant-loop-word : goal.invariant-loop-word
invariant-loop-word l = l.lines.items ++ map word_line (bytes_of (drop l.word-index l.words)) ≡ map word_line (bytes_of l.words)
