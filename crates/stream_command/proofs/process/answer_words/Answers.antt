-- The goal of `process::answer_words` that the search leaves: memory was wanting as the words were read.
use Rattle.std.proofs.Common.{rules}
use Rattle.stream_command.specs.Calls.{answer_of}
use Rattle.stream_command.specs.Heads.{shipped_plugs}
use Rattle.stream_command.proofs.Answering.{gave_up, none_received, no_islands}
use Rattle.stream_command.proofs.process.answer_words.Goals as goal

pub returns-in-Err-clause-answers : goal.returns-in-Err-clause-answers
returns-in-Err-clause-answers g c =
    let made = c.end_before_run in
    record {
      usage = λ n. absurd (n made.ensures.status);
      answers = gave_up shipped_plugs _ (answer_of made.result) _ made.ensures.status made.ensures.blank;
      complete = λ a e v calm. (rw made.ensures.status tt);
      ran = none_received _ (answer_of made.result) made.result.ran made.ensures.status made.ensures.ran;
      islands = no_islands shipped_plugs _ made.result.ran _ _ made.ensures.ran;
      reads = λ a e. search rules;
      tells = λ t. t;
      reported = made.ensures.console;
    }
