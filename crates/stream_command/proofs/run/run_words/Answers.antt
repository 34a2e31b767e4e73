-- The goals of `run::run_words` that the search leaves.
use Rattle.run_report.specs.Commands.{asked}
use Rattle.stream_command.specs.RunCalls.{answer_of}
use Rattle.stream_command.specs.Asked.{plugged_by}
use Rattle.run_report.proofs.Replays.{follows_another}
use Rattle.run_report.specs.Asking.{asked_of}
use Rattle.stream_command.proofs.Answering.{as_asked, completes, reads_little, none_received, no_islands}
use Rattle.stream_command.proofs.run.run_words.Goals as goal

pub returns-in-Ok-clause-complete : goal.returns-in-Ok-clause-complete
returns-in-Ok-clause-complete g c =
    completes (plugged_by g.B.PlugBook.lists c.args.plugs.items c.args.customs.items) _ (answer_of c.run_command.result) _ _ (as_asked (plugged_by g.B.PlugBook.lists c.args.plugs.items c.args.customs.items) c.args.words.now (asked c.in-Ok.command) (answer_of c.run_command.result) _ _ c.in-Ok.ensures.command c.run_command.ensures.answers)

pub returns-in-Ok-clause-reads : goal.returns-in-Ok-clause-reads
returns-in-Ok-clause-reads g c = λ x e.
    reads_little (plugged_by g.B.PlugBook.lists c.args.plugs.items c.args.customs.items) _ (answer_of c.run_command.result) _ _ (as_asked (plugged_by g.B.PlugBook.lists c.args.plugs.items c.args.customs.items) c.args.words.now (asked c.in-Ok.command) (answer_of c.run_command.result) _ _ c.in-Ok.ensures.command c.run_command.ensures.answers)
    x e (follows_another c.args.words.now x e)

pub returns-clause-ran : goal.returns-clause-ran
returns-clause-ran g c =
    let made = c.end_before_run-in-Err-NoMemory in
    none_received (asked_of c.args.words.now) (answer_of made.result) made.result.ran made.ensures.status made.ensures.ran

pub returns-clause-islands : goal.returns-clause-islands
returns-clause-islands g c =
    let made = c.end_before_run-in-Err-NoMemory in
    no_islands (plugged_by g.B.PlugBook.lists c.args.plugs.items c.args.customs.items) (asked_of c.args.words.now) made.result.ran _ _ made.ensures.ran
