-- The goals of `answer::run_fit` that the search leaves.
use Rattle.std.proofs.Common.{◌≡◌, ◌∙◌, inl, inr, ap, sym, subst, Err, length, map, rules}
use Rattle.materializer.specs.Choosers.{moves_of}
use Rattle.stream_command.specs.AfterRun.{AfterRun, of_outcome}
use Rattle.stream_command.specs.Asked.{plugged_by}
use Rattle.stream_io.proofs.Quiets.{tells_before}
use Rattle.stream_command.proofs.SinksTold.{as_many_stands}
use Rattle.stream_command.proofs.RunAnswering.{run_told, run_causes, run_sinks, missing_input, missing_output, missing_causes, wanted, wanted_tells, wanted_causes, wanted_draws}
use Rattle.stream_command.proofs.Receipts.{after_run}
use Rattle.stream_command.specs.RunReceipts.{Receipts}
use Rattle.stream_command.proofs.answer.run_fit.Goals as goal

pub after_run-requires-clause-as_many : goal.after_run-requires-clause-as_many
after_run-requires-clause-as_many g c =
    let e : length c.in-Ok.names.items ≡ length c.in-Ok-run.ran.sinks.items = ap length c.in-Ok.ensures.names ∙ as_many_stands c.args.b.nodes.items c.in-Ok-run.ran.sinks.items c.in-Ok-run.ensures.ran.sinks_are in
    search (rules, e)

pub returns-in-Ok-run-clause-told : goal.returns-in-Ok-run-clause-told
returns-in-Ok-run-clause-told g c =
    run_told (plugged_by g.B.PlugBook.lists c.args.plugs.items c.args.customs.items) c.args.b (map moves_of c.args.plans.items) c.args.trace c.in-Ok-run.ran c.args.turns (of_outcome c.after_run.result) (g.F.Folder.state c.args.folder.now) (g.F.Folder.state c.run.new.folder)
    (subst (λ names. AfterRun names c.in-Ok-run.ran (of_outcome c.after_run.result)) c.in-Ok.ensures.names c.after_run.ensures.run) c.in-Ok-run.ensures.ran

pub returns-in-Ok-run-clause-causes : goal.returns-in-Ok-run-clause-causes
returns-in-Ok-run-clause-causes g c =
    run_causes (plugged_by g.B.PlugBook.lists c.args.plugs.items c.args.customs.items) c.args.b (map moves_of c.args.plans.items) c.args.trace c.in-Ok-run.ran c.args.turns (of_outcome c.after_run.result) (g.F.Folder.state c.args.folder.now) (g.F.Folder.state c.run.new.folder)
    (subst (λ names. AfterRun names c.in-Ok-run.ran (of_outcome c.after_run.result)) c.in-Ok.ensures.names c.after_run.ensures.run) c.in-Ok-run.ensures.ran

pub returns-in-Ok-run-clause-sinks : goal.returns-in-Ok-run-clause-sinks
returns-in-Ok-run-clause-sinks g c =
    run_sinks (plugged_by g.B.PlugBook.lists c.args.plugs.items c.args.customs.items) c.args.b (map moves_of c.args.plans.items) c.args.trace c.in-Ok-run.ran c.args.turns (of_outcome c.after_run.result) (g.F.Folder.state c.args.folder.now) (g.F.Folder.state c.run.new.folder)
    (subst (λ names. AfterRun names c.in-Ok-run.ran (of_outcome c.after_run.result)) c.in-Ok.ensures.names c.after_run.ensures.run) c.in-Ok-run.ensures.ran

pub returns-in-Err-MissingInput-clause-told : goal.returns-in-Err-MissingInput-clause-told
returns-in-Err-MissingInput-clause-told g c =
    let e = c.in-Err-MissingInput in
    let made = c.without_run-in-Err-MissingInput in
    missing_input (plugged_by g.B.PlugBook.lists c.args.plugs.items c.args.customs.items) _ _ c.args.b (map moves_of c.args.plans.items) c.args.trace e.name c.args.turns (of_outcome made.result) (e.ensures.no_input e.name (ap Err e.field-0-is)) made.ensures.status made.ensures.blank

pub returns-in-Err-MissingInput-clause-tells : goal.returns-in-Err-MissingInput-clause-tells
returns-in-Err-MissingInput-clause-tells g c =
    let e = c.in-Err-MissingInput in
    tells_before _ _ (e.ensures.no_input e.name (ap Err e.field-0-is)).files

pub returns-in-Err-MissingInput-clause-causes : goal.returns-in-Err-MissingInput-clause-causes
returns-in-Err-MissingInput-clause-causes g c =
    let e = c.in-Err-MissingInput in
    missing_causes (plugged_by g.B.PlugBook.lists c.args.plugs.items c.args.customs.items) _ _ c.args.b (map moves_of c.args.plans.items) c.args.trace c.args.turns e.name c.without_run-in-Err-MissingInput.result.status (of_outcome c.without_run-in-Err-MissingInput.result) (inl (e.ensures.no_input e.name (ap Err e.field-0-is))) c.without_run-in-Err-MissingInput.ensures.status

pub returns-in-Err-MissingOutput-clause-told : goal.returns-in-Err-MissingOutput-clause-told
returns-in-Err-MissingOutput-clause-told g c =
    let e = c.in-Err-MissingOutput in
    let made = c.without_run-in-Err-MissingOutput in
    missing_output (plugged_by g.B.PlugBook.lists c.args.plugs.items c.args.customs.items) _ _ c.args.b (map moves_of c.args.plans.items) c.args.trace e.name c.args.turns (of_outcome made.result) (e.ensures.no_output e.name (ap Err e.field-0-is)) made.ensures.status made.ensures.blank

pub returns-in-Err-MissingOutput-clause-tells : goal.returns-in-Err-MissingOutput-clause-tells
returns-in-Err-MissingOutput-clause-tells g c =
    let e = c.in-Err-MissingOutput in
    (e.ensures.no_output e.name (ap Err e.field-0-is)).files.told

pub returns-in-Err-MissingOutput-clause-causes : goal.returns-in-Err-MissingOutput-clause-causes
returns-in-Err-MissingOutput-clause-causes g c =
    let e = c.in-Err-MissingOutput in
    missing_causes (plugged_by g.B.PlugBook.lists c.args.plugs.items c.args.customs.items) _ _ c.args.b (map moves_of c.args.plans.items) c.args.trace c.args.turns e.name c.without_run-in-Err-MissingOutput.result.status (of_outcome c.without_run-in-Err-MissingOutput.result) (inr (e.ensures.no_output e.name (ap Err e.field-0-is))) c.without_run-in-Err-MissingOutput.ensures.status

pub returns-in-Ok-run-clause-reads : goal.returns-in-Ok-run-clause-reads
returns-in-Ok-run-clause-reads g c = c.in-Ok-run.ensures.ran.other_draws

pub returns-in-Err-MissingInput-clause-reads : goal.returns-in-Err-MissingInput-clause-reads
returns-in-Err-MissingInput-clause-reads g c =
    let e = c.in-Err-MissingInput in
    λ n never. (e.ensures.no_input e.name (ap Err e.field-0-is)).read n

pub returns-in-Err-MissingOutput-clause-reads : goal.returns-in-Err-MissingOutput-clause-reads
returns-in-Err-MissingOutput-clause-reads g c =
    let e = c.in-Err-MissingOutput in
    λ n never. (e.ensures.no_output e.name (ap Err e.field-0-is)).read n

pub returns-clause-told : goal.returns-clause-told
returns-clause-told g c =
    let e = c.in-Err-NoMemory in
    let made = c.without_run-in-Err-NoMemory in
    wanted (plugged_by g.B.PlugBook.lists c.args.plugs.items c.args.customs.items) _ _ c.args.b (map moves_of c.args.plans.items) c.args.trace c.args.turns (of_outcome made.result) (e.ensures.no_memory (ap Err e.field-0-is)) made.ensures.status made.ensures.blank

pub returns-clause-tells : goal.returns-clause-tells
returns-clause-tells g c =
    let e = c.in-Err-NoMemory in
    wanted_tells (plugged_by g.B.PlugBook.lists c.args.plugs.items c.args.customs.items) _ _ c.args.b c.args.trace (e.ensures.no_memory (ap Err e.field-0-is))

pub returns-clause-causes : goal.returns-clause-causes
returns-clause-causes g c =
    let e = c.in-Err-NoMemory in
    let made = c.without_run-in-Err-NoMemory in
    wanted_causes (plugged_by g.B.PlugBook.lists c.args.plugs.items c.args.customs.items) _ _ c.args.b (map moves_of c.args.plans.items) c.args.trace c.args.turns made.result.status (of_outcome made.result) (e.ensures.no_memory (ap Err e.field-0-is)) made.ensures.status

pub returns-clause-reads : goal.returns-clause-reads
returns-clause-reads g c =
    let e = c.in-Err-NoMemory in
    wanted_draws (plugged_by g.B.PlugBook.lists c.args.plugs.items c.args.customs.items) _ _ c.args.b c.args.trace (e.ensures.no_memory (ap Err e.field-0-is))

pub returns-in-Ok-run-clause-ran : goal.returns-in-Ok-run-clause-ran
returns-in-Ok-run-clause-ran g c =
    let ran = c.in-Ok-run.ran in
    let made = c.after_run in
    subst (λ n. Receipts made.result.status c.args.workers n made.result.ran) (sym made.ensures.run.used)
    (after_run c.args.b c.args.workers ran.used ran.ran made.result.ran made.ensures.ran made.result.status ran.sinks.items ran.trace_failed ran.misfit ran.at_rest made.ensures.run.status c.in-Ok-run.ensures.receipt)
