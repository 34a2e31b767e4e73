-- The goal of `run::run_command_file` that the search leaves.
use Rattle.stream_command.specs.Asked.{plugged_by}
use Rattle.stream_command.proofs.Answering.{runs_as}
use Rattle.stream_command.proofs.run.run_command_file.Goals as goal

pub returns-clause-runs : goal.returns-clause-runs
returns-clause-runs g c =
    let e = c.run_file.ensures in
    runs_as (plugged_by g.B.PlugBook.lists c.args.plugs.items c.args.customs.items) c.args.command.now.file _ c.args.command.now.trace _ c.args.command.now.replay c.args.command.now.turns _ _ _ c.as_ref.ensures.value c.as_ref-2.ensures.value
    (record { tells = e.tells; told = e.told; complete = e.complete; causes = e.causes; sinks = e.sinks; no_usage = e.no_usage; reads = e.reads; reads_moves = e.reads_moves })
