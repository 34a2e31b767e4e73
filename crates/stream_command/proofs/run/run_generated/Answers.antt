-- The goal of `run::run_generated` that the search leaves.
use Rattle.std.proofs.Common.{inr}
use Rattle.stream_command.proofs.run.run_generated.Goals as goal

pub returns-in-Ok-clause-islands : goal.returns-in-Ok-clause-islands
returns-in-Ok-clause-islands g c =
    inr (record { between = g.F.Folder.state c.generate.new.folder; generates = c.in-Ok.ensures.ok; tells = c.run_command_file.ensures.runs.tells; islands = c.run_command_file.ensures.islands })
