-- A command as what it asks for.
use Rattle.std.specs.Prelude.{option_map}
use Rattle.run_report.specs.Asking.{Asked}
use Rattle.run_report.specs.declared.command.Command.{Command}
use Rattle.run_report.specs.declared.command.Choice.{Choice}

-- what a command of the code asks for
abbrev pub asked : Command → Asked
asked c = record { file = c.file; generated = c.generated; workers = c.workers; turns = c.turns; trace = c.trace; replay = c.replay }

-- a choice as what it asks for
abbrev pub chosen : Choice → Asked
chosen c = record {
  file = c.file.now;
  generated = c.generated;
  workers = c.workers;
  turns = c.turns;
  trace = option_map (λ path. path.now) c.trace;
  replay = option_map (λ path. path.now) c.replay;
}
