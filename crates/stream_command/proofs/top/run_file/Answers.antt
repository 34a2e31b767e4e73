use Rattle.std.specs.Option.{option_copied}
use Rattle.stream_command.specs.Asked.{plugged_by}
use Rattle.stream_command.proofs.Completing.{complete}
use Rattle.stream_command.proofs.top.run_file.Goals as goal

pub returns-clause-complete : goal.returns-clause-complete
returns-clause-complete g c =
    λ tells valid calm. complete c.a_text_has_one_reading.ensures.never (plugged_by g.B.PlugBook.lists c.args.plugs.items c.args.customs.items) (record { file = c.args.file.now; trace = option_copied c.args.trace; replay = option_copied c.args.replay; turns = c.args.turns }) _ _ _ c.run_file-status.ensures.told tells valid calm
