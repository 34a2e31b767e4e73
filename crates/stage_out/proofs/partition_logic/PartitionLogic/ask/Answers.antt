use Rattle.std.proofs.Common.{refl}
use Rattle.stage_out.proofs.Parted.{got, got_none}
use Rattle.stage_out.proofs.partition_logic.PartitionLogic.ask.Goals as goal

pub returns-in-Some-clause-does : goal.returns-in-Some-clause-does
returns-in-Some-clause-does c = got c.args.port c.args.self.now c.take_for.new.self c.move_on.new.self c.move_on.new.acts.items c.take_for.result c.in-Some.e c.take_for.ensures (search) c.move_on.ensures.stage (rw (c.move_on.ensures.acts, c.add.ensures, c.requires.empty) refl)

pub returns-in-None-clause-does : goal.returns-in-None-clause-does
returns-in-None-clause-does c = got_none c.args.port c.args.self.now c.take_for.new.self c.note.new.self c.note.new.acts.items c.take_for.result c.take_for.ensures (search) c.note.ensures.does
