use Rattle.std.proofs.Common.{refl}
use Rattle.stage_out.proofs.Parted.{over_some}
use Rattle.stage_out.proofs.partition_logic.PartitionLogic.pass_over.Goals as goal

pub returns-in-Some-clause-does : goal.returns-in-Some-clause-does
returns-in-Some-clause-does c = over_some c.args.port c.args.self.now c.take_for.new.self c.move_on.new.self c.move_on.new.acts.items c.take_for.result c.in-Some._e c.take_for.ensures (search) c.move_on.ensures.stage (rw (c.move_on.ensures.acts, c.requires.empty) refl)
