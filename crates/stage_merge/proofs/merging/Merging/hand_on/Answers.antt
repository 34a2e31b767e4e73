use Rattle.std.proofs.Common.{refl}
use Rattle.stage_merge.proofs.Mergers.{handed_on}
use Rattle.stage_merge.proofs.merging.Merging.hand_on.Goals as goal

pub returns-clause-handed : goal.returns-clause-handed
returns-clause-handed c =
    handed_on c.args.self.now c.self.inside.log c.note.new.self c.self.inside.gathers _ c.args.port c.args.e c.ask_again.new.self _ c.ask_again.new.acts.items c.self.view_is c.note.ensures (rw (c.add.ensures, c.requires.empty) refl) c.ask_again.ensures.again
