use Rattle.std.proofs.Common.{rules, arith, sym, ◌∙◌}
use Rattle.stage_switch.proofs.Keeps.{looks}
use Rattle.stage_switch.proofs.Gathering.{settled_known, settled_given}
use Rattle.stage_switch.proofs.switch.Switch.settle.Goals as goal

pub load-requires : goal.load-requires
load-requires c = let parts = c.gather-all.ensures.seat.2 in let all = c.requires.all in let some = c.requires.some in
    (search rules, search rules, looks _ _ _ _ (omega arith))

pub returns-clause-known : goal.returns-clause-known
returns-clause-known c = let told = c.load.ensures.2 in settled_known _ _ _ _ c.order_at.ensures told.1.0 c.gather-all.ensures.gathers

pub returns-clause-given : goal.returns-clause-given
returns-clause-given c = let told = c.load.ensures.2 in let seat = c.gather-all.ensures.seat in
    settled_given _ _ _ _ c.order_at.ensures told.1.1.0 (told.1.1.1.1 (seat.2 ∙ c.requires.all ∙ sym seat.3)) c.gather-all.ensures.gathers
