use Rattle.port_core.specs.Call.{arrives}
use Rattle.elem_core.specs.declared.item.Item.TheVariants as item
use Rattle.std.proofs.Common.{◌∙◌, sym}
use Rattle.stage_dropping.proofs.RecoverCalls.{still_by, notes, own_kept, turned_by, fail_stops}
use Rattle.stage_dropping.proofs.recover.Recovering.on_fail.Goals as goal

pub returns-then-is_still-clause-ports : goal.returns-then-is_still-clause-ports
returns-then-is_still-clause-ports c = (still_by (arrives 0 (item.Failed c.args.cause)) c.args.self.now c.args.acts.now.items c.requires.empty (sym c.is_still.ensures ∙ c.if-is_still.true) c.requires.open).ports

pub returns-then-is_still-clause-gives : goal.returns-then-is_still-clause-gives
returns-then-is_still-clause-gives c = (still_by (arrives 0 (item.Failed c.args.cause)) c.args.self.now c.args.acts.now.items c.requires.empty (sym c.is_still.ensures ∙ c.if-is_still.true) c.requires.open).gives

pub note_turn-requires : goal.note_turn-requires
note_turn-requires c = record { next = notes c.args.self.now (sym c.may_turn.ensures ∙ c.if-may_turn.true) }

pub turn-requires-clause-own : goal.turn-requires-clause-own
turn-requires-clause-own c = own_kept c.args.self.now c.note_turn.new.self c.args.cause (sym c.is_still.ensures ∙ c.if-is_still.false) c.requires.open c.requires.meets c.in_ok-note_turn.ensures.noted

pub returns-in_ok-note_turn-clause-ports : goal.returns-in_ok-note_turn-clause-ports
returns-in_ok-note_turn-clause-ports c = (turned_by c.args.self.now c.note_turn.new.self c.turn.new.self c.turn.new.acts.items c.args.cause (sym c.is_still.ensures ∙ c.if-is_still.false) c.requires.open c.requires.meets (sym c.may_turn.ensures ∙ c.if-may_turn.true) c.in_ok-note_turn.ensures.noted c.turn.ensures.waits c.turn.ensures.stage c.turn.ensures.acts).ports

pub returns-in_ok-note_turn-clause-gives : goal.returns-in_ok-note_turn-clause-gives
returns-in_ok-note_turn-clause-gives c = (turned_by c.args.self.now c.note_turn.new.self c.turn.new.self c.turn.new.acts.items c.args.cause (sym c.is_still.ensures ∙ c.if-is_still.false) c.requires.open c.requires.meets (sym c.may_turn.ensures ∙ c.if-may_turn.true) c.in_ok-note_turn.ensures.noted c.turn.ensures.waits c.turn.ensures.stage c.turn.ensures.acts).gives

pub returns-else-may_turn-clause-ports : goal.returns-else-may_turn-clause-ports
returns-else-may_turn-clause-ports c = (fail_stops c.args.self.now c.stop.new.self c.args.acts.now.items c.args.cause (sym c.is_still.ensures ∙ c.if-is_still.false) c.requires.open c.requires.meets (sym c.may_turn.ensures ∙ c.if-may_turn.false) c.stop.ensures c.requires.empty).ports

pub returns-else-may_turn-clause-gives : goal.returns-else-may_turn-clause-gives
returns-else-may_turn-clause-gives c = (fail_stops c.args.self.now c.stop.new.self c.args.acts.now.items c.args.cause (sym c.is_still.ensures ∙ c.if-is_still.false) c.requires.open c.requires.meets (sym c.may_turn.ensures ∙ c.if-may_turn.false) c.stop.ensures c.requires.empty).gives
