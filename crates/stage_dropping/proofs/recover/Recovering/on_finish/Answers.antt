use Rattle.port_core.specs.Call.{arrives}
use Rattle.elem_core.specs.declared.item.Item.TheVariants as item
use Rattle.std.proofs.Common.{◌∙◌, sym}
use Rattle.stage_dropping.proofs.RecoverCalls.{still_by, ended_by, end_stops}
use Rattle.stage_dropping.proofs.recover.Recovering.on_finish.Goals as goal

pub returns-then-is_still-clause-ports : goal.returns-then-is_still-clause-ports
returns-then-is_still-clause-ports c = (still_by (arrives 0 item.Ended) c.args.self.now c.args.acts.now.items c.requires.empty (sym c.is_still.ensures ∙ c.if-is_still.true) c.requires.open).ports

pub returns-then-is_still-clause-gives : goal.returns-then-is_still-clause-gives
returns-then-is_still-clause-gives c = (still_by (arrives 0 item.Ended) c.args.self.now c.args.acts.now.items c.requires.empty (sym c.is_still.ensures ∙ c.if-is_still.true) c.requires.open).gives

pub returns-then-may_end-clause-ports : goal.returns-then-may_end-clause-ports
returns-then-may_end-clause-ports c = (ended_by c.args.self.now c.complete.new.self c.complete.new.acts.items c.args.port (sym c.is_still.ensures ∙ c.if-is_still.false) c.requires.open c.requires.port c.requires.meets c.complete.ensures.stage c.complete.ensures.acts).ports

pub returns-then-may_end-clause-gives : goal.returns-then-may_end-clause-gives
returns-then-may_end-clause-gives c = (ended_by c.args.self.now c.complete.new.self c.complete.new.acts.items c.args.port (sym c.is_still.ensures ∙ c.if-is_still.false) c.requires.open c.requires.port c.requires.meets c.complete.ensures.stage c.complete.ensures.acts).gives

pub returns-else-may_end-clause-ports : goal.returns-else-may_end-clause-ports
returns-else-may_end-clause-ports c = (end_stops c.args.self.now c.stop.new.self c.args.acts.now.items (sym c.is_still.ensures ∙ c.if-is_still.false) c.requires.open c.requires.meets (sym c.may_end.ensures ∙ c.if-may_end.false) c.stop.ensures c.requires.empty).ports

pub returns-else-may_end-clause-gives : goal.returns-else-may_end-clause-gives
returns-else-may_end-clause-gives c = (end_stops c.args.self.now c.stop.new.self c.args.acts.now.items (sym c.is_still.ensures ∙ c.if-is_still.false) c.requires.open c.requires.meets (sym c.may_end.ensures ∙ c.if-may_end.false) c.stop.ensures c.requires.empty).gives
