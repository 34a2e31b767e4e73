use Rattle.port_core.specs.Call.{cancels}
use Rattle.std.proofs.Common.{◌∙◌, sym}
use Rattle.stage_dropping.proofs.RecoverCalls.{still_by, left_by}
use Rattle.stage_dropping.proofs.recover.Recovering.on_cancel.Goals as goal

pub returns-then-is_still-clause-ports : goal.returns-then-is_still-clause-ports
returns-then-is_still-clause-ports c = (still_by (cancels 0) c.args.self.now c.args.acts.now.items c.requires.empty (sym c.is_still.ensures ∙ c.if-is_still.true) c.requires.open).ports

pub returns-then-is_still-clause-gives : goal.returns-then-is_still-clause-gives
returns-then-is_still-clause-gives c = (still_by (cancels 0) c.args.self.now c.args.acts.now.items c.requires.empty (sym c.is_still.ensures ∙ c.if-is_still.true) c.requires.open).gives

pub returns-clause-ports : goal.returns-clause-ports
returns-clause-ports c = (left_by c.args.self.now c.leave.new.self c.leave.new.acts.items c.args.port (sym c.is_still.ensures ∙ c.if-is_still.false) c.requires.open c.requires.port c.requires.meets c.leave.ensures.stage c.leave.ensures.going c.leave.ensures.over).ports

pub returns-clause-gives : goal.returns-clause-gives
returns-clause-gives c = (left_by c.args.self.now c.leave.new.self c.leave.new.acts.items c.args.port (sym c.is_still.ensures ∙ c.if-is_still.false) c.requires.open c.requires.port c.requires.meets c.leave.ensures.stage c.leave.ensures.going c.leave.ensures.over).gives
