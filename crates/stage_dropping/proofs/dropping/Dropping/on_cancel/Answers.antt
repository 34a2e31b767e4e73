use Rattle.std.proofs.Common.{◌∙◌, sym, ap}
use Rattle.stage_dropping.specs.Droppings.{Dropping}
use Rattle.stage_dropping.proofs.DropCalls.{Handled, left_so, stays_still}
use Rattle.stage_dropping.proofs.dropping.Dropping.on_cancel.Goals as goal

pub returns-then-not-is_stuck-clause-ports : goal.returns-then-not-is_stuck-clause-ports
returns-then-not-is_stuck-clause-ports c = (left_so c.args.self.now c.leave.new.self c.leave.new.acts.items (record { phase_is = c.requires.open; calm = sym (ap (λ (l : Dropping). l.log.stuck) c.self.view_is) ∙ sym c.is_stuck.ensures ∙ c.if-not-is_stuck.true }) c.requires.meets c.leave.ensures.state c.leave.ensures.acts).ports

pub returns-then-not-is_stuck-clause-gives : goal.returns-then-not-is_stuck-clause-gives
returns-then-not-is_stuck-clause-gives c = (left_so c.args.self.now c.leave.new.self c.leave.new.acts.items (record { phase_is = c.requires.open; calm = sym (ap (λ (l : Dropping). l.log.stuck) c.self.view_is) ∙ sym c.is_stuck.ensures ∙ c.if-not-is_stuck.true }) c.requires.meets c.leave.ensures.state c.leave.ensures.acts).gives
