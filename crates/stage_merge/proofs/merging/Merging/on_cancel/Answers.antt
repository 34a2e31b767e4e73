use Rattle.std.proofs.Common.{◌∙◌, sym, ap}
use Rattle.stage_merge.specs.Mergings.{Merging}
use Rattle.stage_merge.proofs.Mergers.{left_on}
use Rattle.stage_merge.proofs.merging.Merging.on_cancel.Goals as goal

pub returns-then-not-is_stuck-clause-ports : goal.returns-then-not-is_stuck-clause-ports
returns-then-not-is_stuck-clause-ports c = (left_on c.args.self.now c.leave.new.self c.leave.new.acts.items (record { phase_is = c.requires.open; calm = sym (ap (λ (l : Merging). l.log.stuck) c.self.view_is) ∙ sym c.is_stuck.ensures ∙ c.if-not-is_stuck.true }) c.leave.ensures.does).ports

pub returns-then-not-is_stuck-clause-gives : goal.returns-then-not-is_stuck-clause-gives
returns-then-not-is_stuck-clause-gives c = (left_on c.args.self.now c.leave.new.self c.leave.new.acts.items (record { phase_is = c.requires.open; calm = sym (ap (λ (l : Merging). l.log.stuck) c.self.view_is) ∙ sym c.is_stuck.ensures ∙ c.if-not-is_stuck.true }) c.leave.ensures.does).gives
