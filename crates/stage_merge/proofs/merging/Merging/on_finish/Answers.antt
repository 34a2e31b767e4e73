use Rattle.std.proofs.Common.{◌∙◌, sym, ap}
use Rattle.stage_merge.specs.Mergings.{Merging}
use Rattle.elem_core.specs.declared.item.Item.TheVariants as item
use Rattle.stage_merge.proofs.Mergers.{finished_by, port_there, some_open}
use Rattle.stage_merge.proofs.merging.Merging.on_finish.Goals as goal

pub finish-requires-clause-there : goal.finish-requires-clause-there
finish-requires-clause-there c = port_there c.args.self.now c.args.port item.Ended (record { phase_is = c.requires.open; calm = sym (ap (λ (l : Merging). l.log.stuck) c.self.view_is) ∙ sym c.is_stuck.ensures ∙ c.if-not-is_stuck.true }) (λ h. h) c.requires.meets

pub finish-requires-clause-some : goal.finish-requires-clause-some
finish-requires-clause-some c = some_open c.args.self.now c.args.port (record { phase_is = c.requires.open; calm = sym (ap (λ (l : Merging). l.log.stuck) c.self.view_is) ∙ sym c.is_stuck.ensures ∙ c.if-not-is_stuck.true }) c.requires.meets

pub returns-then-not-is_stuck-clause-ports : goal.returns-then-not-is_stuck-clause-ports
returns-then-not-is_stuck-clause-ports c = (finished_by c.args.self.now c.finish.new.self c.finish.new.acts.items c.args.port (record { phase_is = c.requires.open; calm = sym (ap (λ (l : Merging). l.log.stuck) c.self.view_is) ∙ sym c.is_stuck.ensures ∙ c.if-not-is_stuck.true }) c.requires.meets c.finish.ensures.ended).ports

pub returns-then-not-is_stuck-clause-gives : goal.returns-then-not-is_stuck-clause-gives
returns-then-not-is_stuck-clause-gives c = (finished_by c.args.self.now c.finish.new.self c.finish.new.acts.items c.args.port (record { phase_is = c.requires.open; calm = sym (ap (λ (l : Merging). l.log.stuck) c.self.view_is) ∙ sym c.is_stuck.ensures ∙ c.if-not-is_stuck.true }) c.requires.meets c.finish.ensures.ended).gives
