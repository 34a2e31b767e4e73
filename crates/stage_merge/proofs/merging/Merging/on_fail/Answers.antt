use Rattle.std.proofs.Common.{◌∙◌, sym, ap}
use Rattle.elem_core.specs.declared.item.Item.TheVariants as item
use Rattle.stage_merge.specs.Mergings.{Merging, port_state}
use Rattle.stage_merge.proofs.Mergers.{lost_on, stopped_loses, meets_end, port_there, some_open}
use Rattle.stage_merge.proofs.merging.Merging.on_fail.Goals as goal

pub lose-requires-clause-there : goal.lose-requires-clause-there
lose-requires-clause-there c = port_there c.args.self.now c.args.port (item.Failed c.args.cause) (record { phase_is = c.requires.open; calm = sym (ap (λ (l : Merging). l.log.stuck) c.self.view_is) ∙ sym c.is_stuck.ensures ∙ c.if-not-is_stuck.true }) (λ h. h) c.requires.meets

pub lose-requires-clause-some : goal.lose-requires-clause-some
lose-requires-clause-some c = some_open c.args.self.now c.args.port (record { phase_is = c.requires.open; calm = sym (ap (λ (l : Merging). l.log.stuck) c.self.view_is) ∙ sym c.is_stuck.ensures ∙ c.if-not-is_stuck.true }) (meets_end c.args.port c.args.cause (port_state c.args.self.now) c.requires.meets)

pub returns-then-not-is_stuck-clause-ports : goal.returns-then-not-is_stuck-clause-ports
returns-then-not-is_stuck-clause-ports c = (lost_on c.args.self.now c.lose.new.self c.lose.new.acts.items c.args.port c.args.cause (record { phase_is = c.requires.open; calm = sym (ap (λ (l : Merging). l.log.stuck) c.self.view_is) ∙ sym c.is_stuck.ensures ∙ c.if-not-is_stuck.true }) c.requires.meets c.lose.ensures.lost).ports

pub returns-then-not-is_stuck-clause-gives : goal.returns-then-not-is_stuck-clause-gives
returns-then-not-is_stuck-clause-gives c = (lost_on c.args.self.now c.lose.new.self c.lose.new.acts.items c.args.port c.args.cause (record { phase_is = c.requires.open; calm = sym (ap (λ (l : Merging). l.log.stuck) c.self.view_is) ∙ sym c.is_stuck.ensures ∙ c.if-not-is_stuck.true }) c.requires.meets c.lose.ensures.lost).gives
