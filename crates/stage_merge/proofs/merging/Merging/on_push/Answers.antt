use Rattle.std.proofs.Common.{◌∙◌, sym, ap}
use Rattle.stage_merge.specs.Mergings.{Merging}
use Rattle.elem_core.specs.declared.item.Item.TheVariants as item
use Rattle.stage_merge.proofs.Mergers.{pushed_by, push_there, there_mid, fits, last_in, stopped_stores_none}
use Rattle.stage_merge.proofs.merging.Merging.on_push.Goals as goal

pub take-requires-clause-fits : goal.take-requires-clause-fits
take-requires-clause-fits c = fits c.args.self.now c.make_room.new.self c.args.port c.args.e (record { phase_is = c.requires.open; calm = sym (ap (λ (l : Merging). l.log.stuck) c.self.view_is) ∙ sym c.is_stuck.ensures ∙ c.if-is_stuck.false }) c.requires.meets c.make_room.ensures.kept

pub take-requires-clause-there : goal.take-requires-clause-there
take-requires-clause-there c = there_mid c.args.self.now c.make_room.new.self c.args.port c.make_room.ensures.kept (push_there c.args.self.now c.args.port c.args.e (record { phase_is = c.requires.open; calm = sym (ap (λ (l : Merging). l.log.stuck) c.self.view_is) ∙ sym c.is_stuck.ensures ∙ c.if-is_stuck.false }) c.requires.meets)

pub returns-clause-ports : goal.returns-clause-ports
returns-clause-ports c = (pushed_by c.args.self.now c.make_room.new.self c.take.new.self c.take.new.acts.items c.args.port c.args.e (record { phase_is = c.requires.open; calm = sym (ap (λ (l : Merging). l.log.stuck) c.self.view_is) ∙ sym c.is_stuck.ensures ∙ c.if-is_stuck.false }) c.requires.meets c.make_room.ensures.kept c.take.ensures.took).ports

pub returns-clause-gives : goal.returns-clause-gives
returns-clause-gives c = (pushed_by c.args.self.now c.make_room.new.self c.take.new.self c.take.new.acts.items c.args.port c.args.e (record { phase_is = c.requires.open; calm = sym (ap (λ (l : Merging). l.log.stuck) c.self.view_is) ∙ sym c.is_stuck.ensures ∙ c.if-is_stuck.false }) c.requires.meets c.make_room.ensures.kept c.take.ensures.took).gives

pub returns-then-is_stuck-clause-order : goal.returns-then-is_stuck-clause-order
returns-then-is_stuck-clause-order c = stopped_stores_none c.args.self.now c.args.port c.args.e (sym (ap (λ (l : Merging). l.log.stuck) c.self.view_is) ∙ sym c.is_stuck.ensures ∙ c.if-is_stuck.true)

pub returns-clause-order : goal.returns-clause-order
returns-clause-order c = last_in c.args.self.now c.make_room.new.self c.take.new.self c.take.new.acts.items c.args.port c.args.e c.make_room.ensures.kept c.take.ensures.took
