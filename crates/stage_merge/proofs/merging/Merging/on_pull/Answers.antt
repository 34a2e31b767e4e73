use Rattle.std.proofs.Common.{◌∙◌, sym, ap}
use Rattle.stage_merge.specs.Mergings.{Merging}
use Rattle.port_core.specs.Call.{pulls}
use Rattle.stage_merge.proofs.Mergers.{asked_by, queue_there, wanted_there, chosen_out, stopped_gives_none}
use Rattle.stage_merge.proofs.merging.Merging.on_pull.Goals as goal

pub serve-requires-clause-there : goal.serve-requires-clause-there
serve-requires-clause-there c = wanted_there c.args.self.now c.make_room.new.self c.want.new.self c.make_room.ensures.kept c.want.ensures (queue_there (pulls 0) c.args.self.now (record { phase_is = c.requires.open; calm = sym (ap (λ (l : Merging). l.log.stuck) c.self.view_is) ∙ sym c.is_stuck.ensures ∙ c.if-is_stuck.false }) c.requires.meets)

pub returns-clause-ports : goal.returns-clause-ports
returns-clause-ports c = (asked_by c.args.self.now c.make_room.new.self c.want.new.self c.serve.new.self c.serve.new.acts.items (record { phase_is = c.requires.open; calm = sym (ap (λ (l : Merging). l.log.stuck) c.self.view_is) ∙ sym c.is_stuck.ensures ∙ c.if-is_stuck.false }) c.requires.meets c.make_room.ensures.kept c.want.ensures c.serve.ensures.served).ports

pub returns-clause-gives : goal.returns-clause-gives
returns-clause-gives c = (asked_by c.args.self.now c.make_room.new.self c.want.new.self c.serve.new.self c.serve.new.acts.items (record { phase_is = c.requires.open; calm = sym (ap (λ (l : Merging). l.log.stuck) c.self.view_is) ∙ sym c.is_stuck.ensures ∙ c.if-is_stuck.false }) c.requires.meets c.make_room.ensures.kept c.want.ensures c.serve.ensures.served).gives

pub returns-then-is_stuck-clause-order : goal.returns-then-is_stuck-clause-order
returns-then-is_stuck-clause-order c = stopped_gives_none c.args.self.now (sym (ap (λ (l : Merging). l.log.stuck) c.self.view_is) ∙ sym c.is_stuck.ensures ∙ c.if-is_stuck.true)

pub returns-clause-order : goal.returns-clause-order
returns-clause-order c = chosen_out c.args.self.now c.make_room.new.self c.want.new.self c.serve.new.self c.serve.new.acts.items c.make_room.ensures.kept c.want.ensures c.serve.ensures.served
