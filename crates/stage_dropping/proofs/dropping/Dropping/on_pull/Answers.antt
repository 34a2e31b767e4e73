use Rattle.std.proofs.Common.{◌∙◌, sym, ap, false}
use Rattle.port_core.specs.Call.{pulls}
use Rattle.stage_dropping.specs.Droppings.{Dropping}
use Rattle.stage_dropping.proofs.DropCalls.{Handled, served_fits, stays_still}
use Rattle.stage_dropping.proofs.DropEnters.{asked_idle, asked_open, pulled_so}
use Rattle.stage_dropping.proofs.dropping.Dropping.on_pull.Goals as goal

pub answer-requires-clause-open : goal.answer-requires-clause-open
answer-requires-clause-open c = asked_open c.args.self.now c.make_room.new.self c.want.new.self c.requires.open c.make_room.ensures.kept c.want.ensures

pub answer-requires-clause-idle : goal.answer-requires-clause-idle
answer-requires-clause-idle c = λ none free. asked_idle c.args.self.now c.make_room.new.self c.want.new.self (record { phase_is = c.requires.open; calm = sym (ap (λ (l : Dropping). l.log.stuck) c.self.view_is) ∙ sym c.is_stuck.ensures ∙ c.if-is_stuck.false }) c.requires.meets c.make_room.ensures.kept c.want.ensures none free

pub answer-requires-clause-drops : goal.answer-requires-clause-drops
answer-requires-clause-drops c = (served_fits (pulls 0) c.args.self.now c.make_room.new.self c.want.new.self (record { phase_is = c.requires.open; calm = sym (ap (λ (l : Dropping). l.log.stuck) c.self.view_is) ∙ sym c.is_stuck.ensures ∙ c.if-is_stuck.false }) c.requires.meets c.make_room.ensures.kept c.want.ensures).0

pub answer-requires-clause-few : goal.answer-requires-clause-few
answer-requires-clause-few c = (served_fits (pulls 0) c.args.self.now c.make_room.new.self c.want.new.self (record { phase_is = c.requires.open; calm = sym (ap (λ (l : Dropping). l.log.stuck) c.self.view_is) ∙ sym c.is_stuck.ensures ∙ c.if-is_stuck.false }) c.requires.meets c.make_room.ensures.kept c.want.ensures).1.0

pub answer-requires-clause-fits : goal.answer-requires-clause-fits
answer-requires-clause-fits c = (served_fits (pulls 0) c.args.self.now c.make_room.new.self c.want.new.self (record { phase_is = c.requires.open; calm = sym (ap (λ (l : Dropping). l.log.stuck) c.self.view_is) ∙ sym c.is_stuck.ensures ∙ c.if-is_stuck.false }) c.requires.meets c.make_room.ensures.kept c.want.ensures).1.1.0

pub answer-requires-clause-named : goal.answer-requires-clause-named
answer-requires-clause-named c = (served_fits (pulls 0) c.args.self.now c.make_room.new.self c.want.new.self (record { phase_is = c.requires.open; calm = sym (ap (λ (l : Dropping). l.log.stuck) c.self.view_is) ∙ sym c.is_stuck.ensures ∙ c.if-is_stuck.false }) c.requires.meets c.make_room.ensures.kept c.want.ensures).1.1.1

pub returns-clause-ports : goal.returns-clause-ports
returns-clause-ports c = (pulled_so c.args.self.now c.make_room.new.self c.want.new.self c.answer.new.self c.answer.new.acts.items (record { phase_is = c.requires.open; calm = sym (ap (λ (l : Dropping). l.log.stuck) c.self.view_is) ∙ sym c.is_stuck.ensures ∙ c.if-is_stuck.false }) c.requires.meets c.make_room.ensures.kept c.want.ensures c.answer.ensures.answered).ports

pub returns-clause-gives : goal.returns-clause-gives
returns-clause-gives c = (pulled_so c.args.self.now c.make_room.new.self c.want.new.self c.answer.new.self c.answer.new.acts.items (record { phase_is = c.requires.open; calm = sym (ap (λ (l : Dropping). l.log.stuck) c.self.view_is) ∙ sym c.is_stuck.ensures ∙ c.if-is_stuck.false }) c.requires.meets c.make_room.ensures.kept c.want.ensures c.answer.ensures.answered).gives
