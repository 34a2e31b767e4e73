use Rattle.std.proofs.Common.{◌∙◌, sym, ap, false}
use Rattle.stage_dropping.specs.Droppings.{Dropping}
use Rattle.stage_dropping.proofs.DropCalls.{Handled, stays_still}
use Rattle.stage_dropping.proofs.DropEnters.{enters_now, comes_asked, came_so}
use Rattle.stage_dropping.proofs.dropping.Dropping.on_push.Goals as goal

pub enter-requires-clause-enters : goal.enter-requires-clause-enters
enter-requires-clause-enters c = enters_now c.args.self.now c.make_room.new.self c.args.e (record { phase_is = c.requires.open; calm = sym (ap (λ (l : Dropping). l.log.stuck) c.self.view_is) ∙ sym c.is_stuck.ensures ∙ c.if-is_stuck.false }) c.requires.meets c.in_ok-may_count.ensures.fits c.make_room.ensures.kept

pub enter-requires-clause-going : goal.enter-requires-clause-going
enter-requires-clause-going c = (comes_asked c.args.self.now c.make_room.new.self c.args.e (record { phase_is = c.requires.open; calm = sym (ap (λ (l : Dropping). l.log.stuck) c.self.view_is) ∙ sym c.is_stuck.ensures ∙ c.if-is_stuck.false }) c.requires.meets c.make_room.ensures.kept).0

pub enter-requires-clause-pulled : goal.enter-requires-clause-pulled
enter-requires-clause-pulled c = (comes_asked c.args.self.now c.make_room.new.self c.args.e (record { phase_is = c.requires.open; calm = sym (ap (λ (l : Dropping). l.log.stuck) c.self.view_is) ∙ sym c.is_stuck.ensures ∙ c.if-is_stuck.false }) c.requires.meets c.make_room.ensures.kept).1

pub returns-clause-ports : goal.returns-clause-ports
returns-clause-ports c = (came_so c.args.self.now c.make_room.new.self c.enter.new.self c.enter.new.acts.items c.args.e (record { phase_is = c.requires.open; calm = sym (ap (λ (l : Dropping). l.log.stuck) c.self.view_is) ∙ sym c.is_stuck.ensures ∙ c.if-is_stuck.false }) c.requires.meets c.in_ok-may_count.ensures.fits c.make_room.ensures.kept c.enter.ensures.answered).ports

pub returns-clause-gives : goal.returns-clause-gives
returns-clause-gives c = (came_so c.args.self.now c.make_room.new.self c.enter.new.self c.enter.new.acts.items c.args.e (record { phase_is = c.requires.open; calm = sym (ap (λ (l : Dropping). l.log.stuck) c.self.view_is) ∙ sym c.is_stuck.ensures ∙ c.if-is_stuck.false }) c.requires.meets c.in_ok-may_count.ensures.fits c.make_room.ensures.kept c.enter.ensures.answered).gives
