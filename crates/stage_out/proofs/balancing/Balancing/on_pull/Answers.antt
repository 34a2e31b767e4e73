use Rattle.std.proofs.Common.{◌∙◌, sym, ap}
use Rattle.stage_out.specs.Balancings.{Balancing}
use Rattle.stage_out.proofs.Comings.{answered, asked_there, asked_fits, asked_may, last_in_line, stopped_asked, stopped_first}
use Rattle.stage_out.proofs.balancing.Balancing.on_pull.Goals as goal

pub line_up-requires-clause-there : goal.line_up-requires-clause-there
line_up-requires-clause-there c = asked_there c.args.self.now c.make_room.new.self c.args.port (record { live = c.requires.live; calm = sym (ap (λ (l : Balancing). l.log.stuck) c.self.view_is) ∙ sym c.is_stuck.ensures ∙ c.if-is_stuck.false }) c.make_room.ensures.kept c.requires.meets

pub line_up-requires-clause-fits : goal.line_up-requires-clause-fits
line_up-requires-clause-fits c = asked_fits c.args.self.now c.make_room.new.self c.args.port (record { live = c.requires.live; calm = sym (ap (λ (l : Balancing). l.log.stuck) c.self.view_is) ∙ sym c.is_stuck.ensures ∙ c.if-is_stuck.false }) c.make_room.ensures.kept c.requires.meets

pub serve-requires-clause-may : goal.serve-requires-clause-may
serve-requires-clause-may c = asked_may c.args.self.now c.make_room.new.self c.line_up.new.self c.args.port (record { live = c.requires.live; calm = sym (ap (λ (l : Balancing). l.log.stuck) c.self.view_is) ∙ sym c.is_stuck.ensures ∙ c.if-is_stuck.false }) c.make_room.ensures.kept c.in_ok-make_room.ensures.room c.line_up.ensures c.requires.meets

pub returns-then-is_stuck-clause-ports : goal.returns-then-is_stuck-clause-ports
returns-then-is_stuck-clause-ports c = (stopped_asked c.args.self.now c.args.acts.now.items c.args.port c.requires.empty c.requires.live (sym (ap (λ (l : Balancing). l.log.stuck) c.self.view_is) ∙ sym c.is_stuck.ensures ∙ c.if-is_stuck.true) c.requires.meets).ports

pub returns-then-is_stuck-clause-gives : goal.returns-then-is_stuck-clause-gives
returns-then-is_stuck-clause-gives c = (stopped_asked c.args.self.now c.args.acts.now.items c.args.port c.requires.empty c.requires.live (sym (ap (λ (l : Balancing). l.log.stuck) c.self.view_is) ∙ sym c.is_stuck.ensures ∙ c.if-is_stuck.true) c.requires.meets).gives

pub returns-then-is_stuck-clause-order : goal.returns-then-is_stuck-clause-order
returns-then-is_stuck-clause-order c = stopped_first c.args.self.now c.args.port (sym (ap (λ (l : Balancing). l.log.stuck) c.self.view_is) ∙ sym c.is_stuck.ensures ∙ c.if-is_stuck.true)

pub returns-clause-ports : goal.returns-clause-ports
returns-clause-ports c = (answered c.args.self.now c.make_room.new.self c.line_up.new.self c.serve.new.self c.serve.new.acts.items c.args.port (record { live = c.requires.live; calm = sym (ap (λ (l : Balancing). l.log.stuck) c.self.view_is) ∙ sym c.is_stuck.ensures ∙ c.if-is_stuck.false }) c.make_room.ensures.kept c.line_up.ensures c.requires.meets c.serve.ensures.serves).ports

pub returns-clause-gives : goal.returns-clause-gives
returns-clause-gives c = (answered c.args.self.now c.make_room.new.self c.line_up.new.self c.serve.new.self c.serve.new.acts.items c.args.port (record { live = c.requires.live; calm = sym (ap (λ (l : Balancing). l.log.stuck) c.self.view_is) ∙ sym c.is_stuck.ensures ∙ c.if-is_stuck.false }) c.make_room.ensures.kept c.line_up.ensures c.requires.meets c.serve.ensures.serves).gives

pub returns-clause-order : goal.returns-clause-order
returns-clause-order c = last_in_line c.args.self.now c.make_room.new.self c.line_up.new.self c.serve.new.self c.serve.new.acts.items c.args.port c.make_room.ensures.kept c.line_up.ensures c.serve.ensures.serves
