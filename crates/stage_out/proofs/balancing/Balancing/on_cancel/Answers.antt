use Rattle.std.proofs.Common.{◌∙◌, sym, ap}
use Rattle.stage_out.specs.Balancings.{Balancing}
use Rattle.stage_out.proofs.Comings.{lost, lost_there, lost_some, lost_serve, lost_order, stopped_left, stopped_others}
use Rattle.stage_out.proofs.balancing.Balancing.on_cancel.Goals as goal

pub lose-requires-clause-there : goal.lose-requires-clause-there
lose-requires-clause-there c = lost_there c.args.self.now c.args.port (record { live = c.requires.live; calm = sym (ap (λ (l : Balancing). l.log.stuck) c.self.view_is) ∙ sym c.is_stuck.ensures ∙ c.if-not-is_stuck.true }) c.requires.meets

pub lose-requires-clause-some : goal.lose-requires-clause-some
lose-requires-clause-some c = lost_some c.args.self.now c.args.port (record { live = c.requires.live; calm = sym (ap (λ (l : Balancing). l.log.stuck) c.self.view_is) ∙ sym c.is_stuck.ensures ∙ c.if-not-is_stuck.true }) c.requires.meets

pub lose-requires-clause-may : goal.lose-requires-clause-may
lose-requires-clause-may c = lost_serve c.args.self.now c.args.port (record { live = c.requires.live; calm = sym (ap (λ (l : Balancing). l.log.stuck) c.self.view_is) ∙ sym c.is_stuck.ensures ∙ c.if-not-is_stuck.true }) c.requires.meets

pub returns-then-not-is_stuck-clause-ports : goal.returns-then-not-is_stuck-clause-ports
returns-then-not-is_stuck-clause-ports c = (lost c.args.self.now c.lose.new.self c.lose.new.acts.items c.args.port (record { live = c.requires.live; calm = sym (ap (λ (l : Balancing). l.log.stuck) c.self.view_is) ∙ sym c.is_stuck.ensures ∙ c.if-not-is_stuck.true }) c.requires.meets c.lose.ensures.lost).ports

pub returns-then-not-is_stuck-clause-gives : goal.returns-then-not-is_stuck-clause-gives
returns-then-not-is_stuck-clause-gives c = (lost c.args.self.now c.lose.new.self c.lose.new.acts.items c.args.port (record { live = c.requires.live; calm = sym (ap (λ (l : Balancing). l.log.stuck) c.self.view_is) ∙ sym c.is_stuck.ensures ∙ c.if-not-is_stuck.true }) c.requires.meets c.lose.ensures.lost).gives

pub returns-then-not-is_stuck-clause-order : goal.returns-then-not-is_stuck-clause-order
returns-then-not-is_stuck-clause-order c = lost_order c.args.self.now c.lose.new.self c.lose.new.acts.items c.args.port (record { live = c.requires.live; calm = sym (ap (λ (l : Balancing). l.log.stuck) c.self.view_is) ∙ sym c.is_stuck.ensures ∙ c.if-not-is_stuck.true }) c.requires.meets c.lose.ensures.lost

pub returns-else-not-is_stuck-clause-ports : goal.returns-else-not-is_stuck-clause-ports
returns-else-not-is_stuck-clause-ports c = (stopped_left c.args.self.now c.args.acts.now.items c.args.port c.requires.empty c.requires.live (sym (ap (λ (l : Balancing). l.log.stuck) c.self.view_is) ∙ sym c.is_stuck.ensures ∙ c.if-not-is_stuck.false) c.requires.meets).ports

pub returns-else-not-is_stuck-clause-gives : goal.returns-else-not-is_stuck-clause-gives
returns-else-not-is_stuck-clause-gives c = (stopped_left c.args.self.now c.args.acts.now.items c.args.port c.requires.empty c.requires.live (sym (ap (λ (l : Balancing). l.log.stuck) c.self.view_is) ∙ sym c.is_stuck.ensures ∙ c.if-not-is_stuck.false) c.requires.meets).gives

pub returns-else-not-is_stuck-clause-order : goal.returns-else-not-is_stuck-clause-order
returns-else-not-is_stuck-clause-order c = stopped_others c.args.self.now c.args.port (sym (ap (λ (l : Balancing). l.log.stuck) c.self.view_is) ∙ sym c.is_stuck.ensures ∙ c.if-not-is_stuck.false)
