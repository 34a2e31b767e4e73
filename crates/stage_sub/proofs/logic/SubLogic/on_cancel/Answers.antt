use Rattle.std.proofs.Common.{ap, sym, ◌∙◌}
use Rattle.port_core.specs.Call.{cancels}
use Rattle.stage_sub.specs.Leds.{Led}
use Rattle.stage_sub.proofs.LedHandlers.{as_led, as_unled, unled_ports, unled_meets}
use Rattle.stage_sub.proofs.logic.SubLogic.on_cancel.Goals as goal

pub leave_by-requires-clause-follows : goal.leave_by-requires-clause-follows
leave_by-requires-clause-follows g c = λ lts lives e. c.follows.ensures.yes c.if-follows.true (ap (λ (l : Led _). l.left) c.self.view_is ∙ e)

pub leave_freely-requires-clause-free : goal.leave_freely-requires-clause-free
leave_freely-requires-clause-free g c = λ lts lives. sym (ap (λ (l : Led _). l.left) c.self.view_is) ∙ c.follows.ensures.no c.if-follows.false

pub leave_freely-requires-clause-meets : goal.leave_freely-requires-clause-meets
leave_freely-requires-clause-meets g c = λ lts lives. unled_meets (cancels 0) c.args.self.now (sym (ap (λ (l : Led _). l.left) c.self.view_is) ∙ c.follows.ensures.no c.if-follows.false) c.requires.meets

pub returns-then-follows-clause-gives : goal.returns-then-follows-clause-gives
returns-then-follows-clause-gives g c = as_led g.C.Chain.whole g.C.Chain.rest g.C.Chain.is_open (cancels 0) c.args.self.now c.leave_by.new.self c.leave_by.new.acts.items c.leave_by.result (λ e. c.follows.ensures.yes c.if-follows.true (ap (λ (l : Led _). l.left) c.self.view_is ∙ e)) c.leave_by.ensures.gives

pub returns-else-follows-clause-ports : goal.returns-else-follows-clause-ports
returns-else-follows-clause-ports g c = unled_ports g.C.Chain.whole g.C.Chain.rest g.C.Chain.is_open (cancels 0) c.args.self.now c.leave_freely.new.self c.leave_freely.new.acts.items c.leave_freely.result (sym (ap (λ (l : Led _). l.left) c.self.view_is) ∙ c.follows.ensures.no c.if-follows.false) c.leave_freely.ensures.gives c.leave_freely.ensures.ports

pub returns-else-follows-clause-gives : goal.returns-else-follows-clause-gives
returns-else-follows-clause-gives g c = as_unled g.C.Chain.whole g.C.Chain.rest g.C.Chain.is_open (cancels 0) c.args.self.now c.leave_freely.new.self c.leave_freely.new.acts.items c.leave_freely.result (sym (ap (λ (l : Led _). l.left) c.self.view_is) ∙ c.follows.ensures.no c.if-follows.false) c.leave_freely.ensures.gives
