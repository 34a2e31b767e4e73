use Rattle.std.proofs.Common.{ap, sym, ◌∙◌}
use Rattle.port_core.specs.Call.{pulls}
use Rattle.stage_sub.specs.Leds.{Led}
use Rattle.stage_sub.proofs.LedHandlers.{as_led, as_unled, unled_ports, unled_meets}
use Rattle.stage_sub.proofs.logic.SubLogic.on_pull.Goals as goal

pub pull_by-requires-clause-follows : goal.pull_by-requires-clause-follows
pull_by-requires-clause-follows g c = λ lts lives e. c.follows.ensures.yes c.if-follows.true (ap (λ (l : Led _). l.left) c.self.view_is ∙ e)

pub pull_freely-requires-clause-free : goal.pull_freely-requires-clause-free
pull_freely-requires-clause-free g c = λ lts lives. sym (ap (λ (l : Led _). l.left) c.self.view_is) ∙ c.follows.ensures.no c.if-follows.false

pub pull_freely-requires-clause-meets : goal.pull_freely-requires-clause-meets
pull_freely-requires-clause-meets g c = λ lts lives. unled_meets (pulls 0) c.args.self.now (sym (ap (λ (l : Led _). l.left) c.self.view_is) ∙ c.follows.ensures.no c.if-follows.false) c.requires.meets

pub returns-then-follows-clause-gives : goal.returns-then-follows-clause-gives
returns-then-follows-clause-gives g c = as_led g.C.Chain.whole g.C.Chain.rest g.C.Chain.is_open (pulls 0) c.args.self.now c.pull_by.new.self c.pull_by.new.acts.items c.pull_by.result (λ e. c.follows.ensures.yes c.if-follows.true (ap (λ (l : Led _). l.left) c.self.view_is ∙ e)) c.pull_by.ensures.gives

pub returns-else-follows-clause-ports : goal.returns-else-follows-clause-ports
returns-else-follows-clause-ports g c = unled_ports g.C.Chain.whole g.C.Chain.rest g.C.Chain.is_open (pulls 0) c.args.self.now c.pull_freely.new.self c.pull_freely.new.acts.items c.pull_freely.result (sym (ap (λ (l : Led _). l.left) c.self.view_is) ∙ c.follows.ensures.no c.if-follows.false) c.pull_freely.ensures.gives c.pull_freely.ensures.ports

pub returns-else-follows-clause-gives : goal.returns-else-follows-clause-gives
returns-else-follows-clause-gives g c = as_unled g.C.Chain.whole g.C.Chain.rest g.C.Chain.is_open (pulls 0) c.args.self.now c.pull_freely.new.self c.pull_freely.new.acts.items c.pull_freely.result (sym (ap (λ (l : Led _). l.left) c.self.view_is) ∙ c.follows.ensures.no c.if-follows.false) c.pull_freely.ensures.gives
