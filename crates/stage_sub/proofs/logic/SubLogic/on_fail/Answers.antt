use Rattle.std.proofs.Common.{ap, sym, ◌∙◌}
use Rattle.port_core.specs.Call.{arrives}
use Rattle.elem_core.specs.declared.item.Item.TheVariants as item
use Rattle.stage_sub.specs.Leds.{Led}
use Rattle.stage_sub.proofs.LedHandlers.{as_led, as_unled, unled_ports, unled_meets}
use Rattle.stage_sub.proofs.logic.SubLogic.on_fail.Goals as goal

pub fail_by-requires-clause-follows : goal.fail_by-requires-clause-follows
fail_by-requires-clause-follows g c = λ lts lives e. c.follows.ensures.yes c.if-follows.true (ap (λ (l : Led _). l.left) c.self.view_is ∙ e)

pub fail_freely-requires-clause-free : goal.fail_freely-requires-clause-free
fail_freely-requires-clause-free g c = λ lts lives. sym (ap (λ (l : Led _). l.left) c.self.view_is) ∙ c.follows.ensures.no c.if-follows.false

pub fail_freely-requires-clause-meets : goal.fail_freely-requires-clause-meets
fail_freely-requires-clause-meets g c = λ lts lives. unled_meets (arrives 0 (item.Failed c.args.cause)) c.args.self.now (sym (ap (λ (l : Led _). l.left) c.self.view_is) ∙ c.follows.ensures.no c.if-follows.false) c.requires.meets

pub returns-then-follows-clause-gives : goal.returns-then-follows-clause-gives
returns-then-follows-clause-gives g c = as_led g.C.Chain.whole g.C.Chain.rest g.C.Chain.is_open (arrives 0 (item.Failed c.args.cause)) c.args.self.now c.fail_by.new.self c.fail_by.new.acts.items c.fail_by.result (λ e. c.follows.ensures.yes c.if-follows.true (ap (λ (l : Led _). l.left) c.self.view_is ∙ e)) c.fail_by.ensures.gives

pub returns-else-follows-clause-ports : goal.returns-else-follows-clause-ports
returns-else-follows-clause-ports g c = unled_ports g.C.Chain.whole g.C.Chain.rest g.C.Chain.is_open (arrives 0 (item.Failed c.args.cause)) c.args.self.now c.fail_freely.new.self c.fail_freely.new.acts.items c.fail_freely.result (sym (ap (λ (l : Led _). l.left) c.self.view_is) ∙ c.follows.ensures.no c.if-follows.false) c.fail_freely.ensures.gives c.fail_freely.ensures.ports

pub returns-else-follows-clause-gives : goal.returns-else-follows-clause-gives
returns-else-follows-clause-gives g c = as_unled g.C.Chain.whole g.C.Chain.rest g.C.Chain.is_open (arrives 0 (item.Failed c.args.cause)) c.args.self.now c.fail_freely.new.self c.fail_freely.new.acts.items c.fail_freely.result (sym (ap (λ (l : Led _). l.left) c.self.view_is) ∙ c.follows.ensures.no c.if-follows.false) c.fail_freely.ensures.gives
