use Rattle.stage_out.proofs.BalanceParts.{sent_noted, sent_next, sent_there, sent_deals, dropped_noted, dropped_next, dropped_deals, kept_deals}
use Rattle.stage_out.proofs.balancing.Balancing.deal.Goals as goal

pub choose-requires-clause-named : goal.choose-requires-clause-named
choose-requires-clause-named c = c.requires.may.named

pub choose-requires-clause-few : goal.choose-requires-clause-few
choose-requires-clause-few c = c.requires.may.few

pub hand_on-requires-clause-noted : goal.hand_on-requires-clause-noted
hand_on-requires-clause-noted c = sent_noted c.args.self.now c.choose.new.self c.choose.result c.choose.ensures.choice c.choose.ensures.queue c.in-Sends.port c.in-Sends.is c.requires.may

pub hand_on-requires-clause-next : goal.hand_on-requires-clause-next
hand_on-requires-clause-next c = sent_next c.args.self.now c.choose.new.self c.choose.result c.choose.ensures.choice c.choose.ensures.queue c.in-Sends.port c.in-Sends.is

pub hand_on-requires-clause-there : goal.hand_on-requires-clause-there
hand_on-requires-clause-there c = sent_there c.args.self.now c.choose.new.self c.choose.result c.choose.ensures.choice c.choose.ensures.queue c.in-Sends.port c.in-Sends.is c.requires.may

pub pass_over-requires-clause-noted : goal.pass_over-requires-clause-noted
pass_over-requires-clause-noted c = dropped_noted c.args.self.now c.choose.new.self c.choose.result c.choose.ensures.choice c.choose.ensures.queue c.in-Drops.port c.in-Drops.is

pub pass_over-requires-clause-next : goal.pass_over-requires-clause-next
pass_over-requires-clause-next c = dropped_next c.args.self.now c.choose.new.self c.choose.result c.choose.ensures.choice c.choose.ensures.queue c.in-Drops.port c.in-Drops.is

pub returns-in-Sends-clause-deals : goal.returns-in-Sends-clause-deals
returns-in-Sends-clause-deals c = sent_deals c.args.self.now c.choose.new.self c.choose.result c.choose.ensures.choice c.choose.ensures.queue c.in-Sends.port c.in-Sends.is c.args.e c.hand_on.new.self c.hand_on.new.acts.items c.hand_on.ensures.settles

pub returns-in-Drops-clause-deals : goal.returns-in-Drops-clause-deals
returns-in-Drops-clause-deals c = dropped_deals c.args.self.now c.choose.new.self c.choose.result c.choose.ensures.choice c.choose.ensures.queue c.in-Drops.port c.in-Drops.is c.args.e c.pass_over.new.self c.pass_over.new.acts.items c.pass_over.ensures.settles

pub returns-in-Stays-clause-deals : goal.returns-in-Stays-clause-deals
returns-in-Stays-clause-deals c = kept_deals c.args.self.now c.choose.new.self c.choose.result c.choose.ensures.choice c.choose.ensures.queue c.in-Stays.is c.args.e c.keep.new.self c.args.acts.now.items c.keep.ensures c.requires.empty
