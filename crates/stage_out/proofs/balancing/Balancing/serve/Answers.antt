use Rattle.stage_out.proofs.BalanceParts.{serve_may, serve_some, serve_none}
use Rattle.stage_out.proofs.balancing.Balancing.serve.Goals as goal

pub deal-requires-clause-may : goal.deal-requires-clause-may
deal-requires-clause-may c = serve_may c.args.self.now c.next.new.self c.in-Some.e c.requires.may c.in-Some.ensures.some.0 c.in-Some.ensures.some.1

pub returns-in-Some-clause-serves : goal.returns-in-Some-clause-serves
returns-in-Some-clause-serves c = serve_some c.args.self.now c.next.new.self c.deal.new.self c.deal.new.acts.items c.in-Some.e c.in-Some.ensures.some.0 c.in-Some.ensures.some.1 c.deal.ensures.deals

pub returns-in-None-clause-serves : goal.returns-in-None-clause-serves
returns-in-None-clause-serves c = serve_none c.args.self.now c.next.new.self c.settle.new.self c.args.acts.now.items c.settle.new.acts.items c.requires.empty c.in-None.ensures.none.0 c.in-None.ensures.none.1 c.settle.ensures.settles
