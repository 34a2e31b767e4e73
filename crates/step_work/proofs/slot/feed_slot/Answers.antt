use Rattle.step_work.proofs.Chains.{fed_go}
use Rattle.step_work.proofs.slot.feed_slot.Goals as goal

pub returns-in-Go-clause-fed : goal.returns-in-Go-clause-fed
returns-in-Go-clause-fed g c = λ f took held. fed_go g.C.Chain.rest g.C.Chain.is_open f took c.args.e c.args.slot.now c.in-Some.chain c.push.new.self _ c.args.out.now c.push.new.out c.in-Some.is held c.in-Go.is c.in_ok-step-in-Some.ensures.gives
