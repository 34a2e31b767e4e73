use Rattle.step_work.proofs.Chains.{ended_go}
use Rattle.step_work.proofs.slot.end_chain.Goals as goal

pub returns-in-Go : goal.returns-in-Go
returns-in-Go g c = λ f took run. ended_go f (g.C.Chain.rest c.args.chain) took run _ c.args.out.now c.end.new.out c.in-Go.is c.in_ok-end.ensures.gives
