use Rattle.lane_core.proofs.Each.{all_along, sum_same}
use Rattle.lane_core.proofs.Lanes.{crossings_each}
use Rattle.lane_core.proofs.run.settle_whole.Goals as goal

pub returns-clause-keeps : goal.returns-clause-keeps
returns-clause-keeps g c = all_along g.B.Turning.stands g.B.Turning.keeps g.met.B.Turning.keeps_stands _ _ c.settle.ensures.stands c.requires.keeps

pub returns-clause-spent : goal.returns-clause-spent
returns-clause-spent g c = let s = c.settle.ensures.stands in sum_same g.B.Turning.spent _ _ s.count (λ k a b ea eb. g.met.B.Turning.spent_stands a b (s.each k a b ea eb))

pub returns-clause-lanes : goal.returns-clause-lanes
returns-clause-lanes g c = crossings_each g.B.Meet.may_meet g.B.Turning.goes g.met.B.Turning.meet_goes_out g.met.B.Turning.meet_goes_inp _ _ c.args.lanes.now c.settle.ensures.goes c.requires.lanes
