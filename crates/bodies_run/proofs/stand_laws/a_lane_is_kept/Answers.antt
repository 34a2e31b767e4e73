use Rattle.bodies_run.proofs.StandLanes.{lane_keeps}
use Rattle.bodies_run.proofs.stand_laws.a_lane_is_kept.Goals as goal

pub returns : goal.returns
returns g c o b i j u s t l e k h serves feeds = lane_keeps g.S.Source.state g.D.Drain.state g.B.PlugBook.lists o b i j u s t l e k h serves feeds
