use Rattle.bodies_run.proofs.StandLanes.{lane_quiet}
use Rattle.bodies_run.proofs.stand_laws.a_lane_is_quiet.Goals as goal

pub returns : goal.returns
returns g c o b i j u s t l e none none' k h serves feeds served fed w waits item demand x out inp = lane_quiet g.S.Source.state g.D.Drain.state g.B.PlugBook.lists o b i j u s t l e k h serves feeds none none' served fed w waits item demand x out inp
