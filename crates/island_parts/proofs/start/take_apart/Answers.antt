-- The goals of `start::take_apart` that the search leaves.
use Rattle.island_parts.proofs.Starting.{apart_of}
use Rattle.island_parts.proofs.start.take_apart.Goals as goal

pub returns : goal.returns
returns g c = apart_of g.S.Source.state g.D.Drain.state c.args.started.items c.args.end _ _ _ _ _ c.requires.none_ended c.finish_all.ensures.adds c.push_reserved.ensures.items c.hand_all_back.ensures
