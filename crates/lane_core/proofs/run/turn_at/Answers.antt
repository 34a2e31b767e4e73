use Rattle.std.proofs.Common.{refl}
use Rattle.lane_core.proofs.Each.{idle_at, broke_at}
use Rattle.lane_core.proofs.run.turn_at.Goals as goal

pub returns-clause-idle : goal.returns-clause-idle
returns-clause-idle g c = idle_at g.B.Turning.goes g.B.Turning.idle c.turn.result c.args.limit c.args.bodies.now _ c.args.k c.index-bodies-k.result c.turn.new.self c.requires.there refl c.turn.ensures.goes c.turn.ensures.idle

pub returns-clause-broke : goal.returns-clause-broke
returns-clause-broke g c = broke_at g.B.Turning.keeps g.B.Turning.goes g.B.Turning.breaks c.turn.result g.met.B.Turning.goes_still c.args.bodies.now _ c.args.k c.index-bodies-k.result c.turn.new.self c.requires.there refl c.requires.keeps c.turn.ensures.breaks
