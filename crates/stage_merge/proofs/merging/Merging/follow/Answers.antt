use Rattle.stage_merge.proofs.Following.{follows}
use Rattle.stage_merge.proofs.merging.Merging.follow.Goals as goal

pub returns-clause-begins : goal.returns-clause-begins
returns-clause-begins c =
    let r = c.requires.new in
    λ k b as_k named. follows c.args.self.now c.self.inside.log c.follow.result c.self.inside.gathers _ c.args.moves.items r.0 r.1 c.self.view_is r.2 r.3 c.follow.ensures.moves c.follow.ensures.left c.follow.ensures.stuck k b as_k
