use Rattle.stage_out.proofs.BalanceFollowing.{follows}
use Rattle.stage_out.proofs.balancing.Balancing.follow.Goals as goal

pub returns-clause-begins : goal.returns-clause-begins
returns-clause-begins c =
    let r = c.requires.new in
    follows c.args.self.now c.self.inside.log c.follow.result _ c.args.moves.items r.0 c.self.view_is r.1 r.2 c.follow.ensures.moves c.follow.ensures.left c.follow.ensures.stuck
