use Rattle.stage_dropping.proofs.DropNodes.{follows}
use Rattle.stage_dropping.proofs.dropping.Dropping.follow.Goals as goal

pub returns-clause-begins : goal.returns-clause-begins
returns-clause-begins c = follows _ c.args.self.now c.follow.result c.args.moves.items c.self.view_is c.requires.named c.follow.ensures.moves c.follow.ensures.left c.follow.ensures.stuck
