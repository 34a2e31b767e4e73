use Rattle.std.proofs.Common.{refl, Some}
use Rattle.stage_sub.proofs.LedHandlers.{follow_begins, follow_plan}
use Rattle.stage_sub.proofs.logic.SubLogic.follow.Goals as goal

pub returns-clause-begins : goal.returns-clause-begins
returns-clause-begins g c = λ node kind chain b. follow_begins g.C.Chain.rest g.C.Chain.is_open node kind chain c.args.self.now c.self.inside.state.value c.self.inside.log (Some c.follow.result) c.follow.result c.args.moves.items c.self.view_is c.requires.merge refl c.follow.ensures.moves c.follow.ensures.left c.follow.ensures.stuck b

pub returns-clause-plan : goal.returns-clause-plan
returns-clause-plan g c = follow_plan c.self.inside.state.value (Some c.follow.result) c.follow.result c.args.moves.items refl c.follow.ensures.moves c.follow.ensures.left
