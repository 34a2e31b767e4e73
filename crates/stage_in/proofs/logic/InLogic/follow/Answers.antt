use Rattle.std.proofs.Common.{refl, subst}
use Rattle.stage_in.specs.declared.logic.InLogic.TheVariants as logic
use Rattle.stage_in.specs.Logics.{Begins, IsNewMerge}
use Rattle.stage_in.proofs.Begun.{follows, followed_plan, names_on}
use Rattle.stage_in.proofs.logic.InLogic.follow.Goals as goal

pub follow-requires-clause-new : goal.follow-requires-clause-new
follow-requires-clause-new c = let m = c.requires.merge in (m.inputs, m.gathers, subst (λ l. IsNewMerge m.inputs m.gathers l) c.in-Merging.is m.begins, m.named)

pub returns-clause-begins : goal.returns-clause-begins
returns-clause-begins c =
    let m = c.requires.merge in
    let was = subst (λ l. IsNewMerge m.inputs m.gathers l) c.in-Merging.is m.begins in
    λ node kind d h.
    follows node kind d m.inputs m.gathers _ c.follow.new.self m.fan was (names_on m.inputs m.gathers _ c.follow.new.self c.args.moves.items was m.named c.follow.ensures.begins) (subst (λ l. Begins node kind d l) c.in-Merging.is h)

pub returns-clause-plan : goal.returns-clause-plan
returns-clause-plan c =
    let m = c.requires.merge in
    let was = subst (λ l. IsNewMerge m.inputs m.gathers l) c.in-Merging.is m.begins in
    followed_plan (logic.Merging c.follow.new.self) (logic.Merging c.follow.new.self) c.follow.new.self c.follow.new.self c.args.moves.items refl c.follow.ensures.plan (c.follow.ensures.begins m.inputs m.gathers was m.named).moves
