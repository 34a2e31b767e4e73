use Rattle.std.proofs.Common.{sym, ◌∙◌}
use Rattle.stage_dropping.proofs.DropSteps.{taking_from}
use Rattle.stage_dropping.proofs.dropping.Dropping.take_waiting.Goals as goal

pub returns-in-Some-clause-taking : goal.returns-in-Some-clause-taking
returns-in-Some-clause-taking c =
    let y = c.takes.ensures.yes c.if-takes.true in
    taking_from _ c.args.self.now _ c.in-Some.e c.take_noted.new.self _ _ c.self.view_is c.take.ensures.after (sym c.take.ensures.value ∙ c.in-Some.is) y.0 y.1.0 c.take_noted.ensures.took
