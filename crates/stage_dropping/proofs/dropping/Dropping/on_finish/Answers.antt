use Rattle.std.proofs.Common.{◌∙◌, ap}
use Rattle.stage_dropping.proofs.DropCalls.{Handled, finished_by}
use Rattle.stage_dropping.proofs.dropping.Dropping.on_finish.Goals as goal

pub returns-clause-ports : goal.returns-clause-ports
returns-clause-ports c = (finished_by c.args.self.now c.end.new.self c.end.new.acts.items c.requires.open c.requires.meets (λ e. ((c.end.ensures.stuck e).0, ap (λ a. a.items) (c.end.ensures.stuck e).1 ∙ c.requires.empty)) c.end.ensures.settles).ports

pub returns-clause-gives : goal.returns-clause-gives
returns-clause-gives c = (finished_by c.args.self.now c.end.new.self c.end.new.acts.items c.requires.open c.requires.meets (λ e. ((c.end.ensures.stuck e).0, ap (λ a. a.items) (c.end.ensures.stuck e).1 ∙ c.requires.empty)) c.end.ensures.settles).gives
