use Rattle.std.proofs.Common.{ap}
use Rattle.stage_dropping.proofs.DropSteps.{may_note, giving_from}
use Rattle.stage_dropping.proofs.dropping.Dropping.give.Goals as goal

pub note-requires-clause-next : goal.note-requires-clause-next
note-requires-clause-next c = may_note c.args.self.now c.next_held.new.self _ c.in-Some.e c.in-Some.ensures.first c.self.view_is c.requires.named (c.gives.ensures.yes c.if-gives.true).1.1

pub returns-in-Some-clause-giving : goal.returns-in-Some-clause-giving
returns-in-Some-clause-giving c =
    let y = c.gives.ensures.yes c.if-gives.true in
    giving_from c.args.self.now c.next_held.new.self _ c.in-Some.e c.note.new.self _ _ c.in-Some.ensures.first c.self.view_is c.note.ensures y.0 y.1.0 y.1.1 (ap (λ a. a.items) c.add.ensures)
