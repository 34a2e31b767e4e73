use Rattle.std.proofs.Common.{ap, sym}
use Rattle.stage_dropping.specs.Recoverings.{Recover}
use Rattle.stage_dropping.proofs.RecoverCalls.{noted_is, may_note_in}
use Rattle.stage_dropping.proofs.recover.Recovering.note_turn.Goals as goal

pub note-requires-clause-next : goal.note-requires-clause-next
note-requires-clause-next c = may_note_in c.args.self.now c.self.inside.log c.reserve.new.self c.self.inside.passed c.requires.next (ap (λ (l : Recover). l.passed) c.self.view_is) (ap (λ (l : Recover). l.left) c.self.view_is) c.reserve.ensures.left

pub returns-clause-noted : goal.returns-clause-noted
returns-clause-noted c = noted_is c.args.self.now c.self.inside.phase c.self.inside.own c.self.inside.passed c.self.inside.asked c.self.inside.over c.self.inside.still c.self.inside.log c.reserve.new.self c.note.new.self c.self.view_is c.reserve.ensures.moves c.reserve.ensures.left c.reserve.ensures.stuck c.note.ensures
