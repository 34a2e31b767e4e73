use Rattle.std.proofs.Common.{ap}
use Rattle.port_core.specs.Picks.{next_move}
use Rattle.stage_dropping.specs.Droppings.{may_take}
use Rattle.stage_dropping.proofs.DropEnters.{pass_notes, pass_room, passes_so}
use Rattle.stage_dropping.proofs.dropping.Dropping.pass.Goals as goal

pub count-requires-clause-fits : goal.count-requires-clause-fits
count-requires-clause-fits c = c.requires.enters.fits

pub count-requires-clause-next : goal.count-requires-clause-next
count-requires-clause-next c = ap (λ l. may_take (next_move l)) c.requires.free

pub note-requires-clause-room : goal.note-requires-clause-room
note-requires-clause-room c = λ e. pass_room c.args.self.now c.count.new.self _ c.count.ensures c.self.view_is c.requires.noted

pub note-requires-clause-next : goal.note-requires-clause-next
note-requires-clause-next c = pass_notes c.args.self.now c.count.new.self _ c.count.ensures c.self.view_is c.requires.free

pub returns-clause-answered : goal.returns-clause-answered
returns-clause-answered c = passes_so c.args.self.now c.count.new.self _ c.args.e c.note.new.self c.args.acts.now.items c.add.new.self.items c.add-2.new.self.items c.requires.enters c.requires.asked c.requires.free c.requires.going c.requires.pulled c.count.ensures c.self.view_is c.note.ensures c.requires.empty (ap (λ a. a.items) c.add.ensures) (ap (λ a. a.items) c.add-2.ensures)
