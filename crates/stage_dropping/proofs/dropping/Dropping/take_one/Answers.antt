use Rattle.stage_dropping.proofs.DropEnters.{noted_named, noted_room, noted_few, takes_one}
use Rattle.stage_dropping.proofs.dropping.Dropping.take_one.Goals as goal

pub take_noted-requires-clause-drops : goal.take_noted-requires-clause-drops
take_noted-requires-clause-drops c = (c.requires.enters.drops, c.requires.enters.some)

pub take_noted-requires-clause-few : goal.take_noted-requires-clause-few
take_noted-requires-clause-few c = c.requires.enters.few

pub take_noted-requires-clause-fits : goal.take_noted-requires-clause-fits
take_noted-requires-clause-fits c = c.requires.enters.fits

pub give-requires-clause-named : goal.give-requires-clause-named
give-requires-clause-named c = noted_named c.args.e c.args.self.now c.take_noted.new.self c.args.acts.now.items c.take_noted.new.acts.items c.requires.enters.named c.take_noted.ensures.took

pub give-requires-clause-noted : goal.give-requires-clause-noted
give-requires-clause-noted c = noted_room c.args.e c.args.self.now c.take_noted.new.self c.args.acts.now.items c.take_noted.new.acts.items c.requires.noted c.take_noted.ensures.took

pub returns-clause-served : goal.returns-clause-served
returns-clause-served c = takes_one c.args.self.now c.take_noted.new.self c.give.new.self c.args.e c.args.acts.now.items c.take_noted.new.acts.items c.give.new.acts.items c.requires.enters c.requires.next c.requires.empty c.take_noted.ensures.took c.give.ensures.giving
