use Rattle.stage_out.proofs.OutLogics.{started, handled, asks_on, grows_on}
use Rattle.stage_out.proofs.laws.calls_keep_the_law.Goals as goal

pub returns-clause-starts : goal.returns-clause-starts
returns-clause-starts c = started

pub returns-clause-handles : goal.returns-clause-handles
returns-clause-handles c = handled

pub returns-clause-pulls : goal.returns-clause-pulls
returns-clause-pulls c = asks_on

pub returns-clause-grows : goal.returns-clause-grows
returns-clause-grows c = grows_on
