-- The law of an input boundary at its stage, from its lemmas.
use Rattle.island_body.proofs.Beside.{enters_beside}
use Rattle.island_body.proofs.Feeding.{feeds_begun, feeds_looked, feeds_beside, fed_beside, fed_same, feeds_ran, fed_ran}
use Rattle.island_body.proofs.laws.an_input_boundary_stands.Goals as goal

pub returns-clause-begins : goal.returns-clause-begins
returns-clause-begins g k b i u settled l none nothing flows = feeds_begun g.S.Source.state g.D.Drain.state g.B.PlugBook.lists b i u settled l none nothing flows

pub returns-clause-enters : goal.returns-clause-enters
returns-clause-enters g k q n old new u s l = enters_beside q n old new u s l

pub returns-clause-looked : goal.returns-clause-looked
returns-clause-looked g k b c i u given state f = feeds_looked b i u c given state f

pub returns-clause-beside : goal.returns-clause-beside
returns-clause-beside g k b q n old new u s apart f = feeds_beside b q n old new u s apart f

pub returns-clause-fed : goal.returns-clause-fed
returns-clause-fed g k b q n old new u s apart f = fed_beside b q n old new u s apart f

pub returns-clause-same : goal.returns-clause-same
returns-clause-same g k b c i u taken given waits state f = fed_same b i u c taken given waits state f

pub returns-clause-ran : goal.returns-clause-ran
returns-clause-ran g k b old new u before after l on ins still f = feeds_ran g.S.Source.state g.D.Drain.state g.B.PlugBook.lists b old new u before l ins still after on f

pub returns-clause-untouched : goal.returns-clause-untouched
returns-clause-untouched g k b old new u before l ins still at un other f = fed_ran g.S.Source.state g.D.Drain.state g.B.PlugBook.lists b old new u before l ins still at un other f
