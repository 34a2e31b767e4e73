-- The law of an output boundary, from its lemmas.
use Rattle.island_body.proofs.Serving.{serves_beside, served_beside, serves_ran, served_ran}
use Rattle.island_body.proofs.laws.an_output_boundary_stands.Goals as goal

pub returns-clause-beside : goal.returns-clause-beside
returns-clause-beside g c o q n old new u b apart other s = serves_beside o q n old new u b apart other s

pub returns-clause-served : goal.returns-clause-served
returns-clause-served g c o q n old new u b apart other s = served_beside o q n old new u b apart other s

pub returns-clause-ran : goal.returns-clause-ran
returns-clause-ran g c o old new u before after l on outs gone still s = serves_ran g.S.Source.state g.D.Drain.state g.B.PlugBook.lists o old new u before after l on outs gone still s

pub returns-clause-untouched : goal.returns-clause-untouched
returns-clause-untouched g c o old new u before after l on outs gone still at un other only s = served_ran g.S.Source.state g.D.Drain.state g.B.PlugBook.lists o old new u before after l on outs gone still at un other only s
