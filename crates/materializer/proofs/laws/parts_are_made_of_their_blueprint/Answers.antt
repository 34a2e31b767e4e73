use Rattle.materializer.proofs.Making.{are_firsts}
use Rattle.materializer.proofs.laws.parts_are_made_of_their_blueprint.Goals as goal

pub returns : goal.returns
returns g c = λ b ss ds places firsts a all given. are_firsts g.S.Source.state b ss ds places firsts a all given
