use Rattle.run_blueprint.proofs.Carrying.{every_wire_carries}
use Rattle.run_blueprint.proofs.laws.every_list_is_typed.Goals as goal

pub returns : goal.returns
returns c = λ heads chains nodes g w rank passes keeps gave ranked. every_wire_carries heads chains nodes g w rank ranked passes keeps gave
