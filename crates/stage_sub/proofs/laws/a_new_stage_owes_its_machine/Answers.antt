use Rattle.stage_sub.proofs.Beginning.{begun_owes}
use Rattle.stage_sub.proofs.laws.a_new_stage_owes_its_machine.Goals as goal

pub returns : goal.returns
returns g c = λ f yields node how moves chain. begun_owes g.C.Chain.rest g.C.Chain.is_open node how moves chain f yields
