use Rattle.stage_sub.proofs.Standing.{concat_stands, merge_stands}
use Rattle.stage_sub.proofs.laws.substreams_stand.Goals as goal

pub returns-clause-concat : goal.returns-clause-concat
returns-clause-concat g c = concat_stands g.C.Chain.rest g.C.Chain.is_open

pub returns-clause-merge : goal.returns-clause-merge
returns-clause-merge g c = merge_stands g.C.Chain.rest g.C.Chain.is_open
