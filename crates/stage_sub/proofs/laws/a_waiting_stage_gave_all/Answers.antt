use Rattle.stage_sub.specs.Joined.{untag, joined_machine}
use Rattle.stage_sub.specs.KeptSubs.{opening_of}
use Rattle.stage_sub.proofs.Rows.{waiting_gave}
use Rattle.stage_sub.proofs.laws.a_waiting_stage_gave_all.Goals as goal

pub returns : goal.returns
returns g c = λ f yields start first now v took gave r t w. waiting_gave g.C.Chain.rest g.C.Chain.is_open f yields (joined_machine yields (opening_of first.how)) (untag start) took gave now t.held v r.started t.owes r.ports w t.law
