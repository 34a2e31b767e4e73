use Rattle.stage_sub.proofs.Splitting.{grow_some_exit, grow_none_exit}
use Rattle.stage_sub.proofs.split.grow.Goals as goal

pub returns-in-Some-clause-becomes : goal.returns-in-Some-clause-becomes
returns-in-Some-clause-becomes g c = λ f same yields means ss sp. grow_some_exit g.C.Chain.rest g.C.Chain.is_open f yields means ss c.in-Some.is same c.in_ok-why.ensures.grows sp

pub returns-in-None-clause-becomes : goal.returns-in-None-clause-becomes
returns-in-None-clause-becomes g c = λ f same yields means ss sp. grow_none_exit g.C.Chain.rest g.C.Chain.is_open f yields means ss c.in-None.is same c.in_ok-why.ensures.grows sp
