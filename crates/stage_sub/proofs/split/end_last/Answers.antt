use Rattle.stage_sub.proofs.Splitting.{end_some_exit, end_none_exit}
use Rattle.stage_sub.proofs.split.end_last.Goals as goal

pub returns-in-Some-clause-becomes : goal.returns-in-Some-clause-becomes
returns-in-Some-clause-becomes g c = λ f yields means ss sp. end_some_exit g.C.Chain.rest g.C.Chain.is_open f yields means ss c.in-Some.is c.in_ok-why.ensures.ends sp

pub returns-in-None-clause-becomes : goal.returns-in-None-clause-becomes
returns-in-None-clause-becomes g c = λ f yields means ss sp. end_none_exit g.C.Chain.rest g.C.Chain.is_open f yields means ss c.in-None.is c.in_ok-why.ensures.ends sp
