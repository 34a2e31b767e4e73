use Rattle.std.proofs.Common.{rules, ◌≡◌, None}
use Rattle.stage_sub.proofs.Splitting.{open_end_some, open_some, open_none}
use Rattle.stage_sub.proofs.split.end_and_open.Goals as goal

pub returns-in-Some-clause-becomes : goal.returns-in-Some-clause-becomes
returns-in-Some-clause-becomes g c = λ f same yields means ss sp. open_end_some g.C.Chain.rest g.C.Chain.is_open f yields means ss c.args.e c.in-Some.is c.in_ok-why.ensures.ends sp

pub returns-in-Some-2-clause-becomes : goal.returns-in-Some-2-clause-becomes
returns-in-Some-2-clause-becomes g c =
    let none : c.in_ok-why.field-0 ≡ None = search rules in
    λ f same yields means ss sp. open_some g.C.Chain.rest g.C.Chain.is_open f yields means ss none c.in-Some-2.is same c.in_ok-why.ensures.ends c.in_ok-why-2.ensures.grows sp

pub returns-in-None-clause-becomes : goal.returns-in-None-clause-becomes
returns-in-None-clause-becomes g c =
    let none : c.in_ok-why.field-0 ≡ None = search rules in
    λ f same yields means ss sp. open_none g.C.Chain.rest g.C.Chain.is_open f yields means ss none c.in-None.is same c.in_ok-why.ensures.ends c.in_ok-why-2.ensures.grows sp
