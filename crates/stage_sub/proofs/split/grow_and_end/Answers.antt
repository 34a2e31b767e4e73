use Rattle.std.proofs.Common.{rules, ◌≡◌, None}
use Rattle.stage_sub.proofs.Splitting.{grow_some_end_exit, grow_then_end_some, grow_then_end_none}
use Rattle.stage_sub.proofs.split.grow_and_end.Goals as goal

pub returns-in-Some-clause-becomes : goal.returns-in-Some-clause-becomes
returns-in-Some-clause-becomes g c = λ f same yields means ss sp. grow_some_end_exit g.C.Chain.rest g.C.Chain.is_open f yields means ss c.in-Some.is same c.in_ok-why.ensures.grows sp

pub returns-in-Some-2-clause-becomes : goal.returns-in-Some-2-clause-becomes
returns-in-Some-2-clause-becomes g c =
    let none : c.in_ok-why.field-0 ≡ None = search rules in
    λ f same yields means ss sp. grow_then_end_some g.C.Chain.rest g.C.Chain.is_open f yields means ss none c.in-Some-2.is same c.in_ok-why.ensures.grows c.in_ok-why-2.ensures.ends sp

pub returns-in-None-clause-becomes : goal.returns-in-None-clause-becomes
returns-in-None-clause-becomes g c =
    let none : c.in_ok-why.field-0 ≡ None = search rules in
    λ f same yields means ss sp. grow_then_end_none g.C.Chain.rest g.C.Chain.is_open f yields means ss none c.in-None.is same c.in_ok-why.ensures.grows c.in_ok-why-2.ensures.ends sp
