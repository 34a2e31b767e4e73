-- The goals of `peers::span`.
use Rattle.std.proofs.Common.{◌≡◌, ◌-◌, rules, arith}
use Rattle.island_body.proofs.Wakes.{all_between}
use Rattle.island_body.proofs.peers.span.Goals as goal

pub returns-clause-ins : goal.returns-clause-ins
returns-clause-ins c =
    let count : c.saturating_sub.result ≡ c.above-size.result - c.below-least.result = search rules in
    all_between _ _ _ c.args.ins.now count
    (λ k d h. let a = c.below.ensures.each k d h in let b = c.below-least.ensures.most in omega (arith, a, b))
    (λ k d h. let a = c.above.ensures.each k d h in let b = c.above-size.ensures.least.0 in omega (arith, a, b))

pub returns-clause-outs : goal.returns-clause-outs
returns-clause-outs c =
    let count : c.saturating_sub.result ≡ c.above-size.result - c.below-least.result = search rules in
    all_between _ _ _ c.args.outs.now count c.below-least.ensures.each c.above-size.ensures.each
