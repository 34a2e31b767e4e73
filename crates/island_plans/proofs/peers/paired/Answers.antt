-- The goals of `peers::paired` that the search leaves.
use Rattle.std.proofs.Common.{◌≡◌, ◌<◌, ◌∙◌, length, rules, arith}
use Rattle.island_body.proofs.Acting.{at_index}
use Rattle.island_plans.proofs.Pairing.{paired_next, all_paired}
use Rattle.island_plans.proofs.peers.paired.Goals as goal

pub loop-k-preserved : goal.loop-k-preserved
loop-k-preserved c =
    let ins = c.args.ins.now in
    let outs = c.args.outs.now in
    let k = c.loop-k.k in
    let within : k < length ins = search rules in
    let same = c.requires in
    let there : k < length outs = omega (arith, within, same) in
    paired_next ins outs k _ _ c.index-ins-k.result c.index-outs-k.result c.in_ok-of.field-0 c.loop-k.invariant (at_index ins k c.index-ins-k.result within c.index-ins-k.is) (at_index outs k c.index-outs-k.result there c.index-outs-k.is)
    (c.in_ok-of.ensures.0 ∙ c.deref.ensures.value) (c.in_ok-of.ensures.1 ∙ c.deref-in-loop-k.ensures.value) c.in_ok-push.ensures.items

pub returns : goal.returns
returns c =
    let all : c.loop-k.k ≡ length c.args.ins.now = search rules in
    all_paired c.args.ins.now c.args.outs.now c.loop-k.k _ all c.loop-k.invariant
