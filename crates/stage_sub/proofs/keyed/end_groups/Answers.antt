use Rattle.std.proofs.Common.{rules, ◌≡◌, ◌+◌, ◌≤◌, length}
use Rattle.stage_sub.specs.Groups.{MayCallAll}
use Rattle.stage_sub.proofs.Keying.{half_next, half_fault, half_all}
use Rattle.stage_sub.proofs.keyed.end_groups.Goals as goal

pub returns-in-Some-clause-ends : goal.returns-in-Some-clause-ends
returns-in-Some-clause-ends g c =
    half_fault g.C.Chain.rest g.C.Chain.is_open c.args.slots.now.items c.args.outs.now c.loop-i.slots.items c.loop-i.i c.in_ok-why.field-0 c.loop-i.outs c.end_one.new.outs c.in-Some.why c.in-Some.is c.loop-i.invariant.1.1 c.in_ok-why.ensures.ends

pub loop-i-preserved : goal.loop-i-preserved
loop-i-preserved g c =
    let within : c.loop-i.i + 1 ≤ length c.end_one.new.slots.items = search rules in
    let may : MayCallAll g.C.Chain.rest g.C.Chain.is_open c.end_one.new.slots.items = search rules in
    let count : length c.end_one.new.slots.items ≡ length c.args.slots.now.items = search rules in (
      (within, count),
      (
        may,
        half_next g.C.Chain.rest g.C.Chain.is_open c.args.slots.now.items c.args.outs.now c.loop-i.slots.items c.end_one.new.slots.items c.loop-i.i c.in_ok-why.field-0 c.loop-i.outs c.end_one.new.outs c.in-None.is c.loop-i.invariant.1.1 c.in_ok-why.ensures.ends c.in_ok-why.ensures.now,
      ),
    )

pub returns-clause-ends : goal.returns-clause-ends
returns-clause-ends g c =
    let past : length c.loop-i.slots.items ≤ c.loop-i.i = search rules in
    half_all g.C.Chain.rest g.C.Chain.is_open c.args.slots.now.items c.args.outs.now c.loop-i.slots.items c.loop-i.i c.loop-i.outs past c.loop-i.invariant.1.1
