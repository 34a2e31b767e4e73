use Rattle.std.proofs.Common.{arith}
use Rattle.blue_check.proofs.Ranges.{in_range_checked}
use Rattle.blue_check.proofs.islands.islands.Goals as goal

pub plan_of-requires : goal.plan_of-requires
plan_of-requires c =
    in_range_checked _ c.blueprint-blueprint.result.now c.deref.result.now c.deref-2.result.now c.in_ok-links.links.items c.deref-3.result.now c.len.result c.args.c.now.none_closed c.blueprint-blueprint.ensures c.deref.ensures.value c.deref-2.ensures.value
    c.in_ok-links.ensures c.deref-3.ensures.value (omega (arith, c.len.ensures, c.blueprint-blueprint.result.now.nodes.ok.0))
