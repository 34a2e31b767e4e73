use Rattle.std.proofs.Common.{arith}
use Rattle.blue_check.proofs.Ranges.{in_range_checked}
use Rattle.workbench_draw.proofs.types.types_of.Goals as goal

pub types_in-requires : goal.types_in-requires
types_in-requires c =
    in_range_checked _ c.blueprint-b.result.now c.deref.result.now c.deref-2.result.now c.in_ok-links.links.items c.deref-5.result.now c.len.result c.args.c.now.none_closed c.blueprint-b.ensures c.deref.ensures.value c.deref-2.ensures.value
    c.in_ok-links.ensures c.deref-5.ensures.value (omega (arith, c.len.ensures, c.blueprint-b.result.now.nodes.ok.0))
