use Rattle.std.proofs.Common.{◌∙◌}
use Rattle.blue_check.proofs.Numbers.{wires_more}
use Rattle.blue_check.proofs.fill.put_wires.Goals as goal

pub loop-wire-preserved : goal.loop-wire-preserved
loop-wire-preserved c =
    let v = c.loop-wire.invariant in
    let e = c.in_ok-put_fused.ensures in
    record {
      long = e.length ∙ v.long;
      wires = λ k. wires_more c.args.homes.now c.args.links.now c.loop-wire.wire _ k _ _ c.loop-wire-test.true (v.wires k) (e.wires k);
      nodes = λ k. e.nodes k ∙ v.nodes k;
    }
