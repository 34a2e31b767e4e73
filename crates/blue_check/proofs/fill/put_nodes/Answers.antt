use Rattle.std.proofs.Common.{◌∙◌}
use Rattle.blue_check.proofs.Numbers.{nodes_more}
use Rattle.blue_check.proofs.fill.put_nodes.Goals as goal

pub loop-node-preserved : goal.loop-node-preserved
loop-node-preserved c =
    let v = c.loop-node.invariant in
    let e = c.in_ok-put_node.ensures in
    record {
      long = e.length ∙ v.long;
      nodes = λ k. nodes_more c.args.homes.now c.loop-node.node _ k _ _ c.loop-node-test.true (v.nodes k) (e.nodes k);
      wires = λ k. e.wires k ∙ v.wires k;
    }
