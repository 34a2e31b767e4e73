-- The goals of `flatten::own_parts` that the search leaves.
use Rattle.std.proofs.Common.{◌≡◌, [], length, ap, rules, arith}
use Rattle.std.specs.Vec.Iter.{into_iter_items, into_iter_len}
use Rattle.blue_modules.specs.Flatten.{entry_parts, replaced, part_node, part_wire, part_nodes, part_wires, flat_body}
use Rattle.blue_modules.proofs.Gathering.{gathered-next, gathered-last, none_left}
use Rattle.blue_modules.proofs.flatten.own_parts.Goals as goal

pub loop-entry-init : goal.loop-entry-init
loop-entry-init c =
    let r = c.into_iter-entry-iterator.result in
    let all : into_iter_items r ≡ c.args.body.items = search rules in
    let left : into_iter_len r ≡ length (into_iter_items r) = search rules in
    let f = entry_parts [] (replaced []) c.args.body.items [] c.args.around in
    record {
      can_next = tt;
      is_finite = tt;
      count = left;
      nodes = search rules;
      wires = search rules;
    }

pub loop-entry-preserved : goal.loop-entry-preserved
loop-entry-preserved c =
    let i = c.loop-entry.invariant in
    let next = c.in-Some.ensures.steps in
    let n = ap length next.0 in
    let f = entry_parts [] (replaced []) c.args.body.items [] c.args.around in
    let e = c.in_ok-put_own.ensures in
    record {
      can_next = tt;
      is_finite = tt;
      count = omega (arith, next.1, i.count, n);
      nodes = gathered-next part_node f (part_nodes (flat_body [] [] c.args.around c.args.body.items)) c.loop-entry.parts.nodes.items c.put_own.new.parts.nodes.items c.in-Some.entry _ _ next.0 (e.nodes c.args.body.items) i.nodes;
      wires = gathered-next part_wire f (part_wires (flat_body [] [] c.args.around c.args.body.items)) c.loop-entry.parts.wires.items c.put_own.new.parts.wires.items c.in-Some.entry _ _ next.0 (e.wires c.args.body.items) i.wires;
    }

pub returns-clause-nodes : goal.returns-clause-nodes
returns-clause-nodes c =
    let i = c.loop-entry.invariant in
    let none = none_left _ _ c.in-None.ensures.steps.0 i.count in
    gathered-last part_node (entry_parts [] (replaced []) c.args.body.items [] c.args.around) _ _ _ none i.nodes

pub returns-clause-wires : goal.returns-clause-wires
returns-clause-wires c =
    let i = c.loop-entry.invariant in
    let none = none_left _ _ c.in-None.ensures.steps.0 i.count in
    gathered-last part_wire (entry_parts [] (replaced []) c.args.body.items [] c.args.around) _ _ _ none i.wires
