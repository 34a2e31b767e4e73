-- The loop of `flatten::own_parts`.
use Rattle.std.proofs.Common.{◌≡◌, [], ◌++◌, length}
use Rattle.std.specs.List.{flat_map}
use Rattle.std.specs.Vec.Iter.{into_iter_items, into_iter_len}
use Rattle.blue_modules.specs.Flatten.{entry_parts, replaced, part_nodes, part_wires, flat_body}
use Rattle.blue_modules.proofs.flatten.own_parts.Given as goal

-- the parts so far, and behind them those of the entries that are left
abbrev pub invariant-loop-entry : goal.invariant-loop-entry
invariant-loop-entry l = record {
  can_next : (goal.iterator-loop-entry).can_next l.entry-iterator;
  is_finite : (goal.iterator-loop-entry).is_finite l.entry-iterator;
  count : into_iter_len l.entry-iterator ≡ length (into_iter_items l.entry-iterator);
  nodes : l.parts.nodes.items ++ part_nodes (flat_map (entry_parts [] (replaced []) l.fn.body.items [] l.around) (into_iter_items l.entry-iterator)) ≡ part_nodes (flat_body [] [] l.around l.fn.body.items);
  wires : l.parts.wires.items ++ part_wires (flat_map (entry_parts [] (replaced []) l.fn.body.items [] l.around) (into_iter_items l.entry-iterator)) ≡ part_wires (flat_body [] [] l.around l.fn.body.items);
}
