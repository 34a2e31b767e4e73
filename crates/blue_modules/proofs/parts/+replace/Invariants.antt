use Rattle.std.proofs.Common.{◌≡◌, length, take, ◌+◌, ◌*◌, ◌++◌}
use Rattle.std.specs.List.{flat_map}
use Rattle.blue_modules.specs.Counts.{counted_modules}
use Rattle.blue_modules.specs.Flatten.{entry_parts, replaced, part_nodes, part_wires}
use Rattle.blue_modules.proofs.parts.+replace.Given as goal

abbrev pub decreases-put_body : goal.decreases-put_body
decreases-put_body l = 5 * length l.book.now + 3

abbrev pub decreases-put_entries : goal.decreases-put_entries
decreases-put_entries l = 5 * length l.book.now + 2

abbrev pub decreases-put_entry : goal.decreases-put_entry
decreases-put_entry l = 5 * length l.book.now + 1

abbrev pub decreases-put_instance : goal.decreases-put_instance
decreases-put_instance l = 5 * length l.book.now

abbrev pub decreases-put_module : goal.decreases-put_module
decreases-put_module l = 5 * length l.rest.now + 4

abbrev pub invariant-put_entries-loop-entry : goal.invariant-put_entries-loop-entry
invariant-put_entries-loop-entry l =
    record {
      nodes : l.parts.nodes.items ≡ l.fn.parts.nodes.items ++ part_nodes (flat_map (entry_parts (counted_modules l.book) (replaced (counted_modules l.book)) l.body l.prefix l.around) (take l.entry-index l.entries));
      wires : l.parts.wires.items ≡ l.fn.parts.wires.items ++ part_wires (flat_map (entry_parts (counted_modules l.book) (replaced (counted_modules l.book)) l.body l.prefix l.around) (take l.entry-index l.entries));
    }
