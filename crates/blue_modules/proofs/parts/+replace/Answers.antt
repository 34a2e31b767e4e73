use Rattle.std.proofs.Common.{sym, ◌∙◌}
use Rattle.blue_modules.specs.Counts.{counted_modules}
use Rattle.blue_modules.specs.Flatten.{part_node, part_wire, entry_parts, replaced}
use Rattle.blue_modules.proofs.Gathering.{gathered-more, nothing_more}
use Rattle.blue_modules.proofs.parts.+replace.Goals as goal

pub put_entries-loop-entry-preserved : goal.put_entries-loop-entry-preserved
put_entries-loop-entry-preserved t c =
    let each = entry_parts (counted_modules c.args.book.now) (replaced (counted_modules c.args.book.now)) c.args.body.now c.args.prefix.now c.args.around in
    record {
      nodes = gathered-more part_node each c.args.parts.now.nodes.items c.loop-entry.parts.nodes.items c.put_entry.new.parts.nodes.items c.args.entries.now c.loop-entry.entry-index c.entry-item.result c.loop-entry-test.true c.entry-item.is c.loop-entry.invariant.nodes c.in_ok-put_entry.ensures.nodes;
      wires = gathered-more part_wire each c.args.parts.now.wires.items c.loop-entry.parts.wires.items c.put_entry.new.parts.wires.items c.args.entries.now c.loop-entry.entry-index c.entry-item.result c.loop-entry-test.true c.entry-item.is c.loop-entry.invariant.wires c.in_ok-put_entry.ensures.wires;
    }

pub put_module-returns-then-is_empty-clause-nodes : goal.put_module-returns-then-is_empty-clause-nodes
put_module-returns-then-is_empty-clause-nodes t c =
    nothing_more part_node c.args.parts.now.nodes.items c.args.rest.now c.args.first.now c.args.prefix.now c.args.around c.args.instance.now c.requires (sym c.is_empty.ensures ∙ c.if-is_empty.true)

pub put_module-returns-then-is_empty-clause-wires : goal.put_module-returns-then-is_empty-clause-wires
put_module-returns-then-is_empty-clause-wires t c =
    nothing_more part_wire c.args.parts.now.wires.items c.args.rest.now c.args.first.now c.args.prefix.now c.args.around c.args.instance.now c.requires (sym c.is_empty.ensures ∙ c.if-is_empty.true)
