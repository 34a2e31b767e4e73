use Rattle.std.proofs.Common.{◌∙◌}
use Rattle.blue_modules.specs.Counts.{entry_weight, module_weight, counted_modules}
use Rattle.blue_modules.proofs.Gathering.{capped-more}
use Rattle.blue_modules.proofs.counts.body_size.Goals as goal

pub loop-entry-preserved : goal.loop-entry-preserved
loop-entry-preserved c =
    let book = counted_modules c.args.book.now in
    record {
      nodes = c.saturating_add.ensures ∙ capped-more (entry_weight 1 0 (module_weight 1 0 book)) c.args.body.now c.loop-entry.entry-index c.entry-item.result _ _ c.loop-entry-test.true c.entry-item.is c.loop-entry.invariant.nodes c.entry_size-more.ensures.nodes;
      wires = c.saturating_add-in-loop-entry.ensures ∙ capped-more (entry_weight 0 1 (module_weight 0 1 book)) c.args.body.now c.loop-entry.entry-index c.entry-item.result _ _ c.loop-entry-test.true c.entry-item.is c.loop-entry.invariant.wires c.entry_size-more.ensures.wires;
    }
