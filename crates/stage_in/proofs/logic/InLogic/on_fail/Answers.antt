use Rattle.elem_core.specs.declared.item.Item.TheVariants as item
use Rattle.port_core.specs.Call.{arrives}
use Rattle.stage_in.proofs.Nodes.{taking_open, sorting_open, zipping_open, merging_open}
use Rattle.stage_in.proofs.logic.InLogic.on_fail.Goals as goal

pub on_fail-requires-clause-live : goal.on_fail-requires-clause-live
on_fail-requires-clause-live c = taking_open (arrives c.args.port (item.Failed c.args.cause)) (λ e. cc) c.args.self.now c.requires.started c.requires.meets c.in-Taking.logic c.in-Taking.is

pub on_fail-requires-in-Sorting-clause-open : goal.on_fail-requires-in-Sorting-clause-open
on_fail-requires-in-Sorting-clause-open c = sorting_open (arrives c.args.port (item.Failed c.args.cause)) (λ e. cc) c.args.self.now c.requires.started c.requires.meets c.in-Sorting.logic c.in-Sorting.is

pub on_fail-requires-in-Zipping-clause-open : goal.on_fail-requires-in-Zipping-clause-open
on_fail-requires-in-Zipping-clause-open c = zipping_open (arrives c.args.port (item.Failed c.args.cause)) (λ e. cc) c.args.self.now c.requires.started c.requires.meets c.in-Zipping.logic c.in-Zipping.is

pub on_fail-requires-in-Merging-clause-open : goal.on_fail-requires-in-Merging-clause-open
on_fail-requires-in-Merging-clause-open c = merging_open (arrives c.args.port (item.Failed c.args.cause)) (λ e. cc) c.args.self.now c.requires.started c.requires.meets c.in-Merging.logic c.in-Merging.is
