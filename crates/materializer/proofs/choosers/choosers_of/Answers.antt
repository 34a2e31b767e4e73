-- The goals of `choosers::choosers_of` that the search leaves.
use Rattle.std.proofs.Common.{◌++◌, ap}
use Rattle.std.proofs.lemmas.List.{drop_all}
use Rattle.materializer.specs.Choosers.{choosers_in}
use Rattle.materializer.proofs.ChooserLoops.{choosers_next, choosers_all}
use Rattle.materializer.proofs.choosers.choosers_of.Goals as goal

pub loop-node-init : goal.loop-node-init
loop-node-init c = ap (λ l. l ++ choosers_in c.args.nodes.now) c.new-choosers.ensures.items

pub loop-node-preserved : goal.loop-node-preserved
loop-node-preserved c = choosers_next c.args.nodes.now c.loop-node.node-index c.node-item.result _ _ c.loop-node-test.true c.node-item.is c.in_ok-add_chooser.ensures c.loop-node.invariant

pub returns : goal.returns
returns c = choosers_all c.args.nodes.now _ _ (drop_all _ _ c.loop-node-test.false) c.loop-node.invariant
