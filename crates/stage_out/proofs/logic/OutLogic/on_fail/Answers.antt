use Rattle.elem_core.specs.declared.item.Item.TheVariants as item
use Rattle.port_core.specs.Call.{arrives}
use Rattle.stage_out.proofs.OutLogics.{balance_live}
use Rattle.stage_out.proofs.logic.OutLogic.on_fail.Goals as goal

pub on_fail-requires-in-Balances-clause-live : goal.on_fail-requires-in-Balances-clause-live
on_fail-requires-in-Balances-clause-live c = balance_live (arrives c.args.port (item.Failed c.args.cause)) c.in-Balances.logic c.args.self.now c.in-Balances.is c.requires.meets
