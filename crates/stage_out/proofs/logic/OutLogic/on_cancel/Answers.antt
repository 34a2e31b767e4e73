use Rattle.port_core.specs.Call.{cancels}
use Rattle.stage_out.proofs.OutLogics.{balance_live}
use Rattle.stage_out.proofs.logic.OutLogic.on_cancel.Goals as goal

pub on_cancel-requires-in-Balances-clause-live : goal.on_cancel-requires-in-Balances-clause-live
on_cancel-requires-in-Balances-clause-live c = balance_live (cancels c.args.port) c.in-Balances.logic c.args.self.now c.in-Balances.is c.requires.meets
