use Rattle.port_core.specs.Call.{pulls}
use Rattle.stage_out.proofs.OutLogics.{balance_live}
use Rattle.stage_out.proofs.logic.OutLogic.on_pull.Goals as goal

pub on_pull-requires-in-Balances-clause-live : goal.on_pull-requires-in-Balances-clause-live
on_pull-requires-in-Balances-clause-live c = balance_live (pulls c.args.port) c.in-Balances.logic c.args.self.now c.in-Balances.is c.requires.meets
