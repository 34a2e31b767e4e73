use Rattle.port_core.specs.Call.{starts}
use Rattle.stage_out.proofs.OutLogics.{balance_live}
use Rattle.stage_out.proofs.logic.OutLogic.start.Goals as goal

pub start-requires-in-Balances-clause-live : goal.start-requires-in-Balances-clause-live
start-requires-in-Balances-clause-live c = balance_live starts c.in-Balances.logic c.args.self.now c.in-Balances.is c.requires.meets
