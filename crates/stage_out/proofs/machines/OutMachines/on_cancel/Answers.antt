use Rattle.port_core.specs.Call.{cancels}
use Rattle.stage_out.proofs.OutRests.{copies_live, deals_live}
use Rattle.stage_out.proofs.Handled.{copies_meet, copies_do, deals_meet, deals_do}
use Rattle.stage_out.proofs.Serves as copies
use Rattle.stage_out.proofs.Deals as deals
use Rattle.stage_out.proofs.machines.OutMachines.on_cancel.Goals as goal

pub lose-requires-clause-there : goal.lose-requires-clause-there
lose-requires-clause-there c = (copies.lost_there c.in-Copies.logic c.args.port (copies_live (cancels c.args.port) c.in-Copies.logic c.args.self.now c.in-Copies.is c.requires.meets) (copies_meet (cancels c.args.port) c.args.self.now c.requires.meets c.in-Copies.logic c.in-Copies.is)).0

pub lose-requires-clause-some : goal.lose-requires-clause-some
lose-requires-clause-some c = (copies.lost_there c.in-Copies.logic c.args.port (copies_live (cancels c.args.port) c.in-Copies.logic c.args.self.now c.in-Copies.is c.requires.meets) (copies_meet (cancels c.args.port) c.args.self.now c.requires.meets c.in-Copies.logic c.in-Copies.is)).1.0

pub lose-requires-clause-quiet : goal.lose-requires-clause-quiet
lose-requires-clause-quiet c = (copies.lost_there c.in-Copies.logic c.args.port (copies_live (cancels c.args.port) c.in-Copies.logic c.args.self.now c.in-Copies.is c.requires.meets) (copies_meet (cancels c.args.port) c.args.self.now c.requires.meets c.in-Copies.logic c.in-Copies.is)).1.1

pub lose-requires-in-Deals-clause-there : goal.lose-requires-in-Deals-clause-there
lose-requires-in-Deals-clause-there c = (deals.lost_there c.in-Deals.logic c.args.port (deals_live (cancels c.args.port) c.in-Deals.logic c.args.self.now c.in-Deals.is c.requires.meets) (deals_meet (cancels c.args.port) c.args.self.now c.requires.meets c.in-Deals.logic c.in-Deals.is)).0

pub lose-requires-in-Deals-clause-few : goal.lose-requires-in-Deals-clause-few
lose-requires-in-Deals-clause-few c = (deals.lost_there c.in-Deals.logic c.args.port (deals_live (cancels c.args.port) c.in-Deals.logic c.args.self.now c.in-Deals.is c.requires.meets) (deals_meet (cancels c.args.port) c.args.self.now c.requires.meets c.in-Deals.logic c.in-Deals.is)).1.0

pub lose-requires-in-Deals-clause-some : goal.lose-requires-in-Deals-clause-some
lose-requires-in-Deals-clause-some c = (deals.lost_there c.in-Deals.logic c.args.port (deals_live (cancels c.args.port) c.in-Deals.logic c.args.self.now c.in-Deals.is c.requires.meets) (deals_meet (cancels c.args.port) c.args.self.now c.requires.meets c.in-Deals.logic c.in-Deals.is)).1.1.0

pub lose-requires-in-Deals-clause-asks : goal.lose-requires-in-Deals-clause-asks
lose-requires-in-Deals-clause-asks c = (deals.lost_there c.in-Deals.logic c.args.port (deals_live (cancels c.args.port) c.in-Deals.logic c.args.self.now c.in-Deals.is c.requires.meets) (deals_meet (cancels c.args.port) c.args.self.now c.requires.meets c.in-Deals.logic c.in-Deals.is)).1.1.1

pub returns-in-Copies-clause-ports : goal.returns-in-Copies-clause-ports
returns-in-Copies-clause-ports c = (copies_do (cancels c.args.port) c.args.self.now c.requires.meets c.in-Copies.logic c.in-Copies.is c.lose.new.self c.lose.new.acts.items (λ h m. copies.lost c.in-Copies.logic c.lose.new.self c.lose.new.acts.items c.args.port h m c.lose.ensures.does)).ports

pub returns-in-Copies-clause-gives : goal.returns-in-Copies-clause-gives
returns-in-Copies-clause-gives c = (copies_do (cancels c.args.port) c.args.self.now c.requires.meets c.in-Copies.logic c.in-Copies.is c.lose.new.self c.lose.new.acts.items (λ h m. copies.lost c.in-Copies.logic c.lose.new.self c.lose.new.acts.items c.args.port h m c.lose.ensures.does)).gives

pub returns-in-Deals-clause-ports : goal.returns-in-Deals-clause-ports
returns-in-Deals-clause-ports c = (deals_do (cancels c.args.port) c.args.self.now c.requires.meets c.in-Deals.logic c.in-Deals.is c.lose-in-Deals.new.self c.lose-in-Deals.new.acts.items (λ h m. deals.lost c.in-Deals.logic c.lose-in-Deals.new.self c.lose-in-Deals.new.acts.items c.args.port h m c.lose-in-Deals.ensures.does)).ports

pub returns-in-Deals-clause-gives : goal.returns-in-Deals-clause-gives
returns-in-Deals-clause-gives c = (deals_do (cancels c.args.port) c.args.self.now c.requires.meets c.in-Deals.logic c.in-Deals.is c.lose-in-Deals.new.self c.lose-in-Deals.new.acts.items (λ h m. deals.lost c.in-Deals.logic c.lose-in-Deals.new.self c.lose-in-Deals.new.acts.items c.args.port h m c.lose-in-Deals.ensures.does)).gives
