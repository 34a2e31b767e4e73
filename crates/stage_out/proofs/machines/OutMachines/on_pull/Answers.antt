use Rattle.port_core.specs.Call.{pulls}
use Rattle.stage_out.proofs.OutRests.{copies_live, deals_live}
use Rattle.stage_out.proofs.Handled.{copies_meet, copies_do, deals_meet, deals_do}
use Rattle.stage_out.proofs.Serves as copies
use Rattle.stage_out.proofs.Deals as deals
use Rattle.stage_out.proofs.machines.OutMachines.on_pull.Goals as goal

pub ask-requires-clause-there : goal.ask-requires-clause-there
ask-requires-clause-there c = (copies.asked_there c.in-Copies.logic c.args.port (copies_live (pulls c.args.port) c.in-Copies.logic c.args.self.now c.in-Copies.is c.requires.meets) (copies_meet (pulls c.args.port) c.args.self.now c.requires.meets c.in-Copies.logic c.in-Copies.is)).0

pub ask-requires-clause-some : goal.ask-requires-clause-some
ask-requires-clause-some c = (copies.asked_there c.in-Copies.logic c.args.port (copies_live (pulls c.args.port) c.in-Copies.logic c.args.self.now c.in-Copies.is c.requires.meets) (copies_meet (pulls c.args.port) c.args.self.now c.requires.meets c.in-Copies.logic c.in-Copies.is)).1

pub ask-requires-in-Deals-clause-there : goal.ask-requires-in-Deals-clause-there
ask-requires-in-Deals-clause-there c = (deals.asked_there c.in-Deals.logic c.args.port (deals_live (pulls c.args.port) c.in-Deals.logic c.args.self.now c.in-Deals.is c.requires.meets) (deals_meet (pulls c.args.port) c.args.self.now c.requires.meets c.in-Deals.logic c.in-Deals.is)).0

pub ask-requires-in-Deals-clause-few : goal.ask-requires-in-Deals-clause-few
ask-requires-in-Deals-clause-few c = (deals.asked_there c.in-Deals.logic c.args.port (deals_live (pulls c.args.port) c.in-Deals.logic c.args.self.now c.in-Deals.is c.requires.meets) (deals_meet (pulls c.args.port) c.args.self.now c.requires.meets c.in-Deals.logic c.in-Deals.is)).1.0

pub ask-requires-in-Deals-clause-count : goal.ask-requires-in-Deals-clause-count
ask-requires-in-Deals-clause-count c = (deals.asked_there c.in-Deals.logic c.args.port (deals_live (pulls c.args.port) c.in-Deals.logic c.args.self.now c.in-Deals.is c.requires.meets) (deals_meet (pulls c.args.port) c.args.self.now c.requires.meets c.in-Deals.logic c.in-Deals.is)).1.1

pub returns-in-Copies-clause-ports : goal.returns-in-Copies-clause-ports
returns-in-Copies-clause-ports c = (copies_do (pulls c.args.port) c.args.self.now c.requires.meets c.in-Copies.logic c.in-Copies.is c.ask.new.self c.ask.new.acts.items (λ h m. copies.asked c.in-Copies.logic c.ask.new.self c.ask.new.acts.items c.args.port h m c.ask.ensures.does)).ports

pub returns-in-Copies-clause-gives : goal.returns-in-Copies-clause-gives
returns-in-Copies-clause-gives c = (copies_do (pulls c.args.port) c.args.self.now c.requires.meets c.in-Copies.logic c.in-Copies.is c.ask.new.self c.ask.new.acts.items (λ h m. copies.asked c.in-Copies.logic c.ask.new.self c.ask.new.acts.items c.args.port h m c.ask.ensures.does)).gives

pub returns-in-Deals-clause-ports : goal.returns-in-Deals-clause-ports
returns-in-Deals-clause-ports c = (deals_do (pulls c.args.port) c.args.self.now c.requires.meets c.in-Deals.logic c.in-Deals.is c.ask-in-Deals.new.self c.ask-in-Deals.new.acts.items (λ h m. deals.asked c.in-Deals.logic c.ask-in-Deals.new.self c.ask-in-Deals.new.acts.items c.args.port h m c.ask-in-Deals.ensures.does)).ports

pub returns-in-Deals-clause-gives : goal.returns-in-Deals-clause-gives
returns-in-Deals-clause-gives c = (deals_do (pulls c.args.port) c.args.self.now c.requires.meets c.in-Deals.logic c.in-Deals.is c.ask-in-Deals.new.self c.ask-in-Deals.new.acts.items (λ h m. deals.asked c.in-Deals.logic c.ask-in-Deals.new.self c.ask-in-Deals.new.acts.items c.args.port h m c.ask-in-Deals.ensures.does)).gives
