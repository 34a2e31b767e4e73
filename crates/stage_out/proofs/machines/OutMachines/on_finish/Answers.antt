use Rattle.elem_core.specs.declared.item.Item.TheVariants as item
use Rattle.port_core.specs.Call.{arrives}
use Rattle.stage_out.proofs.Handled.{copies_do, deals_do}
use Rattle.stage_out.proofs.Serves as copies
use Rattle.stage_out.proofs.Deals as deals
use Rattle.stage_out.proofs.machines.OutMachines.on_finish.Goals as goal

pub returns-in-Copies-clause-ports : goal.returns-in-Copies-clause-ports
returns-in-Copies-clause-ports c = (copies_do (arrives c.args.port item.Ended) c.args.self.now c.requires.meets c.in-Copies.logic c.in-Copies.is c.complete_all.new.self c.complete_all.new.acts.items (λ h m. copies.finished c.in-Copies.logic c.complete_all.new.self c.complete_all.new.acts.items c.args.port h m c.complete_all.ensures.does)).ports

pub returns-in-Copies-clause-gives : goal.returns-in-Copies-clause-gives
returns-in-Copies-clause-gives c = (copies_do (arrives c.args.port item.Ended) c.args.self.now c.requires.meets c.in-Copies.logic c.in-Copies.is c.complete_all.new.self c.complete_all.new.acts.items (λ h m. copies.finished c.in-Copies.logic c.complete_all.new.self c.complete_all.new.acts.items c.args.port h m c.complete_all.ensures.does)).gives

pub returns-in-Deals-clause-ports : goal.returns-in-Deals-clause-ports
returns-in-Deals-clause-ports c = (deals_do (arrives c.args.port item.Ended) c.args.self.now c.requires.meets c.in-Deals.logic c.in-Deals.is c.end.new.self c.end.new.acts.items (λ h m. deals.finished c.in-Deals.logic c.end.new.self c.end.new.acts.items c.args.port h m c.end.ensures.does)).ports

pub returns-in-Deals-clause-gives : goal.returns-in-Deals-clause-gives
returns-in-Deals-clause-gives c = (deals_do (arrives c.args.port item.Ended) c.args.self.now c.requires.meets c.in-Deals.logic c.in-Deals.is c.end.new.self c.end.new.acts.items (λ h m. deals.finished c.in-Deals.logic c.end.new.self c.end.new.acts.items c.args.port h m c.end.ensures.does)).gives
