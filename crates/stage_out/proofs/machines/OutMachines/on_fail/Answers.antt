use Rattle.elem_core.specs.declared.item.Item.TheVariants as item
use Rattle.port_core.specs.Call.{arrives}
use Rattle.stage_out.proofs.Handled.{copies_do, deals_do}
use Rattle.stage_out.proofs.Serves as copies
use Rattle.stage_out.proofs.Deals as deals
use Rattle.stage_out.proofs.machines.OutMachines.on_fail.Goals as goal

pub returns-in-Copies-clause-ports : goal.returns-in-Copies-clause-ports
returns-in-Copies-clause-ports c = (copies_do (arrives c.args.port (item.Failed c.args.cause)) c.args.self.now c.requires.meets c.in-Copies.logic c.in-Copies.is c.fail_all.new.self c.fail_all.new.acts.items (λ h m. copies.failed_on c.in-Copies.logic c.fail_all.new.self c.fail_all.new.acts.items c.args.port c.args.cause h m c.fail_all.ensures.does)).ports

pub returns-in-Copies-clause-gives : goal.returns-in-Copies-clause-gives
returns-in-Copies-clause-gives c = (copies_do (arrives c.args.port (item.Failed c.args.cause)) c.args.self.now c.requires.meets c.in-Copies.logic c.in-Copies.is c.fail_all.new.self c.fail_all.new.acts.items (λ h m. copies.failed_on c.in-Copies.logic c.fail_all.new.self c.fail_all.new.acts.items c.args.port c.args.cause h m c.fail_all.ensures.does)).gives

pub returns-in-Deals-clause-ports : goal.returns-in-Deals-clause-ports
returns-in-Deals-clause-ports c = (deals_do (arrives c.args.port (item.Failed c.args.cause)) c.args.self.now c.requires.meets c.in-Deals.logic c.in-Deals.is c.fail_all-in-Deals.new.self c.fail_all-in-Deals.new.acts.items (λ h m. deals.failed_on c.in-Deals.logic c.fail_all-in-Deals.new.self c.fail_all-in-Deals.new.acts.items c.args.port c.args.cause h m c.fail_all-in-Deals.ensures.does)).ports

pub returns-in-Deals-clause-gives : goal.returns-in-Deals-clause-gives
returns-in-Deals-clause-gives c = (deals_do (arrives c.args.port (item.Failed c.args.cause)) c.args.self.now c.requires.meets c.in-Deals.logic c.in-Deals.is c.fail_all-in-Deals.new.self c.fail_all-in-Deals.new.acts.items (λ h m. deals.failed_on c.in-Deals.logic c.fail_all-in-Deals.new.self c.fail_all-in-Deals.new.acts.items c.args.port c.args.cause h m c.fail_all-in-Deals.ensures.does)).gives
