use Rattle.elem_core.specs.declared.item.Item.TheVariants as item
use Rattle.port_core.specs.Call.{arrives}
use Rattle.stage_out.proofs.OnOks.{on_ok}
use Rattle.stage_out.proofs.OutRests.{deals_live}
use Rattle.stage_out.proofs.Handled.{copies_do, deals_meet, deals_do}
use Rattle.stage_out.proofs.Serves as copies
use Rattle.stage_out.proofs.Deals as deals
use Rattle.stage_out.proofs.Deals.{some_asks}
use Rattle.stage_out.proofs.machines.OutMachines.on_push.Goals as goal

pub serve-requires-in-Deals-clause-some : goal.serve-requires-in-Deals-clause-some
serve-requires-in-Deals-clause-some c = some_asks c.in-Deals.logic (deals.served_there c.in-Deals.logic c.args.port c.args.e (deals_live (arrives c.args.port (item.Elem c.args.e)) c.in-Deals.logic c.args.self.now c.in-Deals.is c.requires.meets) (deals_meet (arrives c.args.port (item.Elem c.args.e)) c.args.self.now c.requires.meets c.in-Deals.logic c.in-Deals.is))

pub returns-in-Copies-clause-ports : goal.returns-in-Copies-clause-ports
returns-in-Copies-clause-ports c = on_ok c.serve.result (λ d. (copies_do (arrives c.args.port (item.Elem c.args.e)) c.args.self.now c.requires.meets c.in-Copies.logic c.in-Copies.is c.serve.new.self c.serve.new.acts.items (λ h m. copies.pushed c.in-Copies.logic c.serve.new.self c.serve.new.acts.items c.args.port c.args.e h m d)).ports) c.serve.ensures.does

pub returns-in-Copies-clause-gives : goal.returns-in-Copies-clause-gives
returns-in-Copies-clause-gives c = on_ok c.serve.result (λ d. (copies_do (arrives c.args.port (item.Elem c.args.e)) c.args.self.now c.requires.meets c.in-Copies.logic c.in-Copies.is c.serve.new.self c.serve.new.acts.items (λ h m. copies.pushed c.in-Copies.logic c.serve.new.self c.serve.new.acts.items c.args.port c.args.e h m d)).gives) c.serve.ensures.does

pub returns-in-Deals-clause-ports : goal.returns-in-Deals-clause-ports
returns-in-Deals-clause-ports c = on_ok c.serve-in-Deals.result (λ d. (deals_do (arrives c.args.port (item.Elem c.args.e)) c.args.self.now c.requires.meets c.in-Deals.logic c.in-Deals.is c.serve-in-Deals.new.self c.serve-in-Deals.new.acts.items (λ h m. deals.served_on c.in-Deals.logic c.serve-in-Deals.new.self c.serve-in-Deals.new.acts.items c.args.port c.args.e h m d)).ports) c.serve-in-Deals.ensures.does

pub returns-in-Deals-clause-gives : goal.returns-in-Deals-clause-gives
returns-in-Deals-clause-gives c = on_ok c.serve-in-Deals.result (λ d. (deals_do (arrives c.args.port (item.Elem c.args.e)) c.args.self.now c.requires.meets c.in-Deals.logic c.in-Deals.is c.serve-in-Deals.new.self c.serve-in-Deals.new.acts.items (λ h m. deals.served_on c.in-Deals.logic c.serve-in-Deals.new.self c.serve-in-Deals.new.acts.items c.args.port c.args.e h m d)).gives) c.serve-in-Deals.ensures.does
