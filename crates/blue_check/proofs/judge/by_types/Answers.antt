use Rattle.std.proofs.Common.{sym, ◌∙◌}
use Rattle.std.specs.Option.{option_or}
use Rattle.blue_names.specs.RuleLinks.{wires_of}
use Rattle.blue_names.specs.Links.{wires_of_links}
use Rattle.blue_check.specs.Fitness.{names_fault, ports_fault, guests_fault, sizes_fault, types_fault}
use Rattle.blue_check.proofs.Verdicts.{judged_last, answer_last}
use Rattle.blue_check.proofs.judge.by_types.Goals as goal

pub returns-in-Some : goal.returns-in-Some
returns-in-Some c = judged_last (types_fault c.args.heads.now c.args.chains.now c.args.nodes.now (wires_of_links c.args.links.now)) (wires_of_links c.args.links.now) c.in-Some.fault (sym c.in-Some.is ∙ c.in_ok-fault.ensures)

pub returns : goal.returns
returns c = answer_last (types_fault c.args.heads.now c.args.chains.now c.args.nodes.now (wires_of_links c.args.links.now)) (wires_of_links c.args.links.now) c.by_walks.result (sym c.in-None.is ∙ c.in_ok-fault.ensures) c.by_walks.ensures
