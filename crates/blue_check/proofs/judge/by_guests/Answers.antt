use Rattle.std.proofs.Common.{sym, ◌∙◌}
use Rattle.std.specs.Option.{option_or}
use Rattle.blue_names.specs.RuleLinks.{wires_of}
use Rattle.blue_names.specs.Links.{wires_of_links}
use Rattle.blue_check.specs.Fitness.{names_fault, ports_fault, guests_fault, sizes_fault, types_fault}
use Rattle.blue_check.proofs.Verdicts.{judged_first, answer_next}
use Rattle.blue_check.proofs.judge.by_guests.Goals as goal

pub returns-in-Some : goal.returns-in-Some
returns-in-Some c =
    judged_first (guests_fault c.args.heads.now c.args.chains.now c.args.nodes.now) (option_or (sizes_fault c.args.heads.now c.args.chains.now c.args.nodes.now c.args.wires.now) (types_fault c.args.heads.now c.args.chains.now c.args.nodes.now (wires_of_links c.args.links.now))) (wires_of_links c.args.links.now) c.in-Some.fault (sym c.in-Some.is ∙ c.in_ok-fault.ensures)

pub returns-in-None : goal.returns-in-None
returns-in-None c =
    answer_next (guests_fault c.args.heads.now c.args.chains.now c.args.nodes.now) (option_or (sizes_fault c.args.heads.now c.args.chains.now c.args.nodes.now c.args.wires.now) (types_fault c.args.heads.now c.args.chains.now c.args.nodes.now (wires_of_links c.args.links.now))) (wires_of_links c.args.links.now) c.by_sizes.result (sym c.in-None.is ∙ c.in_ok-fault.ensures) c.by_sizes.ensures
