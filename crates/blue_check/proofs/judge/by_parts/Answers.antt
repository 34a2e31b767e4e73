use Rattle.std.proofs.Common.{IfOk, sym, subst, ◌∙◌}
use Rattle.std.specs.Option.{option_map, option_or}
use Rattle.blue_names.specs.RuleLinks.{wires_of}
use Rattle.blue_names.specs.Names.{taken_twice, unknown_mention, unknown_node}
use Rattle.blue_check.specs.declared.fault.CheckFault.TheVariants.{TwoNames, NoSuchName}
use Rattle.blue_check.specs.declared.judge.Judged.TheVariants.{Unfit}
use Rattle.blue_check.specs.Fitness.{ports_fault, guests_fault, sizes_fault, types_fault}
use Rattle.blue_check.specs.Judging.{IsJudged}
use Rattle.blue_check.proofs.Verdicts.{judged_first, answer_next, names_apart}
use Rattle.blue_check.proofs.judge.by_parts.Goals as goal

pub returns-in-Some : goal.returns-in-Some
returns-in-Some c =
    let n = c.args.nodes.now in
    let ch = c.args.chains.now in
    let ws = wires_of n c.args.wires.now in
    let twice = option_map TwoNames (taken_twice c.args.switches.now ch n c.args.taken.now) in
    let mention = unknown_mention c.args.switches.now ch n in
    let node = unknown_node n c.args.wires.now in
    let rest = option_or (ports_fault c.args.heads.now n ws) (option_or (guests_fault c.args.heads.now ch n) (option_or (sizes_fault c.args.heads.now ch n c.args.wires.now) (types_fault c.args.heads.now ch n ws))) in
    subst (λ o. IsJudged o ws (Unfit c.in-Some.fault)) (names_apart twice rest mention node)
    (judged_first (option_or twice (option_map NoSuchName mention)) (option_or (option_map NoSuchName node) rest) ws c.in-Some.fault (sym c.in-Some.is ∙ c.in_ok-fault.ensures))

pub returns-in-None : goal.returns-in-None
returns-in-None c =
    let n = c.args.nodes.now in
    let ch = c.args.chains.now in
    let ws = wires_of n c.args.wires.now in
    let twice = option_map TwoNames (taken_twice c.args.switches.now ch n c.args.taken.now) in
    let mention = unknown_mention c.args.switches.now ch n in
    let node = unknown_node n c.args.wires.now in
    let rest = option_or (ports_fault c.args.heads.now n ws) (option_or (guests_fault c.args.heads.now ch n) (option_or (sizes_fault c.args.heads.now ch n c.args.wires.now) (types_fault c.args.heads.now ch n ws))) in
    subst (λ o. IfOk c.by_wires.result (IsJudged o ws)) (names_apart twice rest mention node)
    (answer_next (option_or twice (option_map NoSuchName mention)) (option_or (option_map NoSuchName node) rest) ws c.by_wires.result (sym c.in-None.is ∙ c.in_ok-fault.ensures) c.by_wires.ensures)
