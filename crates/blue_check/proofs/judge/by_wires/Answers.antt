use Rattle.std.specs.Prelude.{MatchResult}
use Rattle.std.proofs.Common.{◌≡◌, List, IfOk, None, Some, ap, sym, subst, ◌∙◌}
use Rattle.std.specs.Option.{option_map, option_or}
use Rattle.stream_model.specs.Graph.{Edge}
use Rattle.blue_names.specs.RuleLinks.{wires_of}
use Rattle.blue_names.specs.Names.{unknown_node}
use Rattle.blue_check.specs.declared.fault.CheckFault.TheVariants.{NoSuchName}
use Rattle.blue_check.specs.Fitness.{ports_fault, guests_fault, sizes_fault, types_fault}
use Rattle.blue_names.specs.Links.{wires_of_links}
use Rattle.blue_check.specs.Judging.{IsJudged}
use Rattle.blue_check.proofs.Verdicts.{judged_first, answer_next}
use Rattle.blue_check.proofs.judge.by_wires.Goals as goal

pub returns-in-Ok : goal.returns-in-Ok
returns-in-Ok c =
    let n = c.args.nodes.now in
    let ch = c.args.chains.now in
    let ws = wires_of n c.args.wires.now in
    let rest = option_or (ports_fault c.args.heads.now n ws) (option_or (guests_fault c.args.heads.now ch n) (option_or (sizes_fault c.args.heads.now ch n c.args.wires.now) (types_fault c.args.heads.now ch n ws))) in
    let linked = subst (λ r. MatchResult r (λ links. (unknown_node n c.args.wires.now ≡ None) × (wires_of_links links.items ≡ ws)) (λ name. unknown_node n c.args.wires.now ≡ Some name.now)) c.in-Ok.is c.in_ok-found.ensures in
    let by = subst (λ (vs : List Edge). IfOk c.by_ports.result (IsJudged (option_or (ports_fault c.args.heads.now n vs) (option_or (guests_fault c.args.heads.now ch n) (option_or (sizes_fault c.args.heads.now ch n c.args.wires.now) (types_fault c.args.heads.now ch n vs)))) vs)) (ap wires_of_links c.deref.ensures.value ∙ linked.1) c.by_ports.ensures in
    answer_next (option_map NoSuchName (unknown_node n c.args.wires.now)) rest ws c.by_ports.result (sym (ap (option_map NoSuchName) linked.0)) by

pub returns-in_ok-copy-in-Err : goal.returns-in_ok-copy-in-Err
returns-in_ok-copy-in-Err c =
    let n = c.args.nodes.now in
    let ch = c.args.chains.now in
    let ws = wires_of n c.args.wires.now in
    let rest = option_or (ports_fault c.args.heads.now n ws) (option_or (guests_fault c.args.heads.now ch n) (option_or (sizes_fault c.args.heads.now ch n c.args.wires.now) (types_fault c.args.heads.now ch n ws))) in
    judged_first (option_map NoSuchName (unknown_node n c.args.wires.now)) rest ws _ (sym (ap (option_map NoSuchName) (subst (λ r. MatchResult r (λ links. (unknown_node n c.args.wires.now ≡ None) × (wires_of_links links.items ≡ ws)) (λ name. unknown_node n c.args.wires.now ≡ Some name.now)) c.in-Err.is c.in_ok-found.ensures ∙ sym (ap Some c.in_ok-copy-in-Err.ensures))))
