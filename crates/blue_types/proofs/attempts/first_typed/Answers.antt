use Rattle.std.proofs.Common.{◌+◌, ◌-◌, ◌∙◌, ap, sym}
use Rattle.std.specs.Option.{option_or}
use Rattle.stream_model.specs.Composed.{count_from}
use Rattle.blue_names.specs.Rounds.{arrivals, first_typed}
use Rattle.blue_names.specs.Links.{wires_of_links}
use Rattle.blue_names.proofs.OpenPorts.{count_from_here}
use Rattle.blue_types.specs.Net.{type_at}
use Rattle.blue_types.proofs.attempts.first_typed.Goals as goal

pub loop-port-preserved : goal.loop-port-preserved
loop-port-preserved c =
    let e = ap (λ ps. first_typed (arrivals c.args.library.now.heads.now c.args.net.now.nodes.now (wires_of_links c.args.net.now.links.now) (type_at c.args.types.now) c.args.node ps)) (count_from_here c.loop-port.port c.args.count c.loop-port-test.true) in
    let rest = first_typed (arrivals c.args.library.now.heads.now c.args.net.now.nodes.now (wires_of_links c.args.net.now.links.now) (type_at c.args.types.now) c.args.node (count_from (c.loop-port.port + 1) (c.args.count - (c.loop-port.port + 1)))) in
    c.loop-port.invariant ∙ e ∙ ap (λ o. option_or o rest) (sym c.in_ok-t.ensures ∙ c.in-None.is)
