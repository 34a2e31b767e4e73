use Rattle.std.proofs.Common.{subst, map}
use Rattle.std.proofs.lemmas.List.{map-id}
use Rattle.blue_names.specs.Table.{Numbers}
use Rattle.blue_names.proofs.names.unknown_mention.Goals as goal

pub returns : goal.returns
returns c =
    let n : Numbers c.in_ok-switches.switches c.args.switches.now = subst (Numbers c.in_ok-switches.switches) (map-id c.args.switches.now) c.in_ok-switches.ensures in
    c.unknown_in_nodes.ensures c.args.switches.now (map (λ d. d.name) c.args.chains.now) n c.in_ok-chains.ensures
