use Rattle.std.proofs.Common.{◌≡◌, drop}
use Rattle.blue_names.specs.First.{first_from}
use Rattle.blue_names.specs.Rounds.{clash_on}
use Rattle.blue_names.specs.Links.{wires_of_links}
use Rattle.blue_types.specs.Net.{type_at}
use Rattle.blue_types.proofs.clashes.first_clash.Given as goal

abbrev pub invariant-loop-i : goal.invariant-loop-i
invariant-loop-i l =
    let clash = clash_on l.library.heads.now l.library.chains.now l.net.nodes.now (wires_of_links l.net.links.now) (type_at l.types) in
    first_from clash 0 (wires_of_links l.net.links.now) ≡ first_from clash l.i (wires_of_links (drop l.i l.net.links.now))
