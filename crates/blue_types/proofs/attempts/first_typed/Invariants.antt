use Rattle.std.proofs.Common.{◌≡◌, ◌-◌}
use Rattle.stream_model.specs.Composed.{count_from}
use Rattle.blue_names.specs.Rounds.{arrivals, first_typed}
use Rattle.blue_names.specs.Links.{wires_of_links}
use Rattle.blue_types.specs.Net.{type_at}
use Rattle.blue_types.proofs.attempts.first_typed.Given as goal

abbrev pub invariant-loop-port : goal.invariant-loop-port
invariant-loop-port l =
    let arrive = arrivals l.library.heads.now l.net.nodes.now (wires_of_links l.net.links.now) (type_at l.types) l.node in
    first_typed (arrive (count_from 0 l.count)) ≡ first_typed (arrive (count_from l.port (l.count - l.port)))
