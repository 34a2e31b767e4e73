use Rattle.std.proofs.Common.{◌≡◌, ◌||◌, drop}
use Rattle.std.specs.Prelude.{slice_get}
use Rattle.blue_names.specs.First.{first_from, when}
use Rattle.blue_names.specs.Ports.{port_missing, lacks_output, lacks_input}
use Rattle.blue_names.specs.Links.{wires_of_links}
use Rattle.blue_names.proofs.ports.port_missing.Given as goal

abbrev pub invariant-loop-i : goal.invariant-loop-i
invariant-loop-i l = port_missing l.heads l.nodes (wires_of_links l.links)
    ≡ first_from (λ i w. when (lacks_output l.heads (slice_get l.nodes w.from) w.output || lacks_input l.heads (slice_get l.nodes w.to) w.input) i) l.i (wires_of_links (drop l.i l.links))
