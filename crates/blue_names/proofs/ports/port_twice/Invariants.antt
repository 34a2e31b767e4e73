use Rattle.std.proofs.Common.{◌≡◌, ◌||◌, ◌&&◌, not, drop}
use Rattle.std.specs.Prelude.{slice_get}
use Rattle.stream_model.specs.Graph.{find_wire, find_source}
use Rattle.blue_names.specs.First.{first_from, when}
use Rattle.blue_names.specs.Ports.{port_twice, lacks_guest, is_port_number}
use Rattle.blue_names.specs.Links.{wires_of_links}
use Rattle.blue_names.proofs.ports.port_twice.Given as goal

abbrev pub invariant-loop-i : goal.invariant-loop-i
invariant-loop-i l =
    let ws = wires_of_links l.links in
    port_twice l.heads l.nodes ws ≡ first_from (λ i w. when
    ((not (lacks_guest l.heads (slice_get l.nodes w.from)) && not (is_port_number i (find_source w.from w.output ws)))
    || (not (lacks_guest l.heads (slice_get l.nodes w.to)) && not (is_port_number i (find_wire w.to w.input ws)))) i) l.i (wires_of_links (drop l.i l.links))
