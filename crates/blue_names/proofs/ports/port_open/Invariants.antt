use Rattle.std.proofs.Common.{◌≡◌, List, drop}
use Rattle.std.specs.Option.{option_or}
use Rattle.stream_model.specs.Graph.{Edge}
use Rattle.blue_names.specs.First.{first_from}
use Rattle.blue_names.specs.Ports.{port_open, open_input, open_output}
use Rattle.blue_names.specs.Wiring.{FindsWires, FindsSources}
use Rattle.blue_names.proofs.ports.port_open.Given as goal

abbrev pub invariant-loop-i : goal.invariant-loop-i
invariant-loop-i l = (ws : List Edge) → FindsWires l.targets ws → FindsSources l.sources ws
    → port_open l.heads l.nodes ws ≡ first_from (λ i n. option_or (open_input l.heads i n ws) (open_output l.heads i n ws)) l.i (drop l.i l.nodes)
