-- Tables of the wires at ports, and what they know.
use Rattle.std.specs.Prelude.{◌≡◌, ℕ, ◌==◌, ◌&&◌, List, Option}
use Rattle.std.specs.HashMap.{HashMap, get}
use Rattle.stream_model.specs.Graph.{Edge, find_wire, find_source}
use Rattle.blue_names.specs.Ports as rule
use Rattle.blue_names.specs.declared.ports.OpenPort.{OpenPort}

-- the wire that a table has at a port
abbrev pub found_in : {S : Type 0} → HashMap (ℕ × ℕ) ℕ S → ℕ → ℕ → Option ℕ
found_in m node port = get (λ x y. (x.0 == y.0) && (x.1 == y.1)) m (node, port)

-- the table has the first wire into each input
pub record FindsWires {S : Type 0} (m : HashMap (ℕ × ℕ) ℕ S) (ws : List Edge) : Type 0 where
  pub wire_at : (node port : ℕ) → found_in m node port ≡ find_wire node port ws

-- the table has the first wire out of each output
pub record FindsSources {S : Type 0} (m : HashMap (ℕ × ℕ) ℕ S) (ws : List Edge) : Type 0 where
  pub wire_at : (node port : ℕ) → found_in m node port ≡ find_source node port ws

-- an open port as the rules see it
abbrev pub port_of : OpenPort → rule.OpenPort
port_of o = record { node = o.node; output = o.output; port = o.port }
