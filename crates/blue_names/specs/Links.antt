-- Links as the wires that the rules see.
use Rattle.std.specs.Prelude.{ℕ, ◌<◌, List, All, map}
use Rattle.stream_model.specs.Graph.{Edge}
use Rattle.blue_names.specs.declared.links.NumberedWire.{NumberedWire}

-- a link as a wire
abbrev pub wire_of_link : NumberedWire → Edge
wire_of_link l = record { from = l.from; output = l.output; to = l.to; input = l.input; lane = l.lane; keep = l.keep; hub = l.hub }

-- the wires that these links are
abbrev pub wires_of_links : List NumberedWire → List Edge
wires_of_links ls = map wire_of_link ls

-- the ends of each are numbers of nodes
abbrev pub AreInRange : ℕ → List NumberedWire → Type 0
AreInRange count ls = All (λ l. (l.from < count) × (l.to < count)) ls
