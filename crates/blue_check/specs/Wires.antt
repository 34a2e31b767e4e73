-- The wires of a blueprint by the numbers of their nodes.
use Rattle.std.specs.Prelude.{List}
use Rattle.stream_model.specs.Graph.{Edge}
use Rattle.stream_model.specs.declared.blueprint.Blueprint.{Blueprint}
use Rattle.blue_names.specs.RuleLinks.{wires_of}

-- the wires of a blueprint by the numbers of their nodes
abbrev pub blueprint_wires : Blueprint → List Edge
blueprint_wires b = wires_of b.nodes.items b.wires.items
