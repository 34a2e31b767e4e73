-- The stages of a blueprint whose kinds choose, in the order of nodes.
use Rattle.std.specs.Prelude.{ℕ, List, map, filter}
use Rattle.stream_model.specs.declared.blueprint.Node.{Node}
use Rattle.blue_names.specs.Picks.{picks}

-- the names of the stages whose kinds choose, in order of nodes
abbrev pub pick_names : List Node → List (List ℕ)
pick_names nodes = map (λ n. n.name) (filter (λ n. picks n.kind) nodes)
