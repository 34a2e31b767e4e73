-- A blueprint that stalls: two ways to a zip, of which one drops an element.
use Rattle.std.specs.Prelude.{ℕ, Bool, true, false, List, [], ◌∷◌}
use Rattle.stream_model.specs.declared.kind.Kind.TheVariants as k
use Rattle.stream_model.specs.declared.outcome.WireCount.{WireCount}
use Rattle.stream_model.specs.Graph.{Graph}
use Rattle.stream_model.specs.Node.{World}
use Rattle.stream_model.specs.Samples.{diamond, node, reading}

-- a wire that is open
abbrev pub live : ℕ → Bool → WireCount
live sent asked = record { sent = sent; asked = asked; shut = false }

-- a drop on one of the ways
abbrev pub dropping : Graph
dropping = diamond (node (k.Drop 1))

-- no file is read
abbrev pub no_files : World
no_files = reading []

-- what its wires carried
abbrev pub counts : List WireCount
counts = live 1 false ∷ live 1 false ∷ live 1 true ∷ live 0 true ∷ live 0 true ∷ []
