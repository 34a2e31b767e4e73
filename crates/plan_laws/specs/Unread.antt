-- Files of the same bytes, no read of which failed.
use Rattle.std.specs.Prelude.{◌≡◌, ℕ, false, List, slice_get, Some}
use Rattle.stream_model.specs.declared.kind.Kind.TheVariants.{Lines}
use Rattle.stream_model.specs.Graph.{Graph, Node}
use Rattle.stream_model.specs.Node.{World}
use Rattle.stream_model.specs.Sources.{File}

-- the two have the same bytes, and no read of either failed
pub record AlikeFiles (f h : File) : Type 0 where
  pub bytes : f.bytes ≡ h.bytes
  pub first : f.faulted ≡ false
  pub second : h.faulted ≡ false

-- the same of each file that a source of the graph reads
abbrev pub AlikeSources : Graph → (List ℕ → File) → (List ℕ → File) → Type 0
AlikeSources g f h = (node : ℕ) (n : Node) (name : List ℕ) → slice_get g.nodes node ≡ Some n → n.kind ≡ Lines name → AlikeFiles (f name) (h name)

-- the world with these files
abbrev pub with_files : (List ℕ → File) → World → World
with_files f w = record { book = w.book; file = f; moves = w.moves; given = w.given }
