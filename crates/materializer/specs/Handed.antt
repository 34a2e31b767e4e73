-- Which source and which drain the nodes of a blueprint hold as they are handed in.
use Rattle.std.specs.Prelude.{◌≡◌, ℕ, List, slice_get, Some}
use Rattle.nodes.specs.declared.node.IslandNode.{IslandNode}
use Rattle.nodes.specs.declared.node.IslandNode.TheVariants.{Reading, Writing, Ignoring}
use Rattle.nodes.specs.Ignoring.{Ignorer}
use Rattle.nodes.specs.Sink.{Sink}
use Rattle.nodes.specs.Source.{Lines}

-- node k reads the source of the file of that name, among the sources of these files
pub record ReadsSourceFile {S D L H B : Type 0} (files : List (List ℕ)) (sources : List S) (firsts : List (IslandNode S D L H B)) (k : ℕ) (name : List ℕ)
    : Type 0 where
  pub first : Lines S
  pub at : slice_get firsts k ≡ Some (Reading first)
  pub node : first.node ≡ k
  pub place : ℕ
  pub source : slice_get sources place ≡ Some first.reader.source
  pub file : slice_get files place ≡ Some name

-- node k writes the drain of the file of that name, among the drains of these files
pub record WritesFile {S D L H B : Type 0} (files : List (List ℕ)) (drains : List D) (firsts : List (IslandNode S D L H B)) (k : ℕ) (name : List ℕ) : Type 0 where
  pub first : Sink D
  pub at : slice_get firsts k ≡ Some (Writing first)
  pub node : first.node ≡ k
  pub place : ℕ
  pub drain : slice_get drains place ≡ Some first.drain
  pub file : slice_get files place ≡ Some name

-- node k keeps nothing, and holds no drain
pub record WritesNoFile {S D L H B : Type 0} (firsts : List (IslandNode S D L H B)) (k : ℕ) : Type 0 where
  pub first : Ignorer
  pub at : slice_get firsts k ≡ Some (Ignoring first)
  pub node : first.node ≡ k
