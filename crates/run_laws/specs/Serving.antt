-- Where a node serves the moves that a world has of it.
use Rattle.std.specs.Prelude.{◌≡◌, ◌⊎◌, ◌<◌, ℕ, true, List, [], Option, Some, None}
use Rattle.stream_model.specs.Graph.{Graph, Node}
use Rattle.stream_model.specs.View.{outputs_of}
use Rattle.stream_model.specs.Fits.{inputs, moves_fit}
use Rattle.stream_model.specs.Node.{World, node_outlook}
use Rattle.plan_laws.specs.Sure.{AllSure}

-- no failure may come on any wire of node k: neither on one into it, nor on one out of it
pub record IsSureAt (g : Graph) (w : World) (k : ℕ) (n : Node) : Type 0 where
  pub ins : AllSure (inputs g w k n)
  pub outs : (p : ℕ) → p < outputs_of n → (node_outlook g w k n.kind n.decider (inputs g w k n) p).fails ≡ []

-- The world has the moves that node k made; or those that it follows, which fit, and no failure may come on its wires.
abbrev pub ServesPlan : Graph → World → ℕ → Node → Option (List ℕ) → List ℕ → Type 0
ServesPlan g w k n None made = w.moves k ≡ made
ServesPlan g w k n (Some plan) made = (w.moves k ≡ made)
    ⊎ ((w.moves k ≡ plan) × ((moves_fit g w k n.kind (inputs g w k n) ≡ true) × IsSureAt g w k n))
