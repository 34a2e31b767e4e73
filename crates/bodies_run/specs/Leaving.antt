-- What the bodies of a blueprint's islands leave: an account of its wires, and its nodes in their order.
use Rattle.std.specs.Prelude.{◌≡◌, ℕ, ◌<◌, List, length, slice_get}
use Rattle.stream_model.specs.Graph.{Edge}
use Rattle.nodes.specs.declared.node.IslandNode.{IslandNode}
use Rattle.interpreter.specs.Parts.{AllBecome}
use Rattle.interpreter.specs.declared.parts.Seated.{Seated}
use Rattle.run_laws.specs.Account.{Account}
use Rattle.run_laws.specs.Seats.{joined_account}
use Rattle.bodies_run.specs.Islands.{seats_by_islands}
use Rattle.island_body.specs.declared.body.Body.{Body}
use Rattle.bodies_run.specs.Bodies.{net_of}

-- what bodies tell together, where the input ends of the lanes asked for so many elements
abbrev pub account_in : {S D L H B : Type 0} → List ℕ → List Edge → List (Body S D L H B) → (ℕ → ℕ) → Account (IslandNode S D L H B)
account_in homes ws bodies all = joined_account (net_of bodies) (seats_by_islands homes ws) all

-- The account is of these nodes, in the order of the blueprint, and they began as what stands at these places. Beyond them it says
-- nothing of nodes.
pub record AreLeft {S D L H B : Type 0} (places : List (Seated S D L H B)) (account : Account (IslandNode S D L H B)) (nodes : List (IslandNode S D L H B))
    : Type 0 where
  pub firsts : List (IslandNode S D L H B)
  pub become : AllBecome places firsts
  pub first_at : (k : ℕ) → k < length firsts → account.firsts k ≡ slice_get firsts k
  pub node_at : (k : ℕ) → k < length nodes → account.nodes k ≡ slice_get nodes k
  pub as_many : length nodes ≡ length firsts

-- an account of the same wires, and of these nodes alone, by how they began and as they are
abbrev pub of_lists : {N : Type 0} → Account N → List N → List N → Account N
of_lists a firsts nodes = record { firsts = λ k. slice_get firsts k; nodes = λ k. slice_get nodes k; near = a.near; far = a.far; asked = a.asked }
