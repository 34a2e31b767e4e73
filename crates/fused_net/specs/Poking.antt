-- What leaves a graph outside of the handlers of its nodes, as at the boundary stage of a lane.
use Rattle.std.specs.Prelude.{◌≡◌, ℕ, Some, List, [], ◌∷◌, ◌++◌, slice_get}
use Rattle.elem_core.specs.declared.item.Item.{Item}
use Rattle.port_core.specs.View.{View}
use Rattle.port_core.specs.View as view
use Rattle.port_core.specs.declared.act.Act.{Act}
use Rattle.stage_core.specs.Handling.{Pulls}
use Rattle.fused_net.specs.Net.{Net, view_of, with_node}

module _ {N : Type 0} where
  -- a fact of node n
  abbrev pub AtNode : Net N → ℕ → (N → Type 0) → Type 0
  AtNode net n P = (x : N) → slice_get net.nodes n ≡ Some x → P x

  -- what node n tells of its ports whenever it has just pulled holds once it has done this by itself, where this asks
  abbrev pub TellsPoked : (N → View → Type 0) → Net N → ℕ → Act → Type 0
  TellsPoked asking net n a = Pulls (a ∷ []) → AtNode net n (λ x. asking x (view.acted (view_of net n) a))

  -- These items, which waited at node n, left the graph: the node goes on without them, and all else is as it was.
  pub record HandsAt (gone waits : N → List Item) (old : Net N) (n : ℕ) (given : List Item) (new : Net N) : Type 0 where
    pub node : N
    pub next : N
    pub at : slice_get old.nodes n ≡ Some node
    pub is : new ≡ with_node old n next
    pub gone_is : gone next ≡ gone node ++ given
    pub waits_is : waits node ≡ given ++ waits next
