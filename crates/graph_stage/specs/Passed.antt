-- What passed at the ports of a custom stage over a run.
use Rattle.std.specs.Prelude.{◌≡◌, List, [], ◌∷◌, Option, ⊤}
use Rattle.elem_core.specs.Sort.{Sort}
use Rattle.elem_core.specs.Tree.{Tree}
use Rattle.elem_core.specs.declared.item.Item.{Item}
use Rattle.elem_core.specs.declared.item.Item.TheVariants as item
use Rattle.stream_model.specs.Outlook.{End}
use Rattle.stage_core.specs.Held.{told}
use Rattle.graph_stage.specs.Pushes.{IsOf}

-- it is a list of elements and an end, and the end is one of these
pub record PassedUpTo (Ends : End → Type 0) (items : List Item) : Type 0 where
  pub list : List Tree
  pub end : End
  pub is : items ≡ told list end
  pub ends : Ends end

-- each element among these is of that type
abbrev pub ItemsTyped : Option Sort → List Item → Type 0
ItemsTyped t [] = ⊤
ItemsTyped t (item.Elem e ∷ items) = IsOf t e × ItemsTyped t items
ItemsTyped t (item.Ended ∷ items) = ItemsTyped t items
ItemsTyped t (item.Failed c ∷ items) = ItemsTyped t items
