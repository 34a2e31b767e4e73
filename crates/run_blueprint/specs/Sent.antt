-- What was sent on a wire, by its type.
use Rattle.std.specs.Prelude.{◌≡◌, ℕ, Bool, true, false, List, [], ◌∷◌}
use Rattle.elem_core.specs.Tree.{Tree}
use Rattle.elem_core.specs.declared.item.Item.{Item}
use Rattle.stream_model.specs.Graph.{Graph, Edge}
use Rattle.stream_model.specs.Node.{World}
use Rattle.stream_model.specs.Outlook.{Outlook, Entry, End, unended, ended, failed}
use Rattle.stage_core.specs.Held.{told}
use Rattle.stream_model.specs.declared.blueprint.ChainDecl.{ChainDecl}
use Rattle.stream_model.specs.declared.blueprint.Node.{Node}
use Rattle.stream_model.specs.Known.{HeadLists}
use Rattle.run_blueprint.specs.Checked.{CarriesType}
use Rattle.run_blueprint.specs.Types.{AllTyped}

-- the failures that a list that stands so has come to: its own, from the first element on
abbrev fails_by : End → List Entry
fails_by unended = []
fails_by ended = []
fails_by (failed c) = record { cause = c; low = 0 } ∷ []

-- a list that stands so has come to a normal end
abbrev ends_by : End → Bool
ends_by unended = false
ends_by ended = true
ends_by (failed c) = false

-- what has passed, as an outlook of all that may pass: a list that stands so
abbrev pub exact : List Tree → End → Outlook
exact l e = record { list = l; ends = ends_by e; fails = fails_by e }

-- the items are elements of the type that is settled for the wire, and how it stands
pub record SendsItsType (heads : HeadLists) (chains : List ChainDecl) (nodes : List Node) (g : Graph) (w : World) (i : ℕ) (v : Edge) (sent : List Item)
    : Type 0 where
  pub carries : CarriesType heads chains nodes g w i v
  pub list : List Tree
  pub end : End
  pub is : sent ≡ told list end
  pub typed : AllTyped carries.type list
