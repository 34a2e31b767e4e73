-- The stage at which what came to it leaves an island for a lane: what it knows of its one port, and what passed there.
-- Choice: docs/DECISIONS.md#boundary-views
use Rattle.std.specs.Prelude.{◌≡◌, ◌≤◌, ℕ, List, [], ◌∷◌, ◌++◌, length, ⊤}
use Rattle.elem_core.specs.Tree.{Tree}
use Rattle.elem_core.specs.declared.item.Item.{Item}
use Rattle.port_core.specs.declared.view.InView.{InView}
use Rattle.port_core.specs.declared.view.InView.TheVariants.{Idle, Pulled, Finished, Cancelled}
use Rattle.port_core.specs.View.{View, in_at}
use Rattle.stream_model.specs.Outlook.{End}
use Rattle.stage_core.specs.Held.{told}
use Rattle.stage_core.specs.Law.{TookAs}
use Rattle.nodes.specs.OnePort.{input_only}

-- it has the number of the wire that the lane is, what came and waits to be handed out, and what was handed out or dropped before
pub record Leaving : Type 0 where
  pub wire : ℕ
  pub waits : List Item
  pub gone : List Item

-- to a new one nothing came
pub record LeavingFresh (x : Leaving) (v : View) : Type 0 where
  pub waits : x.waits ≡ []
  pub gone : x.gone ≡ []
  pub port : v ≡ input_only Idle

-- it asks only where nothing waits, and so an element waits at most while it is open
abbrev pub leaving_in : List Item → InView → Type 0
leaving_in waits Idle = length waits ≤ 1
leaving_in waits Pulled = waits ≡ []
leaving_in waits Finished = ⊤
leaving_in waits Cancelled = ⊤

-- what it knows of its one input
abbrev pub LeavingPortState : Leaving → View → Type 0
LeavingPortState x v = (y : InView) × ((v ≡ input_only y) × leaving_in x.waits y)

-- what came is a list and its end, as it knows: what was handed out or dropped, and then what waits
pub record LeavingLaw (first now : Leaving) (v : View) (took gave : List (List Item)) : Type 0 where
  pub list : List Tree
  pub end : End
  pub gave_is : gave ≡ []
  pub took_is : took ≡ told list end ∷ []
  pub took_as : TookAs (in_at v 0) end
  pub parts : told list end ≡ now.gone ++ now.waits
  pub same : now.wire ≡ first.wire
