-- The stage at which what a lane brings enters an island: what it knows of its one port, and what passed there.
use Rattle.std.specs.Prelude.{◌≡◌, ℕ, List, [], ◌∷◌}
use Rattle.elem_core.specs.Tree.{Tree}
use Rattle.elem_core.specs.declared.item.Item.{Item}
use Rattle.port_core.specs.declared.view.OutView.{OutView}
use Rattle.port_core.specs.declared.view.OutView.TheVariants.{Unpulled}
use Rattle.port_core.specs.View.{View, out_at}
use Rattle.stream_model.specs.Outlook.{End}
use Rattle.stage_core.specs.Held.{told}
use Rattle.stage_core.specs.Law.{GaveAs}
use Rattle.nodes.specs.OnePort.{output_only}

-- it has the number of the wire that the lane is, and keeps nothing else
pub record Entering : Type 0 where
  pub wire : ℕ

-- a new one knows that its output was not asked
abbrev pub EnteringFresh : Entering → View → Type 0
EnteringFresh x v = v ≡ output_only Unpulled

-- whatever was asked, given or closed there, it has nothing to do by itself
abbrev pub EnteringPortState : Entering → View → Type 0
EnteringPortState x v = (y : OutView) × (v ≡ output_only y)

-- what it gave is a list and its end, as it knows
pub record EnteringLaw (first now : Entering) (v : View) (took gave : List (List Item)) : Type 0 where
  pub list : List Tree
  pub end : End
  pub took_is : took ≡ []
  pub gave_is : gave ≡ told list end ∷ []
  pub gave_as : GaveAs (out_at v 0) end
  pub same : now ≡ first
