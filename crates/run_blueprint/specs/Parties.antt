-- What a wire of a hub carries of its party: from a producer to a merge hub, and from a broadcast hub to a consumer.
use Rattle.std.specs.Prelude.{◌≡◌, ◌≢◌, ℕ, ◌+◌, ◌≤◌, List, length}
use Rattle.elem_core.specs.Items.{elements}
use Rattle.elem_core.specs.Prefix.{IsPrefix}
use Rattle.elem_core.specs.Tree.{Tree}
use Rattle.port_core.specs.Cell.{WireState}
use Rattle.port_core.specs.declared.view.InView.TheVariants.{Cancelled}
use Rattle.stage_core.specs.Held.{told}
use Rattle.stream_model.specs.Outlook.{End, unended}
use Rattle.run_laws.specs.Items.{list_of, end_of_items}

-- A wire of so many places, by the connection of the node that offers and by that of the node that takes. What was taken is a list
-- and its end: the first elements that were offered, in their order. At most as many as there are places were offered and not yet
-- brought to the island of the node that takes, and of what was brought there all but one was taken, unless that node has cancelled. An
-- end, and so a failure, was taken behind all elements that were offered.
pub record CarriesParty (places : ℕ) (near far : WireState) : Type 0 where
  pub list : List Tree
  pub end : End
  pub took : far.wire.got ≡ told list end
  pub order : IsPrefix list (list_of near.wire.sent)
  pub few : elements near.wire.sent ≤ elements far.wire.sent + places
  pub brought : far.wire.inp ≢ Cancelled → elements far.wire.sent ≤ length list + 1
  pub end_last : end ≢ unended → (list ≡ list_of near.wire.sent) × (end ≡ end_of_items near.wire.sent)
