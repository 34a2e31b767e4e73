-- The row of a merge in a picture that rests where it follows moves, and the cause of a misfit over outlooks.
use Rattle.std.specs.Prelude.{◌≡◌, ◌⊎◌, Bool, true, false, ℕ, List, slice_get, Some}
use Rattle.stream_model.specs.Outlook.{Outlook}
use Rattle.stream_model.specs.Picks.{count_of}
use Rattle.stream_model.specs.View.{SeenWire}
use Rattle.stream_model.specs.Rests.{Waits, IsAsked, IsUnasked, MergeWaits, MergeRests}
use Rattle.stage_core.specs.Over.{EndsAt, IsOverAt}
use Rattle.port_core.specs.declared.pick_log.Next.{Next}
use Rattle.port_core.specs.declared.pick_log.Next.TheVariants.{Free, Move, UsedUp}

-- input m waits
abbrev pub InputWaits : ℕ → List SeenWire → Type 0
InputWaits m is = (i : SeenWire) → slice_get is m ≡ Some i → Waits i

-- The row of a merge by what its next move is to be. One that follows moves and whose output is asked waits for the input of the next
-- move, or made all its moves; where it is not asked, it stands as any merge.
abbrev pub MergeRestsBy : Next → List ℕ → List SeenWire → SeenWire → Type 0
MergeRestsBy Free moves is o = MergeRests moves is o
MergeRestsBy (Move m) moves is o = (IsAsked o × InputWaits m is) ⊎ (IsUnasked o × MergeWaits moves 0 is)
MergeRestsBy UsedUp moves is o = IsAsked o ⊎ (IsUnasked o × MergeWaits moves 0 is)

-- an input is over behind n elements: it ends there, or where a failure counts as an end it may fail there
abbrev pub OverAt : Bool → Outlook → ℕ → Type 0
OverAt false o n = EndsAt o n
OverAt true o n = IsOverAt o n

-- The cause of a misfit over the outlooks of the inputs, of a merge or of one that gathers: the input of the next move is over, and its
-- moves gave all its elements.
abbrev pub MergeMisfits : Bool → Next → List ℕ → List Outlook → Type 0
MergeMisfits gathers (Move m) moves is = (o : Outlook) × ((slice_get is m ≡ Some o) × OverAt gathers o (count_of m moves))
MergeMisfits gathers _ moves is = ⊥
