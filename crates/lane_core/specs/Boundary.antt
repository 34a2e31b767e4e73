-- What contracts see of an input boundary.
use Rattle.std.specs.Prelude.{◌≡◌, ◌≢◌, ◌+◌, ◌/◌, ◌<◌, ◌≤◌, max, ℕ, Bool, List, ◌++◌}
use Rattle.elem_core.specs.Tree.{Tree}
use Rattle.elem_core.specs.Items.{elements}
use Rattle.elem_core.specs.declared.item.Item.{Item}
use Rattle.lane_core.specs.Ends.{taken_items, asked_in_all, ask_calls, has_cancelled, in_lane, in_size}
use Rattle.stream_model.specs.Outlook.{End, unended}
use Rattle.stream_model.specs.Lane.{loss_of, Carries}
use Rattle.stage_core.specs.Held.{told}
use Rattle.lane_core.specs.Flow.{handed_by, cancelled_by, AsksByHalves}
use Rattle.lane_core.specs.declared.state.State.{State}
use Rattle.lane_core.specs.declared.state.State.TheVariants.{Closed}
use Rattle.lane_core.specs.declared.boundary.InputBoundary.{InputBoundary}

-- what an input boundary handed on
abbrev pub given : InputBoundary → List Item
given b = b.gave.items ++ handed_by b.state b.ending.items

-- the elements that wait to be handed on
abbrev pub waits : InputBoundary → List Tree
waits b = b.buffer.items

-- whether an end was taken off the lane
abbrev pub is_over : InputBoundary → Bool
is_over b = b.over

-- whether an input boundary still hands on, has handed on the end, or was cancelled
abbrev pub state : InputBoundary → State
state b = b.state

-- whether what was taken before a failure is handed on before it
abbrev pub keeps_all : InputBoundary → Bool
keeps_all b = b.keep

-- the same end of the same lane, which keeps what it did before a failure
abbrev pub IsSameEnd : InputBoundary → InputBoundary → Type 0
IsSameEnd b c = (in_lane c.lane ≡ in_lane b.lane) × (in_size c.lane ≡ in_size b.lane) × (keeps_all c ≡ keeps_all b)

-- What an island keeps of it: what was taken off its lane and what was handed on are each a list and its end, and the one is of the
-- other what a lane of its size carries; an end was handed on exactly where it is closed, and the lane was cancelled exactly where it
-- says so. It asked by halves. So it asked for as many elements as there are places, for no more than these and one for each that was
-- handed on, and always for more than were handed on; by one call at first, and by one at most for each that was handed on.
pub record BoundaryKeeps (b : InputBoundary) : Type 0 where
  pub taken_list : List Tree
  pub taken_end : End
  pub given_list : List Tree
  pub given_end : End
  pub taken_is : taken_items b.lane ≡ told taken_list taken_end
  pub given_is : given b ≡ told given_list given_end
  pub carries : Carries (loss_of b.keep (in_size b.lane)) taken_list taken_end given_list given_end
  pub goes_on : state b ≢ Closed → given_end ≡ unended
  pub closed : state b ≡ Closed → given_end ≢ unended
  pub cancelled : has_cancelled b.lane ≡ cancelled_by (state b)
  pub since : ℕ
  pub by_halves : AsksByHalves (in_size b.lane) (max 1 (in_size b.lane / 2)) (asked_in_all b.lane) (ask_calls b.lane) (elements (given b)) since
  pub asked_for : asked_in_all b.lane ≤ elements (given b) + in_size b.lane
  pub more : elements (given b) < asked_in_all b.lane
  pub least : in_size b.lane ≤ asked_in_all b.lane
  pub calls : ask_calls b.lane ≤ elements (given b) + 1
