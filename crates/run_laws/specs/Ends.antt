-- The two ends of a lane as a run tells of them, what an island keeps of each beside the connection of its boundary stage, and
-- what is known of both once they were brought together. Of the ends themselves these are plain lists and numbers.
use Rattle.std.specs.Prelude.{◌≡◌, ℕ, ◌+◌, ◌*◌, ◌/◌, ◌<◌, ◌≤◌, max, Bool, List}
use Rattle.elem_core.specs.Prefix.{IsPrefix}
use Rattle.elem_core.specs.Tree.{Tree}
use Rattle.elem_core.specs.Items.{elements}
use Rattle.elem_core.specs.declared.item.Item.{Item}
use Rattle.port_core.specs.Cell.{WireState}
use Rattle.port_core.specs.Marks.{wanted}
use Rattle.stream_model.specs.Outlook.{End}
use Rattle.stream_model.specs.Lane.{loss_of, Carries}
use Rattle.stage_core.specs.Held.{told}
use Rattle.stage_core.specs.Law.{TookAs, GaveAs}

-- An output end: what it sent, how many elements it saw asked for, whether it saw a cancel, 0 or 1, and how many of its looks found
-- new demand or a cancel.
pub record OutEnd : Type 0 where
  pub sent : List Item
  pub seen : ℕ
  pub refused : ℕ
  pub finds : ℕ

-- An input end: what it took, how many elements it asked for in all, by how many calls, and whether it
-- cancelled, 0 or 1.
pub record InEnd : Type 0 where
  pub taken : List Item
  pub asked : ℕ
  pub calls : ℕ
  pub cancelled : ℕ

-- What an island keeps of an output end, whose boundary stage is at the input of this connection: what came there is a list and
-- its end, as the stage knows; what was sent is a first part of it; and the stage asked for no more than the end saw asked for.
pub record OutKeeps (c : WireState) (e : OutEnd) : Type 0 where
  pub came_list : List Tree
  pub came_end : End
  pub came_is : c.wire.got ≡ told came_list came_end
  pub came_as : TookAs c.wire.inp came_end
  pub part : IsPrefix e.sent c.wire.got
  pub wants : wanted c ≤ e.seen

-- half of the places of a lane, but at least one
abbrev pub half_of : ℕ → ℕ
half_of s = max 1 (s / 2)

-- An input end of a lane of size s asked for so many elements, of which so many were pushed: behind the first ask for half of the
-- places each time that so many were pushed.
pub record AskedInRounds (s asked pushed : ℕ) : Type 0 where
  pub rounds : ℕ
  pub over : ℕ
  pub pushed_is : pushed ≡ rounds * half_of s + over
  pub few : over < half_of s
  pub asked_is : asked ≡ s + rounds * half_of s

-- What an island keeps of an input end of a lane of size s, which keeps what came before a failure or not, whose boundary stage is at the output of this connection: what was
-- pushed there is of what was taken what such a lane carries, the rest waits in a buffer that a failure empties unless it keeps; at first
-- it asked for so many elements as the lane has places, and for no more than these and one for each that was pushed, and behind
-- the first ask once at most for each element that was pushed.
pub record InKeeps (keep : Bool) (s : ℕ) (c : WireState) (e : InEnd) : Type 0 where
  pub taken_list : List Tree
  pub taken_end : End
  pub pushed_list : List Tree
  pub pushed_end : End
  pub taken_is : e.taken ≡ told taken_list taken_end
  pub pushed_is : c.wire.sent ≡ told pushed_list pushed_end
  pub pushed_as : GaveAs c.wire.out pushed_end
  pub carries : Carries (loss_of keep s) taken_list taken_end pushed_list pushed_end
  pub asks : e.asked ≤ elements c.wire.sent + s
  pub in_rounds : AskedInRounds s e.asked (elements c.wire.sent)
  pub least : s ≤ e.asked
  pub calls : e.calls ≤ elements c.wire.sent + 1

-- What is known of the two ends of one lane of size s once they were brought together: what was taken is a first part of what was
-- sent; no element was sent that was not seen asked for, none seen that was not asked for, and none asked for beyond what was
-- taken and the size; each find is paid by a call that asked, or by the cancel.
pub record Met (s : ℕ) (o : OutEnd) (i : InEnd) : Type 0 where
  pub taken : IsPrefix i.taken o.sent
  pub sent : elements o.sent ≤ o.seen
  pub seen : o.seen ≤ i.asked
  pub bound : i.asked ≤ elements i.taken + s
  pub finds : o.finds ≤ i.calls + i.cancelled
  pub once : i.cancelled ≤ 1

-- A lane of size s, which keeps what came before a failure or not, between these two connections, of which its input end asked for
-- so many elements: its two ends, what the islands keep of them, and what is known of both.
pub record LaneKeeps (keep : Bool) (s : ℕ) (near far : WireState) (asked : ℕ) : Type 0 where
  pub out : OutEnd
  pub inp : InEnd
  pub out_keeps : OutKeeps near out
  pub in_keeps : InKeeps keep s far inp
  pub met : Met s out inp
  pub asked_is : inp.asked ≡ asked
