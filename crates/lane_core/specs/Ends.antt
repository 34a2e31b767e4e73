-- What a clause sees of the ends of a lane.
use Rattle.std.specs.Prelude.{◌≡◌, ◌⊎◌, ◌↔◌, ℕ, ◌+◌, ◌<◌, ◌≤◌, List, length, take, Bool, IsTrue}
use Rattle.atomic_table.specs.Seated.{TableId}
use Rattle.elem_core.specs.Prefix.{IsPrefix}
use Rattle.elem_core.specs.Items.{elements}
use Rattle.elem_core.specs.declared.item.Item.{Item}
use Rattle.lane_core.specs.declared.lane_out.LaneOut.{LaneOut}
use Rattle.lane_core.specs.declared.lane_in.LaneIn.{LaneIn}
use Rattle.lane_core.specs.declared.room.Waits.{Waits}
use Rattle.lane_core.specs.declared.room.Room.{Room}
use Rattle.lane_core.specs.declared.room.Room.TheVariants.{Asked, Cancelled}

-- the lane of an output end, by the identity of its table
abbrev pub out_lane : LaneOut → TableId
out_lane o = o.seat.table_id

-- all items that an output end has sent
abbrev pub sent : LaneOut → List Item
sent o = o.seat.me.0.items

-- how many elements an output end saw asked for
abbrev pub seen_count : LaneOut → ℕ
seen_count o = o.seat.me.0.number

-- whether an output end saw that the lane was cancelled, 0 or 1
abbrev pub saw_cancel : LaneOut → ℕ
saw_cancel o = o.seat.me.0.cancel

-- how many of its looks have found new demand or a cancel
abbrev pub finds : LaneOut → ℕ
finds o = o.seat.me.0.finds

-- what was asked in all, as the output end last learnt it
abbrev pub learnt : LaneOut → ℕ
learnt o = o.learnt

-- how often it has looked what was asked: a look is one load of the word
abbrev pub out_looks : LaneOut → ℕ
out_looks o = o.seat.me.0.looks

-- how many elements were asked for in all, as the other end last told it
abbrev pub told_asked : LaneOut → ℕ
told_asked o = o.seat.me.0.told_number

-- whether the lane was cancelled, 0 or 1, as the other end last told it
abbrev pub told_cancel : LaneOut → ℕ
told_cancel o = o.seat.me.0.told_cancel

-- whether it sent an end
abbrev pub has_ended : LaneOut → Bool
has_ended o = o.ended

-- the size of the lane, as its output end keeps it
abbrev pub out_size : LaneOut → ℕ
out_size o = o.size

-- an output end is of the lane and of the size that it was of
abbrev pub IsSameOut : LaneOut → LaneOut → Type 0
IsSameOut o p = (out_lane p ≡ out_lane o) × (out_size p ≡ out_size o)

-- the lane of an input end, by the identity of its table
abbrev pub in_lane : LaneIn → TableId
in_lane i = i.seat.table_id

-- all items that an input end has taken
abbrev pub taken_items : LaneIn → List Item
taken_items i = i.seat.me.0.items

-- how many elements an input end asked for in all
abbrev pub asked_in_all : LaneIn → ℕ
asked_in_all i = i.seat.me.0.number

-- by how many calls it asked
abbrev pub ask_calls : LaneIn → ℕ
ask_calls i = i.seat.me.0.asks

-- whether an input end cancelled, 0 or 1
abbrev pub has_cancelled : LaneIn → ℕ
has_cancelled i = i.seat.me.0.cancel

-- how many items were sent, as an input end last found
abbrev pub found_sent : LaneIn → ℕ
found_sent i = i.seat.me.0.known

-- how many items were sent, as the other end last told it
abbrev pub told_sent : LaneIn → ℕ
told_sent i = length i.seat.me.0.told

-- how often it has looked what was sent
abbrev pub in_looks : LaneIn → ℕ
in_looks i = i.seat.me.0.looks

-- the size of the lane, as its input end keeps it
abbrev pub in_size : LaneIn → ℕ
in_size i = i.size

-- an input end is of the lane and of the size that it was of
abbrev pub IsSameIn : LaneIn → LaneIn → Type 0
IsSameIn i j = (in_lane j ≡ in_lane i) × (in_size j ≡ in_size i)

-- what an output end found: P of the number, or Q where the other end cancelled
abbrev pub RoomIs : Room → (ℕ → Type 0) → Type 0 → Type 0
RoomIs (Asked n) P Q = P n
RoomIs Cancelled P Q = Q

-- the two ends are of one lane
abbrev pub AreOneLane : LaneOut → LaneIn → Type 0
AreOneLane o i = out_lane o ≡ in_lane i

-- the first items are elements, as many as there are elements; behind them stands an end at most
abbrev pub EndIsLast : List Item → Type 0
EndIsLast l = (elements (take (elements l) l) ≡ elements l) × (length l ≤ elements l + 1)

-- What holds of the lists and numbers of the two ends of one lane: what was taken is a beginning of what was sent, an end is the last
-- that was sent; no more elements were sent than the output end saw asked for, none seen that was not asked, and none asked beyond
-- what was taken and the size. Each find is paid by an ask or by the cancel.
-- An output end that saw the cancel saw all asks, since none comes behind it.
pub record IsLaneHistory (o : LaneOut) (i : LaneIn) : Type 0 where
  pub prefix : IsPrefix (taken_items i) (sent o)
  pub last : EndIsLast (sent o)
  pub used : elements (sent o) ≤ seen_count o
  pub seen_asked : seen_count o ≤ asked_in_all i
  pub bound : asked_in_all i ≤ elements (taken_items i) + in_size i
  pub cancel : saw_cancel o ≤ has_cancelled i
  pub finds : finds o ≤ ask_calls i + has_cancelled i
  pub closed : saw_cancel o ≡ 1 → seen_count o ≡ asked_in_all i
  pub sizes : out_size o ≡ in_size i

-- what one end did that the other has not seen: an item was sent that was not taken; more was asked, or the lane was cancelled, than was
-- seen
abbrev pub WaitsAre : LaneOut → LaneIn → Waits → Type 0
WaitsAre o i w = (IsTrue w.item ↔ (length (taken_items i) < length (sent o))) × (IsTrue w.demand
    ↔ ((seen_count o < asked_in_all i) ⊎ (saw_cancel o < has_cancelled i)))
