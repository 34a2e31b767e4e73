-- The rule of a lane's table, and what each step tells.
use Rattle.std.specs.Prelude.{◌≡◌, ◌⊎◌, ℕ, zero, suc, ◌+◌, ◌*◌, ◌/◌, ◌%◌, ◌<◌, ◌≤◌, List, [], ◌∷◌, ◌++◌, length, take, replicate, Bool, true, false, cond, ◌&&◌, ◌==◌, Option, Some, None, slice_get}
use Rattle.std.specs.Option.{option_to_list}
use mathlib.Core.Option.{some}
use mathlib.Core.Option as maybe
use lib.ListN.{get_elem?}
use Rattle.atomic_table.specs.Table.{State, Me, Step}
use Rattle.elem_core.specs.Prefix.{IsPrefix}
use Rattle.elem_core.specs.Items.{elements}
use Rattle.elem_core.specs.declared.item.Item.{Item}
use Rattle.elem_core.specs.declared.item.Item.TheVariants.{Elem, Ended, Failed}
use Rattle.lane_core.specs.declared.sight.Sight.{Sight}

-- 1 for an element and 0 for an end
abbrev pub weight : Item → ℕ
weight (Elem e) = 1
weight Ended = 0
weight (Failed c) = 0

-- whether an item ends the lane
abbrev pub ends : Item → Bool
ends (Elem e) = false
ends Ended = true
ends (Failed c) = true

-- 1 where a look finds other demand, or another mark of a cancel, than the last one found
abbrev pub is_new : ℕ → ℕ → ℕ → ℕ → ℕ
is_new number cancel number' cancel' = cond ((number == number') && (cancel == cancel')) 0 1

-- the words of the table: that of the asks, and 16 places behind it, on another line of the processor's memory, that of the items sent
abbrev pub words_of : ℕ → ℕ → List ℕ
words_of asked_word sent_word = asked_word ∷ replicate 15 0 ++ sent_word ∷ []

-- A lane between two steps. `sent` is all that was sent; `taken` is what the input end counts as taken, and `hand` the item
-- that it has in hand behind that. `held` is 1 while the output end holds the place of the next item. `asked` is how many elements
-- were asked for, and `asks` by how many calls. `sender` and `receiver` are the seats of the two ends.
pub record LaneCore : Type 0 where
  pub sent : List Item
  pub taken : List Item
  pub hand : List Item
  pub held : ℕ
  pub asked : ℕ
  pub asks : ℕ
  pub cancel : ℕ
  pub sender : ℕ
  pub receiver : ℕ

-- taken and in hand is the beginning of what was sent, of which only the last may be an end: the first items are elements, as many as
-- there are elements; no more elements are sent than were asked for, and no more asked for than were taken and have a place
pub record Sound (size : ℕ) (c : LaneCore) : Type 0 where
  pub order : IsPrefix (c.taken ++ c.hand) c.sent
  pub hand_one : length c.hand ≤ 1
  pub held_one : c.held ≤ 1
  pub cancel_one : c.cancel ≤ 1
  pub open_end : length c.sent + c.held ≤ elements c.sent + 1
  pub end_last : elements (take (elements c.sent) c.sent) ≡ elements c.sent
  pub used : elements c.sent ≤ c.asked
  pub bound : c.asked ≤ elements c.taken + size

-- each item that was sent and is neither taken nor in hand is at its place, and the places behind are empty
pub record Stored (n : ℕ) (c : LaneCore) (homes : List (maybe.Option (Option Item))) : Type 0 where
  pub waiting : (p : ℕ) → length c.taken + length c.hand ≤ p → p < length c.sent → get_elem? homes (p % n) ≡ some (some (slice_get c.sent p))
  pub free : (p : ℕ) → length c.sent + c.held ≤ p → p < length c.taken + n → get_elem? homes (p % n) ≡ some (some None)

-- What the seat of that number knows is so. The output end has sent no more elements than it has seen asked for, and has found new demand or a cancel at most once for each ask and for the
-- cancel, and less often than that while there is something new to find.
pub record SightFits (c : LaneCore) (j : ℕ) (v : Sight) : Type 0 where
  pub items : IsPrefix v.items c.sent
  pub number : v.number ≤ c.asked
  pub cancel : v.cancel ≤ c.cancel
  pub known : v.known ≤ length c.sent
  pub told : IsPrefix v.told c.sent
  pub told_number : v.told_number ≤ c.asked
  pub told_cancel : v.told_cancel ≤ c.cancel
  pub finds : v.finds ≤ c.asks + c.cancel
  pub told_finds : v.told_finds ≤ c.asks + c.cancel
  pub closed : v.cancel ≡ 1 → v.number ≡ c.asked
  pub told_closed : v.told_cancel ≡ 1 → v.told_number ≡ c.asked
  pub sends : v.sends ≡ true → (j ≡ c.sender) × (v.items ≡ c.sent) × (v.slots ≡ c.held)
      × (v.finds + is_new v.number v.cancel c.asked c.cancel ≤ c.asks + c.cancel) × (elements v.items ≤ v.number)
  pub gets : v.gets ≡ true → (j ≡ c.receiver) × (v.items ≡ c.taken ++ c.hand) × (v.slots ≡ length c.hand) × (v.number ≡ c.asked) × (v.cancel ≡ c.cancel)
      × (v.asks ≡ c.asks)

-- the rule of a lane of that size: there is such a core behind its words, places and seats
pub record IsLaneState (size : ℕ) (s : State (Option Item) Sight) : Type 0 where
  pub core : LaneCore
  pub words : s.words ≡ words_of (core.asked * 2 + core.cancel) (length core.sent)
  pub wide : length s.homes ≡ size + 1
  pub sound : Sound size core
  pub stored : Stored (size + 1) core s.homes
  pub each : (j : ℕ) (v : Sight) → get_elem? s.views j ≡ some v → SightFits core j v

-- the view of the seat with which the table is made
abbrev pub both_ends : Sight
both_ends = record {
  sends = true;
  gets = true;
  items = [];
  number = 0;
  cancel = 0;
  asks = 0;
  finds = 0;
  looks = 0;
  slots = 0;
  known = 0;
  told = [];
  told_number = 0;
  told_cancel = 0;
  told_finds = 0;
}

-- the view of a seat that was joined into another
abbrev pub nobody : Sight
nobody = record {
  sends = false;
  gets = false;
  items = [];
  number = 0;
  cancel = 0;
  asks = 0;
  finds = 0;
  looks = 0;
  slots = 0;
  known = 0;
  told = [];
  told_number = 0;
  told_cancel = 0;
  told_finds = 0;
}

-- the view of the input end, into which that of the first seat is cut
abbrev pub input_sight : Sight → Sight
input_sight v = record v { sends = false }

-- the view of the output end, into which that of the first seat is cut
abbrev pub output_end : Sight → Sight
output_end v = record v { gets = false }

-- what one end tells the other
abbrev pub note : Sight → Sight
note v = record {
  sends = false;
  gets = false;
  items = v.items;
  number = v.number;
  cancel = v.cancel;
  asks = v.asks;
  finds = v.finds;
  looks = 0;
  slots = 0;
  known = v.known;
  told = [];
  told_number = 0;
  told_cancel = 0;
  told_finds = 0;
}

-- a view with what a note told
abbrev pub informed : Sight → Sight → Sight
informed v w = record v { told = w.items; told_number = w.number; told_cancel = w.cancel; told_finds = w.finds }

-- a seat with the places that it holds
abbrev pub SeatView : Type 0
SeatView = Me (Option Item) Sight

-- a step on a lane's table
abbrev pub TableStep : Type 0
TableStep = Step (Option Item)

-- one empty place in hand, or none
abbrev pub empty_hand : ℕ → ℕ → List (ℕ × Option Item)
empty_hand zero k = []
empty_hand (suc n) k = (k, None) ∷ []

-- the item in the place that the seat has in hand
abbrev pub in_hand : List (ℕ × Option Item) → List Item
in_hand [] = []
in_hand (p ∷ ps) = option_to_list p.1

-- What each step makes of a seat m, with the word r that it found: the output end sits down on place 0.
abbrev pub sat : TableStep → SeatView → ℕ → SeatView → Type 0
sat st m r n = n ≡ (record m.0 { slots = 1 }, (0, None) ∷ [])

-- the output end looks at what was asked and cancelled, finds no less than it was told, and counts what it finds new
abbrev pub saw_asked : TableStep → SeatView → ℕ → SeatView → Type 0
saw_asked st m r n =
    (n ≡ (record m.0 { number = r / 2; cancel = r % 2; finds = m.0.finds + is_new m.0.number m.0.cancel (r / 2) (r % 2); looks = m.0.looks + 1 }, m.1))
    × (m.0.number ≤ r / 2) × (m.0.cancel ≤ r % 2) × (m.0.told_number ≤ r / 2) × (m.0.told_cancel ≤ r % 2)

-- it counts the item in hand as sent, lets its place go, and takes the next place where the item was no end
abbrev pub sent_one : TableStep → SeatView → ℕ → SeatView → Type 0
sent_one st m r n = n ≡ (
  record m.0 { items = m.0.items ++ in_hand m.1; slots = elements (in_hand m.1) },
  empty_hand (elements (in_hand m.1)) ((length m.0.items + 1) % st.slots),
)

-- the input end looks how many were sent, which are no fewer than it was told, lets the place of the item that it took last go, and takes the next item if there is one
abbrev pub saw_sent : TableStep → SeatView → ℕ → SeatView → Type 0
saw_sent st m r n =
    (length m.0.told ≤ r)
    × (((r ≡ length m.0.items) × (n ≡ (record m.0 { looks = m.0.looks + 1; slots = 0; known = r }, [])))
    ⊎ ((length m.0.items < r) × (((x : Item) × (n ≡ (
      record m.0 { items = m.0.items ++ x ∷ []; looks = m.0.looks + 1; slots = 1; known = r },
      (length m.0.items % st.slots, Some x) ∷ [],
    ))) × (elements n.0.items ≤ m.0.number))))

-- the input end asks once for more
abbrev pub asked_more : TableStep → SeatView → ℕ → SeatView → Type 0
asked_more st m r n = n ≡ (record m.0 { number = m.0.number + st.first / 2; asks = m.0.asks + 1; slots = 0 }, [])

-- the input end cancels
abbrev pub cancelled : TableStep → SeatView → ℕ → SeatView → Type 0
cancelled st m r n = n ≡ (record m.0 { cancel = 1 }, m.1)

-- what the other end said agrees with what this one knows
abbrev pub compared : TableStep → SeatView → ℕ → SeatView → Type 0
compared st m r n =
    (n ≡ m)
    × (m.0.sends ≡ true → IsPrefix m.0.told m.0.items)
    × (m.0.gets ≡ true → (m.0.told_number ≤ m.0.number) × (m.0.told_cancel ≤ m.0.cancel) × (m.0.told_finds ≤ m.0.asks + m.0.cancel)
    × (m.0.told_cancel ≡ 1 → m.0.told_number ≡ m.0.number))

-- the seat after an item was sent
abbrev pub HasSent : ℕ → SeatView → Item → SeatView → Type 0
HasSent size m x n = n ≡ (record m.0 { items = m.0.items ++ x ∷ []; slots = weight x }, empty_hand (weight x) ((length m.0.items + 1) % (size + 1)))

-- the seat after an item was taken
abbrev pub HasTaken : ℕ → SeatView → Item → ℕ → SeatView → Type 0
HasTaken size m x r n = n ≡ (
  record m.0 { items = m.0.items ++ x ∷ []; looks = m.0.looks + 1; slots = 1; known = r },
  (length m.0.items % (size + 1), None)
      ∷ [],
)

-- the seat after a look that found nothing
abbrev pub HasFound : SeatView → SeatView → Type 0
HasFound m n = n ≡ (record m.0 { looks = m.0.looks + 1; slots = 0; known = length m.0.items }, [])

-- the output end's seat at the start
abbrev pub new_output_seat : SeatView
new_output_seat = (record (output_end both_ends) { slots = 1 }, (0, None) ∷ [])
