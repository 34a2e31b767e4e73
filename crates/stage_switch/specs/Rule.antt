-- The rule of a switch's word, and what its steps tell.
use Rattle.std.specs.Prelude.{◌≡◌, ◌≢◌, ◌⊎◌, ℕ, zero, suc, ◌+◌, ◌≤◌, List, [], ◌∷◌, length, slice_index, Option, Some, None, ⊤}
use mathlib.Core.Option.{some}
use lib.ListN.{get_elem?}
use Rattle.atomic_table.specs.Table.{State, Me, Step}
use Rattle.stage_switch.specs.Sums.{total}
use Rattle.stage_switch.specs.declared.order.Order.{Order}
use Rattle.stage_switch.specs.declared.order.Order.TheVariants.{Shutdown, Abort}
use Rattle.stage_switch.specs.declared.known.Known.{Known}

-- what a seat holds and knows: its part of all seats, their number, the orders that it gave and those that it knows, and how often it
-- looked
abbrev pub known : ℕ → ℕ → List Order → List Order → ℕ → Known
known parts all gave knows looks = record { parts = parts; all = all; gave = gave; knows = knows; looks = looks }

-- the word of an order
abbrev pub code : Order → ℕ
code Shutdown = 1
code Abort = 2

-- the order of a word, if it is one's
abbrev pub orders_at : ℕ → List Order
orders_at zero = []
orders_at (suc zero) = Shutdown ∷ []
orders_at (suc (suc n)) = Abort ∷ []

-- the first of them
abbrev pub first_order : List Order → Option Order
first_order [] = None
first_order (o ∷ os) = Some o

-- each of these orders is the word
abbrev pub AllAre : ℕ → List Order → Type 0
AllAre w [] = ⊤
AllAre w (o ∷ os) = (code o ≡ w) × AllAre w os

-- some seat gave an order
abbrev pub SomeGave : List Known → Type 0
SomeGave views = (id : ℕ) × ((v : Known) × ((get_elem? views id ≡ some v) × (v.gave ≢ [])))

-- what holds of the word and of each seat: each order that it knows, and each that it gave, is the word; a seat without a
-- part gave nothing
abbrev pub SeatKeeps : ℕ → ℕ → Known → Type 0
SeatKeeps seats w v = AllAre w v.knows × (AllAre w v.gave × ((v.parts ≡ 0 → v.gave ≡ []) × (1 ≤ v.parts → v.all ≡ seats)))

-- The word is 0 or an order that some seat gave; each known order is the word; the parts of all seats add up to the number
-- of seats made.
pub record OneOrder (seats : ℕ) (s : State (Unit {0}) Known) : Type 0 where
  pub one : length s.words ≡ 1
  pub word : (slice_index s.words 0 ≡ 0) ⊎ SomeGave s.views
  pub small : slice_index s.words 0 ≤ 2
  pub each : (id : ℕ) (v : Known) → get_elem? s.views id ≡ some v → SeatKeeps seats (slice_index s.words 0) v
  pub parts : total (λ (v : Known). v.parts) s.views ≡ seats

-- a seat of a switch's table, as a step sees it
abbrev pub Sat : Type 0
Sat = Me (Unit {0}) Known

-- a load: the seat knows what was found, which is each order that it knew; where no other seat has a part, an order that
-- was found is one that this seat gave
abbrev pub looked : Step (Unit {0}) → Sat → ℕ → Sat → Type 0
looked st m r n =
    (n ≡ (known m.0.parts m.0.all m.0.gave (orders_at r) (m.0.looks + 1), m.1)) × (AllAre r m.0.knows
    × (AllAre r m.0.gave × ((r ≤ 2) × (m.0.parts ≡ m.0.all → r ≢ 0 → m.0.gave ≢ []))))

-- an exchange of 0 to an order: the seat gave and knows that order, where no order stood; else it knows the one found
abbrev pub ordered : Step (Unit {0}) → Sat → ℕ → Sat → Type 0
ordered st m r n =
    (r ≡ 0 → (n ≡ (known m.0.parts m.0.all (orders_at st.second) (orders_at st.second) m.0.looks, m.1)) × ((m.0.gave ≡ []) × (m.0.knows ≡ [])))
    × ((r ≢ 0 → n ≡ (known m.0.parts m.0.all m.0.gave (orders_at r) m.0.looks, m.1)) × (AllAre r m.0.knows × (r ≤ 2)))

-- the same by the order and the answer
abbrev pub GivesOrder : Order → Order → Sat → Sat → Type 0
GivesOrder o answer m n =
    ((n ≡ (known m.0.parts m.0.all (o ∷ []) (o ∷ []) m.0.looks, m.1)) × ((answer ≡ o) × ((m.0.gave ≡ []) × (m.0.knows ≡ []))))
    ⊎ ((n ≡ (known m.0.parts m.0.all m.0.gave (answer ∷ []) m.0.looks, m.1)) × AllAre (code answer) m.0.knows)
