-- The wires that have an event, as the code keeps them: the ring, and behind it the wire at which a handler just pushed or pulled,
-- which may come first.
use Rattle.std.specs.Prelude.{◌≡◌, ℕ, ◌+◌, ◌<◌, ◌≤◌, Bool, false, if◌then◌else◌, Option, None, Some, List, [], ◌∷◌, ◌++◌, max, ⊤}
use Rattle.std.specs.Option.{option_to_list}
use Rattle.port_core.specs.Ring.{is_queued}
use Rattle.fused_net.specs.declared.queue.TheConstants.{MOST_CHASES}

-- how many wires there are; those in the ring, first in first out; the chased wire, if there is one; whether a pull was chased since one
-- came from the ring or a chase began anew; how many events were chased since one came from the ring, and the most that were chased for
-- one that did
pub record Queue : Type 0 where
  pub size : ℕ
  pub ring : List ℕ
  pub chased : Option ℕ
  pub pulling : Bool
  pub chases : ℕ
  pub longest : ℕ

-- the wires that have an event: the chased one stands last
abbrev pub waiting : Queue → List ℕ
waiting q = q.ring ++ option_to_list q.chased

-- the chased wire was put in the ring
abbrev pub chase_queued : Queue → Queue
chase_queued q = record q { ring = waiting q; chased = None }

-- a wire at which a handler pushed comes first: a chase goes on by pushes, or begins anew
abbrev pub pushed_first : Queue → ℕ → Queue
pushed_first q w = record (chase_queued q) { chased = Some w; pulling = false }

-- or it waits behind those that wait, where there are any
abbrev pub pushed_behind : List ℕ → Queue → ℕ → Queue
pushed_behind [] q w = pushed_first q w
pushed_behind (u ∷ us) q w = record (chase_queued q) { ring = waiting q ++ w ∷ [] }

-- once a pull was chased it does not run ahead of them
abbrev pub pushed_on : Queue → ℕ → Queue
pushed_on q w = if q.pulling then pushed_behind (waiting q) q w else pushed_first q w

-- the chased wire has a place in the ring, and is not there
abbrev pub HasPlace : ℕ → List ℕ → Option ℕ → Type 0
HasPlace size ring None = ⊤
HasPlace size ring (Some w) = (w < size) × (is_queued ring w ≡ false)

-- what every queue keeps
pub record IsQueue (q : Queue) : Type 0 where
  pub place : HasPlace q.size q.ring q.chased
  pub few : q.chases ≤ MOST_CHASES
  pub fewest : q.longest ≤ MOST_CHASES

-- the chased wire comes, where fewer than so many were chased since one came from the ring
pub record Chases (old : Queue) (w : ℕ) (new : Queue) : Type 0 where
  pub was : old.chased ≡ Some w
  pub few : old.chases < MOST_CHASES
  pub is : new ≡ record old { chased = None; chases = old.chases + 1 }

-- the first of the ring comes: then no event was chased for it yet, and so no pull
pub record Dequeues (old : Queue) (w : ℕ) (new : Queue) : Type 0 where
  pub first : waiting old ≡ w ∷ new.ring
  pub is : new ≡ record old { ring = new.ring; chased = None; pulling = false; chases = 0; longest = max old.longest old.chases }
