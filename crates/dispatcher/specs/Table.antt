-- The rule of a turn table, and what its steps tell. Each place has a word: READY is 1 and RUNNING is 2.
use Rattle.std.specs.Prelude.{◌≡◌, ◌≢◌, ℕ, suc, ◌/◌, ◌%◌, ◌<◌, ◌≤◌, List, [], ◌∷◌, map, length, slice_index, slice_get, Option, None, Some}
use mathlib.Core.Option.{some}
use lib.ListN.{get_elem?}
use Rattle.atomic_table.specs.Table.{State, Me, Step, rest}
use Rattle.dispatcher.specs.Sums.{total, times, latest, without}
use Rattle.dispatcher.specs.declared.hold.Hold.{Hold}

-- what a seat of a turn table holds: its part, the places whose turn it has, the place whose slot is with it, and what it found, began and
-- woke
abbrev pub hold : ℕ → List ℕ → ℕ → List (ℕ × ℕ) → List ℕ → List (ℕ × ℕ) → Hold
hold parts held out found began woke = record { parts = parts; held = held; out = out; found = found; began = began; woke = woke }

-- how many turns of the place k have begun on these seats
abbrev pub turns_begun : ℕ → List Hold → ℕ
turns_begun k views = total (λ (v : Hold). times k v.began) views

-- the origin of x is that of the value which was handed in for the place k
abbrev pub OriginFits : {T O : Type 0} → (T → O) → List T → ℕ → T → Type 0
OriginFits origin values k x = slice_get (map origin values) k ≡ Some (origin x)

module _ {T : Type 0} (fits : ℕ → T → Type 0) (n seats : ℕ) where
  -- RUNNING is set exactly where one seat has the place's turn. Where it is clear the value is in its slot, and fits
  pub record Orderly (s : State (Option T) Hold) : Type 0 where
    pub wide : length s.words ≡ n
    pub slots : length s.homes ≡ n
    pub low : (k : ℕ) → k < n → slice_index s.words k < 4
    pub once : (k : ℕ) → k < n → total (λ (v : Hold). times k v.held) s.views ≡ slice_index s.words k / 2
    pub home : (k : ℕ) → k < n → slice_index s.words k / 2 ≡ 0 → (x : T) × (get_elem? s.homes k ≡ some (some (Some x))) × fits k x
    -- the slot of a turn that is out is empty, or with the seat
    pub lent : (id : ℕ) (v : Hold) (k : ℕ) → get_elem? s.views id ≡ some v → k < n → 0 < times k v.held → v.out ≢ suc k → get_elem? s.homes k ≡ some (some None)
    -- READY is set from a wake of a place to the next begin of its turn: at no wake more turns had begun than have now, and
    -- where none has begun since it is set
    pub past : (id : ℕ) (v : Hold) (k : ℕ) → get_elem? s.views id ≡ some v → k < n → latest k v.woke ≤ suc (turns_begun k s.views)
    pub ready : (id : ℕ) (v : Hold) (k : ℕ) → get_elem? s.views id ≡ some v → k < n → latest k v.woke ≡ suc (turns_begun k s.views)
        → slice_index s.words k % 2 ≡ 1
    pub parts : total (λ (v : Hold). v.parts) s.views ≡ seats
    pub idle : (id : ℕ) (v : Hold) → get_elem? s.views id ≡ some v → v.parts ≡ 0 → v.held ≡ []

-- a seat of a turn table, as a step sees it
abbrev pub Sat : Type 0 → Type 0
Sat T = Me (Option T) Hold

module _ {T : Type 0} where
  -- the or of READY: no value moves, and the wake is noted with how many turns of the place have begun
  abbrev pub woken : Step (Option T) → Sat T → ℕ → Sat T → Type 0
  woken st m r n = (turns : ℕ) × (n ≡ (hold m.0.parts m.0.held m.0.out ((st.word, r) ∷ m.0.found) m.0.began ((st.word, turns) ∷ m.0.woke), m.1))

  -- the exchange of READY to RUNNING takes the value out of its slot
  abbrev pub turn_begun : (ℕ → T → Type 0) → Step (Option T) → Sat T → ℕ → Sat T → Type 0
  turn_begun fits st m r n =
      (r ≡ st.first → (x : T) × (n ≡ (
        hold m.0.parts (st.word ∷ m.0.held) (suc st.word) ((st.word, r) ∷ m.0.found) (st.word ∷ m.0.began) m.0.woke,
        (st.word, Some x) ∷ m.1,
      )) × fits st.word x)
      × (r ≢ st.first → n ≡ (hold m.0.parts m.0.held m.0.out ((st.word, r) ∷ m.0.found) m.0.began m.0.woke, m.1))

  -- the empty slot is given back
  abbrev pub turn_left : Step (Option T) → Sat T → ℕ → Sat T → Type 0
  turn_left st m r n = n ≡ (hold m.0.parts m.0.held 0 m.0.found m.0.began m.0.woke, rest m.1)

  -- the empty slot is taken again
  abbrev pub fetched : Step (Option T) → Sat T → ℕ → Sat T → Type 0
  fetched st m r n = n ≡ (hold m.0.parts m.0.held (suc st.word) m.0.found m.0.began m.0.woke, (st.word, None) ∷ m.1)

  -- the value is back in its slot, and the word no longer has RUNNING
  abbrev pub turn_ended : Step (Option T) → Sat T → ℕ → Sat T → Type 0
  turn_ended st m r n = n ≡ (hold m.0.parts (without st.word m.0.held) 0 ((st.word, r) ∷ m.0.found) m.0.began m.0.woke, rest m.1)
