-- The rule of the budget's word, and what its steps tell.
use Rattle.std.specs.Prelude.{◌≡◌, ℕ, ◌+◌, ◌-◌, ◌*◌, ◌<◌, ◌≤◌, min, length, slice_index}
use mathlib.Core.Option.{some}
use lib.ListN.{get_elem?}
use Rattle.atomic_table.specs.Table.{State, Me, Step}
use Rattle.dispatcher.specs.Sums.{total}
use Rattle.dispatcher.specs.declared.share.Share.{Share}

-- what a seat of the budget holds: its parts, the units that were used with it, its claim, what was granted of that, and the whole budget
abbrev pub share : ℕ → ℕ → ℕ → ℕ → ℕ → Share
share parts used claim granted limit = record { parts = parts; used = used; claim = claim; granted = granted; limit = limit }

-- what is granted of a claim where the word was `found`
abbrev pub granted_of : ℕ → ℕ → ℕ → ℕ
granted_of limit found claim = min claim (limit - found)

-- the used units and the claims are the word; the used units and what was granted are within the limit
pub record Fair (limit seats : ℕ) (s : State (Unit {0}) Share) : Type 0 where
  pub one : length s.words ≡ 1
  pub word : slice_index s.words 0 ≡ total (λ (v : Share). v.used) s.views + total (λ (v : Share). v.claim) s.views
  pub within : total (λ (v : Share). v.used) s.views + total (λ (v : Share). v.granted) s.views ≤ limit
  -- of a seat that was joined into another its view says nothing but that it holds nothing
  pub each : (id : ℕ) (v : Share) → get_elem? s.views id ≡ some v → (v.claim ≤ 1000 * v.parts) × (v.granted ≤ v.claim) × (0 < v.parts → v.limit ≡ limit)
      × (v.parts ≡ 0 → v.used ≡ 0)
  pub parts : total (λ (v : Share). v.parts) s.views ≡ seats
  pub small : limit + 1000 * seats < 4611686018427387904

-- a seat of the budget's table, as a step sees it
abbrev pub Sat : Type 0
Sat = Me (Unit {0}) Share

-- a claim is made: of it is granted what the word that was found leaves of the budget
abbrev pub claimed : Step (Unit {0}) → Sat → ℕ → Sat → Type 0
claimed st m r n = (n ≡ (share m.0.parts m.0.used st.first (granted_of m.0.limit r st.first) m.0.limit, m.1))
    × (m.0.used + granted_of m.0.limit r st.first ≤ m.0.limit)

-- what was not used is given back
abbrev pub given_back : Step (Unit {0}) → Sat → ℕ → Sat → Type 0
given_back st m r n = n ≡ (share m.0.parts (m.0.used + (m.0.claim - st.first)) 0 0 m.0.limit, m.1)

-- the word was loaded, and nothing changes
abbrev pub looked : Step (Unit {0}) → Sat → ℕ → Sat → Type 0
looked st m r n = (n ≡ m) × (m.0.used ≤ m.0.limit)
