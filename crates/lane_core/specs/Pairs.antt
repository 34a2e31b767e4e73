-- Two of several values have met, which may be one, and no other was touched.
use Rattle.std.specs.Prelude.{◌≡◌, ◌≢◌, ℕ, List, Some, Result, IfOk, IsOk, length, slice_get}
use Rattle.lane_core.specs.declared.room.Waits.{Waits}

-- where what must hold of any two with these ends holds of those at f and t
abbrev pub MayMeetAt : {B : Type 0} → (B → ℕ → B → ℕ → Type 0) → List B → ℕ → ℕ → ℕ → ℕ → Type 0
MayMeetAt may all f out t inp = (a b : _) → slice_get all f ≡ Some a → slice_get all t ≡ Some b → may a out b inp

-- End `out` of the one at f and end `inp` of the one at t were brought together: of these two it holds what meeting tells.
pub record MetAt {B E : Type 0} (met : B → ℕ → B → ℕ → B → B → Waits → Type 0) (old : List B) (f out t inp : ℕ) (new : List B) (r : Result Waits E)
    : Type 0 where
  pub ok : IsOk r
  pub count : length new ≡ length old
  pub others : (k : ℕ) → k ≢ f → k ≢ t → slice_get new k ≡ slice_get old k
  pub meets : (a b c d : B) → slice_get old f ≡ Some a → slice_get old t ≡ Some b → slice_get new f ≡ Some c → slice_get new t ≡ Some d
      → IfOk r (met a out b inp c d)
