-- What became of bodies where memory was wanting.
use Rattle.std.specs.Prelude.{◌≡◌, ◌⊎◌, ℕ, List, Some, length, slice_get}

-- Where memory was wanting each body is whole and went on, or broke off in a turn.
pub record WholeOrBroken {B : Type 0} (keeps : B → Type 0) (goes breaks : B → B → Type 0) (old new : List B) : Type 0 where
  pub count : length new ≡ length old
  pub each : (k : ℕ) (a b : B) → slice_get old k ≡ Some a → slice_get new k ≡ Some b → ((goes a b) × (keeps b)) ⊎ (breaks a b)
