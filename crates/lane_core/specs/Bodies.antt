-- What holds of each of several bodies, and of each body as it was and as it is.
use Rattle.std.specs.Prelude.{◌≡◌, ◌≢◌, ◌<◌, ℕ, List, Some, length, slice_get}

-- each of these bodies is such
abbrev pub AllOf : {B : Type 0} → (B → Type 0) → List B → Type 0
AllOf P all = (k : ℕ) (b : _) → slice_get all k ≡ Some b → P b

-- there are as many as there were, and each stands to what it was in a relation
pub record EachOf {B : Type 0} (R : B → B → Type 0) (old new : List B) : Type 0 where
  pub count : length new ≡ length old
  pub each : (k : ℕ) (a b : B) → slice_get old k ≡ Some a → slice_get new k ≡ Some b → R a b

-- One body broke off, where memory was wanting in its turn. All others went on, and are whole.
pub record BrokeOff {B : Type 0} (keeps : B → Type 0) (goes breaks : B → B → Type 0) (old new : List B) : Type 0 where
  pub count : length new ≡ length old
  pub at : ℕ
  pub there : at < length old
  pub broke : (a b : B) → slice_get old at ≡ Some a → slice_get new at ≡ Some b → breaks a b
  pub others_go : (k : ℕ) (a b : B) → k ≢ at → slice_get old k ≡ Some a → slice_get new k ≡ Some b → goes a b
  pub others_keep : (k : ℕ) (b : B) → k ≢ at → slice_get new k ≡ Some b → keeps b
