-- A body beside its seat of the budget, and what it stays.
use Rattle.std.specs.Prelude.{◌≡◌, ◌⊎◌, ℕ, Bool, true, false}
use Rattle.std.specs.declared.snapshot.Snapshot.{Snapshot}
use Rattle.atomic_table.specs.Seated.{TableId}
use Rattle.dispatcher.specs.declared.budget.BudgetSeat.{BudgetSeat}
use Rattle.dispatcher.specs.PublicBudget.{used_by, budget_parts, HasNoClaim}
use Rattle.dispatcher.specs.declared.origin.PlaceOrigin.{PlaceOrigin}

-- the seat has one part and no claim, and so many units were used with it
abbrev pub Paid : ℕ → BudgetSeat → Type 0
Paid used seat = HasNoClaim seat × (budget_parts seat ≡ 1) × (used_by seat ≡ used)

-- a body went on and is whole
abbrev pub BodyWentOn : {B : Type 0} → (B → Type 0) → (B → B → Type 0) → B → B → Type 0
BodyWentOn keeps goes a b = (goes a b) × (keeps b)

-- a body went on and is whole, or it broke off
abbrev pub WentOrBroke : {B : Type 0} → (B → Type 0) → (B → B → Type 0) → (B → B → Type 0) → B → B → Type 0
WentOrBroke keeps goes breaks a b = BodyWentOn keeps goes a b ⊎ breaks a b

-- outside a turn a body that is not broken went on, and its units are these; or it broke off
abbrev pub PlaceStands : {B : Type 0} → (B → Type 0) → (B → B → Type 0) → (B → B → Type 0) → (B → ℕ) → B → B → ℕ → Bool → Type 0
PlaceStands keeps goes breaks spent start body used broken = (broken ≡ false → BodyWentOn keeps goes start body × (spent body ≡ used))
    × (broken ≡ true → breaks start body)

-- what holds of a place: its seat is paid, and its body stands
pub record PlaceHolds {B : Type 0} (keeps : B → Type 0) (goes breaks : B → B → Type 0) (spent : B → ℕ) (start body : B) (seat : BudgetSeat) (used : ℕ)
    (broken : Bool) : Type 0 where
  pub paid : Paid used seat
  pub stands : PlaceStands keeps goes breaks spent start body used broken

-- what a place is told by: the body as it was handed in, and its budget with the units of that
abbrev pub place_origin : {B : Type 0} → Snapshot B → TableId → ℕ → PlaceOrigin B
place_origin start table limit = record { start = start; table = table; limit = limit }

-- the body as it was handed in
abbrev pub body_start : {B : Type 0} → PlaceOrigin B → B
body_start o = o.start.value

-- a place of a body that is told by this budget
abbrev pub Belongs : {B : Type 0} → TableId → ℕ → PlaceOrigin B → Type 0
Belongs table limit o = (o.table ≡ table) × (o.limit ≡ limit)
