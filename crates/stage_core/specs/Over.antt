-- Where an input is over, by its outlook.
use Rattle.std.specs.Prelude.{◌≡◌, ◌⊎◌, ◌≤◌, IsTrue, ℕ, length}
use Rattle.stream_model.specs.Outlook.{Outlook}
use Rattle.stream_model.specs.Picks.{may_fail_at}

-- a normal end may come behind n elements and no other number of them
abbrev pub EndsAt : Outlook → ℕ → Type 0
EndsAt o n = IsTrue o.ends × (length o.list ≡ n)

-- a failure may come behind n elements
abbrev pub FailsAt : Outlook → ℕ → Type 0
FailsAt o n = IsTrue (may_fail_at n o.fails) × (n ≤ length o.list)

-- an end or a failure may come behind n elements
abbrev pub IsOverAt : Outlook → ℕ → Type 0
IsOverAt o n = EndsAt o n ⊎ FailsAt o n
