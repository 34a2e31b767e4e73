-- What a call's actions ask for stands: no action that follows a pull cancels its input.
use Rattle.std.specs.Prelude.{◌≢◌, ℕ, List, [], ◌∷◌, ⊤}
use Rattle.port_core.specs.declared.act.Act.{Act}
use Rattle.port_core.specs.declared.act.Act.TheVariants.{Pull, Push, Complete, FailOut, Cancel}

-- no action cancels input i
abbrev pub NoCancel : ℕ → List Act → Type 0
NoCancel i [] = ⊤
NoCancel i (Pull k ∷ acts) = NoCancel i acts
NoCancel i (Push j e ∷ acts) = NoCancel i acts
NoCancel i (Complete j ∷ acts) = NoCancel i acts
NoCancel i (FailOut j c ∷ acts) = NoCancel i acts
NoCancel i (Cancel k ∷ acts) = (k ≢ i) × NoCancel i acts

-- each input that is pulled is not cancelled behind it
-- Choice: docs/DECISIONS.md#no-cancel-behind-a-pull
abbrev pub PullsStand : List Act → Type 0
PullsStand [] = ⊤
PullsStand (Pull i ∷ acts) = NoCancel i acts × PullsStand acts
PullsStand (Push j e ∷ acts) = PullsStand acts
PullsStand (Complete j ∷ acts) = PullsStand acts
PullsStand (FailOut j c ∷ acts) = PullsStand acts
PullsStand (Cancel i ∷ acts) = PullsStand acts
