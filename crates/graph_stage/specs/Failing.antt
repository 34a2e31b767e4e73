-- The failures that a custom stage gave: its own, and those that came to it.
use Rattle.std.specs.Prelude.{◌≡◌, ◌⊎◌, ℕ, List, [], ◌∷◌}
use Rattle.elem_core.specs.declared.item.Item.{Item}
use Rattle.elem_core.specs.declared.item.Item.TheVariants as item
use Rattle.elem_core.specs.declared.why.Cause.{Cause}
use Rattle.stream_model.specs.Blame.{IsCustomWhy}

-- a failure with this cause is among what passed at a port
abbrev pub HasFailed : Cause → List Item → Type 0
HasFailed c [] = ⊥
HasFailed c (x ∷ h) = (x ≡ item.Failed c) ⊎ HasFailed c h

-- the same at one of these ports
abbrev pub AnyFailed : Cause → List (List Item) → Type 0
AnyFailed c [] = ⊥
AnyFailed c (h ∷ hs) = HasFailed c h ⊎ AnyFailed c hs

-- the stage of node k failed with it: by a number that its handlers asked for, or by the rule that they broke
abbrev pub IsOwnCause : ℕ → Cause → Type 0
IsOwnCause k c = (c.stage ≡ k) × IsCustomWhy c.why
