-- What the stages with several inputs and one output share of what they know of their ports, and how they close them.
use Rattle.std.specs.Prelude.{◌≡◌, ℕ, ◌+◌, ◌*◌, ◌<◌, Bool, true, false, List, [], ◌∷◌, length, slice_get, Some, ⊤}
use Rattle.port_core.specs.declared.act.Act.{Act}
use Rattle.port_core.specs.declared.act.Act.TheVariants.{Cancel}
use Rattle.port_core.specs.declared.view.InView.{InView}
use Rattle.port_core.specs.declared.view.OutView.{OutView}
use Rattle.port_core.specs.declared.view.OutView.TheVariants.{Unpulled, Available}
use Rattle.port_core.specs.View.{View}
use Rattle.stage_core.specs.Row.{InClosed, OutClosed}
use Rattle.stream_model.specs.Outlook.{End, unended, ended}

-- what is known of the output, by whether it is asked
abbrev pub wish : Bool → OutView
wish true = Available
wish false = Unpulled

-- every input has ended
abbrev pub AllOver : List Bool → Type 0
AllOver over = (i : ℕ) → i < length over → slice_get over i ≡ Some true

-- a cancel of each input from number n on that has not ended
abbrev pub open_cancels : ℕ → List Bool → List Act
open_cancels n [] = []
open_cancels n (true ∷ bs) = open_cancels (n + 1) bs
open_cancels n (false ∷ bs) = Cancel n ∷ open_cancels (n + 1) bs

-- the most actions that one call of a stage with so many inputs and one output, or the other way round, appends: two for
-- each of its ports
-- Choice: docs/DECISIONS.md#room-by-ports
abbrev pub room_for : ℕ → ℕ
room_for many = 2 * (many + 1)

-- every input is closed
abbrev pub InsClosed : List InView → Type 0
InsClosed [] = ⊤
InsClosed (x ∷ xs) = InClosed x × InsClosed xs

-- the one output is closed
abbrev pub OneClosed : List OutView → Type 0
OneClosed (y ∷ []) = OutClosed y
OneClosed _ = ⊥

-- all ports are closed
abbrev pub FanClosed : View → Type 0
FanClosed v = InsClosed v.ins × OneClosed v.outs

-- how an input stands
abbrev pub end_by : Bool → End
end_by true = ended
end_by false = unended
