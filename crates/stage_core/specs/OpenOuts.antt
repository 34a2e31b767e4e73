-- How the outputs of a stage stand, and an action at each that is open.
use Rattle.std.specs.Prelude.{ℕ, suc, ◌+◌, List, [], ◌∷◌, ⊤}
use Rattle.port_core.specs.declared.act.Act.{Act}
use Rattle.port_core.specs.declared.view.InView.{InView}
use Rattle.port_core.specs.declared.view.OutView.{OutView}
use Rattle.port_core.specs.declared.view.OutView.TheVariants.{Unpulled, Available, Cancelled}
use Rattle.port_core.specs.View.{View}
use Rattle.stage_core.specs.Row.{InClosed, OutClosed}
use Rattle.stage_core.specs.declared.outs.OutputState.{OutputState}
use Rattle.stage_core.specs.declared.outs.OutputState.TheVariants.{Quiet, Asks, Gone}

-- what is known of an output
abbrev pub want_view : OutputState → OutView
want_view Quiet = Unpulled
want_view Asks = Available
want_view Gone = Cancelled

-- how many outputs are open
abbrev pub open_count : List OutputState → ℕ
open_count [] = 0
open_count (Quiet ∷ ws) = suc (open_count ws)
open_count (Asks ∷ ws) = suc (open_count ws)
open_count (Gone ∷ ws) = open_count ws

-- how many outputs ask
abbrev pub asks_count : List OutputState → ℕ
asks_count [] = 0
asks_count (Quiet ∷ ws) = asks_count ws
asks_count (Asks ∷ ws) = suc (asks_count ws)
asks_count (Gone ∷ ws) = asks_count ws

-- an action at each open output from number n on
abbrev pub at_open : (ℕ → Act) → ℕ → List OutputState → List Act
at_open act n [] = []
at_open act n (Quiet ∷ ws) = act n ∷ at_open act (n + 1) ws
at_open act n (Asks ∷ ws) = act n ∷ at_open act (n + 1) ws
at_open act n (Gone ∷ ws) = at_open act (n + 1) ws

-- the one input is closed
abbrev pub OneInClosed : List InView → Type 0
OneInClosed (x ∷ []) = InClosed x
OneInClosed _ = ⊥

-- all outputs are closed
abbrev pub OutsClosed : List OutView → Type 0
OutsClosed [] = ⊤
OutsClosed (y ∷ ys) = OutClosed y × OutsClosed ys

-- all ports of a stage with one input are closed
abbrev pub AllClosed : View → Type 0
AllClosed v = OneInClosed v.ins × OutsClosed v.outs
