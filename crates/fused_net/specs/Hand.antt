-- What is handled next without a place in the queue: an element that goes down a wire, or an ask that goes up one.
use Rattle.std.specs.Prelude.{◌≡◌, ℕ, ◌+◌, ◌^◌, ◌<◌, Bool, true, false, List, [], ◌∷◌, length, ⊤}
use Rattle.elem_core.specs.Tree.{Tree}
use Rattle.elem_core.specs.Items.{elements}
use Rattle.port_core.specs.Decoding.{can_push, can_pull}
use Rattle.port_core.specs.declared.act.Act.{Act}
use Rattle.port_core.specs.declared.act.Act.TheVariants.{Pull, Push}
use Rattle.stage_core.specs.declared.stage.Swift.{Swift}
use Rattle.stage_core.specs.declared.stage.Swift.TheVariants.{Gives, Asks, Acts, Rests}
use Rattle.port_core.specs.Cell.{moved_by}
use Rattle.fused_net.specs.Net.{Net, wire_at, put}
use Rattle.fused_net.specs.declared.hand.Hand.{Hand}
use Rattle.fused_net.specs.declared.hand.Hand.TheVariants.{Empty, Down, Up}

-- what a stage that answered at once wants done: e is the element that stands in the place of the one that came
abbrev pub acts_at_once : Swift → Tree → List Act → List Act
acts_at_once Gives e acts = Push 0 e ∷ []
acts_at_once Asks e acts = Pull 0 ∷ []
acts_at_once Acts e acts = acts
acts_at_once Rests e acts = acts

-- the same of one that was asked, and asked its input for that alone, or not
abbrev pub acts_asked : Bool → List Act → List Act
acts_asked true acts = Pull 0 ∷ []
acts_asked false acts = acts

module _ {N : Type 0} where
  -- the graph in which what is in hand was done at its wire, which waits last: e is the element that goes down
  abbrev pub done_in_hand : Hand → Tree → Net N → Net N
  done_in_hand Empty e net = net
  done_in_hand (Down w) e net = put net w (moved_by (Push 0 e) (wire_at net w)) true
  done_in_hand (Up w) e net = put net w (moved_by (Pull 0) (wire_at net w)) true

  -- What is in hand may be done at its wire, which is open, and no wire waits.
  abbrev pub IsHeld : Hand → Net N → Type 0
  IsHeld Empty net = ⊤
  IsHeld (Down w) net = (w < length net.wires) × ((can_push (wire_at net w).wire.conn ≡ true) × ((net.queue ≡ []) × (elements (wire_at net w).wire.sent + 1 < 2 ^ 64)))
  IsHeld (Up w) net = (w < length net.wires) × ((can_pull (wire_at net w).wire.conn ≡ true) × (net.queue ≡ []))
