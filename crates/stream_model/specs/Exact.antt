-- Failures that lose nothing: such a one comes only behind all that may pass.
use Rattle.std.specs.Prelude.{◌≡◌, ℕ, ◌≤◌, Bool, true, false, not, List, [], ◌∷◌, length, slice_get, Option, None, Some, ⊤}
use Rattle.elem_core.specs.declared.why.Cause.{Cause}
use Rattle.elem_core.specs.declared.why.Why.{Why}
use Rattle.elem_core.specs.declared.why.Why.TheVariants.{LineTooLong}
use Rattle.stream_model.specs.declared.kind.Policy.TheVariants.{Fail}
use Rattle.stream_model.specs.Graph.{Graph, Node, Edge, find_wire}
use Rattle.stream_model.specs.Lane.{lane_loss}
use Rattle.stream_model.specs.Linear.{Role, a_source, a_flow, a_fan_out, reads_lines, gives_failure, works, trips, plugs_in, buffers, obeys, broadcasts, balances, partitions, unzips, sinks, role_of, holds}
use Rattle.stream_model.specs.Outlook.{Outlook, Entry}

-- where one of these entries has this cause, no end may come, and it does not come before n elements have passed
abbrev pub ComeLast : Cause → Bool → ℕ → List Entry → Type 0
ComeLast c ends n [] = ⊤
ComeLast c ends n (e ∷ es) = (e.cause ≡ c → (ends ≡ false) × (n ≤ e.low)) × ComeLast c ends n es

-- a failure with this cause comes only behind the whole list
abbrev pub LosesNothing : Cause → Outlook → Type 0
LosesNothing c o = ComeLast c o.ends (length o.list) o.fails

-- a wire on which a failure overtakes nothing: one that is no lane, or a lane that keeps what came before
abbrev pub OvertakesNone : Option ℕ → Type 0
OvertakesNone None = ⊤
OvertakesNone (Some loss) = loss ≡ 0

-- a node that hands a failure on behind all that its elements brought: one with one input that holds no outputs, and neither a buffer
-- nor a partition; a recover hands none on
abbrev pub hands_on : Role → Bool
hands_on (a_flow (works w)) = not (holds w)
hands_on (a_flow (trips order name n)) = true
hands_on (a_flow (obeys name)) = true
hands_on (a_fan_out (broadcasts n)) = true
hands_on (a_fan_out (balances n)) = true
hands_on (a_fan_out unzips) = true
hands_on (sinks file keeps) = true
hands_on _ = false

-- a node of this role that fails for this reason by its own doing fails behind all that it gives: of the sources one that is told to
-- fail, and one that found a line too long, but none whose file could not be read; of the others all but those with substreams
abbrev pub fails_last : Role → Why → Bool
fails_last (a_source (reads_lines name)) LineTooLong = true
fails_last (a_source (gives_failure b)) why = true
fails_last (a_flow (works w)) why = true
fails_last (a_flow (trips order name n)) why = true
fails_last (a_flow (plugs_in name)) why = true
fails_last (a_flow (buffers n Fail)) why = true
fails_last (a_flow (obeys name)) why = true
fails_last (a_fan_out (partitions n f)) why = true
fails_last (sinks file keeps) why = true
fails_last _ why = false

-- wire u leads to the first input of this node, and a failure overtakes nothing on it
pub record LeadsInto (g : Graph) (u node : ℕ) : Type 0 where
  pub wire : Edge
  pub at : slice_get g.wires u ≡ Some wire
  pub into : find_wire node 0 g.wires ≡ Some u
  pub keeps : OvertakesNone (lane_loss wire.keep wire.lane)

-- wire j goes out of a node that wire u leads to, and that hands a failure on behind all
pub record HandsOver (g : Graph) (u j : ℕ) : Type 0 where
  pub wire : Edge
  pub node : Node
  pub at : slice_get g.wires j ≡ Some wire
  pub from : slice_get g.nodes wire.from ≡ Some node
  pub hands : hands_on (role_of node.kind) ≡ true
  pub comes : LeadsInto g u wire.from

-- from wire u to this node, by these wires, one behind the other
abbrev pub LeadsTo : Graph → ℕ → List ℕ → ℕ → Type 0
LeadsTo g u [] node = LeadsInto g u node
LeadsTo g u (j ∷ js) node = HandsOver g u j × LeadsTo g j js node

-- wire u goes out of the node that this cause names, which fails so behind all that it gives
pub record BeginsOn (g : Graph) (c : Cause) (u : ℕ) : Type 0 where
  pub wire : Edge
  pub node : Node
  pub at : slice_get g.wires u ≡ Some wire
  pub from : slice_get g.nodes wire.from ≡ Some node
  pub named : wire.from ≡ c.stage
  pub last : fails_last (role_of node.kind) c.why ≡ true

-- The failure with this cause reaches node k, which is this one, behind all that passes: the cause names the node itself, or a node from
-- which a way leads to it. On that way there is no lane that does not keep, no buffer, no stage that holds outputs, no partition and
-- none with several inputs.
pub data ReachesLast (g : Graph) (c : Cause) (k : ℕ) (n : Node) : Type 0 where
  its_own : k ≡ c.stage → fails_last (role_of n.kind) c.why ≡ true → ReachesLast g c k n
  by_way : (u : ℕ) (js : List ℕ) → BeginsOn g c u → LeadsTo g u js k → ReachesLast g c k n
