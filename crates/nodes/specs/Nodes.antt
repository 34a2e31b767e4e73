-- A node of an island, by its kind: each predicate cites that of the kind.
-- Choice: docs/DECISIONS.md#lemmas-by-kind
use Rattle.std.specs.Prelude.{◌≡◌, ℕ, Bool, true, false, List, [], slice_get, Option, None, Some, ⊤}
use Rattle.std.specs.Option.{unwrap_or}
use Rattle.elem_core.specs.declared.item.Item.{Item}
use Rattle.port_core.specs.View.{View}
use Rattle.stream_io.specs.State.{SourceState, DrainState}
use Rattle.stream_model.specs.Linear.{Book}
use Rattle.stage_linear.specs.Handling.{LinearFresh, LinearPortState, LinearLaw}
use Rattle.stage_state.specs.Handling.{StateFresh, StatePortState, StateLaw}
use Rattle.stage_switch.specs.Public.{SeatState}
use Rattle.stage_state.specs.Moves.{state_picks, state_misfit, state_plan, state_seat}
use Rattle.line_chain.specs.Line.{line_whole, line_rest, line_is_open}
use Rattle.stage_sub.specs.Handling.{sub_picks}
use Rattle.stage_sub.specs.Leds.{sub_plan, sub_misfit}
use Rattle.stage_sub.specs.LedLaws.{LedNew, LedPortState, SubsLaw}
use Rattle.stage_in.specs.Logics.{InAsking, InFresh, InPortState, InLaw}
use Rattle.stage_in.specs.Moves.{in_picks, in_misfit, in_plan}
use Rattle.stage_out.specs.OutLogics.{OutFresh, OutAsking, OutLaw}
use Rattle.stage_out.specs.OutLogics as out
use Rattle.graph_stage.specs.Laws.{CustomFresh, CustomPortState, CustomLaw}
use Rattle.stage_out.specs.Moves.{out_picks, out_misfit, out_plan}
use Rattle.nodes.specs.declared.node.IslandNode.{IslandNode}
use Rattle.nodes.specs.declared.node.IslandNode.TheVariants.{Reading, Making, Linear, State, Sub, FanIn, FanOut, Custom, Writing, Ignoring, Entering, Leaving}
use Rattle.nodes.specs.declared.node.NodeEnd.{NodeEnd}
use Rattle.nodes.specs.declared.node.NodeEnd.TheVariants.{Read, Staged, Wrote}
use Rattle.nodes.specs.Entering.{EnteringFresh, EnteringPortState, EnteringLaw}
use Rattle.nodes.specs.Leaving.{LeavingFresh, LeavingPortState, LeavingLaw}
use Rattle.stage_core.specs.declared.phase.Phase.TheVariants.{New}
use Rattle.nodes.specs.Keeping.{KeepsEnd}
use Rattle.nodes.specs.Source.{LinesFresh, lines_port_state, LinesLaw}
use Rattle.nodes.specs.Maker.{MadeFresh, made_port_state, MadeLaw}
use Rattle.nodes.specs.Sink.{SinkFresh, sink_port_state, SinkLaw, SinkAsking, sink_late}
use Rattle.nodes.specs.Ignoring.{IgnoreFresh, ignore_port_state, IgnoreLaw}

-- what one that was not started may know of its ports
abbrev pub node_fresh : {S D L H B : Type 0} → IslandNode S D L H B → View → Type 0
node_fresh (Reading x) v = LinesFresh x v
node_fresh (Making x) v = MadeFresh x v
node_fresh (Linear x) v = LinearFresh x v
node_fresh (State x) v = StateFresh x v
node_fresh (Sub x) v = LedNew line_rest line_is_open x v
node_fresh (FanIn x) v = InFresh x v
node_fresh (FanOut x) v = OutFresh x v
node_fresh (Custom x) v = CustomFresh x v
node_fresh (Writing x) v = SinkFresh x v
node_fresh (Ignoring x) v = IgnoreFresh x v
node_fresh (Entering x) v = EnteringFresh x v
node_fresh (Leaving x) v = LeavingFresh x v

-- what one that was started may know of them between two calls
abbrev pub node_port_state : {S D L H B : Type 0} → IslandNode S D L H B → View → Type 0
node_port_state (Reading x) v = lines_port_state x v
node_port_state (Making x) v = made_port_state x v
node_port_state (Linear x) v = LinearPortState x v
node_port_state (State x) v = StatePortState x v
node_port_state (Sub x) v = LedPortState line_rest line_is_open x v
node_port_state (FanIn x) v = InPortState x v
node_port_state (FanOut x) v = out.port_state x v
node_port_state (Custom x) v = CustomPortState x v
node_port_state (Writing x) v = sink_port_state x v
node_port_state (Ignoring x) v = ignore_port_state x v
node_port_state (Entering x) v = EnteringPortState x v
node_port_state (Leaving x) v = LeavingPortState x v

-- what holds of the histories of its ports; its kind stays the same
abbrev pub node_law : {S D L H B : Type 0} → (S → SourceState) → (D → DrainState) → Book → IslandNode S D L H B → IslandNode S D L H B → View → List (List Item)
    → List (List Item) → Type 0
node_law sources drains book (Reading first) (Reading x) v took gave = LinesLaw sources first x v took gave
node_law sources drains book (Making first) (Making x) v took gave = MadeLaw first x v took gave
node_law sources drains book (Linear first) (Linear x) v took gave = LinearLaw book first x v took gave
node_law sources drains book (State first) (State x) v took gave = StateLaw first x v took gave
node_law sources drains book (Sub first) (Sub x) v took gave = SubsLaw line_rest line_is_open line_whole first x v took gave
node_law sources drains book (FanIn first) (FanIn x) v took gave = InLaw first x v took gave
node_law sources drains book (FanOut first) (FanOut x) v took gave = OutLaw first x v took gave
node_law sources drains book (Custom first) (Custom x) v took gave = CustomLaw book first x v took gave
node_law sources drains book (Writing first) (Writing x) v took gave = SinkLaw drains first x v took gave
node_law sources drains book (Ignoring first) (Ignoring x) v took gave = IgnoreLaw first x v took gave
node_law sources drains book (Entering first) (Entering x) v took gave = EnteringLaw first x v took gave
node_law sources drains book (Leaving first) (Leaving x) v took gave = LeavingLaw first x v took gave
node_law sources drains book _ _ v took gave = ⊥

-- what it knows of its ports whenever it has just asked: only a stage with several inputs and one with several outputs tell of it, and a sink with a file of itself
abbrev pub node_asking : {S D L H B : Type 0} → IslandNode S D L H B → View → Type 0
node_asking (FanIn x) v = InAsking x v
node_asking (FanOut x) v = OutAsking x v
node_asking (Writing x) v = SinkAsking x
node_asking x v = ⊤

-- the moves that it has recorded, where it is a stage whose kind chooses
abbrev pub node_picks : {S D L H B : Type 0} → IslandNode S D L H B → Option (List ℕ)
node_picks (Reading x) = None
node_picks (Making x) = None
node_picks (Linear x) = None
node_picks (State x) = state_picks x
node_picks (Sub x) = sub_picks x.logic
node_picks (FanIn x) = in_picks x
node_picks (FanOut x) = out_picks x
node_picks (Custom x) = None
node_picks (Writing x) = None
node_picks (Ignoring x) = None
node_picks (Entering x) = None
node_picks (Leaving x) = None

-- the place of the move that it cannot make, where it found one
abbrev pub node_misfit : {S D L H B : Type 0} → IslandNode S D L H B → Option ℕ
node_misfit (Reading x) = None
node_misfit (Making x) = None
node_misfit (Linear x) = None
node_misfit (State x) = state_misfit x
node_misfit (Sub x) = sub_misfit x
node_misfit (FanIn x) = in_misfit x
node_misfit (FanOut x) = out_misfit x
node_misfit (Custom x) = None
node_misfit (Writing x) = None
node_misfit (Ignoring x) = None
node_misfit (Entering x) = None
node_misfit (Leaving x) = None

-- all the moves that it follows, where it follows any
abbrev pub node_plan : {S D L H B : Type 0} → IslandNode S D L H B → Option (List ℕ)
node_plan (Reading x) = None
node_plan (Making x) = None
node_plan (Linear x) = None
node_plan (State x) = state_plan x
node_plan (Sub x) = sub_plan x
node_plan (FanIn x) = in_plan x
node_plan (FanOut x) = out_plan x
node_plan (Custom x) = None
node_plan (Writing x) = None
node_plan (Ignoring x) = None
node_plan (Entering x) = None
node_plan (Leaving x) = None

-- the moves that it has recorded, and none where it does not choose
abbrev pub node_moves : {S D L H B : Type 0} → IslandNode S D L H B → List ℕ
node_moves x = unwrap_or (node_picks x) []

-- the seat that it has at a kill switch, where it is a valve or a trip
abbrev pub node_seat : {S D L H B : Type 0} → IslandNode S D L H B → Option SeatState
node_seat (Reading x) = None
node_seat (Making x) = None
node_seat (Linear x) = None
node_seat (State x) = state_seat x
node_seat (Sub x) = None
node_seat (FanIn x) = None
node_seat (FanOut x) = None
node_seat (Custom x) = None
node_seat (Writing x) = None
node_seat (Ignoring x) = None
node_seat (Entering x) = None
node_seat (Leaving x) = None

-- it is no linear stage
abbrev pub IsNotLinear : {S D L H B : Type 0} → IslandNode S D L H B → Type 0
IsNotLinear (Linear x) = ⊥
IsNotLinear _ = ⊤

-- what it leaves at the end
abbrev pub node_end : {S D L H B : Type 0} → IslandNode S D L H B → NodeEnd S D
node_end (Reading x) = Read x.reader.source
node_end (Making x) = Staged
node_end (Linear x) = Staged
node_end (State x) = Staged
node_end (Sub x) = Staged
node_end (FanIn x) = Staged
node_end (FanOut x) = Staged
node_end (Custom x) = Staged
node_end (Writing x) = Wrote (record { node = x.node; count = x.count; end = x.end; drain = Some x.drain })
node_end (Ignoring x) = Wrote (record { node = x.node; count = 0; end = x.end; drain = None })
node_end (Entering x) = Staged
node_end (Leaving x) = Staged

-- one that was not started has not read
abbrev pub ReadsLater : {S D L H B : Type 0} → (S → SourceState) → IslandNode S D L H B → IslandNode S D L H B → Type 0
ReadsLater sources (Reading x) (Reading y) = x.phase ≡ New → sources y.reader.source ≡ sources x.reader.source
ReadsLater sources _ _ = ⊤

-- what of it outlives want of memory: the handle that it would leave, which is as it was handed in where the node was not
-- started
pub record KeepsNode {S D L H B : Type 0} (sources : S → SourceState) (drains : D → DrainState) (x y : IslandNode S D L H B) : Type 0 where
  pub ends : KeepsEnd sources drains (node_end x) (node_end y)
  pub first : ReadsLater sources x y

-- only where a lane comes in or goes out it acts from outside alone
abbrev pub node_passive : {S D L H B : Type 0} → IslandNode S D L H B → Bool
node_passive (Entering x) = true
node_passive (Leaving x) = true
node_passive x = false

-- what was handed out of the island at a node or dropped there: only where a lane goes out
abbrev pub node_gone : {S D L H B : Type 0} → IslandNode S D L H B → List Item
node_gone (Leaving x) = x.gone
node_gone x = []

-- what waits at a node to be handed out of the island: only where a lane goes out
abbrev pub node_waits : {S D L H B : Type 0} → IslandNode S D L H B → List Item
node_waits (Leaving x) = x.waits
node_waits x = []

-- how many lines a node has put off while it waits: only a sink that may put several together
abbrev pub node_late : {S D L H B : Type 0} → IslandNode S D L H B → ℕ
node_late (Writing x) = sink_late x
node_late x = 0

-- none of these nodes has put lines off
abbrev pub NoneLate : {S D L H B : Type 0} → List (IslandNode S D L H B) → Type 0
NoneLate nodes = (k : ℕ) (x : _) → slice_get nodes k ≡ Some x → node_late x ≡ 0
