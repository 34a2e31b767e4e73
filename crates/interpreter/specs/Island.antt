-- An island as its callers see it, and what it answers at its end.
use Rattle.std.specs.Prelude.{ℕ, ◌≤◌, Bool, not, List, [], ◌∷◌}
use Rattle.elem_core.specs.Items.{elements}
use Rattle.elem_core.specs.declared.count.TheConstants.{MOST_COUNT}
use Rattle.stream_io.specs.State.{SourceState, DrainState}
use Rattle.port_core.specs.Decoding.{is_open}
use Rattle.stream_model.specs.declared.outcome.WireCount.{WireCount}
use Rattle.stream_model.specs.declared.outcome.EndState.{EndState}
use Rattle.port_core.specs.Cell.{WireState}
use Rattle.nodes.specs.Nodes.{node_port_state, node_law, node_asking, node_moves}
use Rattle.nodes.specs.declared.node.IslandNode.{IslandNode}
use Rattle.nodes.specs.declared.node.IslandNode.TheVariants as node
use Rattle.fused_net.specs.Net.{Net}
use Rattle.fused_net.specs.Laws.{Settled}
use Rattle.fused_net.specs.Costs.{all_asks}
use Rattle.stream_model.specs.Linear.{Book}
use Rattle.interpreter.specs.declared.ways.LanePlace.{LanePlace}

-- its nodes and wires, the numbers of its wires and of its nodes in the blueprint, the places of the connections at which lanes come in
-- and go out, each with the wire that its lane is, the units that it used, and whether a call gave up for want of memory, after which nothing is
-- known of it
pub record Kept (S D L H B : Type 0) : Type 0 where
  pub net : Net (IslandNode S D L H B)
  pub numbers : List ℕ
  pub places : List ℕ
  pub ins : List LanePlace
  pub outs : List LanePlace
  pub used : ℕ
  pub broken : Bool

-- what an island keeps between two calls
pub record IslandKeeps {S D L H B : Type 0} (sources : S → SourceState) (drains : D → DrainState) (book : Book) (net : Net (IslandNode S D L H B)) (used : ℕ)
    : Type 0 where
  pub laws : Settled node_port_state (node_law sources drains book) node_asking node_moves net
  pub asks : all_asks net ≤ used
  pub within : used ≤ MOST_COUNT

-- how a wire stands: the elements that were pushed, whether its input waits for one, and whether either end has closed it
abbrev pub state_count : WireState → WireCount
state_count c = record { sent = elements c.wire.sent; asked = c.asked; shut = not (is_open c.wire.conn) }

-- the same of each wire, with its number
abbrev pub counts_of : List ℕ → List WireState → List (ℕ × WireCount)
counts_of (n ∷ ns) (c ∷ cs) = (n, state_count c) ∷ counts_of ns cs
counts_of _ _ = []

-- the sinks' ends: node, lines written, how it stands
abbrev pub sinks_of : {S D L H B : Type 0} → List (IslandNode S D L H B) → List (ℕ × ℕ × EndState)
sinks_of [] = []
sinks_of (node.Reading x ∷ xs) = sinks_of xs
sinks_of (node.Making x ∷ xs) = sinks_of xs
sinks_of (node.Linear x ∷ xs) = sinks_of xs
sinks_of (node.State x ∷ xs) = sinks_of xs
sinks_of (node.Sub x ∷ xs) = sinks_of xs
sinks_of (node.FanIn x ∷ xs) = sinks_of xs
sinks_of (node.FanOut x ∷ xs) = sinks_of xs
sinks_of (node.Custom x ∷ xs) = sinks_of xs
sinks_of (node.Writing x ∷ xs) = (x.node, x.count, x.end) ∷ sinks_of xs
sinks_of (node.Ignoring x ∷ xs) = (x.node, 0, x.end) ∷ sinks_of xs
sinks_of (node.Entering x ∷ xs) = sinks_of xs
sinks_of (node.Leaving x ∷ xs) = sinks_of xs

-- the sources of bytes that its readers read
abbrev pub readers_of : {S D L H B : Type 0} → List (IslandNode S D L H B) → List S
readers_of [] = []
readers_of (node.Reading x ∷ xs) = x.reader.source ∷ readers_of xs
readers_of (node.Making x ∷ xs) = readers_of xs
readers_of (node.Linear x ∷ xs) = readers_of xs
readers_of (node.State x ∷ xs) = readers_of xs
readers_of (node.Sub x ∷ xs) = readers_of xs
readers_of (node.FanIn x ∷ xs) = readers_of xs
readers_of (node.FanOut x ∷ xs) = readers_of xs
readers_of (node.Custom x ∷ xs) = readers_of xs
readers_of (node.Writing x ∷ xs) = readers_of xs
readers_of (node.Ignoring x ∷ xs) = readers_of xs
readers_of (node.Entering x ∷ xs) = readers_of xs
readers_of (node.Leaving x ∷ xs) = readers_of xs

-- the drains that its sinks with a file wrote
abbrev pub writers_of : {S D L H B : Type 0} → List (IslandNode S D L H B) → List D
writers_of [] = []
writers_of (node.Reading x ∷ xs) = writers_of xs
writers_of (node.Making x ∷ xs) = writers_of xs
writers_of (node.Linear x ∷ xs) = writers_of xs
writers_of (node.State x ∷ xs) = writers_of xs
writers_of (node.Sub x ∷ xs) = writers_of xs
writers_of (node.FanIn x ∷ xs) = writers_of xs
writers_of (node.FanOut x ∷ xs) = writers_of xs
writers_of (node.Custom x ∷ xs) = writers_of xs
writers_of (node.Writing x ∷ xs) = x.drain ∷ writers_of xs
writers_of (node.Ignoring x ∷ xs) = writers_of xs
writers_of (node.Entering x ∷ xs) = writers_of xs
writers_of (node.Leaving x ∷ xs) = writers_of xs
