-- What a world tells of a run: its input files, by the sources of its nodes at the start and as they are now, and what its stages
-- chose. And what the seats of its nodes at kill switches tell, once each switch was settled.
use Rattle.elem_core.specs.declared.item.Item.{Item}
use Rattle.graph_stage.specs.State.{CustomState, done_gave}
use Rattle.run_laws.specs.Items.{passed_so}
use Rattle.std.specs.Prelude.{◌≡◌, ℕ, true, IsTrue, List, [], replicate, Option, Some, None, slice_get, ⊤}
use Rattle.stage_switch.specs.Public.{SeatState}
use Rattle.stream_model.specs.declared.kind.Kind.TheVariants as kind
use Rattle.stream_model.specs.Graph.{Graph}
use Rattle.stream_model.specs.Graph as graph
use Rattle.stream_model.specs.Linear.{Book}
use Rattle.stream_model.specs.Listed.{tells_none}
use Rattle.stream_model.specs.Node.{World, nothing}
use Rattle.stream_model.specs.Sources.{File}
use Rattle.stream_io.specs.Counts.{Rose}
use Rattle.stream_io.specs.State.{SourceState}
use Rattle.run_laws.specs.Account.{Account}
use Rattle.nodes.specs.declared.node.IslandNode.{IslandNode}
use Rattle.nodes.specs.declared.node.IslandNode.TheVariants.{Reading, Custom}
use Rattle.nodes.specs.Nodes.{node_picks, node_moves, node_plan, node_seat}
use Rattle.run_laws.specs.Replayed.{Plans}
use Rattle.run_laws.specs.Serving.{ServesPlan}
use Rattle.stage_switch.specs.Settling.{AllSettled, kinds_of}

-- the file's bytes are told; so many of them were handed out by now; and it tells a fault where the count of failed reads rose
pub record TellsFile (first now : SourceState) (f : File) : Type 0 where
  pub bytes : first.whole ≡ Some f.bytes
  pub read : f.read ≡ now.given
  pub faulted : Rose first.faults now.faults → IsTrue f.faulted

module _ {S D L H B : Type 0} where
  -- the moves of node k, where it is a stage whose kind chooses
  abbrev pub TellsMoves : World → ℕ → IslandNode S D L H B → Type 0
  TellsMoves w k now = (moves : List ℕ) → node_picks now ≡ Some moves → w.moves k ≡ moves

  -- the moves of all stages whose kinds choose
  abbrev pub TellsPicks : World → Account (IslandNode S D L H B) → Type 0
  TellsPicks w a = (k : ℕ) (now : IslandNode S D L H B) → a.nodes k ≡ Some now → TellsMoves w k now

-- where it chooses it serves the moves that the world has of it
abbrev pub ServesMoves : {S D L H B : Type 0} → Graph → World → ℕ → graph.Node → IslandNode S D L H B → IslandNode S D L H B → Type 0
ServesMoves g w k n first now = (moves : List ℕ) → node_picks now ≡ Some moves → ServesPlan g w k n (node_plan first) moves

-- The world has of each node that chooses the moves that it made; or those that it follows, where they fit, and no failure may come on its wires.
abbrev pub ServesPlans : {S D L H B : Type 0} → Graph → World → Account (IslandNode S D L H B) → Type 0
ServesPlans {S} {D} {L} {H} {B} g w a = (k : ℕ) (n : graph.Node) (first now : IslandNode S D L H B) → slice_get g.nodes k ≡ Some n → a.firsts k ≡ Some first
    → a.nodes k ≡ Some now → ServesMoves g w k n first now

-- these are the plans of the nodes of an account
abbrev pub FollowsPlans : {S D L H B : Type 0} → Plans → Account (IslandNode S D L H B) → Type 0
FollowsPlans {S} {D} {L} {H} {B} plans a = (k : ℕ) (first : IslandNode S D L H B) → a.firsts k ≡ Some first → plans k ≡ node_plan first

-- what a custom stage gave, on each output of its node
abbrev pub given_at : graph.Node → CustomState → List (List Item)
given_at n now = done_gave now.done (replicate n.head.1 [])

-- Choice: docs/DECISIONS.md#told-by-the-law
-- The world tells what a custom stage gave; of one that tells a list nothing is asked.
pub record TellsGave (w : World) (n : graph.Node) (now : CustomState) : Type 0 where
  pub given : tells_none w.book n.kind ≡ true → (p : ℕ) (h : List Item) → slice_get (given_at n now) p ≡ Some h → w.given now.node p ≡ passed_so h

-- it tells so of every custom stage
abbrev pub TellsCustoms : {S D L H B : Type 0} → Graph → World → Account (IslandNode S D L H B) → Type 0
TellsCustoms g w a = (k : ℕ) (n : graph.Node) (now : CustomState) → slice_get g.nodes k ≡ Some n → a.nodes k ≡ Some (Custom now) → TellsGave w n now

-- the moves of a node, where there is one
abbrev pub moves_at : {S D L H B : Type 0} → Option (IslandNode S D L H B) → List ℕ
moves_at None = []
moves_at (Some x) = node_moves x

-- the seat of a node at a kill switch, where there is a node, and it is a valve or a trip
abbrev pub seat_at : {S D L H B : Type 0} → Option (IslandNode S D L H B) → Option SeatState
seat_at None = None
seat_at (Some x) = node_seat x

-- the seats of the valves and trips of a run were settled, at each switch that one of them names
abbrev pub AreSettled : {S D L H B : Type 0} → Graph → Account (IslandNode S D L H B) → Type 0
AreSettled g a = AllSettled (kinds_of g) (λ k. seat_at (a.nodes k))

-- the world with these plugs and files in which each node has made the moves of the account's
abbrev pub chosen_world : {S D L H B : Type 0} → Book → (List ℕ → File) → Account (IslandNode S D L H B) → World
chosen_world book file a = record { book = book; file = file; moves = λ k. moves_at (a.nodes k); given = λ k p. nothing }

module _ {S D L H B : Type 0} (sources : S → SourceState) where
  -- a source's file, by its name, and what a custom stage gave
  abbrev pub TellsNode : World → graph.Node → IslandNode S D L H B → IslandNode S D L H B → Type 0
  TellsNode w n (Reading first) (Reading now) = (name : List ℕ) → n.kind ≡ kind.Lines name
      → TellsFile (sources first.reader.source) (sources now.reader.source) (w.file name)
  TellsNode w n (Custom first) (Custom now) = TellsGave w n now
  TellsNode w n _ _ = ⊤

  -- a world tells the files of all sources
  abbrev pub TellsFiles : Graph → World → Account (IslandNode S D L H B) → Type 0
  TellsFiles g w a = (k : ℕ) (n : graph.Node) (first now : IslandNode S D L H B) → slice_get g.nodes k ≡ Some n → a.firsts k ≡ Some first → a.nodes k ≡ Some now
      → TellsNode w n first now

  -- the files of all nodes, and what they chose
  pub record WorldTells (g : Graph) (w : World) (a : Account (IslandNode S D L H B)) : Type 0 where
    pub files : TellsFiles g w a
    pub picks : TellsPicks w a
