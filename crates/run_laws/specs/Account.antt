-- What a run tells of a blueprint's nodes and wires at one moment, by their numbers in the blueprint. Where they stand, in one
-- island or in many, it does not say.
use Rattle.std.specs.Prelude.{◌≡◌, ℕ, ◌+◌, ◌<◌, ◌≤◌, not, Bool, true, false, List, [], ◌∷◌, length, slice_get, slice_index_or, Option, None, Some, ⊤}
use Rattle.elem_core.specs.Prefix.{IsPrefix}
use Rattle.elem_core.specs.Items.{elements}
use Rattle.elem_core.specs.declared.item.Item.{Item}
use Rattle.port_core.specs.View.{View, in_at, out_at}
use Rattle.port_core.specs.declared.view.InView.{InView}
use Rattle.port_core.specs.declared.view.InView.TheVariants.{Idle, Pulled}
use Rattle.port_core.specs.declared.view.OutView.TheVariants.{Available}
use Rattle.port_core.specs.Decoding.{is_open}
use Rattle.port_core.specs.Joint.{IsSound}
use Rattle.port_core.specs.Cell.{WireState}
use Rattle.port_core.specs.Marks.{IsMarked, wanted}
use Rattle.stream_model.specs.Graph.{Graph, Edge, find_wire, find_source}
use Rattle.stream_model.specs.Graph as graph
use Rattle.stream_model.specs.Composed.{inputs_of, count_from}
use Rattle.stream_model.specs.View.{outputs_of}
use Rattle.stage_core.specs.Row.{OutClosed}
use Rattle.port_core.specs.Reading.{no_wire, inp_of, out_of, got_of, sent_of}
use Rattle.run_laws.specs.Ends.{LaneKeeps}
use Rattle.run_laws.specs.Quiet.{LaneQuiet}

-- Of each node, as it was handed in and as it is; of each wire the connection at its output and the one at its input, which are
-- one where the wire is no lane; and of a lane how many elements its input end asked for in all.
-- Choice: docs/DECISIONS.md#laws-over-accounts
pub record Account (N : Type 0) : Type 0 where
  pub firsts : ℕ → Option N
  pub nodes : ℕ → Option N
  pub near : ℕ → WireState
  pub far : ℕ → WireState
  pub asked : ℕ → ℕ

-- either end has closed the wire
abbrev pub shut_of : WireState → Bool
shut_of c = not (is_open c.wire.conn)

-- the connection of wire u, or what stands where there is no wire
abbrev pub cell_by : (ℕ → WireState) → Option ℕ → WireState
cell_by cells None = no_wire
cell_by cells (Some u) = cells u

module _ (g : Graph) where
  -- what f reads off the wires at these inputs of a node
  abbrev pub read_ins : {X : Type 0} → (WireState → X) → (ℕ → WireState) → ℕ → List ℕ → List X
  read_ins f cells k [] = []
  read_ins f cells k (p ∷ ps) = f (cell_by cells (find_wire k p g.wires)) ∷ read_ins f cells k ps

  -- what f reads off the wires at these outputs of a node
  abbrev pub read_outs : {X : Type 0} → (WireState → X) → (ℕ → WireState) → ℕ → List ℕ → List X
  read_outs f cells k [] = []
  read_outs f cells k (p ∷ ps) = f (cell_by cells (find_source k p g.wires)) ∷ read_outs f cells k ps

  module _ {N : Type 0} (a : Account N) (k : ℕ) (n : graph.Node) where
    -- what the node knows of its ports
    abbrev pub knows : View
    knows = record { ins = read_ins inp_of a.far k (count_from 0 (inputs_of n)); outs = read_outs out_of a.near k (count_from 0 (outputs_of n)) }

    -- what the node took at each of its inputs
    abbrev pub took : List (List Item)
    took = read_ins got_of a.far k (count_from 0 (inputs_of n))

    -- what the node gave at each of its outputs
    abbrev pub gave : List (List Item)
    gave = read_outs sent_of a.near k (count_from 0 (outputs_of n))

    -- how many elements are wanted in all of each of its inputs
    abbrev pub ins_wanted : List ℕ
    ins_wanted = read_ins wanted a.far k (count_from 0 (inputs_of n))

    -- how many elements are wanted in all of each of its outputs
    abbrev pub outs_wanted : List ℕ
    outs_wanted = read_outs wanted a.near k (count_from 0 (outputs_of n))

    -- which of its outputs are shut
    abbrev pub outs_shut : List Bool
    outs_shut = read_outs shut_of a.near k (count_from 0 (outputs_of n))

-- each history begins the one at its place
abbrev pub AllBegin : List (List Item) → List (List Item) → Type 0
AllBegin [] [] = ⊤
AllBegin (h ∷ hs) (x ∷ xs) = IsPrefix h x × AllBegin hs xs
AllBegin _ _ = ⊥

-- by what a node knew of an input, what was wanted there of what it had taken
abbrev pub WantedAt : InView → ℕ → ℕ → Type 0
WantedAt Pulled want had = want ≤ had + 1
WantedAt Idle want had = want ≤ had
WantedAt _ want had = ⊤

-- A wire that is no lane has one connection. A lane has two, and what is kept of its two ends and known of both joins them.
abbrev pub WireKeeps : Bool → Option ℕ → WireState → WireState → ℕ → Type 0
WireKeeps keep None near far asked = far ≡ near
WireKeeps keep (Some size) near far asked = LaneKeeps keep size near far asked

-- where no island has an event, a lane rests
abbrev pub WireQuiet : Bool → Option ℕ → WireState → WireState → ℕ → Type 0
WireQuiet keep None near far asked = ⊤
WireQuiet keep (Some size) near far asked = (keeps : LaneKeeps keep size near far asked) × LaneQuiet keep size near far asked keeps

module _ {N : Type 0} (port_state : N → View → Type 0) (law : N → N → View → List (List Item) → List (List Item) → Type 0) (asking : N → View → Type 0)
    (moves : N → List ℕ) where
  -- The moment at which a node last asked at its p-th input, by what it took and gave and by what is wanted of its inputs and
  -- outputs: its port_state and its law held, and what it tells whenever it has just asked; it waited there, one element more than it
  -- had taken is wanted, and all has only grown; an output that was closed is shut.
  -- Choice: docs/DECISIONS.md#outputs-closed-then
  pub record Earlier (p : ℕ) (first now : N) (took gave : List (List Item)) (ins_want outs_want : List ℕ) (outs_closed : List Bool) : Type 0 where
    pub old : N
    pub knew : View
    pub had : List (List Item)
    pub given : List (List Item)
    pub port_state_held : port_state old knew
    pub law_held : law first old knew had given
    pub asking_held : asking old knew
    pub waited : in_at knew p ≡ Pulled
    pub one_more : slice_index_or ins_want p 0 ≡ elements (slice_index_or had p []) + 1
    pub took_on : AllBegin had took
    pub gave_on : AllBegin given gave
    pub moves_on : IsPrefix (moves old) (moves now)
    pub wants : (j : ℕ) → out_at knew j ≡ Available → elements (slice_index_or given j []) + 1 ≤ slice_index_or outs_want j 0
    pub shut_on : (j : ℕ) → OutClosed (out_at knew j) → slice_index_or outs_closed j true ≡ true
    -- one with one input and no output tells still what it told then, where nothing came since
    pub stays : length took ≡ 1 → length gave ≡ 0 → had ≡ took → asking now knew

  -- The moment at which it last asked at any of them. At that moment each input that was asked had a moment of its own.
  pub record LastAsked (first now : N) (took gave : List (List Item)) (ins_want outs_want : List ℕ) (outs_closed : List Bool) : Type 0 where
    pub old : N
    pub knew : View
    pub had : List (List Item)
    pub given : List (List Item)
    pub port_state_held : port_state old knew
    pub law_held : law first old knew had given
    pub asking_held : asking old knew
    pub port : ℕ
    pub waited : in_at knew port ≡ Pulled
    pub stood : (i : ℕ) → WantedAt (in_at knew i) (slice_index_or ins_want i 0) (elements (slice_index_or had i []))
    pub before : (i : ℕ) → i < length ins_want → 1 ≤ slice_index_or ins_want i 0 → Earlier i first old had given ins_want outs_want outs_closed
    pub took_on : AllBegin had took
    pub gave_on : AllBegin given gave
    pub moves_on : IsPrefix (moves old) (moves now)
    pub wants : (j : ℕ) → out_at knew j ≡ Available → elements (slice_index_or given j []) + 1 ≤ slice_index_or outs_want j 0
    pub shut_on : (j : ℕ) → OutClosed (out_at knew j) → slice_index_or outs_closed j true ≡ true

  module _ (g : Graph) (a : Account N) where
    -- node k of the blueprint: its port_state and its law, from what it was handed in as, and the moments of its asks
    pub record NodeKeeps (k : ℕ) (n : graph.Node) : Type 0 where
      pub first : N
      pub now : N
      pub first_at : a.firsts k ≡ Some first
      pub now_at : a.nodes k ≡ Some now
      pub port_state_holds : port_state now (knows g a k n)
      pub law_holds : law first now (knows g a k n) (took g a k n) (gave g a k n)
      pub asks : (p : ℕ) → p < inputs_of n → 1 ≤ slice_index_or (ins_wanted g a k n) p 0
          → Earlier p first now (took g a k n) (gave g a k n) (ins_wanted g a k n) (outs_wanted g a k n) (outs_shut g a k n)
      pub last : (p : ℕ) → p < inputs_of n → 1 ≤ slice_index_or (ins_wanted g a k n) p 0
          → LastAsked first now (took g a k n) (gave g a k n) (ins_wanted g a k n) (outs_wanted g a k n) (outs_shut g a k n)

    -- what all nodes and wires keep
    pub record KeepsLaws : Type 0 where
      pub each_node : (k : ℕ) (n : graph.Node) → slice_get g.nodes k ≡ Some n → NodeKeeps k n
      pub near_sound : (u : ℕ) → u < length g.wires → (q : _) × IsSound (a.near u).wire q
      pub far_sound : (u : ℕ) → u < length g.wires → (q : _) × IsSound (a.far u).wire q
      pub near_marked : (u : ℕ) → u < length g.wires → IsMarked (a.near u)
      pub far_marked : (u : ℕ) → u < length g.wires → IsMarked (a.far u)
      pub wires : (u : ℕ) (v : Edge) → slice_get g.wires u ≡ Some v → WireKeeps v.keep v.lane (a.near u) (a.far u) (a.asked u)

-- the nodes as they were handed in are those of the blueprint, by what a kind of nodes says of its first
abbrev pub AllMade : {N : Type 0} → (ℕ → graph.Node → N → Type 0) → Graph → Account N → Type 0
AllMade FirstOf g a = (k : ℕ) (n : graph.Node) (first : _) → slice_get g.nodes k ≡ Some n → a.firsts k ≡ Some first → FirstOf k n first

-- no event is left on any wire, and each lane rests
pub record IsStill {N : Type 0} (g : Graph) (a : Account N) : Type 0 where
  pub near : (u : ℕ) → u < length g.wires → IsSound (a.near u).wire false
  pub far : (u : ℕ) → u < length g.wires → IsSound (a.far u).wire false
  pub quiet : (u : ℕ) (v : Edge) → slice_get g.wires u ≡ Some v → WireQuiet v.keep v.lane (a.near u) (a.far u) (a.asked u)
