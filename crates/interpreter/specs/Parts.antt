-- The parts of an island: what stands at each of its places, and the links between their ports.
use Rattle.std.specs.Prelude.{◌≡◌, ℕ, zero, suc, ◌<◌, ◌≤◌, ◌^◌, false, None, Some, List, [], ◌∷◌, map, length, slice_get, slice_set, ⊤}
use Rattle.port_core.specs.declared.view.InView.TheVariants.{Idle}
use Rattle.port_core.specs.declared.view.OutView.TheVariants.{Unpulled}
use Rattle.stream_model.specs.declared.kind.Kind.TheVariants.{Ignore}
use Rattle.stream_model.specs.declared.outcome.EndState.TheVariants.{Unended}
use Rattle.stage_core.specs.declared.phase.Phase.TheVariants.{New}
use Rattle.nodes.specs.Kinds.{IsMaker, maker_of, IsFileSink, writes_of}
use Rattle.nodes.specs.Sink.{new_sink}
use Rattle.stage_linear.specs.Handling.{LinearFresh}
use Rattle.stage_state.specs.Handling.{StateFresh}
use Rattle.line_chain.specs.Line.{line_rest, line_is_open}
use Rattle.stage_sub.specs.LedLaws.{LedNew}
use Rattle.stage_in.specs.Logics.{InFresh}
use Rattle.stage_out.specs.OutLogics.{OutFresh}
use Rattle.graph_stage.specs.Laws.{CustomFresh}
use Rattle.graph_stage.specs.Making.{unpulled_view}
use Rattle.port_core.specs.View.{unpulled_ins, unpulled_outs}
use Rattle.nodes.specs.declared.node.IslandNode.{IslandNode}
use Rattle.nodes.specs.declared.node.IslandNode.TheVariants as node
use Rattle.fused_net.specs.declared.net.WireEnds.{WireEnds}
use Rattle.fused_net.specs.PortLists.{PortLists}
use Rattle.fused_net.specs.Net.{end_at, port_at}
use Rattle.interpreter.specs.declared.parts.Link.{Link}
use Rattle.interpreter.specs.declared.parts.Place.{Place}
use Rattle.interpreter.specs.declared.parts.Seated.{Seated}
use Rattle.interpreter.specs.declared.parts.Work.{Work}
use Rattle.interpreter.specs.declared.parts.Work.TheVariants.{Reading, Making, Linear, State, Sub, FanIn, FanOut, Custom, Writing, LaneIn, LaneOut}
use Rattle.interpreter.specs.Ways.{IsOnce}

-- the ports at the ends of a link
abbrev pub ends_of : Link → WireEnds
ends_of l = record { from = l.from; output = l.output; to = l.to; input = l.input }

-- the number of the blueprint's wire that a link is
abbrev pub wire_number : Link → ℕ
wire_number l = l.wire

-- how many inputs a work has
abbrev pub work_inputs : {S D L H B : Type 0} → Work S D L H B → ℕ
work_inputs (Reading r) = 0
work_inputs (Making k) = 0
work_inputs (Linear l) = 1
work_inputs (State l) = 1
work_inputs (Sub l) = 1
work_inputs (FanIn l n) = n
work_inputs (FanOut l n) = 1
work_inputs (Custom x i o) = i
work_inputs (Writing k d) = 1
work_inputs (LaneIn u) = 0
work_inputs (LaneOut u) = 1

-- how many outputs a work has
abbrev pub work_outputs : {S D L H B : Type 0} → Work S D L H B → ℕ
work_outputs (Reading r) = 1
work_outputs (Making k) = 1
work_outputs (Linear l) = 1
work_outputs (State l) = 1
work_outputs (Sub l) = 1
work_outputs (FanIn l n) = 1
work_outputs (FanOut l n) = n
work_outputs (Custom x i o) = o
work_outputs (Writing k d) = 0
work_outputs (LaneIn u) = 1
work_outputs (LaneOut u) = 0

-- the same of the work at place n
abbrev pub inputs_at : {S D L H B : Type 0} → List (Seated S D L H B) → ℕ → ℕ
inputs_at [] n = 0
inputs_at (x ∷ xs) zero = work_inputs x.work
inputs_at (x ∷ xs) (suc n) = inputs_at xs n

-- how many outputs the work at place n has; none where there is no place
abbrev pub outputs_at : {S D L H B : Type 0} → List (Seated S D L H B) → ℕ → ℕ
outputs_at [] n = 0
outputs_at (x ∷ xs) zero = work_outputs x.work
outputs_at (x ∷ xs) (suc n) = outputs_at xs n

-- what is known of a place before its work holds its handle
abbrev pub seat_place : {S D L H B : Type 0} → Seated S D L H B → Place
seat_place s = record { node = s.node; inputs = work_inputs s.work; outputs = work_outputs s.work }

-- how many inputs place n has; none where there is no such place
abbrev pub input_count_at : List Place → ℕ → ℕ
input_count_at [] n = 0
input_count_at (p ∷ ps) zero = p.inputs
input_count_at (p ∷ ps) (suc n) = input_count_at ps n

-- how many outputs place n has; none where there is no such place
abbrev pub output_count_at : List Place → ℕ → ℕ
output_count_at [] n = 0
output_count_at (p ∷ ps) zero = p.outputs
output_count_at (p ∷ ps) (suc n) = output_count_at ps n

-- a work that did nothing yet: no reader has read, no logic was started, and a sink has a drain exactly where it has a file
abbrev pub IsUnused : {S D L H B : Type 0} → Work S D L H B → Type 0
IsUnused (Reading r) = r.kept ≡ []
IsUnused (Making k) = IsMaker k
IsUnused (Linear l) = LinearFresh l (record { ins = Idle ∷ []; outs = Unpulled ∷ [] })
IsUnused (State l) = StateFresh l (record { ins = Idle ∷ []; outs = Unpulled ∷ [] })
IsUnused (Sub l) = LedNew line_rest line_is_open l (record { ins = Idle ∷ []; outs = Unpulled ∷ [] })
IsUnused (FanIn l n) = InFresh l (unpulled_ins n)
IsUnused (FanOut l n) = OutFresh l (unpulled_outs n)
IsUnused (Custom x i o) = CustomFresh x (unpulled_view i o)
IsUnused (Writing k (Some d)) = IsFileSink k
IsUnused (Writing k None) = k ≡ Ignore
IsUnused (LaneIn u) = ⊤
IsUnused (LaneOut u) = ⊤

-- each work did nothing yet
abbrev pub AllUnused : {S D L H B : Type 0} → List (Seated S D L H B) → Type 0
AllUnused [] = ⊤
AllUnused (x ∷ xs) = IsUnused x.work × AllUnused xs

-- Each link stands between a port that is there and another; each port of each place is in exactly one link.
pub record IsWiring (ins outs : ℕ → ℕ) (places : ℕ) (ends : List WireEnds) : Type 0 where
  pub from_within : (w : ℕ) → w < length ends → (end_at ends w).from < places
  pub to_within : (w : ℕ) → w < length ends → (end_at ends w).to < places
  pub output_within : (w : ℕ) → w < length ends → (end_at ends w).output < outs (end_at ends w).from
  pub input_within : (w : ℕ) → w < length ends → (end_at ends w).input < ins (end_at ends w).to
  pub one_output : (v w : ℕ) → v < length ends → w < length ends → (end_at ends v).from ≡ (end_at ends w).from → (end_at ends v).output ≡ (end_at ends w).output
      → v ≡ w
  pub one_input : (v w : ℕ) → v < length ends → w < length ends → (end_at ends v).to ≡ (end_at ends w).to → (end_at ends v).input ≡ (end_at ends w).input
      → v ≡ w
  pub each_output : (n j : ℕ) → n < places → j < outs n → (w : ℕ) × ((w < length ends) × (((end_at ends w).from ≡ n) × ((end_at ends w).output ≡ j)))
  pub each_input : (n i : ℕ) → n < places → i < ins n → (w : ℕ) × ((w < length ends) × (((end_at ends w).to ≡ n) × ((end_at ends w).input ≡ i)))

-- What an island is made of: works that did nothing yet, and links that join all their ports, each end of a lane in a link of its own.
pub record AreParts {S D L H B : Type 0} (places : List (Seated S D L H B)) (links : List Link) : Type 0 where
  pub unused : AllUnused places
  pub wiring : IsWiring (inputs_at places) (outputs_at places) (length places) (map ends_of links)
  pub once : IsOnce places links
  pub few : length links < 2 ^ 32

-- the node of a work, with its number, where it may put so many lines together
abbrev pub BecomesOf : {S D L H B : Type 0} → ℕ → ℕ → Work S D L H B → IslandNode S D L H B → Type 0
BecomesOf k room (Reading r) x = x ≡ node.Reading (record { node = k; reader = r; drawn = 0; phase = New })
BecomesOf k room (Making kind) x = x ≡ node.Making (maker_of k kind)
BecomesOf k room (Linear l) x = x ≡ node.Linear l
BecomesOf k room (State l) x = x ≡ node.State l
BecomesOf k room (Sub l) x = x ≡ node.Sub l
BecomesOf k room (FanIn l n) x = x ≡ node.FanIn l
BecomesOf k room (FanOut l n) x = x ≡ node.FanOut l
BecomesOf k room (Custom s i o) x = x ≡ node.Custom s
BecomesOf k room (Writing kind (Some d)) x = x ≡ node.Writing (new_sink k (writes_of kind) room d)
BecomesOf k room (Writing kind None) x = x ≡ node.Ignoring (record { node = k; started = false; end = Unended })
BecomesOf k room (LaneIn u) x = x ≡ node.Entering (record { wire = u })
BecomesOf k room (LaneOut u) x = x ≡ node.Leaving (record { wire = u; waits = []; gone = [] })

-- the node that stands at a place
abbrev pub Becomes : {S D L H B : Type 0} → Seated S D L H B → IslandNode S D L H B → Type 0
Becomes s x = BecomesOf s.node s.room s.work x

-- the nodes that stand at the places, in order
abbrev pub AllBecome : {S D L H B : Type 0} → List (Seated S D L H B) → List (IslandNode S D L H B) → Type 0
AllBecome [] [] = ⊤
AllBecome (s ∷ ss) (x ∷ xs) = Becomes s x × AllBecome ss xs
AllBecome _ _ = ⊥

-- none of these works has room to put lines together
abbrev pub NonePutsTogether : {S D L H B : Type 0} → List (Seated S D L H B) → Type 0
NonePutsTogether seats = (k : ℕ) (s : _) → slice_get seats k ≡ Some s → s.room ≤ 1

-- a node that writes lines has room for one alone
abbrev pub PutsOne : {S D L H B : Type 0} → IslandNode S D L H B → Type 0
PutsOne (node.Writing x) = x.gather.room ≡ 1
PutsOne x = ⊤

-- each of these nodes does
abbrev pub AllPutOne : {S D L H B : Type 0} → List (IslandNode S D L H B) → Type 0
AllPutOne nodes = (k : ℕ) (x : _) → slice_get nodes k ≡ Some x → PutsOne x

-- the tables of the wires at the ports of each place have a row for each port
pub record IsSized (ins outs : ℕ → ℕ) (places : ℕ) (ports : List PortLists) : Type 0 where
  pub count : length ports ≡ places
  pub ins_are : (n : ℕ) → n < places → length (port_at ports n).ins ≡ ins n
  pub outs_are : (n : ℕ) → n < places → length (port_at ports n).outs ≡ outs n

-- how many rows a place has in them
abbrev pub ins_in : List PortLists → ℕ → ℕ
ins_in ports n = length (port_at ports n).ins

-- how many outputs a place has in them
abbrev pub outs_in : List PortLists → ℕ → ℕ
outs_in ports n = length (port_at ports n).outs

-- the first k links stand in the tables
pub record IsFilledUpTo (ends : List WireEnds) (ports : List PortLists) (k : ℕ) : Type 0 where
  pub outs : (w : ℕ) → w < k → slice_get (port_at ports (end_at ends w).from).outs (end_at ends w).output ≡ Some w
  pub ins : (w : ℕ) → w < k → slice_get (port_at ports (end_at ends w).to).ins (end_at ends w).input ≡ Some w

-- the tables once wire w stands at these ends
abbrev pub written : List PortLists → WireEnds → ℕ → List PortLists
written ports e w =
    let out = port_at ports e.from in
    let once = slice_set ports e.from (record out { outs = slice_set out.outs e.output w }) in
    let in_ = port_at once e.to in
    slice_set once e.to (record in_ { ins = slice_set in_.ins e.input w })
