-- What a fused graph keeps: its wiring, a joint state of each wire, and of each node its port state and its law over its histories.
use Rattle.std.specs.Prelude.{◌≡◌, ◌≢◌, ℕ, ◌+◌, ◌*◌, ◌<◌, ◌≤◌, ◌⊎◌, true, Some, List, [], ◌∷◌, length, replicate, slice_get, ⊤}
use Rattle.elem_core.specs.Prefix.{IsPrefix}
use Rattle.elem_core.specs.declared.item.Item.{Item}
use Rattle.port_core.specs.Ring.{is_queued}
use Rattle.port_core.specs.Joint.{IsSound}
use Rattle.port_core.specs.View.{View, in_at, ActsAllowed, acted_all}
use Rattle.port_core.specs.Asking.{PullsStand}
use Rattle.port_core.specs.Call.{starts, CallAllowed}
use Rattle.port_core.specs.declared.view.InView.TheVariants.{Idle, Pulled}
use Rattle.port_core.specs.declared.view.OutView.TheVariants.{Unpulled}
use Rattle.port_core.specs.declared.act.Act.{Act}
use Rattle.port_core.specs.Marks.{IsMarked, wanted, Grown}
use Rattle.stage_core.specs.Histories.{given_all, AllEmpty}
use Rattle.fused_net.specs.PortLists.{PortLists}
use Rattle.fused_net.specs.declared.net.WireEnds.{WireEnds}
use Rattle.fused_net.specs.Net.{Net, end_at, port_at, ports_at, wire_at, view_of, took, gave}

-- Nodes and wires name each other: each wire stands at the ports at its ends, and each port of a node has the wire that ends there.
pub record Wired (ends : List WireEnds) (ports : List PortLists) (nodes wires : ℕ) : Type 0 where
  pub each_node : length ports ≡ nodes
  pub each_wire : length ends ≡ wires
  pub from_within : (w : ℕ) → w < wires → (end_at ends w).from < nodes
  pub to_within : (w : ℕ) → w < wires → (end_at ends w).to < nodes
  pub from_output : (w : ℕ) → w < wires → slice_get (port_at ports (end_at ends w).from).outs (end_at ends w).output ≡ Some w
  pub to_input : (w : ℕ) → w < wires → slice_get (port_at ports (end_at ends w).to).ins (end_at ends w).input ≡ Some w
  pub input_to : (n i w : ℕ) → n < nodes → slice_get (port_at ports n).ins i ≡ Some w → (w < wires) × (((end_at ends w).to ≡ n) × ((end_at ends w).input ≡ i))
  pub output_from : (n j w : ℕ) → n < nodes → slice_get (port_at ports n).outs j ≡ Some w
      → (w < wires) × (((end_at ends w).from ≡ n) × ((end_at ends w).output ≡ j))

-- there is room for what a call of any of these nodes appends: two actions for each of its ports
abbrev pub HaveRoom : List PortLists → ℕ → Type 0
HaveRoom ports room = (n : ℕ) → 2 * (length (port_at ports n).ins + length (port_at ports n).outs) ≤ room

-- nothing is asked of a node but that its actions are allowed
abbrev pub AnyRow : {N : Type 0} → N → View → Type 0
AnyRow x v = ⊤

-- the law of a node of which nothing is asked but that its actions are allowed
abbrev pub AnyLaw : {N : Type 0} → N → N → View → List (List Item) → List (List Item) → Type 0
AnyLaw first x v took gave = ⊤

-- what a node knows before it was started
abbrev pub first_view : PortLists → View
first_view p = record { ins = replicate (length p.ins) Idle; outs = replicate (length p.outs) Unpulled }

-- a node that was not started: it is as it was handed in, nobody pulled, and nothing passed
abbrev pub FreshLaw : {N : Type 0} → N → N → View → List (List Item) → List (List Item) → Type 0
FreshLaw first x v took gave = (first ≡ x) × (CallAllowed starts v × ((AllEmpty took × AllEmpty gave)
    × ((length took ≡ length v.ins) × (length gave ≡ length v.outs))))

-- the graph goes on: the same wiring, and the same nodes at its start
pub record NetGoesOn {N : Type 0} (old new : Net N) : Type 0 where
  pub firsts : new.firsts ≡ old.firsts
  pub ends : new.ends ≡ old.ends
  pub ports : new.ports ≡ old.ports
  pub nodes : length new.nodes ≡ length old.nodes
  pub wires : length new.wires ≡ length old.wires

-- a node whose one port is the input of wire w is as it was, where that wire brought it nothing since
abbrev pub NodeStays : {N : Type 0} → Net N → Net N → ℕ → Type 0
NodeStays old new w = (k : ℕ) → (ports_at old k).ins ≡ w ∷ [] → (ports_at old k).outs ≡ [] → (wire_at new w).wire.got ≡ (wire_at old w).wire.got
    → slice_get new.nodes k ≡ slice_get old.nodes k

-- A node whose one port is the input of wire w tells still what it told of its ports then, where that wire brought it nothing since.
-- Choice: docs/DECISIONS.md#nodes-that-hear-one-wire
abbrev pub TellsStill : {N : Type 0} → (N → View → Type 0) → Net N → Net N → ℕ → Type 0
TellsStill {N = N} asking old new w = (k : ℕ) → (ports_at old k).ins ≡ w ∷ [] → (ports_at old k).outs ≡ [] → (wire_at new w).wire.got ≡ (wire_at old w).wire.got
    → (x : N) → slice_get new.nodes k ≡ Some x → asking x (view_of old k)

-- what a stage tells of its ports whenever it has just pulled, of node n
abbrev pub IsAsking : {N : Type 0} → (N → View → Type 0) → Net N → ℕ → Type 0
IsAsking {N = N} asking net n = (x : N) → slice_get net.nodes n ≡ Some x → asking x (view_of net n)

-- the moves that each node has recorded only grew
abbrev pub MovesGrow : {N : Type 0} → (N → List ℕ) → Net N → Net N → Type 0
MovesGrow {N = N} moves old new = (k : ℕ) (x y : N) → slice_get old.nodes k ≡ Some x → slice_get new.nodes k ≡ Some y → IsPrefix (moves x) (moves y)

-- each node, in their order, is the same, or it has kept what outlives want of memory
abbrev pub AllKept : {N : Type 0} → (N → N → Type 0) → List N → List N → Type 0
AllKept keeps [] [] = ⊤
AllKept keeps (x ∷ xs) (y ∷ ys) = ((y ≡ x) ⊎ keeps x y) × AllKept keeps xs ys
AllKept keeps _ _ = ⊥

module _ {N : Type 0} (port_state : N → View → Type 0) (law : N → N → View → List (List Item) → List (List Item) → Type 0) where
  -- a node, by what it knows and by its histories, which has these actions still to do: they are allowed, and once they are
  -- done its port state and its law hold
  pub record Minds (x first : N) (v : View) (took gave : List (List Item)) (acts : List Act) : Type 0 where
    pub allowed : ActsAllowed v acts
    pub port_state_holds : port_state x (acted_all v acts)
    pub law_holds : law first x (acted_all v acts) took (given_all acts gave)

  -- node n of the graph
  abbrev pub IsMinded : Net N → ℕ → List Act → Type 0
  IsMinded net n acts = (x first : N) → slice_get net.nodes n ≡ Some x → slice_get net.firsts n ≡ Some first
      → Minds x first (view_of net n) (took net n) (gave net n) acts

  -- node n has these actions to do
  pub record Busy (net : Net N) (n : ℕ) (acts : List Act) : Type 0 where
    pub wired : Wired net.ends net.ports (length net.nodes) (length net.wires)
    pub each_first : length net.firsts ≡ length net.nodes
    pub sound : (w : ℕ) → w < length net.wires → IsSound (wire_at net w).wire (is_queued net.queue w)
    pub marked : (w : ℕ) → w < length net.wires → IsMarked (wire_at net w)
    pub within : n < length net.nodes
    pub stands : PullsStand acts
    pub here : IsMinded net n acts
    pub others : (k : ℕ) → k < length net.nodes → k ≢ n → IsMinded net k []

module _ {N : Type 0} (port_state : N → View → Type 0) (law : N → N → View → List (List Item) → List (List Item) → Type 0) (asking : N → View → Type 0)
    (moves : N → List ℕ) where
  -- The last ask of wire w that took effect: an earlier moment from which the graph went on, and at which the node at the
  -- wire's input had pulled. It waited there, its port state and its law held, and so did what it tells whenever it has just pulled.
  -- Choice: docs/DECISIONS.md#last-asks
  pub record LastAsk (net : Net N) (w : ℕ) : Type 0 where
    pub old : Net N
    pub on : NetGoesOn old net
    pub grown : (u : ℕ) → u < length old.wires → Grown (wire_at old u) (wire_at net u)
    pub moves_on : MovesGrow moves old net
    pub sound : (u : ℕ) → u < length old.wires → IsSound (wire_at old u).wire (is_queued old.queue u)
    pub marked : (u : ℕ) → u < length old.wires → IsMarked (wire_at old u)
    pub waits : (wire_at old w).wire.inp ≡ Pulled
    pub asked : (wire_at old w).asked ≡ true
    pub same : wanted (wire_at net w) ≡ wanted (wire_at old w)
    pub stays : TellsStill asking old net w
    pub minded : IsMinded port_state law old (end_at old.ends w).to []
    pub asking_then : IsAsking asking old (end_at old.ends w).to

  -- each wire whose input has pulled has a last ask
  abbrev pub AllAsked : Net N → Type 0
  AllAsked net = (w : ℕ) → w < length net.wires → 1 ≤ wanted (wire_at net w) → LastAsk net w

  -- The last ask of node n at any of its inputs: an earlier moment from which the graph went on, and at which the node had just
  -- pulled at one of them. It waits there, and its port state and its law held. None of its inputs was pulled since, and at that
  -- moment each wire had a last ask of its own.
  -- Choice: docs/DECISIONS.md#last-asks-of-nodes
  pub record NodeAsked (net : Net N) (n : ℕ) : Type 0 where
    pub old : Net N
    pub on : NetGoesOn old net
    pub grown : (u : ℕ) → u < length old.wires → Grown (wire_at old u) (wire_at net u)
    pub moves_on : MovesGrow moves old net
    pub sound : (u : ℕ) → u < length old.wires → IsSound (wire_at old u).wire (is_queued old.queue u)
    pub marked : (u : ℕ) → u < length old.wires → IsMarked (wire_at old u)
    pub minded : IsMinded port_state law old n []
    pub asking_then : IsAsking asking old n
    pub before : AllAsked old
    pub port : ℕ
    pub waits : in_at (view_of old n) port ≡ Pulled
    pub same : (u : ℕ) → u < length old.wires → (end_at old.ends u).to ≡ n → wanted (wire_at net u) ≡ wanted (wire_at old u)

  -- each node that has pulled at some input has such a moment
  abbrev pub AllMoments : Net N → Type 0
  AllMoments net = (n u : ℕ) → n < length net.nodes → u < length net.wires → (end_at net.ends u).to ≡ n → 1 ≤ wanted (wire_at net u) → NodeAsked net n

  -- the graph between two events
  pub record Settled (net : Net N) : Type 0 where
    pub wired : Wired net.ends net.ports (length net.nodes) (length net.wires)
    pub each_first : length net.firsts ≡ length net.nodes
    pub sound : (w : ℕ) → w < length net.wires → IsSound (wire_at net w).wire (is_queued net.queue w)
    pub marked : (w : ℕ) → w < length net.wires → IsMarked (wire_at net w)
    pub minded : (n : ℕ) → n < length net.nodes → IsMinded port_state law net n []
    pub asked : AllAsked net
    pub moments : AllMoments net

  -- Memory was wanting in a handler: the graph had gone on to a last moment between two events, and since then each node has
  -- kept what outlives that.
  pub record BreaksOff (keeps : N → N → Type 0) (old : Net N) (nodes : List N) : Type 0 where
    pub last : Net N
    pub settled : Settled last
    pub on : NetGoesOn old last
    pub kept : AllKept keeps last.nodes nodes

  -- the nodes below n were started, and the others were not
  pub record Starting (fresh : N → View → Type 0) (net : Net N) (n : ℕ) : Type 0 where
    pub wired : Wired net.ends net.ports (length net.nodes) (length net.wires)
    pub each_first : length net.firsts ≡ length net.nodes
    pub sound : (w : ℕ) → w < length net.wires → IsSound (wire_at net w).wire (is_queued net.queue w)
    pub marked : (w : ℕ) → w < length net.wires → IsMarked (wire_at net w)
    pub below : (k : ℕ) → k < n → k < length net.nodes → IsMinded port_state law net k []
    pub asked : AllAsked net
    pub moments : AllMoments net
    pub above : (k : ℕ) → n ≤ k → k < length net.nodes → (x first : N) → slice_get net.nodes k ≡ Some x → slice_get net.firsts k ≡ Some first
        → fresh x (view_of net k) × FreshLaw first x (view_of net k) (took net k) (gave net k)
