-- Where stages follow moves: what stands in place of the rows of a picture, of the cause of its orders, and the causes of a misfit.
-- Choice: docs/DECISIONS.md#rows-of-a-replay
use Rattle.std.specs.Prelude.{◌≡◌, ◌⊎◌, ⊤, ℕ, ◌+◌, ◌<◌, ◌≤◌, true, false, IsTrue, List, [], ◌∷◌, map, length, take, drop, slice_get, Option, Some, None}
use Rattle.elem_core.specs.Tree.{Tree}
use Rattle.elem_core.specs.declared.why.Decider.{Decider}
use Rattle.elem_core.specs.declared.why.Decider.TheVariants.{Stop}
use Rattle.elem_core.specs.Values.{same_text}
use Rattle.port_core.specs.Picks.{next_move, second_move}
use Rattle.port_core.specs.declared.pick_log.Next.{Next}
use Rattle.port_core.specs.declared.pick_log.Next.TheVariants.{Free, Move, UsedUp}
use Rattle.stream_model.specs.declared.kind.Kind.{Kind}
use Rattle.stream_model.specs.declared.kind.Kind.TheVariants as kind
use Rattle.stream_model.specs.declared.kind.Policy.{Policy}
use Rattle.stream_model.specs.declared.kind.Policy.TheVariants.{Backpressure}
use Rattle.stream_model.specs.declared.kind.Joining.{Joining}
use Rattle.stream_model.specs.declared.kind.Joining.TheVariants as joining
use Rattle.stream_model.specs.declared.outcome.WireCount.{WireCount}
use Rattle.stream_model.specs.Outlook.{Outlook, End}
use Rattle.stream_model.specs.Linear.{Role, a_source, a_flow, a_fan_in, a_fan_out, works, trips, plugs_in, buffers, recovers, obeys, groups_by, splits_when, splits_after, merges, gathers, concats, interleaves, merges_sorted, zips, broadcasts, balances, partitions, unzips, customs, sinks, role_of}
use Rattle.stream_model.specs.Graph.{Graph, Node, steps_of}
use Rattle.stream_model.specs.Composed.{count_from, inputs_of, ports_of}
use Rattle.stream_model.specs.Node.{World, chain_of, head_of}
use Rattle.stream_model.specs.Fits.{moves_fit, inputs, valve_order, CanTrip}
use Rattle.stream_model.specs.Machine.{Given, run, whole}
use Rattle.stream_model.specs.Picks.{buffered, count_of, empty_buffer, nothing_held}
use Rattle.stream_model.specs.Substreams.{Opening, by_key, before, behind, through, substreams, begin_subs, of_sub}
use Rattle.stream_model.specs.View.{SeenWire, EachWire, demand, ins, outs}
use Rattle.stream_model.specs.Rests.{Waits, IsShut, IsUnasked, OneToOne, ManyToOne, OneToMany, RoleRests}
use Rattle.stream_model.specs.Lawful.{WireLawful, RoleLawful, BalanceLawful, sent_in}
use Rattle.stage_core.specs.Over.{FailsAt}
use Rattle.stage_merge.specs.Rows.{MergeRestsBy, MergeMisfits}
use Rattle.stage_out.specs.BalanceRows.{BalanceRestsBy, BalanceMisfits}
use Rattle.stage_dropping.specs.Drops.{DroppingRestsBy, DropMisfits}
use Rattle.stage_dropping.specs.Recovers.{RecoverCause}
use Rattle.stage_switch.specs.Valves.{ValveCause}

-- the moves that each node follows, where it follows some
abbrev pub Plans : Type 0
Plans = ℕ → Option (List ℕ)

-- no node follows moves
abbrev pub no_plans : Plans
no_plans node = None

-- what is left of a node's moves behind so many of them
abbrev pub left_behind : ℕ → Option (List ℕ) → Option (List ℕ)
left_behind n None = None
left_behind n (Some plan) = Some (drop n plan)

-- a valve and a recover make all their moves at once, or none
abbrev pub IsAtOnce : Kind → Type 0
IsAtOnce (kind.Valve switch) = ⊤
IsAtOnce (kind.RecoverNum n) = ⊤
IsAtOnce (kind.RecoverText t) = ⊤
IsAtOnce k = ⊥

-- ---- a picture that rests

-- merged substreams stand as those that choose, or their output is not asked; with all moves made nothing is asked of them
abbrev pub SubsRestBy : Next → Type 0 → List SeenWire → Type 0
SubsRestBy Free own os = own
SubsRestBy (Move n) own os = own ⊎ EachWire IsUnasked os
SubsRestBy UsedUp own os = ⊤

-- the one input is shut, and a failure may come there behind no more elements than were sent
abbrev pub ShutByFailure : List Outlook → List SeenWire → Type 0
ShutByFailure (o ∷ []) (i ∷ []) = IsShut i × ((n : ℕ) × ((n ≤ i.sent) × FailsAt o n))
ShutByFailure os is = ⊥

-- a recover stands as one that chooses; or it has no move, and its input failed
abbrev pub RecoverRestsBy : Next → List ℕ → List Outlook → Type 0 → List SeenWire → Type 0
RecoverRestsBy UsedUp moves comes own is = own ⊎ ((moves ≡ []) × ShutByFailure comes is)
RecoverRestsBy next moves comes own is = own

module _ (g : Graph) (w : World) (comes : List Outlook) (next : Next) where
  -- a buffer by its policy; one that holds its input back follows nothing
  abbrev pub buffer_rests : ℕ → ℕ → Policy → List SeenWire → List SeenWire → Type 0
  buffer_rests node n Backpressure is os = RoleRests g w node (a_flow (buffers n Backpressure)) Stop is os
  buffer_rests node n p is os = OneToOne (λ i o. DroppingRestsBy next (nothing_held (buffered p n (w.moves node) i.list empty_buffer).held) i o) is os

  -- substreams one after another follow nothing
  abbrev pub subs_rest : Joining → Type 0 → List SeenWire → Type 0
  subs_rest joining.Merge own os = SubsRestBy next own os
  subs_rest joining.Concat own os = own

  -- the row of a node by its role and by what its next move is to be; one that follows nothing has the row of one that chooses
  abbrev pub RoleRestsBy : ℕ → Role → Decider → List SeenWire → List SeenWire → Type 0
  RoleRestsBy node (a_source source) d is os = RoleRests g w node (a_source source) d is os
  RoleRestsBy node (a_flow (works v)) d is os = RoleRests g w node (a_flow (works v)) d is os
  RoleRestsBy node (a_flow (trips order name n)) d is os = RoleRests g w node (a_flow (trips order name n)) d is os
  RoleRestsBy node (a_flow (plugs_in name)) d is os = RoleRests g w node (a_flow (plugs_in name)) d is os
  RoleRestsBy node (a_flow (buffers n p)) d is os = buffer_rests node n p is os
  RoleRestsBy node (a_flow (recovers t)) d is os = RecoverRestsBy next (w.moves node) comes (RoleRests g w node (a_flow (recovers t)) d is os) is
  RoleRestsBy node (a_flow (obeys name)) d is os = RoleRests g w node (a_flow (obeys name)) d is os
  RoleRestsBy node (a_flow (groups_by n f chain)) d is os = SubsRestBy next (RoleRests g w node (a_flow (groups_by n f chain)) d is os) os
  RoleRestsBy node (a_flow (splits_when p chain j)) d is os = subs_rest j (RoleRests g w node (a_flow (splits_when p chain j)) d is os) os
  RoleRestsBy node (a_flow (splits_after p chain j)) d is os = subs_rest j (RoleRests g w node (a_flow (splits_after p chain j)) d is os) os
  RoleRestsBy node (a_fan_in (merges n)) d is os = ManyToOne (MergeRestsBy next (w.moves node)) is os
  RoleRestsBy node (a_fan_in (gathers n)) d is os = ManyToOne (MergeRestsBy next (w.moves node)) is os
  RoleRestsBy node (a_fan_in (concats n)) d is os = RoleRests g w node (a_fan_in (concats n)) d is os
  RoleRestsBy node (a_fan_in (interleaves n s)) d is os = RoleRests g w node (a_fan_in (interleaves n s)) d is os
  RoleRestsBy node (a_fan_in merges_sorted) d is os = RoleRests g w node (a_fan_in merges_sorted) d is os
  RoleRestsBy node (a_fan_in zips) d is os = RoleRests g w node (a_fan_in zips) d is os
  RoleRestsBy node (a_fan_out (broadcasts n)) d is os = RoleRests g w node (a_fan_out (broadcasts n)) d is os
  RoleRestsBy node (a_fan_out (balances n)) d is os = OneToMany (BalanceRestsBy next) is os
  RoleRestsBy node (a_fan_out (partitions n f)) d is os = RoleRests g w node (a_fan_out (partitions n f)) d is os
  RoleRestsBy node (a_fan_out unzips) d is os = RoleRests g w node (a_fan_out unzips) d is os
  RoleRestsBy node (customs name) d is os = RoleRests g w node (customs name) d is os
  RoleRestsBy node (sinks file keeps) d is os = RoleRests g w node (sinks file keeps) d is os

-- ---- the causes of a misfit

-- The next move of merged substreams is to give an output of substream m, and they cannot: behind some of the elements all its outputs were
-- given while another's were not, or the input ends, and all that substream m ever gives was given.
abbrev pub SubsCauseOf : (List Tree → End → Given Tree) → ℕ → Opening → ℕ → List ℕ → Outlook → Type 0
SubsCauseOf yields node o m moves i =
    ((n : ℕ) × ((n ≤ length i.list) × ((length (of_sub yields m (run (substreams yields o) (begin_subs yields node) (take n i.list)).gave) ≤ count_of m moves)
    × (length moves < length (run (substreams yields o) (begin_subs yields node) (take n i.list)).gave))))
    ⊎ (IsTrue i.ends × (length (of_sub yields m (whole (substreams yields o) (begin_subs yields node) i).list) ≤ count_of m moves))

-- the same of a node with one input, where a move is to be made next
abbrev pub SubsCause : (List Tree → End → Given Tree) → ℕ → Opening → Next → List ℕ → List Outlook → Type 0
SubsCause yields node o (Move m) moves (i ∷ []) = SubsCauseOf yields node o m moves i
SubsCause yields node o next moves is = ⊥

-- a balance has one input
abbrev pub BalanceCause : Next → List ℕ → List Outlook → Type 0
BalanceCause next moves (o ∷ []) = BalanceMisfits next moves o
BalanceCause next moves os = ⊥

-- a buffer that drops has one input
abbrev pub DropCause : Policy → ℕ → Next → List ℕ → List Outlook → Type 0
DropCause Backpressure n next moves os = ⊥
DropCause p n next moves (o ∷ []) = DropMisfits p n next moves o
DropCause p n next moves os = ⊥

-- a valve is to act behind as many elements as its second move says
abbrev pub OrderCause : Option ℕ → List Outlook → Type 0
OrderCause None os = ⊥
OrderCause (Some k) os = ValveCause k os

module _ (g : Graph) (w : World) (left : Option (List ℕ)) where
  -- substreams one after another follow nothing
  abbrev pub subs_misfit : ℕ → Joining → Opening → List ℕ → List Outlook → Type 0
  subs_misfit node joining.Merge o c os = SubsCause (through w.book (chain_of node (steps_of c g.chains))) node o (next_move left) (w.moves node) os
  subs_misfit node joining.Concat o c os = ⊥

  -- The cause of a misfit over the outlooks of the inputs, by what is left of a node's moves: it cannot make the next of them. A stage that
  -- follows nothing has none.
  abbrev pub RoleMisfits : ℕ → Role → List Outlook → Type 0
  RoleMisfits node (a_source source) os = ⊥
  RoleMisfits node (a_flow (works v)) os = ⊥
  RoleMisfits node (a_flow (trips order name n)) os = ⊥
  RoleMisfits node (a_flow (plugs_in name)) os = ⊥
  RoleMisfits node (a_flow (buffers n p)) os = DropCause p n (next_move left) (w.moves node) os
  RoleMisfits node (a_flow (recovers t)) os = RecoverCause (next_move left) os
  RoleMisfits node (a_flow (obeys name)) os = OrderCause (second_move left) os
  RoleMisfits node (a_flow (groups_by n f chain)) os = subs_misfit node joining.Merge (by_key n f) chain os
  RoleMisfits node (a_flow (splits_when p chain j)) os = subs_misfit node j (before p) chain os
  RoleMisfits node (a_flow (splits_after p chain j)) os = subs_misfit node j (behind p) chain os
  RoleMisfits node (a_fan_in (merges n)) os = MergeMisfits false (next_move left) (w.moves node) os
  RoleMisfits node (a_fan_in (gathers n)) os = MergeMisfits true (next_move left) (w.moves node) os
  RoleMisfits node (a_fan_in (concats n)) os = ⊥
  RoleMisfits node (a_fan_in (interleaves n s)) os = ⊥
  RoleMisfits node (a_fan_in merges_sorted) os = ⊥
  RoleMisfits node (a_fan_in zips) os = ⊥
  RoleMisfits node (a_fan_out (broadcasts n)) os = ⊥
  RoleMisfits node (a_fan_out (balances n)) os = BalanceCause (next_move left) (w.moves node) os
  RoleMisfits node (a_fan_out (partitions n f)) os = ⊥
  RoleMisfits node (a_fan_out unzips) os = ⊥
  RoleMisfits node (customs name) os = ⊥
  RoleMisfits node (sinks file keeps) os = ⊥

module _ (g : Graph) (w : World) (plans : Plans) where
  -- what is left of the moves of a node behind those that it made
  abbrev pub left : ℕ → Option (List ℕ)
  left node = left_behind (length (w.moves node)) (plans node)

  -- the row of node `node` in a picture that rests, where this comes in on its inputs: it meets it, or cannot make its next move
  abbrev pub RowRestsBy : ℕ → Kind → Decider → List Outlook → List SeenWire → List SeenWire → Type 0
  RowRestsBy node k d comes is os = RoleRestsBy g w comes (next_move (left node)) node (role_of k) d is os ⊎ RoleMisfits g w (left node) node (role_of k) comes

  -- Each node has all its wires shut, or meets its row, or cannot make its next move. Where no node follows moves this is that each meets its
  -- row of a picture that rests.
  abbrev pub RestsBy : List WireCount → (ℕ → Outlook) → Type 0
  RestsBy counts outlook =
      (node : ℕ) (n : Node) → slice_get g.nodes node ≡ Some n
      → (EachWire IsShut (ins g counts outlook node n) × EachWire IsShut (outs g counts outlook node n))
      ⊎ RowRestsBy node n.kind n.decider (ports_of g w outlook node (count_from 0 (inputs_of n))) (ins g counts outlook node n)
      (outs g counts outlook node n)

  -- this node cannot make its next move, where each wire is sent that outlook
  abbrev pub MisfitsOver : (ℕ → Outlook) → ℕ → Node → Type 0
  MisfitsOver outlook node n = RoleMisfits g w (left node) node (role_of n.kind) (ports_of g w outlook node (count_from 0 (inputs_of n)))

-- ---- a lawful picture

-- each output from number n on has at most its moves, and all of them where it is open: an element for one that is shut is dropped
abbrev pub FollowedOutputs : List ℕ → ℕ → List SeenWire → Type 0
FollowedOutputs moves n [] = ⊤
FollowedOutputs moves n (o ∷ os) = ((o.sent ≤ count_of n moves) × (IsShut o ⊎ (o.sent ≡ count_of n moves))) × FollowedOutputs moves (n + 1) os

-- a balance that follows moves may ask for one element more than it made moves
abbrev pub BalanceLawfulBy : Option (List ℕ) → List ℕ → SeenWire → List SeenWire → Type 0
BalanceLawfulBy None moves i os = BalanceLawful moves i os
BalanceLawfulBy (Some plan) moves i os = FollowedOutputs moves 0 os × (demand i ≤ length moves + 1)

module _ (g : Graph) (w : World) (plans : Plans) where
  -- the row of a node by its role
  abbrev pub RoleLawfulBy : ℕ → Role → Decider → List SeenWire → List SeenWire → Type 0
  RoleLawfulBy node (a_source source) d is os = RoleLawful g w node (a_source source) d is os
  RoleLawfulBy node (a_flow flow) d is os = RoleLawful g w node (a_flow flow) d is os
  RoleLawfulBy node (a_fan_in fan) d is os = RoleLawful g w node (a_fan_in fan) d is os
  RoleLawfulBy node (a_fan_out (broadcasts n)) d is os = RoleLawful g w node (a_fan_out (broadcasts n)) d is os
  RoleLawfulBy node (a_fan_out (balances n)) d is os = OneToMany (BalanceLawfulBy (plans node) (w.moves node)) is os
  RoleLawfulBy node (a_fan_out (partitions n f)) d is os = RoleLawful g w node (a_fan_out (partitions n f)) d is os
  RoleLawfulBy node (a_fan_out unzips) d is os = RoleLawful g w node (a_fan_out unzips) d is os
  RoleLawfulBy node (customs name) d is os = RoleLawful g w node (customs name) d is os
  RoleLawfulBy node (sinks file keeps) d is os = RoleLawful g w node (sinks file keeps) d is os

  -- every wire and every node is lawful; and each order of a valve that follows no moves was given by a trip
  pub record IsLawfulBy (counts : List WireCount) (outlook : ℕ → Outlook) : Type 0 where
    pub wires : (node : ℕ) (n : Node) → slice_get g.nodes node ≡ Some n → EachWire WireLawful (ins g counts outlook node n)
    pub nodes : (node : ℕ) (n : Node) → slice_get g.nodes node ≡ Some n
        → RoleLawfulBy node (role_of n.kind) n.decider (ins g counts outlook node n) (outs g counts outlook node n)
    pub valves : (node : ℕ) (n : Node) (v : List ℕ × ℕ) → slice_get g.nodes node ≡ Some n → plans node ≡ None → valve_order n.kind (w.moves node) ≡ Some v
        → (trip : ℕ) × (t : Node) × (slice_get g.nodes trip ≡ Some t) × CanTrip v.0 v.1 t.kind (sent_in (ins g counts outlook trip t))

  -- all moves fit; and the valves of a switch that acted and follow no moves show one order, and some trip gave it
  pub record FitsBy : Type 0 where
    pub each : (node : ℕ) (n : Node) → slice_get g.nodes node ≡ Some n → moves_fit g w node n.kind (inputs g w node n) ≡ true
    pub given : (node : ℕ) (n : Node) (v : List ℕ × ℕ) → slice_get g.nodes node ≡ Some n → plans node ≡ None → valve_order n.kind (w.moves node) ≡ Some v
        → (trip : ℕ) × (t : Node) × (slice_get g.nodes trip ≡ Some t) × CanTrip v.0 v.1 t.kind (length (head_of (inputs g w trip t)).list)
    pub one : (node other : ℕ) (n m : Node) (v u : List ℕ × ℕ) → slice_get g.nodes node ≡ Some n → slice_get g.nodes other ≡ Some m
        → plans node ≡ None → plans other ≡ None
        → valve_order n.kind (w.moves node) ≡ Some v → valve_order m.kind (w.moves other) ≡ Some u → same_text v.0 u.0 ≡ true → v.1 ≡ u.1
