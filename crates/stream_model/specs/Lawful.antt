-- A lawful picture: no node gave more than it could, or asked for more than it may use.
use Rattle.std.specs.Prelude.{◌≡◌, ℕ, ◌+◌, ◌-◌, ◌<◌, ◌≤◌, max, true, false, ◌⊎◌, if◌then◌else◌, List, [], ◌∷◌, length, take, slice_get, Option, Some, None}
use Rattle.elem_core.specs.Tree.{Tree}
use Rattle.stream_model.specs.declared.kind.Kind.{Kind}
use Rattle.elem_core.specs.declared.why.Decider.{Decider}
use Rattle.stream_model.specs.declared.kind.Joining.{Joining}
use Rattle.stream_model.specs.declared.kind.Joining.TheVariants as joining
use Rattle.stream_model.specs.declared.kind.Policy.{Policy}
use Rattle.stream_model.specs.declared.kind.Policy.TheVariants.{Backpressure}
use Rattle.stream_model.specs.declared.outcome.WireCount.{WireCount}
use Rattle.stream_model.specs.Outlook.{Outlook}
use Rattle.stream_model.specs.Linear.{Keeping, every_one, first_one, last_one, Role, a_source, a_flow, a_fan_in, a_fan_out, works, trips, plugs_in, buffers, recovers, obeys, groups_by, splits_when, splits_after, merges, gathers, concats, interleaves, merges_sorted, zips, broadcasts, balances, partitions, unzips, customs, sinks, role_of}
use Rattle.stream_model.specs.Picks.{count_of}
use Rattle.stream_model.specs.Graph.{Graph, Node}
use Rattle.stream_model.specs.Fits.{CanTrip, valve_order}
use Rattle.stream_model.specs.Node.{World}
use Rattle.stream_model.specs.OneWay.{OneWay, one_way_by}
use Rattle.stream_model.specs.View.{SeenWire, size_of, wanted, demand, total, EachWire, ins, outs}
use Rattle.stream_model.specs.Rests.{IsShut, OneToOne, ManyToOne, OneToMany, numbered}

-- any wire: at most its list was sent, and a lane that is not asked was sent at least its size
abbrev pub WireLawful : SeenWire → Type 0
WireLawful v = (v.sent ≤ length v.list) × (v.asked ≡ false → size_of v ≤ v.sent)

-- a stage asks only while it goes on, and where what it has been sent gives less than is wanted of it
abbrev pub StageLawful : OneWay → SeenWire → SeenWire → Type 0
StageLawful s i o =
    (o.sent ≤ (if i.shut then s.given_at_end (take i.sent i.list) else s.given (take i.sent i.list)))
    × (1 ≤ demand i → (s.goes_on (take (demand i - 1) i.list) ≡ true) × (s.given (take (demand i - 1) i.list) < wanted o))

-- a buffer that holds its input back gives what came, and asks for no more than it can hold
abbrev pub BufferLawful : ℕ → SeenWire → SeenWire → Type 0
BufferLawful n i o = (o.sent ≤ i.sent) × (demand i ≤ o.sent + n)

-- the ones among the moves were given, and the zeros came
abbrev pub DroppingLawful : List ℕ → SeenWire → SeenWire → Type 0
DroppingLawful moves i o = (o.sent ≡ count_of 1 moves) × (count_of 0 moves ≤ i.sent)

-- of each input from number n on no more was given than came, and one more may be asked for
abbrev pub MergeInputs : List ℕ → ℕ → List SeenWire → Type 0
MergeInputs moves n [] = Unit {0}
MergeInputs moves n (i ∷ is) = ((count_of n moves ≤ i.sent) × (demand i ≤ count_of n moves + 1)) × MergeInputs moves (n + 1) is

-- one element for each move
abbrev pub MergeLawful : List ℕ → List SeenWire → SeenWire → Type 0
MergeLawful moves is o = (o.sent ≡ length moves) × MergeInputs moves 0 is

-- how many elements were sent in all
abbrev pub sent_in : List SeenWire → ℕ
sent_in is = total (λ i. i.sent) is

-- an input that is asked has only inputs before it that are shut, which gave `given`
abbrev pub ConcatInputs : Type 0 → ℕ → ℕ → List SeenWire → Type 0
ConcatInputs earlier given most [] = Unit {0}
ConcatInputs earlier given most (i ∷ is) = (1 ≤ demand i → earlier × (demand i + given ≤ most)) × ConcatInputs (earlier × IsShut i) (given + i.sent) most is

-- no more than came, from one input after another
abbrev pub ConcatLawful : List SeenWire → SeenWire → Type 0
ConcatLawful is o = (o.sent ≤ sent_in is) × ConcatInputs (Unit {0}) 0 (wanted o) is

-- what an input that is shut was sent, else what is wanted of it
abbrev pub taken_or_wanted : SeenWire → ℕ
taken_or_wanted i = (if i.shut then i.sent else wanted i) - size_of i

-- no more than came, and no more is wanted than is wanted of the output
abbrev pub InterleaveLawful : List SeenWire → SeenWire → Type 0
InterleaveLawful is o = (o.sent ≤ sent_in is) × (total taken_or_wanted is ≤ wanted o)

-- no more than came, and each input may be one element ahead
abbrev pub SortedLawful : List SeenWire → SeenWire → Type 0
SortedLawful is o = (o.sent ≤ sent_in is) × (total demand is ≤ o.sent + 2)

-- of each input no more than came, and one more may be asked for
abbrev pub ZipLawful : List SeenWire → SeenWire → Type 0
ZipLawful is o = EachWire (λ i. (o.sent ≤ i.sent) × (demand i ≤ o.sent + 1)) is

-- the greatest number that is wanted of an output
abbrev pub most_wanted : List SeenWire → ℕ
most_wanted [] = 0
most_wanted (o ∷ os) = max (wanted o) (most_wanted os)

-- each output has at most what came; no more is asked for than each open output wants, or where none is open the greatest
abbrev pub BroadcastLawful : SeenWire → List SeenWire → Type 0
BroadcastLawful i os =
    EachWire (λ o. o.sent ≤ i.sent) os
    × EachWire (λ o. IsShut o ⊎ (demand i ≤ wanted o)) os
    × (EachWire IsShut os → demand i ≤ most_wanted os)

-- each output from number n on has its moves
abbrev pub BalanceOutputs : List ℕ → ℕ → List SeenWire → Type 0
BalanceOutputs moves n [] = Unit {0}
BalanceOutputs moves n (o ∷ os) = (o.sent ≡ count_of n moves) × BalanceOutputs moves (n + 1) os

-- one element for each move, one more may be asked for, and no more than the outputs want
abbrev pub BalanceLawful : List ℕ → SeenWire → List SeenWire → Type 0
BalanceLawful moves i os = BalanceOutputs moves 0 os × (demand i ≤ length moves + 1) × (demand i ≤ total wanted os)

-- `given n l` is how many elements of l have the number n
abbrev pub PartitionOutputs : (ℕ → List Tree → ℕ) → SeenWire → ℕ → List SeenWire → Type 0
PartitionOutputs given i n [] = Unit {0}
PartitionOutputs given i n (o ∷ os) =
    ((o.sent ≤ given n (take i.sent i.list)) × (1 ≤ demand i → IsShut o ⊎ (given n (take (demand i - 1) i.list) ≤ o.sent)))
    × PartitionOutputs given i (n + 1) os

-- each output has at most its elements, and all of them where more is asked for
abbrev pub PartitionLawful : (ℕ → List Tree → ℕ) → SeenWire → List SeenWire → Type 0
PartitionLawful given i os =
    PartitionOutputs given i 0 os × (EachWire (λ o. o.shut ≡ false) os → 1 ≤ demand i → demand i ≤ total wanted os)

-- the moves of a valve or a recover, besides
abbrev pub ValveLawful : List ℕ → SeenWire → SeenWire → Type 0
ValveLawful (order ∷ k ∷ []) i o = o.sent ≡ k
ValveLawful _ i o = Unit {0}

-- one that turned a failure had so many elements, and gave one more at most
abbrev pub RecoverLawful : List ℕ → SeenWire → SeenWire → Type 0
RecoverLawful (k ∷ []) i o = (k ≤ i.sent) × (o.sent ≤ k + 1)
RecoverLawful _ i o = Unit {0}

-- substreams that are joined by `merge` gave one element for each move
abbrev pub SubsLawful : Joining → List ℕ → SeenWire → SeenWire → Type 0
SubsLawful joining.Merge moves i o = o.sent ≡ length moves
SubsLawful joining.Concat moves i o = Unit {0}

module _ (g : Graph) (w : World) where
  -- a sink has no row, and a custom stage that tells no list has none
  abbrev pub stage_lawful : Option OneWay → List SeenWire → List SeenWire → Type 0
  stage_lawful None is os = Unit {0}
  stage_lawful (Some s) is os = OneToOne (StageLawful s) is os

  -- by the policy
  abbrev buffer_lawful : ℕ → ℕ → Policy → List SeenWire → List SeenWire → Type 0
  buffer_lawful node n Backpressure is os = OneToOne (BufferLawful n) is os
  buffer_lawful node n p is os = OneToOne (DroppingLawful (w.moves node)) is os

  -- a sink of the first element asks for one; the others have no row
  abbrev sink_lawful : Keeping → List SeenWire → Type 0
  sink_lawful every_one is = Unit {0}
  sink_lawful first_one is = EachWire (λ i. demand i ≤ 1) is
  sink_lawful last_one is = Unit {0}

  -- the row of a node with this role
  abbrev pub RoleLawful : ℕ → Role → Decider → List SeenWire → List SeenWire → Type 0
  RoleLawful node (a_source source) d is os = Unit {0}
  RoleLawful node (a_flow (works v)) d is os = stage_lawful (one_way_by g w node (a_flow (works v)) d) is os
  RoleLawful node (a_flow (trips order name n)) d is os = stage_lawful (one_way_by g w node (a_flow (trips order name n)) d) is os
  RoleLawful node (a_flow (plugs_in name)) d is os = stage_lawful (one_way_by g w node (a_flow (plugs_in name)) d) is os
  RoleLawful node (a_flow (buffers n p)) d is os = buffer_lawful node n p is os
  RoleLawful node (a_flow (recovers t)) d is os = stage_lawful (one_way_by g w node (a_flow (recovers t)) d) is os
      × OneToOne (RecoverLawful (w.moves node)) is os
  RoleLawful node (a_flow (obeys name)) d is os = stage_lawful (one_way_by g w node (a_flow (obeys name)) d) is os × OneToOne (ValveLawful (w.moves node)) is os
  RoleLawful node (a_flow (groups_by n f chain)) d is os = stage_lawful (one_way_by g w node (a_flow (groups_by n f chain)) d) is os
      × OneToOne (SubsLawful joining.Merge (w.moves node)) is os
  RoleLawful node (a_flow (splits_when p chain j)) d is os = stage_lawful (one_way_by g w node (a_flow (splits_when p chain j)) d) is os
      × OneToOne (SubsLawful j (w.moves node)) is os
  RoleLawful node (a_flow (splits_after p chain j)) d is os = stage_lawful (one_way_by g w node (a_flow (splits_after p chain j)) d) is os
      × OneToOne (SubsLawful j (w.moves node)) is os
  RoleLawful node (a_fan_in (merges n)) d is os = ManyToOne (MergeLawful (w.moves node)) is os
  RoleLawful node (a_fan_in (gathers n)) d is os = ManyToOne (MergeLawful (w.moves node)) is os
  RoleLawful node (a_fan_in (concats n)) d is os = ManyToOne ConcatLawful is os
  RoleLawful node (a_fan_in (interleaves n s)) d is os = ManyToOne InterleaveLawful is os
  RoleLawful node (a_fan_in merges_sorted) d is os = ManyToOne SortedLawful is os
  RoleLawful node (a_fan_in zips) d is os = ManyToOne ZipLawful is os
  RoleLawful node (a_fan_out (broadcasts n)) d is os = OneToMany BroadcastLawful is os
  RoleLawful node (a_fan_out (balances n)) d is os = OneToMany (BalanceLawful (w.moves node)) is os
  RoleLawful node (a_fan_out (partitions n f)) d is os = OneToMany (PartitionLawful (numbered w node n f)) is os
  RoleLawful node (a_fan_out unzips) d is os = OneToMany BroadcastLawful is os
  RoleLawful node (customs name) d is os = stage_lawful (one_way_by g w node (customs name) d) is os
  RoleLawful node (sinks file keeps) d is os = sink_lawful keeps is

  -- the row of a node of this kind
  abbrev pub RowLawful : ℕ → Kind → Decider → List SeenWire → List SeenWire → Type 0
  RowLawful node k d is os = RoleLawful node (role_of k) d is os

  -- every wire and every node is lawful, and each order of a valve was given by a trip
  pub record IsLawful (counts : List WireCount) (outlook : ℕ → Outlook) : Type 0 where
    pub wires : (node : ℕ) (n : Node) → slice_get g.nodes node ≡ Some n → EachWire WireLawful (ins g counts outlook node n)
    pub nodes : (node : ℕ) (n : Node) → slice_get g.nodes node ≡ Some n
        → RowLawful node n.kind n.decider (ins g counts outlook node n) (outs g counts outlook node n)
    pub valves : (node : ℕ) (n : Node) (v : List ℕ × ℕ) → slice_get g.nodes node ≡ Some n → valve_order n.kind (w.moves node) ≡ Some v
        → (trip : ℕ) × (t : Node) × (slice_get g.nodes trip ≡ Some t) × CanTrip v.0 v.1 t.kind (sent_in (ins g counts outlook trip t))
