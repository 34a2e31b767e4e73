-- A picture that rests: no node has anything to do.
-- Choice: docs/DECISIONS.md#rest-says-what-waits
use Rattle.std.specs.Prelude.{◌≡◌, ℕ, zero, suc, ◌+◌, ◌-◌, ◌<◌, ◌≤◌, nat_le, Bool, true, false, ◌⊎◌, if◌then◌else◌, List, [], ◌∷◌, ◌++◌, length, take, slice_get, Option, Some, None, is_some}
use Rattle.elem_core.specs.Tree.{Tree}
use Rattle.elem_core.specs.declared.function.MapFn.{MapFn}
use Rattle.elem_core.specs.declared.why.Decider.TheVariants.{Stop}
use Rattle.stream_model.specs.Machine.{run}
use Rattle.stream_model.specs.declared.kind.Kind.{Kind}
use Rattle.elem_core.specs.declared.why.Decider.{Decider}
use Rattle.stream_model.specs.declared.kind.Policy.TheVariants.{Backpressure}
use Rattle.stream_model.specs.Outlook.{Outlook}
use Rattle.stream_model.specs.declared.kind.Policy.{Policy}
use Rattle.stream_model.specs.declared.outcome.WireCount.{WireCount}
use Rattle.stream_model.specs.Linear.{numbering, linear, begin_work, Role, a_source, a_flow, a_fan_in, a_fan_out, works, trips, plugs_in, buffers, recovers, obeys, groups_by, splits_when, splits_after, merges, gathers, concats, interleaves, merges_sorted, zips, broadcasts, balances, partitions, unzips, customs, sinks, role_of}
use Rattle.stream_model.specs.Graph.{Graph, Node}
use Rattle.stream_model.specs.Node.{World}
use Rattle.stream_model.specs.Picks.{buffered, count_of, empty_buffer, nothing_held}
use Rattle.stream_model.specs.OneWay.{OneWay, one_way_by, is_sink}
use Rattle.stream_model.specs.View.{SeenWire, EachWire, SomeWire, total, ins, outs}

-- how the wire stands for the node at its end
abbrev pub Waits : SeenWire → Type 0
Waits v = (v.asked ≡ true) × (v.shut ≡ false)

-- either end has closed it
abbrev pub IsShut : SeenWire → Type 0
IsShut v = v.shut ≡ true

-- the wire is a lane
abbrev pub IsLane : SeenWire → Type 0
IsLane v = is_some v.lane ≡ true

-- a lane may be read so in every state
abbrev pub Idles : SeenWire → Type 0
Idles v = IsLane v ⊎ ((v.asked ≡ false) × (v.shut ≡ false))

-- how the wire stands for the node at its beginning
abbrev pub IsAsked : SeenWire → Type 0
IsAsked v = (v.asked ≡ true) × (v.shut ≡ false)

-- open, and not asked
abbrev pub IsUnasked : SeenWire → Type 0
IsUnasked v = (v.asked ≡ false) × (v.shut ≡ false)

-- it idles, or it is shut
abbrev pub IdlesOrShut : SeenWire → Type 0
IdlesOrShut v = Idles v ⊎ IsShut v

-- it waits, idles or is shut
abbrev pub WaitsIdlesOrShut : SeenWire → Type 0
WaitsIdlesOrShut v = Waits v ⊎ Idles v ⊎ IsShut v

-- the number that a fused wire has, and a lane has at least
abbrev pub IsOrLane : SeenWire → ℕ → Type 0
IsOrLane v n = (n ≤ v.sent) × (IsLane v ⊎ (v.sent ≡ n))

-- the first input that is not used up waits, and the later ones idle or are shut
abbrev pub FirstOpenWaits : List SeenWire → Type 0
FirstOpenWaits [] = ⊥
FirstOpenWaits (v ∷ vs) = (Waits v × EachWire IdlesOrShut vs) ⊎ (IsShut v × FirstOpenWaits vs)

-- an input of a zip that gave n pairs
abbrev pub ZipInput : ℕ → SeenWire → Type 0
ZipInput n v = (Waits v × (v.sent ≡ n)) ⊎ (IdlesOrShut v × IsOrLane v (n + 1))

-- every output that is not shut is asked
abbrev pub AllOpenAsked : List SeenWire → Type 0
AllOpenAsked outs = EachWire (λ o. IsShut o ⊎ IsAsked o) outs

-- the outputs of a broadcast or an unzip, whose input waits or not
abbrev pub CopiesAll : SeenWire → List SeenWire → Type 0
CopiesAll i outs = EachWire (λ o. IsShut o ⊎ (o.sent ≡ i.sent)) outs

-- each open output has at most what came, and all of it where the input is fused
abbrev pub CopiesSome : SeenWire → List SeenWire → Type 0
CopiesSome i outs = EachWire (λ o. IsShut o ⊎ ((o.sent ≤ i.sent) × (IsLane i ⊎ (o.sent ≡ i.sent)))) outs

-- ---- the rows. Where a row has several parts, one of them holds

-- a fact of the one input and the one output of a node that has just these
abbrev pub OneToOne : (SeenWire → SeenWire → Type 0) → List SeenWire → List SeenWire → Type 0
OneToOne P (i ∷ []) (o ∷ []) = P i o
OneToOne P _ _ = ⊥

-- a node with several inputs and one output
abbrev pub ManyToOne : (List SeenWire → SeenWire → Type 0) → List SeenWire → List SeenWire → Type 0
ManyToOne P is (o ∷ []) = P is o
ManyToOne P is _ = ⊥

-- a node with one input and several outputs
abbrev pub OneToMany : (SeenWire → List SeenWire → Type 0) → List SeenWire → List SeenWire → Type 0
OneToMany P (i ∷ []) os = P i os
OneToMany P _ os = ⊥

-- a stage that gives `given` of the elements that it was sent, and may hold outputs at the end of its input
abbrev pub StageRests : OneWay → SeenWire → SeenWire → Type 0
StageRests s i o =
    (IsAsked o × Waits i × (o.sent ≡ s.given (take i.sent i.list)))
    ⊎ (IsUnasked o × Idles i)
    ⊎ ((s.holds ≡ true) × IsUnasked o × IsShut i)

-- a buffer of n that holds its input back
abbrev pub BufferRests : ℕ → SeenWire → SeenWire → Type 0
BufferRests n i o =
    (IsAsked o × Waits i × (i.sent ≡ o.sent))
    ⊎ (IsUnasked o × Waits i × (i.sent < o.sent + n))
    ⊎ (IsUnasked o × Idles i × IsOrLane i (o.sent + n))
    ⊎ (IsUnasked o × IsShut i)

-- a buffer that drops: where it is asked it holds nothing
abbrev pub DroppingRests : Bool → SeenWire → SeenWire → Type 0
DroppingRests empty i o = (Waits i × (IsAsked o → empty ≡ true)) ⊎ (IsShut i × IsUnasked o)

-- an input of a merge, of which its moves took so many elements: one that is open and does not wait has one more, which waits in it
abbrev pub MergeInput : ℕ → SeenWire → Type 0
MergeInput taken v = Waits v ⊎ IsShut v ⊎ IsLane v ⊎ (Idles v × (v.sent ≡ taken + 1))

-- its inputs from number n on
abbrev pub MergeWaits : List ℕ → ℕ → List SeenWire → Type 0
MergeWaits moves n [] = Unit {0}
MergeWaits moves n (v ∷ vs) = MergeInput (count_of n moves) v × MergeWaits moves (n + 1) vs

-- the row of a merge in a picture that rests, by its moves
abbrev pub MergeRests : List ℕ → List SeenWire → SeenWire → Type 0
MergeRests moves is o =
    (IsAsked o × SomeWire Waits is × EachWire (λ i. Waits i ⊎ IsShut i) is)
    ⊎ (IsUnasked o × MergeWaits moves 0 is)

-- the row of a concat in a picture that rests
abbrev pub ConcatRests : List SeenWire → SeenWire → Type 0
ConcatRests is o = (IsAsked o × FirstOpenWaits is) ⊎ (IsUnasked o × EachWire IdlesOrShut is)

-- the input of that number waits, and the others idle or are shut, of the inputs from number n on
abbrev pub WaitsAt : ℕ → ℕ → List SeenWire → Type 0
WaitsAt p n [] = ⊥
WaitsAt p n (v ∷ vs) = ((n ≡ p) × Waits v × EachWire IdlesOrShut vs) ⊎ (IdlesOrShut v × WaitsAt p (n + 1) vs)

-- an input of an interleave: its number, how many of its elements are left, and whether it has ended
pub record InTurn : Type 0 where
  pub port : ℕ
  pub left : ℕ
  pub ended : Bool

-- the inputs from number n on, by what was sent there
abbrev pub turns_from : ℕ → List SeenWire → List InTurn
turns_from n [] = []
turns_from n (v ∷ vs) = record { port = n; left = v.sent; ended = v.shut } ∷ turns_from (n + 1) vs

-- The input at which an interleave stops once all that was sent was taken in turn: the first in turn that has none left and has not
-- ended. `left` is how many elements of its segment are to come; `fuel` is enough where it is all elements and inputs.
abbrev pub stops_at : ℕ → ℕ → ℕ → List InTurn → Option ℕ
stops_at segment zero left q = None
stops_at segment (suc fuel) left [] = None
stops_at segment (suc fuel) left (t ∷ q) =
    elim t.left as (λ _. Option ℕ) [
      | zero ↦ if t.ended then stops_at segment fuel segment q else Some t.port
      | suc n ↦ if nat_le left 1 then stops_at segment fuel segment (q ++ record t { left = n } ∷ [])
          else stops_at segment fuel (left - 1) (record t { left = n } ∷ q)
    ]

-- where the turns of an interleave stop
abbrev pub turns_stop : ℕ → List SeenWire → Option ℕ
turns_stop segment is = stops_at segment (total (λ v. v.sent + 1) is) segment (turns_from 0 is)

-- an input of that number waits where it is asked
abbrev pub TurnRests : ℕ → List SeenWire → SeenWire → Type 0
TurnRests p is o = (IsAsked o × WaitsAt p 0 is) ⊎ (IsUnasked o × EachWire IdlesOrShut is)

-- the row of an interleave in a picture that rests: where all its inputs are fused, the one that waits is that at which the turns stop
abbrev pub InterleaveRests : ℕ → List SeenWire → SeenWire → Type 0
InterleaveRests segment is o =
    (IsAsked o × ((p : ℕ) × WaitsAt p 0 is × (SomeWire IsLane is ⊎ (turns_stop segment is ≡ Some p))))
    ⊎ (IsUnasked o × EachWire IdlesOrShut is)

-- so many elements of an input wait in a merge_sorted: none where the input waits, one where it is open and does not, and one at most
-- behind its end
abbrev pub SortedInput : SeenWire → ℕ → Type 0
SortedInput v h = (Waits v × (h ≡ 0)) ⊎ ((v.asked ≡ false) × (v.shut ≡ false) × (h ≡ 1)) ⊎ ((IsShut v ⊎ IsLane v) × (h ≤ 1))

-- all that came on its two inputs went out, but for what waits
abbrev pub SortedHolds : SeenWire → SeenWire → SeenWire → Type 0
SortedHolds a b o =
    (h : ℕ) × (k : ℕ) × SortedInput a h × SortedInput b k
    × (o.sent + (h + k) ≤ a.sent + b.sent)
    × (IsLane a ⊎ IsLane b ⊎ (a.sent + b.sent ≡ o.sent + (h + k)))

-- an input waits where it is asked
abbrev pub SortedStands : List SeenWire → SeenWire → Type 0
SortedStands is o = (IsAsked o × SomeWire Waits is) ⊎ (IsUnasked o × EachWire WaitsIdlesOrShut is)

-- the row of a merge_sorted in a picture that rests
abbrev pub SortedRests : List SeenWire → SeenWire → Type 0
SortedRests (a ∷ b ∷ []) o = SortedStands (a ∷ b ∷ []) o × SortedHolds a b o
SortedRests _ o = ⊥

-- the row of a zip in a picture that rests
abbrev pub ZipRests : List SeenWire → SeenWire → Type 0
ZipRests is o =
    EachWire (ZipInput o.sent) is
    × ((IsAsked o × SomeWire (λ i. Waits i × (i.sent ≡ o.sent)) is) ⊎ IsUnasked o)

-- the row of a broadcast or an unzip in a picture that rests
abbrev pub BroadcastRests : SeenWire → List SeenWire → Type 0
BroadcastRests i os =
    (AllOpenAsked os × Waits i × CopiesAll i os)
    ⊎ (SomeWire IsUnasked os × Idles i × CopiesSome i os)

-- the row of a balance in a picture that rests
abbrev pub BalanceRests : SeenWire → List SeenWire → Type 0
BalanceRests i os =
    (SomeWire IsAsked os × Waits i)
    ⊎ (SomeWire IsUnasked os × EachWire (λ o. IsShut o ⊎ IsUnasked o) os × WaitsIdlesOrShut i)

-- how many elements of a list a partition of n gives at output i
abbrev pub numbered : World → ℕ → ℕ → MapFn → ℕ → List Tree → ℕ
numbered w node n f i l = length (run (linear w.book (numbering n f i)) (begin_work node Stop (numbering n f i)) l).gave

-- an output from number n on is open, is not asked, and was sent one element less than came for it; of a lane's elements some may not
-- have come
abbrev pub SomeOwed : (ℕ → List Tree → ℕ) → SeenWire → ℕ → List SeenWire → Type 0
SomeOwed given i n [] = ⊥
SomeOwed given i n (o ∷ os) = (IsUnasked o × (IsLane i ⊎ (given n (take i.sent i.list) ≡ o.sent + 1))) ⊎ SomeOwed given i (n + 1) os

-- Choice: docs/DECISIONS.md#partition-owes-by-counts
-- The row of a partition in a picture that rests: it waits; or it holds an element for an output that is not asked; or no output is asked.
-- `given n l` is how many elements of l have the number n.
abbrev pub PartitionRests : (ℕ → List Tree → ℕ) → SeenWire → List SeenWire → Type 0
PartitionRests given i os =
    Waits i
    ⊎ (IdlesOrShut i × (SomeOwed given i 0 os ⊎ (SomeWire IsUnasked os × EachWire (λ o. IsShut o ⊎ IsUnasked o) os)))

-- a sink waits for its input
abbrev pub SinkRests : List SeenWire → Type 0
SinkRests (i ∷ []) = Waits i
SinkRests _ = ⊥

-- a source is not asked
abbrev pub SourceRests : List SeenWire → Type 0
SourceRests (o ∷ []) = IsUnasked o
SourceRests _ = ⊥

module _ (g : Graph) (w : World) where
  -- a stage with one input and one output, or a sink
  abbrev pub stage_rests : Option OneWay → List SeenWire → List SeenWire → Type 0
  stage_rests None is os = SinkRests is
  stage_rests (Some s) is os = OneToOne (StageRests s) is os

  -- a custom stage that tells a list; of one that tells none nothing is asked
  abbrev pub custom_rests : Option OneWay → List SeenWire → List SeenWire → Type 0
  custom_rests None is os = Unit {0}
  custom_rests (Some s) is os = OneToOne (StageRests s) is os

  -- a buffer by its policy
  abbrev pub dropping_rests : ℕ → ℕ → Policy → List SeenWire → List SeenWire → Type 0
  dropping_rests node n Backpressure is os = OneToOne (BufferRests n) is os
  dropping_rests node n p is os = OneToOne (λ i o. DroppingRests (nothing_held (buffered p n (w.moves node) i.list empty_buffer).held) i o) is os

  -- the row of node `node`, which has this role
  abbrev pub RoleRests : ℕ → Role → Decider → List SeenWire → List SeenWire → Type 0
  RoleRests node (a_source source) d is os = SourceRests os
  RoleRests node (a_flow (works v)) d is os = stage_rests (one_way_by g w node (a_flow (works v)) d) is os
  RoleRests node (a_flow (trips order name n)) d is os = stage_rests (one_way_by g w node (a_flow (trips order name n)) d) is os
  RoleRests node (a_flow (plugs_in name)) d is os = stage_rests (one_way_by g w node (a_flow (plugs_in name)) d) is os
  RoleRests node (a_flow (buffers n p)) d is os = dropping_rests node n p is os
  RoleRests node (a_flow (recovers t)) d is os = stage_rests (one_way_by g w node (a_flow (recovers t)) d) is os
  RoleRests node (a_flow (obeys name)) d is os = stage_rests (one_way_by g w node (a_flow (obeys name)) d) is os
  RoleRests node (a_flow (groups_by n f chain)) d is os = stage_rests (one_way_by g w node (a_flow (groups_by n f chain)) d) is os
  RoleRests node (a_flow (splits_when p chain j)) d is os = stage_rests (one_way_by g w node (a_flow (splits_when p chain j)) d) is os
  RoleRests node (a_flow (splits_after p chain j)) d is os = stage_rests (one_way_by g w node (a_flow (splits_after p chain j)) d) is os
  RoleRests node (a_fan_in (merges n)) d is os = ManyToOne (MergeRests (w.moves node)) is os
  RoleRests node (a_fan_in (gathers n)) d is os = ManyToOne (MergeRests (w.moves node)) is os
  RoleRests node (a_fan_in (concats n)) d is os = ManyToOne ConcatRests is os
  RoleRests node (a_fan_in (interleaves n s)) d is os = ManyToOne (InterleaveRests s) is os
  RoleRests node (a_fan_in merges_sorted) d is os = ManyToOne SortedRests is os
  RoleRests node (a_fan_in zips) d is os = ManyToOne ZipRests is os
  RoleRests node (a_fan_out (broadcasts n)) d is os = OneToMany BroadcastRests is os
  RoleRests node (a_fan_out (balances n)) d is os = OneToMany BalanceRests is os
  RoleRests node (a_fan_out (partitions n f)) d is os = OneToMany (PartitionRests (numbered w node n f)) is os
  RoleRests node (a_fan_out unzips) d is os = OneToMany BroadcastRests is os
  RoleRests node (customs name) d is os = custom_rests (one_way_by g w node (customs name) d) is os
  RoleRests node (sinks file keeps) d is os = SinkRests is

  -- the row of node `node`, which is of this kind
  abbrev pub RowRests : ℕ → Kind → Decider → List SeenWire → List SeenWire → Type 0
  RowRests node k d is os = RoleRests node (role_of k) d is os

  -- each node has all its wires shut, or meets its row
  abbrev pub Rests : List WireCount → (ℕ → Outlook) → Type 0
  Rests counts outlook =
      (node : ℕ) (n : Node) → slice_get g.nodes node ≡ Some n
      → (EachWire IsShut (ins g counts outlook node n) × EachWire IsShut (outs g counts outlook node n))
      ⊎ RowRests node n.kind n.decider (ins g counts outlook node n) (outs g counts outlook node n)

  -- a sink's input is shut exactly where the sink has ended
  abbrev pub SinksMatch : List WireCount → (ℕ → Outlook) → (ℕ → Bool) → Type 0
  SinksMatch counts outlook ended =
      (node : ℕ) (n : Node) → slice_get g.nodes node ≡ Some n → is_sink n.kind ≡ true
      → EachWire (λ i. i.shut ≡ ended node) (ins g counts outlook node n)
