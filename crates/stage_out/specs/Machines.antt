-- The logic of a broadcast, an unzip or a partition: its port state, its outputs as machines over its input, what a call owes, and
-- how a new one begins.
use Rattle.std.specs.Prelude.{◌≡◌, ◌⊎◌, ℕ, zero, suc, ◌+◌, ◌≤◌, Bool, true, false, List, [], ◌∷◌, length, ⊤}
use Rattle.elem_core.specs.Tree.{Tree}
use Rattle.elem_core.specs.declared.function.MapFn.{MapFn}
use Rattle.elem_core.specs.declared.why.Decider.{Decider}
use Rattle.elem_core.specs.declared.why.Decider.TheVariants.{Stop}
use Rattle.port_core.specs.declared.act.Act.{Act}
use Rattle.port_core.specs.View.{View, unpulled_outs}
use Rattle.port_core.specs.Asking.{PullsStand}
use Rattle.port_core.specs.Call.{Call}
use Rattle.stream_model.specs.declared.kind.Kind.{Kind}
use Rattle.stream_model.specs.declared.kind.Kind.TheVariants.{Broadcast, BroadcastHub, Partition, Unzip}
use Rattle.stream_model.specs.declared.kind.TheConstants.{MAX_FAN}
use Rattle.stream_model.specs.Linear.{Book, Stage, passing, numbering, linear, begin_work}
use Rattle.stream_model.specs.Graph.{Graph}
use Rattle.stream_model.specs.Machine.{Stands}
use Rattle.stream_model.specs.Node.{World, head_of, node_outlook}
use Rattle.stream_model.specs.Outlook.{Outlook, End, Agrees}
use Rattle.stream_model.specs.View as picture
use Rattle.stream_model.specs.View.{SomeWire}
use Rattle.stream_model.specs.Rests.{Waits, IsUnasked, IdlesOrShut, OneToMany, BroadcastRests, RowRests}
use Rattle.stage_core.specs.Held.{Held, owing, shut}
use Rattle.stage_core.specs.Outs.{Outlet, TurnsAt, owe}
use Rattle.stage_core.specs.Seats.{room_for}
use Rattle.stage_core.specs.declared.outs.OutputState.{OutputState}
use Rattle.stage_out.specs.declared.machines.OutMachines.{OutMachines}
use Rattle.stage_out.specs.declared.machines.OutMachines.TheVariants.{Copies, Deals}
use Rattle.stage_out.specs.Copies.{copying, nothing_owed, owed_by}
use Rattle.stage_out.specs.Copies as copies
use Rattle.stage_out.specs.CopyStates.{part_by}
use Rattle.stage_out.specs.CopyStates as copy
use Rattle.stage_out.specs.PartitionStates.{dealers, dues, then_of}
use Rattle.stage_out.specs.PartitionStates as part

-- its ports are not all closed
abbrev pub is_live : OutMachines → Bool
is_live (Copies l) = l.live
is_live (Deals l) = l.live

-- the most actions that one of its calls appends
abbrev pub room_of : OutMachines → ℕ
room_of (Copies l) = room_for (length l.outs)
room_of (Deals l) = room_for (length l.outs)

-- what it knows of its ports
abbrev pub port_state : OutMachines → View → Type 0
port_state (Copies l) = copy.port_state l
port_state (Deals l) = part.port_state l

-- what a handler owes to the law, at each output
abbrev pub Turned : Call → OutMachines → List Act → OutMachines → Type 0
Turned call (Copies old) acts (Copies new) = copy.Turned call old acts new
Turned call (Deals old) acts (Deals new) = part.Turned call old acts new
Turned call _ acts _ = ⊥

-- ---- its outputs

-- the stage of a machine that keeps nothing
abbrev pub no_stage : Stage
no_stage = record { node = 0; decider = Stop; taken = 0; work = passing }

-- what an output owes, by whether the stage is open, where its machine keeps nothing
abbrev owed_at : Bool → OutputState → Held Stage
owed_at true w = owed_by no_stage w
owed_at false w = shut

-- the outputs of a broadcast or an unzip from number n on: the machine of each, how it starts and what it owes
abbrev pub copiers : (ℕ → Tree → Tree) → Bool → ℕ → List OutputState → List (Outlet Stage)
copiers part live n [] = []
copiers part live n (w ∷ ws) = record { machine = copying (part n); start = nothing_owed no_stage; held = owed_at live w } ∷ copiers part live (n + 1) ws

-- the outputs of a logic
abbrev pub outlets : Book → OutMachines → List (Outlet Stage)
outlets book (Copies l) = copiers (part_by l.halves) l.live 0 l.outs
outlets book (Deals l) = dealers book l (then_of l.live l) 0 l.outs

-- what each owes
abbrev pub owed : OutMachines → List (Held Stage)
owed (Copies l) = copies.owed l.live no_stage l.outs
owed (Deals l) = dues (then_of l.live l) 0 l.outs

-- a partition waits, or some output is open and not asked
abbrev pub DealsRest : picture.SeenWire → List picture.SeenWire → Type 0
DealsRest i os = Waits i ⊎ (SomeWire IsUnasked os × IdlesOrShut i)

-- how it rests, over its inputs and outputs
abbrev pub rests_as : OutMachines → List picture.SeenWire → List picture.SeenWire → Type 0
rests_as (Copies l) = OneToMany BroadcastRests
rests_as (Deals l) = OneToMany DealsRest

-- each output owes what it starts with, and has given nothing
abbrev pub EachStarts : List (Outlet Stage) → Type 0
EachStarts [] = ⊤
EachStarts (o ∷ os) = ((o.held ≡ owing o.start) × (o.start.gave ≡ [])) × EachStarts os

-- nothing came yet
pub record IsNew (l : OutMachines) : Type 0 where
  pub live : is_live l ≡ true
  pub starts : (book : Book) → EachStarts (outlets book l)

-- a turn at each output: its machine stays, as its port state does, and no action cancels an input that an earlier one asked
pub record TurnsEach (call : Call) (old : OutMachines) (acts : List Act) (new : OutMachines) : Type 0 where
  pub turns : (book : Book) → TurnsAt 0 call (outlets book old) acts (owed new)
  pub same : (book : Book) → owe (outlets book old) (owed new) ≡ outlets book new
  pub outputs : length (owed new) ≡ length (owed old)
  pub rests : (is os : List picture.SeenWire) → rests_as new is os → rests_as old is os
  pub stands : PullsStand acts

-- ---- a new logic

-- the kinds that these logics are, with their sizes
abbrev pub IsMachines : Kind → Type 0
IsMachines (Broadcast n) = (2 ≤ n) × (n ≤ MAX_FAN)
IsMachines (BroadcastHub s n) = (1 ≤ n) × (n ≤ MAX_FAN)
IsMachines (Partition n f) = (2 ≤ n) × (n ≤ MAX_FAN)
IsMachines Unzip = ⊤
IsMachines _ = ⊥

-- The outputs of a new broadcast or unzip from number j on: each is a machine that starts as the model's, and gives the element itself or a
-- half of it.
abbrev pub copy_starts : (ℕ → Tree → Tree) → ℕ → ℕ → List (Outlet Stage)
copy_starts part j zero = []
copy_starts part j (suc k) = record { machine = copying (part j); start = nothing_owed no_stage; held = owing (nothing_owed no_stage) }
    ∷ copy_starts part (j + 1) k

-- the outputs of a partition from number j on, each at its start
abbrev pub number_starts : Book → ℕ → ℕ → MapFn → ℕ → ℕ → List (Outlet Stage)
number_starts book node n f j zero = []
number_starts book node n f j (suc k) =
    record { machine = linear book (numbering n f j); start = begin_work node Stop (numbering n f j); held = owing (begin_work node Stop (numbering n f j)) }
    ∷ number_starts book node n f (j + 1) k

-- the outputs of a kind, each at its start
abbrev pub starts_of : Book → ℕ → Kind → List (Outlet Stage)
starts_of book node (Broadcast n) = copy_starts (part_by false) 0 n
starts_of book node (BroadcastHub s n) = copy_starts (part_by false) 0 n
starts_of book node Unzip = copy_starts (part_by true) 0 2
starts_of book node (Partition n f) = number_starts book node n f 0 n
starts_of book node _ = []

-- which logic runs this kind
abbrev pub IsOfKind : Kind → OutMachines → Type 0
IsOfKind (Broadcast n) (Copies l) = ⊤
IsOfKind (BroadcastHub s n) (Copies l) = ⊤
IsOfKind Unzip (Copies l) = ⊤
IsOfKind (Partition n f) (Deals l) = ⊤
IsOfKind _ _ = ⊥

-- both run kinds that are run alike
abbrev pub IsAlike : OutMachines → OutMachines → Type 0
IsAlike (Copies f) (Copies l) = ⊤
IsAlike (Deals f) (Deals l) = ⊤
IsAlike _ _ = ⊥

-- how many outputs a node of this kind has
abbrev pub outputs_of : Kind → ℕ
outputs_of (Broadcast n) = n
outputs_of (BroadcastHub s n) = n
outputs_of Unzip = 2
outputs_of (Partition n f) = n
outputs_of _ = 0

-- the logic that `new` makes
abbrev pub IsMade : ℕ → Kind → OutMachines → Type 0
IsMade node (Broadcast n) new = new ≡ Copies (copy.begun n false)
IsMade node (BroadcastHub s n) new = new ≡ Copies (copy.begun n false)
IsMade node Unzip new = new ≡ Copies (copy.begun 2 true)
IsMade node (Partition n f) new = new ≡ Deals (part.begun node n f)
IsMade node _ new = ⊥

-- what each machine from number n on may give agrees with the outlook of its output
abbrev pub EachAgrees : ℕ → (ℕ → List Outlook → Outlook) → List (Outlet Stage) → Type 0
EachAgrees n f [] = ⊤
EachAgrees n f (o ∷ os) = ((is : List Outlook) (l : List Tree) (e : End) (g : List Tree) (h : End) → Agrees (head_of is) l e → Stands o.machine o.start l e g h
    → Agrees (f n is) g h) × EachAgrees (n + 1) f os

-- the row of a broadcast or an unzip; that of a partition says more than these rests alone
abbrev pub CopyRow : Graph → World → ℕ → Kind → Decider → List picture.SeenWire → List picture.SeenWire → Type 0
CopyRow g w node (Partition n f) d is os = ⊤
CopyRow g w node kind d is os = RowRests g w node kind d is os

-- A new logic of node `node`, of this kind: it knows that nobody asks, so that it may be started; its outputs are those of its
-- kind, each at its start, and what they may give agrees with the outlooks of the node's; and a broadcast or an unzip rests as its
-- kind does.
pub record Begins (node : ℕ) (kind : Kind) (new : OutMachines) : Type 0 where
  pub live : is_live new ≡ true
  pub of_kind : IsOfKind kind new
  pub ready : port_state new (unpulled_outs (outputs_of kind))
  pub outputs : (book : Book) → outlets book new ≡ starts_of book node kind
  pub agrees : (g : Graph) (w : World) (d : Decider) → EachAgrees 0 (λ j is. node_outlook g w node kind d is j) (outlets w.book new)
  pub fresh : IsNew new
  pub rests : (g : Graph) (w : World) (d : Decider) (is os : List picture.SeenWire) → rests_as new is os → CopyRow g w node kind d is os
