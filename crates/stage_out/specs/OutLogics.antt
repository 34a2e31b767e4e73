-- The logic of a stage with several outputs, by its kind: its port state, what a call owes, the law of its histories, and how a new
-- one begins.
use Rattle.std.specs.Prelude.{◌≡◌, ℕ, ◌≤◌, Bool, List, length, None, Some, ⊤}
use Rattle.elem_core.specs.declared.item.Item.{Item}
use Rattle.port_core.specs.declared.act.Act.{Act}
use Rattle.port_core.specs.View.{View, unpulled_outs}
use Rattle.port_core.specs.Call.{Call}
use Rattle.stream_model.specs.declared.kind.Kind.{Kind}
use Rattle.stream_model.specs.declared.kind.Kind.TheVariants.{Balance}
use Rattle.stream_model.specs.declared.kind.TheConstants.{MAX_FAN}
use Rattle.stage_core.specs.Seats.{room_for}
use Rattle.stage_out.specs.Outs.{SomeAsked}
use Rattle.stage_out.specs.Balancings.{BalanceFresh, BalancesAs}
use Rattle.stage_out.specs.Balancings as balance
use Rattle.stage_out.specs.declared.logic.OutLogic.{OutLogic}
use Rattle.stage_out.specs.declared.logic.OutLogic.TheVariants.{Machines, Balances}
use Rattle.stage_out.specs.Machines.{IsMachines}
use Rattle.stage_out.specs.Machines as machines
use Rattle.stage_out.specs.MachineNodes.{MachinesFresh, MachinesLaw}

-- its ports are not all closed
abbrev pub is_live : OutLogic → Bool
is_live (Machines l) = machines.is_live l
is_live (Balances l) = l.core.live

-- the most actions that one of its calls appends
abbrev pub room_of : OutLogic → ℕ
room_of (Machines l) = machines.room_of l
room_of (Balances l) = room_for (length l.core.outs)

-- what it knows of its ports
abbrev pub port_state : OutLogic → View → Type 0
port_state (Machines l) = machines.port_state l
port_state (Balances l) = balance.port_state l

-- what it knows of them whenever it has just asked: of one that chooses freely, that some output asks
abbrev pub OutAsking : OutLogic → View → Type 0
OutAsking (Machines l) v = ⊤
OutAsking (Balances l) v = l.log.left ≡ None → SomeAsked v

-- what a handler owes; the kind stays
abbrev pub Turned : Call → OutLogic → List Act → OutLogic → Type 0
Turned call (Machines old) acts (Machines new) = machines.Turned call old acts new
Turned call (Balances old) acts (Balances new) = balance.Turned call old acts new
Turned call _ acts _ = ⊥

-- of a balance: an output that asks while nothing waits is served behind those that asked before; of any other stage nothing is asked
abbrev pub QueuesLast : ℕ → OutLogic → OutLogic → Type 0
QueuesLast port (Balances old) (Balances new) = balance.LastInLine port old new
QueuesLast port _ _ = ⊤

-- of a balance: an element goes to the output that is chosen for it, which is noted; of any other stage nothing is asked
abbrev pub ServesFirst : OutLogic → OutLogic → Type 0
ServesFirst (Balances old) (Balances new) = balance.FirstServed old new
ServesFirst _ _ = ⊤

-- ---- over its histories

-- what one that was not started knows of its ports
abbrev pub OutFresh : OutLogic → View → Type 0
OutFresh (Machines l) v = MachinesFresh l v
OutFresh (Balances l) v = BalanceFresh l v

-- the law of its histories, by the stage as it was handed in and as it is now
abbrev pub OutLaw : OutLogic → OutLogic → View → List (List Item) → List (List Item) → Type 0
OutLaw (Machines first) (Machines now) v took gave = MachinesLaw first now v took gave
OutLaw (Balances first) (Balances now) v took gave = BalancesAs first now v took gave
OutLaw _ _ v took gave = ⊥

-- ---- a new logic

-- the kinds that these logics are, with their sizes
abbrev pub IsOut : Kind → Type 0
IsOut (Balance n) = (2 ≤ n) × (n ≤ MAX_FAN)
IsOut kind = IsMachines kind

-- how many outputs a node of this kind has
abbrev pub outputs_of : Kind → ℕ
outputs_of (Balance n) = n
outputs_of kind = machines.outputs_of kind

-- a new balance of this kind
abbrev pub BeginsBalance : Kind → balance.Balancing → Type 0
BeginsBalance (Balance n) l = balance.Begins n l
BeginsBalance kind l = ⊥

-- it begins as the stages of its kind do
abbrev pub BeginsAs : ℕ → Kind → OutLogic → Type 0
BeginsAs node kind (Machines l) = IsMachines kind × machines.Begins node kind l
BeginsAs node kind (Balances l) = BeginsBalance kind l

-- A new logic of node `node`, of this kind: nothing came yet, and it knows that nobody asks, so that it may be started; and
-- it begins as its kind does.
pub record Begins (node : ℕ) (kind : Kind) (new : OutLogic) : Type 0 where
  pub fresh : OutFresh new (unpulled_outs (outputs_of kind))
  pub as_kind : BeginsAs node kind new

-- it is a new balance, and each of these moves is one of its outputs
abbrev pub IsNewBalance : ℕ → OutLogic → Type 0
IsNewBalance n (Machines l) = ⊥
IsNewBalance n (Balances l) = balance.Begins n l

-- what may be handed to follow
pub record OutMayFollow (moves : List ℕ) (l : OutLogic) : Type 0 where
  pub outputs : ℕ
  pub fan : (2 ≤ outputs) × (outputs ≤ MAX_FAN)
  pub begins : IsNewBalance outputs l
  pub named : balance.NamesOutputs outputs (Some moves)
