-- A stage with state as the interpreter calls it, whatever its kind: what it knows of its ports, and the law of its output.
use Rattle.std.specs.Prelude.{ℕ, List}
use Rattle.elem_core.specs.declared.item.Item.{Item}
use Rattle.elem_core.specs.declared.why.Decider.{Decider}
use Rattle.port_core.specs.View.{View, unpulled_ports}
use Rattle.stream_model.specs.declared.kind.Kind.{Kind}
use Rattle.stage_dropping.specs.Droppings.{DropFresh, DropPortState, DropsAs}
use Rattle.stage_dropping.specs.Recoverings.{RecoverFresh, RecoverPortState, RecoversAs}
use Rattle.stage_switch.specs.Handling.{ValveFresh, ValvePortState, ValveAs, TripFresh, TripPortState, TripAs}
use Rattle.stage_state.specs.MachineNodes.{MachineFresh, MachinePortState, MachineLaw}
use Rattle.stage_state.specs.declared.logic.StateLogic.{StateLogic}
use Rattle.stage_state.specs.declared.logic.StateLogic.TheVariants.{Machine, Dropping, Recovering, Obeying, Tripping}
use Rattle.stage_state.specs.Logics.{BeginsAs}

-- it was not started, and its port state holds
abbrev pub StateFresh : StateLogic → View → Type 0
StateFresh (Machine l) v = MachineFresh l v
StateFresh (Dropping l) v = DropFresh l v
StateFresh (Recovering l) v = RecoverFresh l v
StateFresh (Obeying l) v = ValveFresh l v
StateFresh (Tripping l) v = TripFresh l v

-- it was started, and its port state holds
abbrev pub StatePortState : StateLogic → View → Type 0
StatePortState (Machine l) v = MachinePortState l v
StatePortState (Dropping l) v = DropPortState l v
StatePortState (Recovering l) v = RecoverPortState l v
StatePortState (Obeying l) v = ValvePortState l v
StatePortState (Tripping l) v = TripPortState l v

-- the law of its histories, by the stage as it was at first and as it is now; it stays of its kind
abbrev pub StateLaw : StateLogic → StateLogic → View → List (List Item) → List (List Item) → Type 0
StateLaw (Machine first) (Machine l) v took gave = MachineLaw first l v took gave
StateLaw (Dropping first) (Dropping l) v took gave = DropsAs first l v took gave
StateLaw (Recovering first) (Recovering l) v took gave = RecoversAs first l v took gave
StateLaw (Obeying first) (Obeying l) v took gave = ValveAs first l v took gave
StateLaw (Tripping first) (Tripping l) v took gave = TripAs first l v took gave
StateLaw _ _ v took gave = ⊥

-- a new stage of node `node` is of its kind, and may be started
pub record Begins (node : ℕ) (kind : Kind) (d : Decider) (new : StateLogic) : Type 0 where
  pub as_kind : BeginsAs kind node d new
  pub fresh : StateFresh new unpulled_ports
