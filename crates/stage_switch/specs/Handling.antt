-- A valve and a trip as the interpreter calls them: what each knows of its ports, the law of its histories and of its seat,
-- and what of it outlives want of memory.
use Rattle.std.specs.Prelude.{◌≡◌, ◌≢◌, ℕ, List, [], ◌∷◌}
use Rattle.elem_core.specs.Prefix.{IsPrefix}
use Rattle.elem_core.specs.Items.{elements}
use Rattle.elem_core.specs.declared.item.Item.{Item}
use Rattle.elem_core.specs.declared.why.Decider.{Decider}
use Rattle.stage_switch.specs.declared.order.Order.{Order}
use Rattle.stage_switch.specs.declared.order.Order.TheVariants.{Shutdown, Abort}
use Rattle.stream_model.specs.declared.kind.Kind.{Kind}
use Rattle.stream_model.specs.declared.kind.Kind.TheVariants.{TripShutdown, TripAbort}
use Rattle.port_core.specs.View.{View, in_at, out_at}
use Rattle.stream_model.specs.Linear.{Book, passing, linear, begin_work}
use Rattle.stage_core.specs.Law.{Law}
use Rattle.stage_core.specs.declared.phase.Phase.TheVariants.{New}
use Rattle.stage_core.specs.PortsLaws.{InPortsLaw}
use Rattle.stage_switch.specs.Valves.{ValveKeeps}
use Rattle.port_core.specs.Picks.{IsMove, next_move, plan_of}
use Rattle.stage_switch.specs.States.{Valve, SeatBy, Unmoved, StopsWell, OnlyElements, MayCount, valve_port_state, valve_held, Trip, IsTrip, trip_port_state, trip_held}

-- ---- a valve

-- it was not started: nothing passed
pub record ValveFresh (l : Valve) (v : View) : Type 0 where
  pub phase : l.phase ≡ New
  pub passed : l.passed ≡ 0
  pub valve : SeatBy l.left l.switch l.seat l.moves
  pub ports : valve_port_state l v

-- it was started, and its port state holds
pub record ValvePortState (l : Valve) (v : View) : Type 0 where
  pub started : l.phase ≢ New
  pub ports : valve_port_state l v

-- what one gave that has moves to make: elements alone, which it counted, and no more than its moves count
pub record FewGiven (l : Valve) (given : List Item) : Type 0 where
  pub only : OnlyElements given
  pub count : l.passed ≡ elements given
  pub upto : MayCount l.left l.passed

-- The law of a valve by what it did, which its moves say; its node, its switch and what it follows stay, and where it makes its own choices
-- its seat knows an order exactly where its moves show it.
pub record ValveAs (first now : Valve) (v : View) (took gave : List (List Item)) : Type 0 where
  pub by : InPortsLaw (ValveKeeps first.node (valve_held now)) v took gave
  pub node : now.node ≡ first.node
  pub switch : now.switch ≡ first.switch
  pub plan : plan_of now.moves now.left ≡ plan_of first.moves first.left
  pub valve : SeatBy now.left now.switch now.seat now.moves
  pub unmoved : Unmoved now.phase now.moves
  pub stops : StopsWell now
  pub few : IsMove (next_move now.left) → FewGiven now by.given

-- what of a valve outlives want of memory: its node, its switch, its moves, what it follows, and what its seat tells of its moves
pub record KeepsValve (old new : Valve) : Type 0 where
  pub node : new.node ≡ old.node
  pub switch : new.switch ≡ old.switch
  pub moves : IsPrefix old.moves new.moves
  pub plan : plan_of new.moves new.left ≡ plan_of old.moves old.left
  pub valve : SeatBy old.left old.switch old.seat old.moves → SeatBy new.left new.switch new.seat new.moves

-- ---- a trip

-- it was not started: it took nothing
pub record TripFresh (l : Trip) (v : View) : Type 0 where
  pub phase : l.phase ≡ New
  pub taken : l.taken ≡ 0
  pub trip : IsTrip l.order l.count l.taken l.switch l.seat
  pub ports : trip_port_state l v

-- it was started
pub record TripPortState (l : Trip) (v : View) : Type 0 where
  pub started : l.phase ≢ New
  pub ports : trip_port_state l v

-- The law of a trip, by any book of plugs, since it asks none, and any decider, since it never fails: it passes on what comes. Its node, its order, its count and its
-- switch stay, and its seat gave its order only where so many elements came, and knows one from then on.
pub record TripAs (first now : Trip) (v : View) (took gave : List (List Item)) : Type 0 where
  pub took_list : List Item
  pub gave_list : List Item
  pub took_is : took ≡ took_list ∷ []
  pub gave_is : gave ≡ gave_list ∷ []
  pub law : (book : Book) (d : Decider) → Law (linear book passing) (begin_work first.node d passing) (trip_held d now) (in_at v 0)
      (out_at v 0) took_list gave_list
  pub node : now.node ≡ first.node
  pub order : now.order ≡ first.order
  pub count : now.count ≡ first.count
  pub switch : now.switch ≡ first.switch
  pub taken : now.taken ≡ elements took_list
  pub trip : IsTrip now.order now.count now.taken now.switch now.seat

-- what of a trip outlives want of memory: its node, its order, its count, its switch, and that its seat gave no other order
-- and gave none too early
pub record KeepsTrip (old new : Trip) : Type 0 where
  pub node : new.node ≡ old.node
  pub order : new.order ≡ old.order
  pub count : new.count ≡ old.count
  pub switch : new.switch ≡ old.switch
  pub trip : IsTrip old.order old.count old.taken old.switch old.seat → IsTrip new.order new.count new.taken new.switch new.seat

-- the trip as a kind, by its order
abbrev pub trip_kind : Order → List ℕ → ℕ → Kind
trip_kind Shutdown name n = TripShutdown name n
trip_kind Abort name n = TripAbort name n
