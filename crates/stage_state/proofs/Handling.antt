-- Each call of a stage with state keeps the law of its histories, whatever its kind.
use Rattle.std.specs.Prelude.{⊤, Result, Ok, Err, OnOk}
use Rattle.std.proofs.Common.{◌≡◌, ◌≢◌, ℕ, List, [], ◌++◌, refl, sym, subst}
use Rattle.elem_core.specs.Prefix.{IsPrefix}
use Rattle.elem_core.specs.declared.item.Item.{Item}
use Rattle.port_core.specs.declared.act.Act.{Act}
use Rattle.port_core.specs.View.{View}
use Rattle.port_core.specs.Call.{Call, starts, CallAllowed, Meets, Obeys}
use Rattle.port_core.specs.View as port
use Rattle.port_core.specs.Call as port_call
use Rattle.stage_core.specs.Histories as histories
use Rattle.stage_core.specs.Handling.{Starts, Handles}
use Rattle.stage_core.proofs.OnOks.{on_ok_two}
use Rattle.stage_core.proofs.OneOnes.{at_first, first_port}
use Rattle.stage_core.specs.declared.phase.Phase.TheVariants.{New, Open}
use Rattle.stage_dropping.specs.Droppings as dropping
use Rattle.stage_dropping.specs.Droppings.{DropFresh, DropPortState, DropsAs}
use Rattle.stage_dropping.proofs.DropNodes as drops
use Rattle.stage_dropping.specs.Recoverings as recover
use Rattle.stage_dropping.specs.Recoverings.{RecoverFresh, RecoverPortState, RecoversAs}
use Rattle.stage_dropping.proofs.RecoverNodes as recovers
use Rattle.stage_switch.specs.States as switch
use Rattle.stage_switch.specs.Handling.{ValvePortState, ValveAs, TripPortState, TripAs}
use Rattle.stage_switch.proofs.Handling as switches
use Rattle.stage_switch.proofs.Rows as switch_rows
use Rattle.stage_state.specs.States as machine
use Rattle.stage_state.specs.MachineNodes.{MachinePortState, MachineLaw}
use Rattle.stage_state.specs.declared.logic.StateLogic.{StateLogic}
use Rattle.stage_state.specs.declared.logic.StateLogic.TheVariants.{Machine, Dropping, Recovering, Obeying, Tripping}
use Rattle.stage_state.specs.Handling.{StateFresh, StatePortState, StateLaw}
use Rattle.stage_state.specs.Logics.{phase_of, port_state, Turned}
use Rattle.stage_state.specs.Moves.{state_moves}
use Rattle.stage_state.proofs.MachineNodes as machines
use Rattle.stage_state.proofs.Rows as rows

-- ---- where a call may come, a stage that was started is open

pub called_open : (l : StateLogic) (call : Call) (v : View) → call ≢ starts → CallAllowed call v → StatePortState l v → phase_of l ≡ Open
called_open (Machine l) call v s h r = rows.called_open l call v r.started s h r.ports
called_open (Dropping l) call v s h r = drops.called_open l call v r.started h r.ports
called_open (Recovering l) call v s h r = recovers.called_open l call v r.started h r.ports
called_open (Obeying l) call v s h r = switch_rows.called_valve l call v s h r
called_open (Tripping l) call v s h r = switch_rows.called_trip l call v s h r

-- ---- a handler's law is that of its kind

machine_handles : (call : Call) (old new : machine.Logic) (acts : List Act) → Handles MachinePortState MachineLaw call old new acts → Handles StatePortState StateLaw call (Machine old) (Machine new) acts
machine_handles call old new acts h = record {
  obeys = record { allowed = h.obeys.allowed; ports = h.obeys.ports };
  stands = h.stands;
  keeps = λ first v took gave may r law. by_first first v took gave may r law;
}
  where
    by_first : (first : StateLogic) (v : View) (took gave : List (List Item)) → CallAllowed call v → MachinePortState old v → StateLaw first (Machine old) v took gave
        → StateLaw first (Machine new) (port.acted_all (port_call.seen call v) acts) (histories.brought_by call took) (histories.given_all acts gave)
    by_first (Machine f) v took gave may r law = h.keeps f v took gave may r law
    by_first (Dropping f) v took gave may r law = absurd law
    by_first (Recovering f) v took gave may r law = absurd law
    by_first (Obeying f) v took gave may r law = absurd law
    by_first (Tripping f) v took gave may r law = absurd law

dropping_handles : (call : Call) (old new : dropping.Dropping) (acts : List Act) → Handles DropPortState DropsAs call old new acts → Handles StatePortState StateLaw call (Dropping old) (Dropping new) acts
dropping_handles call old new acts h = record {
  obeys = record { allowed = h.obeys.allowed; ports = h.obeys.ports };
  stands = h.stands;
  keeps = λ first v took gave may r law. by_first first v took gave may r law;
}
  where
    by_first : (first : StateLogic) (v : View) (took gave : List (List Item)) → CallAllowed call v → DropPortState old v → StateLaw first (Dropping old) v took gave
        → StateLaw first (Dropping new) (port.acted_all (port_call.seen call v) acts) (histories.brought_by call took) (histories.given_all acts gave)
    by_first (Dropping f) v took gave may r law = h.keeps f v took gave may r law
    by_first (Machine f) v took gave may r law = absurd law
    by_first (Recovering f) v took gave may r law = absurd law
    by_first (Obeying f) v took gave may r law = absurd law
    by_first (Tripping f) v took gave may r law = absurd law

recover_handles : (call : Call) (old new : recover.Recover) (acts : List Act) → Handles RecoverPortState RecoversAs call old new acts → Handles StatePortState StateLaw call (Recovering old) (Recovering new) acts
recover_handles call old new acts h = record {
  obeys = record { allowed = h.obeys.allowed; ports = h.obeys.ports };
  stands = h.stands;
  keeps = λ first v took gave may r law. by_first first v took gave may r law;
}
  where
    by_first : (first : StateLogic) (v : View) (took gave : List (List Item)) → CallAllowed call v → RecoverPortState old v → StateLaw first (Recovering old) v took gave
        → StateLaw first (Recovering new) (port.acted_all (port_call.seen call v) acts) (histories.brought_by call took) (histories.given_all acts gave)
    by_first (Recovering f) v took gave may r law = h.keeps f v took gave may r law
    by_first (Machine f) v took gave may r law = absurd law
    by_first (Dropping f) v took gave may r law = absurd law
    by_first (Obeying f) v took gave may r law = absurd law
    by_first (Tripping f) v took gave may r law = absurd law

valve_handles : (call : Call) (old new : switch.Valve) (acts : List Act) → Handles ValvePortState ValveAs call old new acts → Handles StatePortState StateLaw call (Obeying old) (Obeying new) acts
valve_handles call old new acts h = record {
  obeys = record { allowed = h.obeys.allowed; ports = h.obeys.ports };
  stands = h.stands;
  keeps = λ first v took gave may r law. by_first first v took gave may r law;
}
  where
    by_first : (first : StateLogic) (v : View) (took gave : List (List Item)) → CallAllowed call v → ValvePortState old v → StateLaw first (Obeying old) v took gave
        → StateLaw first (Obeying new) (port.acted_all (port_call.seen call v) acts) (histories.brought_by call took) (histories.given_all acts gave)
    by_first (Obeying f) v took gave may r law = h.keeps f v took gave may r law
    by_first (Machine f) v took gave may r law = absurd law
    by_first (Dropping f) v took gave may r law = absurd law
    by_first (Recovering f) v took gave may r law = absurd law
    by_first (Tripping f) v took gave may r law = absurd law

trip_handles : (call : Call) (old new : switch.Trip) (acts : List Act) → Handles TripPortState TripAs call old new acts → Handles StatePortState StateLaw call (Tripping old) (Tripping new) acts
trip_handles call old new acts h = record {
  obeys = record { allowed = h.obeys.allowed; ports = h.obeys.ports };
  stands = h.stands;
  keeps = λ first v took gave may r law. by_first first v took gave may r law;
}
  where
    by_first : (first : StateLogic) (v : View) (took gave : List (List Item)) → CallAllowed call v → TripPortState old v → StateLaw first (Tripping old) v took gave
        → StateLaw first (Tripping new) (port.acted_all (port_call.seen call v) acts) (histories.brought_by call took) (histories.given_all acts gave)
    by_first (Tripping f) v took gave may r law = h.keeps f v took gave may r law
    by_first (Machine f) v took gave may r law = absurd law
    by_first (Dropping f) v took gave may r law = absurd law
    by_first (Recovering f) v took gave may r law = absurd law
    by_first (Obeying f) v took gave may r law = absurd law

pub handled : (call : Call) (old new : StateLogic) (acts : List Act) → Obeys call (port_state old) (port_state new) acts → Turned call old acts new → Handles StatePortState StateLaw call old new acts
handled call (Machine l) (Machine m) acts o t = machine_handles call l m acts (machines.handled call l m acts o t)
handled call (Dropping l) (Dropping m) acts o t = dropping_handles call l m acts (drops.handled call l m acts o t)
handled call (Recovering l) (Recovering m) acts o t = recover_handles call l m acts (recovers.handled call l m acts o t)
handled call (Obeying l) (Obeying m) acts o t = valve_handles call l m acts (switches.valve_handled call l m acts o t)
handled call (Tripping l) (Tripping m) acts o t = trip_handles call l m acts (switches.trip_handled call l m acts o t)
handled call old new acts o t = absurd t

-- ---- a call of a handler is of its one input or output

plain_port_state : (l : StateLogic) (v : View) → StatePortState l v → port_state l v
plain_port_state (Machine l) v r = r.ports
plain_port_state (Dropping l) v r = r.ports
plain_port_state (Recovering l) v r = r.ports
plain_port_state (Obeying l) v r = r.ports
plain_port_state (Tripping l) v r = r.ports

first_call : (call : Call) (l : StateLogic) (v : View) → CallAllowed call v → StatePortState l v → at_first call ≡ call
first_call call (Machine l) v h r = first_port (machine.port_state_by l.size l.phase l.ending l.asked l.pending l.stage.work) call v h r.ports
first_call call (Dropping l) v h r = first_port (dropping.drop_in l.log.stuck l) call v h r.ports
first_call call (Recovering l) v h r = first_port (recover.recover_in l.still l) call v h r.ports
first_call call (Obeying l) v h r = first_port (switch.valve_in l.stuck l) call v h r.ports.0
first_call call (Tripping l) v h r = first_port (switch.passing_port_state l.phase) call v h r.ports

pub met_first : (call : Call) (l : StateLogic) → Meets call (StatePortState l) → Meets (at_first call) (port_state l)
met_first call l m = subst (λ c. Meets c (port_state l)) (sym (first_call call l m.0 m.1.0 m.1.1)) (m.0, (m.1.0, plain_port_state l m.0 m.1.1))

pub handles : {T E : Type 0} (call : Call) (old new : StateLogic) (acts : List Act) (r : Result T E) → Meets call (StatePortState old) → OnOk r (Obeys (at_first call) (port_state old) (port_state new) acts) → OnOk r (Turned (at_first call) old acts new)
    → OnOk r (Handles StatePortState StateLaw call old new acts)
handles call old new acts r m o t =
    subst (λ c. OnOk r (Handles StatePortState StateLaw c old new acts)) (first_call call old m.0 m.1.0 m.1.1) (on_ok_two r o t (λ a b. handled (at_first call) old new acts a b))

-- ---- the run begins

pub started : (old new : StateLogic) (acts : List Act) → Obeys starts (port_state old) (port_state new) acts → Turned starts old acts new → Starts StatePortState StateLaw StateFresh old new acts
started (Machine l) (Machine m) acts o t =
    let s = machines.started l m acts o t in
    record { obeys = record { allowed = s.obeys.allowed; ports = s.obeys.ports }; stands = s.stands; begins = s.begins }
started (Dropping l) (Dropping m) acts o t =
    let s = drops.started l m acts o t in
    record { obeys = record { allowed = s.obeys.allowed; ports = s.obeys.ports }; stands = s.stands; begins = s.begins }
started (Recovering l) (Recovering m) acts o t =
    let s = recovers.started l m acts o t in
    record { obeys = record { allowed = s.obeys.allowed; ports = s.obeys.ports }; stands = s.stands; begins = s.begins }
started (Obeying l) (Obeying m) acts o t =
    let s = switches.valve_started l m acts o t in
    record { obeys = record { allowed = s.obeys.allowed; ports = s.obeys.ports }; stands = s.stands; begins = s.begins }
started (Tripping l) (Tripping m) acts o t =
    let s = switches.trip_started l m acts o t in
    record { obeys = record { allowed = s.obeys.allowed; ports = s.obeys.ports }; stands = s.stands; begins = s.begins }
started old new acts o t = absurd t

-- ---- its log only grows

longer : (now was more : List ℕ) → now ≡ was ++ more → IsPrefix was now
longer now was more e = record { rest = more; is = e }

-- a valve that has not closed made no move
abbrev MayMove : StateLogic → Type 0
MayMove (Obeying l) = l.moves ≡ []
MayMove l = ⊤

moves_grow : (call : Call) (old new : StateLogic) (acts : List Act) → MayMove old → Turned call old acts new → IsPrefix (state_moves old) (state_moves new)
moves_grow call (Machine l) (Machine m) acts u t = longer [] [] [] refl
moves_grow call (Dropping l) (Dropping m) acts u t = longer m.log.moves l.log.moves t.more t.grows
moves_grow call (Recovering l) (Recovering m) acts u t = longer m.moves l.moves t.more t.grows
moves_grow call (Obeying l) (Obeying m) acts u t = rw u (longer m.moves [] m.moves refl)
moves_grow call (Tripping l) (Tripping m) acts u t = longer [] [] [] refl
moves_grow call old new acts u t = absurd t

grew : {T E : Type 0} (call : Call) (old new : StateLogic) (acts : List Act) (r : Result T E) → MayMove old → OnOk r (Turned call old acts new) → OnOk r (IsPrefix (state_moves old) (state_moves new))
grew call old new acts (Ok x) u t = moves_grow call old new acts u t
grew call old new acts (Err e) u t = tt

fresh_moves : (l : StateLogic) → Meets starts (StateFresh l) → MayMove l
fresh_moves (Obeying l) m = switch_rows.none_new starts l m.1.1.phase (m.0, (m.1.0, m.1.1.ports))
fresh_moves (Machine l) m = tt
fresh_moves (Dropping l) m = tt
fresh_moves (Recovering l) m = tt
fresh_moves (Tripping l) m = tt

called_moves : (call : Call) (l : StateLogic) → call ≢ starts → Meets call (StatePortState l) → MayMove l
called_moves call (Obeying l) s m = switch_rows.none_open call l (switch_rows.called_valve l call m.0 s m.1.0 m.1.1) (m.0, (m.1.0, m.1.1.ports))
called_moves call (Machine l) s m = tt
called_moves call (Dropping l) s m = tt
called_moves call (Recovering l) s m = tt
called_moves call (Tripping l) s m = tt

pub grew_at_start : {T E : Type 0} (old new : StateLogic) (acts : List Act) (r : Result T E) → Meets starts (StateFresh old) → OnOk r (Turned starts old acts new) → OnOk r (IsPrefix (state_moves old) (state_moves new))
grew_at_start old new acts r m t = grew starts old new acts r (fresh_moves old m) t

pub grew_at : {T E : Type 0} (call : Call) (old new : StateLogic) (acts : List Act) (r : Result T E) → call ≢ starts → Meets call (StatePortState old) → OnOk r (Turned (at_first call) old acts new) → OnOk r (IsPrefix (state_moves old) (state_moves new))
grew_at call old new acts r s m t = grew (at_first call) old new acts r (called_moves call old s m) t

-- ---- one that may be started

pub fresh_new : (l : StateLogic) → Meets starts (StateFresh l) → phase_of l ≡ New
fresh_new (Machine l) m = m.1.1.phase
fresh_new (Dropping l) m = m.1.1.fresh
fresh_new (Recovering l) m = m.1.1.fresh
fresh_new (Obeying l) m = m.1.1.phase
fresh_new (Tripping l) m = m.1.1.phase

pub fresh_met : (l : StateLogic) → Meets starts (StateFresh l) → Meets starts (port_state l)
fresh_met (Machine l) m = (m.0, (m.1.0, m.1.1.ports))
fresh_met (Dropping l) m = (m.0, (m.1.0, m.1.1.ports))
fresh_met (Recovering l) m = (m.0, (m.1.0, m.1.1.ports))
fresh_met (Obeying l) m = (m.0, (m.1.0, m.1.1.ports))
fresh_met (Tripping l) m = (m.0, (m.1.0, m.1.1.ports))
