-- Each call of a valve and of a trip keeps the law of its histories and of its seat.
use Rattle.std.specs.Prelude.{Result, OnOk, OnErr, IsOk, Ok, Err, slice_index_or}
use Rattle.std.proofs.Common.{◌≡◌, ◌≢◌, ℕ, zero, suc, ◌+◌, List, [], ◌∷◌, ◌++◌, length, refl, sym, ap, subst, ◌∙◌, arith, Bool, true, false, true≢false}
use Rattle.elem_core.specs.Prefix.{IsPrefix}
use Rattle.elem_core.specs.Items.{elements}
use Rattle.elem_core.proofs.Prefixes.{prefix_refl}
use Rattle.elem_core.specs.declared.item.Item.{Item}
use Rattle.elem_core.specs.declared.item.Item.TheVariants as item
use Rattle.elem_core.specs.declared.why.Decider.{Decider}
use Rattle.port_core.specs.declared.act.Act.{Act}
use Rattle.port_core.specs.declared.view.InView.{InView}
use Rattle.port_core.specs.declared.view.InView.TheVariants.{Idle, Cancelled}
use Rattle.port_core.specs.declared.view.OutView.{OutView}
use Rattle.port_core.specs.declared.view.OutView.TheVariants.{Unpulled}
use Rattle.port_core.specs.View.{View, in_at, out_at, ActsAllowed, acted_all}
use Rattle.port_core.specs.Call.{Call, starts, pulls, arrives, cancels, AllIdle, CallAllowed, MayCome, Meets, seen, brought_to, given_on, Obeys}
use Rattle.stage_core.specs.Histories as histories
use Rattle.stage_core.specs.Handling.{Starts, Handles}
use Rattle.stage_core.proofs.OnOks.{on_ok_two}
use Rattle.stage_core.proofs.OneOnes.{given_one, brought_one, one_input, at_first, first_port, fresh_ports}
use Rattle.stream_model.specs.Outlook.{unended}
use Rattle.stream_model.specs.Machine.{going}
use Rattle.stream_model.specs.Linear.{Stage, passing, linear, begin_work}
use Rattle.stage_core.specs.Held.{Held, owing}
use Rattle.stage_core.specs.Law.{TookAs, GaveAs, Law}
use Rattle.stage_core.proofs.Calls.{new_law, call_law}
use Rattle.stage_core.specs.PortsLaws.{InPortsLaw}
use Rattle.stage_core.proofs.Histories.{in_node, ins_seen, ins_acted, begun}
use Rattle.stage_core.specs.declared.phase.Phase.{Phase}
use Rattle.stage_core.specs.declared.phase.Phase.TheVariants.{New, Open, Closed}
use Rattle.stage_switch.specs.Valves.{ValveHeld, passes, ValveTurnAt, ValveKeeps, ValveLaw}
use Rattle.stage_switch.specs.States.{passing_port_state, Valve, Unmoved, MayCount, OnlyElements, GivesFew, valve_in, valve_port_state, valve_held, valve_held_in, valve_held_by, ValveTurned, brought, Trip, trip_port_state, trip_held, trip_held_in, trip_stage, TripTurned}
use Rattle.stage_switch.specs.Handling.{ValveFresh, ValvePortState, FewGiven, ValveAs, KeepsValve, TripFresh, TripPortState, TripAs, KeepsTrip}
use Rattle.stage_switch.proofs.ValveTurns.{valve_new, valve_call}
use Rattle.stage_switch.proofs.Rows.{called_valve, none_new, none_open}

-- ---- a valve

valve_keeps_ports : (call : Call) (node : ℕ) (old new : Valve) (v : View) (took gave : List (List Item)) (acts : List Act) → CallAllowed call v → ActsAllowed (seen call v) acts → ValveTurnAt node call (valve_held old) (given_on 0 acts) (valve_held new)
    → InPortsLaw (ValveKeeps node (valve_held old)) v took gave → InPortsLaw (ValveKeeps node (valve_held new)) (acted_all (seen call v) acts) (histories.brought_by call took) (histories.given_all acts gave)
valve_keeps_ports call node old new v took gave acts may allowed turn law =
    in_node (ValveKeeps node (valve_held old)) (ValveKeeps node (valve_held new)) call v (acted_all (seen call v) acts) took gave acts (ins_acted acts (seen call v) ∙ ins_seen call v)
    (λ given l. valve_call node call (valve_held old) (valve_held new) v (λ i. slice_index_or took i []) given acts may allowed turn l) law

elements-append : (is js : List Item) → elements (is ++ js) ≡ elements is + elements js
elements-append [] js = omega arith
elements-append (item.Elem e ∷ is) js = let h = elements-append is js in omega (arith, h)
elements-append (item.Ended ∷ is) js = elements-append is js
elements-append (item.Failed c ∷ is) js = elements-append is js

only_more : (is js : List Item) → OnlyElements is → OnlyElements js → OnlyElements (is ++ js)
only_more [] js a b = b
only_more (item.Elem e ∷ is) js a b = only_more is js a b
only_more (item.Ended ∷ is) js a b = absurd a
only_more (item.Failed c ∷ is) js a b = absurd a

-- what it gave with one call more
given_more : (acts : List Act) (gave : List (List Item)) (given now : List Item) → gave ≡ given ∷ [] → histories.given_all acts gave ≡ now ∷ [] → now ≡ given ++ given_on 0 acts
given_more acts gave given now was is = let z : now ∷ [] ≡ (given ++ given_on 0 acts) ∷ [] = sym is ∙ (ap (histories.given_all acts) was ∙ given_one acts given) in cc

few_more : (old new : Valve) (given more : List Item) → FewGiven old given → GivesFew old new more → FewGiven new (given ++ more)
few_more old new given more f t = record {
  only = only_more given more f.only t.only;
  count = let a = elements-append given more in let b = f.count in let c = t.count in omega (arith, a, b, c);
  upto = t.upto;
}

valve_after : (call : Call) (first old new : Valve) (v : View) (acts : List Act) (took gave : List (List Item)) → CallAllowed call v → ActsAllowed (seen call v) acts → ValveTurned call old acts new → Unmoved new.phase new.moves → ValveAs first old v took gave
    → ValveAs first new (acted_all (seen call v) acts) (histories.brought_by call took) (histories.given_all acts gave)
valve_after call first old new v acts took gave may allowed t unmoved law = record {
  by = by;
  node = t.node ∙ law.node;
  switch = t.switch ∙ law.switch;
  plan = t.plan ∙ law.plan;
  valve = t.valve;
  unmoved = unmoved;
  stops = t.stops;
  few = λ m. subst (λ (given : List Item). FewGiven new given) (sym (given_more acts gave law.by.given by.given law.by.gave_is by.gave_is))
      (few_more old new law.by.given (given_on 0 acts) (law.few (t.few m).moves) (t.few m));
}
  where
    by : InPortsLaw (ValveKeeps first.node (valve_held new)) (acted_all (seen call v) acts) (histories.brought_by call took) (histories.given_all acts gave)
    by = valve_keeps_ports call first.node old new v took gave acts may allowed (subst (λ (n : ℕ). ValveTurnAt n call (valve_held old) (given_on 0 acts) (valve_held new)) law.node t.turn) law.by

pub valve_handled : (call : Call) (old new : Valve) (acts : List Act) → Obeys call (valve_port_state old) (valve_port_state new) acts → ValveTurned call old acts new → Handles ValvePortState ValveAs call old new acts
valve_handled call old new acts o t = record {
  obeys = record {
    allowed = λ v h r. o.allowed v h r.ports;
    ports = λ v h r. record { started = t.started; ports = o.ports v h r.ports };
  };
  stands = t.stands;
  keeps = λ first v took gave h r law. valve_after call first old new v acts took gave h (o.allowed v h r.ports) t (o.ports v h r.ports).1 law;
}

-- its ports are open and not asked
new_ports : (p : Phase) (x : InView) (y : OutView) → p ≡ New → passing_port_state p x y → (x ≡ Idle) × (y ≡ Unpulled)
new_ports New Idle Unpulled e r = (refl, refl)
new_ports New x y e r = absurd r
new_ports Open x y e r = cc
new_ports Closed x y e r = cc

-- one that was not started goes on
new_in : (b : Bool) (l : Valve) (x : InView) (y : OutView) → l.phase ≡ New → valve_in b l x y → (b ≡ false) × ((x ≡ Idle) × (y ≡ Unpulled))
new_in false l x y e r = (refl, new_ports l.phase x y e r.0)
new_in true l x y e r = absurd (let z : New ≡ Open = sym e ∙ r.0 in cc)

valve_begun : (l : Valve) (v : View) (took gave : List (List Item)) → ValveFresh l v → histories.AllEmpty took → histories.AllEmpty gave → length took ≡ length v.ins → length gave ≡ length v.outs → ValveAs l l v took gave
valve_begun l v took gave f a b m n =
    let p = fresh_ports (valve_in l.stuck l) v.ins v.outs took gave f.ports.0 a b m n in
    let new = new_in l.stuck l p.x p.y f.phase p.holds in
    let open_out : GaveAs (out_at v 0) unended = rw (p.outs, new.1.1) refl in
    let idle : AllIdle v.ins = rw (p.ins, new.1.0) (refl, tt) in
    let held : valve_held l ≡ passes 0 = ap (λ (b : Bool). valve_held_by b l) new.0 ∙ ap (λ (q : Phase). valve_held_in q l.passed l.moves) f.phase ∙ ap passes f.passed in
    let by = begun (ValveKeeps l.node (valve_held l)) v took gave a b m (n ∙ ap length p.outs)
    (subst (λ (x : ValveHeld). ValveLaw l.node x v (λ _. []) []) (sym held) (valve_new l.node v (ap length p.ins) idle open_out)) in
    let none : by.given ≡ [] = (let z : by.given ∷ [] ≡ [] ∷ [] = sym by.gave_is ∙ p.gave_is in cc) in
    let room : MayCount l.left l.passed = (subst (λ (b : Bool). valve_in b l p.x p.y) new.0 p.holds).1 in
    record {
      by = by;
      node = refl;
      switch = refl;
      plan = refl;
      valve = f.valve;
      unmoved = f.ports.1;
      stops = λ s. absurd (true≢false (sym s ∙ new.0));
      few = λ moves. subst (λ (given : List Item). FewGiven l given) (sym none) (record { only = tt; count = f.passed; upto = room });
    }

pub valve_started : (old new : Valve) (acts : List Act) → Obeys starts (valve_port_state old) (valve_port_state new) acts → ValveTurned starts old acts new → Starts ValvePortState ValveAs ValveFresh old new acts
valve_started old new acts o t = record {
  obeys = record {
    allowed = λ v h f. o.allowed v h f.ports;
    ports = λ v h f. record { started = t.started; ports = o.ports v h f.ports };
  };
  stands = t.stands;
  begins = λ v took gave h f a b m n. valve_after starts old old new v acts took gave h (o.allowed v h f.ports) t (o.ports v h f.ports).1 (valve_begun old v took gave f a b m n);
}

-- ---- a trip

-- what a call that may come brings to the one input
one_brought : (call : Call) (v : View) → length v.ins ≡ 1 → CallAllowed call v → brought call ≡ elements (brought_to 0 call)
one_brought starts v o h = refl
one_brought (pulls j) v o h = refl
one_brought (cancels j) v o h = refl
one_brought (arrives zero (item.Elem e)) v o h = refl
one_brought (arrives zero item.Ended) v o h = refl
one_brought (arrives zero (item.Failed c)) v o h = refl
one_brought (arrives (suc i) b) v o h = by_list v.ins o h
  where
    by_list : (xs : List InView) → length xs ≡ 1 → MayCome b (slice_index_or xs (suc i) Cancelled) → brought (arrives (suc i) b) ≡ elements (brought_to 0 (arrives (suc i) b))
    by_list (x ∷ []) o h = none b h
      where
        none : (c : Item) → MayCome c Cancelled → brought (arrives (suc i) b) ≡ elements (brought_to 0 (arrives (suc i) b))
        none (item.Elem e) h = cc
        none item.Ended h = absurd h
        none (item.Failed c) h = absurd h
    by_list [] o h = absurd (omega arith)
    by_list (x ∷ y ∷ xs) o h = absurd (omega arith)

trip_after : (call : Call) (first old new : Trip) (v : View) (acts : List Act) (took gave : List (List Item)) → trip_port_state old v → CallAllowed call v → ActsAllowed (seen call v) acts → TripTurned call old acts new → TripAs first old v took gave
    → TripAs first new (acted_all (seen call v) acts) (histories.brought_by call took) (histories.given_all acts gave)
trip_after call first old new v acts took gave r h allowed t law =
    let one = one_input (passing_port_state old.phase) v.ins v.outs r in
    record {
      took_list = law.took_list ++ brought_to 0 call;
      gave_list = law.gave_list ++ given_on 0 acts;
      took_is = ap (histories.brought_by call) law.took_is ∙ brought_one call law.took_list;
      gave_is = ap (histories.given_all acts) law.gave_is ∙ given_one acts law.gave_list;
      law = λ book d. call_law (linear book passing) (begin_work first.node d passing) 0 call (trip_held d old) (trip_held d new) v law.took_list law.gave_list acts one h allowed (t.turn book d) (law.law book d);
      node = t.node ∙ law.node;
      order = t.order ∙ law.order;
      count = t.count ∙ law.count;
      switch = t.switch ∙ law.switch;
      taken = let a = one_brought call v one h in let b = elements-append law.took_list (brought_to 0 call) in omega (arith, t.taken, law.taken, a, b);
      trip = t.trip;
    }

pub trip_handled : (call : Call) (old new : Trip) (acts : List Act) → Obeys call (trip_port_state old) (trip_port_state new) acts → TripTurned call old acts new → Handles TripPortState TripAs call old new acts
trip_handled call old new acts o t = record {
  obeys = record {
    allowed = λ v h r. o.allowed v h r.ports;
    ports = λ v h r. record { started = t.started; ports = o.ports v h r.ports };
  };
  stands = t.stands;
  keeps = λ first v took gave h r law. trip_after call first old new v acts took gave r.ports h (o.allowed v h r.ports) t law;
}

trip_begun : (l : Trip) (v : View) (took gave : List (List Item)) → TripFresh l v → histories.AllEmpty took → histories.AllEmpty gave → length took ≡ length v.ins → length gave ≡ length v.outs → TripAs l l v took gave
trip_begun l v took gave f a b m n =
    let p = fresh_ports (passing_port_state l.phase) v.ins v.outs took gave f.ports a b m n in
    let ports = new_ports l.phase p.x p.y f.phase p.holds in
    let open_in : TookAs (in_at v 0) unended = rw (p.ins, ports.0) refl in
    let open_out : GaveAs (out_at v 0) unended = rw (p.outs, ports.1) refl in
    let held : (d : Decider) → trip_held d l ≡ owing (begin_work l.node d passing) = λ d.
    ap (λ (q : Phase). trip_held_in q (trip_stage d l)) f.phase ∙ ap (λ (k : ℕ). owing (record { gave = []; state = going (record { node = l.node; decider = d; taken = k; work = passing }) })) f.taken in
    record {
      took_list = [];
      gave_list = [];
      took_is = p.took_is;
      gave_is = p.gave_is;
      law = λ book d. subst (λ (x : Held Stage). Law (linear book passing) (begin_work l.node d passing) x (in_at v 0) (out_at v 0) [] []) (sym (held d)) (new_law (linear book passing) (begin_work l.node d passing) (in_at v 0) (out_at v 0) open_in open_out (λ h. refl));
      node = refl;
      order = refl;
      count = refl;
      switch = refl;
      taken = f.taken;
      trip = f.trip;
    }

pub trip_started : (old new : Trip) (acts : List Act) → Obeys starts (trip_port_state old) (trip_port_state new) acts → TripTurned starts old acts new → Starts TripPortState TripAs TripFresh old new acts
trip_started old new acts o t = record {
  obeys = record {
    allowed = λ v h f. o.allowed v h f.ports;
    ports = λ v h f. record { started = t.started; ports = o.ports v h f.ports };
  };
  stands = t.stands;
  begins = λ v took gave h f a b m n. trip_after starts old old new v acts took gave f.ports h (o.allowed v h f.ports) t (trip_begun old v took gave f a b m n);
}

-- ---- a call of a handler is of the one input or output

pub valve_met : (call : Call) (l : Valve) → Meets call (ValvePortState l) → Meets (at_first call) (valve_port_state l)
valve_met call l m = subst (λ c. Meets c (valve_port_state l)) (sym (first_port (valve_in l.stuck l) call m.0 m.1.0 m.1.1.ports.0)) (m.0, (m.1.0, m.1.1.ports))

pub trip_met : (call : Call) (l : Trip) → Meets call (TripPortState l) → Meets (at_first call) (trip_port_state l)
trip_met call l m = subst (λ c. Meets c (trip_port_state l)) (sym (first_port (passing_port_state l.phase) call m.0 m.1.0 m.1.1.ports)) (m.0, (m.1.0, m.1.1.ports))

pub valve_handles : {T E : Type 0} (call : Call) (old new : Valve) (acts : List Act) (r : Result T E) → Meets call (ValvePortState old) → OnOk r (Obeys (at_first call) (valve_port_state old) (valve_port_state new) acts) → OnOk r (ValveTurned (at_first call) old acts new)
    → OnOk r (Handles ValvePortState ValveAs call old new acts)
valve_handles call old new acts r m o t =
    subst (λ c. OnOk r (Handles ValvePortState ValveAs c old new acts)) (first_port (valve_in old.stuck old) call m.0 m.1.0 m.1.1.ports.0) (on_ok_two r o t (λ a b. valve_handled (at_first call) old new acts a b))

pub trip_handles : {T E : Type 0} (call : Call) (old new : Trip) (acts : List Act) (r : Result T E) → Meets call (TripPortState old) → OnOk r (Obeys (at_first call) (trip_port_state old) (trip_port_state new) acts) → OnOk r (TripTurned (at_first call) old acts new)
    → OnOk r (Handles TripPortState TripAs call old new acts)
trip_handles call old new acts r m o t =
    subst (λ c. OnOk r (Handles TripPortState TripAs c old new acts)) (first_port (passing_port_state old.phase) call m.0 m.1.0 m.1.1.ports) (on_ok_two r o t (λ a b. trip_handled (at_first call) old new acts a b))

-- ---- moves, and what outlives want of memory

-- it had made no move
begins_with : (moves old : List ℕ) → old ≡ [] → IsPrefix old moves
begins_with moves old e = rw e record { rest = moves; is = refl }

grown : {T E : Type 0} (call : Call) (old new : Valve) (acts : List Act) (r : Result T E) → old.moves ≡ [] → OnOk r (ValveTurned call old acts new) → OnOk r (IsPrefix old.moves new.moves)
grown call old new acts (Ok x) e t = begins_with new.moves old.moves e
grown call old new acts (Err x) e t = tt

valve_same : (old new : Valve) → new ≡ old → KeepsValve old new
valve_same old new e = rw e record { node = refl; switch = refl; moves = prefix_refl old.moves; plan = refl; valve = λ h. h }

-- its start
pub valve_begins : {T E : Type 0} (old new : Valve) (acts : List Act) (r : Result T E) → Meets starts (ValveFresh old) → OnOk r (ValveTurned starts old acts new) → OnOk r (IsPrefix old.moves new.moves)
valve_begins old new acts r m t = grown starts old new acts r (none_new starts old m.1.1.phase (m.0, (m.1.0, m.1.1.ports))) t

pub valve_start_keeps : {T E : Type 0} (X : Type 0) (old new : Valve) (acts : List Act) (r : Result T E) → Meets starts (ValveFresh old) → OnOk r (ValveTurned starts old acts new) → OnErr r ((new ≡ old) × X) → KeepsValve old new
valve_start_keeps X old new acts (Ok x) m t e = record { node = t.node; switch = t.switch; moves = begins_with new.moves old.moves (none_new starts old m.1.1.phase (m.0, (m.1.0, m.1.1.ports))); plan = t.plan; valve = λ h. t.valve }
valve_start_keeps X old new acts (Err x) m t e = valve_same old new e.0

-- a further call
pub valve_grows : {T E : Type 0} (call : Call) (old new : Valve) (acts : List Act) (r : Result T E) → call ≢ starts → Meets call (ValvePortState old) → OnOk r (ValveTurned (at_first call) old acts new) → OnOk r (IsPrefix old.moves new.moves)
valve_grows call old new acts r s m t = grown (at_first call) old new acts r (none_open call old (called_valve old call m.0 s m.1.0 m.1.1) (m.0, (m.1.0, m.1.1.ports))) t

pub valve_keeps : {T E : Type 0} (X : Type 0) (old new : Valve) (r : Result T E) → OnErr r ((new ≡ old) × X) → OnErr r (KeepsValve old new)
valve_keeps X old new (Ok x) e = tt
valve_keeps X old new (Err x) e = valve_same old new e.0

-- the same of a trip
trip_same : (old new : Trip) → new ≡ old → KeepsTrip old new
trip_same old new e = rw e record { node = refl; order = refl; count = refl; switch = refl; trip = λ h. h }

pub trip_start_keeps : {T E : Type 0} (old new : Trip) (acts : List Act) (r : Result T E) → IsOk r → OnOk r (TripTurned starts old acts new) → KeepsTrip old new
trip_start_keeps old new acts (Ok x) k t = record { node = t.node; order = t.order; count = t.count; switch = t.switch; trip = λ h. t.trip }
trip_start_keeps old new acts (Err x) k t = cc

pub trip_keeps : {T E : Type 0} (X : Type 0) (old new : Trip) (r : Result T E) → OnErr r ((new ≡ old) × X) → OnErr r (KeepsTrip old new)
trip_keeps X old new (Ok x) e = tt
trip_keeps X old new (Err x) e = trip_same old new e.0

pub never_wants : {T E : Type 0} (P : Type 0) (r : Result T E) → IsOk r → OnErr r P
never_wants P (Ok x) k = tt
never_wants P (Err x) k = cc
