-- What a valve and a trip gave agrees with the outlook of their output, where what they took does.
use Rattle.std.specs.Prelude.{slice_get}
use Rattle.std.proofs.Common.{◌≡◌, ℕ, List, [], ◌∷◌, length, true, Some, refl, sym, ap, subst, ◌∙◌, arith}
use Rattle.elem_core.specs.Tree.{Tree}
use Rattle.elem_core.specs.declared.item.Item.{Item}
use Rattle.elem_core.specs.declared.why.Decider.{Decider}
use Rattle.port_core.specs.View.{View, in_at, out_at}
use Rattle.stage_switch.specs.declared.order.Order.{Order}
use Rattle.stage_switch.specs.declared.order.Order.TheVariants.{Shutdown, Abort}
use Rattle.stream_model.specs.declared.kind.Kind.{Kind}
use Rattle.stream_model.specs.declared.kind.Kind.TheVariants as kind
use Rattle.stream_model.specs.Fits.{moves_fit}
use Rattle.stream_model.specs.Graph.{Graph}
use Rattle.stream_model.specs.Graph as graph
use Rattle.stream_model.specs.Linear.{passing, linear, begin_work}
use Rattle.stream_model.specs.Machine.{output}
use Rattle.stream_model.specs.Node.{World, head_of, node_outlook}
use Rattle.stream_model.specs.Outlook.{Outlook, End, Agrees}
use Rattle.stream_model.specs.FanIn.{Inflow, AllAgree}
use Rattle.stream_model.specs.Picks.{valve_fits}
use Rattle.stage_core.specs.Law.{Law}
use Rattle.stage_core.proofs.Whole.{stage_agrees}
use Rattle.stage_switch.specs.Valves.{ValveHeld, passes, stopped, shut, ValveKeeps}
use Rattle.stage_switch.specs.States.{Valve, valve_held, Trip, trip_held}
use Rattle.stage_switch.specs.Handling.{ValveAs, TripAs, trip_kind}
use Rattle.stage_switch.proofs.Outlooks as valves
use Rattle.stage_state.specs.declared.logic.StateLogic.TheVariants.{Obeying, Tripping}
use Rattle.stage_state.specs.Logics.{BeginsAs}
use Rattle.run_laws.specs.Made.{LedAs}
use Rattle.run_laws.specs.Items.{AllMayPass, AgreesWith}
use Rattle.run_laws.specs.KindLaws.{IsOneMachine, RunLaws}
use Rattle.run_laws.proofs.InRuns.{one_given}
use Rattle.run_laws.proofs.Stages.{one_input}
use Rattle.run_laws.proofs.StateChoices.{flows_agree}

-- ---- a valve

-- at its start
pub record ValveFirst (k : ℕ) (kd : Kind) (x : Valve) : Type 0 where
  pub name : List ℕ
  pub kind_is : kd ≡ kind.Valve name
  pub node : x.node ≡ k

pub valve_first : (k : ℕ) (kd : Kind) (d : Decider) (x : Valve) → LedAs kd k d (Obeying x) → ValveFirst k kd x
valve_first k (kind.Valve name) d x b = record { name = name; kind_is = refl; node = ap (λ (y : Valve). y.node) b.1 }
valve_first k _ d x b = absurd b

-- it has one input
pub one_flow : (node : ℕ) (x : ValveHeld) (fs : List Inflow) (g : List Tree) (e : End) → ValveKeeps node x fs g e → length fs ≡ 1
one_flow node (passes n) [] g e h = absurd h
one_flow node (passes n) (f ∷ []) g e h = refl
one_flow node (passes n) (f ∷ i ∷ fs) g e h = absurd h
one_flow node (stopped n) [] g e h = absurd h
one_flow node (stopped n) (f ∷ []) g e h = refl
one_flow node (stopped n) (f ∷ i ∷ fs) g e h = absurd h
one_flow node (shut a) [] g e h = absurd h
one_flow node (shut a) (f ∷ []) g e h = refl
one_flow node (shut a) (f ∷ i ∷ fs) g e h = absurd h

pub one_outlook : (os : List Outlook) (fs : List Inflow) → length fs ≡ 1 → AllAgree os fs → (o : Outlook) × (os ≡ o ∷ [])
one_outlook [] [] n a = absurd (omega (arith, n))
one_outlook [] (f ∷ fs) n a = absurd a
one_outlook (o ∷ []) fs n a = (o, refl)
one_outlook (o ∷ x ∷ os) [] n a = absurd a
one_outlook (o ∷ x ∷ os) (f ∷ []) n a = absurd a.1
one_outlook (o ∷ x ∷ os) (f ∷ i ∷ fs) n a = absurd (omega (arith, n))

module _ (g : Graph) (w : World) (k : ℕ) (n : graph.Node) (first now : Valve) (v : View) (took gave : List (List Item)) (begins : LedAs n.kind k n.decider (Obeying first)) (same : w.moves k ≡ now.moves) (law : ValveAs first now v took gave) where
  f : ValveFirst k n.kind first
  f = valve_first k n.kind n.decider first begins

  at_node : w.moves first.node ≡ now.moves
  at_node = ap (λ (m : ℕ). w.moves m) f.node ∙ same

  -- by the one outlook of its input
  one : (os : List Outlook) → AllMayPass os took → (o : Outlook) × ((os ≡ o ∷ []) × AllAgree (o ∷ []) law.by.law.ins)
  one os a =
      let l = law.by.law in
      let agree = flows_agree _ v took gave os law.by a in
      let o = one_outlook os l.ins (one_flow first.node (valve_held now) l.ins l.out_list l.out_end l.keeps) agree in
      (o.0, (o.1, subst (λ (xs : List Outlook). AllAgree xs l.ins) o.1 agree))

  valve_gives : (os : List Outlook) → AllMayPass os took → (p : ℕ) (h : List Item) → slice_get gave p ≡ Some h → AgreesWith (node_outlook g w k n.kind n.decider os p) h
  valve_gives os a p h at =
      let given = one_given law.by.given h p (subst (λ (hs : List (List Item)). slice_get hs p ≡ Some h) law.by.gave_is at) in
      let l = law.by.law in
      let o = one os a in
      let agree = valves.agrees first now v took gave law g w f.name n.decider o.0 at_node o.1.1 in
      let here : Agrees (node_outlook g w k (kind.Valve f.name) n.decider (o.0 ∷ []) 0) l.out_list l.out_end =
      subst (λ (m : ℕ). Agrees (node_outlook g w m (kind.Valve f.name) n.decider (o.0 ∷ []) 0) l.out_list l.out_end) f.node agree in
      let its : Agrees (node_outlook g w k (kind.Valve f.name) n.decider os 0) l.out_list l.out_end =
      subst (λ (xs : List Outlook). Agrees (node_outlook g w k (kind.Valve f.name) n.decider xs 0) l.out_list l.out_end) (sym o.1.0) here in
      record {
        list = l.out_list;
        end = l.out_end;
        is = given.1 ∙ l.gave_is;
        agrees = subst (λ q. Agrees (node_outlook g w k n.kind n.decider os q) l.out_list l.out_end) (sym given.0)
            (subst (λ (kd : Kind). Agrees (node_outlook g w k kd n.decider os 0) l.out_list l.out_end) (sym f.kind_is) its);
      }

  valve_fit : (os : List Outlook) → AllMayPass os took → moves_fit g w k n.kind os ≡ true
  valve_fit os a =
      let o = one os a in
      let here : valve_fits (w.moves k) (head_of os) ≡ true =
      ap (λ (ms : List ℕ). valve_fits ms (head_of os)) same ∙ ap (λ (xs : List Outlook). valve_fits now.moves (head_of xs)) o.1.0 ∙ valves.fits first now v took gave law o.0 o.1.1 in
      subst (λ (kd : Kind). moves_fit g w k kd os ≡ true) (sym f.kind_is) here

  pub valve_laws : RunLaws g w k n took gave
  valve_laws = record { gives = valve_gives; fits = valve_fit }

-- ---- a trip

-- at its start
pub record TripFirst (k : ℕ) (kd : Kind) (x : Trip) : Type 0 where
  pub name : List ℕ
  pub kind_is : kd ≡ trip_kind x.order name x.count
  pub node : x.node ≡ k

pub trip_first : (k : ℕ) (kd : Kind) (d : Decider) (x : Trip) → BeginsAs kd k d (Tripping x) → TripFirst k kd x
trip_first k (kind.TripShutdown name n) d x b = record { name = name; kind_is = ap (λ (y : Trip). trip_kind y.order name y.count) (sym b.1.1); node = ap (λ (y : Trip). y.node) b.1.1 }
trip_first k (kind.TripAbort name n) d x b = record { name = name; kind_is = ap (λ (y : Trip). trip_kind y.order name y.count) (sym b.1.1); node = ap (λ (y : Trip). y.node) b.1.1 }
trip_first k _ d x b = absurd b

-- it is a machine that passes all on
trip_by : (order : Order) (name : List ℕ) (n : ℕ) → IsOneMachine (trip_kind order name n) passing
trip_by Shutdown name n = record { no_sink = refl; outlook = λ g w k d os q. refl; no_moves = λ g w k os. refl; lawful = λ g w k d is os r. r; rests = λ g w k d is os r. r }
trip_by Abort name n = record { no_sink = refl; outlook = λ g w k d os q. refl; no_moves = λ g w k os. refl; lawful = λ g w k d is os r. r; rests = λ g w k d is os r. r }

pub trip_machine : (k : ℕ) (kd : Kind) (x : Trip) → TripFirst k kd x → IsOneMachine kd passing
trip_machine k kd x f = subst (λ (y : Kind). IsOneMachine y passing) (sym f.kind_is) (trip_by x.order f.name x.count)

module _ (g : Graph) (w : World) (k : ℕ) (n : graph.Node) (first now : Trip) (v : View) (took gave : List (List Item)) (begins : BeginsAs n.kind k n.decider (Tripping first)) (law : TripAs first now v took gave) where
  t : TripFirst k n.kind first
  t = trip_first k n.kind n.decider first begins

  machine : IsOneMachine n.kind passing
  machine = trip_machine k n.kind first t

  its : Law (linear w.book passing) (begin_work k n.decider passing) (trip_held n.decider now) (in_at v 0) (out_at v 0) law.took_list law.gave_list
  its = subst (λ (m : ℕ). Law (linear w.book passing) (begin_work m n.decider passing) (trip_held n.decider now) (in_at v 0) (out_at v 0) law.took_list law.gave_list) t.node (law.law w.book n.decider)

  trip_gives : (os : List Outlook) → AllMayPass os took → (p : ℕ) (h : List Item) → slice_get gave p ≡ Some h → AgreesWith (node_outlook g w k n.kind n.decider os p) h
  trip_gives os a p h at =
      let one = one_input os law.took_list (rw law.took_is at a) in
      let given = one_given law.gave_list h p (subst (λ (hs : List (List Item)). slice_get hs p ≡ Some h) law.gave_is at) in
      let agrees : Agrees (output (linear w.book passing) (begin_work k n.decider passing) one.0) its.out_list its.out_end =
      stage_agrees (linear w.book passing) (begin_work k n.decider passing) one.0 (trip_held n.decider now) (in_at v 0) (out_at v 0) law.took_list law.gave_list its (one.1.1 its.in_list its.in_end its.took_is) in
      record { list = its.out_list; end = its.out_end; is = given.1 ∙ its.gave_is; agrees = rw (machine.outlook g w k n.decider os p, one.1.0) agrees }

  pub trip_laws : RunLaws g w k n took gave
  trip_laws = record { gives = trip_gives; fits = λ os a. machine.no_moves g w k os }
