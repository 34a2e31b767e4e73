-- What a valve and a trip give of their laws for a picture. A valve gives no more than came, and where it acted just what its moves
-- count; while it waits it gave all that came. A trip is a machine that passes all on.
use Rattle.std.specs.Prelude.{if◌then◌else◌}
use Rattle.std.proofs.Common.{◌≡◌, ◌≢◌, ◌⊎◌, inl, inr, ℕ, ◌+◌, ◌-◌, ◌<◌, ◌≤◌, Bool, true, false, Option, None, Some, List, [], ◌∷◌, length, take, refl, sym, ap, ◌∙◌, subst, arith}
use Rattle.std.proofs.lemmas.List.{length-take-le}
use Rattle.elem_core.proofs.Prefixes.{prefix_length}
use Rattle.elem_core.specs.Tree.{Tree}
use Rattle.elem_core.specs.Items.{elements}
use Rattle.elem_core.specs.declared.item.Item.{Item}
use Rattle.port_core.specs.View.{View, in_at, out_at}
use Rattle.port_core.specs.declared.view.InView.{InView}
use Rattle.port_core.specs.declared.view.InView.TheVariants.{Idle, Pulled}
use Rattle.port_core.specs.declared.view.OutView.{OutView}
use Rattle.port_core.specs.declared.view.OutView.TheVariants.{Unpulled, Available}
use Rattle.stream_io.specs.State.{SourceState, DrainState}
use Rattle.stream_model.specs.declared.kind.Kind.{Kind}
use Rattle.stream_model.specs.declared.kind.Kind.TheVariants as kind
use Rattle.stream_model.specs.Graph.{Graph}
use Rattle.stream_model.specs.Graph as graph
use Rattle.stream_model.specs.FanIn.{Inflow}
use Rattle.stream_model.specs.Linear.{Book, passing, linear, begin_work, role_of}
use Rattle.stream_model.specs.Machine.{is_going, run}
use Rattle.stream_model.specs.Node.{World}
use Rattle.stream_model.specs.Outlook.{Outlook, End, unended, ended, failed}
use Rattle.port_core.specs.Picks.{second_move}
use Rattle.stream_model.specs.Picks.{Acted, untouched, completed, aborted, acted, ValveStands}
use Rattle.stream_model.specs.View as picture
use Rattle.stream_model.specs.View.{EachWire, demand, wanted}
use Rattle.stream_model.specs.OneWay.{as_it_is, is_sink}
use Rattle.stream_model.specs.Lawful.{RowLawful, ValveLawful}
use Rattle.stream_model.specs.Rests.{IsShut, StageRests, RowRests}
use Rattle.stage_core.specs.Law.{Law}
use Rattle.stage_core.specs.Row.{InClosed, OutClosed}
use Rattle.stage_core.specs.declared.phase.Phase.{Phase}
use Rattle.stage_core.specs.declared.phase.Phase.TheVariants.{New, Open, Closed}
use Rattle.stage_switch.specs.Valves.{ValveCause, ValveKeeps, ValveStandsOf, PassedAll}
use Rattle.stage_switch.specs.States.{Valve, counted_next, valve_held, passing_port_state, Trip, trip_held, trip_held_in, trip_stage}
use Rattle.stage_switch.specs.Handling.{ValvePortState, ValveAs, TripPortState, TripAs}
use Rattle.stage_switch.proofs.Outlooks as valves
use Rattle.stage_switch.proofs.Rows.{valve_waits, going_ports}
use Rattle.stage_state.specs.declared.logic.StateLogic.TheVariants.{Obeying, Tripping}
use Rattle.stage_state.specs.Logics.{BeginsAs}
use Rattle.nodes.specs.declared.node.IslandNode.{IslandNode}
use Rattle.nodes.specs.declared.node.IslandNode.TheVariants as node
use Rattle.nodes.specs.Nodes.{node_port_state, node_law, node_asking, node_moves}
use Rattle.run_laws.specs.Made.{LedAs}
use Rattle.run_laws.specs.Items.{AllMayPass}
use Rattle.run_laws.specs.KindLaws.{IsOneMachine, Moments, PictureLaws, PictureLawsBy}
use Rattle.run_laws.specs.Replayed.{Plans, left, OrderCause, RoleLawfulBy, RowRestsBy}
use Rattle.run_laws.proofs.Misfits.{states_stop}
use Rattle.run_laws.specs.Ports.{InPort, OutPort, InStands, OutStands, InRests, OutRests}
use Rattle.run_laws.proofs.StateSwitches.{ValveFirst, valve_first, TripFirst, trip_first, trip_machine}
use Rattle.run_laws.specs.Picture.{sink_ended}
use Rattle.run_laws.proofs.MachineRows.{stage_given, stage_asked, waited_rests, idles}
use Rattle.run_laws.proofs.OneFlows.{OneFlow, one_flow, flow_got, flow_sent}
use Rattle.run_laws.proofs.OnePorts.{one_views, one_same, began, given_one, reached, not_both}
use Rattle.run_laws.proofs.RecoverRows.{take_few}
use Rattle.run_laws.proofs.PictureStages.{closed_both, law_at, Waited, waited_of}

-- ---- what the rows of both say

-- it is asked and waits, nobody asks it, or all is closed
data PassingPorts (p : Phase) (x : InView) (y : OutView) : Type 0 where
  busy : p ≡ Open → x ≡ Pulled → y ≡ Available → PassingPorts p x y
  free : x ≡ Idle → y ≡ Unpulled → PassingPorts p x y
  gone : InClosed x → OutClosed y → PassingPorts p x y

passing_ports : (p : Phase) (x : InView) (y : OutView) → p ≢ New → passing_port_state p x y → PassingPorts p x y
passing_ports New x y n r = absurd (n refl)
passing_ports Closed x y n r = let c = closed_both x y r in gone c.0 c.1
passing_ports Open Pulled Available n r = busy refl refl refl
passing_ports Open Idle Unpulled n r = free refl refl
passing_ports Open x y n r = absurd r

-- one that waits was asked, and is open
waits_open : (p : Phase) (x : InView) (y : OutView) → PassingPorts p x y → x ≡ Pulled → (p ≡ Open) × (y ≡ Available)
waits_open p x y (busy on xi yo) e = (on, yo)
waits_open p x y (free xi yo) e = cc
waits_open p x y (gone xi yo) e = let no : InClosed Pulled = subst InClosed e xi in absurd no

-- ---- what the law of a valve says of its histories

few_by : (k : ℕ) (a : Acted) (f : Inflow) (g : List Tree) (e : End) → ValveStands k a f g e → length g ≤ length f.list
few_by k untouched f g unended s = prefix_length s
few_by k untouched f g ended s = let same : length g ≡ length f.list = ap length s.1 in omega (arith, same)
few_by k untouched f g (failed c) s = let same : length g ≡ length f.list = ap length s.1 in omega (arith, same)
few_by k (completed m) f g unended s = let short = prefix_length s.1 in let long = s.0 in let few = length-take-le m f.list long in omega (arith, short, few, long)
few_by k (completed m) f g ended s = let same = ap length s.1 in let long = s.0 in let few = length-take-le m f.list long in omega (arith, same, few, long)
few_by k (completed m) f g (failed c) s = absurd s
few_by k (aborted m) f g unended s = let short = prefix_length s.1 in let long = s.0 in let few = length-take-le m f.list long in omega (arith, short, few, long)
few_by k (aborted m) f g ended s = absurd s
few_by k (aborted m) f g (failed c) s = let same = ap length s.1 in let long = s.0 in let few = length-take-le m f.list long in omega (arith, same, few, long)

module _ (first now : Valve) (v : View) (took gave : List (List Item)) (law : ValveAs first now v took gave) (got sent : List Item) (ti : took ≡ got ∷ []) (gi : gave ≡ sent ∷ []) where
  abbrev Kept : List Inflow → List Tree → End → Type 0
  Kept = ValveKeeps first.node (valve_held now)

  flow : OneFlow Kept v took gave law.by got sent
  flow = one_flow Kept v took gave law.by got sent ti gi

  sent_few : elements sent ≤ elements got
  sent_few =
      let stands : ValveStands first.node (acted now.moves) flow.f law.by.law.out_list law.by.law.out_end =
      subst (λ (fs : List Inflow). ValveStandsOf first.node (acted now.moves) fs law.by.law.out_list law.by.law.out_end) flow.ins (valves.stands first now v took gave law) in
      let few = few_by first.node (acted now.moves) flow.f law.by.law.out_list law.by.law.out_end stands in
      omega (arith, few, flow_sent Kept v took gave law.by got sent flow, flow_got Kept v took gave law.by got sent flow)

  -- one that waits gave all that came
  passed_all : ValvePortState now v → in_at v 0 ≡ Pulled → elements sent ≡ elements got
  passed_all r waits =
      let all : PassedAll (flow.f ∷ []) law.by.law.out_list = subst (λ (fs : List Inflow). PassedAll fs law.by.law.out_list) flow.ins (valve_waits first now v took gave r law waits).1 in
      flow_sent Kept v took gave law.by got sent flow ∙ ap length all ∙ sym (flow_got Kept v took gave law.by got sent flow)

  -- one that acted gave just what its moves count
  counted : (order m : ℕ) → now.moves ≡ order ∷ m ∷ [] → elements sent ≡ m
  counted order m e = flow_sent Kept v took gave law.by got sent flow ∙ valves.counts first now v took gave law order m e

-- ---- its rows in a picture

all_sent : (i : InPort) (m : ℕ) (b : Bool) → InStands i → m ≤ i.wire.sent → m ≤ (if b then length (take i.wire.sent i.wire.list) + 0 else length (take i.wire.sent i.wire.list))
all_sent i m true si few = let some = length-take-le i.wire.sent i.wire.list si.within in omega (arith, some, few)
all_sent i m false si few = let some = length-take-le i.wire.sent i.wire.list si.within in omega (arith, some, few)

-- nothing is over before no element
no_cause : (os : List Outlook) → ValveCause 0 os → ⊥
no_cause [] h = h
no_cause (o ∷ []) h = let few = h.1.0 in absurd (omega (arith, few))
no_cause (o ∷ p ∷ os) h = h

-- the cause of a valve's stop is that of its second move
pub order_cause : (left : Option (List ℕ)) (os : List Outlook) → ValveCause (counted_next left) os → OrderCause (second_move left) os
order_cause (Some (m ∷ j ∷ l)) os h = h
order_cause None os h = absurd (no_cause os h)
order_cause (Some []) os h = absurd (no_cause os h)
order_cause (Some (m ∷ [])) os h = absurd (no_cause os h)

moved_by : (ms : List ℕ) (n : ℕ) (i o : picture.SeenWire) → ((order m : ℕ) → ms ≡ order ∷ m ∷ [] → n ≡ m) → o.sent ≡ n → ValveLawful ms i o
moved_by [] n i o c s = tt
moved_by (a ∷ []) n i o c s = tt
moved_by (a ∷ m ∷ []) n i o c s = s ∙ c a m refl
moved_by (a ∷ m ∷ b ∷ ms) n i o c s = tt

module _ {S D : Type 0} (L H B : Type 0) (sources : S → SourceState) (drains : D → DrainState) (g : Graph) (w : World) (k : ℕ) (n : graph.Node) where
  abbrev Laws : IslandNode S D L H B → IslandNode S D L H B → List InPort → List OutPort → Type 0
  Laws first x is os = PictureLaws node_port_state (node_law sources drains w.book) node_asking node_moves sink_ended g w k n first x is os

  -- its kind stays the same
  record ValveNow (first : Valve) (v : View) (took gave : List (List Item)) : Type 0 where
    now : Valve
    port_state_holds : ValvePortState now v
    law_holds : ValveAs first now v took gave

  valve_now : (first : Valve) (x : IslandNode S D L H B) (v : View) (took gave : List (List Item)) → node_port_state x v → node_law sources drains w.book (node.State (Obeying first)) x v took gave → ValveNow first v took gave
  valve_now first (node.State (Obeying x)) v took gave r law = record { now = x; port_state_holds = r; law_holds = law }
  valve_now first x v took gave r law = absurd law

  module _ (first x : Valve) (i : InPort) (o : OutPort) (begins : LedAs n.kind k n.decider (Obeying first)) (same : w.moves k ≡ x.moves) (r : ValvePortState x (record { ins = i.view ∷ []; outs = o.view ∷ [] }))
      (law : ValveAs first x (record { ins = i.view ∷ []; outs = o.view ∷ [] }) (i.got ∷ []) (o.sent ∷ [])) where
    valve_kind : ValveFirst k n.kind first
    valve_kind = valve_first k n.kind n.decider first begins

    abbrev LastAsk : Type 0
    LastAsk = Moments {N = IslandNode S D L H B} node_port_state (node_law sources drains w.book) node_asking node_moves (node.State (Obeying first)) (node.State (Obeying x)) (i ∷ []) (o ∷ []) 0

    valve_given : InStands i → OutStands o → o.wire.sent ≤ (if i.wire.shut then length (take i.wire.sent i.wire.list) + 0 else length (take i.wire.sent i.wire.list))
    valve_given si so =
        let few = sent_few first x _ _ _ law i.got o.sent refl refl in
        let count = so.count in
        let came = si.came in
        all_sent i o.wire.sent i.wire.shut si (omega (arith, few, count, came))

    -- when it last asked it was open and was asked, and had given all that came
    valve_asked : InStands i → OutStands o → LastAsk → demand i.wire ≤ wanted o.wire
    valve_asked si so m =
        let e = m.0 in
        let l = valve_now first e.old e.knew e.had e.given e.port_state_held e.law_held in
        let asked = (valve_waits first l.now e.knew e.had e.given l.port_state_holds l.law_holds e.waited).0 in
        let b = began e.had i.got i.want e.took_on e.one_more in
        let q = given_one e.given o.sent o.want e.gave_on (e.wants 0 asked) in
        let all = passed_all first l.now e.knew e.had e.given l.law_holds b.part q.0 b.is q.1.0 l.port_state_holds e.waited in
        let one = b.one_more in
        let reach = si.reach in
        let more = q.1.1.1 in
        let wants = so.wants in
        omega (arith, all, one, reach, more, wants)

    valve_wants : InStands i → OutStands o → LastAsk → 1 ≤ demand i.wire → (true ≡ true) × (length (take (demand i.wire - 1) i.wire.list) < wanted o.wire)
    valve_wants si so m some =
        let few = take_few (demand i.wire - 1) i.wire.list in
        let asked = valve_asked si so m in
        (refl, omega (arith, few, asked, some))

    valve_moved : OutStands o → ValveLawful x.moves i.wire o.wire
    valve_moved so = moved_by x.moves (elements o.sent) i.wire o.wire (counted first x _ _ _ law i.got o.sent refl refl) so.count

    abbrev Still : Type 0
    Still = (EachWire IsShut (i.wire ∷ []) × EachWire IsShut (o.wire ∷ [])) ⊎ StageRests (as_it_is 0 false) i.wire o.wire

    valve_stays : InStands i → OutStands o → InRests i → OutRests o → PassingPorts x.phase i.view o.view → Still
    valve_stays si so ri ro (busy on xi yo) =
        let waits = ri.waits xi in
        let all = waits.1 in
        let count = so.count in
        let passed = passed_all first x _ _ _ law i.got o.sent refl refl r xi in
        let some = length-take-le i.wire.sent i.wire.list si.within in
        inr (inl (ro.asked yo, waits.0, omega (arith, all, count, passed, some)))
    valve_stays si so ri ro (free xi yo) = inr (inr (inl (ro.unasked yo, idles i ri xi)))
    valve_stays si so ri ro (gone xi yo) = inl ((ri.shut xi, tt), (ro.shut yo, tt))

    valve_still : Still → (EachWire IsShut (i.wire ∷ []) × EachWire IsShut (o.wire ∷ [])) ⊎ RowRests g w k n.kind n.decider (i.wire ∷ []) (o.wire ∷ [])
    valve_still (inl h) = inl h
    valve_still (inr h) = inr (subst (λ (kd : Kind). RowRests g w k kd n.decider (i.wire ∷ []) (o.wire ∷ [])) (sym valve_kind.kind_is) h)

    valve_row : InStands i → OutStands o → (1 ≤ demand i.wire → LastAsk) → RowLawful g w k n.kind n.decider (i.wire ∷ []) (o.wire ∷ [])
    valve_row si so m = subst (λ (kd : Kind). RowLawful g w k kd n.decider (i.wire ∷ []) (o.wire ∷ [])) (sym valve_kind.kind_is) (
      (valve_given si so, λ some. valve_wants si so (m some) some),
      subst (λ (ms : List ℕ). ValveLawful ms i.wire o.wire) (sym same) (valve_moved so),
    )

    valve_rests : x.stuck ≡ false → InStands i → OutStands o → InRests i → OutRests o → (EachWire IsShut (i.wire ∷ []) × EachWire IsShut (o.wire ∷ [])) ⊎ RowRests g w k n.kind n.decider (i.wire ∷ []) (o.wire ∷ [])
    valve_rests calm si so ri ro = valve_still (valve_stays si so ri ro (passing_ports x.phase i.view o.view r.started (going_ports x.stuck x i.view o.view calm r.ports.0)))

    -- one that follows an order and a count: its row is its kind's own, or its input was over before the count
    module _ (plans : Plans) (left_is : left g w plans k ≡ x.left) where
      own_lawful : (kd : Kind) → kd ≡ kind.Valve valve_kind.name → RowLawful g w k kd n.decider (i.wire ∷ []) (o.wire ∷ []) → RoleLawfulBy g w plans k (role_of kd) n.decider (i.wire ∷ []) (o.wire ∷ [])
      own_lawful kd is h =
          subst (λ (t : Kind). RoleLawfulBy g w plans k (role_of t) n.decider (i.wire ∷ []) (o.wire ∷ [])) (sym is) (subst (λ (t : Kind). RowLawful g w k t n.decider (i.wire ∷ []) (o.wire ∷ [])) is h)

      own_rests : (kd : Kind) (comes : List Outlook) → kd ≡ kind.Valve valve_kind.name → RowRests g w k kd n.decider (i.wire ∷ []) (o.wire ∷ []) → RowRestsBy g w plans k kd n.decider comes (i.wire ∷ []) (o.wire ∷ [])
      own_rests kd comes is h =
          subst (λ (t : Kind). RowRestsBy g w plans k t n.decider comes (i.wire ∷ []) (o.wire ∷ [])) (sym is) (inl (subst (λ (t : Kind). RowRests g w k t n.decider (i.wire ∷ []) (o.wire ∷ [])) is h))

      stopped : (comes : List Outlook) → AllMayPass comes (i.got ∷ []) → x.stuck ≡ true → RowRestsBy g w plans k n.kind n.decider comes (i.wire ∷ []) (o.wire ∷ [])
      stopped comes may stuck =
          let cause = states_stop comes (Obeying first) (Obeying x) (record { ins = i.view ∷ []; outs = o.view ∷ [] }) (i.got ∷ []) (o.sent ∷ []) r law may stuck in
          let here : OrderCause (second_move (left g w plans k)) comes = subst (λ (l : Option (List ℕ)). OrderCause (second_move l) comes) (sym left_is) (order_cause x.left comes cause) in
          subst (λ (t : Kind). RowRestsBy g w plans k t n.decider comes (i.wire ∷ []) (o.wire ∷ [])) (sym valve_kind.kind_is) (inr here)

      led_rests : (comes : List Outlook) → AllMayPass comes (i.got ∷ []) → InStands i → OutStands o → InRests i → OutRests o → (stuck : Bool) → x.stuck ≡ stuck
          → (EachWire IsShut (i.wire ∷ []) × EachWire IsShut (o.wire ∷ [])) ⊎ RowRestsBy g w plans k n.kind n.decider comes (i.wire ∷ []) (o.wire ∷ [])
      led_rests comes may si so ri ro true e = inr (stopped comes may e)
      led_rests comes may si so ri ro false e = by (valve_rests e si so ri ro)
        where
          by : (EachWire IsShut (i.wire ∷ []) × EachWire IsShut (o.wire ∷ [])) ⊎ RowRests g w k n.kind n.decider (i.wire ∷ []) (o.wire ∷ [])
              → (EachWire IsShut (i.wire ∷ []) × EachWire IsShut (o.wire ∷ [])) ⊎ RowRestsBy g w plans k n.kind n.decider comes (i.wire ∷ []) (o.wire ∷ [])
          by (inl h) = inl h
          by (inr h) = inr (own_rests n.kind comes valve_kind.kind_is h)

      pub valve_led : PictureLawsBy {N = IslandNode S D L H B} node_port_state (node_law sources drains w.book) node_asking node_moves sink_ended g w plans k n (node.State (Obeying first)) (node.State (Obeying x)) (i ∷ []) (o ∷ [])
      valve_led = record {
        lawful = λ si so m. own_lawful n.kind valve_kind.kind_is (valve_row si.0 so.0 (λ some. m 0 (reached i si.0 some)));
        rests = λ comes may si so ri ro. led_rests comes may si.0 so.0 ri.0 ro.0 x.stuck refl;
        matches = λ sink ri. let no : is_sink (kind.Valve valve_kind.name) ≡ true = rw valve_kind.kind_is at sink in cc;
      }

    pub valve_picture : first.left ≡ None → Laws (node.State (Obeying first)) (node.State (Obeying x)) (i ∷ []) (o ∷ [])
    valve_picture bare = record {
      lawful = λ si so m. valve_row si.0 so.0 (λ some. m 0 (reached i si.0 some));
      rests = λ si so ri ro. valve_rests (valves.free_goes_on first x _ _ _ law bare) si.0 so.0 ri.0 ro.0;
      matches = λ sink ri. let no : is_sink (kind.Valve valve_kind.name) ≡ true = rw valve_kind.kind_is at sink in cc;
    }

  -- ---- a trip

  record TripNow (first : Trip) (v : View) (took gave : List (List Item)) : Type 0 where
    now : Trip
    port_state_holds : TripPortState now v
    law_holds : TripAs first now v took gave

  trip_now : (first : Trip) (x : IslandNode S D L H B) (v : View) (took gave : List (List Item)) → node_port_state x v → node_law sources drains w.book (node.State (Tripping first)) x v took gave → TripNow first v took gave
  trip_now first (node.State (Tripping x)) v took gave r law = record { now = x; port_state_holds = r; law_holds = law }
  trip_now first x v took gave r law = absurd law

  -- its law, over its two ports
  trip_at : (book : Book) (first now : Trip) (v : View) (took gave : List (List Item)) (t h : List Item) → TripAs first now v took gave → first.node ≡ k → took ≡ t ∷ [] → gave ≡ h ∷ []
      → Law (linear book passing) (begin_work k n.decider passing) (trip_held n.decider now) (in_at v 0) (out_at v 0) t h
  trip_at book first now v took gave t h law is ti gi =
      law_at (linear book passing) (begin_work first.node n.decider passing) _ (trip_held n.decider now) _ (in_at v 0) _ (out_at v 0) _ law.took_list t law.gave_list h
      (ap (λ (m : ℕ). begin_work m n.decider passing) is) refl refl refl (one_same _ _ (sym law.took_is ∙ ti)) (one_same _ _ (sym law.gave_is ∙ gi)) (law.law book n.decider)

  -- one that waits
  trip_waited : (book : Book) (now : Trip) (x : InView) (y : OutView) (t h : List Item) → Law (linear book passing) (begin_work k n.decider passing) (trip_held n.decider now) x y t h
      → now.phase ≡ Open → x ≡ Pulled → y ≡ Available → Waited (linear book passing) (begin_work k n.decider passing) t h
  trip_waited book now x y t h law on xi yo =
      waited_of (linear book passing) (begin_work k n.decider passing) (trip_stage n.decider now) t h
      (law_at (linear book passing) (begin_work k n.decider passing) _ (trip_held n.decider now) _ x _ y _ t _ h _ refl (ap (λ (p : Phase). trip_held_in p (trip_stage n.decider now)) on) xi yo refl refl law)

  module _ (first x : Trip) (i : InPort) (o : OutPort) (begins : BeginsAs n.kind k n.decider (Tripping first)) (r : TripPortState x (record { ins = i.view ∷ []; outs = o.view ∷ [] }))
      (law : TripAs first x (record { ins = i.view ∷ []; outs = o.view ∷ [] }) (i.got ∷ []) (o.sent ∷ [])) where
    trip_kind : TripFirst k n.kind first
    trip_kind = trip_first k n.kind n.decider first begins

    machine : IsOneMachine n.kind passing
    machine = trip_machine k n.kind first trip_kind

    passed : Law (linear w.book passing) (begin_work k n.decider passing) (trip_held n.decider x) i.view o.view i.got o.sent
    passed = trip_at w.book first x _ _ _ i.got o.sent law trip_kind.node refl refl

    abbrev LastAsks : Type 0
    LastAsks = Moments {N = IslandNode S D L H B} node_port_state (node_law sources drains w.book) node_asking node_moves (node.State (Tripping first)) (node.State (Tripping x)) (i ∷ []) (o ∷ []) 0

    trip_asked : InStands i → OutStands o → LastAsks → 1 ≤ demand i.wire
        → (is_going (run (linear w.book passing) (begin_work k n.decider passing) (take (demand i.wire - 1) i.wire.list)).state ≡ true)
        × (length (run (linear w.book passing) (begin_work k n.decider passing) (take (demand i.wire - 1) i.wire.list)).gave < wanted o.wire)
    trip_asked si so m some =
        let e = m.0 in
        let l = trip_now first e.old e.knew e.had e.given e.port_state_held e.law_held in
        let p = one_views (passing_port_state l.now.phase) e.knew l.port_state_holds.ports in
        let was = waits_open l.now.phase p.x p.y (passing_ports l.now.phase p.x p.y l.port_state_holds.started p.holds) (sym p.inp ∙ e.waited) in
        let asked : out_at e.knew 0 ≡ Available = p.out ∙ was.1 in
        let b = began e.had i.got i.want e.took_on e.one_more in
        let q = given_one e.given o.sent o.want e.gave_on (e.wants 0 asked) in
        let at = trip_at w.book first l.now e.knew e.had e.given b.part q.0 l.law_holds trip_kind.node b.is q.1.0 in
        let waited = trip_waited w.book l.now (in_at e.knew 0) (out_at e.knew 0) b.part q.0 at was.0 e.waited asked in
        stage_asked (linear w.book passing) (begin_work k n.decider passing) i o si so passed.in_list passed.in_end passed.took_is b.part q.0 waited b.begins b.one_more q.1.1.1 some

    trip_stays : InStands i → OutStands o → InRests i → OutRests o → PassingPorts x.phase i.view o.view
        → (EachWire IsShut (i.wire ∷ []) × EachWire IsShut (o.wire ∷ [])) ⊎ RowRests g w k n.kind n.decider (i.wire ∷ []) (o.wire ∷ [])
    trip_stays si so ri ro (busy on xi yo) =
        inr (machine.rests g w k n.decider (i.wire ∷ []) (o.wire ∷ []) (inl (waited_rests (linear w.book passing) (begin_work k n.decider passing) i o si so ri ro (trip_waited w.book x i.view o.view i.got o.sent passed on xi yo) xi yo)))
    trip_stays si so ri ro (free xi yo) = inr (machine.rests g w k n.decider (i.wire ∷ []) (o.wire ∷ []) (inr (inl (ro.unasked yo, idles i ri xi))))
    trip_stays si so ri ro (gone xi yo) = inl ((ri.shut xi, tt), (ro.shut yo, tt))

    pub trip_picture : Laws (node.State (Tripping first)) (node.State (Tripping x)) (i ∷ []) (o ∷ [])
    trip_picture = record {
      lawful = λ si so m. machine.lawful g w k n.decider (i.wire ∷ []) (o.wire ∷ []) (
        stage_given (linear w.book passing) (begin_work k n.decider passing) (trip_held n.decider x) i o passed si.0 so.0,
        λ some. trip_asked si.0 so.0 (m 0 (reached i si.0 some)) some,
      );
      rests = λ si so ri ro. trip_stays si.0 so.0 ri.0 ro.0 (passing_ports x.phase i.view o.view r.started r.ports);
      matches = λ sink ri. absurd (not_both machine.no_sink sink);
    }
