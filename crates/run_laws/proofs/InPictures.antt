-- The rows of a stage with several inputs in a picture, by its kind.
use Rattle.std.specs.Prelude.{slice_get, ◌==◌}
use Rattle.std.proofs.Common.{◌≡◌, ◌≢◌, ℕ, ◌+◌, ◌⊎◌, inl, inr, Bool, true, false, List, [], ◌∷◌, map, Option, Some, None, refl, sym, ap, subst, ◌∙◌}
use Rattle.elem_core.specs.Tree.{Tree}
use Rattle.elem_core.specs.declared.why.Decider.{Decider}
use Rattle.port_core.specs.View as port
use Rattle.port_core.specs.declared.view.InView.{InView}
use Rattle.port_core.specs.declared.view.InView.TheVariants.{Idle, Pulled, Finished, Cancelled}
use Rattle.stream_model.specs.declared.kind.Kind.{Kind}
use Rattle.stream_model.specs.declared.kind.Kind.TheVariants.{Merge, MergeHub, Concat, Interleave, MergeSorted, Zip}
use Rattle.stream_model.specs.FanIn.{Inflow, interleave_taken}
use Rattle.stream_model.specs.Graph.{Graph}
use Rattle.stream_model.specs.Graph as graph
use Rattle.stream_model.specs.Node.{World}
use Rattle.stream_model.specs.Outlook.{Outlook, End}
use Rattle.port_core.specs.Picks.{next_move}
use Rattle.port_core.specs.declared.pick_log.Next.{Next}
use Rattle.stage_merge.specs.Rows.{MergeRestsBy, MergeMisfits}
use Rattle.stream_model.specs.OneWay.{is_sink}
use Rattle.stream_model.specs.View as picture
use Rattle.stream_model.specs.View.{EachWire, SomeWire}
use Rattle.stream_model.specs.Lawful.{RowLawful, MergeLawful}
use Rattle.stream_model.specs.Rests.{IsShut, IsLane, RowRests, MergeRests, ConcatRests, turns_stop, TurnRests, InterleaveRests, SortedRests, ZipRests}
use Rattle.stage_core.specs.Fans.{FanKeeps, FanKept}
use Rattle.stage_core.specs.Held.{told}
use Rattle.stage_core.specs.OwnPorts.{own_output}
use Rattle.stage_core.specs.Zips.{ZipKeeps}
use Rattle.stage_core.specs.declared.phase.Phase.{Phase}
use Rattle.stage_core.specs.declared.phase.Phase.TheVariants.{New, Open, Closed}
use Rattle.stage_in.specs.declared.logic.InLogic.{InLogic}
use Rattle.stage_in.specs.declared.logic.InLogic.TheVariants as logic
use Rattle.stage_in.specs.Kinds.{taking_by, sorting}
use Rattle.stage_in.specs.Logics.{Begins, TakesAs, InAsking, InPortState, InLaw}
use Rattle.stage_in.specs.Moves.{in_moves, in_plan, TellsMoves}
use Rattle.stage_merge.specs.Mergings as merging
use Rattle.stage_merge.specs.Mergings.{Merging}
use Rattle.stage_core.specs.OwnRows.{own_inputs, FanRests}
use Rattle.stage_in.specs.OwnRows.{TakingRests}
use Rattle.stage_in.specs.Pairings.{Pairing, inlet_view, port_state_by}
use Rattle.stage_core.specs.Seats.{InsClosed}
use Rattle.stage_in.specs.Seats.{seat, seats, none_of}
use Rattle.stage_in.specs.Sortings as sorted
use Rattle.stage_in.specs.Takings as taking
use Rattle.stage_in.specs.Zippings as zipping
use Rattle.stage_in.proofs.Nodes.{logic_rests, free_rests, plan_stays}
use Rattle.stage_in.proofs.TurnStops.{stops_here}
use Rattle.run_laws.specs.Items.{AllMayPass}
use Rattle.run_laws.specs.KindLaws.{PictureLaws}
use Rattle.run_laws.specs.Replayed.{Plans, left}
use Rattle.run_laws.proofs.Freely.{left_is}
use Rattle.run_laws.proofs.Misfits.{ins_stop}
use Rattle.run_laws.specs.Ports.{InPort, OutPort, EachPort, InStands, OutStands, InRests, OutRests, gots_of}
use Rattle.run_laws.proofs.Coming.{elements_told}
use Rattle.run_laws.proofs.Histories.{list_of_told}
use Rattle.run_laws.specs.Unmoved.{never_ends}
use Rattle.run_laws.proofs.Flows.{Flows, law_flows}
use Rattle.run_laws.proofs.Orders.{Views, Wires}
use Rattle.run_laws.proofs.InRows.{InView_of, InMoments, one_list, concat_lawful, interleave_lawful, sorted_lawful, zip_lawful}
use Rattle.run_laws.proofs.Transport.{own_in, own_out, each, shuts, out_shuts, merge_rests, merge_rests_by, concat_rests, turn_rests, turns_stop_there, sorted_rests, zip_rests}
use Rattle.run_laws.proofs.InMoments.{seat_left}
use Rattle.run_laws.proofs.MergeRows.{merge_lawful}

-- ---- what the stage shows of its ports

ins_same : (is : List InPort) (fs : List Inflow) → Flows (Views is) (gots_of is) fs → own_inputs (Views is) fs ≡ map own_in is
ins_same [] [] w = refl
ins_same [] (f ∷ fs) w = absurd w
ins_same (i ∷ is) [] w = absurd w
ins_same (i ∷ is) (f ∷ fs) w = rw (ins_same is fs w.1, w.0.0, elements_told f.list f.end, list_of_told f.list f.end) refl

pub out_same : (o : OutPort) (g : List Tree) (e : End) → o.sent ≡ told g e → own_output o.view g ≡ own_out o
out_same o g e h = rw (h, elements_told g e, list_of_told g e) refl

module _ (P : List picture.SeenWire → picture.SeenWire → Type 0) (is : List InPort) (o : OutPort) (ri : EachPort InRests is) (ro : OutRests o) where
  fan_moved : (fs : List Inflow) (g : List Tree) (e : End) → Flows (Views is) (gots_of is) fs → o.sent ≡ told g e → (P (map own_in is) (own_out o) → P (Wires is) o.wire) → FanRests P (InView_of is o) fs g
      → (EachWire IsShut (Wires is) × EachWire IsShut (o.wire ∷ [])) ⊎ P (Wires is) o.wire
  fan_moved fs g e w t move (inl h) =
      inl (each IsShut IsShut shuts is ri (subst (λ (vs : List picture.SeenWire). EachWire IsShut vs) (ins_same is fs w) h.0), (out_shuts o ro (subst IsShut (out_same o g e t) h.1.0), tt))
  fan_moved fs g e w t move (inr h) = inr (move (subst (λ (v : picture.SeenWire). P (map own_in is) v) (out_same o g e t) (subst (λ (vs : List picture.SeenWire). P vs (own_output o.view g)) (ins_same is fs w) h)))

-- ---- one that has closed its ports

all_closed : (is : List InPort) → EachPort InRests is → InsClosed (Views is) → EachWire IsShut (Wires is)
all_closed [] r c = tt
all_closed (i ∷ is) r c = (r.0.shut c.0, all_closed is r.1 c.1)

-- an open zip has cancelled no input
not_left : (x : InView) (h : Option Tree) (b : Bool) → x ≡ inlet_view (record { held = h; over = b }) → x ≢ Cancelled
not_left x h true e = λ l. let z : Finished ≡ Cancelled = sym e ∙ l in cc
not_left x None false e = λ l. let z : Pulled ≡ Cancelled = sym e ∙ l in cc
not_left x (Some t) false e = λ l. let z : Idle ≡ Cancelled = sym e ∙ l in cc

none_left : (is : List InPort) (l : Pairing) → Views is ≡ inlet_view l.left ∷ inlet_view l.right ∷ [] → EachPort (λ i. i.view ≢ Cancelled) is
none_left [] l e = cc
none_left (i ∷ []) l e = cc
none_left (i ∷ j ∷ k ∷ is) l e = cc
none_left (i ∷ j ∷ []) l e =
    let a : i.view ≡ inlet_view l.left = cc in
    let b : j.view ≡ inlet_view l.right = cc in
    (not_left i.view l.left.held l.left.over a, (not_left j.view l.right.held l.right.over b, tt))

-- ---- by kinds

module _ (g : Graph) (w : World) (k : ℕ) (d : Decider) (is : List InPort) (o : OutPort) where
  abbrev Row : InLogic → Type 0
  Row now = InPortState now (InView_of is o)

  abbrev Law : InLogic → InLogic → Type 0
  Law first now = InLaw first now (InView_of is o) (gots_of is) (o.sent ∷ [])

  pub lawful_by : (kd : Kind) (first now : InLogic) → TakesAs kd first → TellsMoves w k now → Law first now → EachPort InStands is → OutStands o → InMoments first now is o → RowLawful g w k kd d (Wires is) (o.wire ∷ [])
  lawful_by (Concat n) (logic.Taking f) (logic.Taking l) t tells law s so m = concat_lawful f l is o law s so t.0 t.1 m
  lawful_by (Interleave n c) (logic.Taking f) (logic.Taking l) t tells law s so m = interleave_lawful f l is o law s so c t.1 m
  lawful_by MergeSorted (logic.Sorting f) (logic.Sorting l) t tells law s so m = sorted_lawful f l o is law s so m
  lawful_by Zip (logic.Zipping f) (logic.Zipping l) t tells law s so m = zip_lawful f l o is law s so m
  lawful_by (Merge n) (logic.Merging f) (logic.Merging l) t tells law s so m = subst (λ ms. MergeLawful ms (Wires is) o.wire) (sym (tells l.log.moves refl)) (merge_lawful f l is o law s so m)
  lawful_by (MergeHub c n) (logic.Merging f) (logic.Merging l) t tells law s so m = subst (λ ms. MergeLawful ms (Wires is) o.wire) (sym (tells l.log.moves refl)) (merge_lawful f l is o law s so m)
  lawful_by (Concat n) (logic.Taking f) now t tells law s so m = absurd law.same
  lawful_by (Interleave n c) (logic.Taking f) now t tells law s so m = absurd law.same
  lawful_by MergeSorted (logic.Sorting f) now t tells law s so m = absurd law.same
  lawful_by Zip (logic.Zipping f) now t tells law s so m = absurd law.same
  lawful_by (Merge n) (logic.Merging f) now t tells law s so m = absurd law.same
  lawful_by (MergeHub c n) (logic.Merging f) now t tells law s so m = absurd law.same
  lawful_by kd first now t tells law s so m = absurd t

  abbrev Stays : Kind → Type 0
  Stays kd = (EachWire IsShut (Wires is) × EachWire IsShut (o.wire ∷ [])) ⊎ RowRests g w k kd d (Wires is) (o.wire ∷ [])

  module _ (ri : EachPort InRests is) (ro : OutRests o) where
    zip_stays : (f l : Pairing) (p : Phase) → l.phase ≡ p → Row (logic.Zipping l) → port_state_by zipping.Sound p l (InView_of is o) → Law (logic.Zipping f) (logic.Zipping l) → EachPort InStands is → OutStands o
        → (EachWire IsShut (Wires is) × EachWire IsShut (o.wire ∷ [])) ⊎ ZipRests (Wires is) o.wire
    zip_stays f l New e r at law s so = absurd (r.started e)
    zip_stays f l Closed e r at law s so = inl (all_closed is ri at.0, (ro.shut at.1, tt))
    zip_stays f l Open e r at law s so =
        fan_moved ZipRests is o ri ro law.by.law.ins law.by.law.out_list law.by.law.out_end (law_flows (ZipKeeps (zipping.held l)) (InView_of is o) (gots_of is) (o.sent ∷ []) law.by) (one_list o.sent law.by.given law.by.gave_is ∙ law.by.law.gave_is)
        (zip_rests is o ri ro so (none_left is l (ap (λ (v : port.View). v.ins) at.0)) s) (logic_rests (logic.Zipping f) (logic.Zipping l) (InView_of is o) (gots_of is) (o.sent ∷ []) r.started tt r.ports law)

    -- one with two inputs
    sorted_moved : (l : Pairing) → Views is ≡ inlet_view l.left ∷ inlet_view l.right ∷ [] → EachPort InStands is → OutStands o → SortedRests (map own_in is) (own_out o) → SortedRests (Wires is) o.wire
    sorted_moved l at s so h = two is ri s (none_left is l at) h
      where
        two : (js : List InPort) → EachPort InRests js → EachPort InStands js → EachPort (λ i. i.view ≢ Cancelled) js → SortedRests (map own_in js) (own_out o) → SortedRests (Wires js) o.wire
        two [] r s ne h = absurd h
        two (i ∷ []) r s ne h = absurd h
        two (i ∷ j ∷ []) r s ne h = sorted_rests i j o r ro so ne s h
        two (i ∷ j ∷ k ∷ js) r s ne h = absurd h

    sorted_stays : (f l : Pairing) (p : Phase) → l.phase ≡ p → Row (logic.Sorting l) → port_state_by sorted.Sound p l (InView_of is o) → Law (logic.Sorting f) (logic.Sorting l) → EachPort InStands is → OutStands o
        → (EachWire IsShut (Wires is) × EachWire IsShut (o.wire ∷ [])) ⊎ SortedRests (Wires is) o.wire
    sorted_stays f l New e r at law s so = absurd (r.started e)
    sorted_stays f l Closed e r at law s so = inl (all_closed is ri at.0, (ro.shut at.1, tt))
    sorted_stays f l Open e r at law s so =
        fan_moved SortedRests is o ri ro law.by.law.ins law.by.law.out_list law.by.law.out_end (law_flows (FanKeeps sorting sorted.nowhere (sorted.held l)) (InView_of is o) (gots_of is) (o.sent ∷ []) law.by) (one_list o.sent law.by.given law.by.gave_is ∙ law.by.law.gave_is)
        (sorted_moved l (ap (λ (v : port.View). v.ins) at.0) s so) (logic_rests (logic.Sorting f) (logic.Sorting l) (InView_of is o) (gots_of is) (o.sent ∷ []) r.started tt r.ports law)

    taking_stays : (f l : taking.Taking) (P : List picture.SeenWire → picture.SeenWire → Type 0) → TakingRests l.segment l.current ≡ P → Row (logic.Taking l) → Law (logic.Taking f) (logic.Taking l) → (P (map own_in is) (own_out o) → P (Wires is) o.wire)
        → (EachWire IsShut (Wires is) × EachWire IsShut (o.wire ∷ [])) ⊎ P (Wires is) o.wire
    taking_stays f l P by r law move =
        fan_moved P is o ri ro law.by.law.ins law.by.law.out_list law.by.law.out_end (law_flows (FanKeeps (taking_by f.segment) (taking.place_of f) (taking.held l)) (InView_of is o) (gots_of is) (o.sent ∷ []) law.by) (one_list o.sent law.by.given law.by.gave_is ∙ law.by.law.gave_is)
        move (subst (λ (Q : List picture.SeenWire → picture.SeenWire → Type 0). FanRests Q (InView_of is o) law.by.law.ins law.by.law.out_list) by (logic_rests (logic.Taking f) (logic.Taking l) (InView_of is o) (gots_of is) (o.sent ∷ []) r.started tt r.ports law))

    -- one that is open has cancelled no input
    open_seats : (n c : ℕ) (asked : Bool) (over : List Bool) (js : List InPort) → Views js ≡ seats n over c asked → EachPort (λ i. i.view ≢ Cancelled) js
    open_seats n c asked over [] e = tt
    open_seats n c asked [] (j ∷ js) e = cc
    open_seats n c asked (b ∷ over) (j ∷ js) e =
        let here : j.view ≡ seat b (n == c) asked = cc in
        let rest : Views js ≡ seats (n + 1) over c asked = cc in
        (subst (λ (x : InView). x ≢ Cancelled) (sym here) (seat_left b (n == c) asked), open_seats (n + 1) c asked over js rest)

    -- an interleave
    module _ (c : ℕ) (f l : taking.Taking) (segment : f.segment ≡ Some c) (begins : (taking_by f.segment).from (taking.place_of f) ≡ interleave_taken c) (law : Law (logic.Taking f) (logic.Taking l)) where
      -- where it is open its turns stop at its current input
      own_stops : l.live ≡ true → Views is ≡ seats 0 l.over l.current l.asked → slice_get l.over l.current ≡ Some false → turns_stop c (map own_in is) ≡ Some l.current
      own_stops live views here =
          let keeps = subst (λ (b : Bool). FanKeeps (taking_by f.segment) (taking.place_of f) (taking.held_by b (taking.place_of l) l.over) law.by.law.ins law.by.law.out_list law.by.law.out_end) live law.by.law.keeps in
          let kept = subst (λ (m : Option ℕ). FanKept (taking_by m) (taking.place_of f) (taking.place_of l) (none_of l.over) law.by.law.ins law.by.law.out_list) segment keeps.1 in
          let from = subst (λ (m : Option ℕ). (taking_by m).from (taking.place_of f) ≡ interleave_taken c) segment begins in
          let stops = stops_here c (taking.place_of f) l law.by.law.ins law.by.law.out_list from here kept in
          let flows = law_flows (FanKeeps (taking_by f.segment) (taking.place_of f) (taking.held l)) (InView_of is o) (gots_of is) (o.sent ∷ []) law.by in
          subst (λ (vs : List picture.SeenWire). turns_stop c vs ≡ Some l.current) (ap (λ (xs : List InView). own_inputs xs law.by.law.ins) (sym views) ∙ ins_same is law.by.law.ins flows) stops

      interleave_stays : Row (logic.Taking l) → (EachWire IsShut (Wires is) × EachWire IsShut (o.wire ∷ [])) ⊎ InterleaveRests c (Wires is) o.wire
      interleave_stays r = by l.live refl r.ports
        where
          by : (b : Bool) → l.live ≡ b → taking.port_state_by b l (InView_of is o) → (EachWire IsShut (Wires is) × EachWire IsShut (o.wire ∷ [])) ⊎ InterleaveRests c (Wires is) o.wire
          by false live at = inl (all_closed is ri at.0, (ro.shut at.1, tt))
          by true live at = stronger (taking_stays f l (TurnRests l.current) (ap (λ (m : Option ℕ). TakingRests m l.current) (law.same ∙ segment)) r law (turn_rests is o ri ro l.current))
            where
              views : Views is ≡ seats 0 l.over l.current l.asked
              views = ap (λ (v : port.View). v.ins) at.0

              stops : SomeWire IsLane (Wires is) ⊎ (turns_stop c (Wires is) ≡ Some l.current)
              stops = turns_stop_there c l.current is ri (open_seats 0 l.current l.asked l.over is views) (own_stops live views at.1.here)

              stronger : (EachWire IsShut (Wires is) × EachWire IsShut (o.wire ∷ [])) ⊎ TurnRests l.current (Wires is) o.wire → (EachWire IsShut (Wires is) × EachWire IsShut (o.wire ∷ [])) ⊎ InterleaveRests c (Wires is) o.wire
              stronger (inl h) = inl h
              stronger (inr (inl h)) = inr (inl (h.0, (l.current, h.1, stops)))
              stronger (inr (inr h)) = inr (inr h)

    -- a merge, or a merge hub
    merging_stays : (f l : Merging) → in_plan (logic.Merging f) ≡ None → TellsMoves w k (logic.Merging l) → Row (logic.Merging l) → Law (logic.Merging f) (logic.Merging l) → (EachWire IsShut (Wires is) × EachWire IsShut (o.wire ∷ [])) ⊎ MergeRests (w.moves k) (Wires is) o.wire
    merging_stays f l free tells r law =
        subst (λ (ms : List ℕ). (EachWire IsShut (Wires is) × EachWire IsShut (o.wire ∷ [])) ⊎ MergeRests ms (Wires is) o.wire) (sym (tells l.log.moves refl))
        (fan_moved (MergeRests l.log.moves) is o ri ro law.by.law.ins law.by.law.out_list law.by.law.out_end (law_flows (merging.KeepsAs f.gathers (merging.held l)) (InView_of is o) (gots_of is) (o.sent ∷ []) law.by) (one_list o.sent law.by.given law.by.gave_is ∙ law.by.law.gave_is)
        (merge_rests is o ri ro l.log.moves) (free_rests (logic.Merging f) (logic.Merging l) (InView_of is o) (gots_of is) (o.sent ∷ []) free r.started r.ports law))

    -- where these come in, one that follows moves meets its row by what its next move is to be, or has the cause of a misfit
    abbrev pub Led : List Outlook → Bool → Next → List ℕ → Type 0
    Led comes gathers next moves = (EachWire IsShut (Wires is) × EachWire IsShut (o.wire ∷ [])) ⊎ (MergeRestsBy next moves (Wires is) o.wire ⊎ MergeMisfits gathers next moves comes)

    pub led_stays : (plans : Plans) (comes : List Outlook) (f l : Merging) → plans k ≡ in_plan (logic.Merging f) → TellsMoves w k (logic.Merging l) → Row (logic.Merging l) → Law (logic.Merging f) (logic.Merging l) → AllMayPass comes (gots_of is)
        → Led comes l.gathers (next_move (left g w plans k)) (w.moves k)
    led_stays plans comes f l follows tells r law may =
        subst (λ (rest : Option (List ℕ)). Led comes l.gathers (next_move rest) (w.moves k)) (sym rest_is) (subst (λ (ms : List ℕ). Led comes l.gathers (next_move l.log.left) ms) (sym told_so) (by l.log.stuck refl))
      where
        told_so : w.moves k ≡ l.log.moves
        told_so = tells l.log.moves refl

        rest_is : left g w plans k ≡ l.log.left
        rest_is = left_is (plans k) l.log.left l.log.moves (w.moves k) (follows ∙ sym (plan_stays (logic.Merging f) (logic.Merging l) (InView_of is o) (gots_of is) (o.sent ∷ []) law)) told_so

        row : (EachWire IsShut (Wires is) × EachWire IsShut (o.wire ∷ [])) ⊎ MergeRestsBy (next_move l.log.left) l.log.moves (Wires is) o.wire → Led comes l.gathers (next_move l.log.left) l.log.moves
        row (inl shut) = inl shut
        row (inr h) = inr (inl h)

        by : (stuck : Bool) → l.log.stuck ≡ stuck → Led comes l.gathers (next_move l.log.left) l.log.moves
        by true e = inr (inr (ins_stop comes (logic.Merging f) (logic.Merging l) (InView_of is o) (gots_of is) (o.sent ∷ []) law may e))
        by false e =
            row
            (fan_moved (MergeRestsBy (next_move l.log.left) l.log.moves) is o ri ro law.by.law.ins law.by.law.out_list law.by.law.out_end (law_flows (merging.KeepsAs f.gathers (merging.held l)) (InView_of is o) (gots_of is) (o.sent ∷ []) law.by)
            (one_list o.sent law.by.given law.by.gave_is ∙ law.by.law.gave_is) (merge_rests_by is o ri ro (next_move l.log.left) l.log.moves) (logic_rests (logic.Merging f) (logic.Merging l) (InView_of is o) (gots_of is) (o.sent ∷ []) r.started e r.ports law))

    stays_by : (kd : Kind) (first now : InLogic) → TakesAs kd first → in_plan first ≡ None → TellsMoves w k now → Row now → Law first now → EachPort InStands is → OutStands o → Stays kd
    stays_by (Concat n) (logic.Taking f) (logic.Taking l) t free tells r law s so = taking_stays f l ConcatRests (ap (λ (m : Option ℕ). TakingRests m l.current) (law.same ∙ t.0)) r law (concat_rests is o ri ro)
    stays_by (Interleave n c) (logic.Taking f) (logic.Taking l) t free tells r law s so = interleave_stays c f l t.0 t.1 law r
    stays_by MergeSorted (logic.Sorting f) (logic.Sorting l) t free tells r law s so = sorted_stays f l l.phase refl r r.ports law s so
    stays_by Zip (logic.Zipping f) (logic.Zipping l) t free tells r law s so = zip_stays f l l.phase refl r r.ports law s so
    stays_by (Merge n) (logic.Merging f) (logic.Merging l) t free tells r law s so = merging_stays f l free tells r law
    stays_by (MergeHub c n) (logic.Merging f) (logic.Merging l) t free tells r law s so = merging_stays f l free tells r law
    stays_by (Concat n) (logic.Taking f) now t free tells r law s so = absurd law.same
    stays_by (Interleave n c) (logic.Taking f) now t free tells r law s so = absurd law.same
    stays_by MergeSorted (logic.Sorting f) now t free tells r law s so = absurd law.same
    stays_by Zip (logic.Zipping f) now t free tells r law s so = absurd law.same
    stays_by (Merge n) (logic.Merging f) now t free tells r law s so = absurd law.same
    stays_by (MergeHub c n) (logic.Merging f) now t free tells r law s so = absurd law.same
    stays_by kd first now t free tells r law s so = absurd t

pub no_sink : (kd : Kind) (first : InLogic) → TakesAs kd first → is_sink kd ≡ false
no_sink (Concat n) (logic.Taking f) t = refl
no_sink (Interleave n c) (logic.Taking f) t = refl
no_sink MergeSorted (logic.Sorting f) t = refl
no_sink Zip (logic.Zipping f) t = refl
no_sink (Merge n) (logic.Merging f) t = refl
no_sink (MergeHub c n) (logic.Merging f) t = refl
no_sink kd first t = absurd t

module _ (g : Graph) (w : World) (k : ℕ) (n : graph.Node) where
  pub in_picture : (first now : InLogic) (is : List InPort) (os : List OutPort) → Begins k n.kind n.decider first → in_plan first ≡ None → TellsMoves w k now → InPortState now (record { ins = Views is; outs = map (λ (o : OutPort). o.view) os })
      → InLaw first now (record { ins = Views is; outs = map (λ (o : OutPort). o.view) os }) (gots_of is) (map (λ (o : OutPort). o.sent) os) → PictureLaws InPortState InLaw InAsking in_moves never_ends g w k n first now is os
  in_picture first now is [] b free tells r law = let none = law.by.gave_is in absurd cc
  in_picture first now is (o ∷ p ∷ os) b free tells r law = let more = law.by.gave_is in absurd cc
  in_picture first now is (o ∷ []) b free tells r law = record {
    lawful = λ s so m. lawful_by g w k n.decider is o n.kind first now b.takes tells law s so.0 m;
    rests = λ s so ri ro. stays_by g w k n.decider is o ri ro.0 n.kind first now b.takes free tells r law s so.0;
    matches = λ sink ri. let no = no_sink n.kind first b.takes in let z : true ≡ false = sym sink ∙ no in absurd cc;
  }
