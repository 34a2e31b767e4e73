-- The stages with several inputs as nodes: where they are open, what they know between calls, and how calls keep their law.
use Rattle.std.specs.Prelude.{slice_index_or, Option}
use Rattle.std.proofs.Common.{◌≡◌, ℕ, zero, suc, ◌+◌, ◌≤◌, Bool, true, false, List, [], ◌∷◌, length, refl, sym, ap, ◌∙◌, subst, arith, None}
use Rattle.elem_core.specs.Tree.{Tree}
use Rattle.elem_core.specs.declared.item.Item.{Item}
use Rattle.port_core.specs.declared.act.Act.{Act}
use Rattle.port_core.specs.declared.view.InView.{InView}
use Rattle.port_core.specs.declared.view.InView.TheVariants.{Idle}
use Rattle.port_core.specs.declared.view.OutView.{OutView}
use Rattle.port_core.specs.declared.view.OutView.TheVariants as outlet
use Rattle.port_core.specs.View.{View, ActsAllowed, acted_all}
use Rattle.port_core.specs.Asking.{PullsStand}
use Rattle.port_core.specs.Call.{AllIdle, AllUnpulled, Call, starts, CallAllowed, Meets, seen, Obeys, given_on}
use Rattle.stream_model.specs.Outlook.{Outlook, End, unended}
use Rattle.stream_model.specs.FanIn.{Inflow, AllAgree}
use Rattle.stream_model.specs.View as picture
use Rattle.elem_core.specs.Prefix.{IsPrefix}
use Rattle.stream_model.specs.Rests.{SortedRests, ZipRests}
use Rattle.stage_core.specs.Rooms.{acts_for}
use Rattle.stage_core.specs.Handling.{Pulls, Starts, Handles}
use Rattle.stage_core.specs.Histories.{given_all, brought_by, AllEmpty}
use Rattle.stage_core.specs.Law.{GaveAs}
use Rattle.stage_core.specs.Inflows.{PortsLaw, nothing_came, untouched}
use Rattle.stage_core.specs.Fans.{FanHeld, FanTurnAt, FanKeeps}
use Rattle.stage_core.specs.Fans as fan
use Rattle.stage_core.specs.Zips.{ZipHeld, ZipKeeps}
use Rattle.stage_core.specs.Zips as zip
use Rattle.stage_core.specs.Merges.{call_by}
use Rattle.stage_core.proofs.FanTurns.{fan_new}
use Rattle.stage_core.proofs.ZipTurns.{zip_new}
use Rattle.stage_core.specs.declared.phase.Phase.{Phase}
use Rattle.stage_core.specs.declared.phase.Phase.TheVariants.{New, Open, Closed}
use Rattle.stage_in.specs.declared.logic.InLogic.{InLogic}
use Rattle.stage_in.specs.declared.logic.InLogic.TheVariants as logic
use Rattle.stage_in.specs.Kinds.{taking_by, sorting}
use Rattle.stage_core.specs.Seats.{room_for, wish}
use Rattle.stage_in.specs.Seats.{seats, none_of}
use Rattle.stage_in.specs.declared.inlet.Inlet.{Inlet}
use Rattle.stage_in.specs.Pairings.{Pairing, IsVacant, inlet_flow, port_state_by}
use Rattle.stage_in.specs.Takings as taking
use Rattle.stage_in.specs.Takings.{Taking}
use Rattle.stage_in.specs.Sortings as sorted
use Rattle.stage_in.specs.Zippings as zipping
use Rattle.stage_merge.specs.Mergings as merging
use Rattle.stage_merge.specs.Mergings.{Merging, OwesAt}
use Rattle.stage_merge.specs.Rows.{MergeRestsBy, MergeMisfits}
use Rattle.stage_merge.proofs.Mergers.{new_is_calm}
use Rattle.stage_merge.proofs.MergeNodes as merge
use Rattle.port_core.specs.Picks.{next_move}
use Rattle.stage_core.specs.OwnRows.{FanRests}
use Rattle.stage_core.specs.PortsLaws.{InPortsLaw}
use Rattle.stage_in.specs.Logics.{InAsking, IsNew, IsOpen, IsStarted, room_of, port_state, Turned, InFresh, InPortState, InLaw, KindRests, FreeRests, NotStuck, StopsRightly}
use Rattle.stage_in.specs.Moves.{in_moves, in_plan}
use Rattle.stage_core.proofs.Closings.{none_called, closed_rests}
use Rattle.stage_in.proofs.Rests.{length-seats, taking_rests, sorting_rests, zipping_rests}
use Rattle.stage_core.proofs.Histories.{begun}
use Rattle.stage_in.proofs.Histories.{fan_node, zip_node}

-- ---- where it is called it is open

open_taking : (l : Taking) (c : Call) (v : View) (b : Bool) → l.live ≡ b → (c ≡ starts → ⊥) → CallAllowed c v → taking.port_state_by b l v → l.live ≡ true
open_taking l c v true e n m r = e
open_taking l c v false e n m r = absurd (none_called c v m r)

open_pairing : (Sound : Pairing → Type 0) (l : Pairing) (c : Call) (v : View) (p : Phase) → l.phase ≡ p → (l.phase ≡ New → ⊥) → (c ≡ starts → ⊥) → CallAllowed c v → port_state_by Sound p l v → l.phase ≡ Open
open_pairing Sound l c v New e s n m r = absurd (s e)
open_pairing Sound l c v Open e s n m r = e
open_pairing Sound l c v Closed e s n m r = absurd (none_called c v m r)

pub called_open : (l : InLogic) (c : Call) (v : View) → IsStarted l → (c ≡ starts → ⊥) → CallAllowed c v → port_state l v → IsOpen l
called_open (logic.Taking l) c v s n m r = open_taking l c v l.live refl n m r
called_open (logic.Sorting l) c v s n m r = open_pairing sorted.Sound l c v l.phase refl s n m r
called_open (logic.Zipping l) c v s n m r = open_pairing zipping.Sound l c v l.phase refl s n m r
called_open (logic.Merging l) c v s n m r = merge.called_open l c v s m r

-- the same of a call of each kind
module _ (c : Call) (n : c ≡ starts → ⊥) (whole : InLogic) (s : IsStarted whole) (m : Meets c (port_state whole)) where
  pub taking_open : (l : Taking) → whole ≡ logic.Taking l → l.live ≡ true
  taking_open l is = called_open (logic.Taking l) c m.0 tt n m.1.0 (subst (λ x. port_state x m.0) is m.1.1)

  pub sorting_open : (l : Pairing) → whole ≡ logic.Sorting l → l.phase ≡ Open
  sorting_open l is = called_open (logic.Sorting l) c m.0 (subst IsStarted is s) n m.1.0 (subst (λ x. port_state x m.0) is m.1.1)

  pub zipping_open : (l : Pairing) → whole ≡ logic.Zipping l → l.phase ≡ Open
  zipping_open l is = called_open (logic.Zipping l) c m.0 (subst IsStarted is s) n m.1.0 (subst (λ x. port_state x m.0) is m.1.1)

  pub merging_open : (l : Merging) → whole ≡ logic.Merging l → l.core.phase ≡ Open
  merging_open l is = called_open (logic.Merging l) c m.0 (subst IsStarted is s) n m.1.0 (subst (λ x. port_state x m.0) is m.1.1)

-- a stage with two inputs that may be called has them open
pairing_fits : (Sound : Pairing → Type 0) (p : Phase) (l : Pairing) (c : Call) (v : View) → CallAllowed c v → port_state_by Sound p l v → room_for 2 ≤ acts_for v
pairing_fits Sound New l c v m r =
    let ins : length v.ins ≡ 2 = ap (λ (w : View). length w.ins) r.0 in
    let outs : length v.outs ≡ 1 = ap (λ (w : View). length w.outs) r.0 in
    omega (arith, ins, outs)
pairing_fits Sound Open l c v m r =
    let ins : length v.ins ≡ 2 = ap (λ (w : View). length w.ins) r.0 in
    let outs : length v.outs ≡ 1 = ap (λ (w : View). length w.outs) r.0 in
    omega (arith, ins, outs)
pairing_fits Sound Closed l c v m r = absurd (none_called c v m r)

-- two actions for each port are enough
pub called_fits : (l : InLogic) (c : Call) (v : View) → CallAllowed c v → port_state l v → room_of l ≤ acts_for v
called_fits (logic.Taking l) c v m r = by_live l.live r
  where
    by_live : (b : Bool) → taking.port_state_by b l v → room_of (logic.Taking l) ≤ acts_for v
    by_live true r =
        let ins : length v.ins ≡ length l.over = ap (λ (w : View). length w.ins) r.0 ∙ length-seats 0 l.current l.over l.asked in
        let outs : length v.outs ≡ 1 = ap (λ (w : View). length w.outs) r.0 in
        omega (arith, ins, outs)
    by_live false r = absurd (none_called c v m r)
called_fits (logic.Sorting l) c v m r = pairing_fits sorted.Sound l.phase l c v m r
called_fits (logic.Zipping l) c v m r = pairing_fits zipping.Sound l.phase l c v m r
called_fits (logic.Merging l) c v m r = merge.called_fits l c v m r

-- ---- between two calls

-- two inputs
record Two (ins : List Inflow) : Type 0 where
  pub a : Inflow
  pub b : Inflow
  pub is : ins ≡ a ∷ b ∷ []

two_of : (ins : List Inflow) → length ins ≡ 2 → Two ins
two_of [] h = absurd (omega (arith, h))
two_of (a ∷ []) h = absurd (omega (arith, h))
two_of (a ∷ b ∷ []) h = record { a = a; b = b; is = refl }
two_of (a ∷ b ∷ c ∷ ins) h = absurd (omega (arith, h))

-- one with two inputs, by what it does where it is open
rests_of : (P : List picture.SeenWire → picture.SeenWire → Type 0) (Sound : Pairing → Type 0) (l : Pairing) (v : View) (ins : List Inflow) (g : List Tree) (p : Phase) → l.phase ≡ p → (l.phase ≡ New → ⊥) → port_state_by Sound p l v → length ins ≡ length v.ins
    → ((a b : Inflow) → ins ≡ a ∷ b ∷ [] → l.phase ≡ Open → FanRests P v (a ∷ b ∷ []) g) → FanRests P v ins g
rests_of P Sound l v ins g New e s r long at = absurd (s e)
rests_of P Sound l v ins g Open e s r long at =
    let two = two_of ins (long ∙ ap (λ (w : View). length w.ins) r.0) in
    subst (λ fs. FanRests P v fs g) (sym two.is) (at two.a two.b two.is e)
rests_of P Sound l v ins g Closed e s r long at = closed_rests P v ins g r

-- a merge's law is that of its kind
abbrev pub merge_law : (f l : Merging) (v : View) (took gave : List (List Item)) → InLaw (logic.Merging f) (logic.Merging l) v took gave → merging.MergesAs f l v took gave
merge_law f l v took gave law = record { unmoved = law.same.0; way = law.same.1.0; plan = law.same.1.1; by = law.by }

pub logic_rests : (first now : InLogic) (v : View) (took gave : List (List Item)) → IsStarted now → NotStuck now → port_state now v → (law : InLaw first now v took gave) → FanRests (KindRests now) v law.by.law.ins law.by.law.out_list
logic_rests (logic.Taking f) (logic.Taking l) v took gave s on r law = taking_rests l v law.by.law.ins law.by.law.out_list r law.by.law.ports
logic_rests (logic.Sorting f) (logic.Sorting l) v took gave s on r law =
    rests_of SortedRests sorted.Sound l v law.by.law.ins law.by.law.out_list l.phase refl s r law.by.law.ports
    (λ a b is e. sorting_rests l v a b law.by.law.out_list law.by.law.out_end e r (subst (λ fs. FanKeeps sorting sorted.nowhere (sorted.held l) fs law.by.law.out_list law.by.law.out_end) is law.by.law.keeps))
logic_rests (logic.Zipping f) (logic.Zipping l) v took gave s on r law =
    rests_of ZipRests zipping.Sound l v law.by.law.ins law.by.law.out_list l.phase refl s r law.by.law.ports
    (λ a b is e. zipping_rests l v a b law.by.law.out_list law.by.law.out_end e r (subst (λ fs. ZipKeeps (zipping.held l) fs law.by.law.out_list law.by.law.out_end) is law.by.law.keeps))
logic_rests (logic.Merging f) (logic.Merging l) v took gave s on r law = merge.logic_rests f l v took gave on (record { started = s; ports = r }) (merge_law f l v took gave law)
logic_rests first now v took gave s on r law = absurd law.same

-- one that was handed in to choose by itself still does so, and meets the row of its kind
pub free_rests : (first now : InLogic) (v : View) (took gave : List (List Item)) → in_plan first ≡ None → IsStarted now → port_state now v → (law : InLaw first now v took gave) → FanRests (FreeRests now) v law.by.law.ins law.by.law.out_list
free_rests (logic.Taking f) (logic.Taking l) v took gave none s r law = logic_rests (logic.Taking f) (logic.Taking l) v took gave s tt r law
free_rests (logic.Sorting f) (logic.Sorting l) v took gave none s r law = logic_rests (logic.Sorting f) (logic.Sorting l) v took gave s tt r law
free_rests (logic.Zipping f) (logic.Zipping l) v took gave none s r law = logic_rests (logic.Zipping f) (logic.Zipping l) v took gave s tt r law
free_rests (logic.Merging f) (logic.Merging l) v took gave none s r law =
    let free = merge.stays_free f l v took gave (merge.none_left_over f.log none) (merge_law f l v took gave law) in
    subst (λ (o : Option (List ℕ)). FanRests (MergeRestsBy (next_move o) l.log.moves) v law.by.law.ins law.by.law.out_list) free.none
    (logic_rests (logic.Merging f) (logic.Merging l) v took gave s free.calm r law)
free_rests first now v took gave none s r law = absurd law.same

-- one that stopped has its cause
pub stops_rightly : (is : List Outlook) (first now : InLogic) (v : View) (took gave : List (List Item)) → (law : InLaw first now v took gave) → AllAgree is law.by.law.ins → StopsRightly is now
stops_rightly is (logic.Taking f) (logic.Taking l) v took gave law a = tt
stops_rightly is (logic.Sorting f) (logic.Sorting l) v took gave law a = tt
stops_rightly is (logic.Zipping f) (logic.Zipping l) v took gave law a = tt
stops_rightly is (logic.Merging f) (logic.Merging l) v took gave law a =
    λ stuck. subst (λ b. MergeMisfits b (next_move l.log.left) l.log.moves is) (sym law.same.1.0) (merge.has_cause is f l v took gave stuck (merge_law f l v took gave law) a)
stops_rightly is first now v took gave law a = absurd law.same

-- it follows what it was handed in with
pub plan_stays : (first now : InLogic) (v : View) (took gave : List (List Item)) → InLaw first now v took gave → in_plan now ≡ in_plan first
plan_stays (logic.Taking f) (logic.Taking l) v took gave law = refl
plan_stays (logic.Sorting f) (logic.Sorting l) v took gave law = refl
plan_stays (logic.Zipping f) (logic.Zipping l) v took gave law = refl
plan_stays (logic.Merging f) (logic.Merging l) v took gave law = law.same.1.1
plan_stays first now v took gave law = absurd law.same

-- ---- calls

pub turn_keeps : (c : Call) (first old new : InLogic) (v : View) (took gave : List (List Item)) (acts : List Act) → CallAllowed c v → ActsAllowed (seen c v) acts → Turned c old acts new
    → InLaw first old v took gave → InLaw first new (acted_all (seen c v) acts) (brought_by c took) (given_all acts gave)
turn_keeps c (logic.Taking f) (logic.Taking l) (logic.Taking m) v took gave acts may allowed t law = record {
  same = t.segment ∙ law.same;
  by = fan_node (taking_by f.segment) (taking.place_of f) c (taking.held l) (taking.held m) v took gave acts may allowed (subst (λ s. FanTurnAt (taking_by s) c (taking.held l) (given_on 0 acts) (taking.held m)) law.same t.turn) law.by;
}
turn_keeps c (logic.Sorting f) (logic.Sorting l) (logic.Sorting m) v took gave acts may allowed t law = record {
  same = tt;
  by = fan_node sorting sorted.nowhere c (sorted.held l) (sorted.held m) v took gave acts may allowed t.turn law.by;
}
turn_keeps c (logic.Zipping f) (logic.Zipping l) (logic.Zipping m) v took gave acts may allowed t law = record {
  same = tt;
  by = zip_node c (zipping.held l) (zipping.held m) v took gave acts may allowed t.turn law.by;
}
turn_keeps c (logic.Merging f) (logic.Merging l) (logic.Merging m) v took gave acts may allowed t law = record {
  same = (law.same.0, (t.way ∙ law.same.1.0, t.plan ∙ law.same.1.1));
  by = merge.keeps_ports f.gathers c l m v took gave acts may allowed (subst (λ b. OwesAt (call_by b c) (merging.held l) (given_on 0 acts) (merging.held m)) law.same.1.0 t.turn) (λ next moves h. t.still (merge.is_stuck m next moves h)) law.by;
}
turn_keeps c (logic.Taking f) (logic.Taking l) new v took gave acts may allowed t law = absurd t
turn_keeps c (logic.Sorting f) (logic.Sorting l) new v took gave acts may allowed t law = absurd t
turn_keeps c (logic.Zipping f) (logic.Zipping l) new v took gave acts may allowed t law = absurd t
turn_keeps c (logic.Merging f) (logic.Merging l) new v took gave acts may allowed t law = absurd t
turn_keeps c first old new v took gave acts may allowed t law = absurd law.same

turned_started : (c : Call) (old new : InLogic) (acts : List Act) → Turned c old acts new → IsStarted new
turned_started c (logic.Taking l) (logic.Taking m) acts t = tt
turned_started c (logic.Sorting l) (logic.Sorting m) acts t = t.started
turned_started c (logic.Zipping l) (logic.Zipping m) acts t = t.started
turned_started c (logic.Merging l) (logic.Merging m) acts t = t.started
turned_started c old new acts t = absurd t

turned_stands : (c : Call) (old new : InLogic) (acts : List Act) → Turned c old acts new → PullsStand acts
turned_stands c (logic.Taking l) (logic.Taking m) acts t = t.stands
turned_stands c (logic.Sorting l) (logic.Sorting m) acts t = t.stands
turned_stands c (logic.Zipping l) (logic.Zipping m) acts t = t.stands
turned_stands c (logic.Merging l) (logic.Merging m) acts t = t.stands
turned_stands c old new acts t = absurd t

-- its moves only grow
pub turned_grows : (c : Call) (old new : InLogic) (acts : List Act) → Turned c old acts new → IsPrefix (in_moves old) (in_moves new)
turned_grows c (logic.Taking l) (logic.Taking m) acts t = record { rest = []; is = refl }
turned_grows c (logic.Sorting l) (logic.Sorting m) acts t = record { rest = []; is = refl }
turned_grows c (logic.Zipping l) (logic.Zipping m) acts t = record { rest = []; is = refl }
turned_grows c (logic.Merging l) (logic.Merging m) acts t = record { rest = t.more; is = t.grows }
turned_grows c old new acts t = absurd t

calm_pulls : (b : Bool) (acts : List Act) → (b ≡ true → acts ≡ []) → Pulls acts → b ≡ false
calm_pulls false acts n p = refl
calm_pulls true acts n p = absurd (subst Pulls (n refl) p)

-- one that asks has not stopped
pub turned_asks : (c : Call) (old new : InLogic) (acts : List Act) (v : View) → Turned c old acts new → Pulls acts → InAsking new v
turned_asks c (logic.Taking l) (logic.Taking m) acts v t p = tt
turned_asks c (logic.Sorting l) (logic.Sorting m) acts v t p = tt
turned_asks c (logic.Zipping l) (logic.Zipping m) acts v t p = tt
turned_asks c (logic.Merging l) (logic.Merging m) acts v t p = calm_pulls m.log.stuck acts t.still p
turned_asks c old new acts v t p = absurd t

pub handled : (c : Call) (old new : InLogic) (acts : List Act) → (c ≡ starts → ⊥) → IsStarted old → Obeys c (port_state old) (port_state new) acts → Turned c old acts new → Handles InPortState InLaw c old new acts
handled c old new acts n s o t = record {
  obeys = record {
    allowed = λ v may r. o.allowed v may r.ports;
    ports = λ v may r. record { started = turned_started c old new acts t; ports = o.ports v may r.ports };
  };
  stands = turned_stands c old new acts t;
  keeps = λ first v took gave may r law. turn_keeps c first old new v took gave acts may (o.allowed v may r.ports) t law;
}

-- ---- before anything came

-- where no input was asked, none has ended
none_over : (n c : ℕ) (over : List Bool) (asked : Bool) → AllIdle (seats n over c asked) → none_of over ≡ untouched (length (seats n over c asked))
none_over n c [] asked h = refl
none_over n c (true ∷ over) asked h = let e = h.0 in cc
none_over n c (false ∷ over) asked h = ap (λ (ws : List Inflow). nothing_came ∷ ws) (none_over (n + 1) c over asked h.1)

unasked_open : (y : OutView) → y ≡ outlet.Unpulled → GaveAs y unended
unasked_open y e = subst (λ z. GaveAs z unended) (sym e) refl

fresh_taking : (l : Taking) (v : View) (took gave : List (List Item)) → CallAllowed starts v → l.live ≡ true → taking.port_state l v → AllEmpty took → AllEmpty gave → length took ≡ length v.ins → length gave ≡ length v.outs
    → InPortsLaw (FanKeeps (taking_by l.segment) (taking.place_of l) (taking.held l)) v took gave
fresh_taking l v took gave may live r a b m n =
    let s = subst (λ x. taking.port_state_by x l v) live r in
    let outs : v.outs ≡ wish l.asked ∷ [] = ap (λ (w : View). w.outs) s.0 in
    let idle : AllIdle (seats 0 l.over l.current l.asked) = subst (λ (w : View). AllIdle w.ins) s.0 may.0 in
    let quiet : wish l.asked ≡ outlet.Unpulled = (subst (λ (w : View). AllUnpulled w.outs) s.0 may.1).0 in
    let ins : v.ins ≡ seats 0 l.over l.current l.asked = ap (λ (w : View). w.ins) s.0 in
    let held : taking.held l ≡ fan.waits (taking.place_of l) (untouched (length v.ins)) =
    ap (λ x. taking.held_by x (taking.place_of l) l.over) live ∙ ap (λ ws. fan.waits (taking.place_of l) ws) (none_over 0 l.current l.over l.asked idle) ∙ ap (λ (xs : List InView). fan.waits (taking.place_of l) (untouched (length xs))) (sym ins) in
    begun (FanKeeps (taking_by l.segment) (taking.place_of l) (taking.held l)) v took gave a b m (n ∙ ap length outs)
    (subst (λ x. PortsLaw (FanKeeps (taking_by l.segment) (taking.place_of l) x) v (λ _. []) []) (sym held)
    (fan_new (taking_by l.segment) (taking.place_of l) v may.0 (subst (λ ys. GaveAs (slice_index_or ys 0 outlet.Closed) unended) (sym outs) (unasked_open (wish l.asked) quiet))))

blank_flow : (i : Inlet) → IsVacant i → inlet_flow i ≡ nothing_came
blank_flow i h = ap (λ x. inlet_flow (record { held = x; over = i.over })) h.0 ∙ ap (λ b. inlet_flow (record { held = None; over = b })) h.1

fresh_sorting : (l : Pairing) (v : View) (took gave : List (List Item)) → CallAllowed starts v → l.phase ≡ New → sorted.port_state l v → AllEmpty took → AllEmpty gave → length took ≡ length v.ins → length gave ≡ length v.outs
    → InPortsLaw (FanKeeps sorting sorted.nowhere (sorted.held l)) v took gave
fresh_sorting l v took gave may new r a b m n =
    let s = subst (λ p. port_state_by sorted.Sound p l v) new r in
    let outs : v.outs ≡ outlet.Unpulled ∷ [] = ap (λ (w : View). w.outs) s.0 in
    let ins : v.ins ≡ Idle ∷ Idle ∷ [] = ap (λ (w : View). w.ins) s.0 in
    let held : sorted.held l ≡ fan.waits sorted.nowhere (untouched (length v.ins)) =
    ap (λ p. sorted.held_by p l) new ∙ ap (λ x. fan.waits sorted.nowhere (x ∷ inlet_flow l.right ∷ [])) (blank_flow l.left s.1.0) ∙ ap (λ x. fan.waits sorted.nowhere (nothing_came ∷ x ∷ [])) (blank_flow l.right s.1.1.0)
    ∙ ap (λ (xs : List InView). fan.waits sorted.nowhere (untouched (length xs))) (sym ins) in
    begun (FanKeeps sorting sorted.nowhere (sorted.held l)) v took gave a b m (n ∙ ap length outs)
    (subst (λ x. PortsLaw (FanKeeps sorting sorted.nowhere x) v (λ _. []) []) (sym held)
    (fan_new sorting sorted.nowhere v may.0 (subst (λ ys. GaveAs (slice_index_or ys 0 outlet.Closed) unended) (sym outs) refl)))

fresh_zipping : (l : Pairing) (v : View) (took gave : List (List Item)) → CallAllowed starts v → l.phase ≡ New → zipping.port_state l v → AllEmpty took → AllEmpty gave → length took ≡ length v.ins → length gave ≡ length v.outs
    → InPortsLaw (ZipKeeps (zipping.held l)) v took gave
fresh_zipping l v took gave may new r a b m n =
    let s = subst (λ p. port_state_by zipping.Sound p l v) new r in
    let outs : v.outs ≡ outlet.Unpulled ∷ [] = ap (λ (w : View). w.outs) s.0 in
    let ins : v.ins ≡ Idle ∷ Idle ∷ [] = ap (λ (w : View). w.ins) s.0 in
    let held : zipping.held l ≡ zip.waits nothing_came nothing_came =
    ap (λ p. zipping.held_by p l) new ∙ ap (λ x. zip.waits x (inlet_flow l.right)) (blank_flow l.left s.1.0) ∙ ap (λ x. zip.waits nothing_came x) (blank_flow l.right s.1.1.0) in
    begun (ZipKeeps (zipping.held l)) v took gave a b m (n ∙ ap length outs)
    (subst (λ x. PortsLaw (ZipKeeps x) v (λ _. []) []) (sym held)
    (zip_new v (ap length ins) may.0 (subst (λ ys. GaveAs (slice_index_or ys 0 outlet.Closed) unended) (sym outs) refl)))

fresh_law : (l : InLogic) (v : View) (took gave : List (List Item)) → CallAllowed starts v → IsNew l → port_state l v → AllEmpty took → AllEmpty gave → length took ≡ length v.ins → length gave ≡ length v.outs → InLaw l l v took gave
fresh_law (logic.Taking l) v took gave may new r a b m n = record { same = refl; by = fresh_taking l v took gave may new r a b m n }
fresh_law (logic.Sorting l) v took gave may new r a b m n = record { same = tt; by = fresh_sorting l v took gave may new r a b m n }
fresh_law (logic.Zipping l) v took gave may new r a b m n = record { same = tt; by = fresh_zipping l v took gave may new r a b m n }
fresh_law (logic.Merging l) v took gave may new r a b m n =
    record { same = (new.1, (refl, refl)); by = merge.fresh_law l v took gave may (record { fresh = new.0; unmoved = new.1; calm = new_is_calm l v new.0 r; ports = r }) a b m n }

pub started : (old new : InLogic) (acts : List Act) → IsNew old → Obeys starts (port_state old) (port_state new) acts → Turned starts old acts new → Starts InPortState InLaw InFresh old new acts
started old new acts n o t = record {
  obeys = record {
    allowed = λ v may r. o.allowed v may r.ports;
    ports = λ v may r. record { started = turned_started starts old new acts t; ports = o.ports v may r.ports };
  };
  stands = turned_stands starts old new acts t;
  begins = λ v took gave may r a b m k. turn_keeps starts old old new v took gave acts may (o.allowed v may r.ports) t (fresh_law old v took gave may r.fresh r.ports a b m k);
}
