-- A merge as a node: where it is open, how calls keep its law over its histories, and what it gave against its outlook.
use Rattle.std.specs.Prelude.{replicate, slice_index_or, slice_get, Option, None, Some, ◌==◌}
use Rattle.std.proofs.Common.{◌≡◌, ◌⊎◌, inl, inr, ℕ, zero, suc, ◌+◌, ◌<◌, ◌≤◌, Bool, true, false, List, [], ◌∷◌, ◌++◌, length, get_or, refl, sym, ap, ◌∙◌, subst, arith, append-nil}
use Rattle.elem_core.specs.Tree.{Tree}
use Rattle.elem_core.specs.declared.item.Item.{Item}
use Rattle.elem_core.specs.declared.why.Decider.{Decider}
use Rattle.port_core.specs.Picks.{Picks, IsFreeLog, planned, next_move}
use Rattle.std.specs.Option.{option_map}
use Rattle.port_core.specs.declared.pick_log.Next.{Next}
use Rattle.port_core.specs.declared.pick_log.Next.TheVariants.{Free, Move, UsedUp}
use Rattle.port_core.specs.declared.act.Act.{Act}
use Rattle.port_core.specs.declared.view.InView.{InView}
use Rattle.port_core.specs.declared.view.InView.TheVariants.{Idle}
use Rattle.port_core.specs.declared.view.OutView.TheVariants as outlet
use Rattle.port_core.specs.View.{View, ActsAllowed, acted_all, unpulled_ins}
use Rattle.port_core.specs.Call.{Call, starts, pulls, arrives, cancels, CallAllowed, seen, brought_to, Obeys, given_on}
use Rattle.stream_model.specs.declared.kind.Kind.TheVariants.{Merge, MergeHub}
use Rattle.stream_model.specs.declared.kind.TheConstants.{MAX_FAN}
use Rattle.stream_model.specs.Graph.{Graph}
use Rattle.stream_model.specs.Node.{World, node_outlook}
use Rattle.stream_model.specs.Outlook.{Outlook, End, unended, ended, failed, Agrees}
use Rattle.stream_model.specs.FanIn.{Inflow, AllAgree}
use Rattle.stream_model.specs.Picks.{count_of, merge_fits, merge_outlook, hub_outlook, MergeStands, soft, softened, softened_by, gathered_by}
use Rattle.stream_model.specs.View.{SeenWire, EachWire}
use Rattle.stream_model.specs.Rests.{IsShut, ManyToOne}
use Rattle.stream_model.proofs.HubTraces.{gathered_trace, gathered_fits}
use Rattle.stream_model.proofs.Fitting.{may_fail}
use Rattle.elem_core.proofs.Prefixes.{prefix_length}
use Rattle.stage_core.specs.Rooms.{acts_for}
use Rattle.stage_core.specs.Handling.{Starts, Handles}
use Rattle.stage_core.specs.Histories.{given_all, brought_by, AllEmpty}
use Rattle.stage_core.specs.Law.{GaveAs}
use Rattle.stage_core.specs.Inflows.{PortsLaw, untouched, joined, joined_all, coming}
use Rattle.stage_core.specs.Merges.{waits, lists_of, left_by, SameEnds, Merged, MergeTurn, MergeTurnAt, GathersAs, MergeLaw, item_by, call_by, moves_of}
use Rattle.stage_core.proofs.Inflows.{ports_law, joined_all-nothing_came}
use Rattle.stage_core.proofs.MergeTurns.{merge_call, merge_new, merge_history_stands}
use Rattle.stage_core.specs.declared.phase.Phase.{Phase}
use Rattle.stage_core.specs.declared.phase.Phase.TheVariants.{New, Open, Closed}
use Rattle.stage_core.specs.Seats.{room_for}
use Rattle.stage_core.specs.OwnPorts.{own_input}
use Rattle.stage_core.specs.OwnRows.{own_inputs, own_outputs, FanRests}
use Rattle.stage_core.specs.PortsLaws.{InPortsLaw}
use Rattle.stage_core.proofs.Closings.{none_called}
use Rattle.stage_core.proofs.Histories.{in_node, ins_seen, ins_acted, begun}
use Rattle.stage_merge.specs.Mergings.{Core, Merging, Begins, Turned, Fresh, idles, waiting, port_state_by, port_state_in, port_state, Obligation, serves, stopped, held_by, owed_by_log, held_in, held, LostAt, OwesAt, StoppedAt, CannotGo, KeepsAs, MergeFresh, MergePortState, MergesAs}
use Rattle.stage_core.specs.Over.{EndsAt}
use Rattle.stage_merge.specs.Rows.{MergeRestsBy, OverAt, MergeMisfits}
use Rattle.stage_merge.proofs.Merges.{places_long}
use Rattle.stage_merge.proofs.MergeRests.{merge_rests, new_row, none_waits, count_left}

-- ---- where it is called

pub called_open : (l : Merging) (c : Call) (v : View) → (l.core.phase ≡ New → ⊥) → CallAllowed c v → port_state l v → l.core.phase ≡ Open
called_open l c v n may r = by_stuck l.log.stuck r
  where
    by_phase : (f : Phase) → l.core.phase ≡ f → port_state_by f l.log.left l.core v → l.core.phase ≡ Open
    by_phase New e r = absurd (n e)
    by_phase Open e r = e
    by_phase Closed e r = absurd (none_called c v may r)

    by_stuck : (b : Bool) → port_state_in b l v → l.core.phase ≡ Open
    by_stuck false r = by_phase l.core.phase refl r
    by_stuck true r = r.phase_is

idles_long : (bs : List Bool) → length (idles bs) ≡ length bs
idles_long [] = refl
idles_long (b ∷ bs) = ap suc (idles_long bs)

pub called_fits : (l : Merging) (c : Call) (v : View) → CallAllowed c v → port_state l v → room_for (length l.core.over) ≤ acts_for v
called_fits l c v may r = by_stuck l.log.stuck r
  where
    by_phase : (f : Phase) → port_state_by f l.log.left l.core v → room_for (length l.core.over) ≤ acts_for v
    by_phase New r =
        let ins : length v.ins ≡ length l.core.over = ap (λ (w : View). length w.ins) r.0 ∙ idles_long l.core.over in
        let outs : length v.outs ≡ 1 = ap (λ (w : View). length w.outs) r.0 in
        omega (arith, ins, outs)
    by_phase Open r =
        let ins : length v.ins ≡ length l.core.over = ap (λ (w : View). length w.ins) r.0 ∙ places_long 0 l.core.over l.core.queue in
        let outs : length v.outs ≡ 1 = ap (λ (w : View). length w.outs) r.0 in
        omega (arith, ins, outs)
    by_phase Closed r = absurd (none_called c v may r)

    by_stuck : (b : Bool) → port_state_in b l v → room_for (length l.core.over) ≤ acts_for v
    by_stuck false r = by_phase l.core.phase r
    by_stuck true r =
        let ins : length v.ins ≡ length l.core.over = r.many in
        let outs : length v.outs ≡ 1 = r.one in
        omega (arith, ins, outs)

-- ---- between two calls

-- an input whose failure counts as an end shows the same elements
own_soft : (gathers : Bool) (xs : List InView) (fs : List Inflow) → own_inputs xs (softened_by gathers fs) ≡ own_inputs xs fs
own_soft false xs fs = refl
own_soft true [] fs = refl
own_soft true (x ∷ xs) [] = refl
own_soft true (x ∷ xs) (f ∷ fs) = ap (λ (ws : List SeenWire). own_input x f.list ∷ ws) (own_soft true xs fs)

rests_soft : (gathers : Bool) (P : List SeenWire → SeenWire → Type 0) (v : View) (ins : List Inflow) (g : List Tree) → FanRests P v (softened_by gathers ins) g → FanRests P v ins g
rests_soft gathers P v ins g h =
    subst (λ (ws : List SeenWire). (EachWire IsShut ws × EachWire IsShut (own_outputs v.outs g)) ⊎ ManyToOne P ws (own_outputs v.outs g)) (own_soft gathers v.ins ins) h

pub soft_long : (gathers : Bool) (fs : List Inflow) → length (softened_by gathers fs) ≡ length fs
soft_long false fs = refl
soft_long true [] = refl
soft_long true (f ∷ fs) = ap suc (soft_long true fs)

pub logic_rests : (first now : Merging) (v : View) (took gave : List (List Item)) → now.log.stuck ≡ false → MergePortState now v → (law : MergesAs first now v took gave) → FanRests (MergeRestsBy (next_move now.log.left) now.log.moves) v law.by.law.ins law.by.law.out_list
logic_rests first now v took gave calm r law =
    rests_soft first.gathers (MergeRestsBy (next_move now.log.left) now.log.moves) v law.by.law.ins law.by.law.out_list
    (merge_rests now v (softened_by first.gathers law.by.law.ins) law.by.law.out_list law.by.law.out_end r.started calm r.ports (soft_long first.gathers law.by.law.ins ∙ law.by.law.ports) law.by.law.keeps)

-- ---- one that stops, and one that has stopped

own_ends : (ws : List Inflow) → SameEnds ws ws
own_ends [] = tt
own_ends (w ∷ ws) = (refl, own_ends ws)

own_merged : (ws : List Inflow) → Merged [] ws [] ws
own_merged ws = record { finds = tt; gave = refl; left = refl; ends = own_ends ws }

-- what has ended stays so
still_lost : (n m : ℕ) (ws : List Inflow) (more : ℕ → Inflow) → slice_get ws m ≡ Some (record { list = []; end = ended }) → slice_get (joined_all n ws more) m ≡ Some (record { list = []; end = ended })
still_lost n m [] more h = cc
still_lost n zero (w ∷ ws) more h = let e : w ≡ record { list = []; end = ended } = cc in ap (λ (f : Inflow). Some (joined f (more n))) e
still_lost n (suc m) (w ∷ ws) more h = still_lost (n + 1) m ws more h

lost_on : (next : Next) (ws : List Inflow) (more : ℕ → Inflow) → LostAt next ws → LostAt next (joined_all 0 ws more)
lost_on Free ws more h = h
lost_on UsedUp ws more h = h
lost_on (Move m) ws more h = still_lost 0 m ws more h

-- the same histories by another fact
kept_as : (K L : List Inflow → List Tree → End → Type 0) (v : View) (took : ℕ → List Item) (gave : List Item) (law : PortsLaw K v took gave) → L law.ins law.out_list law.out_end → PortsLaw L v took gave
kept_as K L v took gave law k = record { ins = law.ins; out_list = law.out_list; out_end = law.out_end; ports = law.ports; took_is = law.took_is; took_as = law.took_as; gave_is = law.gave_is; gave_as = law.gave_as; keeps = k }

module _ (gathers : Bool) (next : Next) (moves : List ℕ) (v : View) (took : ℕ → List Item) (gave : List Item) where
  abbrev K : List Inflow → List Tree → End → Type 0
  K = KeepsAs gathers (stopped next moves)

  -- by its law as one that waits
  waits_on : (call : Call) → CallAllowed call v → ((ws : List Inflow) → MergeTurnAt (call_by gathers call) (waits moves ws) [] (waits moves (joined_all 0 ws (coming (call_by gathers call))))) → PortsLaw K v took gave → PortsLaw K (seen call v) (λ i. took i ++ brought_to i call) (gave ++ [])
  waits_on call may turn law =
      let s = law.keeps in
      let us : List Inflow = joined_all 0 s.left (coming (call_by gathers call)) in
      let w : MergeLaw gathers (waits moves s.left) v took gave = kept_as K (GathersAs gathers (waits moves s.left)) v took gave law (s.unended_is, s.merged) in
      let k = merge_call gathers call (waits moves s.left) (waits moves us) v took gave [] may tt (turn s.left) w in
      kept_as (GathersAs gathers (waits moves us)) K (seen call v) (λ i. took i ++ brought_to i call) (gave ++ []) k (record { unended_is = k.keeps.0; left = us; merged = k.keeps.1; lost = lost_on next s.left (coming (call_by gathers call)) s.lost })

  -- nothing comes
  as_it_was : (call : Call) → CallAllowed call v → ((ins : List Inflow) → joined_all 0 ins (coming call) ≡ ins) → PortsLaw K v took gave → PortsLaw K (seen call v) (λ i. took i ++ brought_to i call) (gave ++ [])
  as_it_was call may none law =
      let s = law.keeps in
      ports_law K K call v took gave [] may tt law s.unended_is (record {
        list = [];
        end = unended;
        out_is = refl;
        keeps = rw (none law.ins, append-nil) (record { unended_is = refl; left = s.left; merged = s.merged; lost = s.lost });
      })

  pub still_stopped : (call : Call) → CallAllowed call v → PortsLaw K v took gave → PortsLaw K (seen call v) (λ i. took i ++ brought_to i call) (gave ++ [])
  still_stopped starts may law = waits_on starts may (λ ws. none_turn moves (joined_all 0 ws (coming starts))) law
    where
      none_turn : (moves : List ℕ) (ws : List Inflow) → MergeTurn moves ws [] moves ws
      none_turn moves ws = record { more = []; given = []; now_is = sym (append-nil moves); out_is = refl; merged = own_merged ws }
  still_stopped (pulls j) may law = waits_on (pulls j) may (λ ws. record { more = []; given = []; now_is = sym (append-nil moves); out_is = refl; merged = own_merged (joined_all 0 ws (coming (pulls j))) }) law
  still_stopped (arrives i b) may law = waits_on (arrives i b) may (λ ws. record { more = []; given = []; now_is = sym (append-nil moves); out_is = refl; merged = own_merged (joined_all 0 ws (coming (arrives i (item_by gathers b)))) }) law
  still_stopped (cancels j) may law = as_it_was (cancels j) may (λ ins. joined_all-nothing_came 0 ins) law

-- it stops
stops_now : (gathers : Bool) (next : Next) (now : List ℕ) (us : List Inflow) (v : View) (took : ℕ → List Item) (gave : List Item) → LostAt next us → MergeLaw gathers (waits now us) v took gave → PortsLaw (KeepsAs gathers (stopped next now)) v took gave
stops_now gathers next now us v took gave lack law =
    kept_as (GathersAs gathers (waits now us)) (KeepsAs gathers (stopped next now)) v took gave law (record { unended_is = law.keeps.0; left = us; merged = law.keeps.1; lost = lack })

-- ---- calls

-- the law over each port, by what a handler owes
call_keeps : (gathers : Bool) (c : Call) (old new : Obligation) (v : View) (took : ℕ → List Item) (given : List Item) (acts : List Act) → CallAllowed c v → ActsAllowed (seen c v) acts → OwesAt (call_by gathers c) old (given_on 0 acts) new → ((next : Next) (moves : List ℕ) → new ≡ stopped next moves → acts ≡ [])
    → PortsLaw (KeepsAs gathers old) v took given → PortsLaw (KeepsAs gathers new) (acted_all (seen c v) acts) (λ i. took i ++ brought_to i c) (given ++ given_on 0 acts)
call_keeps gathers c (serves h) (serves k) v took given acts may allowed turn none law = merge_call gathers c h k v took given acts may allowed turn law
call_keeps gathers c (serves h) (stopped next now) v took given acts may allowed turn none law =
    stops_now gathers next now turn.left (acted_all (seen c v) acts) (λ i. took i ++ brought_to i c) (given ++ given_on 0 acts) turn.lost
    (merge_call gathers c h (waits now turn.left) v took given acts may allowed turn.turn law)
call_keeps gathers c (stopped next moves) (serves k) v took given acts may allowed turn none law = absurd turn
call_keeps gathers c (stopped next moves) (stopped n now) v took given acts may allowed turn none law =
    let e : acts ≡ [] = none n now refl in
    rw (turn.1.0, turn.1.1, e) (still_stopped gathers next moves v took given c may law)

pub keeps_ports : (gathers : Bool) (c : Call) (old new : Merging) (v : View) (took gave : List (List Item)) (acts : List Act) → CallAllowed c v → ActsAllowed (seen c v) acts → OwesAt (call_by gathers c) (held old) (given_on 0 acts) (held new) → ((next : Next) (moves : List ℕ) → held new ≡ stopped next moves → acts ≡ [])
    → InPortsLaw (KeepsAs gathers (held old)) v took gave → InPortsLaw (KeepsAs gathers (held new)) (acted_all (seen c v) acts) (brought_by c took) (given_all acts gave)
keeps_ports gathers c old new v took gave acts may allowed turn none law =
    in_node (KeepsAs gathers (held old)) (KeepsAs gathers (held new)) c v (acted_all (seen c v) acts) took gave acts (ins_acted acts (seen c v) ∙ ins_seen c v)
    (λ given l. call_keeps gathers c (held old) (held new) v (λ i. slice_index_or took i []) given acts may allowed turn none l) law

pub is_stuck : (l : Merging) (next : Next) (moves : List ℕ) → held l ≡ stopped next moves → l.log.stuck ≡ true
is_stuck l next moves h = by_stuck l.log.stuck refl
  where
    by_stuck : (b : Bool) → l.log.stuck ≡ b → l.log.stuck ≡ true
    by_stuck true e = e
    by_stuck false e = let k : held l ≡ serves (owed_by_log l) = ap (λ b. held_in b l) e in let x : serves (owed_by_log l) ≡ stopped next moves = sym k ∙ h in cc

pub handled : (c : Call) (old new : Merging) (acts : List Act) → Obeys c (port_state old) (port_state new) acts → Turned (call_by old.gathers c) old acts new → Handles MergePortState MergesAs c old new acts
handled c old new acts o t = record {
  obeys = record {
    allowed = λ v may r. o.allowed v may r.ports;
    ports = λ v may r. record { started = t.started; ports = o.ports v may r.ports };
  };
  stands = t.stands;
  keeps = λ first v took gave may r law. record {
    unmoved = law.unmoved;
    way = t.way ∙ law.way;
    plan = t.plan ∙ law.plan;
    by = keeps_ports first.gathers c old new v took gave acts may (o.allowed v may r.ports) (subst (λ b. OwesAt (call_by b c) (held old) (given_on 0 acts) (held new)) law.way t.turn) (λ next moves h. t.still (is_stuck new next moves h)) law.by;
  };
}

-- ---- before anything came

pub fresh_law : (l : Merging) (v : View) (took gave : List (List Item)) → CallAllowed starts v → MergeFresh l v → AllEmpty took → AllEmpty gave → length took ≡ length v.ins → length gave ≡ length v.outs
    → InPortsLaw (KeepsAs l.gathers (held l)) v took gave
fresh_law l v took gave may r a b m n =
    let s = subst (λ f. port_state_by f l.log.left l.core v) r.fresh (subst (λ b. port_state_in b l v) r.calm r.ports) in
    let fresh : Fresh l.core = s.1.1 in
    let outs : v.outs ≡ outlet.Unpulled ∷ [] = ap (λ (w : View). w.outs) s.0 in
    let many : length v.ins ≡ length l.core.over = ap (λ (w : View). length w.ins) s.0 ∙ idles_long l.core.over in
    let owes : held l ≡ serves (waits [] (untouched (length v.ins))) =
    ap (λ b. held_in b l) r.calm ∙ ap (λ f. serves (held_by f l.log.moves l.core)) r.fresh ∙ ap (λ ms. serves (waits ms (waiting 0 l.core.over l.core.queue))) r.unmoved ∙ ap (λ q. serves (waits [] (waiting 0 l.core.over q))) fresh.queue
    ∙ ap (λ o. serves (waits [] (waiting 0 o []))) fresh.over ∙ ap (λ fs. serves (waits [] fs)) (none_waits 0 (length l.core.over)) ∙ ap (λ k. serves (waits [] (untouched k))) (sym many) in
    begun (KeepsAs l.gathers (held l)) v took gave a b m (n ∙ ap length outs)
    (subst (λ x. PortsLaw (KeepsAs l.gathers x) v (λ _. []) []) (sym owes) (merge_new l.gathers v may.0 (subst (λ ys. GaveAs (slice_index_or ys 0 outlet.Closed) unended) (sym outs) refl)))

pub started : (old new : Merging) (acts : List Act) → Obeys starts (port_state old) (port_state new) acts → Turned starts old acts new → Starts MergePortState MergesAs MergeFresh old new acts
started old new acts o t = record {
  obeys = record {
    allowed = λ v may r. o.allowed v may r.ports;
    ports = λ v may r. record { started = t.started; ports = o.ports v may r.ports };
  };
  stands = t.stands;
  begins = λ v took gave may r a b m n. record { unmoved = r.unmoved; way = t.way; plan = t.plan; by = keeps_ports old.gathers starts old new v took gave acts may (o.allowed v may r.ports) t.turn (λ next moves h. t.still (is_stuck new next moves h)) (fresh_law old v took gave may r a b m n) };
}

idles_are : (k : ℕ) → idles (replicate k false) ≡ replicate k Idle
idles_are zero = refl
idles_are (suc k) = ap (λ (xs : List InView). Idle ∷ xs) (idles_are k)

pub new_may_start : (inputs : ℕ) (gathers : Bool) (l : Merging) → 1 ≤ inputs → inputs ≤ MAX_FAN → Begins inputs gathers l → MergeFresh l (unpulled_ins inputs)
new_may_start k gathers l one few b = record {
  fresh = ap (λ (c : Core). c.phase) b.core;
  unmoved = b.moves;
  calm = b.calm;
  ports = subst (λ (xs : List InView). port_state l (record { ins = xs; outs = outlet.Unpulled ∷ [] })) (idles_are k) (new_row k gathers l one few b);
}

-- ---- outlooks

stopped_stands : (moves : List ℕ) (ins ws : List Inflow) (g : List Tree) (e : End) → e ≡ unended → Merged moves ins g ws → MergeStands moves ins g e
stopped_stands moves ins ws g e u m = record {
  finds = m.finds;
  gave = m.gave;
  ends = λ f. let x : ended ≡ unended = sym f ∙ u in cc;
  fails = λ c f. let x : failed c ≡ unended = sym f ∙ u in cc;
}

moves_then : (p : Phase) (moves : List ℕ) (l : Core) → moves_of (held_by p moves l) ≡ moves
moves_then New moves l = refl
moves_then Open moves l = refl
moves_then Closed moves l = refl

stands_by : (gathers b : Bool) (l : Merging) (v : View) (took : ℕ → List Item) (given : List Item) → (law : PortsLaw (KeepsAs gathers (held_in b l)) v took given) → MergeStands l.log.moves (softened_by gathers law.ins) law.out_list law.out_end
stands_by gathers false l v took given law =
    subst (λ ms. MergeStands ms (softened_by gathers law.ins) law.out_list law.out_end) (moves_then l.core.phase l.log.moves l.core) (merge_history_stands gathers (owed_by_log l) v took given law)
stands_by gathers true l v took given law = stopped_stands l.log.moves (softened_by gathers law.ins) law.keeps.left law.out_list law.out_end law.keeps.unended_is law.keeps.merged

-- what it may have given, by its moves
pub law_stands : (first now : Merging) (v : View) (took gave : List (List Item)) → (law : MergesAs first now v took gave) → MergeStands now.log.moves (softened_by first.gathers law.by.law.ins) law.by.law.out_list law.by.law.out_end
law_stands first now v took gave law = stands_by first.gathers now.log.stuck now v (λ i. slice_index_or took i []) law.by.given law.by.law

module _ (is : List Outlook) (first now : Merging) (v : View) (took gave : List (List Item)) (law : MergesAs first now v took gave) (h : AllAgree is law.by.law.ins) where
  stands : MergeStands now.log.moves (softened_by first.gathers law.by.law.ins) law.by.law.out_list law.by.law.out_end
  stands = law_stands first now v took gave law

  pub moves_fit : merge_fits now.log.moves is ≡ true
  moves_fit = gathered_fits first.gathers now.log.moves is law.by.law.ins law.by.law.out_list law.by.law.out_end h stands

  gave_agrees : Agrees (gathered_by first.gathers now.log.moves is) law.by.law.out_list law.by.law.out_end
  gave_agrees = gathered_trace first.gathers now.log.moves is law.by.law.ins law.by.law.out_list law.by.law.out_end h stands

  pub output_agrees : (g : Graph) (w : World) (node inputs : ℕ) (d : Decider) → w.moves node ≡ now.log.moves → first.gathers ≡ false → Agrees (node_outlook g w node (Merge inputs) d is 0) law.by.law.out_list law.by.law.out_end
  output_agrees g w node inputs d same way =
      subst (λ ms. Agrees (merge_outlook ms is) law.by.law.out_list law.by.law.out_end) (sym same) (subst (λ b. Agrees (gathered_by b now.log.moves is) law.by.law.out_list law.by.law.out_end) way gave_agrees)

  pub hub_agrees : (g : Graph) (w : World) (node size producers : ℕ) (d : Decider) → w.moves node ≡ now.log.moves → first.gathers ≡ true
      → Agrees (node_outlook g w node (MergeHub size producers) d is 0) law.by.law.out_list law.by.law.out_end
  hub_agrees g w node size producers d same way =
      subst (λ ms. Agrees (hub_outlook ms is) law.by.law.out_list law.by.law.out_end) (sym same) (subst (λ b. Agrees (gathered_by b now.log.moves is) law.by.law.out_list law.by.law.out_end) way gave_agrees)

-- ---- the cause of a misfit

-- the input at the place of one that waits with nothing, and has ended
record Spent (m : ℕ) (ins : List Inflow) : Type 0 where
  flow : Inflow
  at : slice_get ins m ≡ Some flow
  over : flow.end ≡ ended
  list_is : get_or (lists_of ins) m [] ≡ flow.list

spent_at : (m : ℕ) (ws ins : List Inflow) → SameEnds ws ins → slice_get ws m ≡ Some (record { list = []; end = ended }) → Spent m ins
spent_at m [] ins s h = cc
spent_at m (w ∷ ws) [] s h = absurd s
spent_at zero (w ∷ ws) (f ∷ fs) s h = let e : w ≡ record { list = []; end = ended } = cc in record { flow = f; at = refl; over = sym s.0 ∙ ap (λ (x : Inflow). x.end) e; list_is = refl }
spent_at (suc m) (w ∷ ws) (f ∷ fs) s h = let r = spent_at m ws fs s.1 h in record { flow = r.flow; at = r.at; over = r.over; list_is = r.list_is }

none_left : (m : ℕ) (ws : List Inflow) → slice_get ws m ≡ Some (record { list = []; end = ended }) → get_or (lists_of ws) m [] ≡ []
none_left m [] h = cc
none_left zero (w ∷ ws) h = let e : w ≡ record { list = []; end = ended } = cc in ap (λ (x : Inflow). x.list) e
none_left (suc m) (w ∷ ws) h = none_left m ws h

cause_of : (next : Next) (moves : List ℕ) (ins : List Inflow) (g : List Tree) (e : End) → StoppedAt next moves ins g e → CannotGo next moves ins
cause_of Free moves ins g e s = s.lost
cause_of UsedUp moves ins g e s = s.lost
cause_of (Move m) moves ins g e s =
    let p = spent_at m s.left ins s.merged.ends s.lost in
    let c = count_left moves (lists_of ins) m s.merged.finds in
    let none : get_or (left_by moves (lists_of ins)) m [] ≡ [] = ap (λ ls. get_or ls m []) s.merged.left ∙ none_left m s.left s.lost in
    let k : count_of m moves + 0 ≡ length p.flow.list = (let d = c in rw (none, p.list_is) at d) in
    (p.flow, (p.at, (p.over, omega (arith, k))))

ends_at : (n m : ℕ) (is : List Outlook) (ins : List Inflow) (f : Inflow) → AllAgree is ins → slice_get ins m ≡ Some f → f.end ≡ ended → length f.list ≡ n → (o : Outlook) × ((slice_get is m ≡ Some o) × EndsAt o n)
ends_at n m [] [] f a at e l = cc
ends_at n m [] (x ∷ ins) f a at e l = absurd a
ends_at n m (o ∷ is) [] f a at e l = absurd a
ends_at n zero (o ∷ is) (x ∷ ins) f a at e l =
    let same : x ≡ f = cc in
    let g : Agrees o x.list x.end = a.0 in
    let k : Agrees o f.list ended = subst (λ z. Agrees o f.list z) e (subst (λ (y : Inflow). Agrees o y.list y.end) same g) in
    (o, (refl, (k.0, ap length (sym k.1) ∙ l)))
ends_at n (suc m) (o ∷ is) (x ∷ ins) f a at e l = ends_at n m is ins f a.1 at e l

-- where a failure counts as an end
soft_over : (o : Outlook) (l : List Tree) (e : End) → Agrees o l e → soft e ≡ ended → OverAt true o (length l)
soft_over o l unended a h = cc
soft_over o l ended a h = inl (a.0, ap length (sym a.1))
soft_over o l (failed c) a h = inr (may_fail o.fails c (length l) a.1, prefix_length a.0)

soft_at : (n m : ℕ) (is : List Outlook) (ins : List Inflow) (f : Inflow) → AllAgree is ins → slice_get (softened ins) m ≡ Some f → f.end ≡ ended → length f.list ≡ n → (o : Outlook) × ((slice_get is m ≡ Some o) × OverAt true o n)
soft_at n m [] [] f a at e l = cc
soft_at n m [] (x ∷ ins) f a at e l = absurd a
soft_at n m (o ∷ is) [] f a at e l = absurd a
soft_at n zero (o ∷ is) (x ∷ ins) f a at e l =
    let same : record { list = x.list; end = soft x.end } ≡ f = cc in
    let long : length x.list ≡ n = ap (λ (y : Inflow). length y.list) same ∙ l in
    (o, (refl, subst (λ k. OverAt true o k) long (soft_over o x.list x.end a.0 (ap (λ (y : Inflow). y.end) same ∙ e))))
soft_at n (suc m) (o ∷ is) (x ∷ ins) f a at e l = soft_at n m is ins f a.1 at e l

misfits : (gathers : Bool) (next : Next) (moves : List ℕ) (is : List Outlook) (ins : List Inflow) → AllAgree is ins → CannotGo next moves (softened_by gathers ins) → MergeMisfits gathers next moves is
misfits gathers Free moves is ins a h = h
misfits gathers UsedUp moves is ins a h = h
misfits false (Move m) moves is ins a h = ends_at (count_of m moves) m is ins h.0 a h.1.0 h.1.1.0 h.1.1.1
misfits true (Move m) moves is ins a h = soft_at (count_of m moves) m is ins h.0 a h.1.0 h.1.1.0 h.1.1.1

pub has_cause : (is : List Outlook) (first now : Merging) (v : View) (took gave : List (List Item)) → now.log.stuck ≡ true → (law : MergesAs first now v took gave) → AllAgree is law.by.law.ins → MergeMisfits first.gathers (next_move now.log.left) now.log.moves is
has_cause is first now v took gave stuck law a =
    by_stuck now.log.stuck stuck law.by.law a
  where
    by_stuck : (b : Bool) → b ≡ true → (p : PortsLaw (KeepsAs first.gathers (held_in b now)) v (λ i. slice_index_or took i []) law.by.given) → AllAgree is p.ins → MergeMisfits first.gathers (next_move now.log.left) now.log.moves is
    by_stuck true e p a = misfits first.gathers (next_move now.log.left) now.log.moves is p.ins a (cause_of (next_move now.log.left) now.log.moves (softened_by first.gathers p.ins) p.out_list p.out_end p.keeps)
    by_stuck false e p a = cc

pub plan_begins : (first now : Merging) (v : View) (took gave : List (List Item)) → MergesAs first now v took gave → planned now.log ≡ first.log.left
plan_begins first now v took gave law = law.plan ∙ by_left first.log.left refl
  where
    by_left : (l : Option (List ℕ)) → first.log.left ≡ l → planned first.log ≡ first.log.left
    by_left None e = rw e refl
    by_left (Some ms) e = let u = law.unmoved in rw (e, u) refl

-- ---- one that is free

free_is_calm : (first now : Merging) (v : View) (took gave : List (List Item)) → now.log.left ≡ None → MergesAs first now v took gave → now.log.stuck ≡ false
free_is_calm first now v took gave none law = by_stuck now.log.stuck refl law.by.law
  where
    by_stuck : (b : Bool) → now.log.stuck ≡ b → PortsLaw (KeepsAs first.gathers (held_in b now)) v (λ i. slice_index_or took i []) law.by.given → now.log.stuck ≡ false
    by_stuck false e p = e
    by_stuck true e p = absurd (subst (λ (l : Option (List ℕ)). LostAt (next_move l) p.keeps.left) none p.keeps.lost)

pub none_left_over : (p : Picks) → planned p ≡ None → p.left ≡ None
none_left_over p h = by_left p.left refl h
  where
    by_left : (l : Option (List ℕ)) → p.left ≡ l → option_map (λ (ms : List ℕ). p.moves ++ ms) l ≡ None → p.left ≡ None
    by_left None e k = e
    by_left (Some ms) e k = cc

pub stays_free : (first now : Merging) (v : View) (took gave : List (List Item)) → first.log.left ≡ None → MergesAs first now v took gave → IsFreeLog now.log
stays_free first now v took gave none law =
    let left : now.log.left ≡ None = none_left_over now.log (plan_begins first now v took gave law ∙ none) in
    record { none = left; calm = free_is_calm first now v took gave left law }
