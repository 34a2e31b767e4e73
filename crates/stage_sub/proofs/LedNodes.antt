-- The law of a stage with substreams, whether it follows moves or not, over its whole history; and that each call keeps it.
use Rattle.std.specs.Prelude.{◌≢◌, ◌⊎◌, ◌-◌, Result, OnOk, slice_get, slice_index_or, take, option_to_list}
use Rattle.std.specs.Option.{unwrap_or}
use Rattle.std.proofs.Common.{◌≡◌, ℕ, zero, suc, ◌+◌, ◌≤◌, Bool, true, false, List, [], ◌∷◌, ◌++◌, length, Option, Some, None, Ok, Err, refl, sym, ap, ◌∙◌, subst, arith, append-nil}
use Rattle.elem_core.specs.Prefix.{IsPrefix}
use Rattle.elem_core.specs.Tree.{Tree}
use Rattle.elem_core.specs.declared.item.Item.{Item}
use Rattle.elem_core.specs.declared.item.Item.TheVariants as item
use Rattle.port_core.specs.Picks.{next_move, plan_of}
use Rattle.port_core.specs.declared.act.Act.{Act}
use Rattle.port_core.specs.declared.view.InView.{InView}
use Rattle.port_core.specs.declared.view.InView.TheVariants.{Idle, Pulled, Finished, Cancelled}
use Rattle.port_core.specs.declared.view.OutView.{OutView}
use Rattle.port_core.specs.declared.view.OutView.TheVariants as outlet
use Rattle.port_core.specs.ListFunction.{ListFunction, Same}
use Rattle.port_core.specs.View.{View, OneOneOf, in_at, out_at, IsInOpen, IsOutOpen, ActsAllowed, acted_all}
use Rattle.port_core.specs.Call.{Call, starts, pulls, arrives, cancels, AllIdle, MayCome, CallAllowed, Meets, seen, brought_to, given_on, Obeys}
use Rattle.stream_model.specs.FanIn.{Tagged, Inflow}
use Rattle.stream_model.specs.Machine.{State, done, Run, Given, run}
use Rattle.stream_model.specs.Outlook.{End, unended, ended}
use Rattle.stream_model.specs.Substreams.{Opening, Subs, substreams}
use Rattle.stage_core.specs.Fans.{untagged}
use Rattle.stage_core.specs.Held.{owing, told}
use Rattle.stage_core.specs.Handling.{Starts, Handles}
use Rattle.stage_core.specs.Histories.{given_all, brought_by, AllEmpty}
use Rattle.stage_core.specs.Inflows.{PortsLaw, nothing_came, joined, joined_all, coming}
use Rattle.stage_core.specs.Law.{GaveAs}
use Rattle.stage_core.specs.PortsLaws.{InPortsLaw}
use Rattle.stage_core.specs.Seats.{wish}
use Rattle.stage_core.specs.declared.phase.Phase.{Phase}
use Rattle.stage_core.specs.declared.phase.Phase.TheVariants.{New, Open, Closed}
use Rattle.stage_core.proofs.Histories.{in_node, ins_seen, ins_acted, begun}
use Rattle.stage_core.proofs.Inflows.{Stepped, ports_law, new_ports}
use Rattle.stage_core.proofs.OnOks.{on_ok_two}
use Rattle.stage_core.proofs.OneOnes.{at_first, one_input, first_port}
use Rattle.stage_core.proofs.OpenPorts.{closed_ports}
use Rattle.stage_core.proofs.Ports.{in_unended, may_open}
use Rattle.step_work.specs.Means.{Means}
use Rattle.stage_sub.specs.Joined.{untag}
use Rattle.stage_sub.specs.KeptSubs.{opening_of}
use Rattle.port_core.specs.Asking.{PullsStand}
use Rattle.stage_sub.specs.Moves.{port_in}
use Rattle.stage_sub.specs.Handling.{ChoosesAs, ready_of, SubFresh, SubPortState, SubLaw}
use Rattle.stage_sub.specs.States.{Logic, StateIs, Owes, OwesIn, Ready}
use Rattle.stage_sub.specs.States as free
use Rattle.stage_sub.specs.Leds.{Led, LedStep, made_moves, sub_plan, led_in, led_at, LedRests, port_state_by, led_port_state, Followed, Unled, turned_by, LedTurned}
use Rattle.stage_sub.specs.LedLaws.{led_ready, StandsAt, LedServes, LedStopped, keeps_by, LedKeeps, LedNew, LedPortState, LedLaw, SubsLaw}
use Rattle.stage_sub.proofs.LedCalls.{led_state, state_led}
use Rattle.stage_sub.proofs.LedTurns.{Opens, stepped, still_stopped}
use Rattle.stage_sub.proofs.Nodes as nodes
use Rattle.stage_sub.proofs.Nodes.{open_ready}
use Rattle.stage_sub.proofs.Rows as rows

-- ---- where it is called

led_open_at : {C : Type 0} (l : Led C) (p : Phase) (x : InView) (y : OutView) → l.logic.phase ≡ p → (p ≡ New → ⊥) → (IsInOpen x ⊎ IsOutOpen y) → led_at l p x y → l.logic.phase ≡ Open
led_open_at l Open x y is n h r = is
led_open_at l New x y is n h r = absurd (n refl)
led_open_at l Closed x y is n h r = absurd (closed_ports x y h r)

led_open_in : {C : Type 0} (l : Led C) (b : Bool) (x : InView) (y : OutView) → (l.logic.phase ≡ New → ⊥) → (IsInOpen x ⊎ IsOutOpen y) → led_in b l x y → l.logic.phase ≡ Open
led_open_in l false x y n h r = led_open_at l l.logic.phase x y refl n h r
led_open_in l true x y n h r = r.phase_is

led_open : {C : Type 0} (l : Led C) (call : Call) (v : View) → (l.logic.phase ≡ New → ⊥) → CallAllowed call v → OneOneOf (led_in l.stuck l) v.ins v.outs → l.logic.phase ≡ Open
led_open l call v n may r = by_lists v.ins v.outs may r
  where
    by_lists : (xs : List InView) (ys : List OutView) → CallAllowed call (record { ins = xs; outs = ys }) → OneOneOf (led_in l.stuck l) xs ys → l.logic.phase ≡ Open
    by_lists (x ∷ []) (y ∷ []) may r = led_open_in l l.stuck x y n (rows.some_open call x y may) r
    by_lists [] ys may r = absurd r
    by_lists (x ∷ []) [] may r = absurd r
    by_lists (x ∷ []) (y ∷ z ∷ ys) may r = absurd r
    by_lists (x ∷ u ∷ xs) ys may r = absurd r

-- whether it follows moves or not
pub called_open : {C : Type 0} (l : Led C) (call : Call) (v : View) → (l.logic.phase ≡ New → ⊥) → CallAllowed call v → led_port_state l v → l.logic.phase ≡ Open
called_open l call v n may r = by_left l.left refl r
  where
    by_left : (left : Option (List ℕ)) → l.left ≡ left → port_state_by left l v → l.logic.phase ≡ Open
    by_left None e r = rows.called_open l.logic call v n may r
    by_left (Some k) e r = led_open l call v n may r

-- ---- where a call comes to an input

no_other : (xs : List InView) (i : ℕ) (b : Item) → length xs ≡ 1 → MayCome b (slice_index_or xs (suc i) Cancelled) → ⊥
no_other [] i b n may = absurd (omega (arith, n))
no_other (x ∷ []) i b n may = may_open b Cancelled may
no_other (x ∷ y ∷ xs) i b n may = absurd (omega (arith, n))

-- a call comes only to the one input, and only where it goes on
opens_now : (call : Call) (v : View) (w : Inflow) → CallAllowed call v → length v.ins ≡ 1 → ((f : End) → w.end ≡ f → IsInOpen (in_at v 0) → f ≡ unended) → Opens call w
opens_now call v w may n on = λ i b is. by_place i b (subst (λ (c : Call). CallAllowed c v) is may)
  where
    by_place : (i : ℕ) (b : Item) → CallAllowed (arrives i b) v → (i ≡ 0) × (w.end ≡ unended)
    by_place zero b may = (refl, on w.end refl (may_open b (in_at v 0) may))
    by_place (suc i) b may = absurd (no_other v.ins i b n may)

module _ (yields : List Tree → End → Given Tree) (o : Opening) (start : Run Subs Tagged) {C : Type 0} (rest : C → ListFunction) (is_open : C → Bool) (f : ListFunction) where
  abbrev K : Led C → List Inflow → List Tree → End → Type 0
  K l = LedKeeps yields o start rest is_open f l

  module _ (whole : C → ListFunction) (call : Call) (old new : Led C) (v : View) (took : ℕ → List Item) (given : List Item) (acts : List Act) (may : CallAllowed call v) (allowed : ActsAllowed (seen call v) acts) (t : Followed whole rest is_open call old acts new)
      (same : Same (whole old.logic.chain) f) (means : Means yields f) (how : opening_of old.logic.how ≡ o) (row : OneOneOf (led_in old.stuck old) v.ins v.outs) where
    abbrev Later : Type 0
    Later = PortsLaw (K new) (acted_all (seen call v) acts) (λ i. took i ++ brought_to i call) (given ++ given_on 0 acts)

    -- a step from one that serves
    by_serves : (law : PortsLaw (K old) v took given) (w : Inflow) → law.ins ≡ w ∷ [] → old.stuck ≡ false → LedServes yields o start rest is_open f old w law.out_list law.out_end → Later
    by_serves law w is calm s =
        let one : length v.ins ≡ 1 = one_input (led_in old.stuck old) v.ins v.outs row in
        let at_first_in = law.took_as 0 w (ap (λ (l : List Inflow). slice_get l 0) is) in
        let opens : Opens call w = opens_now call v w may one (λ x e q. subst (λ (y : End). y ≡ unended) e (in_unended (in_at v 0) w.end q at_first_in)) in
        by_over old.logic.over refl s.stands opens
      where
        finishes : (st : State Subs) → Opens call w → (w.end ≡ unended → (run (substreams yields o) start w.list).state ≡ st) → StateIs rest is_open f yields old.logic.over old.logic st → Later
        finishes st opens at state =
            let step = subst (λ (p : Opening). LedStep rest is_open f yields (substreams yields p) call old t.gave t.closing new st) how (t.step calm f same yields means st state) in
            let moved = stepped yields o start rest is_open f old new call t.gave w law.out_list law.out_end s st opens at t.moves t.closing step in
            ports_law (K old) (K new) call v took given acts may allowed law s.unended_is
            (subst (λ (l : List Inflow). Stepped (K new) (joined_all 0 l (coming call)) law.out_list (given_on 0 acts)) (sym is) (subst (λ (l : List Item). Stepped (K new) (joined w (coming call 0) ∷ []) law.out_list l) (sym t.out) moved))

        by_over : (b : Bool) → old.logic.over ≡ b → StandsAt yields o start rest is_open f b old.logic w → Opens call w → Later
        by_over false e h opens = finishes (run (substreams yields o) start w.list).state opens (λ u. refl) (subst (λ (b : Bool). StateIs rest is_open f yields b old.logic (run (substreams yields o) start w.list).state) (sym e) h.1)
        by_over true e h opens = finishes done opens (λ u. absurd (let x : unended ≡ ended = sym u ∙ h.0 in cc)) (subst (λ (b : Bool). StateIs rest is_open f yields b old.logic done) (sym e) refl)

    -- one that stopped does nothing
    by_stopped : (law : PortsLaw (K old) v took given) (w : Inflow) → law.ins ≡ w ∷ [] → old.stuck ≡ true → LedStopped yields o start old.logic.moves (next_move old.left) w law.out_list law.out_end → Later
    by_stopped law w is on s =
        let q = t.still on in
        let one : length v.ins ≡ 1 = one_input (led_in old.stuck old) v.ins v.outs row in
        let at_first_in = law.took_as 0 w (ap (λ (l : List Inflow). slice_get l 0) is) in
        let opens : Opens call w = opens_now call v w may one (λ x e q. subst (λ (y : End). y ≡ unended) e (in_unended (in_at v 0) w.end q at_first_in)) in
        let still = still_stopped yields o start rest is_open f old call w law.out_list law.out_end opens (λ t is. no_elem t is) s in
        let given_none : given_on 0 acts ≡ [] = ap (λ (l : List Act). given_on 0 l) q.0 in
        let kept : K old (joined w (coming call 0) ∷ []) (law.out_list ++ []) unended =
        subst (λ (b : Bool). keeps_by yields o start rest is_open f b old.logic.phase old (joined w (coming call 0)) (law.out_list ++ []) unended) (sym on) (subst (λ (x : End). LedStopped yields o start old.logic.moves (next_move old.left) (joined w (coming call 0)) (law.out_list ++ []) x) s.unended_is still) in
        subst (λ (l : Led C). PortsLaw (K l) (acted_all (seen call v) acts) (λ i. took i ++ brought_to i call) (given ++ given_on 0 acts)) (sym q.1)
        (ports_law (K old) (K old) call v took given acts may allowed law s.unended_is (record {
          list = [];
          end = unended;
          out_is = given_none;
          keeps = subst (λ (l : List Inflow). K old (joined_all 0 l (coming call)) (law.out_list ++ []) unended) (sym is) kept;
        }))
      where
        no_elem : (t : Tree) → call ≡ arrives 0 (item.Elem t) → ⊥
        no_elem t is = by_lists v.ins v.outs (subst (λ (c : Call). CallAllowed c v) is may) row
          where
            by_lists : (xs : List InView) (ys : List OutView) → slice_index_or xs 0 Cancelled ≡ Pulled → OneOneOf (led_in old.stuck old) xs ys → ⊥
            by_lists (x ∷ []) (y ∷ []) e r = (subst (λ (b : Bool). led_in b old x y) on r).unpulled e
            by_lists [] ys e r = r
            by_lists (x ∷ []) [] e r = r
            by_lists (x ∷ []) (y ∷ z ∷ ys) e r = r
            by_lists (x ∷ u ∷ xs) ys e r = r

    -- one that is closed is not called
    none_closed : old.stuck ≡ false → old.logic.phase ≡ Closed → ⊥
    none_closed calm cl =
        let open_one : old.logic.phase ≡ Open = led_open old call v started_not may row in
        let x : Closed ≡ Open = sym cl ∙ open_one in cc
      where
        started_not : old.logic.phase ≡ New → ⊥
        started_not e = let x : Closed ≡ New = sym cl ∙ e in cc

    pub led_call : (law : PortsLaw (K old) v took given) → Later
    led_call law = by_ins law.ins refl law.keeps
      where
        by_phase : (w : Inflow) → law.ins ≡ w ∷ [] → (b : Bool) (p : Phase) → old.stuck ≡ b → old.logic.phase ≡ p → keeps_by yields o start rest is_open f b p old w law.out_list law.out_end → Later
        by_phase w is true p q r k = by_stopped law w is q k
        by_phase w is false New q r k = by_serves law w is q k
        by_phase w is false Open q r k = by_serves law w is q k
        by_phase w is false Closed q r k = absurd (none_closed q r)

        by_ins : (ins : List Inflow) → law.ins ≡ ins → K old ins law.out_list law.out_end → Later
        by_ins [] is k = absurd k
        by_ins (w ∷ x ∷ ws) is k = absurd k
        by_ins (w ∷ []) is k = by_phase w is old.stuck old.logic.phase refl refl k

-- ---- over its histories

-- what follows from facts of an answer that is Ok
on_ok_three : {T E P Q R Z : Type 0} → (r : Result T E) → OnOk r P → OnOk r Q → OnOk r R → (P → Q → R → Z) → OnOk r Z
on_ok_three (Ok x) p q z f = f p q z
on_ok_three (Err e) p q z f = tt

module _ {C : Type 0} (whole rest : C → ListFunction) (is_open : C → Bool) where
  -- one that follows moves
  led_after : (call : Call) (first old new : Led C) (v : View) (acts : List Act) (took gave : List (List Item)) → CallAllowed call v → ActsAllowed (seen call v) acts → OneOneOf (led_in old.stuck old) v.ins v.outs → Followed whole rest is_open call old acts new
      → LedLaw rest is_open whole first old v took gave → LedLaw rest is_open whole first new (acted_all (seen call v) acts) (brought_by call took) (given_all acts gave)
  led_after call first old new v acts took gave may allowed row t law = record {
    follows = t.follows;
    node = t.node ∙ law.node;
    how = t.how ∙ law.how;
    chain = t.chain ∙ law.chain;
    tells = λ f same yields means start owes.
        in_node (LedKeeps yields (opening_of first.logic.how) start rest is_open f old) (LedKeeps yields (opening_of first.logic.how) start rest is_open f new) call v (acted_all (seen call v) acts) took gave acts (ins_acted acts (seen call v) ∙ ins_seen call v)
        (λ given l. led_call yields (opening_of first.logic.how) start rest is_open f whole call old new v (λ i. slice_index_or took i []) given acts may allowed t (subst (λ (c : C). Same (whole c) f) (sym law.chain) same) means (ap (λ h. opening_of h) law.how) row l)
        (law.tells f same yields means start owes);
  }

  turned_unled : (call : Call) (old new : Led C) (acts : List Act) → old.left ≡ None → LedTurned whole rest is_open call old acts new → Unled whole rest is_open call old acts new
  turned_unled call old new acts e t = subst (λ (o : Option (List ℕ)). turned_by o whole rest is_open call old acts new) e t

  turned_led : (call : Call) (old new : Led C) (acts : List Act) → old.left ≢ None → LedTurned whole rest is_open call old acts new → Followed whole rest is_open call old acts new
  turned_led call old new acts n t = by_left old.left refl t
    where
      by_left : (o : Option (List ℕ)) → old.left ≡ o → turned_by o whole rest is_open call old acts new → Followed whole rest is_open call old acts new
      by_left None e t = absurd (n e)
      by_left (Some l) e t = t

  state_unled : (l : Led C) (v : View) → l.left ≡ None → led_port_state l v → free.port_state l.logic v
  state_unled l v e r = subst (λ (o : Option (List ℕ)). port_state_by o l v) e r

  -- what it follows stays
  plan_stays : (call : Call) (old new : Led C) (acts : List Act) → LedTurned whole rest is_open call old acts new → sub_plan new ≡ sub_plan old
  plan_stays call old new acts t = by_left old.left refl t
    where
      by_left : (o : Option (List ℕ)) → old.left ≡ o → turned_by o whole rest is_open call old acts new → sub_plan new ≡ sub_plan old
      by_left None e t = ap (λ (x : Option (List ℕ)). plan_of (made_moves new) x) t.left ∙ sym (ap (λ (x : Option (List ℕ)). plan_of (made_moves old) x) e)
      by_left (Some l) e t = t.plan

  -- a log stays a log
  chooses_still : (call : Call) (first : Option (List ℕ)) (old new : Led C) (acts : List Act) → old.left ≢ None → LedTurned whole rest is_open call old acts new → ChoosesAs first old.logic.moves → ChoosesAs first new.logic.moves
  chooses_still call first old new acts n t c =
      let f = turned_led call old new acts n t in
      subst (λ (m : Option (List ℕ)). ChoosesAs first m) (sym f.moves) (nodes.chooses_noted first old.logic.moves (port_in f.gave) c)

  law_after : (call : Call) (first old new : Led C) (v : View) (acts : List Act) (took gave : List (List Item)) → led_port_state old v → CallAllowed call v → ActsAllowed (seen call v) acts → LedTurned whole rest is_open call old acts new
      → SubsLaw rest is_open whole first old v took gave → SubsLaw rest is_open whole first new (acted_all (seen call v) acts) (brought_by call took) (given_all acts gave)
  law_after call first old new v acts took gave r may allowed t law = record {
    plan = plan_stays call old new acts t ∙ law.plan;
    chooses = by_first first.left refl;
    unled = unled_after;
    led = λ n. let k = law.led n in led_after call first old new v acts took gave may allowed (led_state old v k.follows r) (turned_led call old new acts k.follows t) k;
  }
    where
      unled_after : first.left ≡ None → (new.left ≡ None) × ((new.stuck ≡ first.stuck) × SubLaw rest is_open whole first.logic new.logic (acted_all (seen call v) acts) (brought_by call took) (given_all acts gave))
      unled_after e =
          let k = law.unled e in
          let u = turned_unled call old new acts k.0 t in
          (u.left, (u.stuck ∙ k.1.0, nodes.law_after whole rest is_open call first.logic old.logic new.logic v acts took gave (state_unled old v k.0 r) may allowed u.turn k.1.1))

      by_first : (o : Option (List ℕ)) → first.left ≡ o → ChoosesAs first.logic.moves new.logic.moves
      by_first None e = (unled_after e).1.1.chooses
      by_first (Some l) e =
          let follows : first.left ≢ None = (λ n. let z : Some l ≡ None = sym e ∙ n in cc) in
          chooses_still call first.logic.moves old new acts (law.led follows).follows t law.chooses

  turned_stands : (call : Call) (old new : Led C) (acts : List Act) → LedTurned whole rest is_open call old acts new → PullsStand acts
  turned_stands call old new acts t = by_left old.left t
    where
      by_left : (o : Option (List ℕ)) → turned_by o whole rest is_open call old acts new → PullsStand acts
      by_left None t = t.turn.stands
      by_left (Some l) t = t.stands

  turned_started : (call : Call) (old new : Led C) (acts : List Act) → LedTurned whole rest is_open call old acts new → new.logic.phase ≢ New
  turned_started call old new acts t = by_left old.left t
    where
      by_left : (o : Option (List ℕ)) → turned_by o whole rest is_open call old acts new → new.logic.phase ≢ New
      by_left None t = t.turn.started
      by_left (Some l) t = t.started

  turned_grows : (call : Call) (old new : Led C) (acts : List Act) → LedTurned whole rest is_open call old acts new → IsPrefix (made_moves old) (made_moves new)
  turned_grows call old new acts t = by_left old.left t
    where
      by_left : (o : Option (List ℕ)) → turned_by o whole rest is_open call old acts new → IsPrefix (made_moves old) (made_moves new)
      by_left None t = subst (λ (ms : Option (List ℕ)). IsPrefix (made_moves old) (unwrap_or ms [])) (sym t.turn.moves) (nodes.noted_grows old.logic.moves (port_in t.turn.gave))
      by_left (Some l) t = subst (λ (ms : Option (List ℕ)). IsPrefix (made_moves old) (unwrap_or ms [])) (sym t.moves) (nodes.noted_grows old.logic.moves (port_in t.gave))

  handled : (call : Call) (old new : Led C) (acts : List Act) → Obeys call (led_port_state old) (led_port_state new) acts → LedTurned whole rest is_open call old acts new → Ready rest is_open new.logic
      → Handles (LedPortState rest is_open) (SubsLaw rest is_open whole) call old new acts
  handled call old new acts o t ready = record {
    obeys = record {
      allowed = λ v may r. o.allowed v may r.ports;
      ports = λ v may r. record { started = turned_started call old new acts t; ready = ready; ports = o.ports v may r.ports };
    };
    stands = turned_stands call old new acts t;
    keeps = λ first v took gave may r law. law_after call first old new v acts took gave r.ports may (o.allowed v may r.ports) t law;
  }

  -- a call is of its one input or output
  pub first_call : (call : Call) (l : Led C) (v : View) → CallAllowed call v → led_port_state l v → at_first call ≡ call
  first_call call l v may r = by_left l.left refl r
    where
      by_left : (o : Option (List ℕ)) → l.left ≡ o → port_state_by o l v → at_first call ≡ call
      by_left None e r = rows.first_call rest is_open call l.logic v may r
      by_left (Some k) e r = first_port (led_in l.stuck l) call v may r

  pub met_first : (call : Call) (l : Led C) → Meets call (LedPortState rest is_open l) → Meets (at_first call) (led_port_state l)
  met_first call l m = subst (λ c. Meets c (led_port_state l)) (sym (first_call call l m.0 m.1.0 m.1.1.ports)) (m.0, (m.1.0, m.1.1.ports))

  pub met_open : (call : Call) (l : Led C) → Meets call (LedPortState rest is_open l) → l.logic.phase ≡ Open
  met_open call l m = called_open l call m.0 m.1.1.started m.1.0 m.1.1.ports

  pub met_ready : (call : Call) (l : Led C) → Meets call (LedPortState rest is_open l) → Ready rest is_open l.logic
  met_ready call l m = m.1.1.ready

  -- the same of an answer, and of the call that comes to its one input or output
  pub handles : {T E : Type 0} (call : Call) (old new : Led C) (acts : List Act) (r : Result T E) → Meets call (LedPortState rest is_open old) → OnOk r (Obeys (at_first call) (led_port_state old) (led_port_state new) acts) → OnOk r (LedTurned whole rest is_open (at_first call) old acts new)
      → OnOk r (Ready rest is_open new.logic) → OnOk r (Handles (LedPortState rest is_open) (SubsLaw rest is_open whole) call old new acts)
  handles call old new acts r m o t k =
      subst (λ c. OnOk r (Handles (LedPortState rest is_open) (SubsLaw rest is_open whole) c old new acts)) (first_call call old m.0 m.1.0 m.1.1.ports)
      (on_ok_three r o t k (λ a b c. handled (at_first call) old new acts a b c))

  pub grew : {T E : Type 0} (call : Call) (old new : Led C) (acts : List Act) (r : Result T E) → OnOk r (LedTurned whole rest is_open call old acts new) → OnOk r (IsPrefix (made_moves old) (made_moves new))
  grew call old new acts (Ok x) t = turned_grows call old new acts t
  grew call old new acts (Err e) t = tt

  -- ---- the run begins

  -- a machine that gave nothing, and goes on
  record FreshMachine (yields : List Tree → End → Given Tree) (f : ListFunction) (l : Logic C) (start : Run Subs Tagged) : Type 0 where
    none : start.gave ≡ []
    state : StateIs rest is_open f yields l.over l start.state

  no_items : (l : List Tagged) → untagged l ≡ [] → l ≡ []
  no_items [] e = refl
  no_items (x ∷ l) e = cc

  fresh_machine : (f : ListFunction) (yields : List Tree → End → Given Tree) (l : Logic C) (start : Run Subs Tagged) → l.phase ≡ New → l.pending ≡ [] → Owes rest is_open f yields l (owing (untag start)) → FreshMachine yields f l start
  fresh_machine f yields l start n none owes = by_phase l.phase n owes
    where
      by_phase : (p : Phase) → p ≡ New → OwesIn rest is_open f yields p l (owing (untag start)) → FreshMachine yields f l start
      by_phase New e h = record { none = no_items start.gave (h.0 ∙ ap untagged none); state = h.1 }
      by_phase Open e h = cc
      by_phase Closed e h = cc

  fresh_led : (l : Led C) (v : View) (took gave : List (List Item)) → CallAllowed starts v → LedNew rest is_open l v → l.left ≢ None → AllEmpty took → AllEmpty gave → length took ≡ length v.ins → length gave ≡ length v.outs → LedLaw rest is_open whole l l v took gave
  fresh_led l v took gave may new follows a b m n = record {
    follows = follows;
    node = refl;
    how = refl;
    chain = refl;
    tells = λ f same yields means start owes. by_lists v.ins v.outs refl refl (led_state l v follows new.ports) f yields start owes;
  }
    where
      by_lists : (xs : List InView) (ys : List OutView) → v.ins ≡ xs → v.outs ≡ ys → OneOneOf (led_in l.stuck l) xs ys → (f : ListFunction) (yields : List Tree → End → Given Tree) (start : Run Subs Tagged) → Owes rest is_open f yields l.logic (owing (untag start))
          → InPortsLaw (LedKeeps yields (opening_of l.logic.how) start rest is_open f l) v took gave
      by_lists [] ys i o r f yields start owes = absurd r
      by_lists (x ∷ []) [] i o r f yields start owes = absurd r
      by_lists (x ∷ []) (y ∷ z ∷ ys) i o r f yields start owes = absurd r
      by_lists (x ∷ u ∷ xs) ys i o r f yields start owes = absurd r
      by_lists (x ∷ []) (y ∷ []) i o r f yields start owes =
          let k = subst (λ (p : Phase). led_at l p x y) new.core.fresh (subst (λ (c : Bool). led_in c l x y) new.calm r) in
          let p : Opening = opening_of l.logic.how in
          let fm = fresh_machine f yields l.logic start new.core.fresh k.empty owes in
          let ready : led_ready yields p start nothing_came ≡ [] = open_ready yields p start start ∙ fm.none in
          let none_gave : length start.gave ≡ 0 = ap length fm.none in
          let serves : LedServes yields p start rest is_open f l nothing_came [] unended = record {
            unended_is = refl;
            given = [];
            by = record { list_is = refl; moves_is = new.log follows };
            shares = λ j. rw (ready, k.empty) refl;
            count = rw (ready, k.empty) refl;
            lags = omega (arith, none_gave);
            stands = subst (λ (c : Bool). StandsAt yields p start rest is_open f c l.logic nothing_came) (sym k.going) (refl, subst (λ (c : Bool). StateIs rest is_open f yields c l.logic start.state) k.going fm.state);
          } in
          let kept : LedKeeps yields p start rest is_open f l (nothing_came ∷ []) [] unended =
          subst (λ (c : Bool). keeps_by yields p start rest is_open f c l.logic.phase l nothing_came [] unended) (sym new.calm) (subst (λ (q : Phase). keeps_by yields p start rest is_open f false q l nothing_came [] unended) (sym new.core.fresh) serves) in
          let one : length v.ins ≡ 1 = ap length i in
          let outs : GaveAs (out_at v 0) unended = subst (λ (zs : List OutView). GaveAs (slice_index_or zs 0 outlet.Closed) unended) (sym o) (subst (λ (q : OutView). GaveAs q unended) (sym (k.rests.output ∙ ap wish k.unasked)) refl) in
          begun (LedKeeps yields p start rest is_open f l) v took gave a b m (n ∙ ap length o)
          (new_ports (LedKeeps yields p start rest is_open f l) v may.0 outs (rw one kept))

  fresh_law : (l : Led C) (v : View) (took gave : List (List Item)) → CallAllowed starts v → LedNew rest is_open l v → AllEmpty took → AllEmpty gave → length took ≡ length v.ins → length gave ≡ length v.outs → SubsLaw rest is_open whole l l v took gave
  fresh_law l v took gave may new a b m n = record {
    plan = refl;
    chooses = nodes.chooses_self l.logic.moves;
    unled = λ e. (e, (refl, nodes.fresh_law whole rest is_open l.logic v took gave new.core a b m n));
    led = λ e. fresh_led l v took gave may new e a b m n;
  }

  started : (old new : Led C) (acts : List Act) → Obeys starts (led_port_state old) (led_port_state new) acts → LedTurned whole rest is_open starts old acts new → Ready rest is_open new.logic → Starts (LedPortState rest is_open) (SubsLaw rest is_open whole) (LedNew rest is_open) old new acts
  started old new acts o t k = record {
    obeys = record {
      allowed = λ v may r. o.allowed v may r.ports;
      ports = λ v may r. record { started = turned_started starts old new acts t; ready = k; ports = o.ports v may r.ports };
    };
    stands = turned_stands starts old new acts t;
    begins = λ v took gave may r a b m n. law_after starts old old new v acts took gave r.ports may (o.allowed v may r.ports) t (fresh_law old v took gave may r a b m n);
  }

  pub starts_as : {T E : Type 0} (old new : Led C) (acts : List Act) (r : Result T E) → OnOk r (Obeys starts (led_port_state old) (led_port_state new) acts) → OnOk r (LedTurned whole rest is_open starts old acts new) → OnOk r (Ready rest is_open new.logic)
      → OnOk r (Starts (LedPortState rest is_open) (SubsLaw rest is_open whole) (LedNew rest is_open) old new acts)
  starts_as old new acts r o t k = on_ok_three r o t k (λ a b c. started old new acts a b c)

  pub fresh_new : (l : Led C) → Meets starts (LedNew rest is_open l) → l.logic.phase ≡ New
  fresh_new l m = m.1.1.core.fresh

  pub fresh_calm : (l : Led C) → Meets starts (LedNew rest is_open l) → l.stuck ≡ false
  fresh_calm l m = m.1.1.calm

  pub fresh_ready : (l : Led C) → Meets starts (LedNew rest is_open l) → Ready rest is_open l.logic
  fresh_ready l m = m.1.1.core.ready

  pub met_fresh : (l : Led C) → Meets starts (LedNew rest is_open l) → Meets starts (led_port_state l)
  met_fresh l m = (m.0, (m.1.0, m.1.1.ports))
