-- A recover as a node: where it is open, how calls keep its law over its histories, and what it gave against its outlook.
use Rattle.std.specs.Prelude.{Option, slice_index_or}
use Rattle.std.proofs.Common.{◌≡◌, ◌≢◌, ℕ, ◌+◌, ◌≤◌, ◌⊎◌, inl, inr, Bool, true, false, Some, None, List, [], ◌∷◌, length, take, refl, sym, ap, ◌∙◌, subst, arith}
use Rattle.std.proofs.lemmas.List.{length-append, length-take-le}
use Rattle.elem_core.proofs.Prefixes.{prefix_length}
use Rattle.elem_core.specs.Tree.{Tree}
use Rattle.elem_core.specs.declared.item.Item.{Item}
use Rattle.port_core.specs.declared.act.Act.{Act}
use Rattle.port_core.specs.declared.view.InView.{InView}
use Rattle.port_core.specs.declared.view.InView.TheVariants.{Idle, Pulled, Finished, Cancelled}
use Rattle.port_core.specs.declared.view.OutView.{OutView}
use Rattle.port_core.specs.declared.view.OutView.TheVariants as outlet
use Rattle.port_core.specs.View.{View, in_at, OneOneOf, IsInOpen, IsOutOpen, ActsAllowed, acted_all, unpulled_ports}
use Rattle.port_core.specs.Call.{Call, starts, pulls, arrives, cancels, CallAllowed, seen, Obeys, given_on}
use Rattle.stream_model.specs.Node.{head_of}
use Rattle.stream_model.specs.Outlook.{Outlook, End, unended, ended, failed, Agrees}
use Rattle.stream_model.specs.FanIn.{Inflow, AllAgree}
use Rattle.stream_model.specs.Picks.{RecoverStands, recover_fits, recover_outlook}
use Rattle.stream_model.proofs.Fitting.{recover_fitting}
use Rattle.stream_model.proofs.PickTraces.{recover_trace}
use Rattle.stage_core.specs.Handling.{Starts, Handles}
use Rattle.stage_core.specs.Histories.{given_all, brought_by, AllEmpty}
use Rattle.stage_core.proofs.OneOnes.{one_input}
use Rattle.stage_core.specs.Law.{GaveAs}
use Rattle.stage_core.specs.Inflows.{PortsLaw}
use Rattle.stage_core.proofs.OpenPorts.{may_come, closed_ports}
use Rattle.stage_core.specs.declared.phase.Phase.{Phase}
use Rattle.stage_core.specs.declared.phase.Phase.TheVariants.{New, Open, Closed}
use Rattle.stage_core.specs.PortsLaws.{InPortsLaw}
use Rattle.stage_core.proofs.Over.{ended_at, failed_at}
use Rattle.stream_model.proofs.PickTraces.{agrees_prefix}
use Rattle.stage_core.proofs.Histories as histories
use Rattle.stage_core.proofs.Histories.{in_node, ins_seen, ins_acted}
use Rattle.port_core.specs.Picks.{next_move, plan_of}
use Rattle.port_core.specs.declared.pick_log.Next.{Next}
use Rattle.port_core.specs.declared.pick_log.Next.TheVariants.{Free, Move, UsedUp}
use Rattle.stage_core.specs.Row.{BothClosed}
use Rattle.stage_dropping.specs.Recovers.{RecoverHeld, passes, stopped, HasStopped, RecoverTurnAt, RecoverKeeps, RecoverStandsOf, RecoverRest, RestsAt, RecoverRests, FailedAt, IsBroken, RecoverMisfits, RecoverCause, RecoverCounts, recover_moves}
use Rattle.stage_dropping.specs.Recoverings as stage
use Rattle.stage_dropping.specs.Recoverings.{Recover, recover_at, recover_in, StillBy, Ahead, port_state, held_in, held_by, held_of, RecoverFresh, RecoverPortState, RecoversAs, begun, follows}
use Rattle.stage_dropping.proofs.RecoverTurns.{all_of, no_ports, two_ports, recover_new, recover_call, recover_rest, recover_stands}

-- ---- where it is called

some_open : (call : Call) (x : InView) (y : OutView) → CallAllowed call (record { ins = x ∷ []; outs = y ∷ [] }) → IsInOpen x ⊎ IsOutOpen y
some_open starts x y h = inl (rw h.0.0 tt)
some_open (pulls j) x y h = may_come (pulls j) x y (λ e. cc) h
some_open (arrives i b) x y h = may_come (arrives i b) x y (λ e. cc) h
some_open (cancels j) x y h = may_come (cancels j) x y (λ e. cc) h

open_at : (l : Recover) (p : Phase) (over asked : Bool) (x : InView) (y : OutView) → (p ≡ New → ⊥) → (IsInOpen x ⊎ IsOutOpen y) → recover_at l p over asked x y → p ≡ Open
open_at l Open over asked x y n h r = refl
open_at l New over asked x y n h r = absurd (n refl)
open_at l Closed over asked x y n h r = absurd (closed_ports x y h r)

open_in : (l : Recover) (b : Bool) (x : InView) (y : OutView) → (l.phase ≡ New → ⊥) → (IsInOpen x ⊎ IsOutOpen y) → recover_in b l x y → l.phase ≡ Open
open_in l false x y n h r = open_at l l.phase l.over l.asked x y n h r.0
open_in l true x y n h r = r.0

open_lists : (l : Recover) (call : Call) (xs : List InView) (ys : List OutView) → (l.phase ≡ New → ⊥) → CallAllowed call (record { ins = xs; outs = ys }) → OneOneOf (recover_in l.still l) xs ys → l.phase ≡ Open
open_lists l call (x ∷ []) (y ∷ []) n h r = open_in l l.still x y n (some_open call x y h) r
open_lists l call [] ys n h r = absurd r
open_lists l call (x ∷ []) [] n h r = absurd r
open_lists l call (x ∷ []) (y ∷ z ∷ ys) n h r = absurd r
open_lists l call (x ∷ u ∷ xs) ys n h r = absurd r

pub called_open : (l : Recover) (call : Call) (v : View) → (l.phase ≡ New → ⊥) → CallAllowed call v → port_state l v → l.phase ≡ Open
called_open l call v n h r = open_lists l call v.ins v.outs n h r

-- ---- its moves

-- the moves that it owes are those of its log
held_moves : (l : Recover) (v : View) → port_state l v → recover_moves (held_of l) ≡ l.moves
held_moves l v r = by_lists v.ins v.outs r
  where
    by_ports : (p : Phase) (over asked : Bool) (x : InView) (y : OutView) → recover_at l p over asked x y → recover_moves (held_in p over l.passed l.moves) ≡ l.moves
    by_ports New false false Idle outlet.Unpulled r = sym r.unmoved
    by_ports Open false true Pulled outlet.Available r = sym r.unmoved
    by_ports Open false false Idle outlet.Unpulled r = sym r.unmoved
    by_ports Open true false Finished outlet.Unpulled r = sym r.moved
    by_ports Closed over asked x y r = refl
    by_ports p over asked x y r = absurd r

    by_still : (b : Bool) (x : InView) (y : OutView) → recover_in b l x y → recover_moves (held_by b l) ≡ l.moves
    by_still false x y r = by_ports l.phase l.over l.asked x y r.0
    by_still true x y r = sym r.1.0

    by_lists : (xs : List InView) (ys : List OutView) → OneOneOf (recover_in l.still l) xs ys → recover_moves (held_of l) ≡ l.moves
    by_lists (x ∷ []) (y ∷ []) r = by_still l.still x y r
    by_lists [] ys r = absurd r
    by_lists (x ∷ []) [] r = absurd r
    by_lists (x ∷ []) (y ∷ z ∷ ys) r = absurd r
    by_lists (x ∷ u ∷ xs) ys r = absurd r

-- ---- calls

keeps_ports : (t : Tree) (c : Call) (old new : RecoverHeld) (v : View) (took gave : List (List Item)) (acts : List Act) → CallAllowed c v → ActsAllowed (seen c v) acts → RecoverTurnAt t c old (given_on 0 acts) new
    → InPortsLaw (RecoverKeeps t old) v took gave → InPortsLaw (RecoverKeeps t new) (acted_all (seen c v) acts) (brought_by c took) (given_all acts gave)
keeps_ports t c old new v took gave acts may allowed turn law =
    in_node (RecoverKeeps t old) (RecoverKeeps t new) c v (acted_all (seen c v) acts) took gave acts (ins_acted acts (seen c v) ∙ ins_seen c v)
    (λ given l. recover_call t c old new v (λ i. slice_index_or took i []) given acts may allowed turn l) law

-- the law over its histories once a call's actions are done
law_after : (c : Call) (first old new : Recover) (v : View) (took gave : List (List Item)) (acts : List Act) → CallAllowed c v → ActsAllowed (seen c v) acts → stage.Turned c old acts new → old.own ≡ first.own → port_state new (acted_all (seen c v) acts)
    → RecoversAs first old v took gave → RecoversAs first new (acted_all (seen c v) acts) (brought_by c took) (given_all acts gave)
law_after c first old new v took gave acts may allowed t same after law = record {
  unmoved = law.unmoved;
  plan = t.plan ∙ law.plan;
  element = law.element;
  is_own = law.is_own;
  still = λ on. t.own on ∙ same;
  noted = held_moves new (acted_all (seen c v) acts) after;
  by = keeps_ports law.element c (held_of old) (held_of new) v took gave acts may allowed (t.turn law.element (same ∙ law.is_own)) law.by;
}

pub handled : (c : Call) (old new : Recover) (acts : List Act) → Obeys c (port_state old) (port_state new) acts → stage.Turned c old acts new → Handles RecoverPortState RecoversAs c old new acts
handled c old new acts o t = record {
  obeys = record {
    allowed = λ v may r. o.allowed v may r.ports;
    ports = λ v may r. record { started = t.started; ports = o.ports v may r.ports };
  };
  stands = t.stands;
  keeps = λ first v took gave may r law. law_after c first old new v took gave acts may (o.allowed v may r.ports) t (law.still (called_open old c v r.started may r.ports)) (o.ports v may r.ports) law;
}

-- ---- before anything came

-- what a new one knows of its ports, that it has an element of its own, and that it goes on
record News (own : Option Tree) (b : Bool) (xs : List InView) (ys : List OutView) : Type 0 where
  outs : ys ≡ outlet.Unpulled ∷ []
  some : own ≢ None
  on : b ≡ false

new_ports : (l : Recover) (p : Phase) (over asked : Bool) (x : InView) (y : OutView) → p ≡ New → recover_at l p over asked x y → News l.own false (x ∷ []) (y ∷ [])
new_ports l New false false Idle outlet.Unpulled e r = record { outs = refl; some = r.own; on = refl }
new_ports l New over asked x y e r = absurd r
new_ports l Open over asked x y e r = cc
new_ports l Closed over asked x y e r = cc

new_in : (l : Recover) (b : Bool) (x : InView) (y : OutView) → l.phase ≡ New → recover_in b l x y → News l.own b (x ∷ []) (y ∷ [])
new_in l false x y e r = new_ports l l.phase l.over l.asked x y e r.0
new_in l true x y e r = absurd (let z : New ≡ Open = sym e ∙ r.0 in cc)

new_lists : (l : Recover) (xs : List InView) (ys : List OutView) → l.phase ≡ New → OneOneOf (recover_in l.still l) xs ys → News l.own l.still xs ys
new_lists l (x ∷ []) (y ∷ []) e r = new_in l l.still x y e r
new_lists l [] ys e r = absurd r
new_lists l (x ∷ []) [] e r = absurd r
new_lists l (x ∷ []) (y ∷ z ∷ ys) e r = absurd r
new_lists l (x ∷ u ∷ xs) ys e r = absurd r

own_of : (o : Option Tree) → o ≢ None → (t : Tree) × (o ≡ Some t)
own_of (Some t) n = (t, refl)
own_of None n = absurd (n refl)

fresh_law : (l : Recover) (v : View) (took gave : List (List Item)) → CallAllowed starts v → RecoverFresh l v → AllEmpty took → AllEmpty gave → length took ≡ length v.ins → length gave ≡ length v.outs → RecoversAs l l v took gave
fresh_law l v took gave may f a b m n =
    let new = new_lists l v.ins v.outs f.fresh f.ports in
    let own = own_of l.own new.some in
    let owes : held_of l ≡ passes 0 = ap (λ b. held_by b l) new.on ∙ ap (λ q. held_in q l.over l.passed l.moves) f.fresh ∙ ap passes f.none_passed in
    let one : length v.ins ≡ 1 = one_input (recover_in l.still l) v.ins v.outs f.ports in
    record {
      unmoved = f.unmoved;
      plan = refl;
      element = own.0;
      is_own = own.1;
      still = λ on. refl;
      noted = ap recover_moves owes ∙ sym f.unmoved;
      by = histories.begun (RecoverKeeps own.0 (held_of l)) v took gave a b m (n ∙ ap length new.outs)
          (subst (λ x. PortsLaw (RecoverKeeps own.0 x) v (λ _. []) []) (sym owes)
          (recover_new own.0 v one may.0 (subst (λ ys. GaveAs (slice_index_or ys 0 outlet.Closed) unended) (sym new.outs) refl)));
    }

pub started : (old new : Recover) (acts : List Act) → Obeys starts (port_state old) (port_state new) acts → stage.Turned starts old acts new → Starts RecoverPortState RecoversAs RecoverFresh old new acts
started old new acts o t = record {
  obeys = record {
    allowed = λ v may r. o.allowed v may r.ports;
    ports = λ v may r. record { started = t.started; ports = o.ports v may r.ports };
  };
  stands = t.stands;
  begins = λ v took gave may r a b m n. law_after starts old old new v took gave acts may (o.allowed v may r.ports) t refl (o.ports v may r.ports) (fresh_law old v took gave may r a b m n);
}

pub new_may_start : (t : Tree) → RecoverFresh (begun t) unpulled_ports
new_may_start t = record { fresh = refl; none_passed = refl; unmoved = refl; ports = (record { unmoved = refl; own = λ e. cc; ahead = tt }, refl) }

-- at most one move
one_ahead : (moves : List ℕ) → length moves ≤ 1 → Ahead (Some moves) 0
one_ahead [] h = tt
one_ahead (k ∷ []) h = (omega arith, refl)
one_ahead (k ∷ j ∷ l) h = absurd (omega (arith, h))

pub follower_may_start : (t : Tree) (moves : List ℕ) → length moves ≤ 1 → RecoverFresh (follows moves (begun t)) unpulled_ports
follower_may_start t moves few = record { fresh = refl; none_passed = refl; unmoved = refl; ports = (record { unmoved = refl; own = λ e. cc; ahead = one_ahead moves few }, refl) }

-- ---- between two calls

closed_both : (x : InView) (y : OutView) (f : Inflow) (g : List Tree) → BothClosed x y → RestsAt x y (f ∷ []) g
closed_both Finished outlet.Closed f g h = inl (refl, refl)
closed_both Finished outlet.Cancelled f g h = inl (refl, refl)
closed_both Cancelled outlet.Closed f g h = inl (refl, refl)
closed_both Cancelled outlet.Cancelled f g h = inl (refl, refl)
closed_both x y f g h = absurd h

module _ (t : Tree) (l : Recover) where
  rests_one : (p : Phase) (over asked : Bool) (x : InView) (y : OutView) (f : Inflow) (g : List Tree) (e : End) → (p ≡ New → ⊥) → recover_at l p over asked x y → RecoverKeeps t (held_in p over l.passed l.moves) (f ∷ []) g e → RestsAt x y (f ∷ []) g
  rests_one New over asked x y f g e n r k = absurd (n refl)
  rests_one Open false true Pulled outlet.Available f g e n r k = inr (inl ((refl, refl), (refl, refl), ap length (k.1.1.0 ∙ sym (all_of f.list (length f.list) refl))))
  rests_one Open false false Idle outlet.Unpulled f g e n r k = inr (inr (inl ((refl, refl), inr (refl, refl))))
  rests_one Open true false Finished outlet.Unpulled f g e n r k = inr (inr (inr (refl, (refl, refl), refl)))
  rests_one Closed over asked x y f g e n r k = closed_both x y f g r
  rests_one p over asked x y f g e n r k = absurd r

  rests_ins : (x : InView) (y : OutView) (ins : List Inflow) (g : List Tree) (e : End) → (l.phase ≡ New → ⊥) → recover_in false l x y → RecoverKeeps t (held_by false l) ins g e → RestsAt x y ins g
  rests_ins x y [] g e n r k = absurd (no_ports t (held_by false l) g e k)
  rests_ins x y (f ∷ []) g e n r k = rests_one l.phase l.over l.asked x y f g e n r.0 k
  rests_ins x y (f ∷ h ∷ fs) g e n r k = absurd (two_ports t (held_by false l) f h fs g e k)

  rests_lists : (xs : List InView) (ys : List OutView) (ins : List Inflow) (g : List Tree) (e : End) → (l.phase ≡ New → ⊥) → OneOneOf (recover_in false l) xs ys → RecoverKeeps t (held_by false l) ins g e → RecoverRests (record { ins = xs; outs = ys }) ins g
  rests_lists (x ∷ []) (y ∷ []) ins g e n r k = rests_ins x y ins g e n r k
  rests_lists [] ys ins g e n r k = absurd r
  rests_lists (x ∷ []) [] ins g e n r k = absurd r
  rests_lists (x ∷ []) (y ∷ z ∷ ys) ins g e n r k = absurd r
  rests_lists (x ∷ u ∷ xs) ys ins g e n r k = absurd r

  -- one without a move, whose input failed
  failed_ins : (next : Next) (x : InView) (ins : List Inflow) (g : List Tree) (e : End) → l.stuck ≡ false → StillBy next l.stuck x → RecoverKeeps t (stopped next) ins g e → FailedAt x ins
  failed_ins next x [] g e calm s k = absurd (no_ports t (stopped next) g e k)
  failed_ins next x (f ∷ h ∷ fs) g e calm s k = absurd (two_ports t (stopped next) f h fs g e k)
  failed_ins Free x (f ∷ []) g e calm s k = absurd s
  failed_ins (Move m) x (f ∷ []) g e calm s k = absurd (let z : true ≡ false = sym s.0 ∙ calm in cc)
  failed_ins UsedUp x (f ∷ []) g e calm s k = subst (λ (i : InView). FailedAt i (f ∷ [])) (sym s.1) (refl, k.1.1)

  failed_lists : (xs : List InView) (ys : List OutView) (ins : List Inflow) (g : List Tree) (e : End) → l.stuck ≡ false → OneOneOf (recover_in true l) xs ys → RecoverKeeps t (held_by true l) ins g e → FailedAt (slice_index_or xs 0 Cancelled) ins
  failed_lists (x ∷ []) (y ∷ []) ins g e calm r k = failed_ins (next_move l.left) x ins g e calm r.1.1 k
  failed_lists [] ys ins g e calm r k = absurd r
  failed_lists (x ∷ []) [] ins g e calm r k = absurd r
  failed_lists (x ∷ []) (y ∷ z ∷ ys) ins g e calm r k = absurd r
  failed_lists (x ∷ u ∷ xs) ys ins g e calm r k = absurd r

  -- one that cannot make its next move
  cause_ins : (next : Next) (x : InView) (ins : List Inflow) (g : List Tree) (e : End) → l.stuck ≡ true → StillBy next l.stuck x → RecoverKeeps t (stopped next) ins g e → RecoverMisfits next ins
  cause_ins next x [] g e marked s k = absurd (no_ports t (stopped next) g e k)
  cause_ins next x (f ∷ h ∷ fs) g e marked s k = absurd (two_ports t (stopped next) f h fs g e k)
  cause_ins Free x (f ∷ []) g e marked s k = absurd s
  cause_ins UsedUp x (f ∷ []) g e marked s k = absurd (let z : true ≡ false = sym marked ∙ s.0 in cc)
  cause_ins (Move m) x (f ∷ []) g e marked s k = k.1.1

  cause_in : (b : Bool) (x : InView) (y : OutView) (ins : List Inflow) (g : List Tree) (e : End) → l.stuck ≡ true → recover_in b l x y → RecoverKeeps t (held_by b l) ins g e → RecoverMisfits (next_move l.left) ins
  cause_in false x y ins g e marked r k = absurd (let z : true ≡ false = sym marked ∙ r.1 in cc)
  cause_in true x y ins g e marked r k = cause_ins (next_move l.left) x ins g e marked r.1.1 k

  cause_lists : (xs : List InView) (ys : List OutView) (ins : List Inflow) (g : List Tree) (e : End) → l.stuck ≡ true → OneOneOf (recover_in l.still l) xs ys → RecoverKeeps t (held_of l) ins g e → RecoverMisfits (next_move l.left) ins
  cause_lists (x ∷ []) (y ∷ []) ins g e marked r k = cause_in l.still x y ins g e marked r k
  cause_lists [] ys ins g e marked r k = absurd r
  cause_lists (x ∷ []) [] ins g e marked r k = absurd r
  cause_lists (x ∷ []) (y ∷ z ∷ ys) ins g e marked r k = absurd r
  cause_lists (x ∷ u ∷ xs) ys ins g e marked r k = absurd r

pub rests : (first now : Recover) (v : View) (took gave : List (List Item)) → now.still ≡ false → RecoverPortState now v → (law : RecoversAs first now v took gave) → RecoverRests v law.by.law.ins law.by.law.out_list
rests first now v took gave on r law =
    rests_lists law.element now v.ins v.outs law.by.law.ins law.by.law.out_list law.by.law.out_end r.started (subst (λ b. OneOneOf (recover_in b now) v.ins v.outs) on r.ports)
    (subst (λ b. RecoverKeeps law.element (held_by b now) law.by.law.ins law.by.law.out_list law.by.law.out_end) on law.by.law.keeps)

pub rests_without : (first now : Recover) (v : View) (took gave : List (List Item)) → now.still ≡ true → now.stuck ≡ false → RecoverPortState now v → (law : RecoversAs first now v took gave) → FailedAt (in_at v 0) law.by.law.ins
rests_without first now v took gave still calm r law =
    failed_lists law.element now v.ins v.outs law.by.law.ins law.by.law.out_list law.by.law.out_end calm (subst (λ b. OneOneOf (recover_in b now) v.ins v.outs) still r.ports)
    (subst (λ b. RecoverKeeps law.element (held_by b now) law.by.law.ins law.by.law.out_list law.by.law.out_end) still law.by.law.keeps)

pub has_cause : (first now : Recover) (v : View) (took gave : List (List Item)) → now.stuck ≡ true → RecoverPortState now v → (law : RecoversAs first now v took gave) → RecoverMisfits (next_move now.left) law.by.law.ins
has_cause first now v took gave marked r law = cause_lists law.element now v.ins v.outs law.by.law.ins law.by.law.out_list law.by.law.out_end marked r.ports law.by.law.keeps

-- ---- what it follows

pub plan_begins : (first now : Recover) (v : View) (took gave : List (List Item)) → RecoversAs first now v took gave → plan_of now.moves now.left ≡ first.left
plan_begins first now v took gave law = law.plan ∙ ap (λ ms. plan_of ms first.left) law.unmoved ∙ none_made first.left
  where
    none_made : (l : Option (List ℕ)) → plan_of [] l ≡ l
    none_made None = refl
    none_made (Some ms) = refl

none_left : (moves : List ℕ) (l : Option (List ℕ)) → plan_of moves l ≡ None → l ≡ None
none_left moves None h = refl
none_left moves (Some ms) h = cc

pub stays_free : (first now : Recover) (v : View) (took gave : List (List Item)) → first.left ≡ None → RecoversAs first now v took gave → (now.still ≡ false) × (now.left ≡ None)
stays_free first now v took gave free law = (by_still now.still refl law.by.law.keeps, left)
  where
    left : now.left ≡ None
    left = none_left now.moves now.left (plan_begins first now v took gave law ∙ free)

    none_stops : (ins : List Inflow) (g : List Tree) (e : End) → RecoverKeeps law.element (stopped Free) ins g e → ⊥
    none_stops [] g e k = k
    none_stops (f ∷ []) g e k = k.1.1
    none_stops (f ∷ h ∷ fs) g e k = k

    by_still : (b : Bool) → now.still ≡ b → RecoverKeeps law.element (held_by b now) law.by.law.ins law.by.law.out_list law.by.law.out_end → now.still ≡ false
    by_still false e k = e
    by_still true e k = absurd (none_stops law.by.law.ins law.by.law.out_list law.by.law.out_end (subst (λ (o : Option (List ℕ)). RecoverKeeps law.element (stopped (next_move o)) law.by.law.ins law.by.law.out_list law.by.law.out_end) left k))

-- ---- outlooks

module _ (t : Tree) where
  fits_by : (ms : List ℕ) (o : Outlook) (f : Inflow) (g : List Tree) (e : End) → Agrees o f.list f.end → (length ms ≤ 1) × RecoverStands t ms f g e → recover_fits ms o ≡ true
  fits_by [] o f g e a s = refl
  fits_by (k ∷ []) o f g unended a s = recover_fitting k o f a s.1.0
  fits_by (k ∷ []) o f g ended a s = recover_fitting k o f a s.1.0
  fits_by (k ∷ []) o f g (failed c) a s = absurd s.1
  fits_by (k ∷ j ∷ ms) o f g e a s = let few = s.0 in absurd (omega (arith, few))

  few_given : (k : ℕ) (ms : List ℕ) (f : Inflow) (g : List Tree) (e : End) → RecoverStands t (k ∷ ms) f g e → (k ≡ length f.list) × (length g ≤ k + 1)
  few_given k ms f g unended s =
      let long = s.0.0 in
      let short = prefix_length s.1 in
      let all = length-append (take k f.list) (t ∷ []) in
      let few = length-take-le k f.list (omega (arith, long)) in
      (sym long, omega (arith, short, all, few))
  few_given k ms f g ended s =
      let long = s.0.0 in
      let same = ap length s.1 in
      let all = length-append (take k f.list) (t ∷ []) in
      let few = length-take-le k f.list (omega (arith, long)) in
      (sym long, omega (arith, same, all, few))
  few_given k ms f g (failed c) s = absurd s

  counts_by : (ms : List ℕ) (ins : List Inflow) (g : List Tree) (e : End) → RecoverStandsOf t ms ins g e → RecoverCounts ms ins g
  counts_by [] ins g e s = tt
  counts_by (k ∷ ms) [] g e s = absurd s
  counts_by (k ∷ ms) (f ∷ []) g e s = few_given k ms f g e s.1
  counts_by (k ∷ ms) (f ∷ h ∷ fs) g e s = absurd s

module _ (first now : Recover) (v : View) (took gave : List (List Item)) (law : RecoversAs first now v took gave) where
  pub stands : RecoverStandsOf law.element now.moves law.by.law.ins law.by.law.out_list law.by.law.out_end
  stands = subst (λ ms. RecoverStandsOf law.element ms law.by.law.ins law.by.law.out_list law.by.law.out_end) law.noted
      (recover_stands law.element (held_of now) v (λ i. slice_index_or took i []) law.by.given law.by.law)

  pub counted : RecoverCounts now.moves law.by.law.ins law.by.law.out_list
  counted = counts_by law.element now.moves law.by.law.ins law.by.law.out_list law.by.law.out_end stands

  pub fits : (is : List Outlook) → AllAgree is law.by.law.ins → recover_fits now.moves (head_of is) ≡ true
  fits is a = by_ports is law.by.law.ins a stands
    where
      by_ports : (is : List Outlook) (ins : List Inflow) → AllAgree is ins → RecoverStandsOf law.element now.moves ins law.by.law.out_list law.by.law.out_end → recover_fits now.moves (head_of is) ≡ true
      by_ports (o ∷ []) (f ∷ []) a s = fits_by law.element now.moves o f law.by.law.out_list law.by.law.out_end a.0 s
      by_ports is [] a s = absurd s
      by_ports is (f ∷ h ∷ fs) a s = absurd s
      by_ports [] (f ∷ []) a s = absurd a
      by_ports (o ∷ q ∷ os) (f ∷ []) a s = absurd a.1

  pub agrees : (is : List Outlook) → AllAgree is law.by.law.ins → Agrees (recover_outlook law.element now.moves (head_of is)) law.by.law.out_list law.by.law.out_end
  agrees is a = by_ports is law.by.law.ins a stands
    where
      by_ports : (is : List Outlook) (ins : List Inflow) → AllAgree is ins → RecoverStandsOf law.element now.moves ins law.by.law.out_list law.by.law.out_end → Agrees (recover_outlook law.element now.moves (head_of is)) law.by.law.out_list law.by.law.out_end
      by_ports (o ∷ []) (f ∷ []) a s = recover_trace law.element now.moves o f law.by.law.out_list law.by.law.out_end a.0 s.1
      by_ports is [] a s = absurd s
      by_ports is (f ∷ h ∷ fs) a s = absurd s
      by_ports [] (f ∷ []) a s = absurd a
      by_ports (o ∷ q ∷ os) (f ∷ []) a s = absurd a.1

pub rest_given : (first now : Recover) (v : View) (took gave : List (List Item)) → (law : RecoversAs first now v took gave) → RecoverRest law.element (held_of now) law.by.law.ins law.by.law.out_list
rest_given first now v took gave law = recover_rest law.element (held_of now) v (λ i. slice_index_or took i []) law.by.given law.by.law

-- ---- the cause of a misfit over its outlook

cause_at : (k : ℕ) (o : Outlook) (f : Inflow) → Agrees o f.list f.end → HasStopped (Move k) f → RecoverCause (Move k) (o ∷ [])
cause_at k o f a (inl e) = inl (length f.list, ended_at o f.list (subst (λ (d : End). Agrees o f.list d) e a))
cause_at k o f a (inr (inl h)) = by_end f.end refl h.0
  where
    by_end : (e : End) → f.end ≡ e → IsBroken e → RecoverCause (Move k) (o ∷ [])
    by_end unended e b = absurd b
    by_end ended e b = absurd b
    by_end (failed c) e b = inr (inl (length f.list, (h.1, failed_at o f.list c (subst (λ (d : End). Agrees o f.list d) e a))))
cause_at k o f a (inr (inr h)) = let few = prefix_length (agrees_prefix o f.list f.end a) in inr (inr (omega (arith, h, few)))

cause_over : (next : Next) (os : List Outlook) (ins : List Inflow) → AllAgree os ins → RecoverMisfits next ins → RecoverCause next os
cause_over (Move k) (o ∷ []) (f ∷ []) a h = cause_at k o f a.0 h
cause_over (Move k) (o ∷ q ∷ os) (f ∷ []) a h = absurd a.1
cause_over (Move k) [] (f ∷ []) a h = absurd a
cause_over (Move k) os [] a h = absurd h
cause_over (Move k) os (f ∷ g ∷ ins) a h = absurd h
cause_over Free os ins a h = absurd h
cause_over UsedUp os ins a h = absurd h

pub has_cause_over : (os : List Outlook) (first now : Recover) (v : View) (took gave : List (List Item)) → now.stuck ≡ true → RecoverPortState now v → (law : RecoversAs first now v took gave) → AllAgree os law.by.law.ins → RecoverCause (next_move now.left) os
has_cause_over os first now v took gave marked r law a = cause_over (next_move now.left) os law.by.law.ins a (has_cause first now v took gave marked r law)
