-- What a balance does with a call: how it takes the call in, what it does from there, and that it keeps its port state and is a turn of its
-- law.
use Rattle.std.specs.Prelude.{if◌then◌else◌, slice_get, slice_set, slice_index_or}
use Rattle.std.specs.Option.{option_to_list}
use Rattle.std.proofs.Common.{◌≡◌, ◌≢◌, ℕ, zero, suc, ◌≤◌, ◌<◌, ◌⊎◌, inl, inr, Bool, true, false, List, [], ◌∷◌, ◌++◌, length, map, refl, sym, ap, ◌∙◌, subst, arith, append-nil, Option, Some, None}
use Rattle.std.proofs.lemmas.List.{length-set}
use Rattle.std.proofs.lemmas.Option.{slice_get_within}
use Rattle.elem_core.specs.Tree.{Tree}
use Rattle.elem_core.specs.declared.why.Cause.{Cause}
use Rattle.elem_core.specs.declared.item.Item.{Item}
use Rattle.elem_core.specs.declared.item.Item.TheVariants as item
use Rattle.port_core.specs.Picks.{Picks, plan_of, planned, next_move, logged}
use Rattle.port_core.specs.declared.act.Act.{Act}
use Rattle.port_core.specs.declared.act.Act.TheVariants.{Push, FailOut, Cancel}
use Rattle.port_core.specs.declared.view.InView.{InView}
use Rattle.port_core.specs.declared.view.InView.TheVariants.{Pulled, Finished, Cancelled}
use Rattle.port_core.specs.declared.view.OutView.{OutView}
use Rattle.port_core.specs.declared.view.OutView.TheVariants as outlet
use Rattle.port_core.specs.View.{View, in_at, out_at, output_closed, IsInOpen, ActsAllowed, acted_all}
use Rattle.port_core.specs.Asking.{PullsStand}
use Rattle.port_core.specs.Call.{Call, starts, pulls, arrives, cancels, MayCome, CallAllowed, seen, Obeys, Meets, given_on}
use Rattle.stream_model.specs.Outlook.{End, unended, ended, failed}
use Rattle.stream_model.specs.FanIn.{Inflow}
use Rattle.stream_model.specs.Picks.{all_below}
use Rattle.stream_model.specs.declared.kind.TheConstants.{MAX_FAN}
use Rattle.stage_core.specs.Handling.{Pulls}
use Rattle.stage_out.specs.Outs.{SomeAsked}
use Rattle.stage_core.specs.Inflows.{joined, nothing_came, coming}
use Rattle.stage_core.proofs.Inflows.{joined-nothing_came}
use Rattle.stage_core.specs.declared.outs.OutputState.TheVariants.{Quiet, Asks, Gone}
use Rattle.stage_core.specs.OpenOuts.{want_view, open_count, at_open, OutsClosed, AllClosed}
use Rattle.stage_out.specs.Balances.{BalanceHeld, waits, shut, GivesByMoves, BalanceClose, BalanceTurnTo, BalanceTurnBy}
use Rattle.stage_out.specs.declared.balancing.Choice.TheVariants.{Sends, Drops, Stays}
use Rattle.stage_out.specs.Balancings.{Balancing, choice_of, others, queue_after, NamesOutputs, lacks, input_of, view_of, Queued, Holding, Sound, CannotMove, HaltedPorts, port_state_by, port_state, waited, held_by, held, Turned, MayDeal, MayServe, Does, closed, emptied, lined, input_idle, ended_now, served, without, Settles, asks, rests, completes, halts, Deals, sends, drops, stays, ServesWaiting, deals, settles, Ended, end_waits, end_passes, Lost, final, others_open, FirstServed, LastInLine, OthersStay}
use Rattle.stage_out.proofs.Queues.{open_asked, open_lost, queue_more, queue_without, queue_fits}
use Rattle.stage_out.proofs.BalanceChoices.{still_closed, drops_there, lacks_set, lacks_lost, lost_sends_none, free_empty}
use Rattle.stage_core.proofs.OutViews.{want_set, is_quiet, is_open, shut_views, gone_views}
use Rattle.stage_out.proofs.Handlings.{Unasked, Ready, At, not_calm, turn_open, none_gives, quiet, end_of, end_told, broke, broke_by, failures, fails_whole, fails_all, one_left, dealt, serves, settled}

-- ---- where it stands

-- the two that a handler finds: it is open, and did not stop
pub record Going (l : Balancing) : Type 0 where
  pub live : l.core.live ≡ true
  pub calm : l.log.stuck ≡ false

standing : (l : Balancing) (v : View) → Going l → port_state l v → (v ≡ view_of l.core) × Sound l.log.left l.core
standing l v g r = subst (λ b. port_state_by true b l v) g.calm (subst (λ b. port_state_by b l.log.stuck l v) g.live r)

-- what a call finds
pub record Found (call : Call) (l : Balancing) : Type 0 where
  pub may : CallAllowed call (view_of l.core)
  pub sound : Sound l.log.left l.core

pub found : (call : Call) (l : Balancing) → Going l → Meets call (port_state l) → Found call l
found call l g m =
    let s = standing l m.0 g m.1.1 in
    record { may = subst (λ v. CallAllowed call v) s.0 m.1.0; sound = s.1 }

-- one that stopped
stopped : (l : Balancing) (v : View) → l.core.live ≡ true → l.log.stuck ≡ true → port_state l v → HaltedPorts l v
stopped l v live stuck r = subst (λ b. port_state_by true b l v) stuck (subst (λ b. port_state_by b l.log.stuck l v) live r)

pub comes_open : (x : Item) (p : InView) → MayCome x p → IsInOpen p
comes_open (item.Elem e) p h = subst IsInOpen (sym h) tt
comes_open item.Ended p h = h
comes_open (item.Failed c) p h = h

-- nothing comes to one that stopped
over_in : (i : ℕ) → IsInOpen (slice_index_or (Finished ∷ []) i Cancelled) → ⊥
over_in zero h = h
over_in (suc i) h = h

pub calm_coming : (l : Balancing) (i : ℕ) (b : Item) → l.core.live ≡ true → Meets (arrives i b) (port_state l) → l.log.stuck ≡ false
calm_coming l i b live m = by_stuck l.log.stuck refl
  where
    by_stuck : (x : Bool) → l.log.stuck ≡ x → l.log.stuck ≡ false
    by_stuck false e = e
    by_stuck true e =
        let s = stopped l m.0 live e m.1.1 in
        absurd (over_in i (subst (λ (xs : List InView). IsInOpen (slice_index_or xs i Cancelled)) s.input (comes_open b (in_at m.0 i) m.1.0)))

pub coming_going : (l : Balancing) (i : ℕ) (b : Item) → l.core.live ≡ true → Meets (arrives i b) (port_state l) → Going l
coming_going l i b live m = record { live = live; calm = calm_coming l i b live m }

-- ---- both that a handler owes

pub record Handled (call : Call) (old : Balancing) (acts : List Act) (new : Balancing) : Type 0 where
  pub ports : Obeys call (port_state old) (port_state new) acts
  pub gives : Turned call old acts new

-- an output that lacks nothing then lacked nothing before
was_gives : (moves : List ℕ) (was before : ℕ → Bool) (l : List Tree) (out : ℕ → List Item) (ends : ℕ → End) (now : List ℕ) (lack : ℕ → Bool) (left : List Tree) → ((k : ℕ) → was k ≡ false → before k ≡ false) → GivesByMoves moves was l out ends now lack left
    → GivesByMoves moves before l out ends now lack left
was_gives moves was before l out ends now lack left less g = record {
  more = g.more;
  given = g.given;
  now_is = g.now_is;
  out_is = g.out_is;
  dealt = g.dealt;
  less = λ k n. less k (g.less k n);
  none = λ k lost. g.none k (raised k lost);
}
  where
    raised : (k : ℕ) → before k ≡ true → was k ≡ true
    raised k lost = by_was (was k) refl
      where
        by_was : (b : Bool) → was k ≡ b → b ≡ true
        by_was true e = refl
        by_was false e = let x : true ≡ false = sym lost ∙ less k e in cc

was_turn : (moves : List ℕ) (was before : ℕ → Bool) (w : Inflow) (out : ℕ → List Item) (h : BalanceHeld) → ((k : ℕ) → was k ≡ false → before k ≡ false) → BalanceTurnTo moves was w out h → BalanceTurnTo moves before w out h
was_turn moves was before w out (waits now lack us) less t = record { gives = was_gives moves was before w.list out (λ k. unended) now lack us.list less t.gives; end_is = t.end_is }
was_turn moves was before w out (shut now lack) less t = record { ends = t.ends; left = t.left; gives = was_gives moves was before w.list out t.ends now lack t.left less t.gives; closes = t.closes; completes = t.completes; fails = t.fails }

-- how a call is taken in, before anything is done
pub record TakenIn (call : Call) (old l : Balancing) (w : Inflow) : Type 0 where
  pub moves : l.log.moves ≡ old.log.moves
  pub left : l.log.left ≡ old.log.left
  pub outputs : length l.core.outs ≡ length old.core.outs
  pub less : (k : ℕ) → lacks l.log.left l.core.outs k ≡ false → lacks old.log.left old.core.outs k ≡ false
  pub came : joined (waited old.core) (coming call 0) ≡ w
  pub view : seen call (view_of old.core) ≡ view_of l.core

pub handle : (call : Call) (old l new : Balancing) (w : Inflow) (acts : List Act) → Going old → TakenIn call old l w → At l w (view_of l.core) new acts → Handled call old acts new
handle call old l new w acts g i a = record {
  ports = record {
    allowed = λ v may r. let s = standing old v g r in subst (λ u. ActsAllowed (seen call u) acts) (sym s.0) (subst (λ (u : View). ActsAllowed u acts) (sym i.view) a.allowed);
    ports = λ v may r. let s = standing old v g r in subst (λ u. port_state new (acted_all (seen call u) acts)) (sym s.0) (subst (λ (u : View). port_state new (acted_all u acts)) (sym i.view) a.row_then);
  };
  gives = record {
    turn = subst (λ b. BalanceTurnBy (coming call 0) (held_by b old.log.moves (lacks old.log.left old.core.outs) old.core) (λ j. given_on j acts) (held new)) (sym g.live) turned;
    outputs = a.outputs ∙ i.outputs;
    stands = a.stands;
    pulls = λ free v may r p. let s = standing old v g r in subst (λ u. SomeAsked (acted_all (seen call u) acts)) (sym s.0) (subst (λ (u : View). SomeAsked (acted_all u acts)) (sym i.view) (a.pulls (i.left ∙ free) p));
    more = a.more;
    grows = a.grows ∙ ap (λ (ms : List ℕ). ms ++ a.more) i.moves;
    named = subst (λ n. all_below n a.more ≡ true) i.outputs a.named;
    plan = a.plan ∙ same_plan;
    halts = a.halted;
  };
}
  where
    turned : BalanceTurnTo old.log.moves (lacks old.log.left old.core.outs) (joined (waited old.core) (coming call 0)) (λ j. given_on j acts) (held new)
    turned =
        subst (λ (f : Inflow). BalanceTurnTo old.log.moves (lacks old.log.left old.core.outs) f (λ j. given_on j acts) (held new)) (sym i.came)
        (subst (λ (ms : List ℕ). BalanceTurnTo ms (lacks old.log.left old.core.outs) w (λ j. given_on j acts) (held new)) i.moves
        (was_turn l.log.moves (lacks l.log.left l.core.outs) (lacks old.log.left old.core.outs) w (λ j. given_on j acts) (held new) i.less a.turn))

    same_plan : planned l.log ≡ planned old.log
    same_plan = ap (λ (ms : List ℕ). plan_of ms l.log.left) i.moves ∙ ap (λ (p : Option (List ℕ)). plan_of old.log.moves p) i.left

-- ---- the start, and one that stopped: nothing is done

module _ (call : Call) (l : Balancing) (live : l.core.live ≡ true) (nothing : coming call 0 ≡ nothing_came) where
  idle_turn : BalanceTurnBy (coming call 0) (held l) (λ j. []) (held l)
  idle_turn =
      let lack : ℕ → Bool = lacks l.log.left l.core.outs in
      let came : joined (waited l.core) (coming call 0) ≡ waited l.core = ap (λ (r : Inflow). joined (waited l.core) r) nothing ∙ joined-nothing_came (waited l.core) in
      subst (λ b. BalanceTurnBy (coming call 0) (held_by b l.log.moves lack l.core) (λ j. []) (held l)) (sym live)
      (turn_open l.log.moves lack (joined (waited l.core) (coming call 0)) (λ j. []) l live (quiet l.log.moves lack lack (joined (waited l.core) (coming call 0)) (waited l.core) (λ j. []) (λ j. refl) (λ j n. n) came))

  idle : ((v : View) → CallAllowed call v → port_state l v → port_state l (seen call v)) → (l.log.stuck ≡ true → CannotMove l) → Handled call l [] l
  idle row h = record {
    ports = record { allowed = λ v may r. tt; ports = row };
    gives = record { turn = idle_turn; outputs = refl; stands = tt; pulls = λ free v may r p. absurd p; more = []; grows = sym (append-nil l.log.moves); named = refl; plan = refl; halts = h };
  }

pub started : (l : Balancing) (acts : List Act) → acts ≡ [] → l.core.live ≡ true → Meets starts (port_state l) → Handled starts l acts l
started l acts e live m = subst (λ (a : List Act). Handled starts l a l) (sym e) (idle starts l live refl (λ v may r. r) (λ stuck. (stopped l m.0 live stuck m.1.1).halted))

stopped_stays : (call : Call) (l : Balancing) → l.core.live ≡ true → l.log.stuck ≡ true → ((v : View) → (seen call v).ins ≡ v.ins) → ((v : View) → length (seen call v).outs ≡ length v.outs)
    → ((v : View) → CallAllowed call v → (k : ℕ) → output_closed (out_at v k) ≡ true → output_closed (out_at (seen call v) k) ≡ true) → (v : View) → CallAllowed call v → port_state l v → port_state l (seen call v)
stopped_stays call l live stuck ins outs closed v may r =
    let s = stopped l v live stuck r in
    let then_so : HaltedPorts l (seen call v) = record { halted = s.halted; input = ins v ∙ s.input; outputs = outs v ∙ s.outputs; gone = λ k g. closed v may k (s.gone k g); few = s.few } in
    subst (λ b. port_state_by b l.log.stuck l (seen call v)) (sym live) (subst (λ b. port_state_by true b l (seen call v)) (sym stuck) then_so)

-- one that is open is not closed
unpulled_open : (y : OutView) → y ≡ outlet.Unpulled → output_closed y ≡ true → ⊥
unpulled_open y e h = let x : false ≡ true = ap output_closed (sym e) ∙ h in cc

pub stopped_asked : (l : Balancing) (acts : List Act) (j : ℕ) → acts ≡ [] → l.core.live ≡ true → l.log.stuck ≡ true → Meets (pulls j) (port_state l) → Handled (pulls j) l acts l
stopped_asked l acts j e live stuck m = subst (λ (a : List Act). Handled (pulls j) l a l) (sym e) (idle (pulls j) l live refl (stopped_stays (pulls j) l live stuck (λ v. refl) (λ v. length-set v.outs j _) (λ v may k h. still_closed v.outs j k outlet.Available (λ c. absurd (unpulled_open (out_at v j) may c)) h)) (λ x. (stopped l m.0 live stuck m.1.1).halted))

pub stopped_left : (l : Balancing) (acts : List Act) (j : ℕ) → acts ≡ [] → l.core.live ≡ true → l.log.stuck ≡ true → Meets (cancels j) (port_state l) → Handled (cancels j) l acts l
stopped_left l acts j e live stuck m = subst (λ (a : List Act). Handled (cancels j) l a l) (sym e) (idle (cancels j) l live refl (stopped_stays (cancels j) l live stuck (λ v. refl) (λ v. length-set v.outs j _) (λ v may k h. still_closed v.outs j k outlet.Cancelled (λ c. refl) h)) (λ x. (stopped l m.0 live stuck m.1.1).halted))

pub stopped_first : (l : Balancing) (j : ℕ) → l.log.stuck ≡ true → LastInLine j l l
stopped_first l j stuck calm none = let x : true ≡ false = sym stuck ∙ calm in cc

pub stopped_others : (l : Balancing) (j : ℕ) → l.log.stuck ≡ true → OthersStay j l l
stopped_others l j stuck calm = let x : true ≡ false = sym stuck ∙ calm in cc

-- ---- the one input

waits_asked : (b p : Bool) → input_of b p ≡ Pulled → (b ≡ false) × (p ≡ true)
waits_asked true p h = cc
waits_asked false true h = (refl, refl)
waits_asked false false h = cc

one_port : (b p : Bool) (i : ℕ) → slice_index_or (input_of b p ∷ []) i Cancelled ≡ Pulled → (i ≡ 0) × ((b ≡ false) × (p ≡ true))
one_port b p zero h = (refl, waits_asked b p h)
one_port b p (suc i) h = cc

open_port : (b p : Bool) (i : ℕ) → IsInOpen (slice_index_or (input_of b p ∷ []) i Cancelled) → (i ≡ 0) × (b ≡ false)
open_port true p zero h = absurd h
open_port false p zero h = (refl, refl)
open_port b p (suc i) h = absurd h

-- what an open one may do once a call was taken in
ready_of : (l : Balancing) → Sound l.log.left l.core → Ready l.log.left l.core
ready_of l s = record { queued = s.queued; waits = unasked_of l.core.waiting s.holds; count = s.count; some = s.some; few = s.few; roomy = s.roomy; named = s.named }
  where
    unasked_of : (w : Option Tree) → Holding w (next_move l.log.left) l.core → Unasked w l.core
    unasked_of None h = tt
    unasked_of (Some t) h = h.1

-- with room for a move
abbrev pub roomed : Balancing → ℕ → Balancing
roomed l room = record l { log = record l.log { room = room } }

-- ---- an output asks

module _ (old : Balancing) (j room : ℕ) (g : Going old) (q : slice_get old.core.outs j ≡ Some Quiet) (sound : Sound old.log.left old.core) where
  asked_ready : Ready (lined j (roomed old room)).log.left (lined j (roomed old room)).core
  asked_ready =
      let r = ready_of old sound in
      let long = length-set old.core.outs j Asks in
      record {
        queued = queue_more old.core.outs old.core.queue j q sound.queued;
        waits = unasked_on old.core.waiting r.waits;
        count = sound.count ∙ sym (open_asked old.core.outs j q);
        some = sound.some;
        few = let k = sound.few in omega (arith, long, k);
        roomy = let k = sound.roomy in omega (arith, long, k);
        named = subst (λ n. NamesOutputs n old.log.left) (sym long) sound.named;
      }
    where
      unasked_on : (w : Option Tree) → Unasked w old.core → Unasked w (lined j (roomed old room)).core
      unasked_on None h = tt
      unasked_on (Some t) h = h

  asked_in : TakenIn (pulls j) old (lined j (roomed old room)) (waited (lined j (roomed old room)).core)
  asked_in = record {
    moves = refl;
    left = refl;
    outputs = length-set old.core.outs j Asks;
    less = λ k n. sym (lacks_set old.log.left old.core.outs j k Quiet Asks q refl) ∙ n;
    came = joined-nothing_came (waited old.core);
    view = ap (λ (ys : List OutView). record { ins = input_of old.core.over old.core.pulled ∷ []; outs = ys }) (want_set old.core.outs j Asks);
  }

  asked_now : (new : Balancing) (acts : List Act) → ServesWaiting (lined j (roomed old room)) new acts → Handled (pulls j) old acts new
  asked_now new acts d =
      handle (pulls j) old (lined j (roomed old room)) new (waited (lined j (roomed old room)).core) acts g asked_in
      (serves (lined j (roomed old room)) new acts g.live g.calm asked_ready (λ i c. drops_there (length (lined j (roomed old room)).core.outs) old.log.left (lined j (roomed old room)).core.outs (lined j (roomed old room)).core.queue i asked_ready.named c) d)

pub answered : (old mid ready new : Balancing) (acts : List Act) (j : ℕ) → Going old → mid ≡ record old { log = record old.log { room = mid.log.room } } → ready ≡ lined j mid → Meets (pulls j) (port_state old) → ServesWaiting ready new acts → Handled (pulls j) old acts new
answered old mid ready new acts j g is lines m d =
    let f = found (pulls j) old g m in
    asked_now old j mid.log.room g (is_quiet old.core.outs j f.may) f.sound new acts (subst (λ (l : Balancing). ServesWaiting l new acts) (lines ∙ ap (lined j) is) d)

pub asked_there : (old mid : Balancing) (j : ℕ) → Going old → mid ≡ record old { log = record old.log { room = mid.log.room } } → Meets (pulls j) (port_state old) → j < length mid.core.outs
asked_there old mid j g is m = subst (λ (l : Balancing). j < length l.core.outs) (sym is) (slice_get_within old.core.outs j Quiet (is_quiet old.core.outs j (found (pulls j) old g m).may))

pub asked_fits : (old mid : Balancing) (j : ℕ) → Going old → mid ≡ record old { log = record old.log { room = mid.log.room } } → Meets (pulls j) (port_state old) → length mid.core.queue < mid.core.room
asked_fits old mid j g is m =
    let f = found (pulls j) old g m in
    let a = queue_fits old.core.outs old.core.queue j (is_quiet old.core.outs j f.may) f.sound.queued in
    let b = f.sound.roomy in
    subst (λ (l : Balancing). length l.core.queue < l.core.room) (sym is) (omega (arith, a, b))

-- the outputs of a queue are there
queue_there : (l : Balancing) → Ready l.log.left l.core → (i : ℕ) (q : List ℕ) → l.core.queue ≡ i ∷ q → i < length l.core.outs
queue_there l s i q e = slice_get_within l.core.outs i Asks (subst (λ (k : List ℕ). Queued l.core.outs k) e s.queued).0

may_deal : (l : Balancing) → 1 ≤ l.log.room → Ready l.log.left l.core → MayDeal l
may_deal l room s = record { noted = λ free some. room; there = queue_there l s; named = s.named; few = s.few }

pub asked_may : (old mid ready : Balancing) (j : ℕ) → Going old → mid ≡ record old { log = record old.log { room = mid.log.room } } → 2 ≤ mid.log.room → ready ≡ lined j mid → Meets (pulls j) (port_state old) → MayServe ready
asked_may old mid ready j g is room lines m =
    let f = found (pulls j) old g m in
    let s = asked_ready old j mid.log.room g (is_quiet old.core.outs j f.may) f.sound in
    let d : MayDeal (emptied (lined j (roomed old mid.log.room))) =
    record { noted = λ free some. omega (arith, room); there = queue_there (lined j (roomed old mid.log.room)) s; named = s.named; few = s.few } in
    subst (λ (l : Balancing). MayServe l) (sym (lines ∙ ap (lined j) is)) (record { deal = λ some. d; few = s.few })

pub asked_few : (old ready mid : Balancing) (j : ℕ) → mid ≡ record old { log = record old.log { room = mid.log.room } } → ready ≡ lined j mid → length ready.core.outs ≡ length old.core.outs
asked_few old ready mid j is lines = ap (λ (l : Balancing). length l.core.outs) (lines ∙ ap (lined j) is) ∙ length-set old.core.outs j Asks

-- ---- an element comes

module _ (old : Balancing) (t : Tree) (room : ℕ) (g : Going old) (sound : Sound old.log.left old.core) (off : old.core.over ≡ false) (on : old.core.pulled ≡ true) where
  none_waits : old.core.waiting ≡ None
  none_waits = by_waiting old.core.waiting refl
    where
      by_waiting : (w : Option Tree) → old.core.waiting ≡ w → old.core.waiting ≡ None
      by_waiting None e = e
      by_waiting (Some u) e = let s : Holding (Some u) (next_move old.log.left) old.core = subst (λ x. Holding x (next_move old.log.left) old.core) e sound.holds in let x : true ≡ false = sym on ∙ s.1 in cc

  came_ready : Ready (input_idle (roomed old room)).log.left (input_idle (roomed old room)).core
  came_ready = record { queued = sound.queued; waits = subst (λ x. Unasked x (input_idle (roomed old room)).core) (sym none_waits) tt; count = sound.count; some = sound.some; few = sound.few; roomy = sound.roomy; named = sound.named }

  came_in : TakenIn (arrives 0 (item.Elem t)) old (input_idle (roomed old room)) (one_left t (input_idle (roomed old room)))
  came_in = record {
    moves = refl;
    left = refl;
    outputs = refl;
    less = λ k n. n;
    came = rw (off, none_waits) refl;
    view = rw off refl;
  }

  came_now : (new : Balancing) (acts : List Act) → Deals t (input_idle (roomed old room)) new acts → Handled (arrives 0 (item.Elem t)) old acts new
  came_now new acts d =
      handle (arrives 0 (item.Elem t)) old (input_idle (roomed old room)) new (one_left t (input_idle (roomed old room))) acts g came_in
      (dealt (input_idle (roomed old room)) t g.live g.calm none_waits refl came_ready (λ i c. drops_there (length old.core.outs) old.log.left old.core.outs old.core.queue i sound.named c) new acts d)

pub took : (old mid ready new : Balancing) (acts : List Act) (i : ℕ) (t : Tree) → Going old → mid ≡ record old { log = record old.log { room = mid.log.room } } → ready ≡ input_idle mid → Meets (arrives i (item.Elem t)) (port_state old) → Deals t ready new acts → Handled (arrives i (item.Elem t)) old acts new
took old mid ready new acts i t g is idle_now m d =
    let f = found (arrives i (item.Elem t)) old g m in
    let p = one_port old.core.over old.core.pulled i f.may in
    subst (λ n. Handled (arrives n (item.Elem t)) old acts new) (sym p.0) (came_now old t mid.log.room g f.sound p.1.0 p.1.1 new acts (subst (λ (l : Balancing). Deals t l new acts) (idle_now ∙ ap input_idle is) d))

pub took_may : (old mid ready : Balancing) (i : ℕ) (t : Tree) → Going old → mid ≡ record old { log = record old.log { room = mid.log.room } } → 2 ≤ mid.log.room → ready ≡ input_idle mid → Meets (arrives i (item.Elem t)) (port_state old) → MayDeal ready
took_may old mid ready i t g is room idle_now m =
    let f = found (arrives i (item.Elem t)) old g m in
    let p = one_port old.core.over old.core.pulled i f.may in
    let s = came_ready old t mid.log.room g f.sound p.1.0 p.1.1 in
    subst (λ (l : Balancing). MayDeal l) (sym (idle_now ∙ ap input_idle is)) (may_deal (input_idle (record old { log = record old.log { room = mid.log.room } })) (omega (arith, room)) s)

pub took_few : (old mid ready : Balancing) → mid ≡ record old { log = record old.log { room = mid.log.room } } → ready ≡ input_idle mid → length ready.core.outs ≡ length old.core.outs
took_few old mid ready is idle_now = ap (λ (l : Balancing). length l.core.outs) (idle_now ∙ ap input_idle is)

-- ---- an end comes

module _ (old : Balancing) (g : Going old) (sound : Sound old.log.left old.core) (off : old.core.over ≡ false) where
  -- what waits, and the end that comes behind it
  ends_as : (e : End) → joined (waited old.core) (record { list = []; end = e }) ≡ record { list = option_to_list old.core.waiting; end = e }
  ends_as e = rw off (ap (λ (l : List Tree). record { list = l; end = e }) (append-nil (option_to_list old.core.waiting)))

  ended_in : TakenIn (arrives 0 item.Ended) old (ended_now old) (waited (ended_now old).core)
  ended_in = record { moves = refl; left = refl; outputs = refl; less = λ k n. n; came = ends_as ended; view = refl }

  ended_ready : Ready (ended_now old).log.left (ended_now old).core
  ended_ready =
      let r = ready_of old sound in
      record { queued = r.queued; waits = unasked_on old.core.waiting r.waits; count = r.count; some = r.some; few = r.few; roomy = r.roomy; named = r.named }
    where
      unasked_on : (w : Option Tree) → Unasked w old.core → Unasked w (ended_now old).core
      unasked_on None h = tt
      unasked_on (Some t) h = h

  -- what waits goes on waiting
  still_waits : (w : Option Tree) → old.core.waiting ≡ w → w ≢ None → ServesWaiting (ended_now old) (ended_now old) []
  still_waits None e n = absurd (n refl)
  still_waits (Some t) e n =
      let s : Holding (Some t) (next_move old.log.left) old.core = subst (λ x. Holding x (next_move old.log.left) old.core) e sound.holds in
      deals t e (stays s.0 (record { to_is = ap (λ (x : Option Tree). record (ended_now old) { core = record (ended_now old).core { waiting = x } }) e; acts_are = refl }))

  ended_by : (new : Balancing) (acts : List Act) → Ended old new acts → ServesWaiting (ended_now old) new acts
  ended_by new acts (end_waits n d) = rw (d.to_is, d.acts_are) (still_waits old.core.waiting refl n)
  ended_by new acts (end_passes none d) = settles none d

  ended_on : (new : Balancing) (acts : List Act) → Ended old new acts → Handled (arrives 0 item.Ended) old acts new
  ended_on new acts e =
      handle (arrives 0 item.Ended) old (ended_now old) new (waited (ended_now old).core) acts g ended_in
      (serves (ended_now old) new acts g.live g.calm ended_ready (λ i c. drops_there (length old.core.outs) old.log.left old.core.outs old.core.queue i sound.named c) (ended_by new acts e))

  short : (w : Option Tree) → length (option_to_list w) ≤ 1
  short None = omega arith
  short (Some t) = omega arith

  failed_in : (c : Cause) → TakenIn (arrives 0 (item.Failed c)) old (ended_now old) (record { list = option_to_list old.core.waiting; end = failed c })
  failed_in c = record { moves = refl; left = refl; outputs = refl; less = λ k n. n; came = ends_as (failed c); view = refl }

  failed_at : (c : Cause) → At (ended_now old) (record { list = option_to_list old.core.waiting; end = failed c }) (view_of (ended_now old).core) (closed old) (at_open (λ k. FailOut k c) 0 old.core.outs)
  failed_at c =
      let all : List Act = at_open (λ k. FailOut k c) 0 old.core.outs in
      let lack : ℕ → Bool = lacks old.log.left old.core.outs in
      let left : List Tree = option_to_list old.core.waiting in
      let a = fails_all c Finished old.core.outs in
      let close : BalanceClose old.log.moves lack (record { list = left; end = failed c }) (λ k. given_on k all) old.log.moves lack = record {
        ends = λ k. end_of (failed c) (item.Failed c) (given_on k all) (failures c k old.core.outs);
        left = left;
        gives = none_gives old.log.moves lack lack left left (λ k. given_on k all) (λ k. end_of (failed c) (item.Failed c) (given_on k all) (failures c k old.core.outs)) (λ k. end_told (failed c) (item.Failed c) (given_on k all) refl (failures c k old.core.outs)) (λ k n. n) refl;
        closes = λ k n. fails_whole c old.log.left old.core.outs k n;
        completes = λ k e. absurd (broke (item.Failed c) (given_on k all) c (failures c k old.core.outs) e);
        fails = λ k d e. (broke_by (item.Failed c) (given_on k all) c d (failures c k old.core.outs) e, short old.core.waiting);
      } in
      record {
        allowed = a.allowed;
        row_then = subst (λ (w : View). AllClosed w) (sym a.then_is) (tt, shut_views old.core.outs);
        turn = close;
        outputs = refl;
        stands = a.stands;
        pulls = λ free p. absurd (a.quiet p);
        more = [];
        grows = sym (append-nil old.log.moves);
        named = refl;
        plan = refl;
        halted = λ e. absurd (not_calm g.calm e);
      }

  fail_now : (c : Cause) → Handled (arrives 0 (item.Failed c)) old (at_open (λ k. FailOut k c) 0 old.core.outs) (closed old)
  fail_now c = handle (arrives 0 (item.Failed c)) old (ended_now old) (closed old) (record { list = option_to_list old.core.waiting; end = failed c }) (at_open (λ k. FailOut k c) 0 old.core.outs) g (failed_in c) (failed_at c)

pub few_brought : (l : Balancing) (i : ℕ) (b : Item) → Going l → Meets (arrives i b) (port_state l) → length l.core.outs ≤ MAX_FAN
few_brought l i b g m = (found (arrives i b) l g m).sound.few

pub finished : (old new : Balancing) (acts : List Act) (i : ℕ) → Going old → Meets (arrives i item.Ended) (port_state old) → Ended old new acts → Handled (arrives i item.Ended) old acts new
finished old new acts i g m e =
    let f = found (arrives i item.Ended) old g m in
    let p = open_port old.core.over old.core.pulled i f.may in
    subst (λ n. Handled (arrives n item.Ended) old acts new) (sym p.0) (ended_on old g f.sound p.1 new acts e)

pub failed_on : (old new : Balancing) (acts : List Act) (i : ℕ) (c : Cause) → Going old → Meets (arrives i (item.Failed c)) (port_state old) → Does new acts (closed old) (at_open (λ k. FailOut k c) 0 old.core.outs) → Handled (arrives i (item.Failed c)) old acts new
failed_on old new acts i c g m d =
    let f = found (arrives i (item.Failed c)) old g m in
    let p = open_port old.core.over old.core.pulled i f.may in
    rw (d.to_is, d.acts_are) (subst (λ n. Handled (arrives n (item.Failed c)) old (at_open (λ k. FailOut k c) 0 old.core.outs) (closed old)) (sym p.0) (fail_now old g f.sound p.1 c))

-- ---- an output is cancelled

there_by : (l : Balancing) (j : ℕ) → (slice_get l.core.outs j ≡ Some Quiet) ⊎ (slice_get l.core.outs j ≡ Some Asks) → j < length l.core.outs
there_by l j (inl q) = slice_get_within l.core.outs j Quiet q
there_by l j (inr q) = slice_get_within l.core.outs j Asks q

pub lost_there : (l : Balancing) (j : ℕ) → Going l → Meets (cancels j) (port_state l) → j < length l.core.outs
lost_there l j g m = there_by l j (is_open l.core.outs j (found (cancels j) l g m).may)

pub lost_some : (l : Balancing) (j : ℕ) → Going l → Meets (cancels j) (port_state l) → 1 ≤ l.core.open_outs
lost_some l j g m = (found (cancels j) l g m).sound.some

abbrev cancel_by : Bool → List Act
cancel_by b = if b then [] else Cancel 0 ∷ []

module _ (old : Balancing) (j : ℕ) (g : Going old) (sound : Sound old.log.left old.core) (was : (slice_get old.core.outs j ≡ Some Quiet) ⊎ (slice_get old.core.outs j ≡ Some Asks)) where
  lost_outs : slice_set (map want_view old.core.outs) j outlet.Cancelled ≡ map want_view (slice_set old.core.outs j Gone)
  lost_outs = want_set old.core.outs j Gone

  one_open : open_count old.core.outs ≡ suc (open_count (slice_set old.core.outs j Gone))
  one_open = open_lost old.core.outs j was

  lost_long : length (slice_set old.core.outs j Gone) ≡ length old.core.outs
  lost_long = length-set old.core.outs j Gone

  lost_in : TakenIn (cancels j) old (without j old) (waited old.core)
  lost_in = record {
    moves = refl;
    left = refl;
    outputs = lost_long;
    less = λ k n. lacks_lost old.log.left old.core.outs j k n;
    came = joined-nothing_came (waited old.core);
    view = ap (λ (ys : List OutView). record { ins = input_of old.core.over old.core.pulled ∷ []; outs = ys }) lost_outs;
  }

  last_lost : old.core.open_outs ≡ 1 → At (without j old) (waited old.core) (view_of (without j old).core) (closed (without j old)) (cancel_by old.core.over)
  last_lost one =
      let none : open_count (slice_set old.core.outs j Gone) ≡ 0 = let a = one_open in let b = sound.count in omega (arith, a, b, one) in
      let c = cancelled old.core.over old.core.pulled (map want_view (slice_set old.core.outs j Gone)) (gone_views (slice_set old.core.outs j Gone) none) in
      let lack : ℕ → Bool = lacks old.log.left (slice_set old.core.outs j Gone) in
      let close : BalanceClose old.log.moves lack (waited old.core) (λ k. given_on k (cancel_by old.core.over)) old.log.moves lack = record {
        ends = λ k. unended;
        left = option_to_list old.core.waiting;
        gives = none_gives old.log.moves lack lack (option_to_list old.core.waiting) (option_to_list old.core.waiting) (λ k. given_on k (cancel_by old.core.over)) (λ k. unended) (λ k. none_given old.core.over k) (λ k n. n) refl;
        closes = λ k n. absurd (n refl);
        completes = λ k e. cc;
        fails = λ k d e. cc;
      } in
      record {
        allowed = c.0;
        row_then = c.1;
        turn = close;
        outputs = refl;
        stands = cancel_stands old.core.over;
        pulls = λ free p. absurd (no_pull old.core.over p);
        more = [];
        grows = sym (append-nil old.log.moves);
        named = refl;
        plan = refl;
        halted = λ e. absurd (not_calm g.calm e);
      }
    where
      cancelled : (o p : Bool) (ys : List OutView) → OutsClosed ys → ActsAllowed (record { ins = input_of o p ∷ []; outs = ys }) (cancel_by o) × AllClosed (acted_all (record { ins = input_of o p ∷ []; outs = ys }) (cancel_by o))
      cancelled true p ys c = (tt, (tt, c))
      cancelled false true ys c = ((tt, tt), (tt, c))
      cancelled false false ys c = ((tt, tt), (tt, c))

      none_given : (o : Bool) (k : ℕ) → given_on k (cancel_by o) ≡ []
      none_given true k = refl
      none_given false k = refl

      cancel_stands : (o : Bool) → PullsStand (cancel_by o)
      cancel_stands true = tt
      cancel_stands false = tt

      no_pull : (o : Bool) → Pulls (cancel_by o) → ⊥
      no_pull true p = p
      no_pull false p = p

  lost_ready : old.core.open_outs ≢ 1 → Ready (without j old).log.left (without j old).core
  lost_ready n =
      let r = ready_of old sound in
      record {
        queued = queue_without old.core.outs old.core.queue j sound.queued;
        waits = unasked_on old.core.waiting r.waits;
        count = let a = one_open in let b = sound.count in omega (arith, a, b);
        some = let k = sound.some in omega (arith, k, n);
        few = let k = sound.few in let l = lost_long in omega (arith, l, k);
        roomy = let k = sound.roomy in let l = lost_long in omega (arith, l, k);
        named = subst (λ i. NamesOutputs i old.log.left) (sym lost_long) sound.named;
      }
    where
      unasked_on : (w : Option Tree) → Unasked w old.core → Unasked w (without j old).core
      unasked_on None h = tt
      unasked_on (Some t) h = h

  one_lost : old.core.open_outs ≢ 1 → (new : Balancing) (acts : List Act) → ServesWaiting (without j old) new acts → Handled (cancels j) old acts new
  one_lost n new acts d =
      let s = lost_ready n in
      handle (cancels j) old (without j old) new (waited old.core) acts g lost_in
      (serves (without j old) new acts g.live g.calm s (λ i c. drops_there (length (without j old).core.outs) old.log.left (without j old).core.outs (without j old).core.queue i s.named c) d)

  -- an element that waits where it is free finds no output that asks
  lost_may : MayServe (without j old)
  lost_may = record { deal = λ some. by_waiting old.core.waiting refl some; few = let k = sound.few in let l = lost_long in omega (arith, l, k) }
    where
      there : (i : ℕ) (q : List ℕ) → others j old.core.queue ≡ i ∷ q → i < length (slice_set old.core.outs j Gone)
      there i q e = slice_get_within (slice_set old.core.outs j Gone) i Asks (subst (λ (k : List ℕ). Queued (slice_set old.core.outs j Gone) k) e (queue_without old.core.outs old.core.queue j sound.queued)).0

      by_waiting : (w : Option Tree) → old.core.waiting ≡ w → w ≢ None → MayDeal (emptied (without j old))
      by_waiting None e n = absurd (n refl)
      by_waiting (Some t) e n =
          let s : Holding (Some t) (next_move old.log.left) old.core = subst (λ x. Holding x (next_move old.log.left) old.core) e sound.holds in
          record {
            noted = λ free some. absurd (some (ap (others j) (free_empty old.log.left old.core.outs old.core.queue free s.0)));
            there = there;
            named = subst (λ i. NamesOutputs i old.log.left) (sym lost_long) sound.named;
            few = let k = sound.few in let l = lost_long in omega (arith, l, k);
          }

  by_loss : (new : Balancing) (acts : List Act) → Lost j old new acts → Handled (cancels j) old acts new
  by_loss new acts (final one d) = rw (d.to_is, d.acts_are) (handle (cancels j) old (without j old) (closed (without j old)) (waited old.core) (cancel_by old.core.over) g lost_in (last_lost one))
  by_loss new acts (others_open n d) = one_lost n new acts d

  -- the others that ask keep their order: none of them is served
  by_order : (new : Balancing) (acts : List Act) → Lost j old new acts → new.core.queue ≡ others j old.core.queue
  by_order new acts (final one d) = ap (λ (l : Balancing). l.core.queue) d.to_is
  by_order new acts (others_open n d) = by_serve d
    where
      by_settle : (before : List Act) (l : Balancing) → Settles before l new acts → new.core.queue ≡ l.core.queue
      by_settle before l (asks o p w d) = ap (λ (m : Balancing). m.core.queue) d.to_is
      by_settle before l (rests o a d) = ap (λ (m : Balancing). m.core.queue) d.to_is
      by_settle before l (completes o m d) = ap (λ (m : Balancing). m.core.queue) d.to_is
      by_settle before l (halts o m d) = ap (λ (m : Balancing). m.core.queue) d.to_is

      by_waiting : (w : Option Tree) (t : Tree) (i : ℕ) → old.core.waiting ≡ w → w ≡ Some t → choice_of (next_move old.log.left) (slice_set old.core.outs j Gone) (others j old.core.queue) ≡ Sends i → ⊥
      by_waiting None t i e s c = cc
      by_waiting (Some u) t i e s c =
          let h : Holding (Some u) (next_move old.log.left) old.core = subst (λ x. Holding x (next_move old.log.left) old.core) e sound.holds in
          lost_sends_none old.log.left old.core.outs old.core.queue j i h.0 c

      by_deal : (t : Tree) → old.core.waiting ≡ Some t → Deals t (emptied (without j old)) new acts → new.core.queue ≡ others j old.core.queue
      by_deal t w (sends i c d) = absurd (by_waiting old.core.waiting t i refl w c)
      by_deal t w (drops i c d) = by_settle [] (record (emptied (without j old)) { log = logged i old.log }) d
      by_deal t w (stays c d) = ap (λ (m : Balancing). m.core.queue) d.to_is

      by_serve : ServesWaiting (without j old) new acts → new.core.queue ≡ others j old.core.queue
      by_serve (deals t w d) = by_deal t w d
      by_serve (settles none d) = by_settle [] (without j old) d

pub lost : (old new : Balancing) (acts : List Act) (j : ℕ) → Going old → Meets (cancels j) (port_state old) → Lost j old new acts → Handled (cancels j) old acts new
lost old new acts j g m l = let f = found (cancels j) old g m in by_loss old j g f.sound (is_open old.core.outs j f.may) new acts l

pub lost_serve : (old : Balancing) (j : ℕ) → Going old → Meets (cancels j) (port_state old) → MayServe (without j old)
lost_serve old j g m = let f = found (cancels j) old g m in lost_may old j g f.sound (is_open old.core.outs j f.may)

pub lost_order : (old new : Balancing) (acts : List Act) (j : ℕ) → Going old → Meets (cancels j) (port_state old) → Lost j old new acts → OthersStay j old new
lost_order old new acts j g m l calm = let f = found (cancels j) old g m in by_order old j g f.sound (is_open old.core.outs j f.may) new acts l

-- ---- the order

settled_queue : (before : List Act) (l new : Balancing) (acts : List Act) → Settles before l new acts → (new.core.queue ≡ l.core.queue) × (new.log.moves ≡ l.log.moves)
settled_queue before l new acts (asks o p w d) = (ap (λ (m : Balancing). m.core.queue) d.to_is, ap (λ (m : Balancing). m.log.moves) d.to_is)
settled_queue before l new acts (rests o a d) = (ap (λ (m : Balancing). m.core.queue) d.to_is, ap (λ (m : Balancing). m.log.moves) d.to_is)
settled_queue before l new acts (completes o e d) = (ap (λ (m : Balancing). m.core.queue) d.to_is, ap (λ (m : Balancing). m.log.moves) d.to_is)
settled_queue before l new acts (halts o e d) = (ap (λ (m : Balancing). m.core.queue) d.to_is, ap (λ (m : Balancing). m.log.moves) d.to_is)

pub last_in_line : (old mid ready new : Balancing) (acts : List Act) (j : ℕ) → mid ≡ record old { log = record old.log { room = mid.log.room } } → ready ≡ lined j mid → ServesWaiting ready new acts → LastInLine j old new
last_in_line old mid ready new acts j is lines d calm none = by_serve (subst (λ (l : Balancing). ServesWaiting l new acts) (lines ∙ ap (lined j) is) d)
  where
    by_serve : ServesWaiting (lined j (record old { log = record old.log { room = mid.log.room } })) new acts → new.core.queue ≡ old.core.queue ++ j ∷ []
    by_serve (deals t w e) = let x : Some t ≡ None = sym w ∙ none in cc
    by_serve (settles n e) = (settled_queue [] (lined j (record old { log = record old.log { room = mid.log.room } })) new acts e).0

sends_inside : (i j : ℕ) → Sends i ≡ Sends j → i ≡ j
sends_inside i j e = cc

pub first_served : (old mid ready new : Balancing) (acts : List Act) (t : Tree) → mid ≡ record old { log = record old.log { room = mid.log.room } } → ready ≡ input_idle mid → Deals t ready new acts → FirstServed old new
first_served old mid ready new acts t is idle_now d j calm c = by_deal (subst (λ (l : Balancing). Deals t l new acts) (idle_now ∙ ap input_idle is) d)
  where
    by_deal : Deals t (input_idle (roomed old mid.log.room)) new acts → (new.core.queue ≡ queue_after (next_move old.log.left) j old.core.queue) × (new.log.moves ≡ old.log.moves ++ j ∷ [])
    by_deal (sends i k e) =
        let s : i ≡ j = sends_inside i j (sym k ∙ c) in
        let q = settled_queue (Push i t ∷ []) (served i (input_idle (roomed old mid.log.room))) new acts e in
        (q.0 ∙ ap (λ n. queue_after (next_move old.log.left) n old.core.queue) s, q.1 ∙ ap (λ n. old.log.moves ++ n ∷ []) s)
    by_deal (drops i k e) = let x : Drops i ≡ Sends j = sym k ∙ c in cc
    by_deal (stays k e) = let x : Stays ≡ Sends j = sym k ∙ c in cc
