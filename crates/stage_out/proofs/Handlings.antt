-- What a balance does from a state whose ports are as it knows of them, once its call was taken in: an element is dealt out, or nothing
-- waits. Each keeps its port state, and is a turn of its law by its moves.
use Rattle.std.specs.Prelude.{◌==◌, if◌then◌else◌, slice_get, slice_set, ⊤}
use Rattle.std.specs.Option.{option_to_list}
use Rattle.std.proofs.Common.{◌≡◌, ◌≢◌, ℕ, ◌≤◌, ◌<◌, Bool, true, false, List, [], ◌∷◌, ◌++◌, length, map, refl, sym, ap, ◌∙◌, subst, arith, append-nil, append_assoc, Option, Some, None}
use Rattle.std.proofs.lemmas.Bool.{and_from}
use Rattle.std.proofs.lemmas.Bool.Decides.{nat_tests}
use Rattle.std.proofs.lemmas.List.{length-map, length-set}
use Rattle.std.proofs.lemmas.List.Folds.{list_all-append}
use Rattle.std.proofs.lemmas.Option.{slice_get_within}
use Rattle.elem_core.specs.Tree.{Tree}
use Rattle.elem_core.specs.declared.why.Cause.{Cause}
use Rattle.elem_core.specs.declared.item.Item.{Item}
use Rattle.elem_core.specs.declared.item.Item.TheVariants as item
use Rattle.port_core.specs.Picks.{Picks, planned, next_move, may_end, behind_next, MayNote}
use Rattle.port_core.proofs.Noting.{noted_plan}
use Rattle.port_core.specs.declared.act.Act.{Act}
use Rattle.port_core.specs.declared.act.Act.TheVariants.{Pull, Push, Complete, FailOut}
use Rattle.port_core.specs.declared.view.InView.{InView}
use Rattle.port_core.specs.declared.view.OutView.{OutView}
use Rattle.port_core.specs.declared.view.OutView.TheVariants.{Closed}
use Rattle.port_core.specs.View.{View, ActsAllowed, acted, acted_all}
use Rattle.port_core.specs.Asking.{PullsStand}
use Rattle.port_core.specs.Call.{given_on}
use Rattle.stream_model.specs.Outlook.{End, unended, ended, failed}
use Rattle.stream_model.specs.FanIn.{Inflow}
use Rattle.stream_model.specs.Picks.{all_below}
use Rattle.stream_model.specs.declared.kind.TheConstants.{MAX_FAN}
use Rattle.stage_core.specs.Handling.{Pulls}
use Rattle.stage_core.specs.Held.{told}
use Rattle.stage_core.specs.Seats.{end_by}
use Rattle.stage_core.specs.declared.outs.OutputState.{OutputState}
use Rattle.stage_core.specs.declared.outs.OutputState.TheVariants.{Quiet, Asks}
use Rattle.stage_core.specs.OpenOuts.{want_view, open_count, at_open, OneInClosed, AllClosed}
use Rattle.stage_out.specs.Outs.{SomeAsked}
use Rattle.stage_out.specs.Dealings.{goes_to}
use Rattle.stage_out.specs.Balances.{BalanceHeld, waits, shut, GivesByMoves, BalanceTurn, BalanceClose, BalanceTurnTo}
use Rattle.stage_out.specs.declared.balancing.Choice.TheVariants.{Sends, Drops, Stays}
use Rattle.stage_out.specs.Balancings.{Core, Balancing, choice_of, asks_input, NamesOutputs, lacks, input_of, view_of, Queued, Holding, Sound, CannotMove, HaltedPorts, port_state_by, port_state, waited, held_by, held, closed, stuck_now, emptied, asking, served, passed_over, filled, Settles, asks, rests, completes, halts, Deals, sends, drops, stays, ServesWaiting, deals, settles}
use Rattle.stage_out.proofs.Queues.{open_served}
use Rattle.stage_out.proofs.BalanceChoices.{gone_closed, sends_may, drops_may, sends_asks, sends_queue, drops_lacks, lacks_behind, lacks_set, asks_lacks, closes_whole, named_behind, some_asks}
use Rattle.stage_out.proofs.Dealings.{dealt_none, dealt_one, dealt_drop, dealt_then}
use Rattle.stage_core.proofs.OutViews.{want_set, after_one, shut_views}
use Rattle.stage_out.proofs.BalanceWants.{view_at, Acted, acts_from, GivenAt, nothing_here, one_here, given_each, gone_given}

-- ---- where it stands

pub is_standing : (l : Balancing) (v : View) → l.core.live ≡ true → l.log.stuck ≡ false → v ≡ view_of l.core → Sound l.log.left l.core → port_state l v
is_standing l v live calm is s = subst (λ b. port_state_by b l.log.stuck l v) (sym live) (subst (λ b. port_state_by true b l v) (sym calm) (is, s))

-- one that waits may have its input asked, or not where an element waits
abbrev pub Unasked : Option Tree → Core → Type 0
Unasked None l = ⊤
Unasked (Some t) l = l.pulled ≡ false

-- one that is open, and may go on once it is served
pub record Ready (plan : Option (List ℕ)) (l : Core) : Type 0 where
  pub queued : Queued l.outs l.queue
  pub waits : Unasked l.waiting l
  pub count : l.open_outs ≡ open_count l.outs
  pub some : 1 ≤ l.open_outs
  pub few : length l.outs ≤ MAX_FAN
  pub roomy : length l.outs ≤ l.room
  pub named : NamesOutputs (length l.outs) plan

-- the actions from there, and what they are of the law
pub record At (l : Balancing) (w : Inflow) (v : View) (new : Balancing) (acts : List Act) : Type 0 where
  pub allowed : ActsAllowed v acts
  pub row_then : port_state new (acted_all v acts)
  pub turn : BalanceTurnTo l.log.moves (lacks l.log.left l.core.outs) w (λ j. given_on j acts) (held new)
  pub outputs : length new.core.outs ≡ length l.core.outs
  pub stands : PullsStand acts
  pub pulls : l.log.left ≡ None → Pulls acts → SomeAsked (acted_all v acts)
  pub more : List ℕ
  pub grows : new.log.moves ≡ l.log.moves ++ more
  pub named : all_below (length l.core.outs) more ≡ true
  pub plan : planned new.log ≡ planned l.log
  pub halted : new.log.stuck ≡ true → CannotMove new

pub not_calm : {b : Bool} → b ≡ false → b ≡ true → ⊥
not_calm h e = let x : false ≡ true = sym h ∙ e in cc

-- ---- turns

-- a turn of one that stays open
pub turn_open : (moves : List ℕ) (was : ℕ → Bool) (w : Inflow) (out : ℕ → List Item) (new : Balancing) → new.core.live ≡ true → BalanceTurn moves was w out new.log.moves (lacks new.log.left new.core.outs) (waited new.core)
    → BalanceTurnTo moves was w out (held new)
turn_open moves was w out new h t = subst (λ b. BalanceTurnTo moves was w out (held_by b new.log.moves (lacks new.log.left new.core.outs) new.core)) (sym h) t

-- by no move nothing goes out
pub none_gives : (moves : List ℕ) (was lack : ℕ → Bool) (l us : List Tree) (out : ℕ → List Item) (ends : ℕ → End) → ((j : ℕ) → out j ≡ told [] (ends j)) → ((j : ℕ) → lack j ≡ false → was j ≡ false) → l ≡ us → GivesByMoves moves was l out ends moves lack us
none_gives moves was lack l us out ends none less h = record {
  more = [];
  given = λ j. [];
  now_is = sym (append-nil moves);
  out_is = none;
  dealt = dealt_none lack l us h;
  less = less;
  none = λ j lost. refl;
}

pub quiet : (moves : List ℕ) (was lack : ℕ → Bool) (w us : Inflow) (out : ℕ → List Item) → ((j : ℕ) → out j ≡ []) → ((j : ℕ) → lack j ≡ false → was j ≡ false) → w ≡ us → BalanceTurn moves was w out moves lack us
quiet moves was lack w us out none less h = record {
  gives = none_gives moves was lack w.list us.list out (λ j. unended) none less (ap (λ (f : Inflow). f.list) h);
  end_is = sym (ap (λ (f : Inflow). f.end) h);
}

pub push_told : (b : Bool) (t : Tree) (l : List Tree) (e : End) (rest : List Item) → rest ≡ told l e → (if b then item.Elem t ∷ [] else []) ++ rest ≡ told ((if b then t ∷ [] else []) ++ l) e
push_told true t l e rest h = ap (λ (x : List Item). item.Elem t ∷ x) h
push_told false t l e rest h = h

goes_none : (j k : ℕ) (t : Tree) (was : ℕ → Bool) → was j ≡ false → was k ≡ true → goes_to j t k ≡ []
goes_none j k t was intact lost = by_place (j == k) refl
  where
    same_place : (j == k) ≡ true → j ≡ k
    same_place e = grind (arith, nat_tests)

    by_place : (b : Bool) → (j == k) ≡ b → goes_to j t k ≡ []
    by_place true e = let x : true ≡ false = sym lost ∙ ap was (sym (same_place e)) ∙ intact in cc
    by_place false e = rw e refl

module _ (moves : List ℕ) (was then_lack : ℕ → Bool) (j : ℕ) (t : Tree) (same : (k : ℕ) → then_lack k ≡ was k) (out : ℕ → List Item) where
  -- an element goes out, and then these do
  push_gives : was j ≡ false → (ends : ℕ → End) (now : List ℕ) (lack : ℕ → Bool) (left : List Tree) → GivesByMoves (moves ++ j ∷ []) then_lack [] out ends now lack left
      → GivesByMoves moves was (t ∷ []) (λ k. (if j == k then item.Elem t ∷ [] else []) ++ out k) ends now lack left
  push_gives intact ends now lack left g = record {
    more = j ∷ g.more;
    given = λ k. goes_to j t k ++ g.given k;
    now_is = g.now_is ∙ append_assoc moves (j ∷ []) g.more;
    out_is = λ k. push_told (j == k) t (g.given k) (ends k) (out k) (g.out_is k);
    dealt = dealt_then then_lack lack (j ∷ []) g.more g.less (t ∷ []) [] [] left (goes_to j t) g.given g.none (dealt_one then_lack j t) g.dealt;
    less = λ k n. sym (same k) ∙ g.less k n;
    none = λ k lost. ap (λ (x : List Tree). x ++ g.given k) (goes_none j k t was intact lost) ∙ g.none k (same k ∙ lost);
  }

  -- an element is dropped, and then these go out
  drop_gives : was j ≡ true → (ends : ℕ → End) (now : List ℕ) (lack : ℕ → Bool) (left : List Tree) → GivesByMoves (moves ++ j ∷ []) then_lack [] out ends now lack left → GivesByMoves moves was (t ∷ []) out ends now lack left
  drop_gives lost ends now lack left g = record {
    more = j ∷ g.more;
    given = g.given;
    now_is = g.now_is ∙ append_assoc moves (j ∷ []) g.more;
    out_is = g.out_is;
    dealt = dealt_then then_lack lack (j ∷ []) g.more g.less (t ∷ []) [] [] left (λ k. []) g.given g.none (dealt_drop then_lack j t (same j ∙ lost)) g.dealt;
    less = λ k n. sym (same k) ∙ g.less k n;
    none = λ k x. g.none k (same k ∙ x);
  }

  push_turn : was j ≡ false → (e : End) (h : BalanceHeld) → BalanceTurnTo (moves ++ j ∷ []) then_lack (record { list = []; end = e }) out h
      → BalanceTurnTo moves was (record { list = t ∷ []; end = e }) (λ k. (if j == k then item.Elem t ∷ [] else []) ++ out k) h
  push_turn intact e (waits now lack us) b = record { gives = push_gives intact (λ k. unended) now lack us.list b.gives; end_is = b.end_is }
  push_turn intact e (shut now lack) b = record { ends = b.ends; left = b.left; gives = push_gives intact b.ends now lack b.left b.gives; closes = b.closes; completes = b.completes; fails = b.fails }

  drop_turn : was j ≡ true → (e : End) (h : BalanceHeld) → BalanceTurnTo (moves ++ j ∷ []) then_lack (record { list = []; end = e }) out h → BalanceTurnTo moves was (record { list = t ∷ []; end = e }) out h
  drop_turn lost e (waits now lack us) b = record { gives = drop_gives lost (λ k. unended) now lack us.list b.gives; end_is = b.end_is }
  drop_turn lost e (shut now lack) b = record { ends = b.ends; left = b.left; gives = drop_gives lost b.ends now lack b.left b.gives; closes = b.closes; completes = b.completes; fails = b.fails }

pub named_one : (j n : ℕ) → j < n → all_below n (j ∷ []) ≡ true
named_one j n h = grind (arith, nat_tests)

pub named_then : (n : ℕ) (moves more now : List ℕ) → now ≡ moves ++ more → all_below n moves ≡ true → all_below n more ≡ true → all_below n now ≡ true
named_then n moves more now e a b = ap (all_below n) e ∙ list_all-append _ moves more ∙ and_from (all_below n moves) (all_below n more) a b

-- ---- ends

-- how an output ends by what it was given
abbrev pub end_of : (x : End) (i : Item) (out : List Item) → GivenAt i out → End
end_of x i out (nothing_here h) = unended
end_of x i out (one_here h) = x

pub end_told : (x : End) (i : Item) (out : List Item) → told [] x ≡ i ∷ [] → (g : GivenAt i out) → out ≡ told [] (end_of x i out g)
end_told x i out e (nothing_here h) = h
end_told x i out e (one_here h) = h ∙ sym e

pub end_none : (x : End) (i : Item) (out : List Item) (g : GivenAt i out) → out ≡ [] → end_of x i out g ≡ unended
end_none x i out (nothing_here h) e = refl
end_none x i out (one_here h) e = let z : i ∷ [] ≡ [] = sym h ∙ e in cc

pub completed : (i : Item) (out : List Item) (c : Cause) (g : GivenAt i out) → end_of ended i out g ≡ failed c → ⊥
completed i out c (nothing_here h) e = cc
completed i out c (one_here h) e = cc

pub broke : (i : Item) (out : List Item) (c : Cause) (g : GivenAt i out) → end_of (failed c) i out g ≡ ended → ⊥
broke i out c (nothing_here h) e = cc
broke i out c (one_here h) e = cc

pub broke_by : (i : Item) (out : List Item) (c d : Cause) (g : GivenAt i out) → end_of (failed c) i out g ≡ failed d → failed c ≡ failed d
broke_by i out c d (nothing_here h) e = cc
broke_by i out c d (one_here h) e = e

pub completions : (k : ℕ) (ws : List OutputState) → GivenAt item.Ended (given_on k (at_open (λ j. Complete j) 0 ws))
completions k ws = given_each (λ j. Complete j) item.Ended (λ k n. refl) k 0 ws

pub failures : (c : Cause) (k : ℕ) (ws : List OutputState) → GivenAt (item.Failed c) (given_on k (at_open (λ j. FailOut j c) 0 ws))
failures c k ws = given_each (λ j. FailOut j c) (item.Failed c) (λ k n. refl) k 0 ws

-- an output that is given an end lacks nothing
pub completes_whole : (left : Option (List ℕ)) (ws : List OutputState) (k : ℕ) → end_of ended item.Ended (given_on k (at_open (λ j. Complete j) 0 ws)) (completions k ws) ≢ unended → lacks left ws k ≡ false
completes_whole left ws k n =
    closes_whole left ws k (end_of ended item.Ended (given_on k (at_open (λ j. Complete j) 0 ws)) (completions k ws))
    (λ lost. end_none ended item.Ended (given_on k (at_open (λ j. Complete j) 0 ws)) (completions k ws) (gone_given (λ j. Complete j) item.Ended (λ k n. refl) k k 0 ws (omega arith) lost)) n

pub fails_whole : (c : Cause) (left : Option (List ℕ)) (ws : List OutputState) (k : ℕ) → end_of (failed c) (item.Failed c) (given_on k (at_open (λ j. FailOut j c) 0 ws)) (failures c k ws) ≢ unended → lacks left ws k ≡ false
fails_whole c left ws k n =
    closes_whole left ws k (end_of (failed c) (item.Failed c) (given_on k (at_open (λ j. FailOut j c) 0 ws)) (failures c k ws))
    (λ lost. end_none (failed c) (item.Failed c) (given_on k (at_open (λ j. FailOut j c) 0 ws)) (failures c k ws) (gone_given (λ j. FailOut j c) (item.Failed c) (λ k n. refl) k k 0 ws (omega arith) lost)) n

pub completes_all : (x : InView) (ws : List OutputState) → Acted (record { ins = x ∷ []; outs = map want_view ws }) (at_open (λ j. Complete j) 0 ws) (map (after_one Closed) ws)
completes_all x ws = acts_from (λ j. Complete j) (λ v n p. p) (λ v n. refl) (λ n acts s. s) (λ n acts q p. q p) (x ∷ []) ws 0 [] refl

pub fails_all : (c : Cause) (x : InView) (ws : List OutputState) → Acted (record { ins = x ∷ []; outs = map want_view ws }) (at_open (λ j. FailOut j c) 0 ws) (map (after_one Closed) ws)
fails_all c x ws = acts_from (λ j. FailOut j c) (λ v n p. p) (λ v n. refl) (λ n acts s. s) (λ n acts q p. q p) (x ∷ []) ws 0 [] refl

over_closed : (b p : Bool) → b ≡ true → OneInClosed (input_of b p ∷ [])
over_closed true p e = tt
over_closed false p e = cc

-- ---- nothing waits

-- where nothing waits, and where an element does
abbrev pub nothing_left : Balancing → Inflow
nothing_left l = record { list = []; end = end_by l.core.over }

abbrev pub one_left : Tree → Balancing → Inflow
one_left t l = record { list = t ∷ []; end = end_by l.core.over }

module _ (l : Balancing) (live : l.core.live ≡ true) (calm : l.log.stuck ≡ false) (none : l.core.waiting ≡ None) (s : Ready l.log.left l.core) where
  abbrev lack : ℕ → Bool
  lack = lacks l.log.left l.core.outs

  none_waits : waited l.core ≡ nothing_left l
  none_waits = ap (λ (o : Option Tree). record { list = option_to_list o; end = end_by l.core.over }) none

  asks_now : l.core.over ≡ false → l.core.pulled ≡ false → asks_input (next_move l.log.left) l.core.outs l.core.queue ≡ true → At l (nothing_left l) (view_of l.core) (asking l) (Pull 0 ∷ [])
  asks_now off idle wanted =
      let sound : Sound l.log.left (asking l).core = record {
        queued = s.queued;
        holds = subst (λ x. Holding x (next_move l.log.left) (asking l).core) (sym none) (off, λ e. refl);
        count = s.count;
        some = s.some;
        few = s.few;
        roomy = s.roomy;
        named = s.named;
      } in
      let then_is : acted_all (view_of l.core) (Pull 0 ∷ []) ≡ view_of (asking l).core = rw off refl in
      record {
        allowed = rw (off, idle) (refl, tt);
        row_then = is_standing (asking l) (acted_all (view_of l.core) (Pull 0 ∷ [])) live calm then_is sound;
        turn = turn_open l.log.moves lack (nothing_left l) (λ j. []) (asking l) live (quiet l.log.moves lack lack (nothing_left l) (waited (asking l).core) (λ j. []) (λ j. refl) (λ j n. n) (sym none_waits));
        outputs = refl;
        stands = (tt, tt);
        pulls = λ free p. let k = some_asks l.log.left l.core.outs l.core.queue free s.queued wanted in subst SomeAsked (sym then_is) (k.0, view_at l.core.outs k.0 Asks k.1);
        more = [];
        grows = sym (append-nil l.log.moves);
        named = refl;
        plan = refl;
        halted = λ e. absurd (not_calm calm e);
      }

  rests_now : l.core.over ≡ false → (asks_input (next_move l.log.left) l.core.outs l.core.queue ≡ true → l.core.pulled ≡ true) → At l (nothing_left l) (view_of l.core) l []
  rests_now off asked =
      let sound : Sound l.log.left l.core = record {
        queued = s.queued;
        holds = subst (λ x. Holding x (next_move l.log.left) l.core) (sym none) (off, asked);
        count = s.count;
        some = s.some;
        few = s.few;
        roomy = s.roomy;
        named = s.named;
      } in
      record {
        allowed = tt;
        row_then = is_standing l (view_of l.core) live calm refl sound;
        turn = turn_open l.log.moves lack (nothing_left l) (λ j. []) l live (quiet l.log.moves lack lack (nothing_left l) (waited l.core) (λ j. []) (λ j. refl) (λ j n. n) (sym none_waits));
        outputs = refl;
        stands = tt;
        pulls = λ free p. absurd p;
        more = [];
        grows = sym (append-nil l.log.moves);
        named = refl;
        plan = refl;
        halted = λ e. absurd (not_calm calm e);
      }

  completes_now : l.core.over ≡ true → At l (nothing_left l) (view_of l.core) (closed l) (at_open (λ k. Complete k) 0 l.core.outs)
  completes_now on =
      let all : List Act = at_open (λ k. Complete k) 0 l.core.outs in
      let a = completes_all (input_of l.core.over l.core.pulled) l.core.outs in
      let close : BalanceClose l.log.moves lack (nothing_left l) (λ k. given_on k all) l.log.moves lack = record {
        ends = λ k. end_of ended item.Ended (given_on k all) (completions k l.core.outs);
        left = [];
        gives = none_gives l.log.moves lack lack [] [] (λ k. given_on k all) (λ k. end_of ended item.Ended (given_on k all) (completions k l.core.outs)) (λ k. end_told ended item.Ended (given_on k all) refl (completions k l.core.outs)) (λ k n. n) refl;
        closes = λ k n. completes_whole l.log.left l.core.outs k n;
        completes = λ k e. (ap end_by on, refl);
        fails = λ k c e. absurd (completed item.Ended (given_on k all) c (completions k l.core.outs) e);
      } in
      record {
        allowed = a.allowed;
        row_then = subst (λ (w : View). AllClosed w) (sym a.then_is) (over_closed l.core.over l.core.pulled on, shut_views l.core.outs);
        turn = close;
        outputs = refl;
        stands = a.stands;
        pulls = λ free p. absurd (a.quiet p);
        more = [];
        grows = sym (append-nil l.log.moves);
        named = refl;
        plan = refl;
        halted = λ e. absurd (not_calm calm e);
      }

  halts_now : l.core.over ≡ true → may_end (next_move l.log.left) ≡ false → At l (nothing_left l) (view_of l.core) (stuck_now l) []
  halts_now on more_moves =
      let h : CannotMove (stuck_now l) = record { live_is = live; over_is = on; none = none; moves_on = more_moves } in
      let stopped : HaltedPorts (stuck_now l) (view_of l.core) = record {
        halted = h;
        input = ap (λ b. input_of b l.core.pulled ∷ []) on;
        outputs = length-map l.core.outs want_view;
        gone = gone_closed l.core.outs;
        few = s.few;
      } in
      record {
        allowed = tt;
        row_then = subst (λ b. port_state_by b true (stuck_now l) (view_of l.core)) (sym live) stopped;
        turn = turn_open l.log.moves lack (nothing_left l) (λ j. []) (stuck_now l) live (quiet l.log.moves lack lack (nothing_left l) (waited l.core) (λ j. []) (λ j. refl) (λ j n. n) (sym none_waits));
        outputs = refl;
        stands = tt;
        pulls = λ free p. absurd p;
        more = [];
        grows = sym (append-nil l.log.moves);
        named = refl;
        plan = refl;
        halted = λ e. h;
      }

  -- what is done behind other actions
  pub record Settled (before : List Act) (new : Balancing) (acts : List Act) : Type 0 where
    pub rest : List Act
    pub is : acts ≡ before ++ rest
    pub at : At l (nothing_left l) (view_of l.core) new rest

  pub settled : (before : List Act) (new : Balancing) (acts : List Act) → Settles before l new acts → Settled before new acts
  settled before new acts (asks off idle wanted d) = record { rest = Pull 0 ∷ []; is = d.acts_are; at = subst (λ (m : Balancing). At l (nothing_left l) (view_of l.core) m (Pull 0 ∷ [])) (sym d.to_is) (asks_now off idle wanted) }
  settled before new acts (rests off asked d) = record { rest = []; is = d.acts_are ∙ sym (append-nil before); at = subst (λ (m : Balancing). At l (nothing_left l) (view_of l.core) m []) (sym d.to_is) (rests_now off asked) }
  settled before new acts (completes on ends d) = record { rest = at_open (λ k. Complete k) 0 l.core.outs; is = d.acts_are; at = subst (λ (m : Balancing). At l (nothing_left l) (view_of l.core) m (at_open (λ k. Complete k) 0 l.core.outs)) (sym d.to_is) (completes_now on) }
  settled before new acts (halts on more_moves d) = record { rest = []; is = d.acts_are ∙ sym (append-nil before); at = subst (λ (m : Balancing). At l (nothing_left l) (view_of l.core) m []) (sym d.to_is) (halts_now on more_moves) }

-- ---- an element is dealt out

module _ (l : Balancing) (t : Tree) (live : l.core.live ≡ true) (calm : l.log.stuck ≡ false) (none : l.core.waiting ≡ None) (off : l.core.pulled ≡ false) (s : Ready l.log.left l.core) where
  ready_then : (j : ℕ) → choice_of (next_move l.log.left) l.core.outs l.core.queue ≡ Sends j → Ready (served j l).log.left (served j l).core
  ready_then j c =
      let a = sends_asks l.log.left l.core.outs l.core.queue j s.queued c in
      let long = length-set l.core.outs j Quiet in
      record {
        queued = sends_queue l.log.left l.core.outs l.core.queue j s.queued c;
        waits = subst (λ x. Unasked x (served j l).core) (sym none) tt;
        count = s.count ∙ sym (open_served l.core.outs j a);
        some = s.some;
        few = let k = s.few in omega (arith, long, k);
        roomy = let k = s.roomy in omega (arith, long, k);
        named = subst (λ n. NamesOutputs n (behind_next l.log.left)) (sym long) (named_behind (length l.core.outs) l.log.left s.named);
      }

  pushed : (j : ℕ) → choice_of (next_move l.log.left) l.core.outs l.core.queue ≡ Sends j → (new : Balancing) (rest : List Act) → At (served j l) (nothing_left (served j l)) (view_of (served j l).core) new rest
      → At l (one_left t l) (view_of l.core) new (Push j t ∷ rest)
  pushed j c new rest a =
      let asks_j = sends_asks l.log.left l.core.outs l.core.queue j s.queued c in
      let may : MayNote j l.log.left = sends_may l.log.left l.core.outs l.core.queue j c in
      let long : length (slice_set l.core.outs j Quiet) ≡ length l.core.outs = length-set l.core.outs j Quiet in
      let moved : acted (view_of l.core) (Push j t) ≡ view_of (served j l).core = ap (λ (ys : List OutView). record { ins = input_of l.core.over l.core.pulled ∷ []; outs = ys }) (want_set l.core.outs j Quiet) in
      record {
        allowed = (view_at l.core.outs j Asks asks_j, subst (λ (v : View). ActsAllowed v rest) (sym moved) a.allowed);
        row_then = subst (λ (v : View). port_state new (acted_all v rest)) (sym moved) a.row_then;
        turn = push_turn l.log.moves (lacks l.log.left l.core.outs) (lacks (behind_next l.log.left) (slice_set l.core.outs j Quiet)) j t
            (λ k. lacks_behind l.log.left (slice_set l.core.outs j Quiet) k ∙ lacks_set l.log.left l.core.outs j k Asks Quiet asks_j refl) (λ k. given_on k rest) (asks_lacks l.log.left l.core.outs j asks_j) (end_by l.core.over) (held new) a.turn;
        outputs = a.outputs ∙ long;
        stands = a.stands;
        pulls = λ free p. subst (λ (v : View). SomeAsked (acted_all v rest)) (sym moved) (a.pulls (ap behind_next free) p);
        more = j ∷ a.more;
        grows = a.grows ∙ append_assoc l.log.moves (j ∷ []) a.more;
        named = named_then (length l.core.outs) (j ∷ []) a.more (j ∷ a.more) refl (named_one j (length l.core.outs) (slice_get_within l.core.outs j Asks asks_j)) (subst (λ n. all_below n a.more ≡ true) long a.named);
        plan = a.plan ∙ noted_plan j l.log may;
        halted = a.halted;
      }

  ready_over : (j : ℕ) → Ready (passed_over j l).log.left (passed_over j l).core
  ready_over j = record {
    queued = s.queued;
    waits = s.waits;
    count = s.count;
    some = s.some;
    few = s.few;
    roomy = s.roomy;
    named = named_behind (length l.core.outs) l.log.left s.named;
  }

  dropped : (j : ℕ) → choice_of (next_move l.log.left) l.core.outs l.core.queue ≡ Drops j → j < length l.core.outs → (new : Balancing) (rest : List Act) → At (passed_over j l) (nothing_left (passed_over j l)) (view_of l.core) new rest
      → At l (one_left t l) (view_of l.core) new rest
  dropped j c there new rest a =
      let may : MayNote j l.log.left = drops_may l.log.left l.core.outs l.core.queue j c in
      record {
        allowed = a.allowed;
        row_then = a.row_then;
        turn = drop_turn l.log.moves (lacks l.log.left l.core.outs) (lacks (behind_next l.log.left) l.core.outs) j t (λ k. lacks_behind l.log.left l.core.outs k) (λ k. given_on k rest) (drops_lacks l.log.left l.core.outs l.core.queue j c) (end_by l.core.over) (held new) a.turn;
        outputs = a.outputs;
        stands = a.stands;
        pulls = λ free p. a.pulls (ap behind_next free) p;
        more = j ∷ a.more;
        grows = a.grows ∙ append_assoc l.log.moves (j ∷ []) a.more;
        named = named_then (length l.core.outs) (j ∷ []) a.more (j ∷ a.more) refl (named_one j (length l.core.outs) there) a.named;
        plan = a.plan ∙ noted_plan j l.log may;
        halted = a.halted;
      }

  kept : choice_of (next_move l.log.left) l.core.outs l.core.queue ≡ Stays → At l (one_left t l) (view_of l.core) (filled t l) []
  kept c =
      let lack : ℕ → Bool = lacks l.log.left l.core.outs in
      let sound : Sound l.log.left (filled t l).core = record { queued = s.queued; holds = (c, off); count = s.count; some = s.some; few = s.few; roomy = s.roomy; named = s.named } in
      record {
        allowed = tt;
        row_then = is_standing (filled t l) (view_of l.core) live calm refl sound;
        turn = turn_open l.log.moves lack (one_left t l) (λ j. []) (filled t l) live (quiet l.log.moves lack lack (one_left t l) (one_left t l) (λ j. []) (λ j. refl) (λ j n. n) refl);
        outputs = refl;
        stands = tt;
        pulls = λ free p. absurd p;
        more = [];
        grows = sym (append-nil l.log.moves);
        named = refl;
        plan = refl;
        halted = λ e. absurd (not_calm calm e);
      }

  pub dealt : ((j : ℕ) → choice_of (next_move l.log.left) l.core.outs l.core.queue ≡ Drops j → j < length l.core.outs) → (new : Balancing) (acts : List Act) → Deals t l new acts → At l (one_left t l) (view_of l.core) new acts
  dealt there new acts (sends j c d) =
      let x = settled (served j l) live calm none (ready_then j c) (Push j t ∷ []) new acts d in
      subst (λ (done : List Act). At l (one_left t l) (view_of l.core) new done) (sym x.is) (pushed j c new x.rest x.at)
  dealt there new acts (drops j c d) =
      let x = settled (passed_over j l) live calm none (ready_over j) [] new acts d in
      subst (λ (done : List Act). At l (one_left t l) (view_of l.core) new done) (sym x.is) (dropped j c (there j c) new x.rest x.at)
  dealt there new acts (stays c d) = rw (d.to_is, d.acts_are) (kept c)

-- ---- it is served

-- what holds of one from which what waits was taken holds of it
with_waiting : (l : Balancing) (w : Inflow) (v : View) (new : Balancing) (acts : List Act) → At (emptied l) w v new acts → At l w v new acts
with_waiting l w v new acts a = record {
  allowed = a.allowed;
  row_then = a.row_then;
  turn = a.turn;
  outputs = a.outputs;
  stands = a.stands;
  pulls = a.pulls;
  more = a.more;
  grows = a.grows;
  named = a.named;
  plan = a.plan;
  halted = a.halted;
}

pub ready_empty : (plan : Option (List ℕ)) (l : Balancing) → Ready plan l.core → Ready plan (emptied l).core
ready_empty plan l s = record { queued = s.queued; waits = tt; count = s.count; some = s.some; few = s.few; roomy = s.roomy; named = s.named }

pub serves : (l new : Balancing) (acts : List Act) → l.core.live ≡ true → l.log.stuck ≡ false → Ready l.log.left l.core → ((j : ℕ) → choice_of (next_move l.log.left) l.core.outs l.core.queue ≡ Drops j → j < length l.core.outs) → ServesWaiting l new acts
    → At l (waited l.core) (view_of l.core) new acts
serves l new acts live calm s there (deals t w d) =
    let off : l.core.pulled ≡ false = subst (λ x. Unasked x l.core) w s.waits in
    let a = dealt (emptied l) t live calm refl off (ready_empty l.log.left l s) there new acts d in
    subst (λ (o : Option Tree). At l (record { list = option_to_list o; end = end_by l.core.over }) (view_of l.core) new acts) (sym w) (with_waiting l (record { list = t ∷ []; end = end_by l.core.over }) (view_of l.core) new acts a)
serves l new acts live calm s there (settles none d) =
    let x = settled l live calm none s [] new acts d in
    subst (λ (o : Option Tree). At l (record { list = option_to_list o; end = end_by l.core.over }) (view_of l.core) new acts) (sym none) (subst (λ (done : List Act). At l (record { list = []; end = end_by l.core.over }) (view_of l.core) new done) (sym x.is) x.at)
