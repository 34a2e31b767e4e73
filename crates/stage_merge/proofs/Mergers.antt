-- What the handlers of a merge do keeps its port state, and is a turn of its law by its moves.
use Rattle.std.specs.Prelude.{◌-◌, replicate, slice_get, slice_set, slice_index_or, Option, None}
use Rattle.std.proofs.Common.{◌≡◌, ◌⊎◌, inl, inr, ℕ, zero, suc, ◌+◌, ◌≤◌, ◌<◌, Bool, true, false, IsTrue, List, [], ◌∷◌, ◌++◌, length, map, refl, sym, ap, ◌∙◌, subst, arith, append-nil, append_assoc, length-append, Some}
use Rattle.std.proofs.lemmas.List.{length-set}
use Rattle.std.proofs.lemmas.Option.{slice_get_within}
use Rattle.elem_core.specs.Tree.{Tree}
use Rattle.elem_core.specs.declared.why.Cause.{Cause}
use Rattle.elem_core.specs.declared.item.Item.{Item}
use Rattle.elem_core.specs.declared.item.Item.TheVariants as item
use Rattle.port_core.specs.Picks.{Picks, planned, next_move, may_end, IsMove, MayNote, logged}
use Rattle.port_core.specs.declared.act.Act.{Act}
use Rattle.port_core.specs.declared.act.Act.TheVariants.{Pull, Push, Complete, FailOut, Cancel}
use Rattle.port_core.specs.declared.view.InView.{InView}
use Rattle.port_core.specs.declared.view.InView.TheVariants.{Idle, Pulled, Finished, Cancelled}
use Rattle.port_core.specs.declared.view.OutView.{OutView}
use Rattle.port_core.specs.declared.view.OutView.TheVariants as outlet
use Rattle.port_core.specs.View.{View, in_at, IsInOpen, ActsAllowed, acted, acted_all}
use Rattle.port_core.specs.Asking.{PullsStand, NoCancel}
use Rattle.port_core.specs.Call.{Call, starts, pulls, arrives, cancels, came, CallAllowed, seen, Obeys, Meets, given_on}
use Rattle.stream_model.specs.FanIn.{Inflow, flow}
use Rattle.stream_model.specs.Picks.{used_up}
use Rattle.stream_model.specs.declared.kind.TheConstants.{MAX_FAN}
use Rattle.stage_core.specs.Inflows.{joined_all, coming}
use Rattle.stage_core.specs.Merges.{MergeHeld, waits, shut, MergeTurn, MergeClose, completes, fails, MergeTurnAt, item_by}
use Rattle.stage_core.proofs.Inflows.{joined_all-nothing_came}
use Rattle.stage_core.specs.declared.phase.Phase.{Phase}
use Rattle.stage_core.specs.declared.phase.Phase.TheVariants.{New, Open, Closed}
use Rattle.stage_merge.specs.declared.merging.Queued.{Queued}
use Rattle.stage_core.specs.Seats.{wish, open_cancels, InsClosed, OneClosed, FanClosed, AllOver}
use Rattle.stage_merge.specs.Mergings.{Core, Merging, goes_next, lost, passes_at_once, NamesInputs, of_port, waiting, input_view, places, idles, pull_acts, open_count, PortsThere, view_of, new_view, OpenCore, Sound, Fresh, port_state_by, port_state_in, port_state, Stopped, serves, stopped, held_by, owed_by_log, held_in, held, LostAt, OwesAt, Turned, Does, EndsIfDone, done, opens, more, awaits, Again, over, still, HandedOn, stuck_now, AskServed, gives, keeps, halts, wanted, stored, Took, passed, early, waited, without, Ended, ends, lacks, InputLost, taken_off, gives_up, ChosenOut, LastIn}
use Rattle.stage_core.proofs.Closings.{open_wish, Cancels, set_behind, at_behind, ins_append, cancels_give, cancels_stand}
use Rattle.stage_merge.proofs.Fewer.{fewer}
use Rattle.stage_merge.proofs.Choosing.{choice, inside, passing_chosen, staying_none, passing_may}
use Rattle.port_core.proofs.Noting.{noted_plan}
use Rattle.stage_merge.proofs.Plans.{named_behind, lost_one}
use Rattle.stage_merge.proofs.Merges.{queued, waiting_same, places_same, places_long, out_merged, none_merged, used_none, used_one, ended_place, open_place, over_closed, came_now, ended_now, stored_now, released_now, idle_now, gone_now, failed_now, none_now, here_now, only_head, tail_once, stored_once, there_stored, there_by, one_less, none_open}

-- ---- turns

not_new : {p : Phase} → p ≡ Open → p ≡ New → ⊥
not_new h e = let x : Open ≡ New = sym h ∙ e in cc

not_calm : {b : Bool} → b ≡ false → b ≡ true → ⊥
not_calm h e = let x : false ≡ true = sym h ∙ e in cc

-- a turn by what is owed then
abbrev pub Then : List ℕ → List Inflow → List Item → MergeHeld → Type 0
Then moves ws out (waits now us) = MergeTurn moves ws out now us
Then moves ws out (shut now) = MergeClose moves ws out now

asked_turn : (moves : List ℕ) (ws : List Inflow) (out : List Item) (h : MergeHeld) → Then moves (joined_all 0 ws (coming (pulls 0))) out h → MergeTurnAt (pulls 0) (waits moves ws) out h
asked_turn moves ws out (waits now us) t = t
asked_turn moves ws out (shut now) t = t

brought_turn : (i : ℕ) (b : Item) (moves : List ℕ) (ws : List Inflow) (out : List Item) (h : MergeHeld) → Then moves (joined_all 0 ws (coming (arrives i b))) out h → MergeTurnAt (arrives i b) (waits moves ws) out h
brought_turn i b moves ws out (waits now us) t = t
brought_turn i b moves ws out (shut now) t = t

-- nothing goes out
quiet : (moves : List ℕ) (bs : List Bool) (q : List Queued) → MergeTurn moves (waiting 0 bs q) [] moves (waiting 0 bs q)
quiet moves bs q = record { more = []; given = []; now_is = sym (append-nil moves); out_is = refl; merged = none_merged bs q }

-- ---- where it is open, and can go on

-- the two that a handler finds: it is open, and not stopped
pub record Going (l : Merging) : Type 0 where
  pub phase_is : l.core.phase ≡ Open
  pub calm : l.log.stuck ≡ false

state_is : (l : Merging) (v : View) → Going l → port_state l v → (v ≡ view_of l.core) × Sound l.log.left l.core
state_is l v g r = subst (λ f. port_state_by f l.log.left l.core v) g.phase_is (subst (λ b. port_state_in b l v) g.calm r)

is_state : (l : Merging) (v : View) → Going l → v ≡ view_of l.core → Sound l.log.left l.core → port_state l v
is_state l v g is s = subst (λ b. port_state_in b l v) (sym g.calm) (subst (λ f. port_state_by f l.log.left l.core v) (sym g.phase_is) (is, s))

pub record Found (call : Call) (l : Merging) : Type 0 where
  pub may : CallAllowed call (view_of l.core)
  pub sound : Sound l.log.left l.core

pub found : (call : Call) (l : Merging) → Going l → Meets call (port_state l) → Found call l
found call l g m =
    let s = state_is l m.0 g m.1.1 in
    record { may = subst (λ v. CallAllowed call v) s.0 m.1.0; sound = s.1 }

-- no input that waits or has ended is cancelled
queued_open : (b : Bool) (l : List Tree) → input_view b l ≡ Cancelled → ⊥
queued_open true l e = cc
queued_open false [] e = cc
queued_open false (t ∷ l) e = cc

places_open : (n : ℕ) (over : List Bool) (q : List Queued) (i : ℕ) → slice_get (places n over q) i ≡ Some Cancelled → ⊥
places_open n [] q i e = cc
places_open n (b ∷ bs) q zero e = queued_open b (of_port n q) (inside (input_view b (of_port n q)) Cancelled e)
places_open n (b ∷ bs) q (suc i) e = places_open (n + 1) bs q i e

-- ---- what is done at a view

-- how it goes on: it serves, or it has stopped, which gives nothing
pub data GoesTo (moves : List ℕ) (was_there : List Inflow) (new : Merging) (acts : List Act) : Type 0 where
  goes : new.log.stuck ≡ false → Then moves was_there (given_on 0 acts) (owed_by_log new) → GoesTo moves was_there new acts
  stops : new.log.stuck ≡ true → acts ≡ [] → (us : List Inflow) → MergeTurn moves was_there [] new.log.moves us → LostAt (next_move new.log.left) us → GoesTo moves was_there new acts

-- the actions at a view, and what they give of what waited
pub record At (v : View) (moves : List ℕ) (plan_is : Option (List ℕ)) (was_there : List Inflow) (new : Merging) (acts : List Act) : Type 0 where
  pub allowed : ActsAllowed v acts
  pub state_then : port_state new (acted_all v acts)
  pub turn : GoesTo moves was_there new acts
  pub stands : PullsStand acts
  pub started : new.core.phase ≡ New → ⊥
  pub more : List ℕ
  pub grows : new.log.moves ≡ moves ++ more
  pub plan : planned new.log ≡ plan_is

-- both that a handler owes
pub record Handled (call : Call) (old : Merging) (acts : List Act) (new : Merging) : Type 0 where
  pub ports : Obeys call (port_state old) (port_state new) acts
  pub gives : Turned call old acts new

obeys : (call : Call) (old new : Merging) (acts : List Act) → Going old → ActsAllowed (seen call (view_of old.core)) acts → port_state new (acted_all (seen call (view_of old.core)) acts) → Obeys call (port_state old) (port_state new) acts
obeys call old new acts g allowed state_then = record {
  allowed = λ v may r. let s = state_is old v g r in subst (λ w. ActsAllowed (seen call w) acts) (sym s.0) allowed;
  ports = λ v may r. let s = state_is old v g r in subst (λ w. port_state new (acted_all (seen call w) acts)) (sym s.0) state_then;
}

-- ---- an element of input i goes out, which waited

still_count : (bs : List Bool) (i : ℕ) → slice_get bs i ≡ Some false → 1 ≤ open_count bs
still_count bs i h = let e = one_less bs i h in omega (arith, e)

module _ (i : ℕ) (t : Tree) (gathers : Bool) (l : Core) (log : Picks) (may : MayNote i log.left) (calm : log.stuck ≡ false)
    (open_now : l.phase ≡ Open) (off : l.asked ≡ false) (count : l.left ≡ open_count l.over)
    (once : (m : ℕ) → length (of_port m (queued i t ∷ l.queue)) ≤ 1) (here : i < length l.over) (there : PortsThere l.over l.queue) (few : length l.over ≤ MAX_FAN) (roomy : length l.over ≤ l.room) (named : NamesInputs (length l.over) log.left) where
  abbrev before : View
  before = record { ins = places 0 l.over (queued i t ∷ l.queue); outs = outlet.Available ∷ [] }

  abbrev waiting_then : List Inflow
  waiting_then = waiting 0 l.over (queued i t ∷ l.queue)

  abbrev now : Picks
  now = logged i log

  abbrev to : Merging
  to = record { log = now; gathers = gathers; core = l }

  going_to : Going to
  going_to = record { phase_is = open_now; calm = calm }

  sound_then : (may_end (next_move now.left) ≡ true → l.queue ≡ [] → 1 ≤ l.left) → Sound now.left l
  sound_then some = record {
    whole = record {
      count = count;
      some = some;
      once = λ m. tail_once m (queued i t) l.queue (once m);
      there = there;
      few = few;
      roomy = roomy;
      named = named_behind (length l.over) log.left named;
    };
    none = λ e. absurd (let x : true ≡ false = sym e ∙ off in cc);
    going = λ e. absurd (let x : true ≡ false = sym e ∙ off in cc);
  }

  gone_turn : MergeTurn log.moves waiting_then (item.Elem t ∷ []) now.moves (waiting 0 l.over l.queue)
  gone_turn = record { more = i ∷ []; given = t ∷ []; now_is = refl; out_is = refl; merged = out_merged i t l.over l.queue here }

  turn_open : Then log.moves waiting_then (item.Elem t ∷ []) (owed_by_log to)
  turn_open = subst (λ f. Then log.moves waiting_then (item.Elem t ∷ []) (held_by f now.moves l)) (sym open_now) gone_turn

  unasked_view : (ins : List InView) → ins ≡ places 0 l.over l.queue → record { ins = ins; outs = outlet.Unpulled ∷ [] } ≡ view_of l
  unasked_view ins h = rw off (ap (λ (xs : List InView). record { ins = xs; outs = outlet.Unpulled ∷ [] }) h)

  same_plan : planned now ≡ planned log
  same_plan = noted_plan i log may

  again_still : slice_get l.over i ≡ Some false → At before log.moves (planned log) waiting_then to (Push 0 t ∷ Pull i ∷ [])
  again_still h = record {
    allowed = (refl, (idle_now i t l.over l.queue h, tt));
    state_then = is_state to (acted_all before (Push 0 t ∷ Pull i ∷ [])) going_to
        (unasked_view (slice_set (places 0 l.over (queued i t ∷ l.queue)) i Pulled) (released_now i t l.over l.queue h (only_head i t l.queue (once i))))
        (sound_then (λ u e. rw count (still_count l.over i h)));
    turn = goes calm turn_open;
    stands = (tt, tt);
    started = not_new open_now;
    more = i ∷ [];
    grows = refl;
    plan = same_plan;
  }

  again_over : slice_get l.over i ≡ Some true → (may_end (next_move now.left) ≡ true → l.queue ≡ [] → 1 ≤ l.left) → At before log.moves (planned log) waiting_then to (Push 0 t ∷ [])
  again_over h some = record {
    allowed = (refl, tt);
    state_then = is_state to (acted_all before (Push 0 t ∷ [])) going_to (unasked_view (places 0 l.over (queued i t ∷ l.queue)) (gone_now i t l.over l.queue h)) (sound_then some);
    turn = goes calm turn_open;
    stands = tt;
    started = not_new open_now;
    more = i ∷ [];
    grows = refl;
    plan = same_plan;
  }

  again_done : l.left ≡ 0 → l.queue ≡ [] → At before log.moves (planned log) waiting_then (record to { core = record l { phase = Closed } }) (Push 0 t ∷ Complete 0 ∷ [])
  again_done zero_left nothing_left =
      let all : AllOver l.over = none_open l.over (sym count ∙ zero_left) in
      let used : IsTrue (used_up (i ∷ []) 0 (map flow waiting_then)) = rw nothing_left (used_one 0 i t l.over all) in
      let closed : FanClosed (acted_all before (Push 0 t ∷ Complete 0 ∷ [])) = (over_closed 0 l.over (queued i t ∷ l.queue) all, tt) in
      record {
        allowed = (refl, (tt, tt));
        state_then = subst (λ b. port_state_in b (record to { core = record l { phase = Closed } }) (acted_all before (Push 0 t ∷ Complete 0 ∷ []))) (sym calm) closed;
        turn = goes calm (completes (i ∷ []) (t ∷ []) (waiting 0 l.over l.queue) refl refl (out_merged i t l.over l.queue here) used);
        stands = tt;
        started = λ e. cc;
        more = i ∷ [];
        grows = refl;
        plan = same_plan;
      }

  ended_by : (new : Merging) (acts : List Act) → slice_get l.over i ≡ Some true → EndsIfDone (Push 0 t ∷ []) to new acts → At before log.moves (planned log) waiting_then new acts
  ended_by new acts h (done a b e to_is acts_are) = rw (to_is, acts_are) (again_done a b)
  ended_by new acts h (opens a to_is acts_are) = rw (to_is, acts_are) (again_over h (λ u e. a))
  ended_by new acts h (more a to_is acts_are) = rw (to_is, acts_are) (again_over h (λ u e. absurd (a e)))
  ended_by new acts h (awaits a to_is acts_are) = rw (to_is, acts_are) (again_over h (λ u e. absurd (let x : true ≡ false = sym u ∙ a in cc)))

  pub again_by : (new : Merging) (acts : List Act) → Again i (Push 0 t ∷ []) to new acts → At before log.moves (planned log) waiting_then new acts
  again_by new acts (over h e) = ended_by new acts h e
  again_by new acts (still h to_is acts_are) = rw (to_is, acts_are) (again_still h)

-- an element that goes out was noted, and its input is asked again or is over
pub handed_on : (old : Merging) (log mid : Picks) (gathers : Bool) (core : Core) (i : ℕ) (e : Tree) (new : Merging) (put acts : List Act) → record { log = log; gathers = gathers; core = core } ≡ old → mid ≡ logged i log
    → put ≡ Push 0 e ∷ [] → Again i put (record { log = mid; gathers = gathers; core = core }) new acts → HandedOn i e old new acts
handed_on old log mid gathers core i e new put acts is noted pushed again =
    subst (λ (m : Merging). HandedOn i e m new acts) is
    (subst (λ (p : Picks). Again i (Push 0 e ∷ []) (record { log = p; gathers = gathers; core = core }) new acts) noted
    (subst (λ (xs : List Act). Again i xs (record { log = mid; gathers = gathers; core = core }) new acts) pushed again))

-- ---- the output is asked

ends_long : (b : List Act) (mid new : Merging) (acts : List Act) → EndsIfDone b mid new acts → length new.core.over ≡ length mid.core.over
ends_long b mid new acts (done x y e to_is z) = ap (λ (m : Merging). length m.core.over) to_is
ends_long b mid new acts (opens x to_is z) = ap (λ (m : Merging). length m.core.over) to_is
ends_long b mid new acts (more x to_is z) = ap (λ (m : Merging). length m.core.over) to_is
ends_long b mid new acts (awaits x to_is z) = ap (λ (m : Merging). length m.core.over) to_is

again_long : (i : ℕ) (b : List Act) (mid new : Merging) (acts : List Act) → Again i b mid new acts → length new.core.over ≡ length mid.core.over
again_long i b mid new acts (over x e) = ends_long b mid new acts e
again_long i b mid new acts (still x to_is z) = ap (λ (m : Merging). length m.core.over) to_is

served_long : (mid new : Merging) (acts : List Act) → AskServed mid new acts → length new.core.over ≡ length mid.core.over
served_long mid new acts (gives x q c h) = again_long x.port (Push 0 x.item ∷ []) (record { log = logged x.port mid.log; gathers = mid.gathers; core = record mid.core { queue = q; asked = false } }) new acts h
served_long mid new acts (keeps c h to_is z) = ap (λ (m : Merging). length m.core.over) to_is
served_long mid new acts (halts c h to_is z) = ap (λ (m : Merging). length m.core.over) to_is

-- it gathers or not as before
ends_way : (b : List Act) (mid new : Merging) (acts : List Act) → EndsIfDone b mid new acts → new.gathers ≡ mid.gathers
ends_way b mid new acts (done x y e to_is z) = ap (λ (m : Merging). m.gathers) to_is
ends_way b mid new acts (opens x to_is z) = ap (λ (m : Merging). m.gathers) to_is
ends_way b mid new acts (more x to_is z) = ap (λ (m : Merging). m.gathers) to_is
ends_way b mid new acts (awaits x to_is z) = ap (λ (m : Merging). m.gathers) to_is

again_way : (i : ℕ) (b : List Act) (mid new : Merging) (acts : List Act) → Again i b mid new acts → new.gathers ≡ mid.gathers
again_way i b mid new acts (over x e) = ends_way b mid new acts e
again_way i b mid new acts (still x to_is z) = ap (λ (m : Merging). m.gathers) to_is

served_way : (mid new : Merging) (acts : List Act) → AskServed mid new acts → new.gathers ≡ mid.gathers
served_way mid new acts (gives x q c h) = again_way x.port (Push 0 x.item ∷ []) (record { log = logged x.port mid.log; gathers = mid.gathers; core = record mid.core { queue = q; asked = false } }) new acts h
served_way mid new acts (keeps c h to_is z) = ap (λ (m : Merging). m.gathers) to_is
served_way mid new acts (halts c h to_is z) = ap (λ (m : Merging). m.gathers) to_is

-- it is asked, and what waits and came stands in its queue
module _ (s : Merging) (g : Going s) (on : s.core.asked ≡ true) (w : OpenCore s.log.left s.core) where
  abbrev asked_view : View
  asked_view = record { ins = places 0 s.core.over s.core.queue; outs = outlet.Available ∷ [] }

  its_view : asked_view ≡ view_of s.core
  its_view = ap (λ b. record { ins = places 0 s.core.over s.core.queue; outs = wish b ∷ [] }) (sym on)

  gives_one : (x : Queued) (q : List Queued) (new : Merging) (acts : List Act) → goes_next (next_move s.log.left) s.core.queue ≡ Some (x, q) → HandedOn x.port x.item (record s { core = record s.core { queue = q; asked = false } }) new acts
      → At asked_view s.log.moves (planned s.log) (waiting 0 s.core.over s.core.queue) new acts
  gives_one x q new acts c handed =
      let l : Core = record s.core { queue = q; asked = false } in
      let k = choice s.log.left s.core.queue x q c in
      let same : (m : ℕ) → of_port m s.core.queue ≡ of_port m (x ∷ q) = k.out.same in
      let once : (m : ℕ) → length (of_port m (x ∷ q)) ≤ 1 = λ m. subst (λ (u : List Tree). length u ≤ 1) (same m) (w.once m) in
      let there : PortsThere s.core.over (x ∷ q) = k.out.there s.core.over w.there in
      let a : At (record { ins = places 0 s.core.over (x ∷ q); outs = outlet.Available ∷ [] }) s.log.moves (planned s.log) (waiting 0 s.core.over (x ∷ q)) new acts =
      again_by x.port x.item s.gathers l s.log k.may g.calm g.phase_is refl w.count once there.0 there.1 w.few w.roomy w.named new acts handed in
      let p : places 0 s.core.over s.core.queue ≡ places 0 s.core.over (x ∷ q) = places_same 0 s.core.over s.core.queue (x ∷ q) (λ m n. same m) in
      let f : waiting 0 s.core.over s.core.queue ≡ waiting 0 s.core.over (x ∷ q) = waiting_same 0 s.core.over s.core.queue (x ∷ q) (λ m n. same m) in
      subst (λ (xs : List InView). At (record { ins = xs; outs = outlet.Available ∷ [] }) s.log.moves (planned s.log) (waiting 0 s.core.over s.core.queue) new acts) (sym p)
      (subst (λ (fs : List Inflow). At (record { ins = places 0 s.core.over (x ∷ q); outs = outlet.Available ∷ [] }) s.log.moves (planned s.log) fs new acts) (sym f) a)

  quiet_open : Then s.log.moves (waiting 0 s.core.over s.core.queue) [] (owed_by_log s)
  quiet_open = subst (λ f. Then s.log.moves (waiting 0 s.core.over s.core.queue) [] (held_by f s.log.moves s.core)) (sym g.phase_is) (quiet s.log.moves s.core.over s.core.queue)

  keeps_all : goes_next (next_move s.log.left) s.core.queue ≡ None → lost (next_move s.log.left) s.core.over ≡ false → At asked_view s.log.moves (planned s.log) (waiting 0 s.core.over s.core.queue) s []
  keeps_all c h = record {
    allowed = tt;
    state_then = is_state s asked_view g its_view (record { whole = w; none = λ e. c; going = λ e. h });
    turn = goes g.calm quiet_open;
    stands = tt;
    started = not_new g.phase_is;
    more = [];
    grows = sym (append-nil s.log.moves);
    plan = refl;
  }

  halts_now : goes_next (next_move s.log.left) s.core.queue ≡ None → lost (next_move s.log.left) s.core.over ≡ true → At asked_view s.log.moves (planned s.log) (waiting 0 s.core.over s.core.queue) (stuck_now s) []
  halts_now c h = record {
    allowed = tt;
    state_then = record { phase_is = g.phase_is; few = w.few; many = places_long 0 s.core.over s.core.queue; one = refl; uncancelled = places_open 0 s.core.over s.core.queue };
    turn = stops refl refl (waiting 0 s.core.over s.core.queue) (quiet s.log.moves s.core.over s.core.queue) (lost_one s.log.left s.core.over s.core.queue c h);
    stands = tt;
    started = not_new g.phase_is;
    more = [];
    grows = sym (append-nil s.log.moves);
    plan = refl;
  }

  pub served_by : (new : Merging) (acts : List Act) → AskServed s new acts → At asked_view s.log.moves (planned s.log) (waiting 0 s.core.over s.core.queue) new acts
  served_by new acts (gives x q c h) = gives_one x q new acts c h
  served_by new acts (keeps c h to_is acts_are) = rw (to_is, acts_are) (keeps_all c h)
  served_by new acts (halts c h to_is acts_are) = rw (to_is, acts_are) (halts_now c h)

-- ---- from what is done at a view to what a handler owes

module _ (old : Merging) (g : Going old) where
  held_open : held old ≡ serves (waits old.log.moves (waiting 0 old.core.over old.core.queue))
  held_open = ap (λ b. held_in b old) g.calm ∙ ap (λ f. serves (held_by f old.log.moves old.core)) g.phase_is

  abbrev was : List Inflow
  was = waiting 0 old.core.over old.core.queue

  -- a call that is no cancel
  abbrev Turns : Call → Type 0
  Turns call = (out : List Item) (hd : MergeHeld) → Then old.log.moves (joined_all 0 was (coming call)) out hd → MergeTurnAt call (waits old.log.moves was) out hd

  still_by : (new : Merging) (acts : List Act) (waited_for : List Inflow) → GoesTo old.log.moves waited_for new acts → new.log.stuck ≡ true → acts ≡ []
  still_by new acts ws (goes calm t) stuck = let x : true ≡ false = sym stuck ∙ calm in cc
  still_by new acts ws (stops s none us t lack) stuck = none

  turn_by : (call : Call) (new : Merging) (acts : List Act) → Turns call → GoesTo old.log.moves (joined_all 0 was (coming call)) new acts → OwesAt call (serves (waits old.log.moves was)) (given_on 0 acts) (held new)
  turn_by call new acts turns (goes calm t) = rw calm (turns (given_on 0 acts) (owed_by_log new) t)
  turn_by call new acts turns (stops stuck none us t lack) = rw (stuck, none) (record { left = us; turn = turns [] (waits new.log.moves us) t; lost = lack })

  handled_by : (call : Call) (new : Merging) (acts : List Act) → new.gathers ≡ old.gathers → length new.core.over ≡ length old.core.over → Turns call
      → At (seen call (view_of old.core)) old.log.moves (planned old.log) (joined_all 0 was (coming call)) new acts → Handled call old acts new
  handled_by call new acts way long turns a = record {
    ports = obeys call old new acts g a.allowed a.state_then;
    gives = record { turn = rw held_open (turn_by call new acts turns a.turn); way = way; inputs = long; stands = a.stands; started = a.started; more = a.more; grows = a.grows; plan = a.plan; still = still_by new acts (joined_all 0 was (coming call)) a.turn };
  }

  -- the room that was made changes nothing of it
  pub asked_now : (mid new : Merging) (acts : List Act) → mid ≡ record old { log = record old.log { room = mid.log.room } } → Found (pulls 0) old → AskServed (wanted mid) new acts → Handled (pulls 0) old acts new
  asked_now mid new acts is f served_so =
      let s : Merging = record { log = record old.log { room = mid.log.room }; gathers = old.gathers; core = record old.core { asked = true } } in
      let gs : Going s = record { phase_is = g.phase_is; calm = g.calm } in
      let ws : OpenCore s.log.left s.core = record { count = f.sound.whole.count; some = f.sound.whole.some; once = f.sound.whole.once; there = f.sound.whole.there; few = f.sound.whole.few; roomy = f.sound.whole.roomy; named = f.sound.whole.named } in
      let so : AskServed s new acts = subst (λ (l : Merging). AskServed (wanted l) new acts) is served_so in
      let a = served_by s gs refl ws new acts so in
      handled_by (pulls 0) new acts (served_way s new acts so) (served_long s new acts so) (λ out hd. asked_turn old.log.moves was out hd)
      (subst (λ (fs : List Inflow). At (seen (pulls 0) (view_of old.core)) old.log.moves (planned old.log) fs new acts) (sym (joined_all-nothing_came 0 was)) a)

  -- ---- an element came

  -- once room for moves was made
  abbrev roomed : Merging → Merging
  roomed mid = record { log = record old.log { room = mid.log.room }; gathers = old.gathers; core = old.core }

  came_one : (i : ℕ) (t : Tree) (mid : Merging) → mid ≡ record old { log = record old.log { room = mid.log.room } } → Found (arrives i (item.Elem t)) old → slice_get old.core.over i ≡ Some false → of_port i old.core.queue ≡ [] → OpenCore (stored i t mid).log.left (stored i t mid).core
  came_one i t mid is f here free =
      let w = f.sound.whole in
      subst (λ (l : Merging). OpenCore (stored i t l).log.left (stored i t l).core) (sym is) (record {
        count = w.count;
        some = λ u e. absurd (not_nothing old.core.queue (queued i t) e);
        once = λ m. stored_once m i t old.core.queue free (w.once m);
        there = there_stored old.core.over old.core.queue i t (slice_get_within old.core.over i false here) w.there;
        few = w.few;
        roomy = w.roomy;
        named = w.named;
      })
    where
      not_nothing : (q : List Queued) (x : Queued) → q ++ x ∷ [] ≡ [] → ⊥
      not_nothing [] x e = cc
      not_nothing (y ∷ q) x e = cc

  pub pushed_now : (mid new : Merging) (acts : List Act) (i : ℕ) (t : Tree) → mid ≡ record old { log = record old.log { room = mid.log.room } } → Found (arrives i (item.Elem t)) old → Took i t mid new acts → Handled (arrives i (item.Elem t)) old acts new
  pushed_now mid new acts i t is f took_so = by_took (subst (λ (l : Merging). Took i t l new acts) is took_so)
    where
      here : slice_get old.core.over i ≡ Some false
      here = here_now i old.core.over old.core.queue f.may

      free : of_port i old.core.queue ≡ []
      free = none_now i old.core.over old.core.queue f.may

      whole_then : OpenCore (stored i t (roomed mid)).log.left (stored i t (roomed mid)).core
      whole_then = came_one i t (roomed mid) refl f here free

      gs : Going (stored i t (roomed mid))
      gs = record { phase_is = g.phase_is; calm = g.calm }

      ins : slice_set (places 0 old.core.over old.core.queue) i Idle ≡ places 0 old.core.over (stored i t (roomed mid)).core.queue
      ins = stored_now i t old.core.over old.core.queue here

      ws : joined_all 0 was (coming (arrives i (item.Elem t))) ≡ waiting 0 old.core.over (stored i t (roomed mid)).core.queue
      ws = came_now i t old.core.over old.core.queue here

      seen_is : (b : Bool) → old.core.asked ≡ b → seen (arrives i (item.Elem t)) (view_of old.core) ≡ record { ins = places 0 old.core.over (stored i t (roomed mid)).core.queue; outs = wish b ∷ [] }
      seen_is b e = ap (λ (xs : List InView). record { ins = xs; outs = wish old.core.asked ∷ [] }) ins ∙ ap (λ c. record { ins = places 0 old.core.over (stored i t (roomed mid)).core.queue; outs = wish c ∷ [] }) e

      handled_at : (v : View) → seen (arrives i (item.Elem t)) (view_of old.core) ≡ v → new.gathers ≡ old.gathers → length new.core.over ≡ length old.core.over → At v old.log.moves (planned old.log) (waiting 0 old.core.over (stored i t (roomed mid)).core.queue) new acts → Handled (arrives i (item.Elem t)) old acts new
      handled_at v e way long a =
          handled_by (arrives i (item.Elem t)) new acts way long (λ out hd. brought_turn i (item.Elem t) old.log.moves was out hd)
          (subst (λ (fs : List Inflow). At (seen (arrives i (item.Elem t)) (view_of old.core)) old.log.moves (planned old.log) fs new acts) (sym ws)
          (subst (λ (u : View). At u old.log.moves (planned old.log) (waiting 0 old.core.over (stored i t (roomed mid)).core.queue) new acts) (sym e) a))

      waits_there : old.core.asked ≡ false → At (record { ins = places 0 old.core.over (stored i t (roomed mid)).core.queue; outs = outlet.Unpulled ∷ [] }) old.log.moves (planned old.log) (waiting 0 old.core.over (stored i t (roomed mid)).core.queue) (stored i t (roomed mid)) []
      waits_there off = record {
        allowed = tt;
        state_then = is_state (stored i t (roomed mid)) (record { ins = places 0 old.core.over (stored i t (roomed mid)).core.queue; outs = outlet.Unpulled ∷ [] }) gs (ap (λ b. record { ins = places 0 old.core.over (stored i t (roomed mid)).core.queue; outs = wish b ∷ [] }) (sym off))
            (record { whole = whole_then; none = λ e. absurd (let x : true ≡ false = sym e ∙ off in cc); going = λ e. absurd (let x : true ≡ false = sym e ∙ off in cc) });
        turn = goes g.calm (subst (λ f. Then old.log.moves (waiting 0 old.core.over (stored i t (roomed mid)).core.queue) [] (held_by f old.log.moves (stored i t (roomed mid)).core)) (sym g.phase_is) (quiet old.log.moves old.core.over (stored i t (roomed mid)).core.queue));
        stands = tt;
        started = not_new g.phase_is;
        more = [];
        grows = sym (append-nil old.log.moves);
        plan = refl;
      }

      by_took : Took i t (roomed mid) new acts → Handled (arrives i (item.Elem t)) old acts new
      by_took (passed on one handed) =
          let so : AskServed (stored i t (roomed mid)) new acts = gives (queued i t) old.core.queue (passing_chosen old.log.left old.core.queue i t (f.sound.none on) one) handed in
          handled_at (record { ins = places 0 old.core.over (stored i t (roomed mid)).core.queue; outs = outlet.Available ∷ [] }) (seen_is true on) (served_way (stored i t (roomed mid)) new acts so) (served_long (stored i t (roomed mid)) new acts so) (served_by (stored i t (roomed mid)) gs on whole_then new acts so)
      by_took (early on other to_is acts_are) =
          let so : AskServed (stored i t (roomed mid)) new acts = keeps (staying_none old.log.left old.core.queue i t (f.sound.none on) other) (f.sound.going on) to_is acts_are in
          handled_at (record { ins = places 0 old.core.over (stored i t (roomed mid)).core.queue; outs = outlet.Available ∷ [] }) (seen_is true on) (served_way (stored i t (roomed mid)) new acts so) (served_long (stored i t (roomed mid)) new acts so) (served_by (stored i t (roomed mid)) gs on whole_then new acts so)
      by_took (waited off to_is acts_are) = handled_at (record { ins = places 0 old.core.over (stored i t (roomed mid)).core.queue; outs = outlet.Unpulled ∷ [] }) (seen_is false off) (ap (λ (m : Merging). m.gathers) to_is) (ap (λ (m : Merging). length m.core.over) to_is) (rw (to_is, acts_are) (waits_there off))

  -- ---- an input has ended

  abbrev over_then : ℕ → List Bool
  over_then i = slice_set old.core.over i true

  abbrev view_then : ℕ → View
  view_then i = record { ins = places 0 (over_then i) old.core.queue; outs = wish old.core.asked ∷ [] }

  pub finished_now : (new : Merging) (acts : List Act) (i : ℕ) → Found (arrives i item.Ended) old → slice_get old.core.over i ≡ Some false → Ended i old new acts → Handled (arrives i item.Ended) old acts new
  finished_now new acts i f here ended_so = by_ended ended_so
    where
      long : length (over_then i) ≡ length old.core.over
      long = length-set old.core.over i true

      ins : slice_set (places 0 old.core.over old.core.queue) i Finished ≡ places 0 (over_then i) old.core.queue
      ins = ended_place 0 i old.core.over old.core.queue

      ws : joined_all 0 was (coming (arrives i item.Ended)) ≡ waiting 0 (over_then i) old.core.queue
      ws = ended_now i old.core.over old.core.queue here

      count_then : old.core.left - 1 ≡ open_count (over_then i)
      count_then = let a = f.sound.whole.count in let b = one_less old.core.over i here in omega (arith, a, b)

      whole_then : (may_end (next_move old.log.left) ≡ true → old.core.queue ≡ [] → 1 ≤ old.core.left - 1) → OpenCore (without i old).log.left (without i old).core
      whole_then some =
          let w = f.sound.whole in
          record {
            count = count_then;
            some = some;
            once = w.once;
            there = there_by old.core.over (over_then i) old.core.queue (sym long) w.there;
            few = rw long w.few;
            roomy = rw long w.roomy;
            named = subst (λ n. NamesInputs n old.log.left) (sym long) w.named;
          }

      handled_at : new.gathers ≡ old.gathers → length new.core.over ≡ length (over_then i) → At (view_then i) old.log.moves (planned old.log) (waiting 0 (over_then i) old.core.queue) new acts → Handled (arrives i item.Ended) old acts new
      handled_at way l a =
          handled_by (arrives i item.Ended) new acts way (l ∙ long) (λ out hd. brought_turn i item.Ended old.log.moves was out hd)
          (subst (λ (fs : List Inflow). At (seen (arrives i item.Ended) (view_of old.core)) old.log.moves (planned old.log) fs new acts) (sym ws)
          (subst (λ (xs : List InView). At (record { ins = xs; outs = wish old.core.asked ∷ [] }) old.log.moves (planned old.log) (waiting 0 (over_then i) old.core.queue) new acts) (sym ins) a))

      stays_open : (old.core.asked ≡ true → lost (next_move old.log.left) (over_then i) ≡ false) → (may_end (next_move old.log.left) ≡ true → old.core.queue ≡ [] → 1 ≤ old.core.left - 1) → At (view_then i) old.log.moves (planned old.log) (waiting 0 (over_then i) old.core.queue) (without i old) []
      stays_open going some = record {
        allowed = tt;
        state_then = is_state (without i old) (view_then i) (record { phase_is = g.phase_is; calm = g.calm }) refl (record { whole = whole_then some; none = f.sound.none; going = going });
        turn = goes g.calm (subst (λ p. Then old.log.moves (waiting 0 (over_then i) old.core.queue) [] (held_by p old.log.moves (without i old).core)) (sym g.phase_is) (quiet old.log.moves (over_then i) old.core.queue));
        stands = tt;
        started = not_new g.phase_is;
        more = [];
        grows = sym (append-nil old.log.moves);
        plan = refl;
      }

      is_done : old.core.left - 1 ≡ 0 → old.core.queue ≡ [] → At (view_then i) old.log.moves (planned old.log) (waiting 0 (over_then i) old.core.queue) (record (without i old) { core = record (without i old).core { phase = Closed } }) (Complete 0 ∷ [])
      is_done z none =
          let all : AllOver (over_then i) = none_open (over_then i) (sym count_then ∙ z) in
          let closed : FanClosed (acted_all (view_then i) (Complete 0 ∷ [])) = (over_closed 0 (over_then i) old.core.queue all, tt) in
          let used : IsTrue (used_up [] 0 (map flow (waiting 0 (over_then i) old.core.queue))) = rw none (used_none 0 (over_then i) all) in
          record {
            allowed = (open_wish old.core.asked, tt);
            state_then = subst (λ b. port_state_in b (record (without i old) { core = record (without i old).core { phase = Closed } }) (acted_all (view_then i) (Complete 0 ∷ []))) (sym g.calm) closed;
            turn = goes g.calm (completes [] [] (waiting 0 (over_then i) old.core.queue) (sym (append-nil old.log.moves)) refl (none_merged (over_then i) old.core.queue) used);
            stands = tt;
            started = λ e. cc;
            more = [];
            grows = sym (append-nil old.log.moves);
            plan = refl;
          }

      by_end : (old.core.asked ≡ true → lost (next_move old.log.left) (over_then i) ≡ false) → EndsIfDone [] (without i old) new acts → Handled (arrives i item.Ended) old acts new
      by_end going (done z none m to_is acts_are) = handled_at (ap (λ (l : Merging). l.gathers) to_is) (ap (λ (l : Merging). length l.core.over) to_is) (rw (to_is, acts_are) (is_done z none))
      by_end going (opens a to_is acts_are) = handled_at (ap (λ (l : Merging). l.gathers) to_is) (ap (λ (l : Merging). length l.core.over) to_is) (rw (to_is, acts_are) (stays_open going (λ u e. a)))
      by_end going (more a to_is acts_are) = handled_at (ap (λ (l : Merging). l.gathers) to_is) (ap (λ (l : Merging). length l.core.over) to_is) (rw (to_is, acts_are) (stays_open going (λ u e. absurd (a e))))
      by_end going (awaits a to_is acts_are) = handled_at (ap (λ (l : Merging). l.gathers) to_is) (ap (λ (l : Merging). length l.core.over) to_is) (rw (to_is, acts_are) (stays_open going (λ u e. absurd (let x : true ≡ false = sym u ∙ a in cc))))

      halts_there : old.core.asked ≡ true → lost (next_move old.log.left) (over_then i) ≡ true → At (view_then i) old.log.moves (planned old.log) (waiting 0 (over_then i) old.core.queue) (stuck_now (without i old)) []
      halts_there on lack = record {
        allowed = tt;
        state_then = record { phase_is = g.phase_is; few = rw long f.sound.whole.few; many = places_long 0 (over_then i) old.core.queue; one = refl; uncancelled = places_open 0 (over_then i) old.core.queue };
        turn = stops refl refl (waiting 0 (over_then i) old.core.queue) (quiet old.log.moves (over_then i) old.core.queue) (lost_one old.log.left (over_then i) old.core.queue (f.sound.none on) lack);
        stands = tt;
        started = not_new g.phase_is;
        more = [];
        grows = sym (append-nil old.log.moves);
        plan = refl;
      }

      by_ended : Ended i old new acts → Handled (arrives i item.Ended) old acts new
      by_ended (ends going e) = by_end going e
      by_ended (lacks on lack to_is acts_are) = handled_at (ap (λ (l : Merging). l.gathers) to_is) (ap (λ (l : Merging). length l.core.over) to_is) (rw (to_is, acts_are) (halts_there on lack))

-- ---- an input is there

pub port_open : (old : Merging) (i : ℕ) (b : Item) → Going old → (CallAllowed (arrives i b) (view_of old.core) → IsInOpen (in_at (view_of old.core) i)) → Meets (arrives i b) (port_state old) → slice_get old.core.over i ≡ Some false
port_open old i b g is_in m = open_place 0 i old.core.over old.core.queue (is_in (found (arrives i b) old g m).may)

pub port_there : (old : Merging) (i : ℕ) (b : Item) → Going old → (CallAllowed (arrives i b) (view_of old.core) → IsInOpen (in_at (view_of old.core) i)) → Meets (arrives i b) (port_state old) → i < length old.core.over
port_there old i b g is_in m = slice_get_within old.core.over i false (port_open old i b g is_in m)

pub push_there : (old : Merging) (i : ℕ) (t : Tree) → Going old → Meets (arrives i (item.Elem t)) (port_state old) → i < length old.core.over
push_there old i t g m = slice_get_within old.core.over i false (here_now i old.core.over old.core.queue (found (arrives i (item.Elem t)) old g m).may)

pub some_open : (old : Merging) (i : ℕ) → Going old → Meets (arrives i item.Ended) (port_state old) → 1 ≤ old.core.left
some_open old i g m =
    let s = (found (arrives i item.Ended) old g m).sound.whole in
    let c = s.count in
    rw c (still_count old.core.over i (port_open old i item.Ended g (λ x. x) m))

pub queue_there : (call : Call) (old : Merging) → Going old → Meets call (port_state old) → PortsThere old.core.over old.core.queue
queue_there call old g m = (found call old g m).sound.whole.there

pub over_few : (call : Call) (old : Merging) → Going old → Meets call (port_state old) → length old.core.over ≤ MAX_FAN
over_few call old g m = (found call old g m).sound.whole.few

-- ---- all that are open are cancelled

open_free : (l : List Tree) → IsInOpen (input_view false l)
open_free [] = tt
open_free (t ∷ l) = tt

cancels_from : (bs : List Bool) (q : List Queued) (n : ℕ) (before : List InView) (outs : List OutView) → length before ≡ n → InsClosed before
    → Cancels (record { ins = before ++ places n bs q; outs = outs }) (open_cancels n bs)
cancels_from [] q n before outs h k = record { allowed = tt; closed = ins_append before [] k tt; outs = refl }
cancels_from (true ∷ bs) q n before outs h k =
    let e : before ++ places n (true ∷ bs) q ≡ (before ++ Finished ∷ []) ++ places (n + 1) bs q = sym (append_assoc before (Finished ∷ []) (places (n + 1) bs q)) in
    rw e (cancels_from bs q (n + 1) (before ++ Finished ∷ []) outs (let l = length-append before (Finished ∷ []) in omega (arith, l, h)) (ins_append before (Finished ∷ []) k (tt, tt)))
cancels_from (false ∷ bs) q n before outs h k =
    let rest = places (n + 1) bs q in
    let x = input_view false (of_port n q) in
    let e : slice_set (before ++ x ∷ rest) n Cancelled ≡ (before ++ Cancelled ∷ []) ++ rest = set_behind before rest x Cancelled n h ∙ sym (append_assoc before (Cancelled ∷ []) rest) in
    let at : slice_index_or (before ++ x ∷ rest) n Cancelled ≡ x = at_behind before rest x n h in
    let r = cancels_from bs q (n + 1) (before ++ Cancelled ∷ []) outs (let l = length-append before (Cancelled ∷ []) in omega (arith, l, h)) (ins_append before (Cancelled ∷ []) k (tt, tt)) in
    let moved : acted (record { ins = before ++ x ∷ rest; outs = outs }) (Cancel n) ≡ record { ins = (before ++ Cancelled ∷ []) ++ rest; outs = outs } = ap (λ (xs : List InView). record { ins = xs; outs = outs }) e in
    record {
      allowed = (rw at (open_free (of_port n q)), subst (λ (v : View). ActsAllowed v (open_cancels (n + 1) bs)) (sym moved) r.allowed);
      closed = subst (λ (v : View). InsClosed (acted_all v (open_cancels (n + 1) bs)).ins) (sym moved) r.closed;
      outs = ap (λ (v : View). (acted_all v (open_cancels (n + 1) bs)).outs) moved ∙ r.outs;
    }

pub left_on : (old new : Merging) (acts : List Act) → Going old → Does new acts (record old { core = record old.core { phase = Closed } }) (open_cancels 0 old.core.over) → Handled (cancels 0) old acts new
left_on old new acts g does =
    let to : Merging = record old { core = record old.core { phase = Closed } } in
    let r = cancels_from old.core.over old.core.queue 0 [] (outlet.Cancelled ∷ []) refl tt in
    let closed : FanClosed (acted_all (seen (cancels 0) (view_of old.core)) (open_cancels 0 old.core.over)) = (r.closed, subst (λ (ys : List OutView). OneClosed ys) (sym r.outs) tt) in
    rw (does.to_is, does.acts_are) (record {
      ports = obeys (cancels 0) old to (open_cancels 0 old.core.over) g r.allowed (subst (λ b. port_state_in b to (acted_all (seen (cancels 0) (view_of old.core)) (open_cancels 0 old.core.over))) (sym g.calm) closed);
      gives = record {
        turn = rw (held_open old g, g.calm) (cancels_give 0 old.core.over, refl);
        way = refl;
        inputs = refl;
        stands = cancels_stand 0 old.core.over;
        started = λ e. cc;
        more = [];
        grows = sym (append-nil old.log.moves);
        plan = refl;
        still = λ e. absurd (not_calm g.calm e);
      };
    })

pub failed_on : (old new : Merging) (acts : List Act) (i : ℕ) (c : Cause) → Going old → Meets (arrives i (item.Failed c)) (port_state old)
    → Does new acts (record old { core = record old.core { over = slice_set old.core.over i true; phase = Closed } }) (FailOut 0 c ∷ open_cancels 0 (slice_set old.core.over i true)) → Handled (arrives i (item.Failed c)) old acts new
failed_on old new acts i c g m does =
    let f = found (arrives i (item.Failed c)) old g m in
    let bs : List Bool = slice_set old.core.over i true in
    let here : slice_get old.core.over i ≡ Some false = port_open old i (item.Failed c) g (λ x. x) m in
    let to : Merging = record old { core = record old.core { over = bs; phase = Closed } } in
    let all : List Act = FailOut 0 c ∷ open_cancels 0 bs in
    let r = cancels_from bs old.core.queue 0 [] (outlet.Closed ∷ []) refl tt in
    let given : given_on 0 all ≡ item.Failed c ∷ [] = ap (λ (l : List Item). item.Failed c ∷ l) (cancels_give 0 bs) in
    let ins : slice_set (places 0 old.core.over old.core.queue) i Finished ≡ places 0 bs old.core.queue = ended_place 0 i old.core.over old.core.queue in
    let close : MergeClose old.log.moves (joined_all 0 (waiting 0 old.core.over old.core.queue) (coming (arrives i (item.Failed c)))) (item.Failed c ∷ []) old.log.moves = fails c refl refl (failed_now i c old.core.over old.core.queue here (f.sound.whole.once i)) in
    let closed : FanClosed (acted_all (record { ins = places 0 bs old.core.queue; outs = wish old.core.asked ∷ [] }) all) = (r.closed, subst (λ (ys : List OutView). OneClosed ys) (sym r.outs) tt) in
    let closed_then : FanClosed (acted_all (seen (arrives i (item.Failed c)) (view_of old.core)) all) = subst (λ (xs : List InView). FanClosed (acted_all (record { ins = xs; outs = wish old.core.asked ∷ [] }) all)) (sym ins) closed in
    rw (does.to_is, does.acts_are) (record {
      ports = obeys (arrives i (item.Failed c)) old to all g
          (open_wish old.core.asked, subst (λ (xs : List InView). ActsAllowed (record { ins = xs; outs = outlet.Closed ∷ [] }) (open_cancels 0 bs)) (sym ins) r.allowed)
          (subst (λ b. port_state_in b to (acted_all (seen (arrives i (item.Failed c)) (view_of old.core)) all)) (sym g.calm) closed_then);
      gives = record { turn = rw (held_open old g, g.calm, given) close; way = refl; inputs = length-set old.core.over i true; stands = cancels_stand 0 bs; started = λ e. cc; more = []; grows = sym (append-nil old.log.moves); plan = refl; still = λ e. absurd (not_calm g.calm e) };
    })

-- ---- the start

all_false : ℕ → List Bool
all_false n = replicate n false

pulls_from : (k : ℕ) (n : ℕ) (before : List InView) → length before ≡ n
    → ActsAllowed (record { ins = before ++ idles (replicate k false); outs = outlet.Unpulled ∷ [] }) (pull_acts n (replicate k false))
    × (acted_all (record { ins = before ++ idles (replicate k false); outs = outlet.Unpulled ∷ [] }) (pull_acts n (replicate k false)) ≡ record { ins = before ++ places n (replicate k false) []; outs = outlet.Unpulled ∷ [] })
pulls_from zero n before h = (tt, refl)
pulls_from (suc k) n before h =
    let rest = idles (replicate k false) in
    let e : slice_set (before ++ Idle ∷ rest) n Pulled ≡ (before ++ Pulled ∷ []) ++ rest = set_behind before rest Idle Pulled n h ∙ sym (append_assoc before (Pulled ∷ []) rest) in
    let at : slice_index_or (before ++ Idle ∷ rest) n Cancelled ≡ Idle = at_behind before rest Idle n h in
    let r = pulls_from k (n + 1) (before ++ Pulled ∷ []) (let l = length-append before (Pulled ∷ []) in omega (arith, l, h)) in
    let moved : acted (record { ins = before ++ Idle ∷ rest; outs = outlet.Unpulled ∷ [] }) (Pull n) ≡ record { ins = (before ++ Pulled ∷ []) ++ rest; outs = outlet.Unpulled ∷ [] } = ap (λ (xs : List InView). record { ins = xs; outs = outlet.Unpulled ∷ [] }) e in (
      (at, subst (λ (v : View). ActsAllowed v (pull_acts (n + 1) (replicate k false))) (sym moved) r.0),
      ap (λ (v : View). acted_all v (pull_acts (n + 1) (replicate k false))) moved ∙ r.1
          ∙ ap (λ (xs : List InView). record { ins = xs; outs = outlet.Unpulled ∷ [] }) (append_assoc before (Pulled ∷ []) (places (n + 1) (replicate k false) [])),
    )

pulls_give : (n : ℕ) (bs : List Bool) → given_on 0 (pull_acts n bs) ≡ []
pulls_give n [] = refl
pulls_give n (true ∷ bs) = pulls_give (n + 1) bs
pulls_give n (false ∷ bs) = pulls_give (n + 1) bs

no_cancel : (i n : ℕ) (bs : List Bool) → NoCancel i (pull_acts n bs)
no_cancel i n [] = tt
no_cancel i n (true ∷ bs) = no_cancel i (n + 1) bs
no_cancel i n (false ∷ bs) = no_cancel i (n + 1) bs

pulls_stand : (n : ℕ) (bs : List Bool) → PullsStand (pull_acts n bs)
pulls_stand n [] = tt
pulls_stand n (true ∷ bs) = pulls_stand (n + 1) bs
pulls_stand n (false ∷ bs) = (no_cancel n (n + 1) bs, pulls_stand (n + 1) bs)

-- a new one, which was not started
pub record Waiting (l : Merging) : Type 0 where
  pub new : l.core.phase ≡ New
  pub calm : l.log.stuck ≡ false

-- one that stopped is open
pub new_is_calm : (old : Merging) (v : View) → old.core.phase ≡ New → port_state old v → old.log.stuck ≡ false
new_is_calm old v h r = by_stuck old.log.stuck refl r
  where
    by_stuck : (b : Bool) → old.log.stuck ≡ b → port_state_in b old v → old.log.stuck ≡ false
    by_stuck false e r = e
    by_stuck true e r = absurd (let x : New ≡ Open = sym h ∙ r.phase_is in cc)

pub new_waits : (old : Merging) → old.core.phase ≡ New → Meets starts (port_state old) → Waiting old
new_waits old h m = record { new = h; calm = new_is_calm old m.0 h m.1.1 }

new_state : (l : Merging) (v : View) → Waiting l → port_state l v → (v ≡ new_view l.core) × (Sound l.log.left l.core × Fresh l.core)
new_state l v g r = subst (λ f. port_state_by f l.log.left l.core v) g.new (subst (λ b. port_state_in b l v) g.calm r)

pub few_new : (old : Merging) → Waiting old → Meets starts (port_state old) → length old.core.over ≤ MAX_FAN
few_new old g m = (new_state old m.0 g m.1.1).1.0.whole.few

pub started : (old new : Merging) (acts : List Act) → Waiting old → Meets starts (port_state old) → Does new acts (record old { core = record old.core { phase = Open } }) (pull_acts 0 old.core.over) → Handled starts old acts new
started old new acts g m does =
    let r = new_state old m.0 g m.1.1 in
    let sound : Sound old.log.left old.core = r.1.0 in
    let fresh : Fresh old.core = r.1.1 in
    let to : Merging = record old { core = record old.core { phase = Open } } in
    let ws : List Inflow = waiting 0 old.core.over old.core.queue in
    let k : ℕ = length old.core.over in
    let p = pulls_from k 0 [] refl in
    let bs : replicate k false ≡ old.core.over = sym fresh.over in
    let allowed : ActsAllowed (new_view old.core) (pull_acts 0 old.core.over) = subst (λ (o : List Bool). ActsAllowed (record { ins = idles o; outs = outlet.Unpulled ∷ [] }) (pull_acts 0 o)) bs p.0 in
    let then_is : acted_all (new_view old.core) (pull_acts 0 old.core.over) ≡ record { ins = places 0 old.core.over []; outs = outlet.Unpulled ∷ [] } = subst (λ (o : List Bool). acted_all (record { ins = idles o; outs = outlet.Unpulled ∷ [] }) (pull_acts 0 o) ≡ record { ins = places 0 o []; outs = outlet.Unpulled ∷ [] }) bs p.1 in
    let v : acted_all (new_view old.core) (pull_acts 0 old.core.over) ≡ view_of to.core = then_is ∙ ap (λ (q : List Queued). record { ins = places 0 old.core.over q; outs = outlet.Unpulled ∷ [] }) (sym fresh.queue) ∙ ap (λ b. record { ins = places 0 old.core.over old.core.queue; outs = wish b ∷ [] }) (sym fresh.unasked) in
    let w = sound.whole in
    let s : Sound to.log.left to.core = record { whole = record { count = w.count; some = w.some; once = w.once; there = w.there; few = w.few; roomy = w.roomy; named = w.named }; none = sound.none; going = sound.going } in
    let gt : Going to = record { phase_is = refl; calm = g.calm } in
    let was_held : held old ≡ serves (waits old.log.moves ws) = ap (λ b. held_in b old) g.calm ∙ ap (λ f. serves (held_by f old.log.moves old.core)) g.new in
    let now_held : held to ≡ serves (waits old.log.moves ws) = ap (λ b. held_in b to) g.calm in
    let turn : OwesAt starts (serves (waits old.log.moves ws)) [] (serves (waits old.log.moves ws)) = subst (λ w. MergeTurn old.log.moves w [] old.log.moves ws) (sym (joined_all-nothing_came 0 ws)) (quiet old.log.moves old.core.over old.core.queue) in
    rw (does.to_is, does.acts_are) (record {
      ports = record {
        allowed = λ w may x. let y = new_state old w g x in subst (λ u. ActsAllowed u (pull_acts 0 old.core.over)) (sym y.0) allowed;
        ports = λ w may x. let y = new_state old w g x in subst (λ u. port_state to (acted_all u (pull_acts 0 old.core.over))) (sym y.0) (is_state to (acted_all (new_view old.core) (pull_acts 0 old.core.over)) gt v s);
      };
      gives = record {
        turn = rw (was_held, now_held, pulls_give 0 old.core.over) turn;
        way = refl;
        inputs = refl;
        stands = pulls_stand 0 old.core.over;
        started = λ e. cc;
        more = [];
        grows = sym (append-nil old.log.moves);
        plan = refl;
        still = λ e. absurd (not_calm g.calm e);
      };
    })

-- ---- what stopped does nothing

stopped_state : (l : Merging) (v : View) → l.log.stuck ≡ true → port_state l v → Stopped l.core v
stopped_state l v stuck r = subst (λ b. port_state_in b l v) stuck r

ins_seen : (c : Call) (v : View) → length (seen c v).ins ≡ length v.ins
ins_seen starts v = refl
ins_seen (pulls j) v = refl
ins_seen (arrives i b) v = length-set v.ins i _
ins_seen (cancels j) v = refl

outs_seen : (c : Call) (v : View) → length (seen c v).outs ≡ length v.outs
outs_seen starts v = refl
outs_seen (pulls j) v = length-set v.outs j _
outs_seen (arrives i b) v = refl
outs_seen (cancels j) v = length-set v.outs j _

-- what comes to an input cancels none
came_open : (b : Item) → came b ≡ Cancelled → ⊥
came_open (item.Elem t) h = cc
came_open item.Ended h = cc
came_open (item.Failed c) h = cc

set_open : (xs : List InView) (j i : ℕ) (x : InView) → (x ≡ Cancelled → ⊥) → ((k : ℕ) → slice_get xs k ≡ Some Cancelled → ⊥) → slice_get (slice_set xs j x) i ≡ Some Cancelled → ⊥
set_open [] j i x n h e = cc
set_open (y ∷ ys) zero zero x n h e = n (inside x Cancelled e)
set_open (y ∷ ys) zero (suc i) x n h e = h (suc i) e
set_open (y ∷ ys) (suc j) zero x n h e = h zero e
set_open (y ∷ ys) (suc j) (suc i) x n h e = set_open ys j i x n (λ k. h (suc k)) e

seen_open : (c : Call) (v : View) → ((k : ℕ) → slice_get v.ins k ≡ Some Cancelled → ⊥) → (i : ℕ) → slice_get (seen c v).ins i ≡ Some Cancelled → ⊥
seen_open starts v h i e = h i e
seen_open (pulls j) v h i e = h i e
seen_open (arrives j b) v h i e = set_open v.ins j i (came b) (came_open b) h e
seen_open (cancels j) v h i e = h i e

pub stopped_does_nothing : (call : Call) (l : Merging) → l.log.stuck ≡ true → l.core.phase ≡ Open → Handled call l [] l
stopped_does_nothing call l stuck open_now =
    let h : held l ≡ stopped (next_move l.log.left) l.log.moves = ap (λ b. held_in b l) stuck in
    record {
      ports = record {
        allowed = λ v may r. tt;
        ports = λ v may r. subst (λ b. port_state_in b l (seen call v)) (sym stuck) (let s = stopped_state l v stuck r in record { phase_is = open_now; few = s.few; many = ins_seen call v ∙ s.many; one = outs_seen call v ∙ s.one; uncancelled = seen_open call v s.uncancelled });
      };
      gives = record { turn = rw h (refl, (refl, refl)); way = refl; inputs = refl; stands = tt; started = not_new open_now; more = []; grows = sym (append-nil l.log.moves); plan = refl; still = λ e. refl };
    }

-- ---- the room for one that comes

pub fits : (old mid : Merging) (i : ℕ) (t : Tree) → Going old → Meets (arrives i (item.Elem t)) (port_state old) → mid ≡ record old { log = record old.log { room = mid.log.room } } → length mid.core.queue < mid.core.room
fits old mid i t g m is =
    let f = found (arrives i (item.Elem t)) old g m in
    let here : slice_get old.core.over i ≡ Some false = here_now i old.core.over old.core.queue f.may in
    let free : of_port i old.core.queue ≡ [] = none_now i old.core.over old.core.queue f.may in
    let few : length old.core.queue < length old.core.over = fewer old.core.over old.core.queue i f.sound.whole.there f.sound.whole.once (slice_get_within old.core.over i false here) free in
    let room : length old.core.over ≤ old.core.room = f.sound.whole.roomy in
    subst (λ (l : Merging). length l.core.queue < l.core.room) (sym is) (omega (arith, few, room))

pub there_mid : (old mid : Merging) (i : ℕ) → mid ≡ record old { log = record old.log { room = mid.log.room } } → i < length old.core.over → i < length mid.core.over
there_mid old mid i is h = subst (λ (l : Merging). i < length l.core.over) (sym is) h

pub queue_mid : (old mid : Merging) → mid ≡ record old { log = record old.log { room = mid.log.room } } → PortsThere old.core.over old.core.queue → PortsThere mid.core.over mid.core.queue
queue_mid old mid is h = subst (λ (l : Merging). PortsThere l.core.over l.core.queue) (sym is) h

-- ---- what a handler finds of its own steps

roomed_from : (old mid : Merging) → mid ≡ record old { log = record old.log { room = mid.log.room } } → (mid.log.left ≡ old.log.left) × (mid.core ≡ old.core)
roomed_from old mid is = (ap (λ (l : Merging). l.log.left) is, ap (λ (l : Merging). l.core) is)

pub wanted_there : (old mid now : Merging) → mid ≡ record old { log = record old.log { room = mid.log.room } } → now ≡ wanted mid → PortsThere old.core.over old.core.queue → PortsThere now.core.over now.core.queue
wanted_there old mid now is w h = subst (λ (l : Merging). PortsThere l.core.over l.core.queue) (sym w) (queue_mid old mid is h)

pub asked_by : (old mid now new : Merging) (acts : List Act) → Going old → Meets (pulls 0) (port_state old) → mid ≡ record old { log = record old.log { room = mid.log.room } } → now ≡ wanted mid → AskServed now new acts → Handled (pulls 0) old acts new
asked_by old mid now new acts g m is w s = asked_now old g mid new acts is (found (pulls 0) old g m) (subst (λ (l : Merging). AskServed l new acts) w s)

pub pushed_by : (old mid new : Merging) (acts : List Act) (i : ℕ) (t : Tree) → Going old → Meets (arrives i (item.Elem t)) (port_state old) → mid ≡ record old { log = record old.log { room = mid.log.room } } → Took i t mid new acts → Handled (arrives i (item.Elem t)) old acts new
pushed_by old mid new acts i t g m is s = pushed_now old g mid new acts i t is (found (arrives i (item.Elem t)) old g m) s

pub finished_by : (old new : Merging) (acts : List Act) (i : ℕ) → Going old → Meets (arrives i item.Ended) (port_state old) → Ended i old new acts → Handled (arrives i item.Ended) old acts new
finished_by old new acts i g m e = finished_now old g new acts i (found (arrives i item.Ended) old g m) (port_open old i item.Ended g (λ x. x) m) e

-- ---- a failure

-- what a handler owes where an input failed
pub record Loses (old : Merging) (i : ℕ) (c : Cause) (acts : List Act) (new : Merging) : Type 0 where
  pub ports : Obeys (arrives i (item.Failed c)) (port_state old) (port_state new) acts
  pub gives : Turned (arrives i (item_by old.gathers (item.Failed c))) old acts new

-- what meets the port rules at a failure meets them at an end, and what obeys them at an end obeys them at a failure, since a stage knows
-- the same of its ports after both
pub meets_end : (i : ℕ) (c : Cause) (P : View → Type 0) → Meets (arrives i (item.Failed c)) P → Meets (arrives i item.Ended) P
meets_end i c P m = (m.0, (m.1.0, m.1.1))

obeys_failure : (i : ℕ) (c : Cause) (P Q : View → Type 0) (acts : List Act) → Obeys (arrives i item.Ended) P Q acts → Obeys (arrives i (item.Failed c)) P Q acts
obeys_failure i c P Q acts o = record { allowed = o.allowed; ports = o.ports }

pub lost_on : (old new : Merging) (acts : List Act) (i : ℕ) (c : Cause) → Going old → Meets (arrives i (item.Failed c)) (port_state old) → InputLost i c old new acts → Loses old i c acts new
lost_on old new acts i c g m (taken_off gathers e) =
    let r = finished_by old new acts i g (meets_end i c (port_state old) m) e in
    record {
      ports = obeys_failure i c (port_state old) (port_state new) acts r.ports;
      gives = subst (λ b. Turned (arrives i (item_by b (item.Failed c))) old acts new) (sym gathers) r.gives;
    }
lost_on old new acts i c g m (gives_up not_so does) =
    let r = failed_on old new acts i c g m does in
    record { ports = r.ports; gives = subst (λ b. Turned (arrives i (item_by b (item.Failed c))) old acts new) (sym not_so) r.gives }

-- one that stopped takes no notice of it
pub stopped_loses : (old : Merging) (i : ℕ) (c : Cause) → old.log.stuck ≡ true → old.core.phase ≡ Open → Loses old i c [] old
stopped_loses old i c stuck open_now = record {
  ports = (stopped_does_nothing (arrives i (item.Failed c)) old stuck open_now).ports;
  gives = (stopped_does_nothing (arrives i (item_by old.gathers (item.Failed c))) old stuck open_now).gives;
}

-- what serve does with what is chosen
module _ (old chose unasked : Merging) (x : Queued) (some : goes_next (next_move old.log.left) old.core.queue ≡ Some (x, chose.core.queue)) (is : chose ≡ record old { core = record old.core { queue = chose.core.queue } }) (off : unasked ≡ record chose { core = record chose.core { asked = false } }) where
  both : unasked ≡ record old { core = record old.core { queue = chose.core.queue; asked = false } }
  both = off ∙ ap (λ (l : Merging). record l { core = record l.core { asked = false } }) is

  pub may_note : MayNote x.port unasked.log.left
  may_note = subst (λ (l : Merging). MayNote x.port l.log.left) (sym both) (choice old.log.left old.core.queue x chose.core.queue some).may

  pub port_is_there : PortsThere old.core.over old.core.queue → x.port < length unasked.core.over
  port_is_there h = subst (λ (l : Merging). x.port < length l.core.over) (sym both) ((choice old.log.left old.core.queue x chose.core.queue some).out.there old.core.over h).0

  pub served_one : (new : Merging) (acts : List Act) → HandedOn x.port x.item unasked new acts → AskServed old new acts
  served_one new acts h = gives x chose.core.queue some (subst (λ (l : Merging). HandedOn x.port x.item l new acts) both h)

-- ---- the order

ends_queue : (b : List Act) (mid new : Merging) (acts : List Act) → EndsIfDone b mid new acts → (new.core.queue ≡ mid.core.queue) × (new.log.moves ≡ mid.log.moves)
ends_queue b mid new acts (done x y k is z) = (ap (λ (m : Merging). m.core.queue) is, ap (λ (m : Merging). m.log.moves) is)
ends_queue b mid new acts (opens x is z) = (ap (λ (m : Merging). m.core.queue) is, ap (λ (m : Merging). m.log.moves) is)
ends_queue b mid new acts (more x is z) = (ap (λ (m : Merging). m.core.queue) is, ap (λ (m : Merging). m.log.moves) is)
ends_queue b mid new acts (awaits x is z) = (ap (λ (m : Merging). m.core.queue) is, ap (λ (m : Merging). m.log.moves) is)

again_queue : (i : ℕ) (b : List Act) (mid new : Merging) (acts : List Act) → Again i b mid new acts → (new.core.queue ≡ mid.core.queue) × (new.log.moves ≡ mid.log.moves)
again_queue i b mid new acts (over x e) = ends_queue b mid new acts e
again_queue i b mid new acts (still x is z) = (ap (λ (m : Merging). m.core.queue) is, ap (λ (m : Merging). m.log.moves) is)

-- of what is chosen there is one, with the others
one_choice : (x y : Queued) (q r : List Queued) → ◌≡◌ {A = Option (Queued × List Queued)} (Some (x, q)) (Some (y, r)) → (x.port ≡ y.port) × (q ≡ r)
one_choice x y q r e =
    let p : (x, q) ≡ (y, r) = inside (x, q) (y, r) e in
    (ap (λ (u : Queued × List Queued). u.0.port) p, ap (λ (u : Queued × List Queued). u.1) p)

served_out : (to new : Merging) (acts : List Act) → AskServed to new acts → (x : Queued) (q : List Queued) → goes_next (next_move to.log.left) to.core.queue ≡ Some (x, q) → (new.core.queue ≡ q) × (new.log.moves ≡ to.log.moves ++ x.port ∷ [])
served_out to new acts (gives y r e handed) x q at =
    let h = one_choice y x r q (sym e ∙ at) in
    let k = again_queue y.port (Push 0 y.item ∷ []) (record { log = logged y.port to.log; gathers = to.gathers; core = record to.core { queue = r; asked = false } }) new acts handed in
    (k.0 ∙ h.1, k.1 ∙ ap (λ n. to.log.moves ++ n ∷ []) h.0)
served_out to new acts (keeps e l to_is a) x q at = let z : Some (x, q) ≡ None = sym at ∙ e in cc
served_out to new acts (halts e l to_is a) x q at = let z : Some (x, q) ≡ None = sym at ∙ e in cc

pub chosen_out : (old mid now new : Merging) (acts : List Act) → mid ≡ record old { log = record old.log { room = mid.log.room } } → now ≡ wanted mid → AskServed now new acts → ChosenOut old new
chosen_out old mid now new acts is w s x q calm at =
    served_out (record { log = record old.log { room = mid.log.room }; gathers = old.gathers; core = record old.core { asked = true } }) new acts (subst (λ (l : Merging). AskServed l new acts) (w ∙ ap (λ (l : Merging). wanted l) is) s) x q at

pub last_in : (old mid new : Merging) (acts : List Act) (i : ℕ) (t : Tree) → mid ≡ record old { log = record old.log { room = mid.log.room } } → Took i t mid new acts → LastIn i t old new
last_in old mid new acts i t is g calm which = by_took (subst (λ (l : Merging). Took i t l new acts) is g) which
  where
    by_took : Took i t (record old { log = record old.log { room = mid.log.room } }) new acts → (old.core.asked ≡ false) ⊎ (passes_at_once (next_move old.log.left) i ≡ false) → new.core.queue ≡ old.core.queue ++ queued i t ∷ []
    by_took (passed on one handed) (inl off) = let z : true ≡ false = sym on ∙ off in cc
    by_took (passed on one handed) (inr other) = let z : true ≡ false = sym one ∙ other in cc
    by_took (early on other to_is a) k = ap (λ (m : Merging). m.core.queue) to_is
    by_took (waited off to_is a) k = ap (λ (m : Merging). m.core.queue) to_is

-- ---- one that stopped is as it was

pub stopped_gives_none : (l : Merging) → l.log.stuck ≡ true → ChosenOut l l
stopped_gives_none l stuck x q calm at = let z : true ≡ false = sym stuck ∙ calm in cc

pub stopped_stores_none : (l : Merging) (i : ℕ) (t : Tree) → l.log.stuck ≡ true → LastIn i t l l
stopped_stores_none l i t stuck calm which = let z : true ≡ false = sym stuck ∙ calm in cc

-- an element that passes may be noted
pub passing_note : (old now : Merging) (i : ℕ) → passes_at_once (next_move old.log.left) i ≡ true → now ≡ record old { core = record old.core { asked = false } } → MayNote i now.log.left
passing_note old now i e is = subst (λ (l : Merging). MayNote i l.log.left) (sym is) (passing_may old.log.left i e)

-- where an input was lost a move is to be made
pub lost_move : (left : Option (List ℕ)) (bs : List Bool) → lost (next_move left) bs ≡ true → IsMove (next_move left)
lost_move None bs e = cc
lost_move (Some []) bs e = cc
lost_move (Some (m ∷ l)) bs e = tt
