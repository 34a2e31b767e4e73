-- What each handler of a buffer that drops does keeps its port state, and is a turn of its law.
use Rattle.std.specs.Prelude.{◌≢◌, ◌<◌, ◌≤◌, ◌^◌, Option, None, Some, is_some}
use Rattle.std.proofs.Common.{◌≡◌, ℕ, zero, suc, ◌+◌, Bool, true, false, List, [], ◌∷◌, ◌++◌, length, refl, sym, ap, ◌∙◌, subst, arith, append-nil}
use Rattle.std.specs.Option.{option_to_list}
use Rattle.std.proofs.lemmas.List.{length-append}
use Rattle.elem_core.specs.Tree.{Tree}
use Rattle.elem_core.specs.declared.why.Cause.{Cause}
use Rattle.elem_core.specs.declared.item.Item.{Item}
use Rattle.elem_core.specs.declared.item.Item.TheVariants as item
use Rattle.stream_model.specs.Outlook.{End, unended, ended, failed}
use Rattle.stream_model.specs.FanIn.{Inflow}
use Rattle.stream_model.specs.declared.kind.Policy.{Policy}
use Rattle.stream_model.specs.declared.kind.Policy.TheVariants.{Backpressure}
use Rattle.port_core.specs.Picks.{planned, next_move}
use Rattle.port_core.specs.declared.act.Act.{Act}
use Rattle.port_core.specs.declared.act.Act.TheVariants.{Push, FailOut}
use Rattle.port_core.specs.declared.view.InView.{InView}
use Rattle.port_core.specs.declared.view.InView.TheVariants.{Pulled, Cancelled}
use Rattle.port_core.specs.declared.view.OutView.{OutView}
use Rattle.port_core.specs.declared.view.OutView.TheVariants as outlet
use Rattle.port_core.specs.View.{View, OneOneOf, IsInOpen, ActsAllowed, acted_all}
use Rattle.port_core.specs.Asking.{PullsStand}
use Rattle.port_core.specs.Call.{Call, starts, pulls, arrives, cancels, came, CallAllowed, seen, Obeys, Meets, given_on}
use Rattle.stage_core.specs.Inflows.{nothing_came, joined, joined_at, coming}
use Rattle.stage_core.specs.Row.{BothClosed}
use Rattle.stage_core.specs.Seats.{wish}
use Rattle.stage_core.specs.declared.phase.Phase.TheVariants.{New, Open, Closed}
use Rattle.stage_dropping.specs.Drops as law
use Rattle.stage_dropping.specs.Drops.{buffer_at, DropHeld, holds, BufferStep, DropStep, DropTurnAt, Obligation, serves, stopped, OwesAt, overflow_of}
use Rattle.stage_dropping.specs.Droppings.{Dropping, NamesMoves, lost, in_of, DropKnows, OpenBuffer, Rested, Fresh, drop_at, Halted, drop_in, port_state, pending, held_by, held_in, held_of, Turned, cancel_by, TakesIn, takes, overflows, leaves, Giving, gives, keeps, Serving, take_first, give_first, Settling}
use Rattle.stage_dropping.proofs.DropActions.{one, shown, not_both, not_new, none_some, From, Underway, StepsTo, Done, Ready, settles, settled}

-- what a handler owes
pub record Handled (call : Call) (old : Dropping) (acts : List Act) (new : Dropping) : Type 0 where
  pub ports : Obeys call (port_state old) (port_state new) acts
  pub gives : Turned call old acts new

-- ---- where a call finds it

-- the two that a handler finds: it is open, and has not stopped
pub record Going (l : Dropping) : Type 0 where
  pub phase_is : l.phase ≡ Open
  pub calm : l.log.stuck ≡ false

open_at : (l : Dropping) (x : InView) (y : OutView) → Going l → drop_in l.log.stuck l x y → DropKnows l x y × Rested l
open_at l x y g r = subst (λ p. drop_at l p x y) g.phase_is (subst (λ b. drop_in b l x y) g.calm r)

-- what is known of its ports
shown_lists : (l : Dropping) (xs : List InView) (ys : List OutView) → Going l → OneOneOf (drop_in l.log.stuck l) xs ys → (◌≡◌ {A = View} (record { ins = xs; outs = ys }) (shown l)) × Rested l
shown_lists l (x ∷ []) (y ∷ []) g r =
    let k = open_at l x y g r in
    (ap (λ (i : InView). one i y) k.0.input ∙ ap (λ (o : OutView). one (in_of l.after l.pulled) o) k.0.output, k.1)
shown_lists l [] ys g r = absurd r
shown_lists l (x ∷ []) [] g r = absurd r
shown_lists l (x ∷ []) (y ∷ z ∷ ys) g r = absurd r
shown_lists l (x ∷ t ∷ xs) ys g r = absurd r

pub record Found (call : Call) (l : Dropping) : Type 0 where
  pub may : CallAllowed call (shown l)
  pub rested : Rested l

pub found : (call : Call) (l : Dropping) → Going l → Meets call (port_state l) → Found call l
found call l g m =
    let k = shown_lists l m.0.ins m.0.outs g m.1.1 in
    record { may = subst (λ w. CallAllowed call w) k.0 m.1.0; rested = k.1 }

-- ---- from what is done to what a handler owes

abbrev from : Call → Dropping → From
from call l = record { node = l.node; policy = l.policy; size = l.size; came = l.came; moves = l.log.moves; held = l.held; waits = joined (pending l) (coming call 0); plan = planned l.log }

-- a call that is no cancel
abbrev Turns : Call → Dropping → Type 0
Turns call l = (out : List Item) (h : DropHeld) → DropStep l.node l.policy l.size l.came l.log.moves l.held (joined (pending l) (coming call 0)) out h → DropTurnAt l.node l.policy l.size call (holds l.came l.log.moves l.held (pending l)) out h

owes_by : (call : Call) (l : Dropping) (out : List Item) (o : Obligation) → Turns call l → StepsTo (from call l) out o → OwesAt l.node l.policy l.size call (serves (holds l.came l.log.moves l.held (pending l))) out o
owes_by call l out (serves h) turns t = turns out h t
owes_by call l out (stopped next now) turns t = record { then = t.0; items = t.1.0; left = t.1.1.0; turn = turns out (holds t.0 now t.1.0 t.1.1.0) t.1.1.1.0; lost = t.1.1.1.1 }

-- where it serves
record Serves (l : Dropping) : Type 0 where
  calm : l.log.stuck ≡ false
  held_is : held_of l ≡ serves (holds l.came l.log.moves l.held (pending l))
  sees : (v : View) → port_state l v → v ≡ shown l

serves_open : (l : Dropping) → Going l → Serves l
serves_open l g = record {
  calm = g.calm;
  held_is = ap (λ b. held_in b l) g.calm ∙ ap (λ p. serves (held_by p l)) g.phase_is;
  sees = λ v r. (shown_lists l v.ins v.outs g r).0;
}

handled : (call : Call) (old : Dropping) (acts : List Act) (new : Dropping) → Serves old → Turns call old → Done (seen call (shown old)) (from call old) acts new → Handled call old acts new
handled call old acts new s turns d = record {
  ports = record {
    allowed = λ v may r. subst (λ w. ActsAllowed (seen call w) acts) (sym (s.sees v r)) d.allowed;
    ports = λ v may r. subst (λ w. port_state new (acted_all (seen call w) acts)) (sym (s.sees v r)) d.ports;
  };
  gives = record {
    turn = subst (λ o. OwesAt old.node old.policy old.size call o (given_on 0 acts) (held_of new)) (sym s.held_is) (owes_by call old (given_on 0 acts) (held_of new) turns d.turn);
    node = d.node;
    policy = d.policy;
    size = d.size;
    stands = d.stands;
    started = d.started;
    more = d.more;
    grows = d.grows;
    plan = d.plan;
    still = λ e. absurd (not_both e s.calm);
  };
}

-- nothing was done yet
module _ (call : Call) (old mid : Dropping) where
  record Enters : Type 0 where
    node : mid.node ≡ old.node
    policy : mid.policy ≡ old.policy
    size : mid.size ≡ old.size
    came : mid.came ≡ old.came
    moves : mid.log.moves ≡ old.log.moves
    held : mid.held ≡ old.held
    waits : pending mid ≡ joined (pending old) (coming call 0)
    plan : planned mid.log ≡ planned old.log
    sees : seen call (shown old) ≡ shown mid
    whole : OpenBuffer mid

  no_step : (p : Policy) (n came : ℕ) (moves : List ℕ) (held : List Tree) (w : Inflow) → BufferStep p n came moves held w [] came moves held w
  no_step p n came moves held w = record { more = []; taken = []; parts = refl; same = refl; now_is = sym (append-nil moves); then_is = omega arith; moved = λ g. ap (λ (l : List Tree). buffer_at l held came) (sym (append-nil g)) }

  enters : Enters → Underway (seen call (shown old)) (from call old) [] mid
  enters e = record {
    node = e.node;
    policy = e.policy;
    size = e.size;
    allowed = tt;
    shows = e.sees;
    whole = e.whole;
    given = [];
    step =
        subst (λ (k : ℕ). BufferStep mid.policy mid.size k old.log.moves old.held (joined (pending old) (coming call 0)) [] mid.came mid.log.moves mid.held (pending mid)) e.came
        (subst (λ (ms : List ℕ). BufferStep mid.policy mid.size mid.came ms old.held (joined (pending old) (coming call 0)) [] mid.came mid.log.moves mid.held (pending mid)) e.moves
        (subst (λ (l : List Tree). BufferStep mid.policy mid.size mid.came mid.log.moves l (joined (pending old) (coming call 0)) [] mid.came mid.log.moves mid.held (pending mid)) e.held
        (subst (λ (w : Inflow). BufferStep mid.policy mid.size mid.came mid.log.moves mid.held w [] mid.came mid.log.moves mid.held (pending mid)) e.waits (no_step mid.policy mid.size mid.came mid.log.moves mid.held (pending mid)))));
    out_is = refl;
    pushes = tt;
    plan = e.plan;
  }

joined_none : (l : List Tree) (e : End) → joined_at e l nothing_came ≡ record { list = l; end = e }
joined_none l unended = ap (λ (x : List Tree). record { list = x; end = unended }) (append-nil l)
joined_none l ended = refl
joined_none l (failed c) = refl

-- ---- the start

-- a new one, which has not stopped
pub record Waiting (l : Dropping) : Type 0 where
  pub phase_is : l.phase ≡ New
  pub calm : l.log.stuck ≡ false

new_calm : (l : Dropping) (xs : List InView) (ys : List OutView) → l.phase ≡ New → OneOneOf (drop_in l.log.stuck l) xs ys → l.log.stuck ≡ false
new_calm l (x ∷ []) (y ∷ []) h r = by_stuck l.log.stuck refl r
  where
    by_stuck : (b : Bool) → l.log.stuck ≡ b → drop_in b l x y → l.log.stuck ≡ false
    by_stuck false e k = e
    by_stuck true e k = absurd (let z : New ≡ Open = sym h ∙ k.phase_is in cc)
new_calm l [] ys h r = absurd r
new_calm l (x ∷ []) [] h r = absurd r
new_calm l (x ∷ []) (y ∷ z ∷ ys) h r = absurd r
new_calm l (x ∷ t ∷ xs) ys h r = absurd r

pub new_lists : (l : Dropping) (xs : List InView) (ys : List OutView) → Waiting l → OneOneOf (drop_in l.log.stuck l) xs ys → (◌≡◌ {A = View} (record { ins = xs; outs = ys }) (shown l)) × Fresh l
new_lists l (x ∷ []) (y ∷ []) w r =
    let k = subst (λ p. drop_at l p x y) w.phase_is (subst (λ b. drop_in b l x y) w.calm r) in
    (ap (λ (i : InView). one i y) k.0.input ∙ ap (λ (o : OutView). one (in_of l.after l.pulled) o) k.0.output, k.1)
new_lists l [] ys w r = absurd r
new_lists l (x ∷ []) [] w r = absurd r
new_lists l (x ∷ []) (y ∷ z ∷ ys) w r = absurd r
new_lists l (x ∷ t ∷ xs) ys w r = absurd r

pub new_waits : (l : Dropping) (v : View) → l.phase ≡ New → port_state l v → Waiting l
new_waits l v h r = record { phase_is = h; calm = new_calm l v.ins v.outs h r }

serves_new : (l : Dropping) → Waiting l → Serves l
serves_new l w = record {
  calm = w.calm;
  held_is = ap (λ b. held_in b l) w.calm ∙ ap (λ p. serves (held_by p l)) w.phase_is;
  sees = λ v r. (new_lists l v.ins v.outs w r).0;
}

pub starts_so : (old mid new : Dropping) (before acts : List Act) → old.phase ≡ New → Meets starts (port_state old) → mid ≡ record old { phase = Open } → before ≡ [] → Settling mid new before acts → Handled starts old acts new
starts_so old mid new before acts h m is none settling =
    let w = new_waits old m.0 h m.1.1 in
    let k = (new_lists old m.0.ins m.0.outs w m.1.1).1 in
    let s : Dropping = record old { phase = Open } in
    let unwaited : is_some old.waiting ≡ true → ⊥ = λ e. none_some old.waiting k.none e in
    let u : Underway (seen starts (shown old)) (from starts old) [] s = enters starts old s (record {
      node = refl;
      policy = refl;
      size = refl;
      came = refl;
      moves = refl;
      held = refl;
      waits = sym (joined_none (option_to_list old.waiting) old.after);
      plan = refl;
      sees = refl;
      whole = record {
        phase_is = refl;
        calm = k.calm;
        drops = k.drops;
        some = k.some;
        few = rw k.empty (omega arith);
        fits = λ e. absurd (unwaited e);
        named = k.named;
        quiet = λ e. absurd (unwaited e);
      };
    }) in
    let r : Ready s = record { takes_none = λ e. k.none; gives_none = λ on e. k.empty } in
    let q : Settling s new [] acts = subst (λ (b : List Act). Settling s new b acts) none (subst (λ (l : Dropping). Settling l new before acts) is settling) in
    handled starts old acts new (serves_new old w) (λ out h t. t) (settles (seen starts (shown old)) (from starts old) [] s u r new acts q)

-- ---- the output is asked

-- the room that was made changes nothing of it
abbrev roomed : Dropping → ℕ → Dropping
roomed l n = record l { log = record l.log { room = n } }

pub asked_so : (old mid want s new : Dropping) (acts all : List Act) → Going old → Meets (pulls 0) (port_state old) → mid ≡ record old { log = record old.log { room = mid.log.room } } → want ≡ record mid { asked = true }
    → Serving want s acts → Settling s new acts all → Handled (pulls 0) old all new
asked_so old mid want s new acts all g m is wanted serving settling =
    let f = found (pulls 0) old g m in
    let w = f.rested.whole in
    let t : Dropping = record (roomed old mid.log.room) { asked = true } in
    let same : want ≡ t = wanted ∙ ap (λ (l : Dropping). record l { asked = true }) is in
    let u : Underway (seen (pulls 0) (shown old)) (from (pulls 0) old) [] t = enters (pulls 0) old t (record {
      node = refl;
      policy = refl;
      size = refl;
      came = refl;
      moves = refl;
      held = refl;
      waits = sym (joined_none (option_to_list old.waiting) old.after);
      plan = refl;
      sees = refl;
      whole = record { phase_is = w.phase_is; calm = w.calm; drops = w.drops; some = w.some; few = w.few; fits = w.fits; named = w.named; quiet = w.quiet };
    }) in
    handled (pulls 0) old all new (serves_open old g) (λ out h k. k)
    (settled (seen (pulls 0) (shown old)) (from (pulls 0) old) t u s acts (subst (λ (l : Dropping). Serving l s acts) same serving) new all settling)

-- what serve wants of it
pub served_fits : (call : Call) (old mid want : Dropping) → Going old → Meets call (port_state old) → mid ≡ record old { log = record old.log { room = mid.log.room } } → want ≡ record mid { asked = true }
    → ((want.policy ≢ Backpressure) × (0 < want.size)) × ((length want.held ≤ want.size) × ((is_some want.waiting ≡ true → want.came + 1 < 2 ^ 64) × NamesMoves want.log.left))
served_fits call old mid want g m is wanted =
    let w = (found call old g m).rested.whole in
    let same : want ≡ record (roomed old mid.log.room) { asked = true } = wanted ∙ ap (λ (l : Dropping). record l { asked = true }) is in
    subst (λ (l : Dropping). ((l.policy ≢ Backpressure) × (0 < l.size)) × ((length l.held ≤ l.size) × ((is_some l.waiting ≡ true → l.came + 1 < 2 ^ 64) × NamesMoves l.log.left))) (sym same) ((w.drops, w.some), (w.few, (w.fits, w.named)))

-- ---- an element came

pub pulled_going : (e : End) (q : Bool) → in_of e q ≡ Pulled → (e ≡ unended) × (q ≡ true)
pulled_going unended true h = (refl, refl)
pulled_going unended false h = cc
pulled_going ended q h = cc
pulled_going (failed c) q h = cc

pub none_waiting : (w : Option Tree) (q : Bool) → (is_some w ≡ true → q ≡ false) → q ≡ true → w ≡ None
none_waiting None q quiet on = refl
none_waiting (Some t) q quiet on = absurd (not_both on (quiet refl))

pub pushed_so : (old mid stored s new : Dropping) (acts all : List Act) (t : Tree) → Going old → Meets (arrives 0 (item.Elem t)) (port_state old) → old.came + 1 < 2 ^ 64 → mid ≡ record old { log = record old.log { room = mid.log.room } }
    → stored ≡ record mid { waiting = Some t; pulled = false } → Serving stored s acts → Settling s new acts all → Handled (arrives 0 (item.Elem t)) old all new
pushed_so old mid stored s new acts all t g m fits is stores serving settling =
    let f = found (arrives 0 (item.Elem t)) old g m in
    let w = f.rested.whole in
    let p = pulled_going old.after old.pulled f.may in
    let none = none_waiting old.waiting old.pulled w.quiet p.1 in
    let call : Call = arrives 0 (item.Elem t) in
    let k : Dropping = record (roomed old mid.log.room) { waiting = Some t; pulled = false } in
    let same : stored ≡ k = stores ∙ ap (λ (l : Dropping). record l { waiting = Some t; pulled = false }) is in
    let came_is : Inflow = record { list = t ∷ []; end = unended } in
    let u : Underway (seen call (shown old)) (from call old) [] k = enters call old k (record {
      node = refl;
      policy = refl;
      size = refl;
      came = refl;
      moves = refl;
      held = refl;
      waits = ap (λ (e : End). record { list = t ∷ []; end = e }) p.0 ∙ ap (λ (o : Option Tree). joined_at unended (option_to_list o) came_is) (sym none) ∙ ap (λ (e : End). joined_at e (option_to_list old.waiting) came_is) (sym p.0);
      plan = refl;
      sees = ap (λ (e : End). one (in_of e false) (wish old.asked)) (sym p.0);
      whole = record { phase_is = w.phase_is; calm = w.calm; drops = w.drops; some = w.some; few = w.few; fits = λ e. fits; named = w.named; quiet = λ e. refl };
    }) in
    handled call old all new (serves_open old g) (λ out h x. x)
    (settled (seen call (shown old)) (from call old) k u s acts (subst (λ (l : Dropping). Serving l s acts) same serving) new all settling)

-- ---- the input is over

open_going : (e : End) (q : Bool) → IsInOpen (in_of e q) → e ≡ unended
open_going unended q h = refl
open_going ended q h = absurd h
open_going (failed c) q h = absurd h

-- an end that is no element
module _ (old new : Dropping) (acts : List Act) (g : Going old) where
  abbrev with_end : End → Dropping
  with_end e = record old { after = e }

  over_so : (call : Call) (e : End) → Found call old → Turns call old → old.after ≡ unended → coming call 0 ≡ record { list = []; end = e } → seen call (shown old) ≡ shown (with_end e) → Settling (with_end e) new [] acts → Handled call old acts new
  over_so call e f turns was brings sees settling =
      let w = f.rested.whole in
      let k : Dropping = with_end e in
      let u : Underway (seen call (shown old)) (from call old) [] k = enters call old k (record {
        node = refl;
        policy = refl;
        size = refl;
        came = refl;
        moves = refl;
        held = refl;
        waits = ap (λ (l : List Tree). record { list = l; end = e }) (sym (append-nil (option_to_list old.waiting))) ∙ ap (λ (x : End). joined_at x (option_to_list old.waiting) (record { list = []; end = e })) (sym was)
            ∙ ap (λ (c : Inflow). joined (pending old) c) (sym brings);
        plan = refl;
        sees = sees;
        whole = record { phase_is = w.phase_is; calm = w.calm; drops = w.drops; some = w.some; few = w.few; fits = w.fits; named = w.named; quiet = w.quiet };
      }) in
      let r : Ready k = record { takes_none = f.rested.takes; gives_none = f.rested.gives } in
      handled call old acts new (serves_open old g) turns (settles (seen call (shown old)) (from call old) [] k u r new acts settling)

  pub finished_so : Meets (arrives 0 item.Ended) (port_state old) → Settling (with_end ended) new [] acts → Handled (arrives 0 item.Ended) old acts new
  finished_so m settling =
      let f = found (arrives 0 item.Ended) old g m in
      over_so (arrives 0 item.Ended) ended f (λ out h t. t) (open_going old.after old.pulled f.may) refl refl settling

  pub failed_so : (c : Cause) → Meets (arrives 0 (item.Failed c)) (port_state old) → Settling (with_end (failed c)) new [] acts → Handled (arrives 0 (item.Failed c)) old acts new
  failed_so c m settling =
      let f = found (arrives 0 (item.Failed c)) old g m in
      over_so (arrives 0 (item.Failed c)) (failed c) f (λ out h t. t) (open_going old.after old.pulled f.may) refl refl settling

-- ---- the output was cancelled

leave_allowed : (e : End) (q : Bool) → ActsAllowed (one (in_of e q) outlet.Cancelled) (cancel_by e)
leave_allowed unended true = (tt, tt)
leave_allowed unended false = (tt, tt)
leave_allowed ended q = tt
leave_allowed (failed c) q = tt

leave_closes : (e : End) (q : Bool) → OneOneOf BothClosed (acted_all (one (in_of e q) outlet.Cancelled) (cancel_by e)).ins (acted_all (one (in_of e q) outlet.Cancelled) (cancel_by e)).outs
leave_closes unended true = tt
leave_closes unended false = tt
leave_closes ended q = tt
leave_closes (failed c) q = tt

leave_gives : (e : End) → given_on 0 (cancel_by e) ≡ []
leave_gives unended = refl
leave_gives ended = refl
leave_gives (failed c) = refl

leave_stands : (e : End) → PullsStand (cancel_by e)
leave_stands unended = tt
leave_stands ended = tt
leave_stands (failed c) = tt

pub left_so : (old new : Dropping) (acts : List Act) → Going old → Meets (cancels 0) (port_state old) → new ≡ record old { phase = Closed } → acts ≡ cancel_by old.after → Handled (cancels 0) old acts new
left_so old new acts g m to_is acts_are =
    let s = serves_open old g in
    let k : Dropping = record old { phase = Closed } in
    let all : List Act = cancel_by old.after in
    let out : OwesAt old.node old.policy old.size (cancels 0) (serves (holds old.came old.log.moves old.held (pending old))) (given_on 0 all) (held_in false k) = (leave_gives old.after, refl) in
    let states : port_state k (acted_all (seen (cancels 0) (shown old)) all) = closed_of k (acted_all (one (in_of old.after old.pulled) outlet.Cancelled) all).ins (acted_all (one (in_of old.after old.pulled) outlet.Cancelled) all).outs refl g.calm (leave_closes old.after old.pulled) in
    rw (to_is, acts_are) (record {
      ports = record {
        allowed = λ v may r. subst (λ w. ActsAllowed (seen (cancels 0) w) all) (sym (s.sees v r)) (leave_allowed old.after old.pulled);
        ports = λ v may r. subst (λ w. port_state k (acted_all (seen (cancels 0) w) all)) (sym (s.sees v r)) states;
      };
      gives = record {
        turn = subst (λ o. OwesAt old.node old.policy old.size (cancels 0) o (given_on 0 all) (held_of k)) (sym s.held_is)
            (subst (λ b. OwesAt old.node old.policy old.size (cancels 0) (serves (holds old.came old.log.moves old.held (pending old))) (given_on 0 all) (held_in b k)) (sym g.calm) out);
        node = refl;
        policy = refl;
        size = refl;
        stands = leave_stands old.after;
        started = λ e. cc;
        more = [];
        grows = sym (append-nil old.log.moves);
        plan = refl;
        still = λ e. absurd (not_both e g.calm);
      };
    })
  where
    closed_of : (new : Dropping) (xs : List InView) (ys : List OutView) → new.phase ≡ Closed → new.log.stuck ≡ false → OneOneOf BothClosed xs ys → OneOneOf (drop_in new.log.stuck new) xs ys
    closed_of new (x ∷ []) (y ∷ []) p calm h = subst (λ b. drop_in b new x y) (sym calm) (subst (λ q. drop_at new q x y) (sym p) h)
    closed_of new [] ys p calm h = absurd h
    closed_of new (x ∷ []) [] p calm h = absurd h
    closed_of new (x ∷ []) (y ∷ z ∷ ys) p calm h = absurd h
    closed_of new (x ∷ t ∷ xs) ys p calm h = absurd h

-- ---- one that stopped does nothing

came_uncancelled : (b : Item) → came b ≡ Cancelled → ⊥
came_uncancelled (item.Elem t) h = cc
came_uncancelled item.Ended h = cc
came_uncancelled (item.Failed c) h = cc

still_seen : (call : Call) (l : Dropping) (x : InView) (y : OutView) → Halted l x y → OneOneOf (drop_in true l) (seen call (one x y)).ins (seen call (one x y)).outs
still_seen starts l x y h = h
still_seen (pulls zero) l x y h = record { phase_is = h.phase_is; uncancelled = h.uncancelled }
still_seen (pulls (suc j)) l x y h = h
still_seen (cancels zero) l x y h = record { phase_is = h.phase_is; uncancelled = h.uncancelled }
still_seen (cancels (suc j)) l x y h = h
still_seen (arrives (suc i) b) l x y h = h
still_seen (arrives zero b) l x y h = record { phase_is = h.phase_is; uncancelled = came_uncancelled b }

still_lists : (call : Call) (l : Dropping) (xs : List InView) (ys : List OutView) → l.log.stuck ≡ true → OneOneOf (drop_in l.log.stuck l) xs ys → port_state l (seen call (record { ins = xs; outs = ys }))
still_lists call l (x ∷ []) (y ∷ []) on r =
    subst (λ b. OneOneOf (drop_in b l) (seen call (one x y)).ins (seen call (one x y)).outs) (sym on) (still_seen call l x y (subst (λ b. drop_in b l x y) on r))
still_lists call l [] ys on r = absurd r
still_lists call l (x ∷ []) [] on r = absurd r
still_lists call l (x ∷ []) (y ∷ z ∷ ys) on r = absurd r
still_lists call l (x ∷ t ∷ xs) ys on r = absurd r

pub stays_still : (call : Call) (old : Dropping) → old.log.stuck ≡ true → old.phase ≡ Open → Handled call old [] old
stays_still call old on o =
    let h : held_of old ≡ stopped (next_move old.log.left) old.log.moves = ap (λ b. held_in b old) on in
    record {
      ports = record { allowed = λ v may r. tt; ports = λ v may r. still_lists call old v.ins v.outs on r };
      gives = record {
        turn = rw h (refl, (refl, refl));
        node = refl;
        policy = refl;
        size = refl;
        stands = tt;
        started = λ e. not_new o e;
        more = [];
        grows = sym (append-nil old.log.moves);
        plan = refl;
        still = λ e. refl;
      };
    }

-- ---- as the handlers know it

pub finished_by : (old new : Dropping) (acts : List Act) → old.phase ≡ Open → Meets (arrives 0 item.Ended) (port_state old) → (old.log.stuck ≡ true → (new ≡ old) × (acts ≡ [])) → (old.log.stuck ≡ false → Settling (record old { after = ended }) new [] acts)
    → Handled (arrives 0 item.Ended) old acts new
finished_by old new acts o m still settles_so = by_flag old.log.stuck refl
  where
    by_flag : (b : Bool) → old.log.stuck ≡ b → Handled (arrives 0 item.Ended) old acts new
    by_flag true e = rw ((still e).0, (still e).1) (stays_still (arrives 0 item.Ended) old e o)
    by_flag false e = finished_so old new acts (record { phase_is = o; calm = e }) m (settles_so e)

pub failed_by : (old new : Dropping) (acts : List Act) (c : Cause) → old.phase ≡ Open → Meets (arrives 0 (item.Failed c)) (port_state old) → (old.log.stuck ≡ true → (new ≡ old) × (acts ≡ [])) → (old.log.stuck ≡ false → Settling (record old { after = failed c }) new [] acts)
    → Handled (arrives 0 (item.Failed c)) old acts new
failed_by old new acts c o m still settles_so = by_flag old.log.stuck refl
  where
    by_flag : (b : Bool) → old.log.stuck ≡ b → Handled (arrives 0 (item.Failed c)) old acts new
    by_flag true e = rw ((still e).0, (still e).1) (stays_still (arrives 0 (item.Failed c)) old e o)
    by_flag false e = failed_so old new acts (record { phase_is = o; calm = e }) c m (settles_so e)

-- ---- how many actions there are

cancel_few : (e : End) → length (cancel_by e) ≤ 1
cancel_few unended = omega arith
cancel_few ended = omega arith
cancel_few (failed c) = omega arith

taking_few : (old new : Dropping) (before acts : List Act) → TakesIn old new before acts → length acts ≤ length before + 2
taking_few old new before acts (takes t items o w m c few to_is a) = rw a (omega arith)
taking_few old new before acts (overflows t o w m c to_is a) =
    let k = cancel_few old.after in
    let l = length-append before (FailOut 0 (overflow_of old.node (old.came + 1)) ∷ cancel_by old.after) in
    rw a (omega (arith, k, l))
taking_few old new before acts (leaves k to_is a) = rw a (omega arith)

giving_few : (old new : Dropping) (before acts : List Act) → Giving old new before acts → length acts ≤ length before + 1
giving_few old new before acts (gives t items o on m h to_is a) = let l = length-append before (Push 0 t ∷ []) in rw a (omega (arith, l))
giving_few old new before acts (keeps k to_is a) = rw a (omega arith)

pub serving_few : (old new : Dropping) (acts : List Act) → Serving old new acts → length acts < 4
serving_few old new acts (take_first m b t g n) = let x = taking_few old m [] b t in let y = giving_few m new b acts g in omega (arith, x, y)
serving_few old new acts (give_first m b n g t) = let x = giving_few old m [] b g in let y = taking_few m new b acts t in omega (arith, x, y)
