-- What a call of a stage with substreams that follows moves does from where the call is taken in: what goes out by the next move, and how the
-- call ends. It keeps the port state, and is a step of the law.
use Rattle.std.specs.Prelude.{◌≢◌, ◌⊎◌, option_to_list}
use Rattle.std.specs.Option.{unwrap_or}
use Rattle.std.proofs.Common.{◌≡◌, inl, inr, ℕ, Bool, true, false, List, [], ◌∷◌, ◌++◌, length, Option, None, Some, refl, sym, ap, ◌∙◌, subst, arith, append-nil, append_assoc}
use Rattle.elem_core.specs.Tree.{Tree}
use Rattle.elem_core.specs.declared.item.Item.{Item}
use Rattle.elem_core.specs.declared.item.Item.TheVariants as item
use Rattle.port_core.specs.Picks.{next_move, behind_next, may_end, plan_of}
use Rattle.port_core.specs.declared.pick_log.Next.{Next}
use Rattle.port_core.specs.declared.pick_log.Next.TheVariants.{Free, Move, UsedUp}
use Rattle.port_core.specs.declared.act.Act.{Act}
use Rattle.port_core.specs.declared.act.Act.TheVariants.{Pull, Push, Complete}
use Rattle.port_core.specs.declared.view.InView.{InView}
use Rattle.port_core.specs.declared.view.InView.TheVariants.{Idle, Pulled, Finished, Cancelled}
use Rattle.port_core.specs.declared.view.OutView.{OutView}
use Rattle.port_core.specs.declared.view.OutView.TheVariants as outlet
use Rattle.port_core.specs.View.{View, OneOneOf, ActsAllowed, acted_all}
use Rattle.port_core.specs.Asking.{PullsStand}
use Rattle.port_core.specs.Call.{Call, CallAllowed, seen, Obeys, Meets, given_on}
use Rattle.port_core.specs.ListFunction.{ListFunction, Same}
use Rattle.stream_model.specs.Outlook.{End, unended, ended}
use Rattle.stream_model.specs.FanIn.{Tagged}
use Rattle.stream_model.specs.Machine.{State, Given}
use Rattle.stream_model.specs.Substreams.{Subs, substreams}
use Rattle.port_core.proofs.Views.{acted_append, allowed_append, given_append}
use Rattle.stage_core.proofs.Told.{told-append}
use Rattle.stage_core.specs.Fans.{untagged}
use Rattle.stage_core.specs.Held.{told}
use Rattle.stage_core.specs.Seats.{wish}
use Rattle.stage_core.specs.declared.phase.Phase.{Phase}
use Rattle.stage_core.specs.declared.phase.Phase.TheVariants.{New, Open, Closed}
use Rattle.stage_core.proofs.Closings.{open_wish}
use Rattle.step_work.specs.Means.{Means}
use Rattle.stage_sub.specs.KeptSubs.{opening_of}
use Rattle.stage_sub.specs.Moves.{noted, port_in, arising}
use Rattle.stage_sub.specs.Picking.{first_of_sub, of_number}
use Rattle.stage_sub.specs.States.{Logic, StateIs}
use Rattle.stage_sub.specs.Leds.{Led, made_moves, sub_plan, led_input_by, led_input, LedRests, LedFresh, led_at, LedHalted, led_in, port_state_by, led_port_state, then_state, EndsWell, MayGoOn, over_after, TakenFrom, LostAt, LedStep, goes, ends, Followed, gave_of, closed_now, stuck_now, LedServing, gives, keeps, LedServed, LedSettling, completes, stops, asks, rests, LedGoesOn}
use Rattle.stage_sub.proofs.Picking.{taken_port, none_of}
use Rattle.stage_sub.proofs.Turning.{none_noted}

abbrev pub one : InView → OutView → View
one x y = record { ins = x ∷ []; outs = y ∷ [] }

flag_differs : {b : Bool} → b ≡ true → b ≡ false → ⊥
flag_differs e f = cc

-- ---- where a call finds it

-- the three that a handler finds: it follows moves, is open, and did not stop
pub record Going {C : Type 0} (l : Led C) : Type 0 where
  pub follows : l.left ≢ None
  pub calm : l.stuck ≡ false
  pub phase_is : l.logic.phase ≡ Open

pub led_state : {C : Type 0} (l : Led C) (v : View) → l.left ≢ None → led_port_state l v → OneOneOf (led_in l.stuck l) v.ins v.outs
led_state l v n r = by_left l.left refl r
  where
    by_left : (o : Option (List ℕ)) → l.left ≡ o → port_state_by o l v → OneOneOf (led_in l.stuck l) v.ins v.outs
    by_left None e r = absurd (n e)
    by_left (Some left) e r = r

pub state_led : {C : Type 0} (l : Led C) (v : View) → l.left ≢ None → OneOneOf (led_in l.stuck l) v.ins v.outs → led_port_state l v
state_led l v n r = by_left l.left refl
  where
    by_left : (o : Option (List ℕ)) → l.left ≡ o → port_state_by o l v
    by_left None e = absurd (n e)
    by_left (Some left) e = r

-- what it shows of its ports
abbrev pub shown : {C : Type 0} → Led C → View
shown l = one (led_input l.logic.over l.logic.asked l.logic.pending) (wish l.logic.asked)

-- what it knows whatever its ports are
pub record Kept {C : Type 0} (l : Led C) : Type 0 where
  pub logs : l.logic.moves ≢ None
  pub holds : l.logic.asked ≡ true → l.logic.pending ≢ [] → may_end (next_move l.left) ≡ true
  pub over : l.logic.over ≡ true → l.logic.pending ≡ [] → (may_end (next_move l.left) ≡ false) × (l.logic.asked ≡ false)

shown_lists : {C : Type 0} (l : Led C) (xs : List InView) (ys : List OutView) → Going l → OneOneOf (led_in l.stuck l) xs ys → (◌≡◌ {A = View} (record { ins = xs; outs = ys }) (shown l)) × Kept l
shown_lists l (x ∷ []) (y ∷ []) g r =
    let k = subst (λ (p : Phase). led_at l p x y) g.phase_is (subst (λ (b : Bool). led_in b l x y) g.calm r) in
    (ap (λ (i : InView). one i y) k.input ∙ ap (λ (o : OutView). one (led_input l.logic.over l.logic.asked l.logic.pending) o) k.output, record { logs = k.logs; holds = k.holds; over = k.over })
shown_lists l [] ys g r = absurd r
shown_lists l (x ∷ []) [] g r = absurd r
shown_lists l (x ∷ []) (y ∷ z ∷ ys) g r = absurd r
shown_lists l (x ∷ t ∷ xs) ys g r = absurd r

pub record Finds {C : Type 0} (call : Call) (l : Led C) : Type 0 where
  pub may : CallAllowed call (shown l)
  pub kept : Kept l

pub finds : {C : Type 0} (call : Call) (l : Led C) → Going l → Meets call (led_port_state l) → Finds call l
finds call l g m =
    let k = shown_lists l m.0.ins m.0.outs g (led_state l m.0 g.follows m.1.1) in
    record { may = subst (λ (w : View). CallAllowed call w) k.0 m.1.0; kept = k.1 }

-- ---- what a handler owes

pub record Handled {C : Type 0} (whole rest : C → ListFunction) (is_open : C → Bool) (call : Call) (old : Led C) (acts : List Act) (new : Led C) : Type 0 where
  pub ports : Obeys call (led_port_state old) (led_port_state new) acts
  pub gives : Followed whole rest is_open call old acts new

-- by what is shown
pub obeys_by : {C : Type 0} (call : Call) (old new : Led C) (acts : List Act) → Going old → ActsAllowed (seen call (shown old)) acts → led_port_state new (acted_all (seen call (shown old)) acts) → Obeys call (led_port_state old) (led_port_state new) acts
obeys_by call old new acts g allowed row = record {
  allowed = λ v may r. subst (λ (w : View). ActsAllowed (seen call w) acts) (sym (shown_lists old v.ins v.outs g (led_state old v g.follows r)).0) allowed;
  ports = λ v may r. subst (λ (w : View). led_port_state new (acted_all (seen call w) acts)) (sym (shown_lists old v.ins v.outs g (led_state old v g.follows r)).0) row;
}

-- ---- how a call is taken in

-- no pull stands
abbrev pub quiet_in : Bool → InView
quiet_in true = Finished
quiet_in false = Idle

abbrev pub entered : {C : Type 0} → Led C → View
entered l = one (quiet_in l.logic.over) (wish l.logic.asked)

module _ {C : Type 0} (whole rest : C → ListFunction) (is_open : C → Bool) (call : Call) (old mid : Led C) where
  -- what its machine tells of the call
  pub record Tells (f : ListFunction) (yields : List Tree → End → Given Tree) (st : State Subs) : Type 0 where
    pub held : mid.logic.pending ≡ old.logic.pending ++ arising (substreams yields (opening_of old.logic.how)) call st
    pub state : StateIs rest is_open f yields mid.logic.over mid.logic (then_state (substreams yields (opening_of old.logic.how)) call st)
    pub well : EndsWell (substreams yields (opening_of old.logic.how)) call st

  pub record Enters : Type 0 where
    pub phase_is : mid.logic.phase ≡ Open
    pub calm : mid.stuck ≡ false
    pub left : mid.left ≡ old.left
    pub moves : mid.logic.moves ≡ old.logic.moves
    pub node : mid.logic.node ≡ old.logic.node
    pub how : mid.logic.how ≡ old.logic.how
    pub chain : mid.logic.chain ≡ old.logic.chain
    pub over : mid.logic.over ≡ over_after call old.logic.over
    pub sees : seen call (shown old) ≡ entered mid
    pub may : MayGoOn call old.logic.pending
    pub tells : (f : ListFunction) → Same (whole old.logic.chain) f → (yields : List Tree → End → Given Tree) → Means yields f → (st : State Subs) → StateIs rest is_open f yields old.logic.over old.logic st → Tells f yields st

-- ---- what it does then

-- what was served: where it stands, and what went out
pub record Out {C : Type 0} (mid s : Led C) (gave : Option Tagged) (between : List Act) : Type 0 where
  pub allowed : ActsAllowed (entered mid) between
  pub shows : acted_all (entered mid) between ≡ entered s
  pub given : given_on 0 between ≡ told (untagged (option_to_list gave)) unended
  pub stands : (more : List Act) → PullsStand more → PullsStand (between ++ more)
  pub taken : TakenFrom gave mid.logic.pending s.logic.pending
  pub moves : s.logic.moves ≡ noted mid.logic.moves (port_in gave)
  pub follows : s.left ≢ None
  pub plan : sub_plan s ≡ sub_plan mid
  pub phase_is : s.logic.phase ≡ mid.logic.phase
  pub over_is : s.logic.over ≡ mid.logic.over
  pub stuck_is : s.stuck ≡ mid.stuck
  pub node : s.logic.node ≡ mid.logic.node
  pub taken_is : s.logic.taken ≡ mid.logic.taken
  pub how : s.logic.how ≡ mid.logic.how
  pub chain : s.logic.chain ≡ mid.logic.chain
  pub kept : s.logic.kept ≡ mid.logic.kept
  pub none : s.logic.asked ≡ true → (n : ℕ) → next_move s.left ≡ Move n → of_number n s.logic.pending ≡ []

behind_led : (left : Option (List ℕ)) → left ≢ None → behind_next left ≢ None
behind_led None n e = n refl
behind_led (Some []) n e = cc
behind_led (Some (k ∷ l)) n e = cc

given_plan : (left : Option (List ℕ)) (moves : Option (List ℕ)) (n : ℕ) → moves ≢ None → next_move left ≡ Move n → plan_of (unwrap_or (noted moves (Some n)) []) (behind_next left) ≡ plan_of (unwrap_or moves []) left
given_plan None moves n some e = cc
given_plan (Some []) moves n some e = cc
given_plan (Some (k ∷ l)) None n some e = absurd (some refl)
given_plan (Some (k ∷ l)) (Some ms) n some e =
    let z : k ≡ n = cc in
    ap (λ (x : List ℕ). Some x) (append_assoc ms (n ∷ []) l ∙ ap (λ j. ms ++ j ∷ l) (sym z))

pub out_of : {C : Type 0} (mid s : Led C) (gave : Option Tagged) (between : List Act) → mid.left ≢ None → mid.logic.moves ≢ None → LedServing mid gave s between → Out mid s gave between
out_of mid s gave between follows logs (gives n x os on next first gave_is to_is acts_are) =
    let port : x.port ≡ n = taken_port n mid.logic.pending x os first in
    rw (gave_is, to_is, acts_are) (record {
      allowed = (ap wish on, tt);
      shows = refl;
      given = refl;
      stands = λ more h. h;
      taken = subst (λ k. first_of_sub k mid.logic.pending ≡ Some (x, os)) (sym port) first;
      moves = ap (λ k. noted mid.logic.moves (Some k)) (sym port);
      follows = behind_led mid.left follows;
      plan = given_plan mid.left mid.logic.moves n logs next;
      phase_is = refl;
      over_is = refl;
      stuck_is = refl;
      node = refl;
      taken_is = refl;
      how = refl;
      chain = refl;
      kept = refl;
      none = λ e. cc;
    })
out_of mid s gave between follows logs (keeps none gave_is to_is acts_are) = rw (gave_is, to_is, acts_are) (record {
  allowed = tt;
  shows = refl;
  given = refl;
  stands = λ more h. h;
  taken = refl;
  moves = none_noted mid.logic.moves;
  follows = follows;
  plan = refl;
  phase_is = refl;
  over_is = refl;
  stuck_is = refl;
  node = refl;
  taken_is = refl;
  how = refl;
  chain = refl;
  kept = refl;
  none = λ on n e. none_of n mid.logic.pending (none on n e);
})

-- its machine's state is told by what stays
pub same_state : {C : Type 0} (rest : C → ListFunction) (is_open : C → Bool) (f : ListFunction) (yields : List Tree → End → Given Tree) (over : Bool) (a b : Logic C) (st : State Subs) → b.node ≡ a.node → b.taken ≡ a.taken → b.how ≡ a.how → b.kept ≡ a.kept
    → StateIs rest is_open f yields over a st → StateIs rest is_open f yields over b st
same_state rest is_open f yields true a b st n t h k s = s
same_state rest is_open f yields false a b st n t h k s = rw (n, t, h, k) s

noted_some : (ms : Option (List ℕ)) (p : Option ℕ) → ms ≢ None → noted ms p ≢ None
noted_some None p n e = n refl
noted_some (Some ms) None n e = cc
noted_some (Some ms) (Some p) n e = cc

not_new : {q : Phase} → q ≡ Open → q ≡ New → ⊥
not_new h e = let x : Open ≡ New = sym h ∙ e in cc

quiet_open : (b : Bool) → (quiet_in b ≡ Cancelled → ⊥) × (quiet_in b ≡ Pulled → ⊥)
quiet_open true = (λ e. cc, λ e. cc)
quiet_open false = (λ e. cc, λ e. cc)

module _ {C : Type 0} (whole rest : C → ListFunction) (is_open : C → Bool) (call : Call) (old mid s : Led C) (gave : Option Tagged) (between : List Act) (g : Going old) (k : Kept old) (e : Enters whole rest is_open call old mid) (o : Out mid s gave between) where
  sees : seen call (shown old) ≡ entered mid
  sees = e.sees

  then_allowed : (more : List Act) → ActsAllowed (entered s) more → ActsAllowed (seen call (shown old)) (between ++ more)
  then_allowed more h = subst (λ (w : View). ActsAllowed w (between ++ more)) (sym sees) (allowed_append (entered mid) between more o.allowed (subst (λ (w : View). ActsAllowed w more) (sym o.shows) h))

  then_shows : (more : List Act) → acted_all (seen call (shown old)) (between ++ more) ≡ acted_all (entered s) more
  then_shows more = ap (λ (w : View). acted_all w (between ++ more)) sees ∙ acted_append (entered mid) between more ∙ ap (λ (w : View). acted_all w more) o.shows

  then_gives : (more : List Act) (x : End) → given_on 0 more ≡ told [] x → given_on 0 (between ++ more) ≡ told (untagged (option_to_list gave)) x
  then_gives more x h = given_append 0 between more ∙ ap (λ (l : List Item). l ++ given_on 0 more) o.given ∙ ap (λ (l : List Item). told (untagged (option_to_list gave)) unended ++ l) h ∙ sym (told-append (untagged (option_to_list gave)) [] x) ∙ ap (λ (l : List Tree). told l x) (append-nil (untagged (option_to_list gave)))

  phase_open : s.logic.phase ≡ Open
  phase_open = o.phase_is ∙ e.phase_is

  stuck_no : s.stuck ≡ false
  stuck_no = o.stuck_is ∙ e.calm

  logs_on : s.logic.moves ≢ None
  logs_on = λ n. noted_some old.logic.moves (port_in gave) k.logs (sym (o.moves ∙ ap (λ (ms : Option (List ℕ)). noted ms (port_in gave)) e.moves) ∙ n)

  -- what stays, and what was noted
  owes : (new : Led C) (all : List Act) (closing : End) → new.logic.moves ≡ s.logic.moves → new.left ≡ s.left → new.logic.node ≡ s.logic.node → new.logic.how ≡ s.logic.how → new.logic.chain ≡ s.logic.chain → (new.logic.phase ≡ New → ⊥)
      → given_on 0 all ≡ told (untagged (option_to_list gave)) closing → PullsStand all
      → ((f : ListFunction) → Same (whole old.logic.chain) f → (yields : List Tree → End → Given Tree) → Means yields f → (st : State Subs) → StateIs rest is_open f yields old.logic.over old.logic st → LedStep rest is_open f yields (substreams yields (opening_of old.logic.how)) call old gave closing new st)
      → Followed whole rest is_open call old all new
  owes new all closing ms left node how chain started out stand step = record {
    gave = gave;
    closing = closing;
    out = out;
    step = λ calm f same yields means st is. step f same yields means st is;
    moves = ms ∙ o.moves ∙ ap (λ (x : Option (List ℕ)). noted x (port_in gave)) e.moves;
    follows = λ n. o.follows (sym left ∙ n);
    plan = ap (λ (x : Option (List ℕ)). plan_of (unwrap_or x []) new.left) ms ∙ ap (λ (x : Option (List ℕ)). plan_of (made_moves s) x) left ∙ o.plan ∙ ap (λ (x : Option (List ℕ)). plan_of (unwrap_or x []) mid.left) e.moves ∙ ap (λ (x : Option (List ℕ)). plan_of (made_moves old) x) e.left;
    node = node ∙ o.node ∙ e.node;
    how = how ∙ o.how ∙ e.how;
    chain = chain ∙ o.chain ∙ e.chain;
    stands = stand;
    started = started;
    still = λ stuck. absurd (flag_differs stuck g.calm);
  }

  -- a step that goes on
  on_step : (new : Led C) → new.logic ≡ s.logic → (new.stuck ≡ true → LostAt (next_move new.left) new.logic.pending new.logic.over)
      → (f : ListFunction) → Same (whole old.logic.chain) f → (yields : List Tree → End → Given Tree) → Means yields f → (st : State Subs) → StateIs rest is_open f yields old.logic.over old.logic st
      → LedStep rest is_open f yields (substreams yields (opening_of old.logic.how)) call old gave unended new st
  on_step new same lost f w yields means st is =
      let t = e.tells f w yields means st is in
      let taken : TakenFrom gave (old.logic.pending ++ arising (substreams yields (opening_of old.logic.how)) call st) new.logic.pending =
      subst (λ (l : List Tagged). TakenFrom gave l new.logic.pending) t.held (subst (λ (l : Logic C). TakenFrom gave mid.logic.pending l.pending) (sym same) o.taken) in
      let over : new.logic.over ≡ over_after call old.logic.over = ap (λ (l : Logic C). l.over) same ∙ o.over_is ∙ e.over in
      let state : StateIs rest is_open f yields s.logic.over s.logic (then_state (substreams yields (opening_of old.logic.how)) call st) =
      subst (λ (b : Bool). StateIs rest is_open f yields b s.logic (then_state (substreams yields (opening_of old.logic.how)) call st)) (sym o.over_is) (same_state rest is_open f yields mid.logic.over mid.logic s.logic (then_state (substreams yields (opening_of old.logic.how)) call st) o.node o.taken_is o.how o.kept t.state) in
      goes refl (ap (λ (l : Logic C). l.phase) same ∙ phase_open) taken over (subst (λ (l : Logic C). StateIs rest is_open f yields l.over l (then_state (substreams yields (opening_of old.logic.how)) call st)) (sym same) state) t.well e.may lost

  -- one that ends
  end_step : s.logic.pending ≡ [] → s.logic.over ≡ true
      → (f : ListFunction) → Same (whole old.logic.chain) f → (yields : List Tree → End → Given Tree) → Means yields f → (st : State Subs) → StateIs rest is_open f yields old.logic.over old.logic st
      → LedStep rest is_open f yields (substreams yields (opening_of old.logic.how)) call old gave ended (closed_now s) st
  end_step none over f w yields means st is =
      let t = e.tells f w yields means st is in
      let taken : TakenFrom gave (old.logic.pending ++ arising (substreams yields (opening_of old.logic.how)) call st) [] =
      subst (λ (l : List Tagged). TakenFrom gave l []) t.held (subst (λ (l : List Tagged). TakenFrom gave mid.logic.pending l) none o.taken) in
      ends refl refl stuck_no taken (sym e.over ∙ sym o.over_is ∙ over) t.well e.may

  -- why it stops
  lost_now : (next : Next) → next_move s.left ≡ next → may_end next ≡ false → s.logic.asked ≡ true → (s.logic.over ≡ true) ⊎ (s.logic.pending ≢ []) → LostAt next s.logic.pending s.logic.over
  lost_now Free is m on why = cc
  lost_now UsedUp is m on why = cc
  lost_now (Move n) is m on why = (o.none on n is, why)

  -- it rests as it is then
  rests_at : (over asked : Bool) (p : List Tagged) → (asked ≡ true → p ≢ []) → quiet_in over ≡ led_input over asked p
  rests_at true asked p n = refl
  rests_at false false p n = refl
  rests_at false true [] n = absurd (n refl refl)
  rests_at false true (x ∷ p) n = refl

  pub handled : (new : Led C) (all : List Act) → LedSettling between s new all → Handled whole rest is_open call old all new
  handled new all (completes over none may to_is acts_are) = rw (to_is, acts_are) (record {
    ports = obeys_by call old (closed_now s) (between ++ Complete 0 ∷ []) g (then_allowed (Complete 0 ∷ []) (open_wish s.logic.asked, tt))
        (subst (λ (w : View). led_port_state (closed_now s) w) (sym (then_shows (Complete 0 ∷ []))) (state_led (closed_now s) (acted_all (entered s) (Complete 0 ∷ [])) o.follows (closed_row over)));
    gives = owes (closed_now s) (between ++ Complete 0 ∷ []) ended refl refl refl refl refl (λ z. cc) (then_gives (Complete 0 ∷ []) ended refl) (o.stands (Complete 0 ∷ []) tt) (end_step none over);
  })
    where
      closed_row : s.logic.over ≡ true → led_in s.stuck (closed_now s) (quiet_in s.logic.over) outlet.Closed
      closed_row over = subst (λ (b : Bool). led_in b (closed_now s) (quiet_in s.logic.over) outlet.Closed) (sym stuck_no) (subst (λ (b : Bool). led_at (closed_now s) Closed (quiet_in b) outlet.Closed) (sym over) tt)
  handled new all (stops on moves_on why to_is acts_are) = rw (to_is, acts_are) (record {
    ports = obeys_by call old (stuck_now s) between g (subst (λ (l : List Act). ActsAllowed (seen call (shown old)) l) (append-nil between) (then_allowed [] tt))
        (subst (λ (w : View). led_port_state (stuck_now s) w) (sym (ap (λ (l : List Act). acted_all (seen call (shown old)) l) (sym (append-nil between)) ∙ then_shows [])) (state_led (stuck_now s) (entered s) o.follows (record { phase_is = phase_open; uncancelled = (quiet_open s.logic.over).0; unpulled = (quiet_open s.logic.over).1 })));
    gives = owes (stuck_now s) between unended refl refl refl refl refl (λ z. not_new phase_open z) (subst (λ (l : List Act). given_on 0 l ≡ told (untagged (option_to_list gave)) unended) (append-nil between) (then_gives [] unended refl)) (subst PullsStand (append-nil between) (o.stands [] tt))
        (on_step (stuck_now s) refl (λ z. lost_now (next_move s.left) refl moves_on on why));
  })
  handled new all (asks on off none to_is acts_are) = rw (to_is, acts_are) (record {
    ports = obeys_by call old s (between ++ Pull 0 ∷ []) g (then_allowed (Pull 0 ∷ []) (ap quiet_in off, tt))
        (subst (λ (w : View). led_port_state s w) (sym (then_shows (Pull 0 ∷ []))) (state_led s (acted_all (entered s) (Pull 0 ∷ [])) o.follows asked_row));
    gives = owes s (between ++ Pull 0 ∷ []) unended refl refl refl refl refl (λ z. not_new phase_open z) (then_gives (Pull 0 ∷ []) unended refl) (o.stands (Pull 0 ∷ []) (tt, tt)) (on_step s refl (λ z. absurd (flag_differs z stuck_no)));
  })
    where
      asked_row : led_in s.stuck s Pulled (wish s.logic.asked)
      asked_row =
          subst (λ (b : Bool). led_in b s Pulled (wish s.logic.asked)) (sym stuck_no)
          (subst (λ (p : Phase). led_at s p Pulled (wish s.logic.asked)) (sym phase_open) (record {
            input = sym (ap (λ (b : Bool). led_input b s.logic.asked s.logic.pending) off ∙ ap (λ (b : Bool). led_input false b s.logic.pending) on ∙ ap (λ (p : List Tagged). led_input false true p) none);
            output = refl;
            logs = logs_on;
            holds = λ x some. absurd (some none);
            over = λ x y. absurd (flag_differs x off);
          }))
  handled new all (rests quiet ending to_is acts_are) = rw (to_is, acts_are) (record {
    ports = obeys_by call old s between g (subst (λ (l : List Act). ActsAllowed (seen call (shown old)) l) (append-nil between) (then_allowed [] tt))
        (subst (λ (w : View). led_port_state s w) (sym (ap (λ (l : List Act). acted_all (seen call (shown old)) l) (sym (append-nil between)) ∙ then_shows [])) (state_led s (entered s) o.follows rest_row));
    gives = owes s between unended refl refl refl refl refl (λ z. not_new phase_open z) (subst (λ (l : List Act). given_on 0 l ≡ told (untagged (option_to_list gave)) unended) (append-nil between) (then_gives [] unended refl)) (subst PullsStand (append-nil between) (o.stands [] tt))
        (on_step s refl (λ z. absurd (flag_differs z stuck_no)));
  })
    where
      unasked : s.logic.pending ≡ [] → (b : Bool) → s.logic.asked ≡ b → s.logic.asked ≡ false
      unasked none false e = e
      unasked none true e = absurd ((quiet e).0 none)

      rest_row : led_in s.stuck s (quiet_in s.logic.over) (wish s.logic.asked)
      rest_row =
          subst (λ (b : Bool). led_in b s (quiet_in s.logic.over) (wish s.logic.asked)) (sym stuck_no)
          (subst (λ (p : Phase). led_at s p (quiet_in s.logic.over) (wish s.logic.asked)) (sym phase_open) (record {
            input = rests_at s.logic.over s.logic.asked s.logic.pending (λ on. (quiet on).0);
            output = refl;
            logs = logs_on;
            holds = λ on some. (quiet on).1;
            over = λ over none. (ending over none, unasked none s.logic.asked refl);
          }))

-- served and settled
pub goes_on_so : {C : Type 0} (whole rest : C → ListFunction) (is_open : C → Bool) (call : Call) (old mid new : Led C) (all : List Act) → Going old → Kept old → Enters whole rest is_open call old mid → LedGoesOn mid new all → Handled whole rest is_open call old all new
goes_on_so whole rest is_open call old mid new all g k e go =
    let follows : mid.left ≢ None = λ n. g.follows (sym e.left ∙ n) in
    let logs : mid.logic.moves ≢ None = λ n. k.logs (sym e.moves ∙ n) in
    let o = out_of mid go.mid go.serves.gave go.between follows logs go.serves.serving in
    handled whole rest is_open call old mid go.mid go.serves.gave go.between g k e o new all go.settles
