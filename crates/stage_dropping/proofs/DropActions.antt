-- What a buffer that drops did so far in a call, and one action more: that what it does is allowed, and is a step of its law.
use Rattle.std.specs.Prelude.{◌≢◌, ◌<◌, ◌≤◌, ◌^◌, Option, None, Some, is_some}
use Rattle.std.proofs.Common.{◌≡◌, ℕ, zero, suc, ◌+◌, Bool, true, false, List, [], ◌∷◌, ◌++◌, length, refl, sym, ap, ◌∙◌, subst, arith, append-nil, append_assoc}
use Rattle.std.specs.Option.{option_to_list}
use Rattle.elem_core.specs.Tree.{Tree}
use Rattle.elem_core.specs.declared.why.Cause.{Cause}
use Rattle.elem_core.specs.declared.item.Item.{Item}
use Rattle.elem_core.specs.declared.item.Item.TheVariants as item
use Rattle.stream_model.specs.Outlook.{End, unended, ended, failed}
use Rattle.stream_model.specs.FanIn.{Inflow}
use Rattle.stream_model.specs.Picks.{comes}
use Rattle.stream_model.specs.declared.kind.Policy.{Policy}
use Rattle.port_core.specs.Picks.{planned, next_move, may_end, MayNote, logged}
use Rattle.port_core.proofs.Noting.{noted_plan}
use Rattle.port_core.specs.declared.pick_log.Next.{Next}
use Rattle.port_core.specs.declared.pick_log.Next.TheVariants.{Free, Move, UsedUp}
use Rattle.port_core.specs.declared.act.Act.{Act}
use Rattle.port_core.specs.declared.act.Act.TheVariants.{Pull, Push, Complete, FailOut, Cancel}
use Rattle.port_core.specs.declared.view.InView.{InView}
use Rattle.port_core.specs.declared.view.InView.TheVariants.{Idle, Cancelled}
use Rattle.port_core.specs.declared.view.OutView.{OutView}
use Rattle.port_core.specs.declared.view.OutView.TheVariants as outlet
use Rattle.port_core.specs.View.{View, OneOneOf, ActsAllowed, acted_all}
use Rattle.port_core.specs.Asking.{PullsStand}
use Rattle.port_core.specs.Call.{came, given_on}
use Rattle.port_core.proofs.Views.{acted_append, allowed_append, given_append}
use Rattle.stage_core.specs.Held.{told}
use Rattle.stage_core.specs.Row.{BothClosed}
use Rattle.stage_core.specs.Seats.{wish}
use Rattle.stage_core.specs.declared.phase.Phase.{Phase}
use Rattle.stage_core.specs.declared.phase.Phase.TheVariants.{New, Open, Closed}
use Rattle.stage_core.proofs.Closings.{open_wish}
use Rattle.stage_core.proofs.Told.{told-append}
use Rattle.stage_dropping.specs.Drops as law
use Rattle.stage_dropping.specs.Drops.{holds, BufferStep, DropClose, Goes, DropStep, LostAt, Obligation, serves, stopped, overflow_of}
use Rattle.stage_dropping.specs.Droppings.{Dropping, may_take, may_give, lost, in_of, DropKnows, OpenBuffer, Rested, drop_at, drop_in, port_state, pending, held_by, held_in, held_of, took, overflown, gave_one, cancel_by, TakesIn, takes, overflows, leaves, Giving, gives, keeps, Serving, take_first, give_first, wants_input, stuck_now, Settling, closed, fails, completes, stops, rests}
use Rattle.stage_dropping.proofs.DropSteps.{gives_one, named_rest}
use Rattle.stage_dropping.proofs.DropOwed.{compose, take_step, give_step}

abbrev pub one : InView → OutView → View
one x y = record { ins = x ∷ []; outs = y ∷ [] }

-- what the stage shows of its ports
abbrev pub shown : Dropping → View
shown l = one (in_of l.after l.pulled) (wish l.asked)

pub not_both : {b : Bool} → b ≡ true → b ≡ false → ⊥
not_both e f = cc

-- ---- what was done so far in a call

-- only elements were given
abbrev pub AllPush : List Act → Type 0
AllPush [] = Unit {0}
AllPush (Push j e ∷ acts) = AllPush acts
AllPush (a ∷ acts) = ⊥

pushes_append : (a b : List Act) → AllPush a → AllPush b → AllPush (a ++ b)
pushes_append [] b h k = k
pushes_append (Push j e ∷ a) b h k = pushes_append a b h k
pushes_append (Pull i ∷ a) b h k = absurd h
pushes_append (Complete j ∷ a) b h k = absurd h
pushes_append (FailOut j c ∷ a) b h k = absurd h
pushes_append (Cancel i ∷ a) b h k = absurd h

pushes_stand : (a b : List Act) → AllPush a → PullsStand b → PullsStand (a ++ b)
pushes_stand [] b h k = k
pushes_stand (Push j e ∷ a) b h k = pushes_stand a b h k
pushes_stand (Pull i ∷ a) b h k = absurd h
pushes_stand (Complete j ∷ a) b h k = absurd h
pushes_stand (FailOut j c ∷ a) b h k = absurd h
pushes_stand (Cancel i ∷ a) b h k = absurd h

-- as the call found it: what it took in, its moves, what it holds, what waits with what came, its node, and what it follows
pub record From : Type 0 where
  pub node : ℕ
  pub policy : Policy
  pub size : ℕ
  pub came : ℕ
  pub moves : List ℕ
  pub held : List Tree
  pub waits : Inflow
  pub plan : Option (List ℕ)

-- it is on its way: what it did is allowed, and is a step of its buffer; and it is open
pub record Underway (v : View) (f : From) (acts : List Act) (s : Dropping) : Type 0 where
  pub node : s.node ≡ f.node
  pub policy : s.policy ≡ f.policy
  pub size : s.size ≡ f.size
  pub allowed : ActsAllowed v acts
  pub shows : acted_all v acts ≡ shown s
  pub whole : OpenBuffer s
  pub given : List Tree
  pub step : BufferStep s.policy s.size f.came f.moves f.held f.waits given s.came s.log.moves s.held (pending s)
  pub out_is : given_on 0 acts ≡ told given unended
  pub pushes : AllPush acts
  pub plan : planned s.log ≡ f.plan

-- what it owes then
abbrev pub StepsTo : From → List Item → Obligation → Type 0
StepsTo f out (serves h) = DropStep f.node f.policy f.size f.came f.moves f.held f.waits out h
StepsTo f out (stopped next now) = (then : ℕ) × ((items : List Tree) × ((left : Inflow) × (DropStep f.node f.policy f.size f.came f.moves f.held f.waits out (holds then now items left) × LostAt next items left)))

-- it is done
pub record Done (v : View) (f : From) (acts : List Act) (new : Dropping) : Type 0 where
  pub node : new.node ≡ f.node
  pub policy : new.policy ≡ f.policy
  pub size : new.size ≡ f.size
  pub allowed : ActsAllowed v acts
  pub ports : port_state new (acted_all v acts)
  pub turn : StepsTo f (given_on 0 acts) (held_of new)
  pub stands : PullsStand acts
  pub started : new.phase ≡ New → ⊥
  pub more : List ℕ
  pub grows : new.log.moves ≡ f.moves ++ more
  pub plan : planned new.log ≡ f.plan

pub not_new : {q : Phase} → q ≡ Open → q ≡ New → ⊥
not_new h e = let x : Open ≡ New = sym h ∙ e in cc

-- ---- the plan

-- a move that takes is 0
takes_zero : (left : Option (List ℕ)) → may_take (next_move left) ≡ true → MayNote 0 left
takes_zero None m = tt
takes_zero (Some []) m = cc
takes_zero (Some (zero ∷ l)) m = refl
takes_zero (Some (suc k ∷ l)) m = cc

-- ---- one action more

module _ (v : View) (f : From) (acts : List Act) (s : Dropping) (u : Underway v f acts s) where
  -- further actions at what it shows
  then_allowed : (more : List Act) → ActsAllowed (shown s) more → ActsAllowed v (acts ++ more)
  then_allowed more h = allowed_append v acts more u.allowed (subst (λ w. ActsAllowed w more) (sym u.shows) h)

  then_shows : (more : List Act) → acted_all v (acts ++ more) ≡ acted_all (shown s) more
  then_shows more = acted_append v acts more ∙ ap (λ w. acted_all w more) u.shows

  then_gives : (more : List Act) (l : List Tree) (e : End) → given_on 0 more ≡ told l e → given_on 0 (acts ++ more) ≡ told (u.given ++ l) e
  then_gives more l e h = given_append 0 acts more ∙ ap (λ (x : List Item). x ++ given_on 0 more) u.out_is ∙ ap (λ (x : List Item). told u.given unended ++ x) h ∙ sym (told-append u.given l e)

  -- the end alone
  then_ends : (more : List Act) (e : End) → given_on 0 more ≡ told [] e → given_on 0 (acts ++ more) ≡ told u.given e
  then_ends more e h = then_gives more [] e h ∙ ap (λ (l : List Tree). told l e) (append-nil u.given)

  whole_step : (now : List ℕ) → s.log.moves ≡ now → BufferStep s.policy s.size f.came f.moves f.held f.waits u.given s.came now s.held (pending s)
  whole_step now is = subst (λ (ms : List ℕ). BufferStep s.policy s.size f.came f.moves f.held f.waits u.given s.came ms s.held (pending s)) is u.step

  -- over the policy and size that it had
  by_from : (given : List Tree) (then : ℕ) (now : List ℕ) (items : List Tree) (us : Inflow) → BufferStep s.policy s.size f.came f.moves f.held f.waits given then now items us → BufferStep f.policy f.size f.came f.moves f.held f.waits given then now items us
  by_from given then now items us t =
      subst (λ q. BufferStep q f.size f.came f.moves f.held f.waits given then now items us) u.policy
      (subst (λ k. BufferStep s.policy k f.came f.moves f.held f.waits given then now items us) u.size t)

  -- it gives one that it holds
  gives_next : (t : Tree) (items : List Tree) → s.asked ≡ true → may_give (next_move s.log.left) ≡ true → s.held ≡ t ∷ items → Underway v f (acts ++ Push 0 t ∷ []) (gave_one items s)
  gives_next t items on may is =
      let w = u.whole in
      let long = w.few in
      let more : length s.held ≡ suc (length items) = ap length is in
      record {
        node = u.node;
        policy = u.policy;
        size = u.size;
        allowed = then_allowed (Push 0 t ∷ []) (rw on (refl, tt));
        shows = then_shows (Push 0 t ∷ []);
        whole = record {
          phase_is = w.phase_is;
          calm = w.calm;
          drops = w.drops;
          some = w.some;
          few = omega (arith, long, more);
          fits = w.fits;
          named = named_rest s.log.left w.named;
          quiet = w.quiet;
        };
        given = u.given ++ t ∷ [];
        step = compose s.policy s.size f.came f.moves f.held f.waits u.given s.came s.log.moves s.held (pending s) (t ∷ []) s.came (logged 1 s.log).moves items (pending s) u.step (give_step s t items is);
        out_is = then_gives (Push 0 t ∷ []) (t ∷ []) unended refl;
        pushes = pushes_append acts (Push 0 t ∷ []) u.pushes tt;
        plan = noted_plan 1 s.log (gives_one s.log.left w.named may) ∙ u.plan;
      }

  -- it takes in what waits
  takes_next : (t : Tree) (items : List Tree) → s.waiting ≡ Some t → may_take (next_move s.log.left) ≡ true → comes s.policy s.size s.held t ≡ Some items → length items ≤ s.size → Underway v f acts (took items s)
  takes_next t items is may fits few =
      let w = u.whole in
      record {
        node = u.node;
        policy = u.policy;
        size = u.size;
        allowed = u.allowed;
        shows = u.shows;
        whole = record {
          phase_is = w.phase_is;
          calm = w.calm;
          drops = w.drops;
          some = w.some;
          few = few;
          fits = λ e. cc;
          named = named_rest s.log.left w.named;
          quiet = λ e. cc;
        };
        given = u.given ++ [];
        step = compose s.policy s.size f.came f.moves f.held f.waits u.given s.came s.log.moves s.held (pending s) [] (s.came + 1) (logged 0 s.log).moves items (pending (took items s)) u.step (take_step s t items is fits);
        out_is = u.out_is ∙ ap (λ (l : List Tree). told l unended) (sym (append-nil u.given));
        pushes = u.pushes;
        plan = noted_plan 0 s.log (takes_zero s.log.left may) ∙ u.plan;
      }

  -- it has closed both its ports
  closed_lists : (new : Dropping) (xs : List InView) (ys : List OutView) → new.phase ≡ Closed → new.log.stuck ≡ false → OneOneOf BothClosed xs ys → OneOneOf (drop_in new.log.stuck new) xs ys
  closed_lists new (x ∷ []) (y ∷ []) p calm h = subst (λ b. drop_in b new x y) (sym calm) (subst (λ q. drop_at new q x y) (sym p) h)
  closed_lists new [] ys p calm h = absurd h
  closed_lists new (x ∷ []) [] p calm h = absurd h
  closed_lists new (x ∷ []) (y ∷ z ∷ ys) p calm h = absurd h
  closed_lists new (x ∷ t ∷ xs) ys p calm h = absurd h

  closed_then : (new : Dropping) (more : List Act) → new.phase ≡ Closed → new.log.stuck ≡ false → OneOneOf BothClosed (acted_all (shown s) more).ins (acted_all (shown s) more).outs → port_state new (acted_all v (acts ++ more))
  closed_then new more p calm h = subst (λ w. port_state new w) (sym (then_shows more)) (closed_lists new (acted_all (shown s) more).ins (acted_all (shown s) more).outs p calm h)

  -- ---- what waits finds no room

  abbrev over_acts : End → Cause → List Act
  over_acts e c = FailOut 0 c ∷ cancel_by e

  over_allowed : (e : End) (b a : Bool) (c : Cause) → ActsAllowed (one (in_of e b) (wish a)) (over_acts e c)
  over_allowed unended true a c = (open_wish a, (tt, tt))
  over_allowed unended false a c = (open_wish a, (tt, tt))
  over_allowed ended b a c = (open_wish a, tt)
  over_allowed (failed x) b a c = (open_wish a, tt)

  over_closes : (e : End) (b a : Bool) (c : Cause) → OneOneOf BothClosed (acted_all (one (in_of e b) (wish a)) (over_acts e c)).ins (acted_all (one (in_of e b) (wish a)) (over_acts e c)).outs
  over_closes unended true a c = tt
  over_closes unended false a c = tt
  over_closes ended b a c = tt
  over_closes (failed x) b a c = tt

  over_gives : (e : End) (c : Cause) → given_on 0 (over_acts e c) ≡ told [] (failed c)
  over_gives unended c = refl
  over_gives ended c = refl
  over_gives (failed x) c = refl

  over_stands : (e : End) (c : Cause) → PullsStand (over_acts e c)
  over_stands unended c = tt
  over_stands ended c = tt
  over_stands (failed x) c = tt

  over_now : (t : Tree) → s.waiting ≡ Some t → may_take (next_move s.log.left) ≡ true → comes s.policy s.size s.held t ≡ None
      → Done v f (acts ++ FailOut 0 (overflow_of s.node (s.came + 1)) ∷ cancel_by s.after) (overflown s)
  over_now t is may miss =
      let c : Cause = overflow_of s.node (s.came + 1) in
      let new : Dropping = overflown s in
      let all : List Act = over_acts s.after c in
      let none : comes f.policy f.size s.held t ≡ None = subst (λ q. comes q f.size s.held t ≡ None) u.policy (subst (λ k. comes s.policy k s.held t ≡ None) u.size miss) in
      let out : given_on 0 (acts ++ all) ≡ told u.given (failed (overflow_of f.node (s.came + 1))) =
      then_ends all (failed c) (over_gives s.after c) ∙ ap (λ k. told u.given (failed (overflow_of k (s.came + 1)))) u.node in
      let close : DropClose f.node f.policy f.size f.came f.moves f.held f.waits (given_on 0 (acts ++ all)) (s.log.moves ++ 0 ∷ []) =
      law.overflows u.given s.came s.log.moves s.held (pending s) t [] (by_from u.given s.came s.log.moves s.held (pending s) u.step) (ap option_to_list is) none refl out in
      record {
        node = u.node;
        policy = u.policy;
        size = u.size;
        allowed = then_allowed all (over_allowed s.after s.pulled s.asked c);
        ports = closed_then new all refl u.whole.calm (over_closes s.after s.pulled s.asked c);
        turn = subst (λ b. StepsTo f (given_on 0 (acts ++ all)) (held_in b new)) (sym u.whole.calm) close;
        stands = pushes_stand acts all u.pushes (over_stands s.after c);
        started = λ e. cc;
        more = u.step.more ++ 0 ∷ [];
        grows = ap (λ (l : List ℕ). l ++ 0 ∷ []) u.step.now_is ∙ append_assoc f.moves u.step.more (0 ∷ []);
        plan = noted_plan 0 s.log (takes_zero s.log.left may) ∙ u.plan;
      }

  -- ---- the end of a call

  -- its output fails behind the failure of its input
  fails_now : (c : Cause) → s.waiting ≡ None → s.after ≡ failed c → Done v f (acts ++ FailOut 0 c ∷ []) (record s { phase = Closed })
  fails_now c none is =
      let new : Dropping = record s { phase = Closed } in
      let all : List Act = FailOut 0 c ∷ [] in
      let close : DropClose f.node f.policy f.size f.came f.moves f.held f.waits (given_on 0 (acts ++ all)) s.log.moves =
      law.fails u.given s.came s.held (pending s) c (by_from u.given s.came s.log.moves s.held (pending s) u.step) (ap option_to_list none) (sym u.step.same ∙ is) (then_ends all (failed c) refl) in
      record {
        node = u.node;
        policy = u.policy;
        size = u.size;
        allowed = then_allowed all (open_wish s.asked, tt);
        ports = closed_then new all refl u.whole.calm (subst (λ e. BothClosed (in_of e s.pulled) outlet.Closed) (sym is) tt);
        turn = subst (λ b. StepsTo f (given_on 0 (acts ++ all)) (held_in b new)) (sym u.whole.calm) close;
        stands = pushes_stand acts all u.pushes tt;
        started = λ e. cc;
        more = u.step.more;
        grows = u.step.now_is;
        plan = u.plan;
      }

  -- it completes behind the end of its input
  completes_now : s.waiting ≡ None → s.after ≡ ended → s.held ≡ [] → Done v f (acts ++ Complete 0 ∷ []) (record s { phase = Closed })
  completes_now none is empty =
      let new : Dropping = record s { phase = Closed } in
      let all : List Act = Complete 0 ∷ [] in
      let step : BufferStep f.policy f.size f.came f.moves f.held f.waits u.given s.came s.log.moves [] (pending s) =
      subst (λ (l : List Tree). BufferStep f.policy f.size f.came f.moves f.held f.waits u.given s.came s.log.moves l (pending s)) empty (by_from u.given s.came s.log.moves s.held (pending s) u.step) in
      let close : DropClose f.node f.policy f.size f.came f.moves f.held f.waits (given_on 0 (acts ++ all)) s.log.moves = law.completes u.given s.came (pending s) step (ap option_to_list none) (sym u.step.same ∙ is) (then_ends all ended refl) in
      record {
        node = u.node;
        policy = u.policy;
        size = u.size;
        allowed = then_allowed all (open_wish s.asked, tt);
        ports = closed_then new all refl u.whole.calm (subst (λ e. BothClosed (in_of e s.pulled) outlet.Closed) (sym is) tt);
        turn = subst (λ b. StepsTo f (given_on 0 (acts ++ all)) (held_in b new)) (sym u.whole.calm) close;
        stands = pushes_stand acts all u.pushes tt;
        started = λ e. cc;
        more = u.step.more;
        grows = u.step.now_is;
        plan = u.plan;
      }

  -- it goes on, as the law has it
  goes_on : (tail : List Act) → given_on 0 tail ≡ [] → Goes f.policy f.size f.came f.moves f.held f.waits (given_on 0 (acts ++ tail)) s.came s.log.moves s.held (pending s)
  goes_on tail quiet = record { given = u.given; step = by_from u.given s.came s.log.moves s.held (pending s) u.step; out_is = then_ends tail unended quiet }

  in_uncancelled : (e : End) (q : Bool) → in_of e q ≡ Cancelled → ⊥
  in_uncancelled unended true h = cc
  in_uncancelled unended false h = cc
  in_uncancelled ended q h = cc
  in_uncancelled (failed c) q h = cc

  -- what the mark says of what waits
  lost_at : (next : Next) (w : Option Tree) (e : End) (a : Bool) (h : List Tree) → lost next w e a h ≡ true → LostAt next h (record { list = option_to_list w; end = e })
  lost_at Free w e a h k = cc
  lost_at UsedUp w e a h k = cc
  lost_at (Move zero) None unended a h k = cc
  lost_at (Move zero) None ended a h k = (refl, refl)
  lost_at (Move zero) None (failed c) a h k = cc
  lost_at (Move zero) (Some t) e a h k = cc
  lost_at (Move (suc j)) w e true [] k = refl
  lost_at (Move (suc j)) w e true (t ∷ h) k = cc
  lost_at (Move (suc j)) w e false h k = cc

  -- it stops, with its input asked or not
  halts_with : (q : Bool) (tail : List Act) → given_on 0 tail ≡ [] → PullsStand tail → ActsAllowed (shown s) tail → acted_all (shown s) tail ≡ one (in_of s.after q) (wish s.asked) → lost (next_move s.log.left) s.waiting s.after s.asked s.held ≡ true
      → Done v f (acts ++ tail) (stuck_now (record s { pulled = q }))
  halts_with q tail quiet stand allowed shows lack = record {
    node = u.node;
    policy = u.policy;
    size = u.size;
    allowed = then_allowed tail allowed;
    ports = subst (λ w. port_state (stuck_now (record s { pulled = q })) w) (sym (then_shows tail ∙ shows)) (record { phase_is = u.whole.phase_is; uncancelled = in_uncancelled s.after q });
    turn = (s.came, (s.held, (pending s, (goes_on tail quiet, lost_at (next_move s.log.left) s.waiting s.after s.asked s.held lack))));
    stands = pushes_stand acts tail u.pushes stand;
    started = λ e. not_new u.whole.phase_is e;
    more = u.step.more;
    grows = u.step.now_is;
    plan = u.plan;
  }

  -- it rests
  rests_with : (q : Bool) (tail : List Act) → given_on 0 tail ≡ [] → PullsStand tail → ActsAllowed (shown s) tail → acted_all (shown s) tail ≡ one (in_of s.after q) (wish s.asked) → Rested (record s { pulled = q })
      → Done v f (acts ++ tail) (record s { pulled = q })
  rests_with q tail quiet stand allowed shows r =
      let new : Dropping = record s { pulled = q } in
      let known : DropKnows new (in_of s.after q) (wish s.asked) = record { input = refl; output = refl } in
      let here : drop_in s.log.stuck new (in_of s.after q) (wish s.asked) =
      subst (λ b. drop_in b new (in_of s.after q) (wish s.asked)) (sym u.whole.calm) (subst (λ z. drop_at new z (in_of s.after q) (wish s.asked)) (sym u.whole.phase_is) (known, r)) in
      record {
        node = u.node;
        policy = u.policy;
        size = u.size;
        allowed = then_allowed tail allowed;
        ports = subst (λ w. port_state new w) (sym (then_shows tail ∙ shows)) here;
        turn = subst (λ b. StepsTo f (given_on 0 (acts ++ tail)) (held_in b new)) (sym u.whole.calm)
            (subst (λ z. StepsTo f (given_on 0 (acts ++ tail)) (serves (held_by z new))) (sym u.whole.phase_is) (goes_on tail quiet));
        stands = pushes_stand acts tail u.pushes stand;
        started = λ e. not_new u.whole.phase_is e;
        more = u.step.more;
        grows = u.step.now_is;
        plan = u.plan;
      }

-- it did what it may before it settles
pub record Ready (s : Dropping) : Type 0 where
  pub takes_none : may_take (next_move s.log.left) ≡ true → s.waiting ≡ None
  pub gives_none : s.asked ≡ true → may_give (next_move s.log.left) ≡ true → s.held ≡ []

-- where its input is to be asked nothing waits, it goes on, and was not asked yet
record Wants (w : Option Tree) (e : End) (q : Bool) : Type 0 where
  none : w ≡ None
  going : e ≡ unended
  unpulled : q ≡ false

wants_so : (w : Option Tree) (e : End) (q : Bool) → true ≡ wants_input w e q → Wants w e q
wants_so None unended false h = record { none = refl; going = refl; unpulled = refl }
wants_so None unended true h = cc
wants_so None ended q h = cc
wants_so None (failed c) q h = cc
wants_so (Some t) e q h = cc

wants_not : (w : Option Tree) (e : End) (q : Bool) → false ≡ wants_input w e q → e ≡ unended → w ≡ None → q ≡ true
wants_not None unended true h a b = refl
wants_not None unended false h a b = cc
wants_not None ended q h a b = cc
wants_not None (failed c) q h a b = cc
wants_not (Some t) e q h a b = cc

pub none_some : (w : Option Tree) → w ≡ None → is_some w ≡ true → ⊥
none_some w h e = let z : is_some w ≡ false = ap is_some h in not_both e z

module _ (v : View) (f : From) (acts : List Act) (s : Dropping) (u : Underway v f acts s) (r : Ready s) where
  rested_with : (q : Bool) → (is_some s.waiting ≡ true → q ≡ false) → (s.after ≡ unended → s.waiting ≡ None → q ≡ true) → lost (next_move s.log.left) s.waiting s.after s.asked s.held ≡ false
      → (s.waiting ≡ None → s.after ≢ unended → (s.after ≡ ended) × (s.held ≡ [] → may_end (next_move s.log.left) ≡ false)) → Rested (record s { pulled = q })
  rested_with q quiet asks goes over =
      let w = u.whole in
      record {
        whole = record { phase_is = w.phase_is; calm = w.calm; drops = w.drops; some = w.some; few = w.few; fits = w.fits; named = w.named; quiet = quiet };
        asks = asks;
        takes = r.takes_none;
        gives = r.gives_none;
        goes = goes;
        ends = over;
      }

  -- with its input asked now
  module _ (b : true ≡ wants_input s.waiting s.after s.pulled) where
    want : Wants s.waiting s.after s.pulled
    want = wants_so s.waiting s.after s.pulled b

    idle : in_of s.after s.pulled ≡ Idle
    idle = ap (λ e. in_of e s.pulled) want.going ∙ ap (λ q. in_of unended q) want.unpulled

    pull_allowed : ActsAllowed (shown s) (Pull 0 ∷ [])
    pull_allowed = (idle, tt)

    pull_shows : acted_all (shown s) (Pull 0 ∷ []) ≡ one (in_of s.after true) (wish s.asked)
    pull_shows = ap (λ e. one (in_of e true) (wish s.asked)) (sym want.going)

  pub settles : (new : Dropping) (all : List Act) → Settling s new acts all → Done v f all new
  settles new all (closed n e a) = absurd (n u.whole.phase_is)
  settles new all (fails c o none is to_is a) = rw (to_is, a) (fails_now v f acts s u c none is)
  settles new all (completes o none is empty m to_is a) = rw (to_is, a) (completes_now v f acts s u none is empty)
  settles new all (stops true o b lack to_is a) = rw (to_is, a) (halts_with v f acts s u true (Pull 0 ∷ []) refl (tt, tt) (pull_allowed b) (pull_shows b) lack)
  settles new all (stops false o b lack to_is a) = rw (to_is, a) (halts_with v f acts s u s.pulled [] refl tt tt refl lack)
  settles new all (rests true o b goes over to_is a) =
      let w = wants_so s.waiting s.after s.pulled b in
      rw (to_is, a) (rests_with v f acts s u true (Pull 0 ∷ []) refl (tt, tt) (pull_allowed b) (pull_shows b) (rested_with true (λ e. absurd (none_some s.waiting w.none e)) (λ x y. refl) goes over))
  settles new all (rests false o b goes over to_is a) =
      rw (to_is, a) (rests_with v f acts s u s.pulled [] refl tt tt refl (rested_with s.pulled u.whole.quiet (λ x y. wants_not s.waiting s.after s.pulled b x y) goes over))

-- ---- what waits is taken in, and what is held given

-- it is on its way, or an element found no room
data Served (v : View) (f : From) (acts : List Act) (s : Dropping) : Type 0 where
  goes : Underway v f acts s → Ready s → Served v f acts s
  over : Done v f acts s → (s.phase ≡ Open → ⊥) → Served v f acts s

-- the same before it is said that it did what it may
data Took (v : View) (f : From) (acts : List Act) (s : Dropping) : Type 0 where
  on_way : Underway v f acts s → Took v f acts s
  no_room : Done v f acts s → (s.phase ≡ Open → ⊥) → Took v f acts s

closed_not_open : {q : Phase} → q ≡ Closed → q ≡ Open → ⊥
closed_not_open h e = let x : Closed ≡ Open = sym h ∙ e in cc

takes_on : (v : View) (f : From) (acts : List Act) (s : Dropping) → Underway v f acts s → (new : Dropping) (all : List Act) → TakesIn s new acts all → Took v f all new
takes_on v f acts s u new all (takes t items o w m c few to_is a) = rw (to_is, a) (on_way (takes_next v f acts s u t items w m c few))
takes_on v f acts s u new all (overflows t o w m c to_is a) = rw (to_is, a) (no_room (over_now v f acts s u t w m c) (λ e. cc))
takes_on v f acts s u new all (leaves k to_is a) = rw (to_is, a) (on_way u)

-- a given one leaves it unasked
after_gift : (m s : Dropping) (before acts : List Act) → m.phase ≡ Open → m.asked ≡ false → TakesIn m s before acts → s.phase ≡ Open → Ready s
after_gift m s before acts o off (takes t items p w k c few to_is a) q = rw to_is (record { takes_none = λ e. refl; gives_none = λ on e. absurd (not_both on off) })
after_gift m s before acts o off (overflows t p w k c to_is a) q = absurd (closed_not_open (ap (λ (l : Dropping). l.phase) to_is) q)
after_gift m s before acts o off (leaves k to_is a) q = rw to_is (record { takes_none = λ e. k o e; gives_none = λ on e. absurd (not_both on off) })

module _ (v : View) (f : From) (mid : Dropping) (u : Underway v f [] mid) where
  give_then : (m s : Dropping) (b acts : List Act) → (mid.phase ≡ Open → may_take (next_move mid.log.left) ≡ true → mid.waiting ≡ None) → Giving mid m [] b → TakesIn m s b acts → Served v f acts s
  give_then m s b acts none (gives t items o on may is to_is a) tk = by_took (takes_on v f b m um s acts tk)
    where
      um : Underway v f b m
      um = rw (to_is, a) (gives_next v f [] mid u t items on may is)

      off : m.asked ≡ false
      off = ap (λ (l : Dropping). l.asked) to_is

      by_took : Took v f acts s → Served v f acts s
      by_took (on_way us) = goes us (after_gift m s b acts um.whole.phase_is off tk us.whole.phase_is)
      by_took (no_room d n) = over d n
  give_then m s b acts none (keeps k to_is a) (takes t items o w may c few x y) =
      let z : mid.waiting ≡ Some t = ap (λ (l : Dropping). l.waiting) (sym to_is) ∙ w in
      let q : may_take (next_move mid.log.left) ≡ true = ap (λ (l : Dropping). may_take (next_move l.log.left)) (sym to_is) ∙ may in
      let e : None ≡ Some t = sym (none u.whole.phase_is q) ∙ z in cc
  give_then m s b acts none (keeps k to_is a) (overflows t o w may c x y) =
      let z : mid.waiting ≡ Some t = ap (λ (l : Dropping). l.waiting) (sym to_is) ∙ w in
      let q : may_take (next_move mid.log.left) ≡ true = ap (λ (l : Dropping). may_take (next_move l.log.left)) (sym to_is) ∙ may in
      let e : None ≡ Some t = sym (none u.whole.phase_is q) ∙ z in cc
  give_then m s b acts none (keeps k to_is a) (leaves j x y) =
      rw (x ∙ to_is, y ∙ a) (goes u (record { takes_none = λ e. none u.whole.phase_is e; gives_none = λ on e. k u.whole.phase_is on e }))

  take_then : (m s : Dropping) (b acts : List Act) → (m.phase ≡ Open → m.waiting ≡ None) → Took v f b m → Giving m s b acts → Served v f acts s
  take_then m s b acts none (on_way um) (gives t items o on may is to_is a) =
      rw (to_is, a) (goes (gives_next v f b m um t items on may is) (record { takes_none = λ e. none um.whole.phase_is; gives_none = λ on2 e. cc }))
  take_then m s b acts none (on_way um) (keeps k to_is a) = rw (to_is, a) (goes um (record { takes_none = λ e. none um.whole.phase_is; gives_none = λ on e. k um.whole.phase_is on e }))
  take_then m s b acts none (no_room d n) (gives t items o on may is to_is a) = absurd (n o)
  take_then m s b acts none (no_room d n) (keeps k to_is a) = rw (to_is, a) (over d n)

  serves_on : (s : Dropping) (acts : List Act) → Serving mid s acts → Served v f acts s
  serves_on s acts (take_first m b t g none) = take_then m s b acts none (takes_on v f [] mid u m b t) g
  serves_on s acts (give_first m b none g t) = give_then m s b acts none g t

  -- and then the call ends
  pub settled : (s : Dropping) (acts : List Act) → Serving mid s acts → (new : Dropping) (all : List Act) → Settling s new acts all → Done v f all new
  settled s acts serving new all settling = by_served (serves_on s acts serving) settling
    where
      by_served : Served v f acts s → Settling s new acts all → Done v f all new
      by_served (goes us r) e = settles v f acts s us r new all e
      by_served (over d n) (closed k to_is a) = rw (to_is, a) d
      by_served (over d n) (fails c o none is to_is a) = absurd (n o)
      by_served (over d n) (completes o none is empty m to_is a) = absurd (n o)
      by_served (over d n) (stops b o is lack to_is a) = absurd (n o)
      by_served (over d n) (rests b o is g k to_is a) = absurd (n o)
