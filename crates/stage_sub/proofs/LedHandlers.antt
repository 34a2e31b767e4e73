-- The handlers of a stage with substreams as they know their own state: what each part of a call comes to.
use Rattle.std.specs.Prelude.{◌≢◌, ◌⊎◌, ⊤, Result, OnOk}
use Rattle.std.proofs.Common.{◌≡◌, inl, inr, ℕ, ◌+◌, Bool, true, false, List, [], ◌∷◌, ◌++◌, Option, None, Some, Ok, Err, refl, sym, ap, ◌∙◌, subst, append-nil}
use Rattle.elem_core.specs.Tree.{Tree}
use Rattle.elem_core.specs.declared.why.Cause.{Cause}
use Rattle.port_core.specs.Picks.{Picks, plan_of, next_move, behind_next, may_end}
use Rattle.port_core.specs.declared.pick_log.Next.{Next}
use Rattle.port_core.specs.declared.pick_log.Next.TheVariants.{Move}
use Rattle.port_core.specs.declared.act.Act.{Act}
use Rattle.port_core.specs.declared.act.Act.TheVariants.{Pull, Push, Complete, FailOut, Cancel}
use Rattle.port_core.specs.declared.view.InView.{InView}
use Rattle.port_core.specs.declared.view.InView.TheVariants.{Idle, Pulled, Finished, Cancelled}
use Rattle.port_core.specs.declared.view.OutView.{OutView}
use Rattle.port_core.specs.declared.view.OutView.TheVariants as outlet
use Rattle.port_core.specs.ListFunction.{ListFunction, Same}
use Rattle.port_core.specs.View.{View, OneOneOf, acted_all, unpulled_ports}
use Rattle.port_core.specs.Call.{Call, starts, arrives, Meets, seen, Obeys}
use Rattle.elem_core.specs.declared.item.Item.TheVariants as item
use Rattle.stream_model.specs.Outlook.{End}
use Rattle.stream_model.specs.FanIn.{Tagged}
use Rattle.stream_model.specs.Machine.{Given}
use Rattle.stream_model.specs.Substreams.{Sub, end_all}
use Rattle.step_work.specs.Means.{Means}
use Rattle.stage_core.specs.declared.phase.Phase.{Phase}
use Rattle.stage_core.specs.declared.phase.Phase.TheVariants.{New, Open, Closed}
use Rattle.stream_model.specs.declared.kind.Kind.{Kind}
use Rattle.stage_core.specs.Seats.{wish}
use Rattle.stage_sub.specs.Handling.{BeginsAs, SubFresh}
use Rattle.stage_sub.specs.LedLaws.{LedBegins}
use Rattle.stage_sub.specs.Logs.{moves_in}
use Rattle.stage_sub.specs.Moves.{noted}
use Rattle.stage_sub.specs.KeptSubs.{KeptSubs, Keeps, TakesBy}
use Rattle.stage_sub.specs.Subs.{SubsReach}
use Rattle.stage_sub.specs.Picking.{first_of_sub}
use Rattle.stage_sub.specs.States as free
use Rattle.stage_sub.specs.States.{Logic, cause_of_blame}
use Rattle.stage_sub.specs.declared.blame.Blame.{Blame}
use Rattle.stage_sub.specs.Leds.{Led, led_input, LedFresh, led_at, led_in, sub_plan, led_port_state, port_state_by, LedTurned, turned_by, Unled, Followed, TookUp, EndedUp, LedGoesOn, LedServed, LedServing, gives, keeps, GivesOf, LedSettling, completes, stops, asks, rests, gave_of, asked_now, taken_now, over_now, closed_now, stuck_now, left_in, stuck_in}
use Rattle.stage_sub.proofs.Turning.{on_started}
use Rattle.stage_sub.proofs.LedCalls.{Going, Finds, Handled, finds, goes_on_so, state_led}
use Rattle.stage_sub.proofs.LedIntake.{led_starts, elem_enters, elem_fails, end_enters, end_fails}

-- ---- by whether moves are followed

module _ {C : Type 0} (whole rest : C → ListFunction) (is_open : C → Bool) (call : Call) (old new : Led C) (acts : List Act) where
  led_turned : old.left ≢ None → Followed whole rest is_open call old acts new → LedTurned whole rest is_open call old acts new
  led_turned n t = by_left old.left refl
    where
      by_left : (o : Option (List ℕ)) → old.left ≡ o → turned_by o whole rest is_open call old acts new
      by_left None e = absurd (n e)
      by_left (Some l) e = t

  unled_turned : old.left ≡ None → Unled whole rest is_open call old acts new → LedTurned whole rest is_open call old acts new
  unled_turned e t = subst (λ (o : Option (List ℕ)). turned_by o whole rest is_open call old acts new) (sym e) t

  unled_obeys : old.left ≡ None → new.left ≡ None → Obeys call (free.port_state old.logic) (free.port_state new.logic) acts → Obeys call (led_port_state old) (led_port_state new) acts
  unled_obeys e k o = record {
    allowed = λ v may r. o.allowed v may (subst (λ (x : Option (List ℕ)). port_state_by x old v) e r);
    ports = λ v may r. subst (λ (x : Option (List ℕ)). port_state_by x new (acted_all (seen call v) acts)) (sym k) (o.ports v may (subst (λ (x : Option (List ℕ)). port_state_by x old v) e r));
  }

  pub as_led : {T E : Type 0} (r : Result T E) → old.left ≢ None → OnOk r (Followed whole rest is_open call old acts new) → OnOk r (LedTurned whole rest is_open call old acts new)
  as_led (Ok x) n t = led_turned n t
  as_led (Err e) n t = tt

  pub as_unled : {T E : Type 0} (r : Result T E) → old.left ≡ None → OnOk r (Unled whole rest is_open call old acts new) → OnOk r (LedTurned whole rest is_open call old acts new)
  as_unled (Ok x) n t = unled_turned n t
  as_unled (Err e) n t = tt

  pub unled_ports : {T E : Type 0} (r : Result T E) → old.left ≡ None → OnOk r (Unled whole rest is_open call old acts new) → OnOk r (Obeys call (free.port_state old.logic) (free.port_state new.logic) acts) → OnOk r (Obeys call (led_port_state old) (led_port_state new) acts)
  unled_ports (Ok x) n t o = unled_obeys n t.left o
  unled_ports (Err e) n t o = tt

pub unled_meets : {C : Type 0} (call : Call) (l : Led C) → l.left ≡ None → Meets call (led_port_state l) → Meets call (free.port_state l.logic)
unled_meets call l e m = (m.0, (m.1.0, subst (λ (x : Option (List ℕ)). port_state_by x l m.0) e m.1.1))

-- ---- its state as it is kept: a logic beside a log

abbrev pub beside : {C : Type 0} → Logic C → Option Picks → Led C
beside st log = record { logic = record st { moves = moves_in log }; left = left_in log; stuck = stuck_in log }

pub asked_is : {C : Type 0} (old : Led C) (st now : Logic C) (log : Option Picks) → beside st log ≡ old → now ≡ record st { asked = true } → beside now log ≡ asked_now old
asked_is old st now log is e = ap (λ (l : Logic _). beside l log) e ∙ ap asked_now is

pub taken_is : {C : Type 0} (old : Led C) (st now : Logic C) (log : Option Picks) (n : ℕ) → beside st log ≡ old → now ≡ record st { taken = n } → beside now log ≡ taken_now n old
taken_is old st now log n is e = ap (λ (l : Logic _). beside l log) e ∙ ap (taken_now n) is

pub over_is : {C : Type 0} (old : Led C) (st now : Logic C) (log : Option Picks) → beside st log ≡ old → now ≡ record st { over = true } → beside now log ≡ over_now old
over_is old st now log is e = ap (λ (l : Logic _). beside l log) e ∙ ap over_now is

pub closed_is : {C : Type 0} (old : Led C) (st now : Logic C) (log : Option Picks) → beside st log ≡ old → now ≡ record st { phase = Closed } → beside now log ≡ closed_now old
closed_is old st now log is e = ap (λ (l : Logic _). beside l log) e ∙ ap closed_now is

pub opened_is : {C : Type 0} (old : Led C) (st now : Logic C) (log : Option Picks) → beside st log ≡ old → now ≡ record st { phase = Open } → beside now log ≡ record old { logic = record old.logic { phase = Open } }
opened_is old st now log is e = ap (λ (l : Logic _). beside l log) e ∙ ap (λ (l : Led _). record l { logic = record l.logic { phase = Open } }) is

-- with other chains and outputs
pub kept_is : {C : Type 0} (old : Led C) (st now : Logic C) (log : Option Picks) → beside st log ≡ old → now ≡ record st { kept = now.kept; pending = now.pending } → beside now log ≡ record old { logic = record old.logic { kept = now.kept; pending = now.pending } }
kept_is old st now log is e = ap (λ (l : Logic _). beside l log) e ∙ ap (λ (l : Led _). record l { logic = record l.logic { kept = now.kept; pending = now.pending } }) is

-- the first of its substream went out
pub served_so : {C : Type 0} (old : Led C) (st now : Logic C) (log later : Option Picks) (n : ℕ) (before acts : List Act) → beside st log ≡ old → old.logic.asked ≡ true → next_move old.left ≡ Move n → before ≡ [] → GivesOf n true st now before acts
    → moves_in later ≡ noted (moves_in log) (Some n) → left_in later ≡ behind_next (left_in log) → stuck_in later ≡ stuck_in log → LedServed old (beside now later) acts
served_so {C} old st now log later n before acts is on next none g moves left stuck =
    let x = g.0 in
    let os = g.1.0 in
    let to : beside now later ≡ gave_of n os (beside st log) =
    ap (λ (l : Logic C). beside l later) g.1.1.1.0 ∙ ap (λ (ms : Option (List ℕ)). record { logic = record st { pending = os; asked = false; moves = ms }; left = left_in later; stuck = stuck_in later }) moves
    ∙ ap (λ (k : Option (List ℕ)). record { logic = record st { pending = os; asked = false; moves = noted (moves_in log) (Some n) }; left = k; stuck = stuck_in later }) left
    ∙ ap (λ (b : Bool). record { logic = record st { pending = os; asked = false; moves = noted (moves_in log) (Some n) }; left = behind_next (left_in log); stuck = b }) stuck in
    record {
      gave = Some x;
      serving = gives n x os on next (ap (λ (l : Led C). first_of_sub n l.logic.pending) (sym is) ∙ g.1.1.0) refl (to ∙ ap (gave_of n os) is) (g.1.1.1.1 ∙ ap (λ (l : List Act). l ++ Push 0 x.item ∷ []) none);
    }

-- none of it is held
pub served_none : {C : Type 0} (old : Led C) (st now : Logic C) (log : Option Picks) (n : ℕ) (before acts : List Act) → beside st log ≡ old → next_move old.left ≡ Move n → before ≡ [] → GivesOf n false st now before acts → LedServed old (beside now log) acts
served_none {C} old st now log n before acts is next none g = record {
  gave = None;
  serving = keeps (λ on k e. same_number (next_move old.left) n k next e (ap (λ (l : Led C). first_of_sub n l.logic.pending) (sym is) ∙ g.0)) refl (ap (λ (l : Logic C). beside l log) g.1.0 ∙ is) (g.1.1 ∙ none);
}
  where
    same_number : (m : Next) (n k : ℕ) → m ≡ Move n → m ≡ Move k → first_of_sub n old.logic.pending ≡ None → first_of_sub k old.logic.pending ≡ None
    same_number m n k a b h = let z : n ≡ k = cc in subst (λ j. first_of_sub j old.logic.pending ≡ None) z h

-- it is not asked, or no move is to be made
pub unserved : {C : Type 0} (old new : Led C) (acts : List Act) → new ≡ old → acts ≡ [] → (old.logic.asked ≡ true → (n : ℕ) → next_move old.left ≡ Move n → ⊥) → LedServed old new acts
unserved old new acts is none no_move = record { gave = None; serving = keeps (λ on n e. absurd (no_move on n e)) refl is none }

-- it is marked
pub marked_is : {C : Type 0} (old : Led C) (st : Logic C) (log later : Option Picks) → beside st log ≡ old → moves_in later ≡ moves_in log → left_in later ≡ left_in log → stuck_in later ≡ true → beside st later ≡ stuck_now old
marked_is {C} old st log later is moves left stuck =
    ap (λ (ms : Option (List ℕ)). record { logic = record st { moves = ms }; left = left_in later; stuck = stuck_in later }) moves ∙ ap (λ (k : Option (List ℕ)). record { logic = record st { moves = moves_in log }; left = k; stuck = stuck_in later }) left
    ∙ ap (λ (b : Bool). record { logic = record st { moves = moves_in log }; left = left_in log; stuck = b }) stuck ∙ ap stuck_now is

-- ---- the start

free_opened : (over asked : Bool) (p : List Tagged) (x : InView) (y : OutView) → free.port_state_in New over asked p x y → free.port_state_in Open over asked p x y
free_opened false false p Idle outlet.Unpulled r = tt
free_opened false false p Idle outlet.Available r = absurd r
free_opened false false p Idle outlet.Closed r = absurd r
free_opened false false p Idle outlet.Cancelled r = absurd r
free_opened false false p Pulled y r = absurd r
free_opened false false p Finished y r = absurd r
free_opened false false p Cancelled y r = absurd r
free_opened false true p x y r = absurd r
free_opened true asked p x y r = absurd r

free_lists : (over asked : Bool) (p : List Tagged) (xs : List InView) (ys : List OutView) → OneOneOf (free.port_state_in New over asked p) xs ys → OneOneOf (free.port_state_in Open over asked p) xs ys
free_lists over asked p (x ∷ []) (y ∷ []) r = free_opened over asked p x y r
free_lists over asked p [] ys r = absurd r
free_lists over asked p (x ∷ []) [] r = absurd r
free_lists over asked p (x ∷ []) (y ∷ z ∷ ys) r = absurd r
free_lists over asked p (x ∷ u ∷ xs) ys r = absurd r

pub record Begun {C : Type 0} (whole rest : C → ListFunction) (is_open : C → Bool) (old : Led C) (acts : List Act) (new : Led C) : Type 0 where
  pub ports : Obeys starts (led_port_state old) (led_port_state new) acts
  pub gives : LedTurned whole rest is_open starts old acts new

pub begins_so : {C : Type 0} (whole rest : C → ListFunction) (is_open : C → Bool) (old new : Led C) (acts : List Act) → old.stuck ≡ false → old.logic.phase ≡ New → acts ≡ [] → new ≡ record old { logic = record old.logic { phase = Open } } → Begun whole rest is_open old acts new
begins_so {C} whole rest is_open old new acts calm fresh none is = by_left old.left refl
  where
    by_left : (o : Option (List ℕ)) → old.left ≡ o → Begun whole rest is_open old acts new
    by_left (Some l) e =
        let follows : old.left ≢ None = λ n. (let z : Some l ≡ None = sym e ∙ n in cc) in
        let h = led_starts whole rest is_open old new acts follows calm fresh none is in
        record { ports = h.ports; gives = led_turned whole rest is_open starts old new acts follows h.gives }
    by_left None e =
        let left : new.left ≡ None = ap (λ (l : Led C). l.left) is ∙ e in
        let logic : new.logic ≡ record old.logic { phase = Open } = ap (λ (l : Led C). l.logic) is in
        record {
          ports = unled_obeys whole rest is_open starts old new acts e left (rw none (record {
            allowed = λ v may r. tt;
            ports = λ v may r. rw logic (free_lists old.logic.over old.logic.asked old.logic.pending v.ins v.outs (subst (λ (p : Phase). OneOneOf (free.port_state_in p old.logic.over old.logic.asked old.logic.pending) v.ins v.outs) fresh r));
          }));
          gives = unled_turned whole rest is_open starts old new acts e (record {
            turn = subst (λ (l : Logic C). free.Turned whole rest is_open starts old.logic acts l) (sym logic) (on_started whole rest is_open old.logic old.logic (record old.logic { phase = Open }) acts old.logic.moves refl fresh none refl);
            left = left;
            stuck = ap (λ (l : Led C). l.stuck) is;
          });
        }

-- ---- a call that closes it, and one that is served

pub closes_so : {C : Type 0} (whole rest : C → ListFunction) (is_open : C → Bool) (call : Call) (old new : Led C) (acts : List Act) {list : List Act} → new ≡ closed_now old → acts ≡ list → Handled whole rest is_open call old list (closed_now old) → Handled whole rest is_open call old acts new
closes_so whole rest is_open call old new acts is acts_are h = rw (is, acts_are) h

pub failed_so : {C : Type 0} (old : Led C) (st now : Logic C) (log : Option Picks) (n : ℕ) (b : Blame) (acts : List Act) → beside st log ≡ old → now ≡ record st { phase = Closed } → acts ≡ FailOut 0 (cause_of_blame st.node n b) ∷ Cancel 0 ∷ [] → TookUp n (Some b) old (beside now log) acts
failed_so old st now log n b acts is e a = (closed_is old st now log is e, a ∙ ap (λ (l : Led _). FailOut 0 (cause_of_blame l.logic.node n b) ∷ Cancel 0 ∷ []) is)

pub refused_so : {C : Type 0} (old : Led C) (st now : Logic C) (log : Option Picks) (b : Blame) (acts : List Act) → beside st log ≡ old → now ≡ record st { phase = Closed } → acts ≡ FailOut 0 (cause_of_blame st.node 0 b) ∷ [] → EndedUp (Some b) old (beside now log) acts
refused_so old st now log b acts is e a = (closed_is old st now log is e, a ∙ ap (λ (l : Led _). FailOut 0 (cause_of_blame l.logic.node 0 b) ∷ []) is)

module _ {C : Type 0} (whole rest : C → ListFunction) (is_open : C → Bool) (old : Led C) (st mid : Logic C) (log : Option Picks) where
  abbrev kept_then : Led C
  kept_then = record old { logic = record old.logic { kept = mid.kept; pending = mid.pending } }

  abbrev TakesOf : Tree → Led C → Option Blame → Type 0
  TakesOf t l b = (f : ListFunction) → Same (whole l.logic.chain) f → (yields : List Tree → End → Given Tree) → Means yields f → (ss : List Sub) → Keeps rest is_open f yields l.logic.how l.logic.kept ss → TakesBy rest is_open f yields l.logic.how ss t b l.logic.pending mid.pending mid.kept

  abbrev EndsOf : Led C → Option Blame → Type 0
  EndsOf l b = (f : ListFunction) (yields : List Tree → End → Given Tree) → Means yields f → (ss : List Sub) → Keeps rest is_open f yields l.logic.how l.logic.kept ss → SubsReach yields (λ k. ⊤) ss (end_all ss) b l.logic.pending mid.pending

  -- an element came
  pub pushed_so : (new : Led C) (t : Tree) (n : ℕ) (b : Option Blame) (acts : List Act) → Going old → Meets (arrives 0 (item.Elem t)) (led_port_state old) → beside st log ≡ old → n ≡ st.taken + 1 → mid ≡ record st { kept = mid.kept; pending = mid.pending }
      → ((f : ListFunction) → Same (whole st.chain) f → (yields : List Tree → End → Given Tree) → Means yields f → (ss : List Sub) → Keeps rest is_open f yields st.how st.kept ss → TakesBy rest is_open f yields st.how ss t b st.pending mid.pending mid.kept)
      → TookUp n b (beside mid log) new acts → Handled whole rest is_open (arrives 0 (item.Elem t)) old acts new
  pushed_so new t n b acts g m is count stays takes took = by_blame b (subst (λ (l : Led C). TakesOf t l b) is takes) (subst (λ (l : Led C). TookUp n b l new acts) (kept_is old st mid log is stays) took)
    where
      counted : n ≡ old.logic.taken + 1
      counted = count ∙ ap (λ (l : Led C). l.logic.taken + 1) is

      found : Finds (arrives 0 (item.Elem t)) old
      found = finds (arrives 0 (item.Elem t)) old g m

      by_blame : (b : Option Blame) → TakesOf t old b → TookUp n b kept_then new acts → Handled whole rest is_open (arrives 0 (item.Elem t)) old acts new
      by_blame None k q = goes_on_so whole rest is_open (arrives 0 (item.Elem t)) old (taken_now n kept_then) new acts g found.kept (elem_enters whole rest is_open old g t n mid.kept mid.pending found counted k) q
      by_blame (Some x) k q = rw (q.0, q.1) (elem_fails whole rest is_open old g t n x mid.kept mid.pending found counted k)

  -- the input has ended
  pub finished_so : (new : Led C) (b : Option Blame) (acts : List Act) → Going old → Meets (arrives 0 item.Ended) (led_port_state old) → beside st log ≡ old → mid ≡ record st { kept = mid.kept; pending = mid.pending }
      → ((f : ListFunction) (yields : List Tree → End → Given Tree) → Means yields f → (ss : List Sub) → Keeps rest is_open f yields st.how st.kept ss → SubsReach yields (λ k. ⊤) ss (end_all ss) b st.pending mid.pending)
      → EndedUp b (beside mid log) new acts → Handled whole rest is_open (arrives 0 item.Ended) old acts new
  finished_so new b acts g m is stays ends ended = by_blame b (subst (λ (l : Led C). EndsOf l b) is ends) (subst (λ (l : Led C). EndedUp b l new acts) (kept_is old st mid log is stays) ended)
    where
      found : Finds (arrives 0 item.Ended) old
      found = finds (arrives 0 item.Ended) old g m

      by_blame : (b : Option Blame) → EndsOf old b → EndedUp b kept_then new acts → Handled whole rest is_open (arrives 0 item.Ended) old acts new
      by_blame None k q = goes_on_so whole rest is_open (arrives 0 item.Ended) old (over_now kept_then) new acts g found.kept (end_enters whole rest is_open old g mid.kept mid.pending found k) q
      by_blame (Some x) k q = rw (q.0, q.1) (end_fails whole rest is_open old g x mid.kept mid.pending found k)

-- ---- one that is handed moves

-- an empty log of these moves in place of one that made none
pub follow_begins : {C : Type 0} (rest : C → ListFunction) (is_open : C → Bool) (node : ℕ) (kind : Kind) (chain : C) (old : Led C) (st : Logic C) (was now : Option Picks) (log : Picks) (moves : List ℕ) → beside st was ≡ old → old.logic.moves ≡ Some [] → now ≡ Some log → log.moves ≡ [] → log.left ≡ Some moves → log.stuck ≡ false
    → LedBegins rest is_open node kind chain old → LedBegins rest is_open node kind chain (beside st now)
follow_begins {C} rest is_open node kind chain old st was now log moves is none to_is made left calm b =
    let logic : (beside st now).logic ≡ old.logic =
    ap (λ (p : Option Picks). record st { moves = moves_in p }) to_is ∙ ap (λ (ms : List ℕ). record st { moves = Some ms }) made ∙ ap (λ (ms : Option (List ℕ)). record st { moves = ms }) (sym none) ∙ ap (λ (l : Led C). record st { moves = l.logic.moves }) (sym is) ∙ ap (λ (l : Led C). l.logic) is in
    let left_is : (beside st now).left ≡ Some moves = ap left_in to_is ∙ left in
    let calm_is : (beside st now).stuck ≡ false = ap stuck_in to_is ∙ calm in
    let unmoved : (beside st now).logic.moves ≡ Some [] = ap (λ (l : Logic C). l.moves) logic ∙ none in
    record {
      as_kind = subst (λ (l : Logic C). BeginsAs kind node chain l) (sym logic) b.as_kind;
      fresh = record {
        core = subst (λ (l : Logic C). SubFresh rest is_open l unpulled_ports) (sym logic) b.fresh.core;
        calm = calm_is;
        log = λ n. unmoved;
        ports = fresh_ports (beside st now) (λ n. (let z : Some moves ≡ None = sym left_is ∙ n in cc)) calm_is unmoved (subst (λ (l : Logic C). SubFresh rest is_open l unpulled_ports) (sym logic) b.fresh.core);
      };
    }
  where
    -- nobody asked, and nothing is held
    unasked_ports : (l : Led C) → l.logic.moves ≡ Some [] → (p : Phase) (over asked : Bool) → p ≡ New → l.logic.over ≡ over → l.logic.asked ≡ asked → free.port_state_in p over asked l.logic.pending Idle outlet.Unpulled → LedFresh l Idle outlet.Unpulled
    unasked_ports l ms New false false p o a r = record {
      rests = record {
        input = sym (ap (λ (b : Bool). led_input b l.logic.asked l.logic.pending) o ∙ ap (λ (b : Bool). led_input false b l.logic.pending) a);
        output = sym (ap wish a);
        logs = λ n. (let z : Some [] ≡ None = sym ms ∙ n in cc);
        holds = λ on some. absurd (some r);
        over = λ on none. absurd (let z : true ≡ false = sym on ∙ o in cc);
      };
      empty = r;
      going = o;
      unasked = a;
    }
    unasked_ports l ms New false true p o a r = absurd r
    unasked_ports l ms New true asked p o a r = absurd r
    unasked_ports l ms Open over asked p o a r = cc
    unasked_ports l ms Closed over asked p o a r = cc

    fresh_ports : (l : Led C) → l.left ≢ None → l.stuck ≡ false → l.logic.moves ≡ Some [] → SubFresh rest is_open l.logic unpulled_ports → led_port_state l unpulled_ports
    fresh_ports l n calm ms f = state_led l unpulled_ports n (subst (λ (b : Bool). led_in b l Idle outlet.Unpulled) (sym calm) (subst (λ (p : Phase). led_at l p Idle outlet.Unpulled) (sym f.fresh) (unasked_ports l ms l.logic.phase l.logic.over l.logic.asked f.fresh refl refl f.ports)))

pub follow_plan : {C : Type 0} (st : Logic C) (now : Option Picks) (log : Picks) (moves : List ℕ) → now ≡ Some log → log.moves ≡ [] → log.left ≡ Some moves → sub_plan (beside st now) ≡ Some moves
follow_plan st now log moves to_is made left =
    ap (λ (p : Option Picks). sub_plan (beside st p)) to_is ∙ ap (λ (ms : List ℕ). plan_of ms log.left) made ∙ ap (λ (k : Option (List ℕ)). plan_of [] k) left

-- a new one that follows nothing
pub new_begins : {C : Type 0} (rest : C → ListFunction) (is_open : C → Bool) (node : ℕ) (kind : Kind) (chain : C) (l : Led C) → BeginsAs kind node chain l.logic → SubFresh rest is_open l.logic unpulled_ports → l.left ≡ None → l.stuck ≡ false → LedBegins rest is_open node kind chain l
new_begins rest is_open node kind chain l as_kind core left calm = record {
  as_kind = as_kind;
  fresh = record { core = core; calm = calm; log = λ n. absurd (n left); ports = subst (λ (o : Option (List ℕ)). port_state_by o l unpulled_ports) (sym left) core.ports };
}
