-- How each call is taken in by a stage with substreams that follows moves, and what a call that closes it owes.
use Rattle.std.specs.Prelude.{◌≢◌, ⊤, option_to_list}
use Rattle.std.proofs.Common.{◌≡◌, inl, inr, ℕ, zero, suc, ◌+◌, Bool, true, false, List, [], ◌∷◌, ◌++◌, Option, None, Some, Ok, Err, refl, sym, ap, ◌∙◌, subst, append-nil}
use Rattle.std.proofs.lemmas.Option.{same_Some}
use Rattle.elem_core.specs.Tree.{Tree}
use Rattle.elem_core.specs.declared.item.Item.{Item}
use Rattle.elem_core.specs.declared.item.Item.TheVariants as item
use Rattle.elem_core.specs.declared.why.Why.{Why}
use Rattle.elem_core.specs.declared.why.Cause.{Cause}
use Rattle.port_core.specs.Picks.{plan_of}
use Rattle.port_core.specs.declared.act.Act.{Act}
use Rattle.port_core.specs.declared.act.Act.TheVariants.{FailOut, Cancel}
use Rattle.port_core.specs.declared.view.InView.{InView}
use Rattle.port_core.specs.declared.view.InView.TheVariants.{Idle, Pulled, Finished, Cancelled}
use Rattle.port_core.specs.declared.view.OutView.{OutView}
use Rattle.port_core.specs.declared.view.OutView.TheVariants as outlet
use Rattle.port_core.specs.View.{View, OneOneOf, IsInOpen, IsOutOpen, ActsAllowed, acted_all}
use Rattle.port_core.specs.Asking.{PullsStand}
use Rattle.port_core.specs.Call.{Call, starts, pulls, arrives, cancels, MayCome, came, CallAllowed, seen, Obeys, Meets, given_on}
use Rattle.port_core.specs.ListFunction.{ListFunction, Same}
use Rattle.stream_model.specs.Outlook.{End, unended, failed}
use Rattle.stream_model.specs.FanIn.{Tagged}
use Rattle.stream_model.specs.Machine.{State, going, done, broken, Run, Finish, adds, refuses, Machine, Given}
use Rattle.stream_model.specs.Substreams.{Sub, Subs, Opening, Fault, arranged, trouble, news, end_all, why_of, blame, blame_end, cause_of, sub_step, sub_finish, substreams}
use Rattle.stage_core.specs.Held.{told}
use Rattle.stage_core.specs.Seats.{wish}
use Rattle.stage_core.specs.declared.phase.Phase.{Phase}
use Rattle.stage_core.specs.declared.phase.Phase.TheVariants.{New, Open, Closed}
use Rattle.stage_core.proofs.Closings.{open_wish}
use Rattle.step_work.specs.Means.{Means}
use Rattle.stage_sub.specs.KeptSubs.{KeptSubs, opening_of, Keeps, TakesBy}
use Rattle.stage_sub.specs.Moves.{noted, port_in, added, arising}
use Rattle.stage_sub.specs.States.{Logic, StateIs, cause_of_blame, cancel_acts}
use Rattle.stage_sub.specs.Subs.{SubsReach, fault_in_model}
use Rattle.stage_sub.specs.declared.blame.Blame.{Blame}
use Rattle.stage_sub.specs.declared.blame.Blame.TheVariants.{AtElement, AtEnd}
use Rattle.stage_sub.specs.Leds.{Led, made_moves, sub_plan, led_input_by, led_input, LedHalted, led_at, led_in, led_port_state, then_state, EndAdds, EndsWell, MayGoOn, LedStep, goes, breaks, refuses_end, fails, leaves, Followed, asked_now, taken_now, over_now, closed_now}
use Rattle.stage_sub.proofs.Pushing.{stepped, stepped_fault, stepped_err}
use Rattle.stage_sub.proofs.Turning.{none_noted}
use Rattle.stage_sub.proofs.LedCalls.{one, Going, Kept, Finds, Handled, shown, quiet_in, entered, Enters, Tells, obeys_by, led_state, state_led, same_state}

flag_differs : {b : Bool} → b ≡ true → b ≡ false → ⊥
flag_differs e f = cc

-- ---- what is known of its input

-- one that waits goes on and holds nothing
record Waits (over asked : Bool) (p : List Tagged) : Type 0 where
  going_on : over ≡ false
  on : asked ≡ true
  none : p ≡ []

waits_of : (over asked : Bool) (p : List Tagged) → led_input over asked p ≡ Pulled → Waits over asked p
waits_of true asked p h = cc
waits_of false true [] h = record { going_on = refl; on = refl; none = refl }
waits_of false true (x ∷ p) h = cc
waits_of false false p h = cc

open_going : (over asked : Bool) (p : List Tagged) → IsInOpen (led_input over asked p) → over ≡ false
open_going true asked p h = absurd h
open_going false asked p h = refl

come_open : (b : Item) (x : InView) → MayCome b x → IsInOpen x
come_open (item.Elem t) x h = subst IsInOpen (sym h) tt
come_open item.Ended x h = h
come_open (item.Failed c) x h = h

unasked_quiet : (over asked : Bool) (p : List Tagged) → asked ≡ false → led_input over asked p ≡ quiet_in over
unasked_quiet true asked p h = refl
unasked_quiet false true p h = cc
unasked_quiet false false p h = refl

wish_asked : (b : Bool) → wish b ≡ outlet.Unpulled → b ≡ false
wish_asked true h = cc
wish_asked false h = refl

-- ---- its machine

-- the state that it stands for where its input goes on
record At {C : Type 0} (rest : C → ListFunction) (is_open : C → Bool) (f : ListFunction) (yields : List Tree → End → Given Tree) (l : Logic C) (st : State Subs) : Type 0 where
  s : Subs
  is : st ≡ going s
  node : s.node ≡ l.node
  taken : s.taken ≡ l.taken
  keeps : Keeps rest is_open f yields l.how l.kept s.subs

at_state : {C : Type 0} (rest : C → ListFunction) (is_open : C → Bool) (f : ListFunction) (yields : List Tree → End → Given Tree) (over : Bool) (l : Logic C) (st : State Subs) → over ≡ false → StateIs rest is_open f yields over l st → At rest is_open f yields l st
at_state rest is_open f yields false l st e h = record { s = h.0; is = h.1.0; node = h.1.1.0; taken = h.1.1.1.0; keeps = h.1.1.1.1 }
at_state rest is_open f yields true l st e h = cc

abbrev finish_of : (yields : List Tree → End → Given Tree) (s : Subs) → Option Fault → Finish Tagged
finish_of yields s (Some v) = refuses (blame_end s (why_of v))
finish_of yields s None = adds (news yields 0 s.subs (end_all s.subs))

finish_by : (yields : List Tree → End → Given Tree) (s : Subs) (v : Option Fault) → (elim v as (λ _. Finish Tagged) [ Some k ↦ refuses (blame_end s (why_of k)) | None ↦ adds (news yields 0 s.subs (end_all s.subs)) ]) ≡ finish_of yields s v
finish_by yields s (Some v) = refl
finish_by yields s None = refl

finish_is : (yields : List Tree → End → Given Tree) (s : Subs) (v : Option Fault) → trouble yields (end_all s.subs) ≡ v → sub_finish yields s ≡ finish_of yields s v
finish_is yields s v e = finish_by yields s (trouble yields (end_all s.subs)) ∙ ap (finish_of yields s) e

end_cause : (s : Subs) (node : ℕ) (b : Blame) → s.node ≡ node → blame_end s (why_of (fault_in_model b)) ≡ cause_of_blame node 0 b
end_cause s node (AtElement w) e = ap (λ k. record { stage = k; nth = 0; why = w }) e
end_cause s node (AtEnd w) e = ap (λ k. record { stage = k; nth = 0; why = w }) e

elem_cause : (s : Subs) (node n : ℕ) (b : Blame) → s.node ≡ node → s.taken + 1 ≡ n → cause_of s (fault_in_model b) ≡ cause_of_blame node n b
elem_cause s node n (AtElement w) e h = ap (λ k. record { stage = k; nth = s.taken + 1; why = w }) e ∙ ap (λ k. record { stage = node; nth = k; why = w }) h
elem_cause s node n (AtEnd w) e h = ap (λ k. record { stage = k; nth = 0; why = w }) e

module _ {C : Type 0} (whole rest : C → ListFunction) (is_open : C → Bool) (old : Led C) (g : Going old) where
  -- ---- the output was asked

  pub asked_enters : Finds (pulls 0) old → Enters whole rest is_open (pulls 0) old (asked_now old)
  asked_enters found =
      let off : old.logic.asked ≡ false = wish_asked old.logic.asked found.may in
      record {
        phase_is = g.phase_is;
        calm = g.calm;
        left = refl;
        moves = refl;
        node = refl;
        how = refl;
        chain = refl;
        over = refl;
        sees = ap (λ (x : InView). one x outlet.Available) (unasked_quiet old.logic.over old.logic.asked old.logic.pending off);
        may = tt;
        tells = λ f same yields means st is. record {
          held = sym (append-nil old.logic.pending);
          state = same_state rest is_open f yields old.logic.over old.logic (asked_now old).logic st refl refl refl refl is;
          well = tt;
        };
      }

  -- with these chains and outputs
  abbrev kept_now : KeptSubs C → List Tagged → Led C
  kept_now k p = record old { logic = record old.logic { kept = k; pending = p } }

  -- its machine
  abbrev m_of : (List Tree → End → Given Tree) → Machine Subs Tagged
  m_of yields = substreams yields (opening_of old.logic.how)

  -- ---- an element came

  abbrev TakesAll : Tree → Option Blame → KeptSubs C → List Tagged → Type 0
  TakesAll t b k p = (f : ListFunction) → Same (whole old.logic.chain) f → (yields : List Tree → End → Given Tree) → Means yields f → (ss : List Sub) → Keeps rest is_open f yields old.logic.how old.logic.kept ss → TakesBy rest is_open f yields old.logic.how ss t b old.logic.pending p k

  pub elem_enters : (t : Tree) (n : ℕ) (k : KeptSubs C) (p : List Tagged) → Finds (arrives 0 (item.Elem t)) old → n ≡ old.logic.taken + 1 → TakesAll t None k p → Enters whole rest is_open (arrives 0 (item.Elem t)) old (taken_now n (kept_now k p))
  elem_enters t n k p found count takes = record {
    phase_is = g.phase_is;
    calm = g.calm;
    left = refl;
    moves = refl;
    node = refl;
    how = refl;
    chain = refl;
    over = refl;
    sees = ap (λ (b : Bool). one (quiet_in b) (wish old.logic.asked)) (sym w.going_on);
    may = w.none;
    tells = λ f same yields means st is. tells_elem f same yields means st is;
  }
    where
      w : Waits old.logic.over old.logic.asked old.logic.pending
      w = waits_of old.logic.over old.logic.asked old.logic.pending found.may

      tells_elem : (f : ListFunction) → Same (whole old.logic.chain) f → (yields : List Tree → End → Given Tree) → Means yields f → (st : State Subs) → StateIs rest is_open f yields old.logic.over old.logic st → Tells whole rest is_open (arrives 0 (item.Elem t)) old (taken_now n (kept_now k p)) f yields st
      tells_elem f same yields means st is = by_takes (takes f same yields means a.s.subs a.keeps)
        where
          a : At rest is_open f yields old.logic st
          a = at_state rest is_open f yields old.logic.over old.logic st w.going_on is

          by_takes : TakesBy rest is_open f yields old.logic.how a.s.subs t None old.logic.pending p k → Tells whole rest is_open (arrives 0 (item.Elem t)) old (taken_now n (kept_now k p)) f yields st
          by_takes (inl (y, (e, q))) = cc
          by_takes (inr (now, (e, h))) =
              let step : sub_step yields (opening_of old.logic.how) a.s t ≡ record { gave = news yields 0 a.s.subs now; state = going (record { node = a.s.node; taken = a.s.taken + 1; subs = now }) } = stepped yields a.s (opening_of old.logic.how) t now e h.0 in
              let arose : arising (m_of yields) (arrives 0 (item.Elem t)) st ≡ news yields 0 a.s.subs now = ap (λ (x : State Subs). arising (m_of yields) (arrives 0 (item.Elem t)) x) a.is ∙ ap (λ (r : Run Subs Tagged). r.gave) step in
              let then_is : then_state (m_of yields) (arrives 0 (item.Elem t)) st ≡ going (record { node = a.s.node; taken = a.s.taken + 1; subs = now }) = ap (λ (x : State Subs). then_state (m_of yields) (arrives 0 (item.Elem t)) x) a.is ∙ ap (λ (r : Run Subs Tagged). r.state) step in
              record {
                held = h.1.0 ∙ ap (λ (l : List Tagged). old.logic.pending ++ l) (sym arose);
                state = subst (λ (b : Bool). StateIs rest is_open f yields b (taken_now n (kept_now k p)).logic (then_state (m_of yields) (arrives 0 (item.Elem t)) st)) (sym w.going_on)
                    (record { node = a.s.node; taken = a.s.taken + 1; subs = now }, (then_is, (a.node, (ap (λ j. j + 1) a.taken ∙ sym count, h.1.1))));
                well = tt;
              }

  -- ---- the input has ended

  abbrev EndsAll : Option Blame → List Tagged → Type 0
  EndsAll b p = (f : ListFunction) (yields : List Tree → End → Given Tree) → Means yields f → (ss : List Sub) → Keeps rest is_open f yields old.logic.how old.logic.kept ss → SubsReach yields (λ k. ⊤) ss (end_all ss) b old.logic.pending p

  pub end_enters : (k : KeptSubs C) (p : List Tagged) → Finds (arrives 0 item.Ended) old → EndsAll None p → Enters whole rest is_open (arrives 0 item.Ended) old (over_now (kept_now k p))
  end_enters k p found ends_all = record {
    phase_is = g.phase_is;
    calm = g.calm;
    left = refl;
    moves = refl;
    node = refl;
    how = refl;
    chain = refl;
    over = refl;
    sees = refl;
    may = tt;
    tells = λ f same yields means st is. tells_end f yields means st is;
  }
    where
      off : old.logic.over ≡ false
      off = open_going old.logic.over old.logic.asked old.logic.pending found.may

      tells_end : (f : ListFunction) (yields : List Tree → End → Given Tree) → Means yields f → (st : State Subs) → StateIs rest is_open f yields old.logic.over old.logic st → Tells whole rest is_open (arrives 0 item.Ended) old (over_now (kept_now k p)) f yields st
      tells_end f yields means st is = by_ends (ends_all f yields means a.s.subs a.keeps)
        where
          a : At rest is_open f yields old.logic st
          a = at_state rest is_open f yields old.logic.over old.logic st off is

          by_ends : SubsReach yields (λ k. ⊤) a.s.subs (end_all a.s.subs) None old.logic.pending p → Tells whole rest is_open (arrives 0 item.Ended) old (over_now (kept_now k p)) f yields st
          by_ends h =
              let fin : (m_of yields).finish a.s ≡ adds (news yields 0 a.s.subs (end_all a.s.subs)) = finish_is yields a.s None h.0 in
              let arose : arising (m_of yields) (arrives 0 item.Ended) st ≡ news yields 0 a.s.subs (end_all a.s.subs) = ap (λ (x : State Subs). arising (m_of yields) (arrives 0 item.Ended) x) a.is ∙ ap added fin in
              let over : then_state (m_of yields) (arrives 0 item.Ended) st ≡ done = ap (λ (x : State Subs). then_state (m_of yields) (arrives 0 item.Ended) x) a.is in
              let adds_all : EndAdds ((m_of yields).finish a.s) = subst EndAdds (sym fin) tt in
              record {
                held = h.1.0 ∙ ap (λ (l : List Tagged). old.logic.pending ++ l) (sym arose);
                state = over;
                well = subst (λ (x : State Subs). EndsWell (m_of yields) (arrives 0 item.Ended) x) (sym a.is) adds_all;
              }

  -- ---- a call that closes it

  abbrev Steps : Call → Led C → End → Type 0
  Steps call new closing = (f : ListFunction) → Same (whole old.logic.chain) f → (yields : List Tree → End → Given Tree) → Means yields f → (st : State Subs) → StateIs rest is_open f yields old.logic.over old.logic st
      → LedStep rest is_open f yields (substreams yields (opening_of old.logic.how)) call old None closing new st

  -- the logic that is closed, with what was kept and is held
  abbrev closed_with : KeptSubs C → List Tagged → Led C
  closed_with k p = closed_now (kept_now k p)

  closed_handled : (call : Call) (k : KeptSubs C) (p : List Tagged) (all : List Act) (closing : End) (x : InView) (y : OutView) → ActsAllowed (seen call (shown old)) all → acted_all (seen call (shown old)) all ≡ one x y → led_at (closed_with k p) Closed x y
      → given_on 0 all ≡ told [] closing → PullsStand all → Steps call (closed_with k p) closing → Handled whole rest is_open call old all (closed_with k p)
  closed_handled call k p all closing x y allowed shows row out stand step = record {
    ports = obeys_by call old (closed_with k p) all g allowed (subst (λ (w : View). led_port_state (closed_with k p) w) (sym shows) (state_led (closed_with k p) (one x y) g.follows (subst (λ (b : Bool). led_in b (closed_with k p) x y) (sym g.calm) row)));
    gives = record {
      gave = None;
      closing = closing;
      out = out;
      step = λ calm f same yields means st is. step f same yields means st is;
      moves = none_noted old.logic.moves;
      follows = g.follows;
      plan = refl;
      node = refl;
      how = refl;
      chain = refl;
      stands = stand;
      started = λ e. cc;
      still = λ stuck. absurd (flag_differs stuck g.calm);
    };
  }

  -- an element fails it
  pub elem_fails : (t : Tree) (n : ℕ) (b : Blame) (k : KeptSubs C) (p : List Tagged) → Finds (arrives 0 (item.Elem t)) old → n ≡ old.logic.taken + 1 → TakesAll t (Some b) k p
      → Handled whole rest is_open (arrives 0 (item.Elem t)) old (FailOut 0 (cause_of_blame old.logic.node n b) ∷ Cancel 0 ∷ []) (closed_with k p)
  elem_fails t n b k p found count takes =
      closed_handled (arrives 0 (item.Elem t)) k p (FailOut 0 c ∷ Cancel 0 ∷ []) (failed c) Cancelled outlet.Closed (open_wish old.logic.asked, (tt, tt)) refl tt refl tt (λ f same yields means st is. breaks_at f same yields means st is)
    where
      c : Cause
      c = cause_of_blame old.logic.node n b

      w : Waits old.logic.over old.logic.asked old.logic.pending
      w = waits_of old.logic.over old.logic.asked old.logic.pending found.may

      breaks_at : Steps (arrives 0 (item.Elem t)) (closed_with k p) (failed c)
      breaks_at f same yields means st is = by_takes (takes f same yields means a.s.subs a.keeps)
        where
          a : At rest is_open f yields old.logic st
          a = at_state rest is_open f yields old.logic.over old.logic st w.going_on is

          broke : (d : Cause) → d ≡ c → sub_step yields (opening_of old.logic.how) a.s t ≡ record { gave = []; state = broken d } → LedStep rest is_open f yields (m_of yields) (arrives 0 (item.Elem t)) old None (failed c) (closed_with k p) st
          broke d e step =
              breaks t c refl w.none
              (ap (λ (x : State Subs). then_state (m_of yields) (arrives 0 (item.Elem t)) x) a.is ∙ ap (λ (r : Run Subs Tagged). r.state) step ∙ ap (λ (x : Cause). broken x) e)
              (ap (λ (x : State Subs). arising (m_of yields) (arrives 0 (item.Elem t)) x) a.is ∙ ap (λ (r : Run Subs Tagged). r.gave) step)
              refl refl refl g.calm

          by_takes : TakesBy rest is_open f yields old.logic.how a.s.subs t (Some b) old.logic.pending p k → LedStep rest is_open f yields (m_of yields) (arrives 0 (item.Elem t)) old None (failed c) (closed_with k p) st
          by_takes (inl (y, (e, q))) =
              let same_b : b ≡ AtElement y = same_Some b (AtElement y) q in
              broke (blame a.s y) (ap (λ j. record { stage = j; nth = a.s.taken + 1; why = y }) a.node ∙ ap (λ j. record { stage = old.logic.node; nth = j; why = y }) (ap (λ j. j + 1) a.taken ∙ sym count) ∙ ap (cause_of_blame old.logic.node n) (sym same_b)) (stepped_err yields a.s (opening_of old.logic.how) t y e)
          by_takes (inr (now, (e, h))) = broke (cause_of a.s (fault_in_model b)) (elem_cause a.s old.logic.node n b a.node (ap (λ j. j + 1) a.taken ∙ sym count)) (stepped_fault yields a.s (opening_of old.logic.how) t now (fault_in_model b) e h)

  -- the end of the input fails it
  pub end_fails : (b : Blame) (k : KeptSubs C) (p : List Tagged) → Finds (arrives 0 item.Ended) old → EndsAll (Some b) p → Handled whole rest is_open (arrives 0 item.Ended) old (FailOut 0 (cause_of_blame old.logic.node 0 b) ∷ []) (closed_with k p)
  end_fails b k p found ends_all =
      closed_handled (arrives 0 item.Ended) k p (FailOut 0 c ∷ []) (failed c) Finished outlet.Closed (open_wish old.logic.asked, tt) refl tt refl tt (λ f same yields means st is. refuses_at f yields means st is)
    where
      c : Cause
      c = cause_of_blame old.logic.node 0 b

      off : old.logic.over ≡ false
      off = open_going old.logic.over old.logic.asked old.logic.pending found.may

      refuses_at : (f : ListFunction) (yields : List Tree → End → Given Tree) → Means yields f → (st : State Subs) → StateIs rest is_open f yields old.logic.over old.logic st → LedStep rest is_open f yields (substreams yields (opening_of old.logic.how)) (arrives 0 item.Ended) old None (failed c) (closed_with k p) st
      refuses_at f yields means st is =
          let a = at_state rest is_open f yields old.logic.over old.logic st off is in
          refuses_end a.s c refl a.is (finish_is yields a.s (Some (fault_in_model b)) (ends_all f yields means a.s.subs a.keeps) ∙ ap (λ (x : Cause). refuses x) (end_cause a.s old.logic.node b a.node)) refl refl refl g.calm

  -- the input has failed
  pub input_fails : (c : Cause) → Finds (arrives 0 (item.Failed c)) old → Handled whole rest is_open (arrives 0 (item.Failed c)) old (FailOut 0 c ∷ []) (closed_now old)
  input_fails c found =
      closed_handled (arrives 0 (item.Failed c)) old.logic.kept old.logic.pending (FailOut 0 c ∷ []) (failed c) Finished outlet.Closed (open_wish old.logic.asked, tt) refl tt refl tt (λ f same yields means st is. fails_at f yields st is)
    where
      fails_at : (f : ListFunction) (yields : List Tree → End → Given Tree) (st : State Subs) → StateIs rest is_open f yields old.logic.over old.logic st → LedStep rest is_open f yields (substreams yields (opening_of old.logic.how)) (arrives 0 (item.Failed c)) old None (failed c) (closed_now old) st
      fails_at f yields st is = let a = at_state rest is_open f yields old.logic.over old.logic st (open_going old.logic.over old.logic.asked old.logic.pending found.may) is in fails a.s c refl a.is refl refl refl g.calm

  -- the output was cancelled
  pub output_left : Finds (cancels 0) old → Handled whole rest is_open (cancels 0) old (cancel_acts old.logic.over) (closed_now old)
  output_left found = by_over old.logic.over refl
    where
      left_step : Steps (cancels 0) (closed_now old) unended
      left_step f same yields means st is = leaves refl refl refl refl g.calm

      open_in : (asked : Bool) (p : List Tagged) → IsInOpen (led_input false asked p)
      open_in true [] = tt
      open_in true (x ∷ p) = tt
      open_in false p = tt

      by_over : (b : Bool) → old.logic.over ≡ b → Handled whole rest is_open (cancels 0) old (cancel_acts b) (closed_now old)
      by_over true e =
          closed_handled (cancels 0) old.logic.kept old.logic.pending [] unended Finished outlet.Cancelled tt (ap (λ (k : Bool). one (led_input k old.logic.asked old.logic.pending) outlet.Cancelled) e) tt refl tt left_step
      by_over false e =
          closed_handled (cancels 0) old.logic.kept old.logic.pending (Cancel 0 ∷ []) unended Cancelled outlet.Cancelled (subst (λ (k : Bool). IsInOpen (led_input k old.logic.asked old.logic.pending)) (sym e) (open_in old.logic.asked old.logic.pending), tt) refl tt refl tt left_step

-- ---- one that stopped

came_unpulled : (b : Item) → (came b ≡ Cancelled → ⊥) × (came b ≡ Pulled → ⊥)
came_unpulled (item.Elem t) = (λ e. cc, λ e. cc)
came_unpulled item.Ended = (λ e. cc, λ e. cc)
came_unpulled (item.Failed c) = (λ e. cc, λ e. cc)

still_seen : {C : Type 0} (call : Call) (l : Led C) (x : InView) (y : OutView) → LedHalted l x → OneOneOf (led_in true l) (seen call (one x y)).ins (seen call (one x y)).outs
still_seen starts l x y h = h
still_seen (pulls zero) l x y h = record { phase_is = h.phase_is; uncancelled = h.uncancelled; unpulled = h.unpulled }
still_seen (pulls (suc j)) l x y h = h
still_seen (cancels zero) l x y h = record { phase_is = h.phase_is; uncancelled = h.uncancelled; unpulled = h.unpulled }
still_seen (cancels (suc j)) l x y h = h
still_seen (arrives (suc i) b) l x y h = h
still_seen (arrives zero b) l x y h = record { phase_is = h.phase_is; uncancelled = (came_unpulled b).0; unpulled = (came_unpulled b).1 }

still_lists : {C : Type 0} (call : Call) (l : Led C) (xs : List InView) (ys : List OutView) → l.stuck ≡ true → OneOneOf (led_in l.stuck l) xs ys → OneOneOf (led_in l.stuck l) (seen call (record { ins = xs; outs = ys })).ins (seen call (record { ins = xs; outs = ys })).outs
still_lists call l (x ∷ []) (y ∷ []) on r = subst (λ (b : Bool). OneOneOf (led_in b l) (seen call (one x y)).ins (seen call (one x y)).outs) (sym on) (still_seen call l x y (subst (λ (b : Bool). led_in b l x y) on r))
still_lists call l [] ys on r = absurd r
still_lists call l (x ∷ []) [] on r = absurd r
still_lists call l (x ∷ []) (y ∷ z ∷ ys) on r = absurd r
still_lists call l (x ∷ t ∷ xs) ys on r = absurd r

pub stays_still : {C : Type 0} (whole rest : C → ListFunction) (is_open : C → Bool) (call : Call) (l : Led C) (acts : List Act) → l.left ≢ None → l.stuck ≡ true → l.logic.phase ≡ Open → acts ≡ [] → Handled whole rest is_open call l acts l
stays_still whole rest is_open call l acts follows on op none = rw none (record {
  ports = record {
    allowed = λ v may r. tt;
    ports = λ v may r. state_led l (seen call v) follows (still_lists call l v.ins v.outs on (led_state l v follows r));
  };
  gives = record {
    gave = None;
    closing = unended;
    out = refl;
    step = λ calm. absurd (flag_differs on calm);
    moves = none_noted l.logic.moves;
    follows = follows;
    plan = refl;
    node = refl;
    how = refl;
    chain = refl;
    stands = tt;
    started = λ e. (let z : Open ≡ New = sym op ∙ e in cc);
    still = λ stuck. (refl, refl);
  };
})

-- an element comes to none that stopped
pub elem_calm : {C : Type 0} (l : Led C) (t : Tree) → l.left ≢ None → Meets (arrives 0 (item.Elem t)) (led_port_state l) → l.stuck ≡ false
elem_calm l t follows m = by_lists m.0.ins m.0.outs m.1.0 (led_state l m.0 follows m.1.1)
  where
    by_stuck : (x : InView) (y : OutView) (b : Bool) → l.stuck ≡ b → x ≡ Pulled → led_in b l x y → l.stuck ≡ false
    by_stuck x y false e p r = e
    by_stuck x y true e p r = absurd (r.unpulled p)

    by_lists : (xs : List InView) (ys : List OutView) → CallAllowed (arrives 0 (item.Elem t)) (record { ins = xs; outs = ys }) → OneOneOf (led_in l.stuck l) xs ys → l.stuck ≡ false
    by_lists (x ∷ []) (y ∷ []) may r = by_stuck x y l.stuck refl may r
    by_lists [] ys may r = absurd r
    by_lists (x ∷ []) [] may r = absurd r
    by_lists (x ∷ []) (y ∷ z ∷ ys) may r = absurd r
    by_lists (x ∷ u ∷ xs) ys may r = absurd r

-- ---- the start

started_lists : {C : Type 0} (old new : Led C) (xs : List InView) (ys : List OutView) → new ≡ record old { logic = record old.logic { phase = Open } } → old.stuck ≡ false → old.logic.phase ≡ New → OneOneOf (led_in old.stuck old) xs ys → OneOneOf (led_in new.stuck new) xs ys
started_lists old new (x ∷ []) (y ∷ []) is calm fresh r =
    let k = subst (λ (p : Phase). led_at old p x y) fresh (subst (λ (b : Bool). led_in b old x y) calm r) in
    let q = k.rests in
    rw is (subst (λ (b : Bool). led_in b (record old { logic = record old.logic { phase = Open } }) x y) (sym calm) (record { input = q.input; output = q.output; logs = q.logs; holds = q.holds; over = q.over }))
started_lists old new [] ys is calm fresh r = absurd r
started_lists old new (x ∷ []) [] is calm fresh r = absurd r
started_lists old new (x ∷ []) (y ∷ z ∷ ys) is calm fresh r = absurd r
started_lists old new (x ∷ t ∷ xs) ys is calm fresh r = absurd r

pub led_starts : {C : Type 0} (whole rest : C → ListFunction) (is_open : C → Bool) (old new : Led C) (acts : List Act) → old.left ≢ None → old.stuck ≡ false → old.logic.phase ≡ New → acts ≡ [] → new ≡ record old { logic = record old.logic { phase = Open } } → Handled whole rest is_open starts old acts new
led_starts whole rest is_open old new acts follows calm fresh none is = rw none (record {
  ports = record {
    allowed = λ v may r. tt;
    ports = λ v may r. state_led new v (rw is follows) (started_lists old new v.ins v.outs is calm fresh (led_state old v follows r));
  };
  gives = rw is (record {
    gave = None;
    closing = unended;
    out = refl;
    step = λ c f same yields means st at. goes refl refl (sym (append-nil old.logic.pending)) refl (same_state rest is_open f yields old.logic.over old.logic (record old.logic { phase = Open }) st refl refl refl refl at) tt tt (λ stuck. absurd (flag_differs stuck calm));
    moves = none_noted old.logic.moves;
    follows = follows;
    plan = refl;
    node = refl;
    how = refl;
    chain = refl;
    stands = tt;
    started = λ e. cc;
    still = λ stuck. absurd (flag_differs stuck calm);
  });
})
