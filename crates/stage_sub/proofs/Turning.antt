-- The start, an ask and the end of the input, as steps of the stage's machine.
use Rattle.std.proofs.Common.{◌≡◌, ℕ, Bool, true, false, inl, inr, List, [], ◌∷◌, ◌++◌, Option, Some, None, refl, sym, ap, ◌∙◌, subst, arith, append-nil}
use Rattle.stage_core.specs.Fans.{untagged}
use Rattle.std.specs.Prelude.{⊤, IsTrue}
use Rattle.std.proofs.lemmas.List.{map-append}
use Rattle.elem_core.specs.Tree.{Tree}
use Rattle.elem_core.specs.declared.item.Item.TheVariants as item
use Rattle.elem_core.specs.declared.why.Cause.{Cause}
use Rattle.port_core.specs.Asking.{PullsStand}
use Rattle.port_core.specs.declared.act.Act.{Act}
use Rattle.port_core.specs.declared.act.Act.TheVariants.{FailOut}
use Rattle.port_core.specs.Call.{starts, pulls, arrives, cancels, Meets, given_on}
use Rattle.port_core.specs.View.{OneOneOf, in_at, IsInOpen}
use Rattle.port_core.specs.declared.view.InView.{InView}
use Rattle.port_core.specs.declared.view.InView.TheVariants.{Idle, Pulled, Finished, Cancelled}
use Rattle.port_core.specs.declared.view.OutView.{OutView}
use Rattle.port_core.specs.ListFunction.{ListFunction}
use Rattle.stream_model.specs.Outlook.{End, unended, ended, failed}
use Rattle.stream_model.specs.Machine.{State, going, done, Run, Finish, adds, refuses, Machine, Given, is_going}
use Rattle.stream_model.specs.FanIn.{Tagged}
use Rattle.stream_model.specs.Substreams.{Sub, Subs, Fault, end_all, trouble, news, why_of, blame_end, sub_finish, substreams}
use Rattle.stage_core.specs.Held.{told, Held, owing, shut, sealed_by, after}
use Rattle.stage_core.specs.Turn.{Emits, TurnAt}
use Rattle.stage_core.specs.declared.phase.Phase.{Phase}
use Rattle.stage_core.specs.declared.phase.Phase.TheVariants.{New, Open, Closed}
use Rattle.step_work.specs.Means.{Means}
use Rattle.stage_sub.specs.Subs.{SubsReach, fault_in_model}
use Rattle.stage_sub.specs.Joined.{untag_finish, joined_machine}
use Rattle.stage_sub.specs.KeptSubs.{KeptSubs, opening_of, Keeps}
use Rattle.stage_sub.specs.Moves.{noted, port_in, first_output, added, arising}
use Rattle.stage_sub.specs.States.{Logic, port_state, port_state_in, StateIs, Owes, QueuesOutputs, Turned, cause_of_blame, pulled, pulled_acts, finished, finish_acts, finish_gave, cancel_acts}
use Rattle.stage_sub.specs.declared.opening.OpenBy.{OpenBy}
use Rattle.stage_sub.specs.declared.blame.Blame.{Blame}
use Rattle.stage_sub.specs.declared.blame.Blame.TheVariants.{AtElement, AtEnd}
use Rattle.stage_sub.proofs.Pushing.{of_parts}

-- ---- where an end may come, the input has not ended

opens_at : {C : Type 0} (l : Logic C) (over asked : Bool) (p : List Tagged) (x : InView) (y : OutView) → IsInOpen x → l.over ≡ over → port_state_in Open over asked p x y → l.over ≡ false
opens_at l false asked p x y w a r = a
opens_at l true asked p Finished y w a r = absurd w
opens_at l true asked p Cancelled y w a r = absurd w
opens_at l true true p Idle y w a r = absurd r
opens_at l true false p Idle y w a r = absurd r
opens_at l true true p Pulled y w a r = absurd r
opens_at l true false p Pulled y w a r = absurd r

opens_in : {C : Type 0} (l : Logic C) (xs : List InView) (ys : List OutView) → IsInOpen (in_at (record { ins = xs; outs = ys }) 0) → OneOneOf (port_state_in Open l.over l.asked l.pending) xs ys → l.over ≡ false
opens_in l (x ∷ []) (y ∷ []) w r = opens_at l l.over l.asked l.pending x y w refl r
opens_in l [] ys w r = absurd r
opens_in l (x ∷ []) [] w r = absurd r
opens_in l (x ∷ []) (y ∷ z ∷ ys) w r = absurd r
opens_in l (x ∷ u ∷ xs) ys w r = absurd r

pub goes_on : {C : Type 0} (l : Logic C) → l.phase ≡ Open → Meets (arrives 0 item.Ended) (port_state l) → l.over ≡ false
goes_on l h m = opens_in l m.0.ins m.0.outs m.1.0 (subst (λ p. OneOneOf (port_state_in p l.over l.asked l.pending) m.0.ins m.0.outs) h m.1.1)

pub goes_on_still : {C : Type 0} (l : Logic C) (c : Cause) → l.phase ≡ Open → Meets (arrives 0 (item.Failed c)) (port_state l) → l.over ≡ false
goes_on_still l c h m = opens_in l m.0.ins m.0.outs m.1.0 (subst (λ p. OneOneOf (port_state_in p l.over l.asked l.pending) m.0.ins m.0.outs) h m.1.1)

opened_state : {C : Type 0} (rest : C → ListFunction) (is_open : C → Bool) (node n : ℕ) (how : OpenBy) (chain : C) (ms : Option (List ℕ)) (f : ListFunction) (yields : List Tree → End → Given Tree) (kept : KeptSubs C) (p : List Tagged) (asked over : Bool) (st : State Subs)
    → StateIs rest is_open f yields over (of_parts New node n how chain kept p asked over ms) st → StateIs rest is_open f yields over (of_parts Open node n how chain kept p asked over ms) st
opened_state rest is_open node n how chain ms f yields kept p asked false st h = h
opened_state rest is_open node n how chain ms f yields kept p asked true st h = h

-- where no output is given the moves stay
pub none_noted : (ms : Option (List ℕ)) → ms ≡ noted ms None
none_noted None = refl
none_noted (Some ms) = refl

-- the stage before the step has the moves ms; what is kept of it beside its log has the moves ks
module _ {C : Type 0} (whole rest : C → ListFunction) (is_open : C → Bool) (node n : ℕ) (how : OpenBy) (chain : C) (ms ks : Option (List ℕ)) where
  abbrev logic : Phase → KeptSubs C → List Tagged → Bool → Bool → Logic C
  logic ph kept p asked over = of_parts ph node n how chain kept p asked over ms

  abbrev bare : KeptSubs C → List Tagged → Bool → Bool → Logic C
  bare kept p asked over = of_parts Open node n how chain kept p asked over ks

  -- ---- the start

  start_at : (kept : KeptSubs C) (p : List Tagged) (asked over : Bool) → Turned whole rest is_open starts (logic New kept p asked over) [] (logic Open kept p asked over)
  start_at kept p asked over = record {
    gave = None;
    closing = unended;
    out = refl;
    turn = λ f same yields means x h. by_held f yields x h;
    moves = none_noted ms;
    node = refl;
    how = refl;
    chain = refl;
    stands = tt;
    started = λ e. cc;
  }
    where
      by_held : (f : ListFunction) (yields : List Tree → End → Given Tree) (x : Held Subs) → Owes rest is_open f yields (logic New kept p asked over) x
          → (y : Held Subs) × (Owes rest is_open f yields (logic Open kept p asked over) y × (TurnAt (joined_machine yields (opening_of how)) 0 starts x [] y × QueuesOutputs (substreams yields (opening_of how)) starts x (logic New kept p asked over) None (logic Open kept p asked over)))
      by_held f yields (owing x) h = (owing x, ((h.0, opened_state rest is_open node n how chain ms f yields kept p asked over x.state h.1), ((refl, refl), inl (sym (append-nil p)))))
      by_held f yields shut h = absurd h

  -- ---- an ask

  abbrev asked_then : KeptSubs C → List Tagged → Bool → Bool → Logic C
  asked_then kept p asked over = record (pulled (bare kept p asked over) p) { moves = noted ms (port_in (first_output p)) }

  module _ (f : ListFunction) (yields : List Tree → End → Given Tree) (kept : KeptSubs C) where
    abbrev Asks : List Tagged → Bool → Bool → Held Subs → Type 0
    Asks p asked over x =
        (y : Held Subs) × (Owes rest is_open f yields (asked_then kept p asked over) y
        × (TurnAt (joined_machine yields (opening_of how)) 0 (pulls 0) x (given_on 0 (pulled_acts over p)) y × QueuesOutputs (substreams yields (opening_of how)) (pulls 0) x (logic Open kept p asked over) (first_output p) (asked_then kept p asked over)))

    state_kept : (p q : List Tagged) (a b over : Bool) (l k : Option (List ℕ)) (st : State Subs) → StateIs rest is_open f yields over (of_parts Open node n how chain kept p a over l) st → StateIs rest is_open f yields over (of_parts Open node n how chain kept q b over k) st
    state_kept p q a b false l k st h = h
    state_kept p q a b true l k st h = h

    gave_first : (x : Run Subs Tree) (o : Tagged) (os : List Tagged) → x.gave ≡ untagged (o ∷ os) → Emits (joined_machine yields (opening_of how)) x (item.Elem o.item ∷ []) (owing (record { gave = untagged os; state = x.state }))
    gave_first x o os e = (ap (λ (l : List Tree). told l unended) e, refl)

    asks_at : (p : List Tagged) (asked over : Bool) (x : Held Subs) → Owes rest is_open f yields (logic Open kept p asked over) x → Asks p asked over x
    asks_at [] asked over (owing x) h = (owing x, ((h.0, state_kept [] [] asked true over ms (noted ms None) x.state h.1), ((refl, refl), inl refl)))
    asks_at (o ∷ os) asked false (owing x) h = (owing (record { gave = untagged os; state = x.state }), ((refl, h.1), (gave_first x o os h.0, inl (sym (append-nil (o ∷ os))))))
    asks_at (o ∷ []) asked true (owing x) h =
        (shut, (tt, (subst (λ (k : Run Subs Tree). Emits (joined_machine yields (opening_of how)) k (item.Elem o.item ∷ item.Ended ∷ []) shut) (sym (ap (λ (l : List Tree). record { gave = l; state = x.state }) h.0 ∙ ap (λ (k : State Subs). record { gave = o.item ∷ []; state = k }) h.1)) (refl, refl), inl refl)))
    asks_at (o ∷ u ∷ os) asked true (owing x) h = (owing (record { gave = untagged (u ∷ os); state = x.state }), ((refl, h.1), (gave_first x o (u ∷ os) h.0, inl (sym (append-nil (o ∷ u ∷ os))))))
    asks_at p asked over shut h = absurd h

  ask_at : (kept : KeptSubs C) (p : List Tagged) (asked over : Bool) → Turned whole rest is_open (pulls 0) (logic Open kept p asked over) (pulled_acts over p) (asked_then kept p asked over)
  ask_at kept [] asked over = record { gave = None; closing = unended; out = refl; turn = λ f same yields means x h. asks_at f yields kept [] asked over x h; moves = refl; node = refl; how = refl; chain = refl; stands = (tt, tt); started = λ e. cc }
  ask_at kept (o ∷ os) asked false = record { gave = Some o; closing = unended; out = refl; turn = λ f same yields means x h. asks_at f yields kept (o ∷ os) asked false x h; moves = refl; node = refl; how = refl; chain = refl; stands = tt; started = λ e. cc }
  ask_at kept (o ∷ []) asked true = record { gave = Some o; closing = ended; out = refl; turn = λ f same yields means x h. asks_at f yields kept (o ∷ []) asked true x h; moves = refl; node = refl; how = refl; chain = refl; stands = tt; started = λ e. cc }
  ask_at kept (o ∷ u ∷ os) asked true = record { gave = Some o; closing = unended; out = refl; turn = λ f same yields means x h. asks_at f yields kept (o ∷ u ∷ os) asked true x h; moves = refl; node = refl; how = refl; chain = refl; stands = tt; started = λ e. cc }

  -- ---- the end of the input

  abbrev ended_then : KeptSubs C → List Tagged → Bool → Option Blame → Logic C
  ended_then now p asked b = record (finished (bare now p asked false) b) { moves = noted ms (port_in (finish_gave (bare now p asked false) b)) }

  abbrev gave_at_end : KeptSubs C → List Tagged → Bool → Option Blame → Option Tagged
  gave_at_end now p asked b = finish_gave (bare now p asked false) b

  module _ (f : ListFunction) (yields : List Tree → End → Given Tree) (kept now : KeptSubs C) (held : List Tagged) where
    abbrev machine : Machine Subs Tree
    machine = joined_machine yields (opening_of how)

    abbrev tagged_machine : Machine Subs Tagged
    tagged_machine = substreams yields (opening_of how)

    abbrev Ends : List Tagged → Bool → Option Blame → Run Subs Tree → Type 0
    Ends after asked b x =
        (y : Held Subs) × (Owes rest is_open f yields (ended_then now after asked b) y
        × (TurnAt machine 0 (arrives 0 item.Ended) (owing x) (given_on 0 (finish_acts (bare now after asked false) b)) y × QueuesOutputs tagged_machine (arrives 0 item.Ended) (owing x) (logic Open kept held asked false) (gave_at_end now after asked b) (ended_then now after asked b)))

    abbrev Queue : List Tagged → Run Subs Tree → Type 0
    Queue p x = p ≡ held ++ arising tagged_machine (arrives 0 item.Ended) x.state

    -- by what is held once the input has ended
    seals : (p : List Tagged) (asked : Bool) (x : Run Subs Tree) → after machine x item.Ended ≡ record { gave = untagged p; state = done } → Queue p x → Ends p asked None x
    seals [] true x e q = (shut, (tt, (inl (subst (λ k. Emits machine k (item.Ended ∷ []) shut) (sym e) (refl, refl)), inl q)))
    seals [] false x e q = (shut, (tt, (inl (subst (λ k. Emits machine k (item.Ended ∷ []) shut) (sym e) (refl, refl)), inl q)))
    seals (o ∷ os) false x e q = (owing (record { gave = untagged (o ∷ os); state = done }), ((refl, refl), (inl (subst (λ k. Emits machine k [] (owing (record { gave = untagged (o ∷ os); state = done }))) (sym e) (refl, refl)), inl q)))
    seals (o ∷ []) true x e q = (shut, (tt, (inl (subst (λ k. Emits machine k (item.Elem o.item ∷ item.Ended ∷ []) shut) (sym e) (refl, refl)), inl q)))
    seals (o ∷ u ∷ os) true x e q = (owing (record { gave = untagged (u ∷ os); state = done }), ((refl, refl), (inl (subst (λ k. Emits machine k (item.Elem o.item ∷ []) (owing (record { gave = untagged (u ∷ os); state = done }))) (sym e) (refl, refl)), inl q)))

    abbrev of_fault : Subs → Option Fault → Finish Tagged
    of_fault s (Some v) = refuses (blame_end s (why_of v))
    of_fault s None = adds (news yields 0 s.subs (end_all s.subs))

    finish_by : (s : Subs) (v : Option Fault) → (elim v as (λ _. Finish Tagged) [ Some k ↦ refuses (blame_end s (why_of k)) | None ↦ adds (news yields 0 s.subs (end_all s.subs)) ]) ≡ of_fault s v
    finish_by s (Some v) = refl
    finish_by s None = refl

    finish_is : (s : Subs) (v : Option Fault) → trouble yields (end_all s.subs) ≡ v → sub_finish yields s ≡ of_fault s v
    finish_is s v e = finish_by s (trouble yields (end_all s.subs)) ∙ ap (of_fault s) e

    cause_is : (s : Subs) (b : Blame) → s.node ≡ node → blame_end s (why_of (fault_in_model b)) ≡ cause_of_blame node 0 b
    cause_is s (AtElement w) e = ap (λ k. record { stage = k; nth = 0; why = w }) e
    cause_is s (AtEnd w) e = ap (λ k. record { stage = k; nth = 0; why = w }) e

    ends : (after : List Tagged) (asked : Bool) (b : Option Blame) (x : Run Subs Tree) (s : Subs) → x.gave ≡ untagged held → x.state ≡ going s → s.node ≡ node
        → SubsReach yields (λ k. ⊤) s.subs (end_all s.subs) b held after → Ends after asked b x
    ends after_ asked None x s g st sn h =
        let k : Run Subs Tree = record { gave = untagged held; state = going s } in
        let is : x ≡ k = ap (λ (l : List Tree). record { gave = l; state = x.state }) g ∙ ap (λ (q : State Subs). record { gave = untagged held; state = q }) st in
        let fin : sub_finish yields s ≡ adds (news yields 0 s.subs (end_all s.subs)) = finish_is s None h.0 in
        let all : untagged held ++ untagged (news yields 0 s.subs (end_all s.subs)) ≡ untagged after_ = sym (map-append (λ (o : Tagged). o.item) held (news yields 0 s.subs (end_all s.subs))) ∙ ap untagged (sym h.1.0) in
        let e : after machine k item.Ended ≡ record { gave = untagged after_; state = done } =
        ap (λ (q : Finish Tagged). sealed_by machine (untagged held) (untag_finish q)) fin ∙ ap (λ (l : List Tree). record { gave = l; state = done }) all in
        let arose : arising tagged_machine (arrives 0 item.Ended) x.state ≡ news yields 0 s.subs (end_all s.subs) = ap (λ (q : State Subs). arising tagged_machine (arrives 0 item.Ended) q) st ∙ ap added fin in
        seals after_ asked x (ap (λ (q : Run Subs Tree). after machine q item.Ended) is ∙ e) (h.1.0 ∙ ap (λ (l : List Tagged). held ++ l) (sym arose))
    ends after_ asked (Some b) x s g st sn h =
        let fin : sub_finish yields s ≡ refuses (blame_end s (why_of (fault_in_model b))) = finish_is s (Some (fault_in_model b)) h in
        (shut, (tt, (inr (s, (blame_end s (why_of (fault_in_model b)), (st, (ap untag_finish fin, ((inr (omega arith), omega arith), (ap (λ (c : Cause). item.Failed c ∷ []) (sym (cause_is s b sn)), refl)))))), inr (refl, refl))))

  abbrev AllEnd : KeptSubs C → List Tagged → Option Blame → List Tagged → Type 0
  AllEnd kept p b after = (f : ListFunction) (yields : List Tree → End → Given Tree) → Means yields f → (ss : List Sub) → Keeps rest is_open f yields how kept ss → SubsReach yields (λ k. ⊤) ss (end_all ss) b p after

  end_turns : (kept now : KeptSubs C) (p after : List Tagged) (asked : Bool) (b : Option Blame) → AllEnd kept p b after
      → (f : ListFunction) (yields : List Tree → End → Given Tree) → Means yields f → (x : Held Subs) → Owes rest is_open f yields (logic Open kept p asked false) x
      → (y : Held Subs) × (Owes rest is_open f yields (ended_then now after asked b) y
      × (TurnAt (joined_machine yields (opening_of how)) 0 (arrives 0 item.Ended) x (given_on 0 (finish_acts (bare now after asked false) b)) y
      × QueuesOutputs (substreams yields (opening_of how)) (arrives 0 item.Ended) x (logic Open kept p asked false) (gave_at_end now after asked b) (ended_then now after asked b)))
  end_turns kept now p after asked b becomes f yields means shut h = absurd h
  end_turns kept now p after asked b becomes f yields means (owing x) h = let s : Subs = h.1.0 in ends f yields kept now p after asked b x s h.0 h.1.1.0 h.1.1.1.0 (becomes f yields means s.subs h.1.1.1.1.1)

  end_at : (kept now : KeptSubs C) (p after : List Tagged) (asked : Bool) (b : Option Blame) → AllEnd kept p b after
      → Turned whole rest is_open (arrives 0 item.Ended) (logic Open kept p asked false) (finish_acts (bare now after asked false) b) (ended_then now after asked b)
  end_at kept now p [] true None h = record { gave = None; closing = ended; out = refl; turn = λ f same yields means. end_turns kept now p [] true None h f yields means; moves = refl; node = refl; how = refl; chain = refl; stands = tt; started = λ e. cc }
  end_at kept now p [] false None h = record { gave = None; closing = ended; out = refl; turn = λ f same yields means. end_turns kept now p [] false None h f yields means; moves = refl; node = refl; how = refl; chain = refl; stands = tt; started = λ e. cc }
  end_at kept now p (o ∷ os) false None h = record { gave = None; closing = unended; out = refl; turn = λ f same yields means. end_turns kept now p (o ∷ os) false None h f yields means; moves = refl; node = refl; how = refl; chain = refl; stands = tt; started = λ e. cc }
  end_at kept now p (o ∷ []) true None h = record { gave = Some o; closing = ended; out = refl; turn = λ f same yields means. end_turns kept now p (o ∷ []) true None h f yields means; moves = refl; node = refl; how = refl; chain = refl; stands = tt; started = λ e. cc }
  end_at kept now p (o ∷ u ∷ os) true None h = record { gave = Some o; closing = unended; out = refl; turn = λ f same yields means. end_turns kept now p (o ∷ u ∷ os) true None h f yields means; moves = refl; node = refl; how = refl; chain = refl; stands = tt; started = λ e. cc }
  end_at kept now p after asked (Some b) h = record { gave = None; closing = failed (cause_of_blame node 0 b); out = refl; turn = λ f same yields means. end_turns kept now p after asked (Some b) h f yields means; moves = refl; node = refl; how = refl; chain = refl; stands = tt; started = λ e. cc }

  -- ---- a failure of the input, and a cancel of the output

  fail_at : (kept : KeptSubs C) (p : List Tagged) (asked : Bool) (c : Cause) → Turned whole rest is_open (arrives 0 (item.Failed c)) (logic Open kept p asked false) (FailOut 0 c ∷ []) (logic Closed kept p asked false)
  fail_at kept p asked c = record {
    gave = None;
    closing = failed c;
    out = refl;
    turn = λ f same yields means x h. by_held f yields x h;
    moves = none_noted ms;
    node = refl;
    how = refl;
    chain = refl;
    stands = tt;
    started = λ e. cc;
  }
    where
      by_held : (f : ListFunction) (yields : List Tree → End → Given Tree) (x : Held Subs) → Owes rest is_open f yields (logic Open kept p asked false) x
          → (y : Held Subs) × (Owes rest is_open f yields (logic Closed kept p asked false) y × (TurnAt (joined_machine yields (opening_of how)) 0 (arrives 0 (item.Failed c)) x (item.Failed c ∷ []) y × QueuesOutputs (substreams yields (opening_of how)) (arrives 0 (item.Failed c)) x (logic Open kept p asked false) None (logic Closed kept p asked false)))
      by_held f yields (owing x) h =
          let goes : IsTrue (is_going x.state) = ap (λ (k : State Subs). is_going k) h.1.1.0 in
          (shut, (tt, (inr ((goes, inr (omega arith)), (refl, refl)), inr (refl, refl))))
      by_held f yields shut h = absurd h

  cancel_at : (kept : KeptSubs C) (p : List Tagged) (asked over : Bool) → Turned whole rest is_open (cancels 0) (logic Open kept p asked over) (cancel_acts over) (logic Closed kept p asked over)
  cancel_at kept p asked over = record {
    gave = None;
    closing = unended;
    out = none_out over;
    turn = λ f same yields means x h. by_held f yields x h;
    moves = none_noted ms;
    node = refl;
    how = refl;
    chain = refl;
    stands = stands_by over;
    started = λ e. cc;
  }
    where
      none_out : (b : Bool) → given_on 0 (cancel_acts b) ≡ []
      none_out true = refl
      none_out false = refl

      stands_by : (b : Bool) → PullsStand (cancel_acts b)
      stands_by true = tt
      stands_by false = tt

      by_held : (f : ListFunction) (yields : List Tree → End → Given Tree) (x : Held Subs) → Owes rest is_open f yields (logic Open kept p asked over) x
          → (y : Held Subs) × (Owes rest is_open f yields (logic Closed kept p asked over) y × (TurnAt (joined_machine yields (opening_of how)) 0 (cancels 0) x (given_on 0 (cancel_acts over)) y × QueuesOutputs (substreams yields (opening_of how)) (cancels 0) x (logic Open kept p asked over) None (logic Closed kept p asked over)))
      by_held f yields (owing x) h = (shut, (tt, ((none_out over, refl), inr (refl, refl))))
      by_held f yields shut h = absurd h

module _ {C : Type 0} (whole rest : C → ListFunction) (is_open : C → Bool) where
  abbrev with_phase : Logic C → Phase → Logic C
  with_phase l p = of_parts p l.node l.taken l.how l.chain l.kept l.pending l.asked l.over l.moves

  abbrev with_all : Logic C → Phase → Bool → Option (List ℕ) → Logic C
  with_all l p over ms = of_parts p l.node l.taken l.how l.chain l.kept l.pending l.asked over ms

  -- ---- the same, by what a handler's calls say: st was kept beside the log of the moves m

  pub on_started : (old st now : Logic C) (acts : List Act) (m : Option (List ℕ)) → record st { moves = m } ≡ old → old.phase ≡ New → acts ≡ [] → now ≡ record st { phase = Open } → Turned whole rest is_open starts old acts (record now { moves = m })
  on_started old st now acts m is h a n =
      subst (λ (l : Logic C). l.phase ≡ New → Turned whole rest is_open starts l acts (record now { moves = m })) is (λ h. at_old h) h
    where
      at_old : st.phase ≡ New → Turned whole rest is_open starts (record st { moves = m }) acts (record now { moves = m })
      at_old h =
          let core = start_at whole rest is_open st.node st.taken st.how st.chain m m st.kept st.pending st.asked st.over in
          rw (n, a) (subst (λ p. Turned whole rest is_open starts (of_parts p st.node st.taken st.how st.chain st.kept st.pending st.asked st.over m) [] (of_parts Open st.node st.taken st.how st.chain st.kept st.pending st.asked st.over m)) (sym h) core)

  pub on_asked : (old st now : Logic C) (acts : List Act) (port : Option ℕ) (m room ms : Option (List ℕ)) → record st { moves = m } ≡ old → old.phase ≡ Open
      → now ≡ pulled st st.pending → acts ≡ pulled_acts st.over st.pending → port ≡ port_in (first_output st.pending) → room ≡ m → ms ≡ noted room port → Turned whole rest is_open (pulls 0) old acts (record now { moves = ms })
  on_asked old st now acts port m room ms is h n a p r s =
      subst (λ (l : Logic C). l.phase ≡ Open → Turned whole rest is_open (pulls 0) l acts (record now { moves = ms })) is (λ h. at_old h) h
    where
      core : Turned whole rest is_open (pulls 0) (of_parts Open st.node st.taken st.how st.chain st.kept st.pending st.asked st.over m) (pulled_acts st.over st.pending) (record (pulled (with_all st Open st.over st.moves) st.pending) { moves = noted m (port_in (first_output st.pending)) })
      core = ask_at whole rest is_open st.node st.taken st.how st.chain m st.moves st.kept st.pending st.asked st.over

      at_old : st.phase ≡ Open → Turned whole rest is_open (pulls 0) (record st { moves = m }) acts (record now { moves = ms })
      at_old h =
          rw (n, a, s, r, p)
          (subst (λ p. Turned whole rest is_open (pulls 0) (of_parts p st.node st.taken st.how st.chain st.kept st.pending st.asked st.over m) (pulled_acts st.over st.pending) (record (pulled (with_all st p st.over st.moves) st.pending) { moves = noted m (port_in (first_output st.pending)) })) (sym h) core)

  abbrev AllEnds : Logic C → Logic C → Option Blame → Type 0
  AllEnds old st b =
      (f : ListFunction) (yields : List Tree → End → Given Tree) → Means yields f → (ss : List Sub) → Keeps rest is_open f yields old.how old.kept ss → SubsReach yields (λ k. ⊤) ss (end_all ss) b old.pending st.pending

  ended_once : (old st : Logic C) (b : Option Blame) → old.phase ≡ Open → old.over ≡ false → st ≡ record old { kept = st.kept; pending = st.pending; moves = st.moves } → AllEnds old st b
      → Turned whole rest is_open (arrives 0 item.Ended) old (finish_acts st b) (record (finished st b) { moves = noted old.moves (port_in (finish_gave st b)) })
  ended_once old st b h w m becomes =
      let is : old ≡ of_parts Open old.node old.taken old.how old.chain old.kept old.pending old.asked false old.moves =
      ap (with_phase old) h ∙ ap (λ x. of_parts Open old.node old.taken old.how old.chain old.kept old.pending old.asked x old.moves) w in
      let now : Logic C = of_parts Open old.node old.taken old.how old.chain st.kept st.pending old.asked false st.moves in
      let st_is : st ≡ now = m ∙ ap (λ p. of_parts p old.node old.taken old.how old.chain st.kept st.pending old.asked old.over st.moves) h ∙ ap (λ x. of_parts Open old.node old.taken old.how old.chain st.kept st.pending old.asked x st.moves) w in
      let core = end_at whole rest is_open old.node old.taken old.how old.chain old.moves st.moves old.kept st.kept old.pending st.pending old.asked b becomes in
      subst (λ (x : Logic C). Turned whole rest is_open (arrives 0 item.Ended) old (finish_acts x b) (record (finished x b) { moves = noted old.moves (port_in (finish_gave x b)) })) (sym st_is)
      (subst (λ (x : Logic C). Turned whole rest is_open (arrives 0 item.Ended) x (finish_acts now b) (record (finished now b) { moves = noted old.moves (port_in (finish_gave now b)) })) (sym is) core)

  pub on_ended : (old st0 st now : Logic C) (b : Option Blame) (acts : List Act) (port : Option ℕ) (m room ms : Option (List ℕ)) → record st0 { moves = m } ≡ old → old.phase ≡ Open → old.over ≡ false
      → st ≡ record st0 { kept = st.kept; pending = st.pending } → AllEnds st0 st b → now ≡ finished st b → acts ≡ finish_acts st b → port ≡ port_in (finish_gave st b) → room ≡ m → ms ≡ noted room port
      → Turned whole rest is_open (arrives 0 item.Ended) old acts (record now { moves = ms })
  on_ended old st0 st now b acts port m room ms is h w stays becomes n a p r s =
      subst (λ (l : Logic C). l.phase ≡ Open → l.over ≡ false → Turned whole rest is_open (arrives 0 item.Ended) l acts (record now { moves = ms })) is (λ h w. at_old h w) h w
    where
      kept_is : st ≡ record st0 { kept = st.kept; pending = st.pending; moves = st.moves }
      kept_is = stays ∙ ap (λ (ks : Option (List ℕ)). record st0 { kept = st.kept; pending = st.pending; moves = ks }) (sym (ap (λ (l : Logic C). l.moves) stays))

      at_old : st0.phase ≡ Open → st0.over ≡ false → Turned whole rest is_open (arrives 0 item.Ended) (record st0 { moves = m }) acts (record now { moves = ms })
      at_old h w = rw (n, a, s, r, p) (ended_once (record st0 { moves = m }) st b h w kept_is becomes)

  pub on_failed : (old st now : Logic C) (c : Cause) (acts : List Act) (m : Option (List ℕ)) → record st { moves = m } ≡ old → old.phase ≡ Open → old.over ≡ false → now ≡ record st { phase = Closed } → acts ≡ FailOut 0 c ∷ []
      → Turned whole rest is_open (arrives 0 (item.Failed c)) old acts (record now { moves = m })
  on_failed old st now c acts m is h w n a =
      subst (λ (l : Logic C). l.phase ≡ Open → l.over ≡ false → Turned whole rest is_open (arrives 0 (item.Failed c)) l acts (record now { moves = m })) is (λ h w. at_old h w) h w
    where
      core : Turned whole rest is_open (arrives 0 (item.Failed c)) (with_all st Open false m) (FailOut 0 c ∷ []) (with_all st Closed false m)
      core = fail_at whole rest is_open st.node st.taken st.how st.chain m m st.kept st.pending st.asked c

      at_old : st.phase ≡ Open → st.over ≡ false → Turned whole rest is_open (arrives 0 (item.Failed c)) (record st { moves = m }) acts (record now { moves = m })
      at_old h w =
          rw (n, a)
          (subst (λ p. Turned whole rest is_open (arrives 0 (item.Failed c)) (with_all st p st.over m) (FailOut 0 c ∷ []) (with_all st Closed st.over m)) (sym h)
          (subst (λ x. Turned whole rest is_open (arrives 0 (item.Failed c)) (with_all st Open x m) (FailOut 0 c ∷ []) (with_all st Closed x m)) (sym w) core))

  pub on_left : (old st now : Logic C) (acts : List Act) (m : Option (List ℕ)) → record st { moves = m } ≡ old → old.phase ≡ Open → now ≡ record st { phase = Closed } → acts ≡ cancel_acts st.over
      → Turned whole rest is_open (cancels 0) old acts (record now { moves = m })
  on_left old st now acts m is h n a =
      subst (λ (l : Logic C). l.phase ≡ Open → Turned whole rest is_open (cancels 0) l acts (record now { moves = m })) is (λ h. at_old h) h
    where
      core : Turned whole rest is_open (cancels 0) (with_all st Open st.over m) (cancel_acts st.over) (with_all st Closed st.over m)
      core = cancel_at whole rest is_open st.node st.taken st.how st.chain m m st.kept st.pending st.asked st.over

      at_old : st.phase ≡ Open → Turned whole rest is_open (cancels 0) (record st { moves = m }) acts (record now { moves = m })
      at_old h = rw (n, a) (subst (λ p. Turned whole rest is_open (cancels 0) (with_all st p st.over m) (cancel_acts st.over) (with_all st Closed st.over m)) (sym h) core)
