-- Each call of a stage that tells a list is one step of the stage of the plug that gives it.
use Rattle.std.specs.Prelude.{◌&&◌, not, if◌then◌else◌}
use Rattle.std.proofs.Common.{◌≡◌, ℕ, zero, suc, ◌+◌, ◌≤◌, Bool, true, false, List, [], ◌∷◌, ◌++◌, length, Option, None, Some, inl, inr, refl, sym, ap, ◌∙◌, subst, arith, append-nil}
use Rattle.elem_core.specs.Sort.{Sort}
use Rattle.elem_core.specs.Tree.{Tree}
use Rattle.elem_core.specs.Typed.{is_of}
use Rattle.elem_core.specs.declared.item.Item.{Item}
use Rattle.elem_core.specs.declared.item.Item.TheVariants as item
use Rattle.elem_core.specs.declared.why.Cause.{Cause}
use Rattle.elem_core.specs.declared.why.Why.TheVariants as why
use Rattle.elem_core.specs.declared.why.Decider.{Decider}
use Rattle.port_core.specs.declared.act.Act.{Act}
use Rattle.port_core.specs.declared.act.Act.TheVariants as act
use Rattle.port_core.specs.declared.view.InView.TheVariants.{Idle, Pulled, Finished, Cancelled}
use Rattle.port_core.specs.declared.view.OutView.TheVariants as outlet
use Rattle.port_core.specs.Call.{Call, starts, pulls, arrives, cancels, CallAllowed, seen, given_on}
use Rattle.port_core.specs.View.{View, acted_all}
use Rattle.port_core.specs.Asking.{PullsStand}
use Rattle.stream_model.specs.Machine.{Run, Machine, Finish, adds, refuses, going, done}
use Rattle.stream_model.specs.Linear.{Book, told_book, Reply, Verdict, go, finish, fail, Work, plugged, Stage, linear, on_reply, reaction, finish_of, blame_end}
use Rattle.plug_logic.specs.Gives.{Gives, listed}
use Rattle.stage_core.specs.Held.{Held, owing, shut, sealed_by}
use Rattle.stage_core.specs.Turn.{Emits, DropsAtEnd, TurnAt}
use Rattle.stage_core.proofs.OneOnes.{at_first}
use Rattle.stage_core.specs.declared.phase.Phase.{Phase}
use Rattle.stage_core.specs.declared.phase.Phase.TheVariants.{New, Open, Closed}
use Rattle.step_work.specs.declared.task.LinearReaction.{LinearReaction}
use Rattle.step_work.specs.declared.task.LinearReaction.TheVariants.{GivesAll, EndsWithAll, Fails}
use Rattle.step_work.specs.Tasks.{ReactedBy}
use Rattle.stage_linear.specs.declared.course.Course.{Course}
use Rattle.stage_linear.specs.declared.course.Course.TheVariants.{Waits, Idles, Leaves, Closes, Ends}
use Rattle.stage_linear.specs.Outcomes.{working, answered, answer_acts}
use Rattle.stage_linear.specs.Plugs.{Is}
use Rattle.stage_linear.specs.States.{Logic, held, port_state, Turned}
use Rattle.stage_linear.proofs.Pushes.{pushed}
use Rattle.graph_stage.specs.declared.ask.Ask.{Ask}
use Rattle.graph_stage.specs.declared.ask.Ask.TheVariants.{Pull, Push, Finish as finishes, Fail}
use Rattle.graph_stage.specs.declared.occasion.Occasion.{Occasion}
use Rattle.graph_stage.specs.OwnView.{Seen, Outcome, sees_then, preceded_by, fails_by, by_code, refused, carried_out, is_closed_in, is_closed_out}
use Rattle.graph_stage.specs.Calls.{IsLater}
use Rattle.graph_stage.specs.Ruled.{occasion_at, taken_by}
use Rattle.graph_stage.specs.Standing.{without_taken_back}
use Rattle.graph_stage.specs.Told.{AllOfType, GivesTyped, took_by}
use Rattle.graph_stage.specs.Lifted.{Telling, not_begun, over, may_reply, spread_asks, spread_to, leaving_asks, leaving_to, replied_asks, replied_to, closing_asks, closing_to, ended_asks, ended_to, behind_last_asks, behind_last_to, came_to, closed_to, lifted_asks, lifted_to}
use Rattle.graph_stage.specs.Plugged.{phase_by}
use Rattle.graph_stage.proofs.Shapes.{ports, sight, Shape, waits, idles, leaves, closes, ends}

-- a push of an element of the output's type, where the output is asked
push_ok : (output : Sort) (o : Occasion) (a c : Bool) (t : Tree) (more : List Ask) → is_of output t ≡ true
    → carried_out (output ∷ []) o (sight a c true false) (Push 0 t ∷ more)
    ≡ preceded_by (act.Push 0 t ∷ []) (carried_out (output ∷ []) o (sight a c false false) more)
push_ok output o a c t more h =
    ap (λ (z : Bool). by_code (refused 2 false (refused 4 (not z) None))
    (preceded_by (act.Push 0 t ∷ []) (carried_out (output ∷ []) o (sight a c false false) more)) (fails_by o (sight a c true false))) h

module _ (b : Book) (d : Decider) (node : ℕ) (name : List ℕ) (output : Sort) where
  abbrev stage : ℕ → List Tree → Stage
  stage n took = record { node = node; decider = d; taken = n; work = plugged name took }

  -- the stage of the plug
  abbrev pub plug : Phase → ℕ → List Tree → Telling → Logic
  plug ph n took t = record { phase = ph; stage = stage n took; pending = t.pending; course = t.course; ready = may_reply t.course }

  abbrev pub closed_both : Seen → Bool
  closed_both s = is_closed_in s 0 && is_closed_out s 0

  -- what a call comes to: the actions are those of this outcome, and the stage stands then as the plug's does after its step
  pub record Comes (call : Call) (v : View) (old : Logic) (n : ℕ) (took : List Tree) (t : Telling) (o : Outcome) : Type 0 where
    pub turned : Turned (told_book b) call old (without_taken_back o.sight o.acts) (plug (phase_by (closed_both o.sight)) n took t)
    pub stands : port_state (plug (phase_by (closed_both o.sight)) n took t) (acted_all (seen call v) (without_taken_back o.sight o.acts))

  -- a step that closes all does not leave more of the plug's stage than that
  shut_turned : (call : Call) (old l m : Logic) (acts : List Act) → l.phase ≡ Closed → m.phase ≡ Closed
      → ((c : Book) → linear c m.stage.work ≡ linear c old.stage.work) → Turned (told_book b) call old acts l → Turned (told_book b) call old acts m
  shut_turned call old l m acts i j same h = record {
    turn = subst (λ (z : Held Stage). TurnAt (linear (told_book b) old.stage.work) 0 call (held (told_book b) old) (given_on 0 acts) z) (shut_is l i ∙ sym (shut_is m j)) h.turn;
    same = same;
    stands = h.stands;
    started = λ e. let k : Closed ≡ New = sym j ∙ e in cc;
  }
    where
      shut_is : (x : Logic) → x.phase ≡ Closed → held (told_book b) x ≡ shut
      shut_is x e = rw e refl

  -- ---- the start

  pub begun : (n : ℕ) (took : List Tree) → Comes starts (ports Idle outlet.Unpulled) (plug New n took not_begun) n took not_begun (record { acts = []; sight = sight false false false false })
  begun n took = record { turned = record { turn = (refl, refl); same = λ c. refl; stands = tt; started = λ e. cc }; stands = (inl refl, (tt, refl)) }

  -- what comes of asks in a call
  abbrev pub outcome : ℕ → Call → Seen → List Ask → Outcome
  outcome n call s asks = carried_out (output ∷ []) (occasion_at node n call) (sees_then call s) asks

  -- the same behind a push
  by_push : {call : Call} {v : View} {old : Logic} {n : ℕ} {took : List Tree} {t : Telling} (o : Occasion) (a c : Bool) (e : Tree) (more : List Ask) → is_of output e ≡ true
      → Comes call v old n took t (preceded_by (act.Push 0 e ∷ []) (carried_out (output ∷ []) o (sight a c false false) more))
      → Comes call v old n took t (carried_out (output ∷ []) o (sight a c true false) (Push 0 e ∷ more))
  by_push {call} {v} {old} {n} {took} {t} o a c e more h k = subst (λ (z : Outcome). Comes call v old n took t z) (sym (push_ok output o a c e more h)) k

  -- ---- its output was asked

  abbrev pull : ℕ → Occasion
  pull n = occasion_at node n (pulls 0)

  abbrev Pulled_at : (Course → View) → Course → Bool → Bool → ℕ → List Tree → Gives → List Tree → Type 0
  Pulled_at at c a f n took p l = Comes (pulls 0) (at c) (plug Open n took (record { pending = l; course = c })) n took (lifted_to p (record { pending = l; course = c }) (pulls 0))
      (outcome n (pulls 0) (sight a f false false) (lifted_asks p (record { pending = l; course = c }) (pulls 0)))

  abbrev begins_open : Course → View
  begins_open c = ports Idle outlet.Unpulled

  abbrev ended_in : Course → View
  ended_in c = ports Finished outlet.Unpulled

  pub idle_pulled : (n : ℕ) (took : List Tree) (p : Gives) (l : List Tree) → AllOfType output l → Pulled_at begins_open Idles false false n took p l
  idle_pulled n took p [] h = record { turned = record { turn = (refl, refl); same = λ c. refl; stands = (tt, tt); started = λ e. cc }; stands = (refl, (tt, refl)) }
  idle_pulled n took p (t ∷ []) h =
      by_push (pull n) false false t [] h.0
      (record { turned = record { turn = (refl, refl); same = λ c. refl; stands = tt; started = λ e. cc }; stands = (inl refl, (tt, refl)) })
  idle_pulled n took p (t ∷ u ∷ l) h =
      by_push (pull n) false false t [] h.0
      (record { turned = record { turn = (refl, refl); same = λ c. refl; stands = tt; started = λ e. cc }; stands = (inr (refl, refl), (tt, refl)) })

  pub leaving_pulled : (n : ℕ) (took : List Tree) (p : Gives) (t : Tree) (l : List Tree) → AllOfType output (t ∷ l) → Pulled_at begins_open Leaves false false n took p (t ∷ l)
  leaving_pulled n took p t [] h =
      by_push (pull n) false false t (finishes ∷ []) h.0
      (record { turned = record { turn = (refl, refl); same = λ c. refl; stands = tt; started = λ e. cc }; stands = tt })
  leaving_pulled n took p t (u ∷ l) h =
      by_push (pull n) false false t [] h.0
      (record { turned = record { turn = (refl, refl); same = λ c. refl; stands = tt; started = λ e. cc }; stands = (omega arith, (refl, refl)) })

  pub ending_pulled : (n : ℕ) (took : List Tree) (p : Gives) (a : Bool) (t : Tree) (l : List Tree) → AllOfType output (t ∷ l) → Pulled_at ended_in Ends a true n took p (t ∷ l)
  ending_pulled n took p a t [] h =
      by_push (pull n) a true t (finishes ∷ []) h.0
      (record { turned = record { turn = (refl, refl); same = λ c. refl; stands = tt; started = λ e. cc }; stands = tt })
  ending_pulled n took p a t (u ∷ l) h =
      by_push (pull n) a true t [] h.0
      (record { turned = record { turn = (refl, refl); same = λ c. refl; stands = tt; started = λ e. cc }; stands = (omega arith, (refl, refl)) })

  -- ---- what the end of its input adds

  abbrev finishing : Stage → Reply → Finish Tree
  finishing s r = elim r.verdict as (λ _. Finish Tree) [ go ↦ adds r.gave | finish ↦ adds r.gave | fail k ↦ refuses (blame_end s (why.Plug k)) ]

  abbrev machine : List Tree → Machine Stage Tree
  machine took = linear (told_book b) (plugged name took)

  abbrev Finishes : ℕ → List Tree → Finish Tree → Type 0
  Finishes n took f = finish_of (told_book b) (stage n took) (plugged name took) ≡ f

  -- by its last reply
  finishes_as : (n : ℕ) (took : List Tree) (r : Reply) → b.told_closing name took ≡ r → Finishes n took (finishing (stage n took) r)
  finishes_as n took r e = ap (finishing (stage n took)) e

  -- what is held, and then what it adds
  sealed_as : (n : ℕ) (took l : List Tree) (f : Finish Tree) (out : List Item) (new : Held Stage) → Finishes n took f → Emits (machine took) (sealed_by (machine took) l f) out new
      → Emits (machine took) (sealed_by (machine took) l (finish_of (told_book b) (stage n took) (plugged name took))) out new
  sealed_as n took l f out new e k = subst (λ (z : Finish Tree). Emits (machine took) (sealed_by (machine took) l z) out new) (sym e) k

  -- the first of what is held goes out
  sealed_on : (m : Machine Stage Tree) (t : Tree) (l : List Tree) (f : Finish Tree) → Emits m (sealed_by m (t ∷ l) f) (item.Elem t ∷ []) (owing (sealed_by m l f))
  sealed_on m t l (adds us) = (refl, refl)
  sealed_on m t l (refuses c) = (refl, refl)

  -- ---- its input has ended, and the last of what it held goes out

  module _ (n : ℕ) (took : List Tree) (t : Tree) (a : Bool) (h : is_of output t ≡ true) where
    abbrev LastAt : Telling → List Ask → Type 0
    LastAt to asks = Comes (pulls 0) (ports Finished outlet.Unpulled) (plug Open n took (record { pending = t ∷ []; course = Closes })) n took to (outcome n (pulls 0) (sight a true false false) (Push 0 t ∷ asks))

    last_adds : (us : List Tree) → Finishes n took (adds us) → LastAt (ended_to Closes us) (ended_asks Closes us)
    last_adds [] e =
        by_push (pull n) a true t (finishes ∷ []) h
        (record { turned = record { turn = sealed_as n took (t ∷ []) (adds []) _ shut e (refl, refl); same = λ c. refl; stands = tt; started = λ e. cc }; stands = tt })
    last_adds (u ∷ us) e =
        by_push (pull n) a true t [] h
        (record {
          turned = record { turn = sealed_as n took (t ∷ []) (adds (u ∷ us)) (item.Elem t ∷ []) (owing (record { gave = u ∷ us; state = done })) e (refl, refl); same = λ c. refl; stands = tt; started = λ e. cc };
          stands = (omega arith, (refl, refl));
        })

    last_by : (g : List Tree) (w : Verdict) → b.told_closing name took ≡ record { gave = g; verdict = w } → LastAt (closing_to Closes (record { gave = g; verdict = w })) (closing_asks Closes (record { gave = g; verdict = w }))
    last_by g go e = last_adds g (finishes_as n took _ e)
    last_by g finish e = last_adds g (finishes_as n took _ e)
    last_by g (fail k) e =
        by_push (pull n) a true t (Fail k ∷ []) h
        (record { turned = record { turn = sealed_as n took (t ∷ []) (refuses _) _ shut (finishes_as n took _ e) (refl, refl); same = λ c. refl; stands = tt; started = λ e. cc }; stands = tt })

  pub closing_pulled : (n : ℕ) (took : List Tree) (p : Gives) (a : Bool) (t : Tree) (l : List Tree) → AllOfType output (t ∷ l) → b.told_closing name took ≡ p.closing []
      → Pulled_at ended_in Closes a true n took p (t ∷ l)
  closing_pulled n took p a t [] h e = last_by n took t a h.0 (p.closing []).gave (p.closing []).verdict e
  closing_pulled n took p a t (u ∷ l) h e =
      by_push (pull n) a true t [] h.0
      (record {
        turned = record { turn = sealed_on (machine took) t (u ∷ l) (finish_of (told_book b) (stage n took) (plugged name took)); same = λ c. refl; stands = tt; started = λ e. cc };
        stands = ((omega arith, (refl, refl)), refl);
      })

  -- ---- an element came

  module _ (n : ℕ) (took : List Tree) (e : Tree) where
    abbrev waiting : Logic
    waiting = plug Open n took (record { pending = []; course = Waits })

    abbrev next : List Tree
    next = took ++ e ∷ []

    abbrev elem : Call
    elem = arrives 0 (item.Elem e)

    abbrev CameTo : Telling → List Ask → Type 0
    CameTo to asks = Comes elem (ports Pulled outlet.Available) waiting (n + 1) next to (outcome n elem (sight true false true false) asks)

    abbrev reacted : Bool → LinearReaction → Logic
    reacted on o = answered (working waiting (plugged name next) on) (n + 1) o

    abbrev reacted_acts : Bool → LinearReaction → List Act
    reacted_acts on o = answer_acts (working waiting (plugged name next) on) (n + 1) o

    reacts_as : (r : Reply) → b.told_reply name took e ≡ r → reaction (told_book b) (plugged name took) e ≡ on_reply r (plugged name next)
    reacts_as r h = ap (λ (z : Reply). on_reply z (plugged name next)) h

    turned_by : (on : Bool) (o : LinearReaction) → ReactedBy (told_book b) (plugged name took) e (plugged name next) o → Turned (told_book b) elem waiting (reacted_acts on o) (reacted on o)
    turned_by on o r = pushed (told_book b) waiting (plugged name next) on e (n + 1) o refl (record { none = refl; on = refl; more = tt; ready = refl }) refl r

    shut_by : (o : LinearReaction) (to : Telling) → (reacted false o).phase ≡ Closed → ReactedBy (told_book b) (plugged name took) e (plugged name next) o
        → Turned (told_book b) elem waiting (reacted_acts false o) (plug Closed (n + 1) next to)
    shut_by o to shuts r = shut_turned elem waiting (reacted false o) (plug Closed (n + 1) next to) (reacted_acts false o) shuts refl (λ c. refl) (turned_by false o r)

    came_by : (g : List Tree) (w : Verdict) → b.told_reply name took e ≡ record { gave = g; verdict = w } → AllOfType output g
        → CameTo (replied_to [] (record { gave = g; verdict = w })) (replied_asks [] (record { gave = g; verdict = w }))
    came_by [] go r h = record { turned = turned_by true (GivesAll []) (reacts_as _ r, ((tt, λ c. refl), (refl, refl))); stands = (refl, (tt, refl)) }
    came_by (t ∷ l) go r h =
        by_push (occasion_at node n elem) false false t [] h.0
        (record { turned = turned_by true (GivesAll (t ∷ l)) (reacts_as _ r, ((tt, λ c. refl), (refl, refl))); stands = (inr (refl, refl), (tt, refl)) })
    came_by [] finish r h =
        record { turned = shut_by (EndsWithAll []) (leaving_to []) refl (reacts_as _ r, ((λ c. refl), ((refl, refl), (refl, refl)))); stands = tt }
    came_by (t ∷ []) finish r h =
        by_push (occasion_at node n elem) false false t (finishes ∷ []) h.0
        (record { turned = shut_by (EndsWithAll (t ∷ [])) (leaving_to (t ∷ [])) refl (reacts_as _ r, ((λ c. refl), ((refl, refl), (refl, refl)))); stands = tt })
    came_by (t ∷ u ∷ l) finish r h =
        by_push (occasion_at node n elem) false false t [] h.0
        (record { turned = turned_by false (EndsWithAll (t ∷ u ∷ l)) (reacts_as _ r, ((λ c. refl), ((refl, refl), (refl, refl)))); stands = (omega arith, (refl, refl)) })
    came_by g (fail k) r h = record { turned = shut_by (Fails (why.Plug k)) over refl (reacts_as _ r, λ c. refl); stands = tt }

  -- ---- its input has ended

  abbrev end : Call
  end = arrives 0 item.Ended

  module _ (n : ℕ) (took : List Tree) where
    abbrev Ended_at : View → Course → List Tree → Seen → Telling → List Ask → Type 0
    Ended_at v c l s to asks = Comes end v (plug Open n took (record { pending = l; course = c })) n took to (outcome n end s asks)

    waits_adds : (us : List Tree) → Finishes n took (adds us) → AllOfType output us
        → Ended_at (ports Pulled outlet.Available) Waits [] (sight true false true false) (ended_to Waits us) (ended_asks Waits us)
    waits_adds [] e h =
        record { turned = record { turn = inl (sealed_as n took [] (adds []) _ shut e (refl, refl)); same = λ c. refl; stands = tt; started = λ e. cc }; stands = tt }
    waits_adds (t ∷ []) e h =
        by_push (occasion_at node n end) true true t (finishes ∷ []) h.0
        (record { turned = record { turn = inl (sealed_as n took [] (adds (t ∷ [])) _ shut e (refl, refl)); same = λ c. refl; stands = tt; started = λ e. cc }; stands = tt })
    waits_adds (t ∷ u ∷ l) e h =
        by_push (occasion_at node n end) true true t [] h.0
        (record {
          turned = record { turn = inl (sealed_as n took [] (adds (t ∷ u ∷ l)) (item.Elem t ∷ []) (owing (record { gave = u ∷ l; state = done })) e (refl, refl)); same = λ c. refl; stands = tt; started = λ e. cc };
          stands = (omega arith, (refl, refl));
        })

    waits_by : (g : List Tree) (w : Verdict) → b.told_closing name took ≡ record { gave = g; verdict = w } → AllOfType output g
        → Ended_at (ports Pulled outlet.Available) Waits [] (sight true false true false) (closing_to Waits (record { gave = g; verdict = w })) (closing_asks Waits (record { gave = g; verdict = w }))
    waits_by g go e h = waits_adds g (finishes_as n took _ e) h
    waits_by g finish e h = waits_adds g (finishes_as n took _ e) h
    waits_by g (fail k) e h =
        record { turned = record { turn = inl (sealed_as n took [] (refuses _) _ shut (finishes_as n took _ e) (refl, refl)); same = λ c. refl; stands = tt; started = λ e. cc }; stands = tt }

    idle_adds : (us : List Tree) → Finishes n took (adds us)
        → Ended_at (ports Idle outlet.Unpulled) Idles [] (sight false false false false) (ended_to Idles us) (ended_asks Idles us)
    idle_adds [] e =
        record { turned = record { turn = inl (sealed_as n took [] (adds []) _ shut e (refl, refl)); same = λ c. refl; stands = tt; started = λ e. cc }; stands = tt }
    idle_adds (t ∷ l) e =
        record {
          turned = record { turn = inl (sealed_as n took [] (adds (t ∷ l)) [] (owing (record { gave = t ∷ l; state = done })) e (refl, refl)); same = λ c. refl; stands = tt; started = λ e. cc };
          stands = (omega arith, (refl, refl));
        }

    idle_by : (g : List Tree) (w : Verdict) → b.told_closing name took ≡ record { gave = g; verdict = w }
        → Ended_at (ports Idle outlet.Unpulled) Idles [] (sight false false false false) (closing_to Idles (record { gave = g; verdict = w })) (closing_asks Idles (record { gave = g; verdict = w }))
    idle_by g go e = idle_adds g (finishes_as n took _ e)
    idle_by g finish e = idle_adds g (finishes_as n took _ e)
    idle_by g (fail k) e =
        record { turned = record { turn = inl (sealed_as n took [] (refuses _) _ shut (finishes_as n took _ e) (refl, refl)); same = λ c. refl; stands = tt; started = λ e. cc }; stands = tt }

    pub waits_ended : (p : Gives) → b.told_closing name took ≡ p.closing [] → AllOfType output (p.closing []).gave
        → Ended_at (ports Pulled outlet.Available) Waits [] (sight true false true false) (lifted_to p (record { pending = []; course = Waits }) end) (lifted_asks p (record { pending = []; course = Waits }) end)
    waits_ended p e h = waits_by (p.closing []).gave (p.closing []).verdict e h

    pub idle_ended : (p : Gives) (l : List Tree) → b.told_closing name took ≡ p.closing []
        → Ended_at (ports Idle outlet.Unpulled) Idles l (sight false false false false) (lifted_to p (record { pending = l; course = Idles }) end) (lifted_asks p (record { pending = l; course = Idles }) end)
    idle_ended p [] e = idle_by (p.closing []).gave (p.closing []).verdict e
    idle_ended p (t ∷ l) e =
        record { turned = record { turn = inl (refl, refl); same = λ c. refl; stands = tt; started = λ e. cc }; stands = ((omega arith, (refl, refl)), refl) }

    pub leaving_ended : (p : Gives) (t : Tree) (l : List Tree)
        → Ended_at (ports Idle outlet.Unpulled) Leaves (t ∷ l) (sight false false false false) (lifted_to p (record { pending = t ∷ l; course = Leaves }) end) (lifted_asks p (record { pending = t ∷ l; course = Leaves }) end)
    leaving_ended p t l =
        record { turned = record { turn = inl (refl, refl); same = λ c. refl; stands = tt; started = λ e. cc }; stands = (omega arith, (refl, refl)) }

  -- ---- its input has failed

  module _ (n : ℕ) (took : List Tree) (p : Gives) (k : Cause) where
    abbrev failure : Call
    failure = arrives 0 (item.Failed k)

    abbrev Failed_at : View → Course → List Tree → Seen → Type 0
    Failed_at v c l s = Comes failure v (plug Open n took (record { pending = l; course = c })) n took (lifted_to p (record { pending = l; course = c }) failure)
        (outcome n failure s (lifted_asks p (record { pending = l; course = c }) failure))

    pub waits_failed : Failed_at (ports Pulled outlet.Available) Waits [] (sight true false true false)
    waits_failed = record { turned = record { turn = inl (refl, refl); same = λ c. refl; stands = tt; started = λ e. cc }; stands = tt }

    pub idle_failed : (l : List Tree) → Failed_at (ports Idle outlet.Unpulled) Idles l (sight false false false false)
    idle_failed l = record { turned = record { turn = inr ((refl, inr (omega arith)), (refl, refl)); same = λ c. refl; stands = tt; started = λ e. cc }; stands = tt }

    pub leaving_failed : (t : Tree) (l : List Tree) → Failed_at (ports Idle outlet.Unpulled) Leaves (t ∷ l) (sight false false false false)
    leaving_failed t l = record { turned = record { turn = inl (refl, refl); same = λ c. refl; stands = tt; started = λ e. cc }; stands = (omega arith, (refl, refl)) }

  -- ---- its output was cancelled

  module _ (n : ℕ) (took : List Tree) (p : Gives) (l : List Tree) where
    abbrev Cancelled_at : View → Course → Seen → Type 0
    Cancelled_at v c s = Comes (cancels 0) v (plug Open n took (record { pending = l; course = c })) n took (lifted_to p (record { pending = l; course = c }) (cancels 0))
        (outcome n (cancels 0) s (lifted_asks p (record { pending = l; course = c }) (cancels 0)))

    pub waits_cancelled : Cancelled_at (ports Pulled outlet.Available) Waits (sight true false true false)
    waits_cancelled = record { turned = record { turn = (refl, refl); same = λ c. refl; stands = tt; started = λ e. cc }; stands = tt }

    pub idle_cancelled : Cancelled_at (ports Idle outlet.Unpulled) Idles (sight false false false false)
    idle_cancelled = record { turned = record { turn = (refl, refl); same = λ c. refl; stands = tt; started = λ e. cc }; stands = tt }

    pub leaving_cancelled : Cancelled_at (ports Idle outlet.Unpulled) Leaves (sight false false false false)
    leaving_cancelled = record { turned = record { turn = (refl, refl); same = λ c. refl; stands = tt; started = λ e. cc }; stands = tt }

    pub closing_cancelled : (a : Bool) → Cancelled_at (ports Finished outlet.Unpulled) Closes (sight a true false false)
    closing_cancelled a = record { turned = record { turn = (refl, refl); same = λ c. refl; stands = tt; started = λ e. cc }; stands = tt }

    pub ending_cancelled : (a : Bool) → Cancelled_at (ports Finished outlet.Unpulled) Ends (sight a true false false)
    ending_cancelled a = record { turned = record { turn = (refl, refl); same = λ c. refl; stands = tt; started = λ e. cc }; stands = tt }

  -- ---- any call

  abbrev pub Step : Call → View → Seen → ℕ → List Tree → Gives → List Tree → Course → Type 0
  Step call v s n took p l c = Comes call v (plug Open n took (record { pending = l; course = c })) (taken_by n call) (took_by took call) (lifted_to p (record { pending = l; course = c }) call)
      (outcome n call s (lifted_asks p (record { pending = l; course = c }) call))

  module _ (n : ℕ) (took : List Tree) (p : Gives) where
    moved : (call : Call) (l k : List Tree) (c r : Course) (v w : View) (s z : Seen) → l ≡ k → c ≡ r → v ≡ w → s ≡ z → Step call w z n took p k r → Step call v s n took p l c
    moved call l k c r v w s z i j m q h = rw (i, j, m, q) h

    abbrev Knows : Course → Type 0
    Knows c = may_reply c ≡ true → Is p took (listed (told_book b) name)

    reply_is : Is p took (listed (told_book b) name) → (e : Tree) → b.told_reply name took e ≡ p.reply [] e
    reply_is h e = ap (λ (x : List Tree). b.told_reply name x e) (sym (append-nil took)) ∙ h.reply [] e

    closing_is : Is p took (listed (told_book b) name) → b.told_closing name took ≡ p.closing []
    closing_is h = ap (b.told_closing name) (sym (append-nil took)) ∙ h.closing []

    module _ (typed : GivesTyped (listed (told_book b) name) output) where
      reply_typed : Is p took (listed (told_book b) name) → (e : Tree) → AllOfType output (p.reply [] e).gave
      reply_typed h e = subst (λ (r : Reply). AllOfType output r.gave) (reply_is h e) (typed.reply took e)

      closing_typed : Is p took (listed (told_book b) name) → AllOfType output (p.closing []).gave
      closing_typed h = subst (λ (r : Reply). AllOfType output r.gave) (closing_is h) (typed.closing took)

      module _ (l : List Tree) (c : Course) (v : View) (s : Seen) (knows : Knows c) (all : AllOfType output l) where
        on_pull : Shape l c v s → CallAllowed (pulls 0) v → Step (pulls 0) v s n took p l c
        on_pull (waits i j k q) may = let none : outlet.Available ≡ outlet.Unpulled = subst (λ (z : View). CallAllowed (pulls 0) z) k may in cc
        on_pull (idles j k q) may = moved (pulls 0) l l c _ v _ s _ refl j k q (idle_pulled n took p l all)
        on_pull (leaves t r i j k q) may = moved (pulls 0) l _ c _ v _ s _ i j k q (leaving_pulled n took p t r (subst (AllOfType output) i all))
        on_pull (closes t r a i j k q) may = moved (pulls 0) l _ c _ v _ s _ i j k q (closing_pulled n took p a t r (subst (AllOfType output) i all) (closing_is (knows (ap may_reply j))))
        on_pull (ends t r a i j k q) may = moved (pulls 0) l _ c _ v _ s _ i j k q (ending_pulled n took p a t r (subst (AllOfType output) i all))

        on_push : (e : Tree) → Shape l c v s → CallAllowed (arrives 0 (item.Elem e)) v → Step (arrives 0 (item.Elem e)) v s n took p l c
        on_push e (waits i j k q) may =
            let h = knows (ap may_reply j) in
            moved (arrives 0 (item.Elem e)) l _ c _ v _ s _ i j k q (came_by n took e (p.reply [] e).gave (p.reply [] e).verdict (reply_is h e) (reply_typed h e))
        on_push e (idles j k q) may = let none : Idle ≡ Pulled = subst (λ (z : View). CallAllowed (arrives 0 (item.Elem e)) z) k may in cc
        on_push e (leaves t r i j k q) may = let none : Idle ≡ Pulled = subst (λ (z : View). CallAllowed (arrives 0 (item.Elem e)) z) k may in cc
        on_push e (closes t r a i j k q) may = let none : Finished ≡ Pulled = subst (λ (z : View). CallAllowed (arrives 0 (item.Elem e)) z) k may in cc
        on_push e (ends t r a i j k q) may = let none : Finished ≡ Pulled = subst (λ (z : View). CallAllowed (arrives 0 (item.Elem e)) z) k may in cc

        on_finish : Shape l c v s → CallAllowed end v → Step end v s n took p l c
        on_finish (waits i j k q) may = let h = knows (ap may_reply j) in moved end l _ c _ v _ s _ i j k q (waits_ended n took p (closing_is h) (closing_typed h))
        on_finish (idles j k q) may = moved end l l c _ v _ s _ refl j k q (idle_ended n took p l (closing_is (knows (ap may_reply j))))
        on_finish (leaves t r i j k q) may = moved end l _ c _ v _ s _ i j k q (leaving_ended n took p t r)
        on_finish (closes t r a i j k q) may = absurd (subst (λ (z : View). CallAllowed end z) k may)
        on_finish (ends t r a i j k q) may = absurd (subst (λ (z : View). CallAllowed end z) k may)

        on_fail : (e : Cause) → Shape l c v s → CallAllowed (arrives 0 (item.Failed e)) v → Step (arrives 0 (item.Failed e)) v s n took p l c
        on_fail e (waits i j k q) may = moved (arrives 0 (item.Failed e)) l _ c _ v _ s _ i j k q (waits_failed n took p e)
        on_fail e (idles j k q) may = moved (arrives 0 (item.Failed e)) l l c _ v _ s _ refl j k q (idle_failed n took p e l)
        on_fail e (leaves t r i j k q) may = moved (arrives 0 (item.Failed e)) l _ c _ v _ s _ i j k q (leaving_failed n took p e t r)
        on_fail e (closes t r a i j k q) may = absurd (subst (λ (z : View). CallAllowed (arrives 0 (item.Failed e)) z) k may)
        on_fail e (ends t r a i j k q) may = absurd (subst (λ (z : View). CallAllowed (arrives 0 (item.Failed e)) z) k may)

        on_cancel : Shape l c v s → Step (cancels 0) v s n took p l c
        on_cancel (waits i j k q) = moved (cancels 0) l l c _ v _ s _ refl j k q (waits_cancelled n took p l)
        on_cancel (idles j k q) = moved (cancels 0) l l c _ v _ s _ refl j k q (idle_cancelled n took p l)
        on_cancel (leaves t r i j k q) = moved (cancels 0) l l c _ v _ s _ refl j k q (leaving_cancelled n took p l)
        on_cancel (closes t r a i j k q) = moved (cancels 0) l l c _ v _ s _ refl j k q (closing_cancelled n took p l a)
        on_cancel (ends t r a i j k q) = moved (cancels 0) l l c _ v _ s _ refl j k q (ending_cancelled n took p l a)

        -- a call that is not the start, at the one input or output
        pub steps : (call : Call) → IsLater call → at_first call ≡ call → Shape l c v s → CallAllowed call v → Step call v s n took p l c
        steps starts later first shape may = absurd later
        steps (pulls zero) later first shape may = on_pull shape may
        steps (arrives zero (item.Elem e)) later first shape may = on_push e shape may
        steps (arrives zero item.Ended) later first shape may = on_finish shape may
        steps (arrives zero (item.Failed k)) later first shape may = on_fail k shape may
        steps (cancels zero) later first shape may = on_cancel shape
        steps (pulls (suc j)) later first shape may = cc
        steps (arrives (suc i) (item.Elem e)) later first shape may = cc
        steps (arrives (suc i) item.Ended) later first shape may = cc
        steps (arrives (suc i) (item.Failed k)) later first shape may = cc
        steps (cancels (suc j)) later first shape may = cc

      -- ---- what it holds then is of the output's type

      all_more : (l k : List Tree) → AllOfType output l → AllOfType output k → AllOfType output (l ++ k)
      all_more [] k h i = i
      all_more (t ∷ l) k h i = (h.0, all_more l k h.1 i)

      spread_typed : (l : List Tree) → AllOfType output l → AllOfType output (spread_to l).pending
      spread_typed [] h = tt
      spread_typed (t ∷ l) h = h.1

      leaving_typed : (l : List Tree) → AllOfType output l → AllOfType output (leaving_to l).pending
      leaving_typed [] h = tt
      leaving_typed (t ∷ l) h = h.1

      ended_typed : (c : Course) (l : List Tree) → AllOfType output l → AllOfType output (ended_to c l).pending
      ended_typed c [] h = tt
      ended_typed Waits (t ∷ l) h = h.1
      ended_typed Idles (t ∷ l) h = h
      ended_typed Leaves (t ∷ l) h = h
      ended_typed Closes (t ∷ l) h = h
      ended_typed Ends (t ∷ l) h = h

      came_typed : (l g : List Tree) (w : Verdict) → AllOfType output l → AllOfType output g → AllOfType output (replied_to l (record { gave = g; verdict = w })).pending
      came_typed l g go h i = spread_typed (l ++ g) (all_more l g h i)
      came_typed l g finish h i = leaving_typed (l ++ g) (all_more l g h i)
      came_typed l g (fail k) h i = tt

      ends_typed : (c : Course) (g : List Tree) (w : Verdict) → AllOfType output g → AllOfType output (closing_to c (record { gave = g; verdict = w })).pending
      ends_typed c g go h = ended_typed c g h
      ends_typed c g finish h = ended_typed c g h
      ends_typed c g (fail k) h = tt

      elem_typed : (l : List Tree) (e : Tree) (on : Bool) → AllOfType output l → (on ≡ true → Is p took (listed (told_book b) name)) → AllOfType output (came_to on l (p.reply [] e)).pending
      elem_typed l e true h k = came_typed l (p.reply [] e).gave (p.reply [] e).verdict h (reply_typed (k refl) e)
      elem_typed l e false h k = tt

      end_typed : (c : Course) (on : Bool) → (on ≡ true → Is p took (listed (told_book b) name)) → AllOfType output (closed_to on c (p.closing [])).pending
      end_typed c true k = ends_typed c (p.closing []).gave (p.closing []).verdict (closing_typed (k refl))
      end_typed c false k = tt

      pub typed_then : (call : Call) (l : List Tree) (c : Course) → Knows c → AllOfType output l → AllOfType output (lifted_to p (record { pending = l; course = c }) call).pending
      typed_then starts l c k h = h
      typed_then (pulls j) [] c k h = tt
      typed_then (pulls j) (t ∷ []) Waits k h = tt
      typed_then (pulls j) (t ∷ []) Idles k h = tt
      typed_then (pulls j) (t ∷ []) Leaves k h = tt
      typed_then (pulls j) (t ∷ []) Closes k h = ends_typed Closes (p.closing []).gave (p.closing []).verdict (closing_typed (k refl))
      typed_then (pulls j) (t ∷ []) Ends k h = tt
      typed_then (pulls j) (t ∷ u ∷ l) c k h = h.1
      typed_then (arrives i (item.Elem e)) l c k h = elem_typed l e (may_reply c) h k
      typed_then (arrives i item.Ended) [] c k h = end_typed c (may_reply c) k
      typed_then (arrives i item.Ended) (t ∷ l) c k h = h
      typed_then (arrives i (item.Failed e)) l c k h = h
      typed_then (cancels j) l c k h = h
