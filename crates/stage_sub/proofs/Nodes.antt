-- Each call of a stage with substreams keeps the law of its output and of its moves.
use Rattle.std.specs.Prelude.{Result, OnOk, option_to_list}
use Rattle.stage_core.specs.Fans.{untagged}
use Rattle.std.specs.Option.{unwrap_or}
use Rattle.std.proofs.Common.{◌≡◌, ◌≢◌, ℕ, zero, suc, ◌+◌, Bool, true, false, inl, inr, List, [], ◌∷◌, ◌++◌, length, take, Option, Some, None, Ok, Err, refl, sym, ap, ◌∙◌, subst, append_assoc, append-nil}
use Rattle.std.proofs.lemmas.List.{map-append, length-append}
use Rattle.std.proofs.lemmas.Option.{same_Some}
use Rattle.std.proofs.Math.Seq.{take-append_seam}
use Rattle.elem_core.specs.Prefix.{IsPrefix}
use Rattle.elem_core.specs.Tree.{Tree}
use Rattle.elem_core.specs.declared.item.Item.{Item}
use Rattle.elem_core.specs.declared.item.Item.TheVariants as item
use Rattle.elem_core.specs.declared.why.Cause.{Cause}
use Rattle.port_core.specs.declared.act.Act.{Act}
use Rattle.port_core.specs.declared.view.InView.{InView}
use Rattle.port_core.specs.declared.view.InView.TheVariants.{Idle, Pulled, Finished, Cancelled}
use Rattle.port_core.specs.declared.view.OutView.{OutView}
use Rattle.port_core.specs.declared.view.OutView.TheVariants as outlet
use Rattle.port_core.specs.ListFunction.{ListFunction, Same}
use Rattle.port_core.specs.View.{View, in_at, out_at, ActsAllowed, acted_all}
use Rattle.port_core.specs.Call.{Call, starts, pulls, arrives, cancels, CallAllowed, Meets, seen, brought_to, given_on, Obeys}
use Rattle.stage_core.specs.Histories as histories
use Rattle.stage_core.specs.Handling.{Starts, Handles}
use Rattle.stage_core.proofs.OneOnes.{at_first, given_one, brought_one, one_input, fresh_ports}
use Rattle.stream_model.specs.FanIn.{Tagged}
use Rattle.stream_model.specs.Machine.{State, going, done, broken, Run, Finish, adds, refuses, Machine, Given, run, close, close_at, feed, finish_at}
use Rattle.stream_model.specs.Outlook.{End, unended, ended, failed}
use Rattle.stream_model.specs.Substreams.{Opening, Subs, substreams}
use Rattle.stream_model.proofs.MachineLaws.{run-append}
use Rattle.stage_core.specs.Held.{told, Held, owing, shut}
use Rattle.stage_core.specs.Law.{TookAs, GaveAs, ends_by, Law}
use Rattle.stage_core.specs.Turn.{TurnAt}
use Rattle.stage_core.proofs.Calls.{new_law, call_law}
use Rattle.stage_core.proofs.Ports.{in_unended, may_open}
use Rattle.stage_core.specs.declared.phase.Phase.{Phase}
use Rattle.stage_core.specs.declared.phase.Phase.TheVariants.{New, Open, Closed}
use Rattle.step_work.specs.Means.{Means}
use Rattle.stage_sub.specs.Joined.{untag, joined_machine}
use Rattle.stage_sub.specs.KeptSubs.{opening_of}
use Rattle.stage_sub.specs.Moves.{port_in, noted, added, arising}
use Rattle.stage_sub.specs.States.{Logic, port_state, port_state_in, OwesIn, Owes, QueuesOutputs, Turned, Ready}
use Rattle.stage_sub.specs.Handling.{sub_moves, IsUnmoved, ChoosesAs, ports_given, ready_of, SubFresh, SubPortState, TellsMachine, SubLaw}
use Rattle.stage_sub.proofs.Telling.{told_then, told_still}
use Rattle.stage_sub.proofs.Untagging.{state_untag}
use Rattle.stage_sub.proofs.Rows.{called_open, first_call}

-- ---- what is ready once a call came

module _ (yields : List Tree → End → Given Tree) (o : Opening) (start : Run Subs Tagged) where
  abbrev m : Machine Subs Tagged
  m = substreams yields o

  -- of what came until it has ended, all that the machine gave is ready
  pub open_ready : (x : Run Subs Tagged) → (close m x unended).list ≡ x.gave
  open_ready x = by_state x.gave x.state
    where
      by_state : (g : List Tagged) (st : State Subs) → (close_at m g st unended).list ≡ g
      by_state g (going s) = refl
      by_state g done = refl
      by_state g (broken c) = refl

  pub failed_ready : (g : List Tagged) (st : State Subs) (c : Cause) → (close_at m g st (failed c)).list ≡ g
  failed_ready g (going s) c = refl
  failed_ready g done c = refl
  failed_ready g (broken d) c = refl

  finish_ready : (g : List Tagged) (f : Finish Tagged) → (finish_at m g f).list ≡ g ++ added f
  finish_ready g (adds l) = refl
  finish_ready g (refuses c) = sym (append-nil g)

  pub ended_ready : (g : List Tagged) (st : State Subs) (i : ℕ) → (close_at m g st ended).list ≡ g ++ arising m (arrives i item.Ended) st
  ended_ready g (going s) i = finish_ready g (m.finish s)
  ended_ready g done i = sym (append-nil g)
  ended_ready g (broken c) i = sym (append-nil g)

  pub fed_ready : (g : List Tagged) (st : State Subs) (i : ℕ) (t : Tree) → (feed m (record { gave = g; state = st }) t).gave ≡ g ++ arising m (arrives i (item.Elem t)) st
  fed_ready g (going s) i t = refl
  fed_ready g done i t = sym (append-nil g)
  fed_ready g (broken c) i t = sym (append-nil g)

  -- by an item that came: this is ready then
  item_ready : (b : Item) (l l' : List Tree) (e e' : End) (st : State Subs) → (was now : List Item) → was ≡ told l e → e ≡ unended → was ++ b ∷ [] ≡ now → now ≡ told l' e' → (run m start l).state ≡ st
      → ready_of yields o start l' e' ≡ ready_of yields o start l e ++ arising m (arrives 0 b) st
  item_ready (item.Elem t) l l' e e' st was now a u h c at =
      let x = told_then was now (item.Elem t ∷ []) l (t ∷ []) e unended l' e' a u refl c h in
      let g : List Tagged = (run m start l).gave in
      ap (ready_of yields o start l') x.end ∙ ap (λ (k : List Tree). ready_of yields o start k unended) x.list ∙ open_ready (run m start (l ++ t ∷ []))
      ∙ ap (λ (y : Run Subs Tagged). y.gave) (run-append m start l (t ∷ [])) ∙ fed_ready g (run m start l).state 0 t
      ∙ ap (λ (k : State Subs). g ++ arising m (arrives 0 (item.Elem t)) k) at
      ∙ ap (λ (k : List Tagged). k ++ arising m (arrives 0 (item.Elem t)) st) (sym (ap (ready_of yields o start l) u ∙ open_ready (run m start l)))
  item_ready item.Ended l l' e e' st was now a u h c at =
      let x = told_then was now (item.Ended ∷ []) l [] e ended l' e' a u refl c h in
      let g : List Tagged = (run m start l).gave in
      ap (ready_of yields o start l') x.end ∙ ap (λ (k : List Tree). ready_of yields o start k ended) (x.list ∙ append-nil l) ∙ ended_ready g (run m start l).state 0
      ∙ ap (λ (k : State Subs). g ++ arising m (arrives 0 item.Ended) k) at
      ∙ ap (λ (k : List Tagged). k ++ arising m (arrives 0 item.Ended) st) (sym (ap (ready_of yields o start l) u ∙ open_ready (run m start l)))
  item_ready (item.Failed d) l l' e e' st was now a u h c at =
      let x = told_then was now (item.Failed d ∷ []) l [] e (failed d) l' e' a u refl c h in
      let g : List Tagged = (run m start l).gave in
      ap (ready_of yields o start l') x.end ∙ ap (λ (k : List Tree). ready_of yields o start k (failed d)) (x.list ∙ append-nil l) ∙ failed_ready g (run m start l).state d
      ∙ sym (ap (ready_of yields o start l) u ∙ open_ready (run m start l)) ∙ sym (append-nil (ready_of yields o start l e))

  still_ready : (l l' : List Tree) (e e' : End) (was now : List Item) → was ≡ told l e → was ++ [] ≡ now → now ≡ told l' e' → ready_of yields o start l' e' ≡ ready_of yields o start l e ++ []
  still_ready l l' e e' was now a h c =
      let x = told_still was now l e l' e' a c h in
      ap (ready_of yields o start l') x.1 ∙ ap (λ (k : List Tree). ready_of yields o start k e) x.0 ∙ sym (append-nil (ready_of yields o start l e))

  -- by a call
  call_ready : (call : Call) (v : View) (l l' : List Tree) (e e' : End) (st : State Subs) (was : List Item) → at_first call ≡ call → CallAllowed call v → TookAs (in_at v 0) e → was ≡ told l e → was ++ brought_to 0 call ≡ told l' e' → (e ≡ unended → (run m start l).state ≡ st)
      → ready_of yields o start l' e' ≡ ready_of yields o start l e ++ arising m call st
  call_ready starts v l l' e e' st was first may k a c at = still_ready l l' e e' was _ a refl c
  call_ready (pulls j) v l l' e e' st was first may k a c at = still_ready l l' e e' was _ a refl c
  call_ready (cancels j) v l l' e e' st was first may k a c at = still_ready l l' e e' was _ a refl c
  call_ready (arrives (suc i) b) v l l' e e' st was first may k a c at = cc
  call_ready (arrives zero b) v l l' e e' st was first may k a c at =
      let u : e ≡ unended = in_unended (in_at v 0) e (may_open b (in_at v 0) may) k in
      item_ready b l l' e e' st was _ a u refl c (at u)

-- ---- the moves that are noted

pub chooses_noted : (a b : Option (List ℕ)) (p : Option ℕ) → ChoosesAs a b → ChoosesAs a (noted b p)
chooses_noted None None p h = tt
chooses_noted (Some a) (Some b) None h = tt
chooses_noted (Some a) (Some b) (Some p) h = tt
chooses_noted None (Some b) p h = absurd h
chooses_noted (Some a) None p h = absurd h

pub chooses_self : (a : Option (List ℕ)) → ChoosesAs a a
chooses_self None = tt
chooses_self (Some a) = tt

-- what was noted before, and the substream of what was given
record Noted (was : Option (List ℕ)) (gave : Option Tagged) (ms : List ℕ) : Type 0 where
  before_it : List ℕ
  is : was ≡ Some before_it
  now : ms ≡ before_it ++ ports_given (option_to_list gave)

noted_as : (was : Option (List ℕ)) (gave : Option Tagged) (ms : List ℕ) → noted was (port_in gave) ≡ Some ms → Noted was gave ms
noted_as None gave ms h = cc
noted_as (Some ks) None ms h = record { before_it = ks; is = refl; now = sym (same_Some ks ms h) ∙ sym (append-nil ks) }
noted_as (Some ks) (Some x) ms h = record { before_it = ks; is = refl; now = sym (same_Some (ks ++ x.port ∷ []) ms h) }

pub noted_grows : (was : Option (List ℕ)) (p : Option ℕ) → IsPrefix (unwrap_or was []) (unwrap_or (noted was p) [])
noted_grows None p = record { rest = []; is = refl }
noted_grows (Some ms) None = record { rest = []; is = sym (append-nil ms) }
noted_grows (Some ms) (Some p) = record { rest = p ∷ []; is = refl }

-- moves that are as many as the elements are the first of these
front : (ms all rest : List ℕ) (g : List Tree) → length ms ≡ length g → all ≡ ms ++ rest → ms ≡ take (length g) all
front ms all rest g count is = sym (take-append_seam ms rest) ∙ ap (λ n. take n (ms ++ rest)) count ∙ ap (take (length g)) (sym is)

-- what follows from facts of an answer that is Ok
on_ok_three : {T E P Q R Z : Type 0} → (r : Result T E) → OnOk r P → OnOk r Q → OnOk r R → (P → Q → R → Z) → OnOk r Z
on_ok_three (Ok x) p q z f = f p q z
on_ok_three (Err e) p q z f = tt

-- ---- the law once a call's actions are done

module _ {C : Type 0} (whole rest : C → ListFunction) (is_open : C → Bool) where
  -- one that was started and owes nothing is closed, and no call comes there
  closed_held : (f : ListFunction) (yields : List Tree → End → Given Tree) (p : Phase) (l : Logic C) → OwesIn rest is_open f yields p l shut → p ≡ Closed
  closed_held f yields Closed l h = refl
  closed_held f yields New l h = absurd h
  closed_held f yields Open l h = absurd h

  none_shut : (f : ListFunction) (yields : List Tree → End → Given Tree) (call : Call) (l : Logic C) (v : View) → Owes rest is_open f yields l shut → port_state l v → CallAllowed call v → ⊥
  none_shut f yields call l v h r may =
      let c = closed_held f yields l.phase l h in
      let o = called_open l call v (λ e. cc) may r in
      cc

  not_closed : (f : ListFunction) (yields : List Tree → End → Given Tree) (x : Run Subs Tree) (l : Logic C) → Owes rest is_open f yields l (owing x) → l.phase ≢ Closed
  not_closed f yields x l h = by_phase l.phase h
    where
      by_phase : (p : Phase) → OwesIn rest is_open f yields p l (owing x) → p ≢ Closed
      by_phase New h = λ e. cc
      by_phase Open h = λ e. cc
      by_phase Closed h = absurd h

  module _ (f : ListFunction) (yields : List Tree → End → Given Tree) (start : Run Subs Tagged) (first : Logic C) where
    abbrev o : Opening
    o = opening_of first.how

    abbrev j : Machine Subs Tree
    j = joined_machine yields o

    abbrev ready : List Tree → End → List Tagged
    ready = ready_of yields o start

    -- what went out and is held still is what was held and what arose; or nothing goes out any more. Then the substreams of all
    -- that is ready are the moves, and then others: those of what is held, where it is not closed.
    record Counted (old new : Logic C) (gave : Option Tagged) (was now : List Tagged) (ms ks : List ℕ) : Type 0 where
      others : List ℕ
      ports : ports_given now ≡ ks ++ others
      held_still : new.phase ≢ Closed → others ≡ ports_given new.pending

    counted : (call : Call) (x : Run Subs Tree) (old new : Logic C) (gave : Option Tagged) (was now : List Tagged) (ms ks : List ℕ) → QueuesOutputs (substreams yields o) call (owing x) old gave new → now ≡ was ++ arising (substreams yields o) call x.state
        → ports_given was ≡ ms ++ ports_given old.pending → ks ≡ ms ++ ports_given (option_to_list gave) → Counted old new gave was now ms ks
    counted call x old new gave was now ms ks (inl q) r p k =
        let arose : List Tagged = arising (substreams yields o) call x.state in
        let tail : ports_given old.pending ++ ports_given arose ≡ ports_given (option_to_list gave) ++ ports_given new.pending =
        sym (map-append (λ (y : Tagged). y.port) old.pending arose) ∙ ap ports_given (sym q) ∙ map-append (λ (y : Tagged). y.port) (option_to_list gave) new.pending in
        record {
          others = ports_given new.pending;
          ports =
              ap ports_given r ∙ map-append (λ (y : Tagged). y.port) was arose ∙ ap (λ (l : List ℕ). l ++ ports_given arose) p ∙ append_assoc ms (ports_given old.pending) (ports_given arose)
              ∙ ap (λ (l : List ℕ). ms ++ l) tail ∙ sym (append_assoc ms (ports_given (option_to_list gave)) (ports_given new.pending)) ∙ ap (λ (l : List ℕ). l ++ ports_given new.pending) (sym k);
          held_still = λ open_. refl;
        }
    counted call x old new gave was now ms ks (inr q) r p k =
        let arose : List Tagged = arising (substreams yields o) call x.state in
        let same : ks ≡ ms = k ∙ ap (λ (g : Option Tagged). ms ++ ports_given (option_to_list g)) q.0 ∙ append-nil ms in
        record {
          others = ports_given old.pending ++ ports_given arose;
          ports =
              ap ports_given r ∙ map-append (λ (y : Tagged). y.port) was arose ∙ ap (λ (l : List ℕ). l ++ ports_given arose) p ∙ append_assoc ms (ports_given old.pending) (ports_given arose)
              ∙ ap (λ (l : List ℕ). l ++ (ports_given old.pending ++ ports_given arose)) (sym same);
          held_still = λ open_. absurd (open_ q.1);
        }

    -- the moves are as many as the elements that were given
    as_many : (ms : List ℕ) (g : List Tree) (gave : Option Tagged) → length ms ≡ length g → length (ms ++ ports_given (option_to_list gave)) ≡ length (g ++ untagged (option_to_list gave))
    as_many ms g None e = ap length (append-nil ms) ∙ e ∙ ap length (sym (append-nil g))
    as_many ms g (Some x) e = length-append ms (x.port ∷ []) ∙ ap (λ n. n + 1) e ∙ sym (length-append g (x.item ∷ []))

    module _ (call : Call) (old new : Logic C) (v : View) (acts : List Act) (took gave : List Item) where
      abbrev Later : Type 0
      Later = TellsMachine rest is_open f yields start first new (acted_all (seen call v) acts) (took ++ brought_to 0 call) (gave ++ given_on 0 acts)

      abbrev OldLaw : Run Subs Tree → Type 0
      OldLaw x = Law j (untag start) (owing x) (in_at v 0) (out_at v 0) took gave

      owed_state : (x : Run Subs Tree) (law : OldLaw x) → law.in_end ≡ unended → (run (substreams yields o) start law.in_list).state ≡ x.state
      owed_state x law u =
          let now : run j (untag start) law.in_list ≡ record { gave = law.out_list ++ x.gave; state = x.state } = ap (λ (e : End). ends_by j (run j (untag start) law.in_list) e) (sym u) ∙ law.keeps.1.0 in
          sym (state_untag yields o start law.in_list) ∙ ap (λ (y : Run Subs Tree). y.state) now

      tells_owing : (x : Run Subs Tree) → Owes rest is_open f yields old (owing x) → (law : OldLaw x)
          → ((ms : List ℕ) → old.moves ≡ Some ms → length ms ≡ length law.out_list)
          → ((ms : List ℕ) → old.moves ≡ Some ms → old.phase ≢ Closed → ports_given (ready law.in_list law.in_end) ≡ ms ++ ports_given old.pending)
          → port_state old v → CallAllowed call v → ActsAllowed (seen call v) acts → (t : Turned whole rest is_open call old acts new)
          → (y : Held Subs) → Owes rest is_open f yields new y → TurnAt j 0 call (owing x) (given_on 0 acts) y → QueuesOutputs (substreams yields o) call (owing x) old t.gave new → Later
      tells_owing x owes law counts queued r may allowed t y now turn queues =
          let next = call_law j (untag start) 0 call (owing x) y v took gave acts (one_input (port_state_in old.phase old.over old.asked old.pending) v.ins v.outs r) may allowed turn law in
          let out = told_then gave (gave ++ given_on 0 acts) (given_on 0 acts) law.out_list (untagged (option_to_list t.gave)) law.out_end t.closing next.out_list next.out_end law.gave_is law.keeps.0 t.out next.gave_is refl in
          let grown : ready next.in_list next.in_end ≡ ready law.in_list law.in_end ++ arising (substreams yields o) call x.state =
          call_ready yields o start call v law.in_list next.in_list law.in_end next.in_end x.state took (first_call rest is_open call old v may r) may law.took_as law.took_is next.took_is (λ u. owed_state x law u) in
          let noted_now : (ms : List ℕ) → new.moves ≡ Some ms → Noted old.moves t.gave ms = λ ms e. noted_as old.moves t.gave ms (sym t.moves ∙ e) in
          let count : (ms : List ℕ) → new.moves ≡ Some ms → length ms ≡ length next.out_list =
          λ ms e. let n = noted_now ms e in ap length n.now ∙ as_many n.before_it law.out_list t.gave (counts n.before_it n.is) ∙ ap length (sym out.list) in
          let all : (ms : List ℕ) (e : new.moves ≡ Some ms) → Counted old new t.gave (ready law.in_list law.in_end) (ready next.in_list next.in_end) (noted_now ms e).before_it ms =
          λ ms e. let n = noted_now ms e in counted call x old new t.gave (ready law.in_list law.in_end) (ready next.in_list next.in_end) n.before_it ms queues grown (queued n.before_it n.is (not_closed f yields x old owes)) n.now in
          record {
            held = y;
            owes = now;
            law = next;
            counts = count;
            moves = λ ms e. let a = all ms e in front ms (ports_given (ready next.in_list next.in_end)) a.others next.out_list (count ms e) a.ports;
            queued = λ ms e open_. let a = all ms e in a.ports ∙ ap (λ (l : List ℕ). ms ++ l) (a.held_still open_);
          }

      tells_after : port_state old v → CallAllowed call v → ActsAllowed (seen call v) acts → Turned whole rest is_open call old acts new → old.how ≡ first.how → Same (whole old.chain) f → Means yields f
          → TellsMachine rest is_open f yields start first old v took gave → Later
      tells_after r may allowed t how same means tells = by_held tells.held tells.owes tells.law tells.counts tells.queued
        where
          by_held : (x : Held Subs) → Owes rest is_open f yields old x → (law : Law j (untag start) x (in_at v 0) (out_at v 0) took gave)
              → ((ms : List ℕ) → old.moves ≡ Some ms → length ms ≡ length law.out_list)
              → ((ms : List ℕ) → old.moves ≡ Some ms → old.phase ≢ Closed → ports_given (ready law.in_list law.in_end) ≡ ms ++ ports_given old.pending) → Later
          by_held shut owes law counts queued = absurd (none_shut f yields call old v owes r may)
          by_held (owing x) owes law counts queued =
              let step = subst (λ h. (y : Held Subs) × (Owes rest is_open f yields new y × (TurnAt (joined_machine yields (opening_of h)) 0 call (owing x) (given_on 0 acts) y × QueuesOutputs (substreams yields (opening_of h)) call (owing x) old t.gave new))) how (t.turn f same yields means (owing x) owes) in
              tells_owing x owes law counts queued r may allowed t step.0 step.1.0 step.1.1.0 step.1.1.1

  pub law_after : (call : Call) (first old new : Logic C) (v : View) (acts : List Act) (took gave : List (List Item)) → port_state old v → CallAllowed call v → ActsAllowed (seen call v) acts → Turned whole rest is_open call old acts new
      → SubLaw rest is_open whole first old v took gave → SubLaw rest is_open whole first new (acted_all (seen call v) acts) (histories.brought_by call took) (histories.given_all acts gave)
  law_after call first old new v acts took gave r may allowed t law = record {
    took_list = law.took_list ++ brought_to 0 call;
    gave_list = law.gave_list ++ given_on 0 acts;
    took_is = ap (histories.brought_by call) law.took_is ∙ brought_one call law.took_list;
    gave_is = ap (histories.given_all acts) law.gave_is ∙ given_one acts law.gave_list;
    node = t.node ∙ law.node;
    how = t.how ∙ law.how;
    chain = t.chain ∙ law.chain;
    chooses = subst (ChoosesAs first.moves) (sym t.moves) (chooses_noted first.moves old.moves (port_in t.gave) law.chooses);
    tells = λ f same yields means start owes.
        tells_after f yields start first call old new v acts law.took_list law.gave_list r may allowed t law.how (subst (λ (c : C). Same (whole c) f) (sym law.chain) same) means (law.tells f same yields means start owes);
  }

  handled : (call : Call) (old new : Logic C) (acts : List Act) → Obeys call (port_state old) (port_state new) acts → Turned whole rest is_open call old acts new → Ready rest is_open new
      → Handles (SubPortState rest is_open) (SubLaw rest is_open whole) call old new acts
  handled call old new acts o t ready = record {
    obeys = record {
      allowed = λ v may r. o.allowed v may r.ports;
      ports = λ v may r. record { started = t.started; ready = ready; ports = o.ports v may r.ports };
    };
    stands = t.stands;
    keeps = λ first v took gave may r law. law_after call first old new v acts took gave r.ports may (o.allowed v may r.ports) t law;
  }

  -- the same of an answer, and of the call that comes to its one input or output
  pub handles : {T E : Type 0} (call : Call) (old new : Logic C) (acts : List Act) (r : Result T E) → Meets call (SubPortState rest is_open old) → OnOk r (Obeys (at_first call) (port_state old) (port_state new) acts) → OnOk r (Turned whole rest is_open (at_first call) old acts new)
      → OnOk r (Ready rest is_open new) → OnOk r (Handles (SubPortState rest is_open) (SubLaw rest is_open whole) call old new acts)
  handles call old new acts r m o t k =
      subst (λ c. OnOk r (Handles (SubPortState rest is_open) (SubLaw rest is_open whole) c old new acts)) (first_call rest is_open call old m.0 m.1.0 m.1.1.ports)
      (on_ok_three r o t k (λ a b c. handled (at_first call) old new acts a b c))

  -- ---- the run begins

  -- what a new one knows of its ports, and that it holds nothing
  record News (p : List Tagged) (x : InView) (y : OutView) : Type 0 where
    took_as : TookAs x unended
    gave_as : GaveAs y unended
    none : p ≡ []

  new_ports : (p : Phase) (over asked : Bool) (k : List Tagged) (x : InView) (y : OutView) → p ≡ New → port_state_in p over asked k x y → News k x y
  new_ports New false false k Idle outlet.Unpulled e r = record { took_as = refl; gave_as = refl; none = r }
  new_ports New false false k Idle outlet.Available e r = absurd r
  new_ports New false false k Idle outlet.Closed e r = absurd r
  new_ports New false false k Idle outlet.Cancelled e r = absurd r
  new_ports New false false k Pulled y e r = absurd r
  new_ports New false false k Finished y e r = absurd r
  new_ports New false false k Cancelled y e r = absurd r
  new_ports New false true k x y e r = absurd r
  new_ports New true asked k x y e r = absurd r
  new_ports Open over asked k x y e r = cc
  new_ports Closed over asked k x y e r = cc

  at_ports : (m : Machine Subs Tree) (start : Run Subs Tree) (h : Held Subs) (v : View) (x : InView) (y : OutView) → v.ins ≡ x ∷ [] → v.outs ≡ y ∷ [] → Law m start h x y [] [] → Law m start h (in_at v 0) (out_at v 0) [] []
  at_ports m start h v x y a b law = rw (a, b) law

  -- what a new one owes is what it holds
  owed_new : (f : ListFunction) (yields : List Tree → End → Given Tree) (l : Logic C) (x : Run Subs Tree) → l.phase ≡ New → Owes rest is_open f yields l (owing x) → x.gave ≡ untagged l.pending
  owed_new f yields l x n h = by_phase l.phase n h
    where
      by_phase : (p : Phase) → p ≡ New → OwesIn rest is_open f yields p l (owing x) → x.gave ≡ untagged l.pending
      by_phase New n h = h.0
      by_phase Open n h = cc
      by_phase Closed n h = cc

  unmoved_none : (was : Option (List ℕ)) (ms : List ℕ) → IsUnmoved was → was ≡ Some ms → ms ≡ []
  unmoved_none None ms u e = cc
  unmoved_none (Some ks) ms u e = sym (same_Some ks ms e) ∙ u

  no_items : (l : List Tagged) → untagged l ≡ [] → l ≡ []
  no_items [] e = refl
  no_items (x ∷ l) e = cc

  fresh_tells : (f : ListFunction) (yields : List Tree → End → Given Tree) (start : Run Subs Tagged) (l : Logic C) (v : View) (x : InView) (y : OutView) → l.phase ≡ New → IsUnmoved l.moves → News l.pending x y → v.ins ≡ x ∷ [] → v.outs ≡ y ∷ []
      → Owes rest is_open f yields l (owing (untag start)) → TellsMachine rest is_open f yields start l l v [] []
  fresh_tells f yields start l v x y n u news a b owes =
      let o : Opening = opening_of l.how in
      let none : start.gave ≡ [] = no_items start.gave (owed_new f yields l (untag start) n owes ∙ ap untagged news.none) in
      let law : Law (joined_machine yields o) (untag start) (owing (untag start)) (in_at v 0) (out_at v 0) [] [] =
      at_ports (joined_machine yields o) (untag start) (owing (untag start)) v x y a b (new_law (joined_machine yields o) (untag start) x y news.took_as news.gave_as (λ h. ap untagged none)) in
      let took = told_still [] [] [] unended law.in_list law.in_end refl law.took_is refl in
      let gave = told_still [] [] [] unended law.out_list law.out_end refl law.gave_is refl in
      let nothing : ready_of yields o start law.in_list law.in_end ≡ [] =
      ap (ready_of yields o start law.in_list) took.1 ∙ ap (λ (k : List Tree). ready_of yields o start k unended) took.0 ∙ open_ready yields o start start ∙ none in
      record {
        held = owing (untag start);
        owes = owes;
        law = law;
        counts = λ ms e. ap length (unmoved_none l.moves ms u e) ∙ ap length (sym gave.0);
        moves = λ ms e. unmoved_none l.moves ms u e ∙ ap (λ (g : List Tree). take (length g) (ports_given (ready_of yields o start law.in_list law.in_end))) (sym gave.0);
        queued = λ ms e open_. ap ports_given nothing ∙ ap ports_given (sym news.none) ∙ ap (λ (k : List ℕ). k ++ ports_given l.pending) (sym (unmoved_none l.moves ms u e));
      }

  pub fresh_law : (l : Logic C) (v : View) (took gave : List (List Item)) → SubFresh rest is_open l v → histories.AllEmpty took → histories.AllEmpty gave → length took ≡ length v.ins → length gave ≡ length v.outs → SubLaw rest is_open whole l l v took gave
  fresh_law l v took gave fresh a b m n =
      let p = fresh_ports (port_state_in l.phase l.over l.asked l.pending) v.ins v.outs took gave fresh.ports a b m n in
      let news = new_ports l.phase l.over l.asked l.pending p.x p.y fresh.fresh p.holds in
      record {
        took_list = [];
        gave_list = [];
        took_is = p.took_is;
        gave_is = p.gave_is;
        node = refl;
        how = refl;
        chain = refl;
        chooses = chooses_self l.moves;
        tells = λ f same yields means start owes. fresh_tells f yields start l v p.x p.y fresh.fresh fresh.unmoved news p.ins p.outs owes;
      }

  started : (old new : Logic C) (acts : List Act) → Obeys starts (port_state old) (port_state new) acts → Turned whole rest is_open starts old acts new → Ready rest is_open new → Starts (SubPortState rest is_open) (SubLaw rest is_open whole) (SubFresh rest is_open) old new acts
  started old new acts o t k = record {
    obeys = record {
      allowed = λ v may r. o.allowed v may r.ports;
      ports = λ v may r. record { started = t.started; ready = k; ports = o.ports v may r.ports };
    };
    stands = t.stands;
    begins = λ v took gave may r a b m n. law_after starts old old new v acts took gave r.ports may (o.allowed v may r.ports) t (fresh_law old v took gave r a b m n);
  }

  pub starts_as : {T E : Type 0} (old new : Logic C) (acts : List Act) (r : Result T E) → OnOk r (Obeys starts (port_state old) (port_state new) acts) → OnOk r (Turned whole rest is_open starts old acts new) → OnOk r (Ready rest is_open new)
      → OnOk r (Starts (SubPortState rest is_open) (SubLaw rest is_open whole) (SubFresh rest is_open) old new acts)
  starts_as old new acts r o t k = on_ok_three r o t k (λ a b c. started old new acts a b c)

  -- its moves only grow
  pub grew : {T E : Type 0} (call : Call) (old new : Logic C) (acts : List Act) (r : Result T E) → OnOk r (Turned whole rest is_open call old acts new) → OnOk r (IsPrefix (sub_moves old) (sub_moves new))
  grew call old new acts (Ok x) t = subst (λ (ms : Option (List ℕ)). IsPrefix (sub_moves old) (unwrap_or ms [])) (sym t.moves) (noted_grows old.moves (port_in t.gave))
  grew call old new acts (Err e) t = tt
