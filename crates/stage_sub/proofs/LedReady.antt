-- What is ready of what came, once a call came: what was ready, and then what arises by it.
use Rattle.std.specs.Prelude.{◌-◌, take}
use Rattle.std.proofs.Common.{◌≡◌, ℕ, zero, suc, ◌+◌, ◌≤◌, Bool, true, false, List, [], ◌∷◌, ◌++◌, length, refl, sym, ap, ◌∙◌, subst, arith, append_assoc, append-nil}
use Rattle.std.proofs.lemmas.List.{length-append}
use Rattle.std.proofs.Math.Seq.{take-append_seam}
use Rattle.elem_core.specs.Tree.{Tree}
use Rattle.elem_core.specs.declared.item.Item.{Item}
use Rattle.elem_core.specs.declared.item.Item.TheVariants as item
use Rattle.elem_core.specs.declared.why.Cause.{Cause}
use Rattle.port_core.specs.Call.{Call, starts, pulls, arrives, cancels}
use Rattle.stream_model.specs.Outlook.{End, unended, ended, failed}
use Rattle.stream_model.specs.FanIn.{Tagged, Inflow}
use Rattle.stream_model.specs.Machine.{State, going, done, broken, Run, Machine, Given, Finish, adds, refuses, run, close, close_at, feed, feed_at, finish_at}
use Rattle.stream_model.specs.Substreams.{Opening, Subs, substreams}
use Rattle.stream_model.proofs.MachineLaws.{run-append}
use Rattle.stage_core.specs.Inflows.{joined, joined_at, nothing_came, coming, flow_of}
use Rattle.stage_core.proofs.Inflows.{joined-nothing_came}
use Rattle.stage_sub.specs.Handling.{ready_of}
use Rattle.stage_sub.specs.Leds.{then_state, EndAdds, EndsWell}
use Rattle.stage_sub.specs.LedLaws.{led_ready}
use Rattle.stage_sub.specs.Moves.{added, arising}
use Rattle.stage_sub.proofs.Nodes.{open_ready, failed_ready, ended_ready, fed_ready}

module _ (yields : List Tree → End → Given Tree) (o : Opening) (start : Run Subs Tagged) where
  abbrev m : Machine Subs Tagged
  m = substreams yields o

  -- an input that goes on, and these came
  abbrev going_on : List Tree → Inflow
  going_on l = record { list = l; end = unended }

  -- what the machine gave is ready of one that goes on
  pub ready_open : (w : Inflow) → w.end ≡ unended → led_ready yields o start w ≡ (run m start w.list).gave
  ready_open w u = ap (ready_of yields o start w.list) u ∙ open_ready yields o start (run m start w.list)

  -- one more item to an input that goes on
  more_ready : (b : Item) (l : List Tree) (st : State Subs) → (run m start l).state ≡ st → led_ready yields o start (joined (going_on l) (flow_of b)) ≡ (run m start l).gave ++ arising m (arrives 0 b) st
  more_ready (item.Elem t) l st at =
      open_ready yields o start (run m start (l ++ t ∷ [])) ∙ ap (λ (y : Run Subs Tagged). y.gave) (run-append m start l (t ∷ [])) ∙ fed_ready yields o start (run m start l).gave (run m start l).state 0 t
      ∙ ap (λ (k : State Subs). (run m start l).gave ++ arising m (arrives 0 (item.Elem t)) k) at
  more_ready item.Ended l st at =
      ap (λ (k : List Tree). ready_of yields o start k ended) (append-nil l) ∙ ended_ready yields o start (run m start l).gave (run m start l).state 0
      ∙ ap (λ (k : State Subs). (run m start l).gave ++ arising m (arrives 0 item.Ended) k) at
  more_ready (item.Failed c) l st at =
      ap (λ (k : List Tree). ready_of yields o start k (failed c)) (append-nil l) ∙ failed_ready yields o start (run m start l).gave (run m start l).state c
      ∙ sym (append-nil (run m start l).gave)

  joined_open : (w r : Inflow) → w.end ≡ unended → joined w r ≡ joined (going_on w.list) r
  joined_open w r u = ap (λ (e : End). joined_at e w.list r) u

  -- one more call, which comes only to an input that goes on
  pub call_ready : (call : Call) (w : Inflow) (st : State Subs) → ((i : ℕ) (b : Item) → call ≡ arrives i b → (i ≡ 0) × (w.end ≡ unended)) → (w.end ≡ unended → (run m start w.list).state ≡ st)
      → led_ready yields o start (joined w (coming call 0)) ≡ led_ready yields o start w ++ arising m call st
  call_ready starts w st opens at = ap (led_ready yields o start) (joined-nothing_came w) ∙ sym (append-nil (led_ready yields o start w))
  call_ready (pulls j) w st opens at = ap (led_ready yields o start) (joined-nothing_came w) ∙ sym (append-nil (led_ready yields o start w))
  call_ready (cancels j) w st opens at = ap (led_ready yields o start) (joined-nothing_came w) ∙ sym (append-nil (led_ready yields o start w))
  call_ready (arrives (suc i) b) w st opens at = let q = (opens (suc i) b refl).0 in cc
  call_ready (arrives zero b) w st opens at =
      let u = (opens 0 b refl).1 in
      ap (led_ready yields o start) (joined_open w (flow_of b) u) ∙ more_ready b w.list st (at u) ∙ ap (λ (l : List Tagged). l ++ arising m (arrives 0 b) st) (sym (ready_open w u))

  -- the state of the machine then
  fed_state : (g : List Tagged) (st : State Subs) (t : Tree) → (feed m (record { gave = g; state = st }) t).state ≡ then_state m (arrives 0 (item.Elem t)) st
  fed_state g (going s) t = refl
  fed_state g done t = refl
  fed_state g (broken c) t = refl

  pub elem_state : (l : List Tree) (t : Tree) (st : State Subs) → (run m start l).state ≡ st → (run m start (l ++ t ∷ [])).state ≡ then_state m (arrives 0 (item.Elem t)) st
  elem_state l t st at =
      ap (λ (y : Run Subs Tagged). y.state) (run-append m start l (t ∷ [])) ∙ fed_state (run m start l).gave (run m start l).state t ∙ ap (λ (k : State Subs). then_state m (arrives 0 (item.Elem t)) k) at

  finish_ended : (g : List Tagged) (f : Finish Tagged) → EndAdds f → (finish_at m g f).end ≡ ended
  finish_ended g (adds l) h = refl
  finish_ended g (refuses c) h = absurd h

  close_ended : (g : List Tagged) (st : State Subs) → (s : Subs) → st ≡ going s → EndsWell m (arrives 0 item.Ended) st → (close_at m g st ended).end ≡ ended
  close_ended g (going r) s e h = finish_ended g (m.finish r) h
  close_ended g done s e h = refl
  close_ended g (broken c) s e h = cc

  -- and that an end of the input ends it
  pub end_state : (l : List Tree) (st : State Subs) (s : Subs) → (run m start l).state ≡ st → st ≡ going s → EndsWell m (arrives 0 item.Ended) st → (close m (run m start l) ended).end ≡ ended
  end_state l st s at e h = ap (λ (k : State Subs). (close_at m (run m start l).gave k ended).end) at ∙ close_ended (run m start l).gave st s e h

  -- all but the last of one more
  pub all_but_last : (l : List Tree) (t : Tree) → take (length (l ++ t ∷ []) - 1) (l ++ t ∷ []) ≡ l
  all_but_last l t =
      let n : length (l ++ t ∷ []) - 1 ≡ length l = (let e = length-append l (t ∷ []) in omega (arith, e)) in
      ap (λ k. take k (l ++ t ∷ [])) n ∙ take-append_seam l (t ∷ [])
