-- The end of the input of a stage that keeps: its actions are allowed, and its port state holds then.
use Rattle.std.specs.Prelude.{is_some, option_to_list}
use Rattle.std.proofs.Common.{◌≡◌, ℕ, Bool, true, false, List, [], ◌∷◌, refl, sym, ap, ◌∙◌, subst, Option, Some, None, Result, Ok, Err}
use Rattle.elem_core.specs.Tree.{Tree}
use Rattle.elem_core.specs.declared.item.Item.TheVariants as item
use Rattle.elem_core.specs.declared.why.Why.{Why}
use Rattle.port_core.specs.declared.act.Act.{Act}
use Rattle.port_core.specs.declared.view.InView.{InView}
use Rattle.port_core.specs.declared.view.InView.TheVariants.{Idle, Pulled, Finished, Cancelled}
use Rattle.port_core.specs.declared.view.OutView.{OutView}
use Rattle.port_core.specs.declared.view.OutView.TheVariants as outlet
use Rattle.port_core.specs.View.{View, OneOneOf, ActsAllowed, acted_all}
use Rattle.port_core.specs.Call.{arrives, seen, Obeys}
use Rattle.stream_model.specs.Linear.{Work, Stage}
use Rattle.stage_core.specs.declared.phase.Phase.{Phase}
use Rattle.stage_core.specs.declared.phase.Phase.TheVariants.{Open}
use Rattle.step_work.specs.declared.ending.StateEnd.{StateEnd}
use Rattle.step_work.specs.declared.ending.StateEnd.TheVariants.{Lasting, Ended, Failed}
use Rattle.stage_state.specs.Outcomes.{working, finished, finish_acts}
use Rattle.stage_state.specs.States.{Logic, IsKept, keep_port_state, port_state}

pub none_listed : (o : Option Tree) → is_some o ≡ false → option_to_list o ≡ []
none_listed None h = refl
none_listed (Some t) h = cc

-- what is allowed, and what holds then
record Both (v : View) (acts : List Act) (new : Logic) : Type 0 where
  allowed : ActsAllowed v acts
  row_is : port_state new (acted_all v acts)

module _ (s : Stage) (w : Work) (kept : IsKept w) where
  abbrev open_keep : StateEnd → Bool → Work → Logic
  open_keep e a k = record { phase = Open; stage = record s { work = k }; pending = []; asked = a; ending = e; size = None }

  abbrev ended_ports : OutView → View
  ended_ports y = record { ins = Finished ∷ []; outs = y ∷ [] }

  at_ports : (e : StateEnd) (a : Bool) (r : Result (Option Tree) Why) (x : InView) (y : OutView) → keep_port_state Open e a [] s.work x y → Both (ended_ports y) (finish_acts (open_keep e a w) r) (finished (open_keep e a w) r)
  at_ports Lasting true (Ok None) Pulled outlet.Available h = record { allowed = (tt, tt); row_is = tt }
  at_ports Lasting true (Ok (Some u)) Pulled outlet.Available h = record { allowed = (refl, (tt, tt)); row_is = tt }
  at_ports Lasting true (Err why) Pulled outlet.Available h = record { allowed = (tt, tt); row_is = tt }
  at_ports Lasting false (Ok None) Idle outlet.Unpulled h = record { allowed = (tt, tt); row_is = tt }
  at_ports Lasting false (Ok (Some u)) Idle outlet.Unpulled h = record { allowed = tt; row_is = (refl, kept) }
  at_ports Lasting false (Err why) Idle outlet.Unpulled h = record { allowed = (tt, tt); row_is = tt }
  at_ports Lasting true r Pulled outlet.Unpulled h = absurd h
  at_ports Lasting true r Pulled outlet.Closed h = absurd h
  at_ports Lasting true r Pulled outlet.Cancelled h = absurd h
  at_ports Lasting true r Idle y h = absurd h
  at_ports Lasting true r Finished y h = absurd h
  at_ports Lasting true r Cancelled y h = absurd h
  at_ports Lasting false r Idle outlet.Available h = absurd h
  at_ports Lasting false r Idle outlet.Closed h = absurd h
  at_ports Lasting false r Idle outlet.Cancelled h = absurd h
  at_ports Lasting false r Pulled y h = absurd h
  at_ports Lasting false r Finished y h = absurd h
  at_ports Lasting false r Cancelled y h = absurd h
  at_ports Ended false r Finished outlet.Unpulled h = let e = h.0 in cc
  at_ports Ended false r Finished outlet.Available h = absurd h
  at_ports Ended false r Finished outlet.Closed h = absurd h
  at_ports Ended false r Finished outlet.Cancelled h = absurd h
  at_ports Ended false r Idle y h = absurd h
  at_ports Ended false r Pulled y h = absurd h
  at_ports Ended false r Cancelled y h = absurd h
  at_ports Ended true r x y h = absurd h
  at_ports (Failed c) false r Finished outlet.Unpulled h = let e = h.0 in cc
  at_ports (Failed c) false r Finished outlet.Available h = absurd h
  at_ports (Failed c) false r Finished outlet.Closed h = absurd h
  at_ports (Failed c) false r Finished outlet.Cancelled h = absurd h
  at_ports (Failed c) false r Idle y h = absurd h
  at_ports (Failed c) false r Pulled y h = absurd h
  at_ports (Failed c) false r Cancelled y h = absurd h
  at_ports (Failed c) true r x y h = absurd h

  at_lists : (e : StateEnd) (a : Bool) (r : Result (Option Tree) Why) (xs : List InView) (ys : List OutView) → OneOneOf (keep_port_state Open e a [] s.work) xs ys
      → Both (seen (arrives 0 item.Ended) (record { ins = xs; outs = ys })) (finish_acts (open_keep e a w) r) (finished (open_keep e a w) r)
  at_lists e a r (x ∷ []) (y ∷ []) h = at_ports e a r x y h
  at_lists e a r [] ys h = absurd h
  at_lists e a r (x ∷ []) [] h = absurd h
  at_lists e a r (x ∷ []) (y ∷ z ∷ ys) h = absurd h
  at_lists e a r (x ∷ u ∷ xs) ys h = absurd h

  obeys_at : (e : StateEnd) (a : Bool) (r : Result (Option Tree) Why) → Obeys (arrives 0 item.Ended) (port_state (open_keep e a s.work)) (port_state (finished (open_keep e a w) r)) (finish_acts (open_keep e a w) r)
  obeys_at e a r = record { allowed = λ v may h. (at_lists e a r v.ins v.outs h).allowed; ports = λ v may h. (at_lists e a r v.ins v.outs h).row_is }

abbrev of_parts : Phase → Stage → List Tree → Bool → StateEnd → Option ℕ → Logic
of_parts p s k a e n = record { phase = p; stage = s; pending = k; asked = a; ending = e; size = n }

-- the end brought this
pub finish_obeys : (l : Logic) (w : Work) (r : Result (Option Tree) Why) → l.phase ≡ Open → l.pending ≡ [] → l.size ≡ None → IsKept w
    → Obeys (arrives 0 item.Ended) (port_state l) (port_state (finished (working l w) r)) (finish_acts (working l w) r)
finish_obeys l w r on none no_size kept =
    let is : l ≡ of_parts Open l.stage [] l.asked l.ending None =
    ap (λ p. of_parts p l.stage l.pending l.asked l.ending l.size) on ∙ ap (λ k. of_parts Open l.stage k l.asked l.ending l.size) none ∙ ap (λ n. of_parts Open l.stage [] l.asked l.ending n) no_size in
    subst (λ (x : Logic). Obeys (arrives 0 item.Ended) (port_state x) (port_state (finished (working x w) r)) (finish_acts (working x w) r)) (sym is) (obeys_at l.stage w kept l.ending l.asked r)
