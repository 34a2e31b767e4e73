-- An ask and an end of the input obey the port rules.
use Rattle.std.proofs.Common.{◌≡◌, ℕ, Bool, true, false, List, [], ◌∷◌, Option, Some, None, refl, sym, ap, ◌∙◌, subst, arith}
use Rattle.elem_core.specs.declared.item.Item.TheVariants as item
use Rattle.port_core.specs.declared.act.Act.{Act}
use Rattle.port_core.specs.declared.view.InView.{InView}
use Rattle.port_core.specs.declared.view.InView.TheVariants.{Idle, Pulled, Finished, Cancelled}
use Rattle.port_core.specs.declared.view.OutView.{OutView}
use Rattle.port_core.specs.declared.view.OutView.TheVariants as outlet
use Rattle.port_core.specs.View.{View, OneOneOf, IsInOpen, ActsAllowed, acted_all}
use Rattle.port_core.specs.Call.{pulls, arrives, seen, CallAllowed, Obeys}
use Rattle.stream_model.specs.FanIn.{Tagged}
use Rattle.stage_core.specs.declared.phase.Phase.{Phase}
use Rattle.stage_core.specs.declared.phase.Phase.TheVariants.{Open}
use Rattle.stage_sub.specs.States.{Logic, port_state, port_state_in, pulled, pulled_acts, finished, finish_acts}
use Rattle.stage_sub.specs.declared.blame.Blame.{Blame}

-- the actions are allowed, and the row holds then
record Obeyed (over : Bool) (p : List Tagged) (now : View → Type 0) (v : View) : Type 0 where
  allowed : ActsAllowed (seen (pulls 0) v) (pulled_acts over p)
  ports : now (acted_all (seen (pulls 0) v) (pulled_acts over p))

module _ {C : Type 0} (l : Logic C) where
  abbrev then_row : Bool → List Tagged → View → Type 0
  then_row over p v = port_state (pulled (record l { phase = Open; over = over; asked = false; pending = p }) p) v

  abbrev one_view : InView → OutView → View
  one_view x y = record { ins = x ∷ []; outs = y ∷ [] }

  obeyed_at : (over asked : Bool) (p : List Tagged) (x : InView) (y : OutView) → y ≡ outlet.Unpulled → port_state_in Open over asked p x y → (asked ≡ false) × Obeyed over p (then_row over p) (one_view x y)
  obeyed_at false false [] Idle outlet.Unpulled u r = (refl, record { allowed = (refl, tt); ports = refl })
  obeyed_at false false (o ∷ os) Idle outlet.Unpulled u r = (refl, record { allowed = (refl, tt); ports = tt })
  obeyed_at true false [] Finished outlet.Unpulled u r = absurd (omega (arith, r))
  obeyed_at true false (o ∷ []) Finished outlet.Unpulled u r = (refl, record { allowed = (refl, (tt, tt)); ports = tt })
  obeyed_at true false (o ∷ s ∷ os) Finished outlet.Unpulled u r = (refl, record { allowed = (refl, tt); ports = omega arith })
  obeyed_at false false p Idle outlet.Available u r = absurd r
  obeyed_at false false p Idle outlet.Closed u r = absurd r
  obeyed_at false false p Idle outlet.Cancelled u r = absurd r
  obeyed_at false false p Pulled y u r = absurd r
  obeyed_at false false p Finished y u r = absurd r
  obeyed_at false false p Cancelled y u r = absurd r
  obeyed_at true false p Finished outlet.Available u r = absurd r
  obeyed_at true false p Finished outlet.Closed u r = absurd r
  obeyed_at true false p Finished outlet.Cancelled u r = absurd r
  obeyed_at true false p Idle y u r = absurd r
  obeyed_at true false p Pulled y u r = absurd r
  obeyed_at true false p Cancelled y u r = absurd r
  obeyed_at true true p x y u r = absurd r
  obeyed_at false true p Pulled outlet.Available u r = cc
  obeyed_at false true p Pulled outlet.Unpulled u r = absurd r
  obeyed_at false true p Pulled outlet.Closed u r = absurd r
  obeyed_at false true p Pulled outlet.Cancelled u r = absurd r
  obeyed_at false true p Idle y u r = absurd r
  obeyed_at false true p Finished y u r = absurd r
  obeyed_at false true p Cancelled y u r = absurd r

  obeyed_lists : (over asked : Bool) (p : List Tagged) (xs : List InView) (ys : List OutView) → CallAllowed (pulls 0) (record { ins = xs; outs = ys }) → OneOneOf (port_state_in Open over asked p) xs ys → (asked ≡ false) × Obeyed over p (then_row over p) (record { ins = xs; outs = ys })
  obeyed_lists over asked p (x ∷ []) (y ∷ []) may r = obeyed_at over asked p x y may r
  obeyed_lists over asked p [] ys may r = absurd r
  obeyed_lists over asked p (x ∷ []) [] may r = absurd r
  obeyed_lists over asked p (x ∷ []) (y ∷ z ∷ ys) may r = absurd r
  obeyed_lists over asked p (x ∷ w ∷ xs) ys may r = absurd r

  obeyed : (v : View) → l.phase ≡ Open → CallAllowed (pulls 0) v → port_state l v → (l.asked ≡ false) × Obeyed l.over l.pending (then_row l.over l.pending) v
  obeyed v h may r = obeyed_lists l.over l.asked l.pending v.ins v.outs may (subst (λ (p : Phase). OneOneOf (port_state_in p l.over l.asked l.pending) v.ins v.outs) h r)

-- the moves of its log are no part of its row
bare_row : {C : Type 0} (l : Logic C) (p : List Tagged) (v : View) → l.phase ≡ Open → l.asked ≡ false → port_state (pulled (record l { phase = Open; asked = false; pending = p }) p) v → port_state (pulled (record l { pending = p }) p) v
bare_row l p v h a r =
    subst (λ (b : Bool). port_state (pulled (record l { asked = b; pending = p }) p) v) (sym a) (subst (λ (q : Phase). port_state (pulled (record l { phase = q; asked = false; pending = p }) p) v) (sym h) r)

moves_row : {C : Type 0} (l : Logic C) (ms : Option (List ℕ)) (v : View) → port_state l v → port_state (record l { moves = ms }) v
moves_row l ms v r = r

pub asked_ports : {C : Type 0} (old st now : Logic C) (acts : List Act) (m ms : Option (List ℕ)) → record st { moves = m } ≡ old → old.phase ≡ Open → now ≡ pulled st st.pending → acts ≡ pulled_acts st.over st.pending
    → Obeys (pulls 0) (port_state old) (port_state (record now { moves = ms })) acts
asked_ports {C = C} old st now acts m ms is h n a = subst (λ (l : Logic C). l.phase ≡ Open → Obeys (pulls 0) (port_state l) (port_state (record now { moves = ms })) acts) is (λ h. at_old h) h
  where
    at_old : st.phase ≡ Open → Obeys (pulls 0) (port_state st) (port_state (record now { moves = ms })) acts
    at_old h = rw (n, a) (record {
      allowed = λ v may r. (obeyed st v h may r).1.allowed;
      ports = λ v may r. let o = obeyed st v h may r in bare_row st st.pending (acted_all (seen (pulls 0) v) (pulled_acts st.over st.pending)) h o.0 o.1.ports;
    })

-- ---- the end of the input

record EndObeyed {C : Type 0} (l : Logic C) (b : Option Blame) (v : View) : Type 0 where
  allowed : ActsAllowed (seen (arrives 0 item.Ended) v) (finish_acts l b)
  row_then : port_state (finished l b) (acted_all (seen (arrives 0 item.Ended) v) (finish_acts l b))

module _ {C : Type 0} (l : Logic C) (b : Option Blame) where
  abbrev open_one : Bool → List Tagged → Logic C
  open_one asked q = record l { phase = Open; over = false; asked = asked; pending = q }

  end_at : (over asked : Bool) (p q : List Tagged) (d : Option Blame) (x : InView) (y : OutView) → IsInOpen x → port_state_in Open over asked p x y → (over ≡ false) × EndObeyed (open_one asked q) d (record { ins = x ∷ []; outs = y ∷ [] })
  end_at false true p [] None Pulled outlet.Available w r = (refl, record { allowed = (tt, tt); row_then = tt })
  end_at false true p (o ∷ []) None Pulled outlet.Available w r = (refl, record { allowed = (refl, (tt, tt)); row_then = tt })
  end_at false true p (o ∷ u ∷ os) None Pulled outlet.Available w r = (refl, record { allowed = (refl, tt); row_then = omega arith })
  end_at false true p q (Some d) Pulled outlet.Available w r = (refl, record { allowed = (tt, tt); row_then = tt })
  end_at false false p [] None Idle outlet.Unpulled w r = (refl, record { allowed = (tt, tt); row_then = tt })
  end_at false false p (o ∷ os) None Idle outlet.Unpulled w r = (refl, record { allowed = tt; row_then = omega arith })
  end_at false false p q (Some d) Idle outlet.Unpulled w r = (refl, record { allowed = (tt, tt); row_then = tt })
  end_at false true p q d Pulled outlet.Unpulled w r = absurd r
  end_at false true p q d Pulled outlet.Closed w r = absurd r
  end_at false true p q d Pulled outlet.Cancelled w r = absurd r
  end_at false true p q d Idle y w r = absurd r
  end_at false true p q d Finished y w r = absurd w
  end_at false true p q d Cancelled y w r = absurd w
  end_at false false p q d Idle outlet.Available w r = absurd r
  end_at false false p q d Idle outlet.Closed w r = absurd r
  end_at false false p q d Idle outlet.Cancelled w r = absurd r
  end_at false false p q d Pulled y w r = absurd r
  end_at false false p q d Finished y w r = absurd w
  end_at false false p q d Cancelled y w r = absurd w
  end_at true asked p q d Finished y w r = absurd w
  end_at true asked p q d Cancelled y w r = absurd w
  end_at true true p q d Idle y w r = absurd r
  end_at true true p q d Pulled y w r = absurd r
  end_at true false p q d Idle y w r = absurd r
  end_at true false p q d Pulled y w r = absurd r

  end_lists : (over asked : Bool) (p q : List Tagged) (xs : List InView) (ys : List OutView) → CallAllowed (arrives 0 item.Ended) (record { ins = xs; outs = ys }) → OneOneOf (port_state_in Open over asked p) xs ys
      → (over ≡ false) × EndObeyed (open_one asked q) b (record { ins = xs; outs = ys })
  end_lists over asked p q (x ∷ []) (y ∷ []) may r = end_at over asked p q b x y may r
  end_lists over asked p q [] ys may r = absurd r
  end_lists over asked p q (x ∷ []) [] may r = absurd r
  end_lists over asked p q (x ∷ []) (y ∷ z ∷ ys) may r = absurd r
  end_lists over asked p q (x ∷ w ∷ xs) ys may r = absurd r

pub ended_ports : {C : Type 0} (old st0 st now : Logic C) (b : Option Blame) (acts : List Act) (m ms : Option (List ℕ)) → record st0 { moves = m } ≡ old → old.phase ≡ Open → st ≡ record st0 { kept = st.kept; pending = st.pending }
    → now ≡ finished st b → acts ≡ finish_acts st b → Obeys (arrives 0 item.Ended) (port_state old) (port_state (record now { moves = ms })) acts
ended_ports {C = C} old st0 st now b acts m ms is h stays n a =
    subst (λ (l : Logic C). l.phase ≡ Open → Obeys (arrives 0 item.Ended) (port_state l) (port_state (record now { moves = ms })) acts) is (λ h. at_old h) h
  where
    well : st0.phase ≡ Open → (v : View) → CallAllowed (arrives 0 item.Ended) v → port_state st0 v → EndObeyed st b v
    well h v may r =
        let o = end_lists st b st0.over st0.asked st0.pending st.pending v.ins v.outs may (subst (λ (p : Phase). OneOneOf (port_state_in p st0.over st0.asked st0.pending) v.ins v.outs) h r) in
        let phase : Open ≡ st.phase = sym (ap (λ (l : Logic C). l.phase) stays ∙ h) in
        let over : false ≡ st.over = sym (ap (λ (l : Logic C). l.over) stays ∙ o.0) in
        let asked : st0.asked ≡ st.asked = sym (ap (λ (l : Logic C). l.asked) stays) in
        let same : record st { phase = Open; over = false; asked = st0.asked; pending = st.pending } ≡ st =
        ap (λ (x : Bool). record st { phase = Open; over = false; asked = x }) asked ∙ ap (λ (x : Bool). record st { phase = Open; over = x }) over ∙ ap (λ (x : Phase). record st { phase = x }) phase in
        subst (λ (l : Logic C). EndObeyed l b v) same o.1

    at_old : st0.phase ≡ Open → Obeys (arrives 0 item.Ended) (port_state st0) (port_state (record now { moves = ms })) acts
    at_old h = rw (n, a) (record { allowed = λ v may r. (well h v may r).allowed; ports = λ v may r. (well h v may r).row_then })
