-- What a stage with substreams knows of its ports: where it is open, and that it has nothing to do there.
use Rattle.std.specs.Prelude.{slice_index_or}
use Rattle.stage_core.specs.Fans.{untagged}
use Rattle.std.proofs.Common.{◌≡◌, ◌⊎◌, inl, inr, Bool, true, false, List, [], ◌∷◌, ◌++◌, refl, sym, ap, ◌∙◌, subst, append-nil}
use Rattle.elem_core.specs.Tree.{Tree}
use Rattle.elem_core.specs.declared.item.Item.{Item}
use Rattle.port_core.specs.declared.view.InView.{InView}
use Rattle.port_core.specs.declared.view.InView.TheVariants.{Idle, Pulled, Finished, Cancelled}
use Rattle.port_core.specs.declared.view.OutView.{OutView}
use Rattle.port_core.specs.declared.view.OutView.TheVariants as outlet
use Rattle.port_core.specs.View.{View, in_at, out_at, OneOneOf, IsInOpen, IsOutOpen}
use Rattle.port_core.specs.Call.{Call, starts, pulls, arrives, cancels, CallAllowed, Meets}
use Rattle.port_core.specs.ListFunction.{ListFunction}
use Rattle.stream_model.specs.FanIn.{Tagged}
use Rattle.stream_model.specs.Machine.{State, going, Run, Machine, run, Given}
use Rattle.stream_model.specs.Outlook.{End, unended}
use Rattle.stream_model.specs.Substreams.{Subs}
use Rattle.stage_core.specs.Held.{Held, owing, shut}
use Rattle.stage_core.specs.Law.{ends_by, Law}
use Rattle.stage_core.specs.OwnPorts.{OwnRests}
use Rattle.stage_core.proofs.OwnRows.{waiting_rests, idle_rests, closed_rests}
use Rattle.stage_core.proofs.OneOnes.{at_first, first_port}
use Rattle.stage_core.proofs.OpenPorts.{may_come, closed_ports}
use Rattle.stage_core.specs.declared.phase.Phase.{Phase}
use Rattle.stage_core.specs.declared.phase.Phase.TheVariants.{New, Open, Closed}
use Rattle.stage_sub.specs.Handling.{SubFresh, SubPortState, GaveAll}
use Rattle.stage_sub.specs.States.{Logic, port_state, port_state_in, StateIs, OwesIn, Owes, Ready}

-- ---- where it is called

pub some_open : (call : Call) (x : InView) (y : OutView) → CallAllowed call (record { ins = x ∷ []; outs = y ∷ [] }) → IsInOpen x ⊎ IsOutOpen y
some_open starts x y h = inl (rw h.0.0 tt)
some_open (pulls j) x y h = may_come (pulls j) x y (λ e. cc) h
some_open (arrives i b) x y h = may_come (arrives i b) x y (λ e. cc) h
some_open (cancels j) x y h = may_come (cancels j) x y (λ e. cc) h

open_at : (p : Phase) (over asked : Bool) (k : List Tagged) (x : InView) (y : OutView) → (p ≡ New → ⊥) → (IsInOpen x ⊎ IsOutOpen y) → port_state_in p over asked k x y → p ≡ Open
open_at Open over asked k x y n h r = refl
open_at New over asked k x y n h r = absurd (n refl)
open_at Closed over asked k x y n h r = absurd (closed_ports x y h r)

open_lists : (p : Phase) (over asked : Bool) (k : List Tagged) (call : Call) (xs : List InView) (ys : List OutView) → (p ≡ New → ⊥) → CallAllowed call (record { ins = xs; outs = ys }) → OneOneOf (port_state_in p over asked k) xs ys → p ≡ Open
open_lists p over asked k call (x ∷ []) (y ∷ []) n h r = open_at p over asked k x y n (some_open call x y h) r
open_lists p over asked k call [] ys n h r = absurd r
open_lists p over asked k call (x ∷ []) [] n h r = absurd r
open_lists p over asked k call (x ∷ []) (y ∷ z ∷ ys) n h r = absurd r
open_lists p over asked k call (x ∷ u ∷ xs) ys n h r = absurd r

pub called_open : {C : Type 0} (l : Logic C) (call : Call) (v : View) → (l.phase ≡ New → ⊥) → CallAllowed call v → port_state l v → l.phase ≡ Open
called_open l call v n h r = open_lists l.phase l.over l.asked l.pending call v.ins v.outs n h r

-- a call is of its one input or output
module _ {C : Type 0} (rest : C → ListFunction) (is_open : C → Bool) where
  pub first_call : (call : Call) (l : Logic C) (v : View) → CallAllowed call v → port_state l v → at_first call ≡ call
  first_call call l v h r = first_port (port_state_in l.phase l.over l.asked l.pending) call v h r

  pub met_first : (call : Call) (l : Logic C) → Meets call (SubPortState rest is_open l) → Meets (at_first call) (port_state l)
  met_first call l m = subst (λ c. Meets c (port_state l)) (sym (first_call call l m.0 m.1.0 m.1.1.ports)) (m.0, (m.1.0, m.1.1.ports))

  pub met_open : (call : Call) (l : Logic C) → Meets call (SubPortState rest is_open l) → l.phase ≡ Open
  met_open call l m = called_open l call m.0 m.1.1.started m.1.0 m.1.1.ports

  pub met_ready : (call : Call) (l : Logic C) → Meets call (SubPortState rest is_open l) → Ready rest is_open l
  met_ready call l m = m.1.1.ready

  pub fresh_new : (l : Logic C) → Meets starts (SubFresh rest is_open l) → l.phase ≡ New
  fresh_new l m = m.1.1.fresh

  pub fresh_ready : (l : Logic C) → Meets starts (SubFresh rest is_open l) → Ready rest is_open l
  fresh_ready l m = m.1.1.ready

  pub met_fresh : (l : Logic C) → Meets starts (SubFresh rest is_open l) → Meets starts (port_state l)
  met_fresh l m = (m.0, (m.1.0, m.1.1.ports))

-- ---- where it has nothing to do

module _ {C : Type 0} (rest : C → ListFunction) (is_open : C → Bool) (f : ListFunction) (yields : List Tree → End → Given Tree) (m : Machine Subs Tree) (start : Run Subs Tree) (took gave : List Item) where
  waiting : (x : Run Subs Tree) → x.gave ≡ [] → (law : Law m start (owing x) Pulled outlet.Available took gave) → OwnRests m start true Pulled outlet.Available law.in_list law.out_list
  waiting x none law = subst (λ (k : List Tree). (law : Law m start (owing (record { gave = k; state = x.state })) Pulled outlet.Available took gave) → OwnRests m start true Pulled outlet.Available law.in_list law.out_list) (sym none) (λ law. waiting_rests m start true x.state took gave law) law

  waiting_held : (l : Logic C) (h : Held Subs) → OwesIn rest is_open f yields Open l h → l.pending ≡ [] → (law : Law m start h Pulled outlet.Available took gave) → OwnRests m start true Pulled outlet.Available law.in_list law.out_list
  waiting_held l (owing x) o none law = waiting x (o.0 ∙ ap untagged none) law
  waiting_held l shut o none law = absurd o

  at_ports : (l : Logic C) (h : Held Subs) (p : Phase) (over asked : Bool) (x : InView) (y : OutView) → (p ≡ New → ⊥) → OwesIn rest is_open f yields p l h → port_state_in p over asked l.pending x y → (law : Law m start h x y took gave) → OwnRests m start true x y law.in_list law.out_list
  at_ports l h New over asked x y n o r law = absurd (n refl)
  at_ports l h Closed over asked x y n o r law = closed_rests m start true x y law.in_list law.out_list r
  at_ports l h Open false true Pulled outlet.Available n o r law = waiting_held l h o r law
  at_ports l h Open false false Idle outlet.Unpulled n o r law = idle_rests m start true law.in_list law.out_list
  at_ports l h Open true false Finished outlet.Unpulled n o r law = inr (inr (inr (refl, (refl, refl), refl)))
  at_ports l h Open false true Pulled outlet.Unpulled n o r law = absurd r
  at_ports l h Open false true Pulled outlet.Closed n o r law = absurd r
  at_ports l h Open false true Pulled outlet.Cancelled n o r law = absurd r
  at_ports l h Open false true Idle y n o r law = absurd r
  at_ports l h Open false true Finished y n o r law = absurd r
  at_ports l h Open false true Cancelled y n o r law = absurd r
  at_ports l h Open false false Idle outlet.Available n o r law = absurd r
  at_ports l h Open false false Idle outlet.Closed n o r law = absurd r
  at_ports l h Open false false Idle outlet.Cancelled n o r law = absurd r
  at_ports l h Open false false Pulled y n o r law = absurd r
  at_ports l h Open false false Finished y n o r law = absurd r
  at_ports l h Open false false Cancelled y n o r law = absurd r
  at_ports l h Open true false Finished outlet.Available n o r law = absurd r
  at_ports l h Open true false Finished outlet.Closed n o r law = absurd r
  at_ports l h Open true false Finished outlet.Cancelled n o r law = absurd r
  at_ports l h Open true false Idle y n o r law = absurd r
  at_ports l h Open true false Pulled y n o r law = absurd r
  at_ports l h Open true false Cancelled y n o r law = absurd r
  at_ports l h Open true true x y n o r law = absurd r

  at_lists : (l : Logic C) (h : Held Subs) (xs : List InView) (ys : List OutView) → (l.phase ≡ New → ⊥) → Owes rest is_open f yields l h → OneOneOf (port_state_in l.phase l.over l.asked l.pending) xs ys
      → (law : Law m start h (slice_index_or xs 0 Cancelled) (slice_index_or ys 0 outlet.Closed) took gave) → OwnRests m start true (slice_index_or xs 0 Cancelled) (slice_index_or ys 0 outlet.Closed) law.in_list law.out_list
  at_lists l h (x ∷ []) (y ∷ []) n o r law = at_ports l h l.phase l.over l.asked x y n o r law
  at_lists l h [] ys n o r law = absurd r
  at_lists l h (x ∷ []) [] n o r law = absurd r
  at_lists l h (x ∷ []) (y ∷ z ∷ ys) n o r law = absurd r
  at_lists l h (x ∷ w ∷ xs) ys n o r law = absurd r

  pub started_rests : (l : Logic C) (h : Held Subs) (v : View) → (l.phase ≡ New → ⊥) → Owes rest is_open f yields l h → port_state l v → (law : Law m start h (in_at v 0) (out_at v 0) took gave) → OwnRests m start true (in_at v 0) (out_at v 0) law.in_list law.out_list
  started_rests l h v n o r law = at_lists l h v.ins v.outs n o r law

  -- ---- where it waits for its input

  gave_run : (x : Run Subs Tree) (s : Subs) → x.gave ≡ [] → x.state ≡ going s → (law : Law m start (owing x) Pulled outlet.Available took gave) → GaveAll m start outlet.Available law.in_list law.out_list
  gave_run x s none on law =
      let u : law.in_end ≡ unended = law.took_as in
      let now : run m start law.in_list ≡ record { gave = law.out_list ++ x.gave; state = x.state } = ap (λ (e : End). ends_by m (run m start law.in_list) e) (sym u) ∙ law.keeps.1.0 in
      record {
        asked = refl;
        state = s;
        runs = now ∙ ap (λ (k : List Tree). record { gave = law.out_list ++ k; state = x.state }) none ∙ ap (λ (k : List Tree). record { gave = k; state = x.state }) (append-nil law.out_list) ∙ ap (λ (k : State Subs). record { gave = law.out_list; state = k }) on;
      }

  gave_held : (l : Logic C) (h : Held Subs) → l.over ≡ false → OwesIn rest is_open f yields Open l h → l.pending ≡ [] → (law : Law m start h Pulled outlet.Available took gave) → GaveAll m start outlet.Available law.in_list law.out_list
  gave_held l shut w o none law = absurd o
  gave_held l (owing x) w o none law =
      let s = subst (λ (b : Bool). StateIs rest is_open f yields b l x.state) w o.1 in
      gave_run x s.0 (o.0 ∙ ap untagged none) s.1.0 law

  gave_ports : (l : Logic C) (h : Held Subs) (p : Phase) (over asked : Bool) (x : InView) (y : OutView) → (p ≡ New → ⊥) → l.over ≡ over → OwesIn rest is_open f yields p l h → port_state_in p over asked l.pending x y → x ≡ Pulled → (law : Law m start h x y took gave) → GaveAll m start y law.in_list law.out_list
  gave_ports l h New over asked x y n w o r e law = absurd (n refl)
  gave_ports l h Closed over asked Pulled y n w o r e law = absurd r
  gave_ports l h Open false true Pulled outlet.Available n w o r e law = gave_held l h w o r law
  gave_ports l h Open false true Pulled outlet.Unpulled n w o r e law = absurd r
  gave_ports l h Open false true Pulled outlet.Closed n w o r e law = absurd r
  gave_ports l h Open false true Pulled outlet.Cancelled n w o r e law = absurd r
  gave_ports l h Open false false Pulled y n w o r e law = absurd r
  gave_ports l h Open true false Pulled y n w o r e law = absurd r
  gave_ports l h Open true true Pulled y n w o r e law = absurd r
  gave_ports l h p over asked Idle y n w o r e law = cc
  gave_ports l h p over asked Finished y n w o r e law = cc
  gave_ports l h p over asked Cancelled y n w o r e law = cc

  gave_lists : (l : Logic C) (h : Held Subs) (xs : List InView) (ys : List OutView) → (l.phase ≡ New → ⊥) → Owes rest is_open f yields l h → OneOneOf (port_state_in l.phase l.over l.asked l.pending) xs ys → slice_index_or xs 0 Cancelled ≡ Pulled
      → (law : Law m start h (slice_index_or xs 0 Cancelled) (slice_index_or ys 0 outlet.Closed) took gave) → GaveAll m start (slice_index_or ys 0 outlet.Closed) law.in_list law.out_list
  gave_lists l h (x ∷ []) (y ∷ []) n o r e law = gave_ports l h l.phase l.over l.asked x y n refl o r e law
  gave_lists l h [] ys n o r e law = absurd r
  gave_lists l h (x ∷ []) [] n o r e law = absurd r
  gave_lists l h (x ∷ []) (y ∷ z ∷ ys) n o r e law = absurd r
  gave_lists l h (x ∷ w ∷ xs) ys n o r e law = absurd r

  pub waiting_gave : (l : Logic C) (h : Held Subs) (v : View) → (l.phase ≡ New → ⊥) → Owes rest is_open f yields l h → port_state l v → in_at v 0 ≡ Pulled → (law : Law m start h (in_at v 0) (out_at v 0) took gave) → GaveAll m start (out_at v 0) law.in_list law.out_list
  waiting_gave l h v n o r e law = gave_lists l h v.ins v.outs n o r e law
