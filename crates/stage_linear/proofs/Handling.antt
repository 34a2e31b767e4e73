-- Each call of a linear stage keeps the law of its output.
use Rattle.std.specs.Prelude.{Result, OnOk, ⊤}
use Rattle.std.proofs.Common.{ℕ, ◌+◌, Bool, false, ◌≡◌, List, [], ◌∷◌, ◌++◌, length, refl, sym, ap, subst, ◌∙◌}
use Rattle.elem_core.specs.Tree.{Tree}
use Rattle.elem_core.specs.declared.item.Item.{Item}
use Rattle.elem_core.specs.declared.item.Item.TheVariants as item
use Rattle.port_core.specs.declared.act.Act.{Act}
use Rattle.port_core.specs.declared.view.InView.{InView}
use Rattle.port_core.specs.declared.view.InView.TheVariants.{Idle, Pulled, Finished, Cancelled}
use Rattle.port_core.specs.declared.view.OutView.{OutView}
use Rattle.port_core.specs.declared.view.OutView.TheVariants as outlet
use Rattle.port_core.specs.View.{View, in_at, out_at, ActsAllowed, acted_all}
use Rattle.port_core.specs.Call.{Call, starts, arrives, CallAllowed, Meets, seen, brought_to, given_on, Obeys}
use Rattle.stage_core.specs.Histories as histories
use Rattle.stage_core.specs.Handling.{Starts, Handles, Reacts}
use Rattle.stage_core.proofs.OneOnes.{given_one, brought_one, one_input, at_first, first_port, fresh_ports}
use Rattle.stage_core.proofs.OnOks.{on_ok_two}
use Rattle.stream_model.specs.Outlook.{unended}
use Rattle.stream_model.specs.Machine.{Run, Machine}
use Rattle.stream_model.specs.Linear.{Book, Stage, Work, linear}
use Rattle.stage_core.specs.Held.{Held, owing}
use Rattle.stage_core.specs.Turn.{TurnAt}
use Rattle.stage_core.specs.Law.{TookAs, GaveAs, Law}
use Rattle.stage_core.proofs.Calls.{new_law, call_law}
use Rattle.stage_core.specs.declared.phase.Phase.{Phase}
use Rattle.stage_core.specs.declared.phase.Phase.TheVariants.{New, Open, Closed}
use Rattle.stage_linear.specs.declared.course.Course.{Course}
use Rattle.stage_linear.specs.States.{Logic, held, held_in, port_state, port_state_in, Turned}
use Rattle.stage_linear.specs.Handling.{LinearFresh, LinearPortState, LinearLaw}
use Rattle.stage_linear.specs.Outcomes.{CameTo}
use Rattle.stage_linear.proofs.Rows.{called_open}
use Rattle.stage_linear.proofs.Pushes.{waits, came_turned}
use Rattle.stage_linear.proofs.Ports.{came_obeys}

-- the law of its output once a call's actions are done
pub law_after : (book : Book) (call : Call) (first old new : Logic) (v : View) (acts : List Act) (took gave : List (List Item)) → port_state old v → CallAllowed call v → ActsAllowed (seen call v) acts → Turned book call old acts new → LinearLaw book first old v took gave
    → LinearLaw book first new (acted_all (seen call v) acts) (histories.brought_by call took) (histories.given_all acts gave)
law_after book call first old new v acts took gave r h allowed t law = record {
  took_list = law.took_list ++ brought_to 0 call;
  gave_list = law.gave_list ++ given_on 0 acts;
  took_is = ap (histories.brought_by call) law.took_is ∙ brought_one call law.took_list;
  gave_is = ap (histories.given_all acts) law.gave_is ∙ given_one acts law.gave_list;
  start = law.start;
  owes = law.owes;
  law =
      let turn : TurnAt (linear book first.stage.work) 0 call (held book old) (given_on 0 acts) (held book new) = subst (λ m. TurnAt m 0 call (held book old) (given_on 0 acts) (held book new)) (law.same book) t.turn in
      call_law (linear book first.stage.work) law.start 0 call (held book old) (held book new) v law.took_list law.gave_list acts (one_input (port_state_in old.phase old.course old.pending old.stage.work old.ready) v.ins v.outs r) h allowed turn law.law;
  same = λ b. t.same b ∙ law.same b;
}

-- a call was handled
pub handled : (book : Book) (call : Call) (old new : Logic) (acts : List Act) → Obeys call (port_state old) (port_state new) acts → Turned book call old acts new → Handles LinearPortState (LinearLaw book) call old new acts
handled book call old new acts o t = record {
  obeys = record {
    allowed = λ v h r. o.allowed v h r.ports;
    ports = λ v h r. record { started = t.started; ports = o.ports v h r.ports };
  };
  stands = t.stands;
  keeps = λ first v took gave h r law. law_after book call first old new v acts took gave r.ports h (o.allowed v h r.ports) t law;
}

-- ---- a call of a handler is of its one input or output

first_call : (call : Call) (l : Logic) (v : View) → CallAllowed call v → LinearPortState l v → at_first call ≡ call
first_call call l v h r = first_port (port_state_in l.phase l.course l.pending l.stage.work l.ready) call v h r.ports

pub met_first : (call : Call) (l : Logic) → Meets call (LinearPortState l) → Meets (at_first call) (port_state l)
met_first call l m = subst (λ c. Meets c (port_state l)) (sym (first_call call l m.0 m.1.0 m.1.1)) (m.0, (m.1.0, m.1.1.ports))

pub handles : {T E : Type 0} (book : Book) (call : Call) (old new : Logic) (acts : List Act) (r : Result T E) → Meets call (LinearPortState old) → OnOk r (Obeys (at_first call) (port_state old) (port_state new) acts) → OnOk r (Turned book (at_first call) old acts new)
    → OnOk r (Handles LinearPortState (LinearLaw book) call old new acts)
handles book call old new acts r m o t =
    subst (λ c. OnOk r (Handles LinearPortState (LinearLaw book) c old new acts)) (first_call call old m.0 m.1.0 m.1.1) (on_ok_two r o t (λ a b. handled book (at_first call) old new acts a b))

-- a call was handled whose port is its one
pub handles_at : (book : Book) (call : Call) (old new : Logic) (acts : List Act) → Meets call (LinearPortState old) → Obeys (at_first call) (port_state old) (port_state new) acts → Turned book (at_first call) old acts new → Handles LinearPortState (LinearLaw book) call old new acts
handles_at book call old new acts m o t = subst (λ c. Handles LinearPortState (LinearLaw book) c old new acts) (first_call call old m.0 m.1.0 m.1.1) (handled book (at_first call) old new acts o t)

-- an element came to an outcome
pub handles_came : (book : Book) (p : ℕ) (t : Tree) (k : ℕ) (old new : Logic) (acts : List Act) → Meets (arrives p (item.Elem t)) (LinearPortState old) → k ≡ old.stage.taken + 1 → CameTo book old k t acts new → Handles LinearPortState (LinearLaw book) (arrives p (item.Elem t)) old new acts
handles_came book p t k old new acts m e came =
    let h : old.phase ≡ Open = called_open old (arrives p (item.Elem t)) m.0 m.1.1.started (λ e. cc) m.1.0 m.1.1.ports in
    let w = waits old t h (met_first (arrives p (item.Elem t)) old m) in
    handles_at book (arrives p (item.Elem t)) old new acts m (came_obeys book old new acts t k h w came) (came_turned book old new acts t k h w e came)

-- a linear stage makes no moves, is not passive, and nothing leaves it
pub reacts_by : (book : Book) (call : Call) (old new : Logic) (acts : List Act) → Handles LinearPortState (LinearLaw book) call old new acts → Reacts LinearPortState (LinearLaw book) (λ l v. ⊤) (λ l. []) (λ l. false) (λ l. []) call old new acts
reacts_by book call old new acts h = record { handles = h; pulls = λ v may before asks. tt; grows = record { rest = []; is = refl }; stays = refl; none_gone = refl }

-- ---- the run begins

-- a new stage: it owes what its machine gives from the start, and gave nothing of it
new_start : (book : Book) (p : Phase) (c : Course) (k : List Tree) (s : Stage) → p ≡ New → (start : Run Stage Tree) × ((held_in book p c k s ≡ owing start) × (start.gave ≡ []))
new_start book New c k s e = (_, (refl, refl))
new_start book Open c k s e = cc
new_start book Closed c k s e = cc

-- its ports are open and not asked
new_ports : (p : Phase) (c : Course) (k : List Tree) (w : Work) (g : Bool) (x : InView) (y : OutView) → p ≡ New → port_state_in p c k w g x y → TookAs x unended × GaveAs y unended
new_ports New c k w g Idle outlet.Unpulled e r = (refl, refl)
new_ports New c k w g Idle outlet.Available e r = absurd r
new_ports New c k w g Idle outlet.Closed e r = absurd r
new_ports New c k w g Idle outlet.Cancelled e r = absurd r
new_ports New c k w g Pulled y e r = absurd r
new_ports New c k w g Finished y e r = absurd r
new_ports New c k w g Cancelled y e r = absurd r
new_ports Open c k w g x y e r = cc
new_ports Closed c k w g x y e r = cc

-- the law at its two ports
at_ports : (m : Machine Stage Tree) (start : Run Stage Tree) (h : Held Stage) (v : View) (x : InView) (y : OutView) → v.ins ≡ x ∷ [] → v.outs ≡ y ∷ [] → Law m start h x y [] [] → Law m start h (in_at v 0) (out_at v 0) [] []
at_ports m start h v x y a b law = rw (a, b) law

pub fresh_law : (book : Book) (l : Logic) (v : View) (took gave : List (List Item)) → LinearFresh l v → histories.AllEmpty took → histories.AllEmpty gave → length took ≡ length v.ins → length gave ≡ length v.outs → LinearLaw book l l v took gave
fresh_law book l v took gave f a b m n =
    let p = fresh_ports (port_state_in l.phase l.course l.pending l.stage.work l.ready) v.ins v.outs took gave f.ports a b m n in
    let s = new_start book l.phase l.course l.pending l.stage f.phase in
    let ports = new_ports l.phase l.course l.pending l.stage.work l.ready p.x p.y f.phase p.holds in
    record {
      took_list = [];
      gave_list = [];
      took_is = p.took_is;
      gave_is = p.gave_is;
      start = s.0;
      owes = s.1.0;
      law =
          at_ports (linear book l.stage.work) s.0 (held book l) v p.x p.y p.ins p.outs
          (subst (λ (h : Held Stage). Law (linear book l.stage.work) s.0 h p.x p.y [] []) (sym s.1.0) (new_law (linear book l.stage.work) s.0 p.x p.y ports.0 ports.1 (λ h. s.1.1)));
      same = λ b. refl;
    }

-- the stage was started
pub started : (book : Book) (old new : Logic) (acts : List Act) → Obeys starts (port_state old) (port_state new) acts → Turned book starts old acts new → Starts LinearPortState (LinearLaw book) LinearFresh old new acts
started book old new acts o t = record {
  obeys = record {
    allowed = λ v h f. o.allowed v h f.ports;
    ports = λ v h f. record { started = t.started; ports = o.ports v h f.ports };
  };
  stands = t.stands;
  begins = λ v took gave h f a b m n. law_after book starts old old new v acts took gave f.ports h (o.allowed v h f.ports) t (fresh_law book old v took gave f a b m n);
}
