-- Each call of a stage with state keeps the law of its output.
use Rattle.std.specs.Prelude.{Result, OnOk}
use Rattle.std.proofs.Common.{◌≡◌, ℕ, ◌≤◌, Bool, false, inl, inr, Option, None, Some, List, [], ◌∷◌, ◌++◌, length, refl, sym, ap, subst, ◌∙◌, arith}
use Rattle.elem_core.specs.Tree.{Tree}
use Rattle.elem_core.specs.declared.item.Item.{Item}
use Rattle.port_core.specs.declared.act.Act.{Act}
use Rattle.port_core.specs.declared.view.InView.{InView}
use Rattle.port_core.specs.declared.view.InView.TheVariants.{Idle}
use Rattle.port_core.specs.declared.view.OutView.{OutView}
use Rattle.port_core.specs.declared.view.OutView.TheVariants.{Unpulled}
use Rattle.port_core.specs.View.{View, in_at, out_at, ActsAllowed, acted_all}
use Rattle.port_core.specs.Call.{Call, starts, CallAllowed, Meets, seen, brought_to, given_on, Obeys}
use Rattle.stage_core.specs.Histories as histories
use Rattle.stage_core.specs.Handling.{Starts, Handles}
use Rattle.stage_core.proofs.OnOks.{on_ok_two}
use Rattle.stage_core.proofs.OneOnes.{given_one, brought_one, one_input, at_first, first_port, fresh_ports}
use Rattle.stream_model.specs.Outlook.{unended}
use Rattle.stream_model.specs.Machine.{Run, Machine}
use Rattle.stream_model.specs.Linear.{Book, Stage, Work, scanning, linear}
use Rattle.stage_core.specs.Held.{Held, owing}
use Rattle.stage_core.specs.Turn.{TurnAt}
use Rattle.stage_core.specs.Law.{TookAs, GaveAs, Law}
use Rattle.stage_core.proofs.Calls.{new_law, call_law}
use Rattle.stage_core.specs.declared.phase.Phase.{Phase}
use Rattle.stage_core.specs.declared.phase.Phase.TheVariants.{New, Open, Closed}
use Rattle.step_work.specs.declared.ending.StateEnd.{StateEnd}
use Rattle.step_work.specs.declared.ending.StateEnd.TheVariants.{Lasting}
use Rattle.step_work.specs.Endings.{state_by}
use Rattle.stage_state.specs.States.{Logic, machine, machine_by, held, held_in, IsScan, Spare, keep_port_state, buffer_port_state, port_state_by, port_state, Turned}
use Rattle.stage_state.specs.MachineNodes.{MachineFresh, MachinePortState, MachineLaw}

-- the law of its output once a call's actions are done
law_after : (call : Call) (first old new : Logic) (v : View) (acts : List Act) (took gave : List (List Item)) → port_state old v → CallAllowed call v → ActsAllowed (seen call v) acts → Turned call old acts new → MachineLaw first old v took gave
    → MachineLaw first new (acted_all (seen call v) acts) (histories.brought_by call took) (histories.given_all acts gave)
law_after call first old new v acts took gave r h allowed t law = record {
  took_list = law.took_list ++ brought_to 0 call;
  gave_list = law.gave_list ++ given_on 0 acts;
  took_is = ap (histories.brought_by call) law.took_is ∙ brought_one call law.took_list;
  gave_is = ap (histories.given_all acts) law.gave_is ∙ given_one acts law.gave_list;
  start = law.start;
  owes = law.owes;
  law = λ book.
      let turn : TurnAt (machine book first) 0 call (held old) (given_on 0 acts) (held new) = subst (λ (m : Machine Stage Tree). TurnAt m 0 call (held old) (given_on 0 acts) (held new)) (law.same book) (t.turn book) in
      call_law (machine book first) law.start 0 call (held old) (held new) v law.took_list law.gave_list acts (one_input (port_state_by old.size old.phase old.ending old.asked old.pending old.stage.work) v.ins v.outs r) h allowed turn (law.law book);
  same = λ book. t.same book ∙ law.same book;
  size = t.size ∙ law.size;
}

-- a call was handled
pub handled : (call : Call) (old new : Logic) (acts : List Act) → Obeys call (port_state old) (port_state new) acts → Turned call old acts new → Handles MachinePortState MachineLaw call old new acts
handled call old new acts o t = record {
  obeys = record {
    allowed = λ v h r. o.allowed v h r.ports;
    ports = λ v h r. record { started = t.started; ports = o.ports v h r.ports };
  };
  stands = t.stands;
  keeps = λ first v took gave h r law. law_after call first old new v acts took gave r.ports h (o.allowed v h r.ports) t law;
}

-- ---- a call of a handler is of its one input or output

first_call : (call : Call) (l : Logic) (v : View) → CallAllowed call v → MachinePortState l v → at_first call ≡ call
first_call call l v h r = first_port (port_state_by l.size l.phase l.ending l.asked l.pending l.stage.work) call v h r.ports

pub met_first : (call : Call) (l : Logic) → Meets call (MachinePortState l) → Meets (at_first call) (port_state l)
met_first call l m = subst (λ c. Meets c (port_state l)) (sym (first_call call l m.0 m.1.0 m.1.1)) (m.0, (m.1.0, m.1.1.ports))

pub handles : {T E : Type 0} (call : Call) (old new : Logic) (acts : List Act) (r : Result T E) → Meets call (MachinePortState old) → OnOk r (Obeys (at_first call) (port_state old) (port_state new) acts) → OnOk r (Turned (at_first call) old acts new)
    → OnOk r (Handles MachinePortState MachineLaw call old new acts)
handles call old new acts r m o t =
    subst (λ c. OnOk r (Handles MachinePortState MachineLaw c old new acts)) (first_call call old m.0 m.1.0 m.1.1) (on_ok_two r o t (λ a b. handled (at_first call) old new acts a b))

-- ---- the run begins

-- a scan may lose no output
scan_hold : (book : Book) (w : Work) → IsScan w → (linear book w).hold ≡ 0
scan_hold book (scanning o a) h = refl
scan_hold book _ h = absurd h

-- what it owes at its start is never lost
spare_held : (book : Book) (w : Work) (k : List Tree) → Spare w k → 1 ≤ (linear book w).hold → k ≡ []
spare_held book w k (inl none) h = none
spare_held book w k (inr scan) h = let z = scan_hold book w scan.1 in absurd (omega (arith, h, z))

-- a new stage: its ports are open and not asked, and what it owes is never lost
record News (size : Option ℕ) (k : List Tree) (w : Work) (x : InView) (y : OutView) : Type 0 where
  took : TookAs x unended
  gave : GaveAs y unended
  kept : (book : Book) → 1 ≤ (machine_by book size w).hold → k ≡ []

keep_new : (p : Phase) (e : StateEnd) (a : Bool) (k : List Tree) (w : Work) (x : InView) (y : OutView) → p ≡ New → keep_port_state p e a k w x y → News None k w x y
keep_new New Lasting false k w Idle Unpulled n r = record { took = refl; gave = refl; kept = λ book h. spare_held book w k r.0 h }
keep_new New e a k w x y n r = absurd r
keep_new Open e a k w x y n r = cc
keep_new Closed e a k w x y n r = cc

buffer_new : (size : ℕ) (p : Phase) (e : StateEnd) (a : Bool) (k : List Tree) (w : Work) (x : InView) (y : OutView) → p ≡ New → buffer_port_state size p e a k x y → News (Some size) k w x y
buffer_new size New Lasting false k w Idle Unpulled n r = record { took = refl; gave = refl; kept = λ book h. r.0 }
buffer_new size New e a k w x y n r = absurd r
buffer_new size Open e a k w x y n r = cc
buffer_new size Closed e a k w x y n r = cc

new_by : (size : Option ℕ) (p : Phase) (e : StateEnd) (a : Bool) (k : List Tree) (w : Work) (x : InView) (y : OutView) → p ≡ New → port_state_by size p e a k w x y → News size k w x y
new_by None p e a k w x y n r = keep_new p e a k w x y n r
new_by (Some size) p e a k w x y n r = buffer_new size p e a k w x y n r

-- the law at its two ports
at_ports : (m : Machine Stage Tree) (start : Run Stage Tree) (h : Held Stage) (v : View) (x : InView) (y : OutView) → v.ins ≡ x ∷ [] → v.outs ≡ y ∷ [] → Law m start h x y [] [] → Law m start h (in_at v 0) (out_at v 0) [] []
at_ports m start h v x y a b law = rw (a, b) law

fresh_law : (l : Logic) (v : View) (took gave : List (List Item)) → MachineFresh l v → histories.AllEmpty took → histories.AllEmpty gave → length took ≡ length v.ins → length gave ≡ length v.outs → MachineLaw l l v took gave
fresh_law l v took gave f a b m n =
    let p = fresh_ports (port_state_by l.size l.phase l.ending l.asked l.pending l.stage.work) v.ins v.outs took gave f.ports a b m n in
    let news = new_by l.size l.phase l.ending l.asked l.pending l.stage.work p.x p.y f.phase p.holds in
    let start : Run Stage Tree = record { gave = l.pending; state = state_by l.ending l.stage } in
    let owes : held l ≡ owing start = ap (λ (q : Phase). held_in q l.ending l.pending l.stage) f.phase in
    record {
      took_list = [];
      gave_list = [];
      took_is = p.took_is;
      gave_is = p.gave_is;
      start = start;
      owes = owes;
      law = λ book. at_ports (machine book l) start (held l) v p.x p.y p.ins p.outs (subst (λ (h : Held Stage). Law (machine book l) start h p.x p.y [] []) (sym owes) (new_law (machine book l) start p.x p.y news.took news.gave (news.kept book)));
      same = λ book. refl;
      size = refl;
    }

-- the stage was started
pub started : (old new : Logic) (acts : List Act) → Obeys starts (port_state old) (port_state new) acts → Turned starts old acts new → Starts MachinePortState MachineLaw MachineFresh old new acts
started old new acts o t = record {
  obeys = record {
    allowed = λ v h f. o.allowed v h f.ports;
    ports = λ v h f. record { started = t.started; ports = o.ports v h f.ports };
  };
  stands = t.stands;
  begins = λ v took gave h f a b m n. law_after starts old old new v acts took gave f.ports h (o.allowed v h f.ports) t (fresh_law old v took gave f a b m n);
}
