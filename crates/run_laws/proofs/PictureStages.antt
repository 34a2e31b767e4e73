-- What the row of each kind of node says of its ports, and what its law says of the lists that passed there.
use Rattle.std.proofs.Common.{◌≡◌, ◌≢◌, ◌⊎◌, inl, inr, ℕ, Bool, true, false, List, [], ◌∷◌, length, refl, sym, ap, ◌∙◌, append-nil}
use Rattle.elem_core.specs.Tree.{Tree}
use Rattle.elem_core.specs.declared.item.Item.{Item}
use Rattle.port_core.specs.declared.view.InView.{InView}
use Rattle.port_core.specs.declared.view.InView.TheVariants.{Idle, Pulled, Finished, Cancelled}
use Rattle.port_core.specs.declared.view.OutView.{OutView}
use Rattle.port_core.specs.declared.view.OutView.TheVariants as outlet
use Rattle.stream_model.specs.Outlook.{End, unended}
use Rattle.stream_model.specs.Machine.{State, going, Run, Machine, run}
use Rattle.elem_core.specs.declared.why.Decider.{Decider}
use Rattle.port_core.specs.View.{View, in_at, out_at}
use Rattle.stream_model.specs.declared.kind.Kind.{Kind}
use Rattle.stream_model.specs.Linear.{Book, Stage, Work, linear, begin_work}
use Rattle.stream_model.specs.declared.outcome.EndState.{EndState}
use Rattle.stream_model.specs.declared.outcome.EndState.TheVariants.{Ended, Failed, Unended, WriteFault}
use Rattle.stage_core.specs.Held.{told, Held, owing}
use Rattle.stage_core.specs.Law.{ends_by, Law}
use Rattle.stage_core.specs.Row.{InClosed, OutClosed, BothClosed}
use Rattle.stage_core.specs.declared.phase.Phase.{Phase}
use Rattle.stage_core.specs.declared.phase.Phase.TheVariants.{New, Open, Closed}
use Rattle.stage_linear.specs.declared.course.Course.{Course}
use Rattle.stage_linear.specs.declared.course.Course.TheVariants.{Waits, Idles, Leaves, Closes, Ends}
use Rattle.step_work.specs.Tasks.{Spreads}
use Rattle.stage_linear.specs.States.{Logic, held, held_in, port_state_in, Begins}
use Rattle.stage_linear.specs.Handling.{LinearLaw}
use Rattle.nodes.specs.Source.{lines_port_state_in}
use Rattle.nodes.specs.Sink.{sink_port_state_in}
use Rattle.nodes.specs.Ignoring.{ignore_port_state_in}
use Rattle.run_laws.specs.Picture.{has_ended}
use Rattle.run_laws.proofs.OnePorts.{one_same}

-- a stage that has closed its ports
pub closed_both : (x : InView) (y : OutView) → BothClosed x y → InClosed x × OutClosed y
closed_both Finished outlet.Closed r = (tt, tt)
closed_both Finished outlet.Cancelled r = (tt, tt)
closed_both Cancelled outlet.Closed r = (tt, tt)
closed_both Cancelled outlet.Cancelled r = (tt, tt)
closed_both x y r = absurd r

-- a source of lines
pub lines_ports : (p : Phase) (y : OutView) → lines_port_state_in p y → (y ≡ outlet.Unpulled) ⊎ OutClosed y
lines_ports Open outlet.Unpulled r = inl refl
lines_ports Closed outlet.Closed r = inr tt
lines_ports Closed outlet.Cancelled r = inr tt
lines_ports New y r = absurd r
lines_ports Open outlet.Available r = absurd r
lines_ports Open outlet.Closed r = absurd r
lines_ports Open outlet.Cancelled r = absurd r
lines_ports Closed outlet.Unpulled r = absurd r
lines_ports Closed outlet.Available r = absurd r

-- a linear stage: it waits and holds nothing, nobody asks it, it holds outputs behind the end of its input, or all is closed
pub data LinearPorts (p : Phase) (c : Course) (h : List Tree) (k : Work) (x : InView) (y : OutView) : Type 0 where
  busy : p ≡ Open → c ≡ Waits → h ≡ [] → x ≡ Pulled → y ≡ outlet.Available → LinearPorts p c h k x y
  free : x ≡ Idle → y ≡ outlet.Unpulled → LinearPorts p c h k x y
  behind : Spreads k → x ≡ Finished → y ≡ outlet.Unpulled → LinearPorts p c h k x y
  over : InClosed x → OutClosed y → LinearPorts p c h k x y

pub linear_ports : (p : Phase) (c : Course) (h : List Tree) (k : Work) (ready : Bool) (x : InView) (y : OutView) → p ≢ New → port_state_in p c h k ready x y → LinearPorts p c h k x y
linear_ports New c h k b x y n r = absurd (n refl)
linear_ports Open Waits h k b Pulled outlet.Available n r = busy refl refl r.0 refl refl
linear_ports Open Idles h k b Idle outlet.Unpulled n r = free refl refl
linear_ports Open Leaves h k b Idle outlet.Unpulled n r = free refl refl
linear_ports Open Closes h k b Finished outlet.Unpulled n r = behind r.0.1 refl refl
linear_ports Open Ends h k b Finished outlet.Unpulled n r = behind r.1 refl refl
linear_ports Closed c h k b Finished outlet.Closed n r = over tt tt
linear_ports Closed c h k b Finished outlet.Cancelled n r = over tt tt
linear_ports Closed c h k b Cancelled outlet.Closed n r = over tt tt
linear_ports Closed c h k b Cancelled outlet.Cancelled n r = over tt tt
linear_ports p c h k b x y n r = absurd r

-- a sink with a file
pub sink_ports : (started : Bool) (e : EndState) (x : InView) → sink_port_state_in started e x → ((x ≡ Pulled) × (has_ended e ≡ false)) ⊎ (InClosed x × (has_ended e ≡ true))
sink_ports true Unended Pulled r = inl (refl, refl)
sink_ports true Ended Finished r = inr (tt, refl)
sink_ports true Ended Cancelled r = inr (tt, refl)
sink_ports true (Failed c) Finished r = inr (tt, refl)
sink_ports true WriteFault Finished r = inr (tt, refl)
sink_ports true WriteFault Cancelled r = inr (tt, refl)
sink_ports started e x r = absurd r

-- a sink that keeps nothing
pub ignore_ports : (started : Bool) (e : EndState) (x : InView) → ignore_port_state_in started e x → ((x ≡ Pulled) × (has_ended e ≡ false)) ⊎ (InClosed x × (has_ended e ≡ true))
ignore_ports true Unended Pulled r = inl (refl, refl)
ignore_ports true Ended Finished r = inr (tt, refl)
ignore_ports true (Failed c) Finished r = inr (tt, refl)
ignore_ports started e x r = absurd r

module _ {S : Type 0} (m : Machine S Tree) (start : Run S Tree) where
  -- one that waits and holds nothing has given all that its machine gives for what it took, and goes on
  pub waiting_run : (st : State S) (took gave : List Item) → (law : Law m start (owing (record { gave = []; state = st })) Pulled outlet.Available took gave)
      → run m start law.in_list ≡ record { gave = law.out_list; state = st }
  waiting_run st took gave law =
      let u : law.in_end ≡ unended = law.took_as in
      ap (λ (e : End). ends_by m (run m start law.in_list) e) (sym u) ∙ law.keeps.1.0 ∙ ap (λ (g : List Tree). record { gave = g; state = st }) (append-nil law.out_list)

pub law_at : {S : Type 0} (m : Machine S Tree) (start start' : Run S Tree) (h h' : Held S) (x x' : InView) (y y' : OutView) (t t' g g' : List Item)
    → start ≡ start' → h ≡ h' → x ≡ x' → y ≡ y' → t ≡ t' → g ≡ g' → Law m start h x y t g → Law m start' h' x' y' t' g'
law_at m start start' h h' x x' y y' t t' g g' a b c d e f law = rw (← a, ← b, ← c, ← d, ← e, ← f) law

pub same_start : (a b : Run Stage Tree) → owing a ≡ owing b → a ≡ b
same_start a b e = cc

-- A stage that waits for its input: what it took there, and what it gave, which is as many elements as its machine gives, which goes on.
pub record Waited {S : Type 0} (m : Machine S Tree) (start : Run S Tree) (took gave : List Item) : Type 0 where
  pub in_list : List Tree
  pub in_end : End
  pub out_list : List Tree
  pub out_end : End
  pub all : List Tree
  pub state : S
  pub took_is : took ≡ told in_list in_end
  pub gave_is : gave ≡ told out_list out_end
  pub count : length all ≡ length out_list
  pub runs : run m start in_list ≡ record { gave = all; state = going state }

pub waited_of : {S : Type 0} (m : Machine S Tree) (start : Run S Tree) (s : S) (t g : List Item) → Law m start (owing (record { gave = []; state = going s })) Pulled outlet.Available t g → Waited m start t g
waited_of m start s t g at = record {
  in_list = at.in_list;
  in_end = at.in_end;
  out_list = at.out_list;
  out_end = at.out_end;
  all = at.out_list;
  state = s;
  took_is = at.took_is;
  gave_is = at.gave_is;
  count = refl;
  runs = waiting_run m start (going s) t g at;
}

pub linear_waited : (book : Book) (k : ℕ) (kd : Kind) (d : Decider) (first l : Logic) (v : View) (took gave : List (List Item)) (t g : List Item) → Begins k kd d first → LinearLaw book first l v took gave
    → l.phase ≡ Open → l.course ≡ Waits → l.pending ≡ [] → in_at v 0 ≡ Pulled → out_at v 0 ≡ outlet.Available → took ≡ t ∷ [] → gave ≡ g ∷ [] → Waited (linear book first.stage.work) (begin_work k d first.stage.work) t g
linear_waited book k kd d first l v took gave t g begins law going_on on none waits_in asked_out took_at gave_at =
    waited_of (linear book first.stage.work) (begin_work k d first.stage.work) l.stage t g
    (law_at (linear book first.stage.work) law.start _ (held book l) _ (in_at v 0) _ (out_at v 0) _ law.took_list t law.gave_list g
    (same_start _ _ (sym law.owes ∙ begins.owes book))
    (ap (λ (p : Phase). held_in book p l.course l.pending l.stage) going_on ∙ ap (λ (c : Course). held_in book Open c l.pending l.stage) on ∙ ap (λ (h : List Tree). held_in book Open Waits h l.stage) none)
    waits_in asked_out
    (one_same _ _ (sym law.took_is ∙ took_at))
    (one_same _ _ (sym law.gave_is ∙ gave_at))
    law.law)
