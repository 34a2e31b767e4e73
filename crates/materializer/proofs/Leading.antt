-- A new stage that is handed moves may follow them, where its kind may; and it is then one of its kind that follows them.
use Rattle.std.proofs.Common.{◌≡◌, ◌∙◌, ◌<◌, ℕ, List, [], ◌∷◌, map, length, vec_len, ◌^◌, Option, None, Some, true, false, refl, sym, ap, subst, arith}
use Rattle.std.specs.Prelude.{IfSome}
use Rattle.std.specs.declared.vec.Vec.{Vec}
use Rattle.std.specs.declared.alloc.Global.{Global}
use Rattle.elem_core.specs.declared.why.Decider.{Decider}
use Rattle.elem_core.specs.Tree.{Tree, num, text}
use Rattle.port_core.specs.Picks.{plan_of}
use Rattle.stream_model.specs.declared.kind.Kind.{Kind}
use Rattle.stream_model.specs.declared.kind.Kind.TheVariants as kind
use Rattle.stream_model.specs.declared.kind.Policy.{Policy}
use Rattle.stream_model.specs.declared.kind.Policy.TheVariants.{Backpressure}
use Rattle.stage_dropping.specs.Droppings as dropping
use Rattle.stage_dropping.specs.Recoverings as recover
use Rattle.stage_dropping.specs.Recoverings.{Recover}
use Rattle.stage_switch.specs.States.{Valve, new_valve_of}
use Rattle.stage_linear.specs.States.{IsLinear}
use Rattle.stage_state.specs.declared.logic.StateLogic.{StateLogic}
use Rattle.stage_state.specs.declared.logic.StateLogic.TheVariants.{Machine, Dropping, Recovering, Obeying, Tripping}
use Rattle.stage_state.specs.Logics.{BeginsAs, IsStateful, StateMayFollow, StateFollows}
use Rattle.stage_state.specs.Moves.{state_plan, state_seat}
use Rattle.stage_state.specs.States.{IsMachine}
use Rattle.stage_in.specs.declared.logic.InLogic.{InLogic}
use Rattle.stage_in.specs.declared.logic.InLogic.TheVariants as logic
use Rattle.stage_in.specs.Logics.{IsFanIn, TakesAs}
use Rattle.stage_in.specs.Logics as fan_in
use Rattle.stage_out.specs.declared.logic.OutLogic.{OutLogic}
use Rattle.stage_out.specs.declared.logic.OutLogic.TheVariants.{Machines, Balances}
use Rattle.stage_out.specs.Machines.{IsMachines}
use Rattle.stage_out.specs.OutLogics.{IsOut}
use Rattle.stage_out.specs.OutLogics as fan_out
use Rattle.stage_sub.specs.States.{Logic}
use Rattle.stage_sub.specs.Handling.{new_log}
use Rattle.stage_sub.specs.Handling as handling
use Rattle.stage_sub.specs.Leds.{made_moves}
use Rattle.stage_sub.specs.LedLaws.{LedBegins}
use Rattle.line_chain.specs.Line.{Line, IsLine, line_rest, line_is_open}
use Rattle.nodes.specs.Kinds.{IsMaker, IsFileSink}
use Rattle.run_laws.specs.Made.{LedAs, chain_name}
use Rattle.stream_model.specs.Graph.{steps_of}
use Rattle.stream_model.specs.declared.blueprint.Node.{Node}
use Rattle.interpreter.specs.declared.parts.Work.{Work}
use Rattle.interpreter.specs.declared.parts.Work.TheVariants as work
use Rattle.materializer.specs.Choosers.{KindMayFollow, moves_of, PlanFits, PlansFit}
use Rattle.materializer.specs.Graphs.{Around}
use Rattle.blue_names.specs.CustomPorts.{custom_of}
use Rattle.materializer.specs.Planned.{IsPlanned, IsFreePlan, IsLedPlan, plan_of_planned, seat_of_plan, types_of_planned, PlannedMayFollow, PlannedFollows}
use Rattle.materializer.specs.Seats.{IsFreeWork, IsLedWork, HasUsedPorts, work_plan, work_seat, work_types, WorkMayFollow, WorkFollows}
use Rattle.materializer.specs.declared.seats.Planned.{Planned}
use Rattle.materializer.specs.declared.seats.Planned.TheVariants.{Reads, Writes, Works}
use Rattle.materializer.proofs.SubPlaces.{sub_chain}
use Rattle.materializer.proofs.Switches.{kinds_of}

-- ---- kinds that never choose

pub maker_free : (k : Kind) (moves : List ℕ) → IsMaker k → KindMayFollow k moves → ⊥
maker_free (kind.Merge n) moves is may = is
maker_free (kind.MergeHub s n) moves is may = is
maker_free (kind.Balance n) moves is may = is
maker_free (kind.Buffer n p) moves is may = is
maker_free (kind.Valve switch) moves is may = is
maker_free (kind.RecoverNum n) moves is may = is
maker_free (kind.RecoverText t) moves is may = is
maker_free (kind.GroupBy n f chain) moves is may = is
maker_free (kind.SplitWhen p chain j) moves is may = is
maker_free (kind.SplitAfter p chain j) moves is may = is
maker_free k moves is may = may

pub linear_free : (k : Kind) (moves : List ℕ) → IsLinear k → KindMayFollow k moves → ⊥
linear_free (kind.Merge n) moves is may = is
linear_free (kind.MergeHub s n) moves is may = is
linear_free (kind.Balance n) moves is may = is
linear_free (kind.Buffer n p) moves is may = is
linear_free (kind.Valve switch) moves is may = is
linear_free (kind.RecoverNum n) moves is may = is
linear_free (kind.RecoverText t) moves is may = is
linear_free (kind.GroupBy n f chain) moves is may = is
linear_free (kind.SplitWhen p chain j) moves is may = is
linear_free (kind.SplitAfter p chain j) moves is may = is
linear_free k moves is may = may

pub file_sink_free : (k : Kind) (moves : List ℕ) → IsFileSink k → KindMayFollow k moves → ⊥
file_sink_free (kind.Merge n) moves is may = is
file_sink_free (kind.MergeHub s n) moves is may = is
file_sink_free (kind.Balance n) moves is may = is
file_sink_free (kind.Buffer n p) moves is may = is
file_sink_free (kind.Valve switch) moves is may = is
file_sink_free (kind.RecoverNum n) moves is may = is
file_sink_free (kind.RecoverText t) moves is may = is
file_sink_free (kind.GroupBy n f chain) moves is may = is
file_sink_free (kind.SplitWhen p chain j) moves is may = is
file_sink_free (kind.SplitAfter p chain j) moves is may = is
file_sink_free k moves is may = may

-- ---- a stage with state

machine_free : (k : Kind) (moves : List ℕ) → IsMachine k → KindMayFollow k moves → ⊥
machine_free (kind.Merge n) moves is may = is
machine_free (kind.MergeHub s n) moves is may = is
machine_free (kind.Balance n) moves is may = is
machine_free (kind.Buffer n Backpressure) moves is may = may.0 refl
machine_free (kind.Buffer n p) moves is may = is
machine_free (kind.Valve switch) moves is may = is
machine_free (kind.RecoverNum n) moves is may = is
machine_free (kind.RecoverText t) moves is may = is
machine_free (kind.GroupBy n f chain) moves is may = is
machine_free (kind.SplitWhen p chain j) moves is may = is
machine_free (kind.SplitAfter p chain j) moves is may = is
machine_free k moves is may = may

pub state_may : (kd : Kind) (node : ℕ) (d : Decider) (l : StateLogic) (moves : List ℕ) → IsStateful kd → BeginsAs kd node d l → KindMayFollow kd moves → StateMayFollow moves l
state_may (kind.Buffer n p) node d (Dropping l) moves is b may = (node, n, p, b.0, is, b.1.0, may.1)
state_may (kind.RecoverNum n) node d (Recovering l) moves is b may = ((num n, b), may)
state_may (kind.RecoverText t) node d (Recovering l) moves is b may = ((text t, b), may)
state_may (kind.Valve name) node d (Obeying l) moves is b may = (subst (λ (m : ℕ). l ≡ new_valve_of m l.switch l.seat) (sym (ap (λ (x : Valve). x.node) b.1)) b.1, b.0, may.0, may.1)
state_may kd node d (Machine l) moves is b may = absurd (machine_free kd moves b.0 may)
state_may (kind.TripShutdown name n) node d (Tripping l) moves is b may = absurd may
state_may (kind.TripAbort name n) node d (Tripping l) moves is b may = absurd may
state_may kd node d l moves is b may = absurd b

-- what it then is, and follows
pub record Leads (kd : Kind) (node : ℕ) (d : Decider) (l : StateLogic) (moves : List ℕ) : Type 0 where
  pub as_kind : LedAs kd node d l
  pub plan : state_plan l ≡ Some moves

recover_leads : (own : Tree) (l m : Recover) (moves : List ℕ) → l ≡ recover.begun own → m ≡ recover.follows moves l → (m ≡ record (recover.begun own) { left = m.left }) × (plan_of m.moves m.left ≡ Some moves)
recover_leads own l m moves b f =
    let e : m ≡ record (recover.begun own) { left = Some moves } = f ∙ ap (λ (x : Recover). record x { left = Some moves }) b in
    (e ∙ ap (λ (p : Option (List ℕ)). record (recover.begun own) { left = p }) (sym (ap (λ (x : Recover). x.left) e)), ap (λ (x : Recover). plan_of x.moves x.left) e)

pub state_leads : (kd : Kind) (node : ℕ) (d : Decider) (old new : StateLogic) (moves : List ℕ) → BeginsAs kd node d old → StateFollows moves old new → Leads kd node d new moves
state_leads (kind.Buffer n p) node d (Dropping l) (Dropping m) moves b f =
    let begins = f.0 node n p b.1.0 in
    record { as_kind = (b.0, begins); plan = ap (λ (ms : List ℕ). plan_of ms m.log.left) begins.unmoved ∙ ap (plan_of []) f.1 }
state_leads (kind.RecoverNum n) node d (Recovering l) (Recovering m) moves b f = let e = recover_leads (num n) l m moves b f in record { as_kind = e.0; plan = e.1 }
state_leads (kind.RecoverText t) node d (Recovering l) (Recovering m) moves b f = let e = recover_leads (text t) l m moves b f in record { as_kind = e.0; plan = e.1 }
state_leads (kind.Valve name) node d (Obeying l) (Obeying m) moves b f = record {
  as_kind = subst (λ (x : Valve). LedAs (kind.Valve name) node d (Obeying x)) (sym f) (b.0, ap (λ (y : Valve). record y { left = Some moves }) b.1);
  plan = ap (λ (x : Valve). plan_of x.moves x.left) f ∙ ap (λ (ms : List ℕ). plan_of ms (Some moves)) (ap (λ (y : Valve). y.moves) b.1);
}
state_leads kd node d (Machine l) new moves b f = absurd f
state_leads kd node d (Tripping l) new moves b f = absurd f
state_leads kd node d (Dropping l) (Machine m) moves b f = absurd f
state_leads kd node d (Dropping l) (Recovering m) moves b f = absurd f
state_leads kd node d (Dropping l) (Obeying m) moves b f = absurd f
state_leads kd node d (Dropping l) (Tripping m) moves b f = absurd f
state_leads kd node d (Recovering l) (Machine m) moves b f = absurd f
state_leads kd node d (Recovering l) (Dropping m) moves b f = absurd f
state_leads kd node d (Recovering l) (Obeying m) moves b f = absurd f
state_leads kd node d (Recovering l) (Tripping m) moves b f = absurd f
state_leads kd node d (Obeying l) (Machine m) moves b f = absurd f
state_leads kd node d (Obeying l) (Dropping m) moves b f = absurd f
state_leads kd node d (Obeying l) (Recovering m) moves b f = absurd f
state_leads kd node d (Obeying l) (Tripping m) moves b f = absurd f
state_leads kd node d old new moves b f = absurd b

-- ---- a stage with substreams

-- one whose substreams are merged has an empty log
sub_may : (kd : Kind) (node : ℕ) (chain : Line) (l : Logic Line) (moves : List ℕ) → handling.BeginsAs kd node chain l → KindMayFollow kd moves → l.moves ≡ Some []
sub_may (kind.GroupBy n f name) node chain l moves b may = ap (λ (x : Logic Line). x.moves) b
sub_may (kind.SplitWhen p name j) node chain l moves b may = ap (λ (x : Logic Line). x.moves) b ∙ ap new_log may
sub_may (kind.SplitAfter p name j) node chain l moves b may = ap (λ (x : Logic Line). x.moves) b ∙ ap new_log may
sub_may kd node chain l moves b may = absurd b

-- ---- a stage with several inputs, or several outputs

pub in_may : (kd : Kind) (node : ℕ) (d : Decider) (l : InLogic) (moves : List ℕ) → IsFanIn kd → fan_in.Begins node kd d l → KindMayFollow kd moves → fan_in.MayFollow moves l
in_may kd node d l moves is b may = by kd l is b.takes may
  where
    by : (k : Kind) (x : InLogic) → IsFanIn k → TakesAs k x → KindMayFollow k moves → fan_in.MayFollow moves x
    by (kind.Merge n) (logic.Merging x) is t may = record { inputs = n; gathers = false; fan = (omega (arith, is.0), is.1); begins = t; named = may }
    by (kind.MergeHub s n) (logic.Merging x) is t may = record { inputs = n; gathers = true; fan = is; begins = t; named = may }
    by (kind.Concat n) x is t may = absurd may
    by (kind.Interleave n s) x is t may = absurd may
    by kind.MergeSorted x is t may = absurd may
    by kind.Zip x is t may = absurd may
    by k x is t may = absurd t

machines_free : (k : Kind) (moves : List ℕ) → IsMachines k → KindMayFollow k moves → ⊥
machines_free (kind.Merge n) moves is may = is
machines_free (kind.MergeHub s n) moves is may = is
machines_free (kind.Balance n) moves is may = is
machines_free (kind.Buffer n p) moves is may = is
machines_free (kind.Valve switch) moves is may = is
machines_free (kind.RecoverNum n) moves is may = is
machines_free (kind.RecoverText t) moves is may = is
machines_free (kind.GroupBy n f chain) moves is may = is
machines_free (kind.SplitWhen p chain j) moves is may = is
machines_free (kind.SplitAfter p chain j) moves is may = is
machines_free k moves is may = may

pub out_may : (kd : Kind) (node : ℕ) (l : OutLogic) (moves : List ℕ) → IsOut kd → fan_out.Begins node kd l → KindMayFollow kd moves → fan_out.OutMayFollow moves l
out_may kd node l moves is b may = by kd l is b.as_kind may
  where
    by : (k : Kind) (x : OutLogic) → IsOut k → fan_out.BeginsAs node k x → KindMayFollow k moves → fan_out.OutMayFollow moves x
    by (kind.Balance n) (Balances x) is t may = record { outputs = n; fan = is; begins = t; named = may }
    by (kind.Balance n) (Machines x) is t may = absurd t.0
    by k (Machines x) is t may = absurd (machines_free k moves t.0 may)
    by k (Balances x) is t may = absurd t

-- ---- one that is handed no moves

led_recover : (own : Tree) (l : Recover) → l ≡ recover.begun own → l ≡ record (recover.begun own) { left = l.left }
led_recover own l b = b ∙ ap (λ (p : Option (List ℕ)). record (recover.begun own) { left = p }) (sym (ap (λ (x : Recover). x.left) b))

-- it may follow some as well as none
pub led_as : (kd : Kind) (node : ℕ) (d : Decider) (l : StateLogic) → BeginsAs kd node d l → LedAs kd node d l
led_as (kind.Buffer n p) node d (Dropping l) b = (b.0, b.1.0)
led_as (kind.RecoverNum n) node d (Recovering l) b = led_recover (num n) l b
led_as (kind.RecoverText t) node d (Recovering l) b = led_recover (text t) l b
led_as (kind.Valve name) node d (Obeying l) b = (b.0, b.1 ∙ ap (λ (p : Option (List ℕ)). record (new_valve_of node l.switch l.seat) { left = p }) (sym (ap (λ (x : Valve). x.left) b.1)))
led_as kd node d l b = b

-- ---- what is to stand at a place

-- of one that is handed no moves
state_bare : (kd : Kind) (node : ℕ) (d : Decider) (l : StateLogic) → BeginsAs kd node d l → state_plan l ≡ None
state_bare (kind.Buffer n p) node d (Dropping l) b = ap (plan_of l.log.moves) b.1.1
state_bare (kind.RecoverNum n) node d (Recovering l) b = ap (λ (x : Recover). plan_of x.moves x.left) b
state_bare (kind.RecoverText t) node d (Recovering l) b = ap (λ (x : Recover). plan_of x.moves x.left) b
state_bare (kind.Valve name) node d (Obeying l) b = ap (λ (x : Valve). plan_of x.moves x.left) b.1
state_bare kd node d (Machine l) b = refl
state_bare kd node d (Tripping l) b = refl
state_bare kd node d l b = absurd b

module _ {S D L H B : Type 0} (around : Around) (k : ℕ) (n : Node) where
  -- no moves
  bare_work : (w : Work S D L H B) → IsFreeWork around.chains k n.kind n.decider w → work_plan w ≡ None
  bare_work (work.State l) is = state_bare n.kind k n.decider l is.begins.as_kind
  bare_work (work.FanIn l inputs) is = is.free
  bare_work (work.FanOut l outputs) is = is.free
  bare_work (work.Making shape) is = refl
  bare_work (work.Linear l) is = refl
  bare_work (work.Sub l) is = ap (plan_of (made_moves l)) is.free
  bare_work (work.Custom x inputs outputs) is = refl
  bare_work (work.Writing shape None) is = refl
  bare_work w is = absurd is

  pub bare_plan : (p : Planned S D L H B) → IsFreePlan around.chains k n p → plan_of_planned p ≡ None
  bare_plan Reads is = refl
  bare_plan (Writes shape) is = refl
  bare_plan (Works w) is = bare_work w is

  -- no types of a custom stage, where the node is none
  bare_types : (w : Work S D L H B) → IsFreeWork around.chains k n.kind n.decider w → custom_of n.kind ≡ None → work_types w ≡ None
  bare_types (work.Custom x inputs outputs) is none = let e : Some is.is_custom.0 ≡ None = sym (ap (λ (q : Kind). custom_of q) is.is_custom.1) ∙ none in absurd cc
  bare_types w is none = refl

  pub no_types : (p : Planned S D L H B) → IsFreePlan around.chains k n p → custom_of n.kind ≡ None → types_of_planned p ≡ None
  no_types Reads is none = refl
  no_types (Writes shape) is none = refl
  no_types (Works w) is none = bare_types w is none

  -- what is planned is so whatever wires there are
  pub free_plan : (p : Planned S D L H B) → IsPlanned around k n p → IsFreePlan around.chains k n p
  free_plan Reads is = is
  free_plan (Writes shape) is = is
  free_plan (Works w) is = is.work

  led_work : (w : Work S D L H B) → IsFreeWork around.chains k n.kind n.decider w → IsLedWork around.chains k n.kind n.decider w
  led_work (work.State l) is = record { is_state = is.is_state; begins = record { as_kind = led_as n.kind k n.decider l is.begins.as_kind; fresh = is.begins.fresh } }
  led_work (work.Sub l) is = record { is_sub = is.is_sub; begins = is.begins; line = is.line }
  led_work (work.FanIn l inputs) is = record { is_in = is.is_in; begins = is.begins; inputs_are = is.inputs_are }
  led_work (work.FanOut l outputs) is = record { is_out = is.is_out; begins = is.begins; outputs_are = is.outputs_are }
  led_work w is = is

  led_plan : (p : Planned S D L H B) → IsPlanned around k n p → IsLedPlan around k n p
  led_plan Reads is = is
  led_plan (Writes shape) is = is
  led_plan (Works w) is = record { work = led_work w is.work; ports = is.ports; no_input = is.no_input; no_output = is.no_output }

  -- some moves
  work_may : (w : Work S D L H B) (moves : List ℕ) → IsFreeWork around.chains k n.kind n.decider w → KindMayFollow n.kind moves → WorkMayFollow moves w
  work_may (work.State l) moves is may = state_may n.kind k n.decider l moves is.is_state is.begins.as_kind may
  work_may (work.Sub l) moves is may = sub_may n.kind k l.logic.chain l.logic moves is.begins.as_kind may
  work_may (work.FanIn l inputs) moves is may = in_may n.kind k n.decider l moves is.is_in is.begins may
  work_may (work.FanOut l outputs) moves is may = out_may n.kind k l moves is.is_out is.begins may
  work_may (work.Making shape) moves is may = absurd (maker_free n.kind moves is.is_maker may)
  work_may (work.Linear l) moves is may = absurd (linear_free n.kind moves is.is_linear may)
  work_may (work.Custom x inputs outputs) moves is may = absurd (subst (λ (t : Kind). KindMayFollow t moves) is.is_custom.1 may)
  work_may (work.Writing shape None) moves is may = absurd (subst (λ (t : Kind). KindMayFollow t moves) is.is_ignore may)
  work_may w moves is may = absurd is

  pub planned_may : (p : Planned S D L H B) (moves : List ℕ) → IsFreePlan around.chains k n p → KindMayFollow n.kind moves → PlannedMayFollow moves p
  planned_may Reads moves is may = absurd (subst (λ (t : Kind). KindMayFollow t moves) is.kind_is may)
  planned_may (Writes shape) moves is may = absurd (file_sink_free n.kind moves is.is_sink may)
  planned_may (Works w) moves is may = work_may w moves is may

  -- what it is handed it may follow
  pub led_may : (p : Planned S D L H B) (moves : Option (Vec ℕ Global)) → IsFreePlan around.chains k n p → PlanFits n.kind (moves_of moves) → IfSome moves (λ m. PlannedMayFollow m.items p × (vec_len m < 2 ^ 32))
  led_may p None is fits = tt
  led_may p (Some m) is fits = (planned_may p m.items is fits.1, subst (λ (many : ℕ). many < 2 ^ 32) (sym m.ok.0) fits.0)

  followed_work : (old new : Work S D L H B) (moves : List ℕ) → IsFreeWork around.chains k n.kind n.decider old → WorkFollows moves old new → IsLedWork around.chains k n.kind n.decider new
  followed_work (work.State l) (work.State m) moves is f = record { is_state = is.is_state; begins = record { as_kind = (state_leads n.kind k n.decider l m moves is.begins.as_kind f.0).as_kind; fresh = f.1 } }
  followed_work (work.Sub l) (work.Sub m) moves is f =
      let b = f.0 k n.kind l.logic.chain is.begins in
      let same : l.logic.chain ≡ m.logic.chain = sym (sub_chain n.kind k l.logic.chain m.logic b.as_kind) in
      record {
        is_sub = is.is_sub;
        begins = subst (λ (c : Line). LedBegins line_rest line_is_open k n.kind c m) same b;
        line = subst (IsLine k (steps_of (chain_name n.kind) around.chains)) same is.line;
      }
  followed_work (work.FanIn l inputs) (work.FanIn m same) moves is f = record { is_in = is.is_in; begins = f.1.0 k n.kind n.decider is.begins; inputs_are = f.0 ∙ is.inputs_are }
  followed_work (work.FanOut l outputs) (work.FanOut m same) moves is f = record { is_out = is.is_out; begins = f.1.0 k n.kind is.begins; outputs_are = f.0 ∙ is.outputs_are }
  followed_work old new moves is f = absurd f

  -- the ports of one that follows moves are those of its kind
  followed_ports : (old new : Work S D L H B) (moves : List ℕ) → WorkFollows moves old new → HasUsedPorts around.wires n new
  followed_ports (work.State l) (work.State m) moves f = tt
  followed_ports (work.Sub l) (work.Sub m) moves f = tt
  followed_ports (work.FanIn l inputs) (work.FanIn m same) moves f = tt
  followed_ports (work.FanOut l outputs) (work.FanOut m same) moves f = tt
  followed_ports old new moves f = absurd f

  pub followed_plan : (old new : Planned S D L H B) (moves : Option (List ℕ)) → IsPlanned around k n old → PlannedFollows moves old new → IsLedPlan around k n new
  followed_plan old new None is f = subst (IsLedPlan around k n) (sym f) (led_plan old is)
  followed_plan (Works old) (Works new) (Some moves) is f = record { work = followed_work old new moves is.work f; ports = followed_ports old new moves f; no_input = is.no_input; no_output = is.no_output }
  followed_plan old new (Some moves) is f = absurd f

  follows_work : (old new : Work S D L H B) (moves : List ℕ) → IsFreeWork around.chains k n.kind n.decider old → WorkFollows moves old new → work_plan new ≡ Some moves
  follows_work (work.State l) (work.State m) moves is f = (state_leads n.kind k n.decider l m moves is.begins.as_kind f.0).plan
  follows_work (work.Sub l) (work.Sub m) moves is f = f.1
  follows_work (work.FanIn l inputs) (work.FanIn m same) moves is f = f.1.1
  follows_work (work.FanOut l outputs) (work.FanOut m same) moves is f = f.1.1
  follows_work old new moves is f = absurd f

  pub follows_plan : (old new : Planned S D L H B) (moves : Option (List ℕ)) → IsFreePlan around.chains k n old → PlannedFollows moves old new → plan_of_planned new ≡ moves
  follows_plan old new None is f = ap plan_of_planned f ∙ bare_plan old is
  follows_plan (Works old) (Works new) (Some moves) is f = follows_work old new moves is f
  follows_plan old new (Some moves) is f = absurd f

-- its seat at its switch stays
state_seat_stays : (moves : List ℕ) (old new : StateLogic) → StateFollows moves old new → state_seat new ≡ state_seat old
state_seat_stays moves (Dropping l) (Dropping m) f = refl
state_seat_stays moves (Recovering l) (Recovering m) f = refl
state_seat_stays moves (Obeying l) (Obeying m) f = ap (λ (x : Valve). Some x.seat) f
state_seat_stays moves old new f = absurd f

work_seat_stays : {S D L H B : Type 0} (moves : List ℕ) (old new : Work S D L H B) → WorkFollows moves old new → work_seat new ≡ work_seat old
work_seat_stays moves (work.State l) (work.State m) f = state_seat_stays moves l m f.0
work_seat_stays moves (work.Sub l) (work.Sub m) f = refl
work_seat_stays moves (work.FanIn l inputs) (work.FanIn m same) f = refl
work_seat_stays moves (work.FanOut l outputs) (work.FanOut m same) f = refl
work_seat_stays moves old new f = absurd f

pub seat_stays : {S D L H B : Type 0} (moves : Option (List ℕ)) (old new : Planned S D L H B) → PlannedFollows moves old new → seat_of_plan new ≡ seat_of_plan old
seat_stays None old new f = ap seat_of_plan f
seat_stays (Some moves) (Works old) (Works new) f = work_seat_stays moves old new f
seat_stays (Some moves) old new f = absurd f

-- the types of a custom stage stay
work_types_stay : {S D L H B : Type 0} (moves : List ℕ) (old new : Work S D L H B) → WorkFollows moves old new → work_types new ≡ work_types old
work_types_stay moves (work.State l) (work.State m) f = refl
work_types_stay moves (work.Sub l) (work.Sub m) f = refl
work_types_stay moves (work.FanIn l inputs) (work.FanIn m same) f = refl
work_types_stay moves (work.FanOut l outputs) (work.FanOut m same) f = refl
work_types_stay moves old new f = absurd f

pub types_stay : {S D L H B : Type 0} (moves : Option (List ℕ)) (old new : Planned S D L H B) → PlannedFollows moves old new → types_of_planned new ≡ types_of_planned old
types_stay None old new f = ap types_of_planned f
types_stay (Some moves) (Works old) (Works new) f = work_types_stay moves old new f
types_stay (Some moves) old new f = absurd f

-- ---- one node after another

pub moves_left : (n : Node) (old rest : List Node) (ps : List (Option (Vec ℕ Global))) (m : ℕ) → old ≡ n ∷ rest → PlansFit (kinds_of old) (map moves_of ps) → m ≡ length ps → 0 < m
moves_left n old rest ps m e h size = let some = some_left (kinds_of rest) n.kind ps (subst (λ l. PlansFit (kinds_of l) (map moves_of ps)) e h) in omega (arith, some, size)
  where
    some_left : (ks : List Kind) (t : Kind) (qs : List (Option (Vec ℕ Global))) → PlansFit (t ∷ ks) (map moves_of qs) → 0 < length qs
    some_left ks t [] h = absurd h
    some_left ks t (q ∷ qs) h = omega arith

pub moves_next : (n : Node) (old rest : List Node) (ps more : List (Option (Vec ℕ Global))) (x : Option (Vec ℕ Global)) → old ≡ n ∷ rest → ps ≡ x ∷ more → PlansFit (kinds_of old) (map moves_of ps) → PlanFits n.kind (moves_of x) × PlansFit (kinds_of rest) (map moves_of more)
moves_next n old rest ps more x e f h = subst (λ l. PlansFit (n.kind ∷ kinds_of rest) (map moves_of l)) f (subst (λ l. PlansFit (kinds_of l) (map moves_of ps)) e h)

pub no_moves_left : (rest : List Node) (ps : List (Option (Vec ℕ Global))) → rest ≡ [] → PlansFit (kinds_of rest) (map moves_of ps) → ps ≡ []
no_moves_left rest ps e h = none ps (subst (λ l. PlansFit (kinds_of l) (map moves_of ps)) e h)
  where
    none : (qs : List (Option (Vec ℕ Global))) → PlansFit [] (map moves_of qs) → qs ≡ []
    none [] h = refl
    none (q ∷ qs) h = absurd h
