-- What a stage with state gave agrees with the outlook of its output, where what it took does.
use Rattle.std.specs.Prelude.{slice_get}
use Rattle.std.proofs.Common.{◌≡◌, ℕ, ◌<◌, ◌⊎◌, inl, inr, Option, None, Some, List, [], ◌∷◌, true, refl, sym, subst, ◌∙◌}
use Rattle.elem_core.specs.Tree.{Tree}
use Rattle.elem_core.specs.declared.item.Item.{Item}
use Rattle.elem_core.specs.declared.why.Decider.{Decider}
use Rattle.port_core.specs.View.{View, in_at, out_at}
use Rattle.stream_model.specs.declared.kind.Kind.{Kind}
use Rattle.stream_model.specs.declared.kind.Kind.TheVariants.{Grouped, Fold, Reduce, Scan, Buffer}
use Rattle.stream_model.specs.declared.kind.Policy.TheVariants.{Backpressure}
use Rattle.stream_model.specs.Outlook.{Outlook, Agrees, lane_outlook}
use Rattle.stream_model.specs.Machine.{Run, output}
use Rattle.stream_model.specs.Linear.{Book, Stage, linear, begin_work, work_of}
use Rattle.stream_model.specs.Graph.{Graph}
use Rattle.stream_model.specs.Graph as graph
use Rattle.stream_model.specs.Node.{World, node_outlook}
use Rattle.stream_model.specs.Fits.{moves_fit}
use Rattle.stage_core.specs.Held.{owing}
use Rattle.stage_core.specs.Law.{Law}
use Rattle.stage_core.proofs.Whole.{stage_stands, stage_agrees}
use Rattle.stage_state.specs.Buffering.{buffer}
use Rattle.stage_state.specs.Resting.{begin_buffer}
use Rattle.stage_state.specs.States.{Logic, machine_by, held, IsMachine, Begins}
use Rattle.stage_state.proofs.Buffers.{buffer_agrees}
use Rattle.stage_state.specs.declared.logic.StateLogic.{StateLogic}
use Rattle.stage_state.specs.declared.logic.StateLogic.TheVariants.{Machine, Dropping, Recovering, Obeying, Tripping}
use Rattle.stage_state.specs.Moves.{state_picks}
use Rattle.stage_state.specs.Handling.{StateLaw}
use Rattle.stage_state.specs.MachineNodes.{MachineLaw}
use Rattle.run_laws.specs.KindLaws.{RunLaws}
use Rattle.run_laws.specs.Made.{FirstState, LedAs}
use Rattle.stage_state.specs.Logics.{BeginsAs}
use Rattle.stage_switch.specs.States.{Trip}
use Rattle.run_laws.specs.Items.{MayPass, AllMayPass, AgreesWith}
use Rattle.run_laws.proofs.Machines.{IsKeeping, keeping_machine}
use Rattle.run_laws.proofs.Readings.{one_port}
use Rattle.run_laws.proofs.Stages.{one_input, begins_so}
use Rattle.run_laws.proofs.StateChoices.{dropping_laws, recover_laws}
use Rattle.run_laws.proofs.StateSwitches.{valve_laws, trip_laws}

-- ---- a stage that chooses nothing keeps a group or a value, or is a buffer that holds its input back

-- one that keeps, at its start
pub record KeepsFirst (k : ℕ) (kd : Kind) (d : Decider) (x : Logic) : Type 0 where
  pub is_keeping : IsKeeping kd
  pub size : x.size ≡ None
  pub work : work_of kd ≡ Some x.stage.work
  pub owes : held x ≡ owing (begin_work k d x.stage.work)

-- a buffer at its start
pub record BuffersFirst (kd : Kind) (x : Logic) : Type 0 where
  pub room : ℕ
  pub kind_is : kd ≡ Buffer room Backpressure
  pub some : 0 < room
  pub size : x.size ≡ Some room
  pub owes : held x ≡ owing (begin_buffer x.stage)

-- it is one of the two
pub state_cases : (k : ℕ) (kd : Kind) (d : Decider) (x : Logic) → IsMachine kd → Begins k kd d x → KeepsFirst k kd d x ⊎ BuffersFirst kd x
state_cases k (Grouped n) d x h b = inl (record { is_keeping = tt; size = b.owes.0; work = b.owes.1.0; owes = b.owes.1.1 })
state_cases k (Fold o) d x h b = inl (record { is_keeping = tt; size = b.owes.0; work = b.owes.1.0; owes = b.owes.1.1 })
state_cases k (Reduce r) d x h b = inl (record { is_keeping = tt; size = b.owes.0; work = b.owes.1.0; owes = b.owes.1.1 })
state_cases k (Scan o) d x h b = inl (record { is_keeping = tt; size = b.owes.0; work = b.owes.1.0; owes = b.owes.1.1 })
state_cases k (Buffer n Backpressure) d x h b = inr (record { room = n; kind_is = refl; some = h; size = b.owes.0; owes = b.owes.1 })
state_cases k _ d x h b = absurd h

-- ---- its law is of its machine

module _ (first now : Logic) (v : View) (took gave : List (List Item)) (law : MachineLaw first now v took gave) (book : Book) where
  pub keeps_law : first.size ≡ None → Law (linear book first.stage.work) law.start (held now) (in_at v 0) (out_at v 0) law.took_list law.gave_list
  keeps_law e = subst (λ (z : Option ℕ). Law (machine_by book z first.stage.work) law.start (held now) (in_at v 0) (out_at v 0) law.took_list law.gave_list) e (law.law book)

  pub buffers_law : (n : ℕ) → first.size ≡ Some n → Law (buffer n) law.start (held now) (in_at v 0) (out_at v 0) law.took_list law.gave_list
  buffers_law n e = subst (λ (z : Option ℕ). Law (machine_by book z first.stage.work) law.start (held now) (in_at v 0) (out_at v 0) law.took_list law.gave_list) e (law.law book)

-- ---- what it gave

module _ (g : Graph) (w : World) (k : ℕ) (n : graph.Node) (first now : Logic) (v : View) (took gave : List (List Item)) (is_machine : IsMachine n.kind) (begins : Begins k n.kind n.decider first) (law : MachineLaw first now v took gave) where
  abbrev Gives : List Outlook → ℕ → List Item → Type 0
  Gives os p h = AgreesWith (node_outlook g w k n.kind n.decider os p) h

  keeps_give : (os : List Outlook) (o : Outlook) (p : ℕ) (h : List Item) → os ≡ o ∷ [] → MayPass o law.took_list → h ≡ law.gave_list → KeepsFirst k n.kind n.decider first → Gives os p h
  keeps_give os o p h one agrees_in is f =
      let its : Law (linear w.book first.stage.work) law.start (held now) (in_at v 0) (out_at v 0) law.took_list law.gave_list = keeps_law first now v took gave law w.book f.size in
      let start : law.start ≡ begin_work k n.decider first.stage.work = begins_so law.start (begin_work k n.decider first.stage.work) (sym law.owes ∙ f.owes) in
      let agrees : Agrees (output (linear w.book first.stage.work) law.start o) its.out_list its.out_end =
      stage_agrees (linear w.book first.stage.work) law.start o (held now) (in_at v 0) (out_at v 0) law.took_list law.gave_list its (agrees_in its.in_list its.in_end its.took_is) in
      record {
        list = its.out_list;
        end = its.out_end;
        is = is ∙ its.gave_is;
        agrees = rw ((keeping_machine n.kind first.stage.work f.is_keeping f.work).outlook g w k n.decider os p, one, ← start) agrees;
      }

  buffers_give : (os : List Outlook) (o : Outlook) (p : ℕ) (h : List Item) → os ≡ o ∷ [] → MayPass o law.took_list → h ≡ law.gave_list → BuffersFirst n.kind first → Gives os p h
  buffers_give os o p h one agrees_in is f =
      let some : Law (buffer f.room) law.start (held now) (in_at v 0) (out_at v 0) law.took_list law.gave_list = buffers_law first now v took gave law w.book f.room f.size in
      let start : law.start ≡ begin_buffer first.stage = begins_so law.start (begin_buffer first.stage) (sym law.owes ∙ f.owes) in
      let its : Law (buffer f.room) (begin_buffer first.stage) (held now) (in_at v 0) (out_at v 0) law.took_list law.gave_list =
      subst (λ (z : Run Stage Tree). Law (buffer f.room) z (held now) (in_at v 0) (out_at v 0) law.took_list law.gave_list) start some in
      let agrees : Agrees (lane_outlook f.room o) its.out_list its.out_end =
      buffer_agrees f.room first.stage o its.in_list its.in_end its.out_list its.out_end (agrees_in its.in_list its.in_end its.took_is)
      (stage_stands (buffer f.room) (begin_buffer first.stage) (held now) (in_at v 0) (out_at v 0) law.took_list law.gave_list its) in
      record {
        list = its.out_list;
        end = its.out_end;
        is = is ∙ its.gave_is;
        agrees = rw (f.kind_is, one) agrees;
      }

  machine_gives : (os : List Outlook) → AllMayPass os took → (p : ℕ) (h : List Item) → slice_get gave p ≡ Some h → Gives os p h
  machine_gives os a p h at =
      let one = one_input os law.took_list (rw law.took_is at a) in
      let here : slice_get (law.gave_list ∷ []) p ≡ Some h = rw law.gave_is at at in
      elim (state_cases k n.kind n.decider first is_machine begins) [
        | inl f ↦ keeps_give os one.0 p h one.1.0 one.1.1 (one_port law.gave_list p h here) f
        | inr f ↦ buffers_give os one.0 p h one.1.0 one.1.1 (one_port law.gave_list p h here) f
      ]

  -- it chooses nothing
  no_moves : (os : List Outlook) → moves_fit g w k n.kind os ≡ true
  no_moves os = elim (state_cases k n.kind n.decider first is_machine begins) [
    | inl f ↦ (keeping_machine n.kind first.stage.work f.is_keeping f.work).no_moves g w k os
    | inr f ↦ rw f.kind_is refl
  ]

  machine_laws : RunLaws g w k n took gave
  machine_laws = record { gives = machine_gives; fits = λ os a. no_moves os }

-- ---- by its kind

-- the moves that it has recorded, where its kind chooses
abbrev pub Told : World → ℕ → StateLogic → Type 0
Told w k now = (moves : List ℕ) → state_picks now ≡ Some moves → w.moves k ≡ moves

-- a stage that makes no choice follows nothing
pub led_machine : (kd : Kind) (k : ℕ) (d : Decider) (x : Logic) → LedAs kd k d (Machine x) → BeginsAs kd k d (Machine x)
led_machine (Buffer n p) k d x b = b
led_machine kd k d x b = b

pub led_trip : (kd : Kind) (k : ℕ) (d : Decider) (x : Trip) → LedAs kd k d (Tripping x) → BeginsAs kd k d (Tripping x)
led_trip (Buffer n p) k d x b = b
led_trip kd k d x b = b

pub state_laws : (g : Graph) (w : World) (k : ℕ) (n : graph.Node) (first now : StateLogic) (v : View) (took gave : List (List Item)) → FirstState k n first → Told w k now → StateLaw first now v took gave → RunLaws g w k n took gave
state_laws g w k n (Machine first) (Machine now) v took gave made told law = let b = led_machine n.kind k n.decider first made.begins.as_kind in machine_laws g w k n first now v took gave b.0 b.1 law
state_laws g w k n (Dropping first) (Dropping now) v took gave made told law = dropping_laws g w k n first now v took gave made.begins.as_kind (told now.log.moves refl) law
state_laws g w k n (Recovering first) (Recovering now) v took gave made told law = recover_laws g w k n first now v took gave made.begins.as_kind (told now.moves refl) law
state_laws g w k n (Obeying first) (Obeying now) v took gave made told law = valve_laws g w k n first now v took gave made.begins.as_kind (told now.moves refl) law
state_laws g w k n (Tripping first) (Tripping now) v took gave made told law = trip_laws g w k n first now v took gave (led_trip n.kind k n.decider first made.begins.as_kind) law
state_laws g w k n first now v took gave made told law = absurd law
