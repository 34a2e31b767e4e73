-- What a linear stage gave agrees with the outlook of its output, where what it took does.
use Rattle.std.specs.Prelude.{slice_get}
use Rattle.std.proofs.Common.{◌≡◌, ℕ, List, [], ◌∷◌, Some, refl, sym, ◌∙◌}
use Rattle.elem_core.specs.Tree.{Tree}
use Rattle.elem_core.specs.declared.item.Item.{Item}
use Rattle.port_core.specs.View.{View, in_at, out_at}
use Rattle.stream_model.specs.Outlook.{Outlook, Agrees}
use Rattle.stream_model.specs.Machine.{Run, output}
use Rattle.stream_model.specs.Linear.{Stage, linear, begin_work}
use Rattle.stream_model.specs.Graph.{Graph}
use Rattle.stream_model.specs.Graph as graph
use Rattle.stream_model.specs.Node.{World, node_outlook}
use Rattle.stage_core.specs.Held.{owing}
use Rattle.stage_core.specs.Law.{Law}
use Rattle.stage_core.proofs.Whole.{stage_agrees}
use Rattle.stage_linear.specs.States.{Logic, held}
use Rattle.stage_linear.specs.Handling.{LinearLaw}
use Rattle.run_laws.specs.KindLaws.{IsOneMachine, RunLaws}
use Rattle.run_laws.specs.Made.{FirstLinear}
use Rattle.run_laws.specs.Items.{MayPass, AllMayPass, AgreesWith}
use Rattle.run_laws.proofs.Machines.{linear_machine}
use Rattle.run_laws.proofs.Readings.{one_port}

-- one history took, by one outlook
pub one_input : (os : List Outlook) (h : List Item) → AllMayPass os (h ∷ []) → (o : Outlook) × ((os ≡ o ∷ []) × MayPass o h)
one_input [] h a = absurd a
one_input (o ∷ []) h a = (o, (refl, a.0))
one_input (o ∷ x ∷ os) h a = absurd a.1

pub begins_so : (a b : Run Stage Tree) → owing a ≡ owing b → a ≡ b
begins_so a b h = cc

module _ (g : Graph) (w : World) (k : ℕ) (n : graph.Node) (first now : Logic) (v : View) (took gave : List (List Item)) (made : FirstLinear k n first) (law : LinearLaw w.book first now v took gave) where
  machine : IsOneMachine n.kind first.stage.work
  machine = linear_machine n.kind first.stage.work made.is_linear made.begins.work

  stage_gives : (os : List Outlook) → AllMayPass os took → (p : ℕ) (h : List Item) → slice_get gave p ≡ Some h → AgreesWith (node_outlook g w k n.kind n.decider os p) h
  stage_gives os a p h at =
      let one = one_input os law.took_list (rw law.took_is at a) in
      let here : slice_get (law.gave_list ∷ []) p ≡ Some h = rw law.gave_is at at in
      let its : Law (linear w.book first.stage.work) law.start (held w.book now) (in_at v 0) (out_at v 0) law.took_list law.gave_list = law.law in
      let start : law.start ≡ begin_work k n.decider first.stage.work = begins_so law.start (begin_work k n.decider first.stage.work) (sym law.owes ∙ made.begins.owes w.book) in
      let agrees : Agrees (output (linear w.book first.stage.work) law.start one.0) its.out_list its.out_end =
      stage_agrees (linear w.book first.stage.work) law.start one.0 (held w.book now) (in_at v 0) (out_at v 0) law.took_list law.gave_list its (one.1.1 its.in_list its.in_end its.took_is) in
      record {
        list = its.out_list;
        end = its.out_end;
        is = one_port law.gave_list p h here ∙ its.gave_is;
        agrees = rw (machine.outlook g w k n.decider os p, one.1.0, ← start) agrees;
      }

  pub stage_laws : RunLaws g w k n took gave
  stage_laws = record { gives = stage_gives; fits = λ os a. machine.no_moves g w k os }
