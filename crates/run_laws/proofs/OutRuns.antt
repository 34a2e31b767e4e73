-- What a stage with several outputs gave at each of them agrees with the outlook there, where what came does with its input's.
use Rattle.std.specs.Prelude.{slice_get, slice_index_or}
use Rattle.std.proofs.Common.{◌≡◌, ℕ, ◌≤◌, true, List, [], ◌∷◌, length, Some, refl, sym, subst, ◌∙◌, arith}
use Rattle.std.proofs.lemmas.Option.{slice_get_within}
use Rattle.elem_core.specs.declared.item.Item.{Item}
use Rattle.port_core.specs.View.{View, in_at}
use Rattle.stream_model.specs.declared.kind.Kind.{Kind}
use Rattle.stream_model.specs.declared.kind.Kind.TheVariants.{Broadcast, BroadcastHub, Partition, Unzip}
use Rattle.stream_model.specs.Fits.{moves_fit}
use Rattle.stream_model.specs.Graph.{Graph}
use Rattle.stream_model.specs.Graph as graph
use Rattle.stream_model.specs.Linear.{Book}
use Rattle.stream_model.specs.Node.{World, head_of, node_outlook}
use Rattle.stream_model.specs.Outlook.{Outlook, Agrees}
use Rattle.stage_out.specs.declared.machines.OutMachines.{OutMachines}
use Rattle.stage_out.specs.Machines.{outlets, owed, IsMachines, Begins}
use Rattle.stage_out.specs.MachineNodes.{MachinesLaw}
use Rattle.stage_out.proofs.MachineNodes.{stage_agrees, length-outlets}
use Rattle.run_laws.specs.Items.{MayPass, AllMayPass, AgreesWith}
use Rattle.run_laws.specs.KindLaws.{IsHistoryOf, HearsAll, RunLaws}
use Rattle.run_laws.proofs.InRuns.{at_index, one_given}
use Rattle.run_laws.proofs.OutLists.{Came, came_in}
use Rattle.run_laws.proofs.OutPictures.{some_outputs}

all_fit : (g : Graph) (w : World) (k : ℕ) (kd : Kind) → IsMachines kd → (os : List Outlook) → moves_fit g w k kd os ≡ true
all_fit g w k (Broadcast n) ok os = refl
all_fit g w k (BroadcastHub s n) ok os = refl
all_fit g w k (Partition n f) ok os = refl
all_fit g w k Unzip ok os = refl
all_fit g w k kd ok os = absurd ok

pub one_input : (os : List Outlook) (x : List Item) → AllMayPass os (x ∷ []) → (o : Outlook) × ((os ≡ o ∷ []) × MayPass o x)
one_input [] x a = absurd a
one_input (o ∷ []) x a = (o, (refl, a.0))
one_input (o ∷ p ∷ os) x a = absurd a.1

came_of : (book : Book) (first now : OutMachines) (v : View) (took gave : List (List Item)) → (law : MachinesLaw first now v took gave) → 1 ≤ length (owed now) → Came v law.taken
came_of book first now v took gave law some = let n = length-outlets book now in came_in (outlets book now) 0 v law.taken (λ j. slice_index_or gave j []) (omega (arith, n, some)) (law.law book)

module _ (g : Graph) (w : World) (k : ℕ) (n : graph.Node) (first now : OutMachines) (v : View) (took gave : List (List Item)) (ok : IsMachines n.kind) (b : Begins k n.kind first) (law : MachinesLaw first now v took gave) where
  gives : (os : List Outlook) → AllMayPass os took → (p : ℕ) (h : List Item) → slice_get gave p ≡ Some h → AgreesWith (node_outlook g w k n.kind n.decider os p) h
  gives os a p h at =
      let within = slice_get_within gave p h at in
      let c = came_of w.book first now v took gave law (some_outputs k n.kind first now ok b law.outputs) in
      let one = one_input os law.taken (subst (λ (hs : List (List Item)). AllMayPass os hs) law.took_is a) in
      let passes : Agrees (head_of os) c.list c.end = subst (λ (xs : List Outlook). Agrees (head_of xs) c.list c.end) (sym one.1.0) (one.1.1 c.list c.end c.is) in
      let r = stage_agrees g w k n.kind n.decider os first now v took gave b law c.list c.end c.is passes p within in
      record { list = r.list; end = r.end; is = sym (at_index gave p h at) ∙ r.is; agrees = r.agrees }

  pub machines_laws : RunLaws g w k n took gave
  machines_laws = record { gives = gives; fits = λ os a. all_fit g w k n.kind ok os }

-- what came is a list and an end, which is known of the input
pub machines_hear : (book : Book) (k : ℕ) (kd : Kind) (first now : OutMachines) (v : View) (took gave : List (List Item)) → IsMachines kd → Begins k kd first → MachinesLaw first now v took gave → HearsAll v took
machines_hear book k kd first now v took gave ok b law p h at =
    let c = came_of book first now v took gave law (some_outputs k kd first now ok b law.outputs) in
    let one = one_given law.taken h p (subst (λ (hs : List (List Item)). slice_get hs p ≡ Some h) law.took_is at) in
    subst (λ q. IsHistoryOf (in_at v q) h) (sym one.0) (record { list = c.list; end = c.end; is = one.1 ∙ c.is; as_seen = c.as_seen })
