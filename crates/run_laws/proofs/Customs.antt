-- What a custom stage gave agrees with what the world tells of it, or where it tells a list with what the plug of that list gives.
use Rattle.std.specs.Prelude.{not, slice_get, replicate, Some}
use Rattle.std.proofs.Common.{◌≡◌, ℕ, zero, suc, inl, Bool, true, false, List, [], ◌∷◌, length, refl, sym, ap, ◌∙◌, subst, arith}
use Rattle.elem_core.specs.Tree.{Tree}
use Rattle.elem_core.specs.declared.item.Item.{Item}
use Rattle.elem_core.proofs.Prefixes.{prefix_refl}
use Rattle.port_core.specs.View.{View}
use Rattle.port_core.specs.declared.view.OutView.TheVariants.{Unpulled}
use Rattle.stream_model.specs.declared.kind.Kind.{Kind}
use Rattle.stream_model.specs.declared.kind.Kind.TheVariants as kind
use Rattle.stream_model.specs.Outlook.{Outlook, End, unended, ended, failed, Agrees}
use Rattle.stream_model.specs.Graph.{Graph}
use Rattle.stream_model.specs.Graph as graph
use Rattle.stream_model.specs.Listed.{tells_none}
use Rattle.stream_model.specs.Node.{World, custom_by, node_outlook}
use Rattle.stream_model.specs.Fits.{moves_fit}
use Rattle.stage_core.specs.Held.{told}
use Rattle.graph_stage.specs.declared.sight.OutSight.{OutSight}
use Rattle.graph_stage.specs.Plugged.{as_plug}
use Rattle.graph_stage.specs.State.{CustomState, done_gave}
use Rattle.graph_stage.specs.Ports.{SeesOuts}
use Rattle.graph_stage.specs.Laws.{CustomLaw}
use Rattle.graph_stage.proofs.Done.{gave_by_done}
use Rattle.graph_stage.proofs.Passing.{outputs_pass}
use Rattle.graph_stage.proofs.Pushes.{stays}
use Rattle.run_laws.specs.Items.{AllMayPass, AgreesWith, passed_so}
use Rattle.run_laws.specs.KindLaws.{RunLaws}
use Rattle.run_laws.specs.Made.{FirstCustom}
use Rattle.run_laws.specs.Telling.{TellsGave, given_at}
use Rattle.run_laws.proofs.Histories.{list_of_told, standing_told}
use Rattle.run_laws.proofs.Stages.{stage_laws}
use Rattle.run_laws.proofs.ToldCustoms.{told_world, plug_node, told_first, told_law}

seen_outs : (n : ℕ) (ys : List OutSight) → SeesOuts (replicate n Unpulled) ys → length ys ≡ n
seen_outs zero [] s = refl
seen_outs zero (y ∷ ys) s = absurd s
seen_outs (suc n) [] s = absurd s
seen_outs (suc n) (y ∷ ys) s = let r = seen_outs n ys s.1 in omega (arith, r)

-- a list that stands so agrees with what has passed
so_agrees : (l : List Tree) (e : End) → Agrees (passed_so (told l e)) l e
so_agrees l unended = rw (list_of_told l unended) (prefix_refl l)
so_agrees l ended = rw (list_of_told l ended, standing_told l ended) (refl, refl)
so_agrees l (failed c) = rw (list_of_told l (failed c), standing_told l (failed c)) (prefix_refl l, inl (refl, omega arith))

module _ (g : Graph) (w : World) (k : ℕ) (n : graph.Node) (first now : CustomState) (v : View) (took gave : List (List Item)) (made : FirstCustom k n first) (tells : TellsGave w n now) (law : CustomLaw w.book first now v took gave) where
  pub node_is : now.node ≡ k
  node_is = (stays first now v took gave law).0 ∙ made.node

  pub gave_is : gave ≡ given_at n now
  gave_is = gave_by_done first now v took gave law ∙ ap (λ (m : ℕ). done_gave now.done (replicate m [])) (seen_outs n.head.1 first.sight.outs made.fresh.sees.outs)

  given_agrees : tells_none w.book n.kind ≡ true → (p : ℕ) (h : List Item) → slice_get gave p ≡ Some h → AgreesWith (w.given k p) h
  given_agrees untold p h at =
      let passed = (outputs_pass first now v took gave law).1 p h at in
      let told_so : w.given now.node p ≡ passed_so h = tells.given untold p h (ap (λ (z : List (List Item)). slice_get z p) (sym gave_is) ∙ at) in
      let same : w.given k p ≡ passed_so h = ap (λ (m : ℕ). w.given m p) (sym node_is) ∙ told_so in
      let agrees : Agrees (passed_so h) passed.list passed.end = subst (λ (z : List Item). Agrees (passed_so z) passed.list passed.end) (sym passed.is) (so_agrees passed.list passed.end) in
      record { list = passed.list; end = passed.end; is = passed.is; agrees = subst (λ (o : Outlook). Agrees o passed.list passed.end) (sym same) agrees }

  outlook_is : (b : Bool) → w.book.tells made.name ≡ b → (os : List Outlook) (p : ℕ) → node_outlook g w k n.kind n.decider os p ≡ custom_by g w k made.name n.decider os p b
  outlook_is b is os p =
      ap (λ (x : Kind). node_outlook g w k x n.decider os p) made.kind_is ∙ ap (λ (c : Bool). custom_by g w k made.name n.decider os p c) is

  gives_by : (b : Bool) → w.book.tells made.name ≡ b → (os : List Outlook) → AllMayPass os took → (p : ℕ) (h : List Item) → slice_get gave p ≡ Some h
      → AgreesWith (node_outlook g w k n.kind n.decider os p) h
  gives_by false is os may p h at =
      subst (λ (o : Outlook). AgreesWith o h) (sym (outlook_is false is os p)) (given_agrees (ap (tells_none w.book) made.kind_is ∙ ap not is) p h at)
  gives_by true is os may p h at =
      let first_plug = told_first w.book k n first now v took gave made is law in
      let law_plug = told_law w.book k n first now v took gave made is law in
      let laws = stage_laws g (told_world w) k (plug_node n made.name) (as_plug n.decider first) (as_plug n.decider now) v took gave first_plug law_plug in
      subst (λ (o : Outlook). AgreesWith o h) (sym (outlook_is true is os p)) (laws.gives os may p h at)

  pub custom_laws : RunLaws g w k n took gave
  custom_laws = record { gives = gives_by (w.book.tells made.name) refl; fits = λ os may. ap (λ (x : Kind). moves_fit g w k x os) made.kind_is }
