-- What nodes have of the plugs and the custom stages that were handed in, one after another.
use Rattle.std.proofs.Common.{◌≡◌, ℕ, ◌<◌, true, List, [], ◌∷◌, length, refl, sym, ap, ◌∙◌, subst, arith, Option, Some, None}
use Rattle.stream_model.specs.Known.{head_shape}
use Rattle.stream_model.specs.Linear.{Book}
use Rattle.stream_model.specs.declared.kind.Kind.{Kind}
use Rattle.stream_model.specs.declared.kind.Kind.TheVariants as kind
use Rattle.stream_model.specs.declared.blueprint.Node.{Node}
use Rattle.stream_model.specs.declared.blueprint.WireDecl.{WireDecl}
use Rattle.stage_switch.specs.declared.end.SwitchEnd.{SwitchEnd}
use Rattle.blue_names.specs.CustomPorts.{custom_of, head_fits}
use Rattle.blue_names.specs.Names.{plug_of}
use Rattle.graph_stage.specs.declared.custom.Custom.{Custom}
use Rattle.graph_stage.specs.Laws.{CustomFresh}
use Rattle.graph_stage.specs.Making.{unpulled_view}
use Rattle.graph_stage.specs.State.{CustomState}
use Rattle.graph_stage.specs.Told.{ToldList}
use Rattle.interpreter.specs.declared.parts.Work.TheVariants as work
use Rattle.plug_logic.specs.declared.plug.Plug.{Plug}
use Rattle.plug_logic.specs.Gives.{Gives}
use Rattle.materializer.specs.Board.{switch_of, IsHandedAt}
use Rattle.materializer.specs.Files.{source_file, output_of}
use Rattle.materializer.specs.Graphs.{Around}
use Rattle.materializer.specs.HandedPlugs.{GivesAsListed}
use Rattle.materializer.specs.HandedCustoms.{TellsAsListed, IsGuest, AreGuests, HasPorts, HaveUsedPorts}
use Rattle.materializer.specs.Planned.{PlansWork}
use Rattle.materializer.specs.Ports.{used_ports}
use Rattle.materializer.specs.Seats.{StagesCustom}
use Rattle.materializer.specs.declared.guest.Guest.{Guest}
use Rattle.materializer.specs.declared.guest.Guest.TheVariants as guest
use Rattle.materializer.proofs.Switches.{kinds_of}

none_some : {A : Type 0} {x : A} → None ≡ Some x → ⊥
none_some e = absurd cc

-- only a plug names one
pub names_plug : (k : Kind) (name : List ℕ) → plug_of k ≡ Some name → k ≡ kind.Plug name
names_plug (kind.Plug q) name e = let same : q ≡ name = cc in ap kind.Plug same
names_plug k name e = absurd (none_some e)

-- only a custom stage names one
names_custom : (k : Kind) (name : List ℕ) → custom_of k ≡ Some name → k ≡ kind.Custom name
names_custom (kind.Custom q) name e = let same : q ≡ name = cc in ap kind.Custom same
names_custom k name e = absurd (none_some e)

-- neither is at a switch
pub no_switch : (k : Kind) (e : Option SwitchEnd) → (plug_of k ≡ None → custom_of k ≡ None → ⊥) → IsHandedAt (switch_of k) e → e ≡ None
no_switch (kind.Plug q) e h at = at
no_switch (kind.Custom q) e h at = at
no_switch k e h at = absurd (h refl refl)

module _ {L : Type 0} (H : Type 0) (gives : L → Gives) (tells : H → ToldList) (book : Book) where
  -- where none is handed a node names neither
  no_guest_of : (o c : Option (List ℕ)) → IsGuest gives tells book o c None → (o ≡ None) × (c ≡ None)
  no_guest_of None None h = (refl, refl)
  no_guest_of None (Some name) h = absurd h
  no_guest_of (Some name) c h = absurd h

  pub no_guest : (k : Kind) → IsGuest gives tells book (plug_of k) (custom_of k) None → (plug_of k ≡ None) × (custom_of k ≡ None)
  no_guest k h = no_guest_of (plug_of k) (custom_of k) h

  -- where a plug is handed it is of the name that the node names, and gives what the book lists of it
  plug_is_of : (o c : Option (List ℕ)) (p : Plug L) → IsGuest gives tells book o c (Some (guest.Plug p)) → (o ≡ Some p.head.name) × GivesAsListed gives book p
  plug_is_of None None p h = absurd (none_some (sym h))
  plug_is_of None (Some name) p h = absurd h
  plug_is_of (Some name) c p h = (ap Some (sym h.0), h.1)

  pub plug_is : (k : Kind) (p : Plug L) → IsGuest gives tells book (plug_of k) (custom_of k) (Some (guest.Plug p)) → (k ≡ kind.Plug p.head.name) × GivesAsListed gives book p
  plug_is k p h = let is = plug_is_of (plug_of k) (custom_of k) p h in (names_plug k p.head.name is.0, is.1)

module _ {L H : Type 0} (gives : L → Gives) (tells : H → ToldList) (book : Book) where
  -- where a custom stage is handed it is of the name that the node names, its head fits, and it tells what the book has of it
  custom_is_of : (o c : Option (List ℕ)) (d : Custom H) → IsGuest gives tells book o c (Some (guest.Custom d)) → (c ≡ Some d.head.name) × (head_fits (Some (head_shape d.head)) ≡ true) × TellsAsListed tells book d
  custom_is_of None None d h = absurd (none_some (sym h))
  custom_is_of None (Some name) d h = (ap Some (sym h.named), h.fits, h.told)
  custom_is_of (Some name) c d h = absurd h

  pub custom_is : (k : Kind) (d : Custom H) → IsGuest gives tells book (plug_of k) (custom_of k) (Some (guest.Custom d)) → (k ≡ kind.Custom d.head.name) × (head_fits (Some (head_shape d.head)) ≡ true) × TellsAsListed tells book d
  custom_is k d h = let is = custom_is_of (plug_of k) (custom_of k) d h in (names_custom k d.head.name is.0, is.1, is.2)

  -- one that is handed something is at no switch
  names_one_of : (o c : Option (List ℕ)) (x : Guest L H) → IsGuest gives tells book o c (Some x) → o ≡ None → c ≡ None → ⊥
  names_one_of None None x h e f = none_some (sym h)
  names_one_of None (Some name) x h e f = none_some (sym f)
  names_one_of (Some name) c x h e f = none_some (sym e)

  pub guest_sits_nowhere : (k : Kind) (x : Guest L H) (e : Option SwitchEnd) → IsGuest gives tells book (plug_of k) (custom_of k) (Some x) → IsHandedAt (switch_of k) e → e ≡ None
  guest_sits_nowhere k x e h at = no_switch k e (names_one_of (plug_of k) (custom_of k) x h) at

  -- of the nodes that are left
  some_left : (ks : List Kind) (k : Kind) (es : List (Option (Guest L H))) → AreGuests gives tells book (k ∷ ks) es → 0 < length es
  some_left ks k [] h = absurd h
  some_left ks k (e ∷ es) h = omega arith

  pub guests_left : (n : Node) (old rest : List Node) (es : List (Option (Guest L H))) (m : ℕ) → old ≡ n ∷ rest → AreGuests gives tells book (kinds_of old) es → m ≡ length es → 0 < m
  guests_left n old rest es m e h size = let some = some_left (kinds_of rest) n.kind es (subst (λ l. AreGuests gives tells book (kinds_of l) es) e h) in omega (arith, some, size)

  pub guest_next : (n : Node) (old rest : List Node) (es more : List (Option (Guest L H))) (x : Option (Guest L H)) → old ≡ n ∷ rest → es ≡ x ∷ more → AreGuests gives tells book (kinds_of old) es → IsGuest gives tells book (plug_of n.kind) (custom_of n.kind) x × AreGuests gives tells book (kinds_of rest) more
  guest_next n old rest es more x e f h = subst (λ l. AreGuests gives tells book (n.kind ∷ kinds_of rest) l) f (subst (λ l. AreGuests gives tells book (kinds_of l) es) e h)

  pub no_guests : (rest : List Node) (es : List (Option (Guest L H))) → rest ≡ [] → AreGuests gives tells book (kinds_of rest) es → es ≡ []
  no_guests rest es e h = none es (subst (λ l. AreGuests gives tells book (kinds_of l) es) e h)
    where
      none : (fs : List (Option (Guest L H))) → AreGuests gives tells book [] fs → fs ≡ []
      none [] k = refl
      none (f ∷ fs) k = absurd k

  -- its ports, and those of the others that are left
  pub ports_next : (wires : List WireDecl) (n : Node) (old rest : List Node) (es more : List (Option (Guest L H))) (x : Option (Guest L H)) → old ≡ n ∷ rest → es ≡ x ∷ more → HaveUsedPorts wires old es → HasPorts (used_ports wires n.name) x × HaveUsedPorts wires rest more
  ports_next wires n old rest es more x e f h = subst (λ l. HaveUsedPorts wires (n ∷ rest) l) f (subst (λ l. HaveUsedPorts wires l es) e h)

-- ---- a custom stage at its place

-- a new one of the name that the node has stands there with its ports
pub stages_custom : (k : ℕ) (q : Kind) (name : List ℕ) (x : CustomState) (ins outs inputs outputs : ℕ) → q ≡ kind.Custom name → x.name ≡ name → x.node ≡ k → CustomFresh x (unpulled_view ins outs) → inputs ≡ ins → outputs ≡ outs
    → StagesCustom k q x inputs outputs
stages_custom k q name x ins outs inputs outputs is named node fresh i o = record {
  is_custom = (name, is);
  named = named;
  node_is = node;
  fresh = subst (λ (m : ℕ). CustomFresh x (unpulled_view inputs m)) (sym o) (subst (λ (m : ℕ). CustomFresh x (unpulled_view m outs)) (sym i) fresh);
}

-- where the wires use just those, it is what is to stand there
pub plans_custom : {S D L H B : Type 0} (around : Around) (k : ℕ) (n : Node) (name : List ℕ) (x : CustomState) (ins outs inputs outputs : ℕ) → n.kind ≡ kind.Custom name → StagesCustom k n.kind x inputs outputs
    → used_ports around.wires n.name ≡ (ins, outs) → inputs ≡ ins → outputs ≡ outs → PlansWork {S = S} {D = D} {L = L} {H = H} {B = B} around k n (work.Custom x inputs outputs)
plans_custom around k n name x ins outs inputs outputs is stands used i o = record {
  work = stands;
  ports = subst (λ (m : ℕ). used_ports around.wires n.name ≡ (inputs, m)) (sym o) (subst (λ (m : ℕ). used_ports around.wires n.name ≡ (m, outs)) (sym i) used);
  no_input = ap (λ (q : Kind). source_file q) is;
  no_output = ap (λ (q : Kind). output_of q) is;
}
