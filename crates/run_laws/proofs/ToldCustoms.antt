-- A custom stage that tells a list is the linear stage of a plug that gives it.
use Rattle.std.specs.Prelude.{not}
use Rattle.std.proofs.Common.{◌≡◌, ℕ, Bool, true, false, List, refl, sym, ap, ◌∙◌, subst}
use Rattle.elem_core.specs.declared.item.Item.{Item}
use Rattle.graph_stage.proofs.Telling.{IsPlug, is_plug}
use Rattle.graph_stage.specs.Laws.{CustomLaw}
use Rattle.graph_stage.specs.Plugged.{as_plug}
use Rattle.graph_stage.specs.State.{CustomState}
use Rattle.port_core.specs.View.{View}
use Rattle.stage_linear.specs.Handling.{LinearLaw, LinearPortState}
use Rattle.stage_linear.specs.States.{Begins, Logic}
use Rattle.stream_model.specs.declared.kind.Kind.TheVariants as kind
use Rattle.stream_model.specs.Graph as graph
use Rattle.stream_model.specs.Linear.{Book, told_book}
use Rattle.stream_model.specs.Listed.{tells_none}
use Rattle.stream_model.specs.Node.{World}
use Rattle.stream_io.specs.State.{SourceState, DrainState}
use Rattle.nodes.specs.declared.node.IslandNode.{IslandNode}
use Rattle.nodes.specs.declared.node.IslandNode.TheVariants.{Custom, Entering, Leaving}
use Rattle.nodes.specs.Nodes.{node_law}
use Rattle.run_laws.specs.Made.{FirstCustom, FirstLinear, FirstOf}

-- the world in which what the custom stages tell stands where the plugs do
abbrev pub told_world : World → World
told_world w = record w { book = told_book w.book }

-- the node, as one of the plug of this name
abbrev pub plug_node : graph.Node → List ℕ → graph.Node
plug_node n name = record n { kind = kind.Plug name }

module _ (b : Book) (k : ℕ) (n : graph.Node) (first now : CustomState) (v : View) (took gave : List (List Item)) (made : FirstCustom k n first) (tells : b.tells made.name ≡ true) (law : CustomLaw b first now v took gave) where
  plug : IsPlug b n.decider first now v took gave
  plug = is_plug b n.decider first now v took gave (ap (λ (l : List ℕ). b.tells l) made.named ∙ tells) law

  pub told_first : FirstLinear k (plug_node n made.name) (as_plug n.decider first)
  told_first = record {
    is_linear = tt;
    begins =
        subst (λ (i : ℕ). Begins i (kind.Plug made.name) n.decider (as_plug n.decider first)) made.node
        (subst (λ (l : List ℕ). Begins first.node (kind.Plug l) n.decider (as_plug n.decider first)) made.named plug.begins);
  }

  pub told_law : LinearLaw (told_book b) (as_plug n.decider first) (as_plug n.decider now) v took gave
  told_law = plug.law

  pub told_ports : LinearPortState (as_plug n.decider now) v
  told_ports = plug.stands

tells_it : (b : Bool) → not b ≡ false → b ≡ true
tells_it true e = refl
tells_it false e = absurd cc

-- a node of a run that is such a stage knows of its ports what the stage of a plug would
pub told_stands : {S D L H B : Type 0} (sources : S → SourceState) (drains : D → DrainState) (book : Book) (chains : List graph.Chain) (k : ℕ) (n : graph.Node) (first now : IslandNode S D L H B) (v : View) (took gave : List (List Item)) (x : CustomState)
    → now ≡ Custom x → FirstOf sources chains k n first → node_law sources drains book first now v took gave → tells_none book n.kind ≡ false → (l : Logic) × LinearPortState l v
told_stands {S} {D} {L} {H} {B} sources drains book chains k n first now v took gave x is made law tells = by_first first made (subst (λ (y : IslandNode S D L H B). node_law sources drains book first y v took gave) is law)
  where
    by_first : (f : IslandNode S D L H B) → FirstOf sources chains k n f → node_law sources drains book f (Custom x) v took gave → (l : Logic) × LinearPortState l v
    by_first (Custom f) m l = (as_plug n.decider x, told_ports book k n f x v took gave m (tells_it (book.tells m.name) (sym (ap (tells_none book) m.kind_is) ∙ tells)) l)
    by_first (Entering f) m l = absurd m
    by_first (Leaving f) m l = absurd m
    by_first f m l = absurd l
