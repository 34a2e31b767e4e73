-- A node that is a stage of another type tells of its law for a picture what that stage tells.
use Rattle.std.proofs.Common.{ℕ, List, refl}
use Rattle.elem_core.specs.declared.item.Item.{Item}
use Rattle.port_core.specs.View.{View}
use Rattle.stream_io.specs.State.{SourceState, DrainState}
use Rattle.stream_model.specs.Graph.{Graph}
use Rattle.stream_model.specs.Graph as graph
use Rattle.stream_model.specs.Node.{World}
use Rattle.stage_in.specs.declared.logic.InLogic.{InLogic}
use Rattle.stage_in.specs.Logics.{InAsking, InPortState, InLaw}
use Rattle.stage_in.specs.Moves.{in_moves}
use Rattle.stage_out.specs.declared.logic.OutLogic.{OutLogic}
use Rattle.stage_out.specs.OutLogics.{OutAsking, OutLaw}
use Rattle.stage_out.specs.OutLogics as out
use Rattle.stage_out.specs.Moves.{out_moves}
use Rattle.nodes.specs.declared.node.IslandNode.{IslandNode}
use Rattle.nodes.specs.declared.node.IslandNode.TheVariants.{FanIn, FanOut}
use Rattle.nodes.specs.Nodes.{node_port_state, node_law, node_asking, node_moves}
use Rattle.run_laws.specs.KindLaws.{PictureLawsBy}
use Rattle.run_laws.specs.Replayed.{Plans}
use Rattle.run_laws.specs.Ports.{InPort, OutPort}
use Rattle.run_laws.specs.Unmoved.{never_ends}
use Rattle.run_laws.proofs.FanStanding.{Stands, moments_of}
use Rattle.run_laws.specs.Picture.{sink_ended}

-- what each tells as it asks
in_tells : (a : InLogic) (v : View) → InAsking a v → InAsking a v
in_tells a v h = h

out_tells : (a : OutLogic) (v : View) → OutAsking a v → OutAsking a v
out_tells a v h = h

module _ {S D L H B : Type 0} (sources : S → SourceState) (drains : D → DrainState) (g : Graph) (w : World) (plans : Plans) (k : ℕ) (n : graph.Node) where
  abbrev Laws : IslandNode S D L H B → IslandNode S D L H B → List InPort → List OutPort → Type 0
  Laws first x is os = PictureLawsBy node_port_state (node_law sources drains w.book) node_asking node_moves sink_ended g w plans k n first x is os

  in_stands : (first : InLogic) (old : IslandNode S D L H B) (v : View) (took gave : List (List Item)) → node_port_state old v → node_law sources drains w.book (FanIn first) old v took gave
      → Stands node_port_state (node_law sources drains w.book) node_asking node_moves in_moves InPortState InLaw InAsking FanIn in_tells first old v took gave
  in_stands first (FanIn l) v took gave r law = record { stage = l; is = refl; port_state_holds = r; law_holds = law; asking_holds = λ a. a; moves_on = λ now on. on }
  in_stands first old v took gave r law = absurd law

  out_stands : (first : OutLogic) (old : IslandNode S D L H B) (v : View) (took gave : List (List Item)) → node_port_state old v → node_law sources drains w.book (FanOut first) old v took gave
      → Stands node_port_state (node_law sources drains w.book) node_asking node_moves out_moves out.port_state OutLaw OutAsking FanOut out_tells first old v took gave
  out_stands first (FanOut l) v took gave r law = record { stage = l; is = refl; port_state_holds = r; law_holds = law; asking_holds = λ a. a; moves_on = λ now on. on }
  out_stands first old v took gave r law = absurd law

  pub fan_in_picture : (first x : InLogic) (is : List InPort) (os : List OutPort) → PictureLawsBy InPortState InLaw InAsking in_moves never_ends g w plans k n first x is os → Laws (FanIn first) (FanIn x) is os
  fan_in_picture first x is os p = record {
    lawful = λ s so m. p.lawful s so (λ q some. moments_of node_port_state (node_law sources drains w.book) node_asking node_moves in_moves InPortState InLaw InAsking FanIn in_tells first (in_stands first) x is os q (m q some));
    rests = p.rests;
    matches = p.matches;
  }

  pub fan_out_picture : (first x : OutLogic) (is : List InPort) (os : List OutPort) → PictureLawsBy out.port_state OutLaw OutAsking out_moves never_ends g w plans k n first x is os → Laws (FanOut first) (FanOut x) is os
  fan_out_picture first x is os p = record {
    lawful = λ s so m. p.lawful s so (λ q some. moments_of node_port_state (node_law sources drains w.book) node_asking node_moves out_moves out.port_state OutLaw OutAsking FanOut out_tells first (out_stands first) x is os q (m q some));
    rests = p.rests;
    matches = p.matches;
  }
