-- What a node of any kind keeps in a run, by its law. A kind more is one line more.
use Rattle.std.proofs.Common.{◌≡◌, ℕ, List, length}
use Rattle.elem_core.specs.declared.item.Item.{Item}
use Rattle.port_core.specs.View.{View}
use Rattle.stream_model.specs.Graph.{Graph}
use Rattle.stream_model.specs.Graph as graph
use Rattle.stream_model.specs.Node.{World}
use Rattle.stream_model.specs.Composed.{inputs_of}
use Rattle.stream_io.specs.State.{SourceState, DrainState}
use Rattle.nodes.specs.declared.node.IslandNode.{IslandNode}
use Rattle.nodes.specs.declared.node.IslandNode.TheVariants.{Reading, Making, Linear, State, Sub, FanIn, FanOut, Custom, Writing, Ignoring, Entering, Leaving}
use Rattle.nodes.specs.Nodes.{node_law}
use Rattle.run_laws.specs.KindLaws.{RunLaws}
use Rattle.run_laws.proofs.InRuns.{in_laws}
use Rattle.run_laws.proofs.OutStages.{out_laws}
use Rattle.run_laws.specs.Made.{FirstOf}
use Rattle.run_laws.specs.Telling.{TellsNode, TellsMoves}
use Rattle.run_laws.proofs.Customs.{custom_laws}
use Rattle.run_laws.proofs.Readings.{reading_laws}
use Rattle.run_laws.proofs.Stages.{stage_laws}
use Rattle.run_laws.proofs.States.{state_laws}
use Rattle.run_laws.proofs.LedSubs.{subs_laws}
use Rattle.run_laws.proofs.Makings.{making_laws}
use Rattle.run_laws.proofs.Writings.{writing_laws, ignoring_laws}

module _ {S D L H B : Type 0} (sources : S → SourceState) (drains : D → DrainState) (g : Graph) (w : World) (k : ℕ) (n : graph.Node) where
  pub node_laws : (first now : IslandNode S D L H B) (v : View) (took gave : List (List Item)) → FirstOf sources g.chains k n first → TellsNode sources w n first now × TellsMoves w k now → length took ≡ inputs_of n → node_law sources drains w.book first now v took gave → RunLaws g w k n took gave
  node_laws (Reading first) (Reading now) v took gave made tells many law = reading_laws sources first now v took gave law g w k n made tells.0
  node_laws (Making first) (Making now) v took gave made tells many law = making_laws g w k n first now v took gave made law
  node_laws (Linear first) (Linear now) v took gave made tells many law = stage_laws g w k n first now v took gave made law
  node_laws (State first) (State now) v took gave made tells many law = state_laws g w k n first now v took gave made tells.1 law
  node_laws (Sub first) (Sub now) v took gave made tells many law = subs_laws g w k n first now v took gave made tells.1 law
  node_laws (FanIn first) (FanIn now) v took gave made tells many law = in_laws g w k n first now v took gave made.begins many tells.1 law
  node_laws (FanOut first) (FanOut now) v took gave made tells many law = out_laws g w k n first now v took gave made.begins tells.1 law
  node_laws (Custom first) (Custom now) v took gave made tells many law = custom_laws g w k n first now v took gave made tells.0 law
  node_laws (Writing first) (Writing now) v took gave made tells many law = writing_laws g w k n drains first now v took gave made law
  node_laws (Ignoring first) (Ignoring now) v took gave made tells many law = ignoring_laws g w k n first now v took gave made law
  node_laws (Entering first) now v took gave made tells many law = absurd made
  node_laws (Leaving first) now v took gave made tells many law = absurd made
  node_laws first now v took gave made tells many law = absurd law
