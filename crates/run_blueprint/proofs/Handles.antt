-- The sources and the sinks of a blueprint at a moment of its run, by the files that were opened for them and closed behind it.
use Rattle.std.proofs.Common.{◌≡◌, ℕ, ◌+◌, suc, List, [], ◌∷◌, map, length, slice_get, refl, sym, ap, ◌∙◌, subst, arith}
use Rattle.std.specs.Prelude.{Some}
use Rattle.elem_core.specs.declared.item.Item.{Item}
use Rattle.port_core.specs.View.{View}
use Rattle.stream_model.specs.declared.kind.Kind.TheVariants as kind
use Rattle.stream_model.specs.declared.outcome.EndState.TheVariants.{WriteFault}
use Rattle.stream_model.specs.Graph.{Graph}
use Rattle.stream_model.specs.Graph as graph
use Rattle.stream_io.specs.State.{FolderState, SourceState, DrainState}
use Rattle.nodes.specs.Kinds.{IsFileSink}
use Rattle.nodes.specs.Nodes.{node_port_state, node_law, node_asking, node_moves}
use Rattle.nodes.specs.Source.{Lines, LinesLaw}
use Rattle.nodes.specs.Sink.{Sink, SinkLaw}
use Rattle.nodes.specs.declared.node.IslandNode.{IslandNode}
use Rattle.nodes.specs.declared.node.IslandNode.TheVariants as node
use Rattle.interpreter.specs.declared.parts.Seated.{Seated}
use Rattle.interpreter.specs.Parts.{AllBecome}
use Rattle.interpreter.specs.Island.{sinks_of}
use Rattle.run_laws.specs.Account.{Account, knows, took, gave}
use Rattle.run_laws.proofs.Nodes.{kept_as}
use Rattle.run_laws.specs.Made.{FirstOf}
use Rattle.run_laws.specs.Runs.{IsRun}
use Rattle.run_laws.specs.Sinks.{IsSinkAt}
use Rattle.run_laws.specs.Reads.{IsSourceAt}
use Rattle.stream_model.specs.declared.blueprint.Blueprint.{Blueprint}
use Rattle.stream_model.specs.declared.blueprint.Node as blue
use Rattle.materializer.specs.Files.{output_of, inputs_of_nodes, outputs_of_nodes, is_sink}
use Rattle.materializer.specs.Graphs.{Around, graph_node, graph_of, chains_of, around_of}
use Rattle.materializer.specs.Handed.{ReadsSourceFile, WritesFile}
use Rattle.materializer.specs.Seats.{AreSeats}
use Rattle.stream_io.specs.Names.{source_names, drain_names}
use Rattle.stream_io.specs.Opening.{AtStart, HoldsNone}
use Rattle.run_blueprint.specs.Opening.{Opens}
use Rattle.run_blueprint.specs.Drawing.{IsSource}
use Rattle.island_runs.specs.Leaving.{Moment}
use Rattle.run_blueprint.specs.Stands.{SinkStand, sink_places}
use Rattle.run_blueprint.proofs.Places.{all_at, mapped_at, place_one}
use Rattle.run_blueprint.proofs.Profiles.{some_one, stand_in, sinks_filtered, Profile, node_profile, stands_along, StandsAt, writes_file, never_faults, writing_kind}
use Rattle.stream_model.specs.Linear.{Book}

-- node k is a sink into that file
pub record IsSinkInto (nodes : List blue.Node) (k : ℕ) (file : List ℕ) : Type 0 where
  pub node : blue.Node
  pub at : slice_get nodes k ≡ Some node
  pub file_is : output_of node.kind ≡ Some file

-- ---- the laws that the crates below give

module _ {S D : Type 0} (L H B : Type 0) (sources : S → SourceState) (drains : D → DrainState) (book : Book) where
  abbrev pub SourcesLaw : Type 0
  SourcesLaw = (around : Around) (nodes : List blue.Node) (ss : List S) (ds : List D) (places : List (Seated S D L H B)) (firsts : List (IslandNode S D L H B)) → AreSeats around 0 nodes ss ds places → AllBecome places firsts
      → (k : ℕ) (n : blue.Node) (name : List ℕ) → slice_get nodes k ≡ Some n → n.kind ≡ kind.Lines name → ReadsSourceFile (inputs_of_nodes nodes) ss firsts k name

  abbrev pub DrainsLaw : Type 0
  DrainsLaw = (around : Around) (nodes : List blue.Node) (ss : List S) (ds : List D) (places : List (Seated S D L H B)) (firsts : List (IslandNode S D L H B)) → AreSeats around 0 nodes ss ds places → AllBecome places firsts
      → (k : ℕ) (n : blue.Node) (name : List ℕ) → slice_get nodes k ≡ Some n → output_of n.kind ≡ Some name → WritesFile (outputs_of_nodes nodes) ds firsts k name

  abbrev pub SourceThere : Type 0
  SourceThere = (g : Graph) (a : Account (IslandNode S D L H B)) → IsRun sources drains book g a
      → (k : ℕ) (n : graph.Node) (name : List ℕ) → slice_get g.nodes k ≡ Some n → n.kind ≡ kind.Lines name → (first : Lines S) × ((now : Lines S) × IsSourceAt a k first now)

  abbrev pub SinkThere : Type 0
  SinkThere = (g : Graph) (a : Account (IslandNode S D L H B)) → IsRun sources drains book g a
      → (k : ℕ) (n : graph.Node) → slice_get g.nodes k ≡ Some n → IsFileSink n.kind → (first : Sink D) × ((now : Sink D) × IsSinkAt a k first now)

  pub record HandleLaws : Type 0 where
    pub reads_law : SourcesLaw
    pub writes_law : DrainsLaw
    pub source_there : SourceThere
    pub sink_there : SinkThere

pub reading_same : {S D L H B : Type 0} (a b : Lines S) (x : IslandNode S D L H B) → x ≡ node.Reading a → x ≡ node.Reading b → a ≡ b
reading_same a b x e f = cc

pub writing_same : {S D L H B : Type 0} (a b : Sink D) (x : IslandNode S D L H B) → x ≡ node.Writing a → x ≡ node.Writing b → a ≡ b
writing_same a b x e f = cc

-- ---- there are as many places as nodes, and as many nodes as places

pub seats_many : {S D L H B : Type 0} (around : Around) (k : ℕ) (ns : List blue.Node) (ss : List S) (ds : List D) (ps : List (Seated S D L H B)) → AreSeats around k ns ss ds ps → length ns ≡ length ps
seats_many around k [] ss ds [] h = refl
seats_many around k [] ss ds (p ∷ ps) h = absurd h
seats_many around k (n ∷ ns) ss ds [] h = absurd h
seats_many around k (n ∷ ns) ss ds (p ∷ ps) h = ap suc (seats_many around (k + 1) ns _ _ ps h.1.1)

pub become_many : {S D L H B : Type 0} (ps : List (Seated S D L H B)) (xs : List (IslandNode S D L H B)) → AllBecome ps xs → length ps ≡ length xs
become_many [] [] h = refl
become_many [] (x ∷ xs) h = absurd h
become_many (p ∷ ps) [] h = absurd h
become_many (p ∷ ps) (x ∷ xs) h = ap suc (become_many ps xs h.1)

-- ---- the handles of a run

module _ {S D L H B : Type 0} (sources : S → SourceState) (drains : D → DrainState) (book : Book) (laws : HandleLaws L H B sources drains book) (b : Blueprint) (ss : List S) (ds : List D) (left : Account (IslandNode S D L H B)) (last : List (IslandNode S D L H B)) (l : Moment sources drains book b ss ds left last)
    (old mid : FolderState) {others : List (List ℕ)} (opens : Opens old mid (inputs_of_nodes b.nodes.items) (outputs_of_nodes b.nodes.items) others (map sources ss) (map drains ds)) where
  abbrev pub nodes : List blue.Node
  nodes = b.nodes.items

  -- there are as many nodes as the blueprint has
  pub as_many : length nodes ≡ length last
  as_many = seats_many (around_of b) 0 nodes ss ds l.places l.seats ∙ become_many l.places l.firsts l.become ∙ sym l.as_many

  -- node k, as it was handed in: as the blueprint names it; and its law
  pub record NodeFacts (k : ℕ) (n : blue.Node) (x : IslandNode S D L H B) : Type 0 where
    pub first : IslandNode S D L H B
    pub made : FirstOf sources (chains_of b) k (graph_node b.wires.items n) first
    pub knew : View
    pub came : List (List Item)
    pub went : List (List Item)
    pub law : node_law sources drains book first x knew came went

  pub node_facts : (k : ℕ) (n : blue.Node) (x : IslandNode S D L H B) → slice_get nodes k ≡ Some n → slice_get last k ≡ Some x → NodeFacts k n x
  node_facts k n x at here =
      let there : slice_get (graph_of b).nodes k ≡ Some (graph_node b.wires.items n) = mapped_at (graph_node b.wires.items) nodes k n at in
      let m = l.run.keeps.each_node k (graph_node b.wires.items n) there in
      let same : m.now ≡ x = some_one m.now x (sym m.now_at ∙ l.node_at k ∙ here) in
      record {
        first = m.first;
        made = l.run.made k (graph_node b.wires.items n) m.first there m.first_at;
        knew = knows (graph_of b) left k (graph_node b.wires.items n);
        came = took (graph_of b) left k (graph_node b.wires.items n);
        went = gave (graph_of b) left k (graph_node b.wires.items n);
        law = subst (λ (y : IslandNode S D L H B). node_law sources drains book m.first y (knows (graph_of b) left k (graph_node b.wires.items n)) (took (graph_of b) left k (graph_node b.wires.items n)) (gave (graph_of b) left k (graph_node b.wires.items n))) same m.law_holds;
      }

  -- a source, as it was handed in and now
  pub record SourceFacts (k : ℕ) (file : List ℕ) : Type 0 where
    pub first : Lines S
    pub now : Lines S
    pub there : IsSourceAt left k first now
    pub at : slice_get last k ≡ Some (node.Reading now)
    pub start : AtStart old (sources first.reader.source)
    pub first_named : (sources first.reader.source).name ≡ file
    pub knew : View
    pub came : List (List Item)
    pub went : List (List Item)
    pub law : LinesLaw sources first now knew came went

  pub source_facts : (k : ℕ) (file : List ℕ) → IsSource nodes k file → SourceFacts k file
  source_facts k file is =
      let in_graph : slice_get (graph_of b).nodes k ≡ Some (graph_node b.wires.items is.node) = mapped_at (graph_node b.wires.items) nodes k is.node is.at in
      let there = laws.source_there (graph_of b) left l.run k (graph_node b.wires.items is.node) file in_graph is.kind_is in
      let handed = laws.reads_law (around_of b) nodes ss ds l.places l.firsts l.seats l.become k is.node file is.at is.kind_is in
      let first_at : left.firsts k ≡ Some (node.Reading handed.first) = l.first_at k ∙ handed.at in
      let last_at : left.nodes k ≡ Some (node.Reading there.1.0) = there.1.1.at_last in
      let kept = kept_as node_port_state (node_law sources drains book) node_asking node_moves (graph_of b) left l.run.keeps k (graph_node b.wires.items is.node) (node.Reading handed.first) (node.Reading there.1.0) in_graph first_at last_at in
      let state : slice_get (map sources ss) handed.place ≡ Some (sources handed.first.reader.source) = mapped_at sources ss handed.place handed.first.reader.source handed.source in
      let called : slice_get (source_names (map sources ss)) handed.place ≡ Some (sources handed.first.reader.source).name = mapped_at (λ (i : SourceState). i.name) (map sources ss) handed.place (sources handed.first.reader.source) state in
      let filed : slice_get (inputs_of_nodes nodes) handed.place ≡ Some (sources handed.first.reader.source).name = subst (λ (x : List (List ℕ)). slice_get x handed.place ≡ Some (sources handed.first.reader.source).name) opens.input_names called in
      record {
        first = handed.first;
        now = there.1.0;
        there = record { at_first = first_at; at_last = last_at };
        at = sym (l.node_at k) ∙ last_at;
        start = all_at (AtStart old) (map sources ss) handed.place (sources handed.first.reader.source) opens.sources state;
        first_named = place_one (inputs_of_nodes nodes) handed.place (sources handed.first.reader.source).name file filed handed.file;
        knew = knows (graph_of b) left k (graph_node b.wires.items is.node);
        came = took (graph_of b) left k (graph_node b.wires.items is.node);
        went = gave (graph_of b) left k (graph_node b.wires.items is.node);
        law = kept.law_holds;
      }

  -- the same of a sink
  pub record SinkFacts (k : ℕ) (file : List ℕ) : Type 0 where
    pub first : Sink D
    pub now : Sink D
    pub there : IsSinkAt left k first now
    pub at : slice_get last k ≡ Some (node.Writing now)
    pub start : HoldsNone mid (drains first.drain)
    pub first_named : (drains first.drain).name ≡ file
    pub knew : View
    pub came : List (List Item)
    pub went : List (List Item)
    pub law : SinkLaw drains first now knew came went
    pub place : now.node ≡ k

  pub sink_facts : (k : ℕ) (file : List ℕ) → IsSinkInto nodes k file → SinkFacts k file
  sink_facts k file is =
      let in_graph : slice_get (graph_of b).nodes k ≡ Some (graph_node b.wires.items is.node) = mapped_at (graph_node b.wires.items) nodes k is.node is.at in
      let there = laws.sink_there (graph_of b) left l.run k (graph_node b.wires.items is.node) in_graph (writes_file is.node.kind file is.file_is) in
      let handed = laws.writes_law (around_of b) nodes ss ds l.places l.firsts l.seats l.become k is.node file is.at is.file_is in
      let first_at : left.firsts k ≡ Some (node.Writing handed.first) = l.first_at k ∙ handed.at in
      let last_at : left.nodes k ≡ Some (node.Writing there.1.0) = there.1.1.at_last in
      let kept = kept_as node_port_state (node_law sources drains book) node_asking node_moves (graph_of b) left l.run.keeps k (graph_node b.wires.items is.node) (node.Writing handed.first) (node.Writing there.1.0) in_graph first_at last_at in
      let law : SinkLaw drains handed.first there.1.0 (knows (graph_of b) left k (graph_node b.wires.items is.node)) (took (graph_of b) left k (graph_node b.wires.items is.node)) (gave (graph_of b) left k (graph_node b.wires.items is.node)) = kept.law_holds in
      let state : slice_get (map drains ds) handed.place ≡ Some (drains handed.first.drain) = mapped_at drains ds handed.place handed.first.drain handed.drain in
      let called : slice_get (drain_names (map drains ds)) handed.place ≡ Some (drains handed.first.drain).name = mapped_at (λ (o : DrainState). o.name) (map drains ds) handed.place (drains handed.first.drain) state in
      let filed : slice_get (outputs_of_nodes nodes) handed.place ≡ Some (drains handed.first.drain).name = subst (λ (x : List (List ℕ)). slice_get x handed.place ≡ Some (drains handed.first.drain).name) opens.output_names called in
      record {
        first = handed.first;
        now = there.1.0;
        there = record { at_first = first_at; at_last = last_at };
        at = sym (l.node_at k) ∙ last_at;
        start = all_at (HoldsNone mid) (map drains ds) handed.place (drains handed.first.drain) opens.drains state;
        first_named = place_one (outputs_of_nodes nodes) handed.place (drains handed.first.drain).name file filed handed.file;
        knew = knows (graph_of b) left k (graph_node b.wires.items is.node);
        came = took (graph_of b) left k (graph_node b.wires.items is.node);
        went = gave (graph_of b) left k (graph_node b.wires.items is.node);
        law = law;
        place = law.node ∙ handed.node;
      }

  -- what each node leaves
  pub profiles : (k : ℕ) (n : blue.Node) (x : IslandNode S D L H B) → slice_get nodes k ≡ Some n → slice_get last k ≡ Some x → Profile sources drains k n x
  profiles k n x at here =
      let f = node_facts k n x at here in
      node_profile sources drains book k n b.wires.items (chains_of b) f.first x f.knew f.came f.went f.made f.law
      (λ name y shape is.
      let facts = source_facts k name (record { node = n; at = at; kind_is = shape }) in
      let same : facts.now ≡ y = reading_same facts.now y x (place_one last k x (node.Reading facts.now) here facts.at) is in
      ap (λ (z : Lines S). (sources z.reader.source).name) (sym same) ∙ facts.law.name ∙ facts.first_named)
      (λ name y shape is.
      let facts = sink_facts k name (record { node = n; at = at; file_is = shape }) in
      let same : facts.now ≡ y = writing_same facts.now y x (place_one last k x (node.Writing facts.now) here facts.at) is in
      ap (λ (z : Sink D). (drains z.drain).name) (sym same) ∙ facts.law.name ∙ facts.first_named)

  -- a node that stands at a failed write is a sink with a file
  pub fault_kind : (k : ℕ) (n : blue.Node) (x : IslandNode S D L H B) (s : SinkStand) → slice_get nodes k ≡ Some n → slice_get last k ≡ Some x → stand_in x ≡ Some s → s.2 ≡ WriteFault → (name : List ℕ) × (output_of n.kind ≡ Some name)
  fault_kind k n x s at here stands fault =
      let f = node_facts k n x at here in
      let y = never_faults sources drains book k n f.first x s f.knew f.came f.went f.law stands fault in
      writing_kind sources drains book k n b.wires.items (chains_of b) f.first x y.0 f.knew f.came f.went f.made f.law y.1

  -- and so is one that leaves a drain
  pub writer_kind : (k : ℕ) (n : blue.Node) (x : IslandNode S D L H B) (y : Sink D) → slice_get nodes k ≡ Some n → slice_get last k ≡ Some x → x ≡ node.Writing y → (name : List ℕ) × (output_of n.kind ≡ Some name)
  writer_kind k n x y at here is =
      let f = node_facts k n x at here in
      writing_kind sources drains book k n b.wires.items (chains_of b) f.first x y f.knew f.came f.went f.made f.law is

  -- the sinks stand in the order of nodes
  pub stands_are : map (λ (s : SinkStand). s.0) (sinks_of last) ≡ sink_places 0 nodes
  stands_are =
      ap (map (λ (s : SinkStand). s.0)) (sinks_filtered last)
      ∙ stands_along 0 nodes last as_many (λ i n x p q. subst (λ k. StandsAt k (is_sink n) (stand_in x)) (omega arith) (profiles i n x p q).stand)
