-- How the wires and the sinks of a blueprint stand at the end of its run.
use Rattle.std.proofs.Common.{◌≡◌, ◌≢◌, ℕ, suc, ◌+◌, ◌<◌, ◌≤◌, Bool, true, false, List, [], ◌∷◌, map, length, slice_get, refl, sym, ap, ◌∙◌, subst, arith}
use Rattle.std.specs.Prelude.{IsTrue, Option, None, Some}
use Rattle.std.specs.List.{filter_map}
use Rattle.elem_core.specs.Items.{elements}
use Rattle.stream_model.specs.declared.kind.Kind.{Kind}
use Rattle.stream_model.specs.declared.kind.Kind.TheVariants as kind
use Rattle.stream_model.specs.declared.outcome.WireCount.{WireCount}
use Rattle.stream_model.specs.declared.outcome.EndState.TheVariants.{Ended}
use Rattle.stream_model.specs.Graph.{Graph, Edge, find_wire}
use Rattle.stream_model.specs.Graph as graph
use Rattle.stream_model.specs.Node.{World}
use Rattle.stream_model.specs.Outlook.{Outlook, unended}
use Rattle.stream_model.specs.Composed.{inputs_by, inputs_of}
use Rattle.stream_model.proofs.Compositions.{found_first}
use Rattle.stream_model.specs.Lane.{lane_loss}
use Rattle.stream_model.specs.OneWay as oneway
use Rattle.stream_model.specs.Rests.{SinksMatch}
use Rattle.stream_model.specs.Shape.{sent_at, count_needed}
use Rattle.stream_model.specs.View.{EachWire, ins}
use Rattle.run_laws.specs.Picture.{has_ended, sink_ended, ended_there}
use Rattle.stream_io.specs.State.{FolderState, SourceState, DrainState}
use Rattle.nodes.specs.Sink.{Sink, sink_room}
use Rattle.nodes.specs.Ignoring.{Ignorer}
use Rattle.nodes.specs.declared.node.IslandNode.{IslandNode}
use Rattle.nodes.specs.declared.node.IslandNode.TheVariants as node
use Rattle.run_laws.specs.Account.{Account, IsStill}
use Rattle.run_laws.specs.Items.{list_of, end_of_items}
use Rattle.run_laws.specs.Pictures as pictures
use Rattle.run_laws.specs.Ports.{wire_count}
use Rattle.run_laws.proofs.Pictures.{counts_at}
use Rattle.run_laws.specs.Runs.{IsRun}
use Rattle.run_laws.specs.Sinks.{IsIgnorerAt}
use Rattle.stream_model.specs.declared.blueprint.Blueprint.{Blueprint}
use Rattle.stream_model.specs.declared.blueprint.Node as blue
use Rattle.blue_check.specs.Wires.{blueprint_wires}
use Rattle.materializer.specs.Files.{output_of, inputs_of_nodes, outputs_of_nodes, is_sink}
use Rattle.materializer.specs.Graphs.{graph_node, graph_of}
use Rattle.materializer.specs.Seats.{gather_of}
use Rattle.run_laws.proofs.Nodes.{one_input}
use Rattle.run_blueprint.specs.Carrying.{ShutBy, OverBy, AskedBy, SinkTook, IgnorerTook}
use Rattle.island_runs.specs.Leaving.{Moment, RunLeaves, all_sent, taken_off}
use Rattle.run_blueprint.specs.Opening.{Opens}
use Rattle.run_blueprint.specs.Stands.{SinkStand, has_ended_at}
use Rattle.run_blueprint.specs.Units.{Pays}
use Rattle.island_runs.specs.declared.run.Stopped.{Stopped}
use Rattle.run_blueprint.proofs.Places.{mapped_at, unmapped_at, unfiltered_at, place_of, place_one, place_within}
use Rattle.run_blueprint.proofs.Profiles.{some_one, stand_in, sinks_filtered, StandsAt, Profile, ended_along}
use Rattle.run_blueprint.proofs.Handles.{IsSinkInto, HandleLaws, SinkFacts, sink_facts, profiles, as_many}
use Rattle.run_blueprint.proofs.SinkWires.{left_shut, sink_shut, lane_shut, sink_asked, sink_took, ignorer_took}
use Rattle.run_blueprint.proofs.Shutting.{TakenApart}
use Rattle.run_blueprint.proofs.RunLaws.{RunLaws}
use Rattle.stream_model.specs.Linear.{Book}
use Rattle.stream_model.specs.Listed.{tells_none}

-- ---- the wires' counts

-- how a wire of a picture stands, of which the count is what was sent at its output
count_there : {N : Type 0} (a : Account N) (g : Graph) (u : ℕ) (v : Edge) → slice_get g.wires u ≡ Some v → slice_get (pictures.picture_counts a g) u ≡ Some (wire_count v.lane (a.near u) (a.asked u))
count_there a g u v at =
    let place : 0 + u ≡ u = omega arith in
    subst (λ (k : ℕ). slice_get (pictures.picture_counts a g) u ≡ Some (wire_count v.lane (a.near k) (a.asked k))) place (counts_at a 0 g.wires u v at)

sent_there : {N : Type 0} (a : Account N) (g : Graph) (u : ℕ) (v : Edge) → slice_get g.wires u ≡ Some v → sent_at (pictures.picture_counts a g) u ≡ elements (a.near u).wire.sent
sent_there a g u v at = ap (λ (o : Option WireCount). elim o as (λ _. ℕ) [ Some c ↦ c.sent | None ↦ 0 ]) (count_there a g u v at)

-- a picture has a count for each wire
pub counts_many : {N : Type 0} (a : Account N) (i : ℕ) (vs : List Edge) → length (pictures.counts_from a i vs) ≡ length vs
counts_many a i [] = refl
counts_many a i (v ∷ vs) = ap suc (counts_many a (i + 1) vs)

-- ---- how a sink stands at its place

ended_stand : {S D L H B : Type 0} (x : IslandNode S D L H B) (s : SinkStand) → stand_in x ≡ Some s → sink_ended x ≡ has_ended s.2
ended_stand (node.Writing x) s f = let same : (x.node, x.count, x.end) ≡ s = some_one (x.node, x.count, x.end) s f in ap (λ (t : SinkStand). has_ended t.2) same
ended_stand (node.Ignoring x) s f = let same : (x.node, 0, x.end) ≡ s = some_one (x.node, 0, x.end) s f in ap (λ (t : SinkStand). has_ended t.2) same
ended_stand (node.Reading x) s f = absurd cc
ended_stand (node.Making x) s f = absurd cc
ended_stand (node.Linear x) s f = absurd cc
ended_stand (node.State x) s f = absurd cc
ended_stand (node.Sub x) s f = absurd cc
ended_stand (node.FanIn x) s f = absurd cc
ended_stand (node.FanOut x) s f = absurd cc
ended_stand (node.Custom x) s f = absurd cc
ended_stand (node.Entering x) s f = absurd cc
ended_stand (node.Leaving x) s f = absurd cc

ended_as : {S D L H B : Type 0} (o : Option (IslandNode S D L H B)) (x : IslandNode S D L H B) (s : SinkStand) → o ≡ Some x → stand_in x ≡ Some s → ended_there o ≡ has_ended s.2
ended_as o x s e f = ap ended_there e ∙ ended_stand x s f

stand_there : (k : ℕ) (b : Bool) (o : Option SinkStand) → StandsAt k b o → b ≡ true → (s : SinkStand) × ((o ≡ Some s) × (s.0 ≡ k))
stand_there k true o h e = h
stand_there k false o h e = absurd cc

no_stand : (k : ℕ) (b : Bool) (o : Option SinkStand) (s : SinkStand) → StandsAt k b o → o ≡ Some s → s.0 ≡ k
no_stand k true o s h e = let same : s ≡ h.0 = some_one s h.0 (sym e ∙ h.1.0) in ap (λ (t : SinkStand). t.0) same ∙ h.1.1
no_stand k false o s h e = absurd cc

-- a sink has an input
sink_input : (head : ℕ × ℕ) (k : Kind) → oneway.is_sink k ≡ true → 0 < inputs_by head k
sink_input head (kind.ToLines f) e = omega arith
sink_input head (kind.Head f) e = omega arith
sink_input head (kind.Last f) e = omega arith
sink_input head kind.Ignore e = omega arith
sink_input head _ e = absurd cc

-- just one
sink_one : (head : ℕ × ℕ) (k : Kind) → oneway.is_sink k ≡ true → inputs_by head k ≡ 1
sink_one head (kind.ToLines f) e = refl
sink_one head (kind.Head f) e = refl
sink_one head (kind.Last f) e = refl
sink_one head kind.Ignore e = refl
sink_one head _ e = absurd cc

-- ---- the wires and the sinks of a run at its end

module _ {S D L H B : Type 0} (sources : S → SourceState) (drains : D → DrainState) (book : Book) (handles : HandleLaws L H B sources drains book) (laws : RunLaws L H B sources drains book) (b : Blueprint) (ss : List S) (ds : List D) (budget : ℕ) (st : Stopped S D) (l : RunLeaves L H B sources drains book b ss ds budget st)
    (old mid : FolderState) {others : List (List ℕ)} (opens : Opens old mid (inputs_of_nodes b.nodes.items) (outputs_of_nodes b.nodes.items) others (map sources ss) (map drains ds)) where
  abbrev nodes : List blue.Node
  nodes = b.nodes.items

  abbrev left : Account (IslandNode S D L H B)
  left = l.account

  abbrev last : List (IslandNode S D L H B)
  last = l.nodes

  abbrev between : Moment sources drains book b ss ds left last
  between = l.moment

  abbrev g : Graph
  g = graph_of b

  abbrev ASink : ℕ → List ℕ → Type 0
  ASink k file = SinkFacts sources drains book handles b ss ds left last between old mid opens k file

  sink_at : (k : ℕ) (file : List ℕ) → IsSinkInto nodes k file → ASink k file
  sink_at = sink_facts sources drains book handles b ss ds left last between old mid opens

  profile : (k : ℕ) (n : blue.Node) (x : IslandNode S D L H B) → slice_get nodes k ≡ Some n → slice_get last k ≡ Some x → Profile sources drains k n x
  profile = profiles sources drains book handles b ss ds left last between old mid opens

  -- its handles were closed
  pub apart : TakenApart sources drains b last st.end.readers.items st.end.writers.items
  apart = record {
    as_many = as_many sources drains book handles b ss ds left last between old mid opens;
    input = λ k n x at here. (profile k n x at here).input;
    output = λ k n x at here. (profile k n x at here).output;
    readers_are = l.readers;
    writers_are = l.writers;
  }

  run : IsRun sources drains book g left
  run = l.moment.run

  still : IsTrue st.at_rest → IsStill g left
  still rest = l.still rest

  pub wires_are : st.wires.items ≡ pictures.picture_counts left g
  wires_are = l.wires

  pub wire_count_at : (u : ℕ) (v : Edge) → slice_get (blueprint_wires b) u ≡ Some v → sent_at st.wires.items u ≡ elements (left.near u).wire.sent
  wire_count_at u v at = ap (λ (c : List WireCount). sent_at c u) wires_are ∙ sent_there left g u v at

  pub wire_at : (u : ℕ) (v : Edge) (c : WireCount) → slice_get (blueprint_wires b) u ≡ Some v → slice_get st.wires.items u ≡ Some c → c ≡ wire_count v.lane (left.near u) (left.asked u)
  wire_at u v c at is = some_one c (wire_count v.lane (left.near u) (left.asked u)) (sym is ∙ ap (λ (l : List WireCount). slice_get l u) wires_are ∙ count_there left g u v at)

  -- the units are tied to what passed
  pub pays : Pays b st.wires.items st.used
  pays = record {
    counted = ap length wires_are ∙ counts_many left 0 (blueprint_wires b);
    least = subst (λ (c : List WireCount). all_sent c + taken_off (blueprint_wires b) c ≤ st.used) (sym wires_are) l.least;
    most = subst (λ (c : List WireCount). st.used + length (blueprint_wires b) ≤ count_needed g c) (sym wires_are) l.most;
  }

  -- a sink among the stands, its node, and the wire of its input
  pub record SinkHere (s : SinkStand) : Type 0 where
    pub node : blue.Node
    pub at : slice_get nodes s.0 ≡ Some node
    pub shape : oneway.is_sink node.kind ≡ true
    pub ended : ended_there (left.nodes s.0) ≡ has_ended s.2
    pub now : IslandNode S D L H B
    pub now_at : left.nodes s.0 ≡ Some now
    pub stands : stand_in now ≡ Some s
    pub wire : ℕ
    pub is : Edge
    pub there : slice_get (blueprint_wires b) wire ≡ Some is
    pub to : is.to ≡ s.0

  pub sink_here : (i : ℕ) (s : SinkStand) → slice_get st.end.sinks.items i ≡ Some s → SinkHere s
  sink_here i s at =
      let among : slice_get (filter_map stand_in last) i ≡ Some s = subst (λ (x : List SinkStand). slice_get x i ≡ Some s) (l.sinks ∙ sinks_filtered last) at in
      let from = unfiltered_at stand_in last i s among in
      let below : from.0 < length nodes = subst (λ m. from.0 < m) (sym (as_many sources drains book handles b ss ds left last between old mid opens)) (place_within last from.0 from.1.0 from.1.1.0) in
      let m = place_of nodes from.0 below in
      let stand = (profile from.0 m.0 from.1.0 m.1 from.1.1.0).stand in
      let place : s.0 ≡ from.0 = no_stand from.0 (is_sink m.0) (stand_in from.1.0) s stand from.1.1.1 in
      let here : slice_get nodes s.0 ≡ Some m.0 = subst (λ j. slice_get nodes j ≡ Some m.0) (sym place) m.1 in
      let found : slice_get last s.0 ≡ Some from.1.0 = subst (λ j. slice_get last j ≡ Some from.1.0) (sym place) from.1.1.0 in
      let shape : oneway.is_sink m.0.kind ≡ true = (profile from.0 m.0 from.1.0 m.1 from.1.1.0).sink s from.1.1.1 in
      let input = run.joined.each_input s.0 (graph_node b.wires.items m.0) 0 (mapped_at (graph_node b.wires.items) nodes s.0 m.0 here) (sink_input (graph_node b.wires.items m.0).head m.0.kind shape) in
      let wire = found_first (λ w. w.to) (λ w. w.input) s.0 0 (blueprint_wires b) input.0 input.1 in
      record {
        node = m.0;
        at = here;
        shape = shape;
        ended = ended_as (left.nodes s.0) from.1.0 s (between.node_at s.0 ∙ found) from.1.1.1;
        now = from.1.0;
        now_at = between.node_at s.0 ∙ found;
        stands = from.1.1.1;
        wire = input.0;
        is = wire.wire;
        there = wire.at;
        to = wire.to;
      }

  pub sinks_wired : 1 ≤ length st.end.sinks.items → 1 ≤ length (blueprint_wires b)
  sinks_wired some =
      let s = place_of st.end.sinks.items 0 (omega (arith, some)) in
      let h = sink_here 0 s.0 s.1 in
      let within : h.wire < length (blueprint_wires b) = place_within (blueprint_wires b) h.wire h.is h.there in
      omega (arith, within)

  -- the stand of a sink of lines, by its place among the stands
  pub stand_of : (i : ℕ) (s : SinkStand) (n : blue.Node) (file : List ℕ) → slice_get st.end.sinks.items i ≡ Some s → slice_get nodes s.0 ≡ Some n → output_of n.kind ≡ Some file → (f : ASink s.0 file) × (s ≡ (s.0, f.now.count, f.now.end))
  stand_of i s n file at here shape =
      let among : slice_get (filter_map stand_in last) i ≡ Some s = subst (λ (x : List SinkStand). slice_get x i ≡ Some s) (l.sinks ∙ sinks_filtered last) at in
      let from = unfiltered_at stand_in last i s among in
      let below : from.0 < length nodes = subst (λ m. from.0 < m) (sym (as_many sources drains book handles b ss ds left last between old mid opens)) (place_within last from.0 from.1.0 from.1.1.0) in
      let m = place_of nodes from.0 below in
      let place : s.0 ≡ from.0 = no_stand from.0 (is_sink m.0) (stand_in from.1.0) s (profile from.0 m.0 from.1.0 m.1 from.1.1.0).stand from.1.1.1 in
      let there : slice_get last s.0 ≡ Some from.1.0 = subst (λ j. slice_get last j ≡ Some from.1.0) (sym place) from.1.1.0 in
      let f = sink_at s.0 file (record { node = n; at = here; file_is = shape }) in
      let is : from.1.0 ≡ node.Writing f.now = place_one last s.0 from.1.0 (node.Writing f.now) there f.at in
      let told : stand_in {S = S} {D = D} {L = L} {H = H} {B = B} (node.Writing f.now) ≡ Some s = ap stand_in (sym is) ∙ from.1.1.1 in
      let same : (f.now.node, f.now.count, f.now.end) ≡ s = some_one (f.now.node, f.now.count, f.now.end) s told in
      (f, sym same ∙ ap (λ (j : ℕ). (j, f.now.count, f.now.end)) f.place)

  -- how many lines a sink with a file may put together, by its one wire
  pub roomed_at : (k : ℕ) (n : blue.Node) (first : Sink D) (u : ℕ) (v : Edge) → inputs_of (graph_node b.wires.items n) ≡ 1 → slice_get nodes k ≡ Some n → left.firsts k ≡ Some (node.Writing first) → slice_get (blueprint_wires b) u ≡ Some v → v.to ≡ k
      → first.gather.room ≡ sink_room first.writes (gather_of v.lane)
  roomed_at k n first u v one here at wire to =
      let there = mapped_at (graph_node b.wires.items) nodes k n here in
      let found : find_wire k 0 g.wires ≡ Some u = one_input g run.joined k (graph_node b.wires.items n) u v there one wire to in
      l.roomed k u v first at wire to (λ j x is leads. some_one j u (sym (one_input g run.joined k (graph_node b.wires.items n) j x there one is leads) ∙ found))

  -- how the wire of a sink stands, by how the sink does
  pub sink_stood : (i : ℕ) (s : SinkStand) (u : ℕ) (v : Edge) (c : WireCount) → slice_get st.end.sinks.items i ≡ Some s → slice_get (blueprint_wires b) u ≡ Some v → v.to ≡ s.0 → slice_get st.wires.items u ≡ Some c
      → ShutBy s.2 v.lane c.shut × OverBy s.2 c.shut (end_of_items (left.near u).wire.sent)
  sink_stood i s u v c at wire to is =
      let h = sink_here i s at in
      let one : inputs_of (graph_node b.wires.items h.node) ≡ 1 = sink_one (graph_node b.wires.items h.node).head h.node.kind h.shape in
      rw (wire_at u v c wire is) (sink_shut sources drains book g left run u v wire s.0 (graph_node b.wires.items h.node) h.now (mapped_at (graph_node b.wires.items) nodes s.0 h.node h.at) one to h.now_at l.cancels s h.stands)

  -- that of one that ended, and takes more than one element
  pub ended_stood : (i : ℕ) (s : SinkStand) (n : blue.Node) (u : ℕ) (v : Edge) (c : WireCount) → slice_get st.end.sinks.items i ≡ Some s → slice_get nodes s.0 ≡ Some n → ((file : List ℕ) → n.kind ≢ kind.Head file)
      → slice_get (blueprint_wires b) u ≡ Some v → v.to ≡ s.0 → slice_get st.wires.items u ≡ Some c → s.2 ≡ Ended → c.shut ≡ true
  ended_stood i s n u v c at here other wire to is over =
      let h = sink_here i s at in
      let same : h.node ≡ n = some_one h.node n (sym h.at ∙ here) in
      let one : inputs_of (graph_node b.wires.items n) ≡ 1 = subst (λ (x : blue.Node). inputs_of (graph_node b.wires.items x) ≡ 1) same (sink_one (graph_node b.wires.items h.node).head h.node.kind h.shape) in
      rw (wire_at u v c wire is) (lane_shut sources drains book g left run u v wire s.0 (graph_node b.wires.items n) h.now (mapped_at (graph_node b.wires.items) nodes s.0 n here) one to h.now_at l.cancels s h.stands over other)

  pub writer_stood : (i : ℕ) (s : SinkStand) (n : blue.Node) (file : List ℕ) (u : ℕ) (v : Edge) (c : WireCount) → slice_get st.end.sinks.items i ≡ Some s → slice_get nodes s.0 ≡ Some n → n.kind ≡ kind.ToLines file
      → slice_get (blueprint_wires b) u ≡ Some v → v.to ≡ s.0 → slice_get st.wires.items u ≡ Some c → AskedBy s.2 v.lane s.1 c
  writer_stood i s n file u v c at here shape wire to is =
      let found = stand_of i s n file at here (ap output_of shape) in
      let f = found.0 in
      let asked : AskedBy f.now.end v.lane f.now.count (wire_count v.lane (left.near u) (left.asked u)) =
      sink_asked sources drains book g left run u v wire s.0 (graph_node b.wires.items n) file f.first f.now (mapped_at (graph_node b.wires.items) nodes s.0 n here) shape to f.there (roomed_at s.0 n f.first u v (ap (inputs_by (graph_node b.wires.items n).head) shape) here f.there.at_first wire to) l.cancels in
      subst (λ (t : SinkStand). AskedBy t.2 v.lane t.1 c) (sym found.1) (rw (wire_at u v c wire is) asked)

  -- what came to a sink with a file
  pub took_there : (i : ℕ) (s : SinkStand) (n : blue.Node) (file : List ℕ) (u : ℕ) (v : Edge) → slice_get st.end.sinks.items i ≡ Some s → slice_get nodes s.0 ≡ Some n → output_of n.kind ≡ Some file
      → slice_get (blueprint_wires b) u ≡ Some v → v.to ≡ s.0 → SinkTook (lane_loss v.keep v.lane) v.lane (list_of (left.near u).wire.sent) (end_of_items (left.near u).wire.sent) n.kind s
  took_there i s n file u v at here shape wire to =
      let found = stand_of i s n file at here shape in
      let f = found.0 in
      let h = sink_here i s at in
      let same : h.node ≡ n = some_one h.node n (sym h.at ∙ here) in
      let one : inputs_of (graph_node b.wires.items n) ≡ 1 = subst (λ (x : blue.Node). inputs_of (graph_node b.wires.items x) ≡ 1) same (sink_one (graph_node b.wires.items h.node).head h.node.kind h.shape) in
      let is : (f.now.node, f.now.count, f.now.end) ≡ s = ap (λ (j : ℕ). (j, f.now.count, f.now.end)) f.place ∙ sym found.1 in
      subst (λ (t : SinkStand). SinkTook (lane_loss v.keep v.lane) v.lane (list_of (left.near u).wire.sent) (end_of_items (left.near u).wire.sent) n.kind t) is
      (sink_took sources drains book g left run u v wire s.0 (graph_node b.wires.items n) f.first f.now (mapped_at (graph_node b.wires.items) nodes s.0 n here) one to f.there (roomed_at s.0 n f.first u v one here f.there.at_first wire to))

  -- a sink that keeps nothing, by its place among the stands
  pub ignorer_of : (i : ℕ) (s : SinkStand) (n : blue.Node) → slice_get st.end.sinks.items i ≡ Some s → slice_get nodes s.0 ≡ Some n → n.kind ≡ kind.Ignore
      → (first : Ignorer) × ((now : Ignorer) × (IsIgnorerAt left s.0 first now × ((now.node, 0, now.end) ≡ s)))
  ignorer_of i s n at here shape =
      let h = sink_here i s at in
      let there = laws.ignorer g left run s.0 (graph_node b.wires.items n) (mapped_at (graph_node b.wires.items) nodes s.0 n here) shape in
      let now = there.1.0 in
      let is : h.now ≡ node.Ignoring now = some_one h.now (node.Ignoring now) (sym h.now_at ∙ there.1.1.at_last) in
      let told : stand_in {S = S} {D = D} {L = L} {H = H} {B = B} (node.Ignoring now) ≡ Some s = ap stand_in (sym is) ∙ h.stands in
      (there.0, (now, (there.1.1, some_one (now.node, 0, now.end) s told)))

  -- what came to it
  pub ignored_there : (i : ℕ) (s : SinkStand) (n : blue.Node) (u : ℕ) (v : Edge) → slice_get st.end.sinks.items i ≡ Some s → slice_get nodes s.0 ≡ Some n → n.kind ≡ kind.Ignore
      → slice_get (blueprint_wires b) u ≡ Some v → v.to ≡ s.0 → IgnorerTook (lane_loss v.keep v.lane) (list_of (left.near u).wire.sent) (end_of_items (left.near u).wire.sent) s
  ignored_there i s n u v at here shape wire to =
      let x = ignorer_of i s n at here shape in
      subst (λ (t : SinkStand). IgnorerTook (lane_loss v.keep v.lane) (list_of (left.near u).wire.sent) (end_of_items (left.near u).wire.sent) t) x.1.1.1
      (ignorer_took sources drains book g left run u v wire s.0 (graph_node b.wires.items n) x.0 x.1.0 (mapped_at (graph_node b.wires.items) nodes s.0 n here) (ap (inputs_by (graph_node b.wires.items n).head) shape) to x.1.1.0)

  -- one that was cancelled, and those behind it
  pub left_stood : (u : ℕ) (v : Edge) (c : WireCount) → slice_get (blueprint_wires b) u ≡ Some v → slice_get st.wires.items u ≡ Some c → c.shut ≡ true → end_of_items (left.near u).wire.sent ≡ unended
      → ((n : blue.Node) → slice_get nodes v.to ≡ Some n → tells_none book n.kind ≡ false)
      → (j : ℕ) (x : Edge) (d : WireCount) → slice_get (blueprint_wires b) j ≡ Some x → x.from ≡ v.to → slice_get st.wires.items j ≡ Some d → d.shut ≡ true
  left_stood u v c at is shut none tells j x d behind from there =
      let closed : (wire_count v.lane (left.near u) (left.asked u)).shut ≡ true = subst (λ (w : WireCount). w.shut ≡ true) (wire_at u v c at is) shut in
      rw (wire_at j x d behind there) (left_shut sources drains book g left run u v at (λ m here. let q = unmapped_at (graph_node b.wires.items) nodes v.to m here in ap (λ (y : graph.Node). tells_none book y.kind) q.1.1 ∙ tells q.0 q.1.0) l.cancels closed none j x behind from)

  -- a sink's input is shut exactly where the sink has ended
  pub matched : IsTrue st.at_rest → (w : World) (outlook : ℕ → Outlook) → SinksMatch g w st.wires.items outlook (has_ended_at st.end.sinks.items)
  matched rest w outlook k n at is =
      let m = unmapped_at (graph_node b.wires.items) nodes k n at in
      let shape : oneway.is_sink m.0.kind ≡ true = ap (λ (x : graph.Node). oneway.is_sink x.kind) (sym m.1.1) ∙ is in
      let below : k < length last = subst (λ j. k < j) (as_many sources drains book handles b ss ds left last between old mid opens) (place_within nodes k m.0 m.1.0) in
      let x = place_of last k below in
      let stand = stand_there k (is_sink m.0) (stand_in x.0) (profile k m.0 x.0 m.1.0 x.1).stand shape in
      let by_place : has_ended_at (filter_map stand_in last) k ≡ has_ended stand.0.2 =
      ended_along 0 nodes last (as_many sources drains book handles b ss ds left last between old mid opens) (λ i y z p q. subst (λ j. StandsAt j (is_sink y) (stand_in z)) (omega arith) (profile i y z p q).stand) k k x.0 stand.0 (omega arith) x.1 stand.1.0 in
      let ended : ended_there (left.nodes k) ≡ has_ended_at st.end.sinks.items k =
      ended_as (left.nodes k) x.0 stand.0 (between.node_at k ∙ x.1) stand.1.0 ∙ sym by_place ∙ ap (λ (y : List SinkStand). has_ended_at y k) (sym (l.sinks ∙ sinks_filtered last)) in
      subst (λ (c : List WireCount). EachWire (λ i. i.shut ≡ has_ended_at st.end.sinks.items k) (ins g c outlook k n)) (sym wires_are)
      (subst (λ (e : Bool). EachWire (λ i. i.shut ≡ e) (ins g (pictures.picture_counts left g) outlook k n)) ended
      (laws.match g w left outlook run (still rest) k n at is))
