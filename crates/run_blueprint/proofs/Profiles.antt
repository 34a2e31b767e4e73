-- What each node of an island leaves at its end, by the kind of its node in the blueprint.
use Rattle.std.proofs.Common.{◌≡◌, ◌≢◌, inl, inr, ℕ, zero, suc, ◌+◌, Bool, true, false, List, [], ◌∷◌, length, map, slice_get, refl, sym, ap, ◌∙◌, subst, arith}
use Rattle.std.specs.Prelude.{Option, Some, None, if◌then◌else◌}
use Rattle.std.specs.Option.{option_map}
use Rattle.std.specs.List.{filter_map, cons_option}
use Rattle.std.proofs.lemmas.Bool.Decides.{eqb_tells}
use Rattle.elem_core.specs.declared.item.Item.{Item}
use Rattle.port_core.specs.View.{View}
use Rattle.stream_model.specs.Graph as graph
use Rattle.stream_model.specs.declared.kind.Kind.{Kind}
use Rattle.stream_model.specs.declared.kind.Kind.TheVariants as kind
use Rattle.stream_model.specs.declared.outcome.EndState.TheVariants.{WriteFault}
use Rattle.stream_model.specs.OneWay as oneway
use Rattle.stream_io.specs.State.{SourceState, DrainState}
use Rattle.stage_linear.specs.States.{IsLinear}
use Rattle.stage_state.specs.Logics.{IsStateful}
use Rattle.stage_sub.specs.Handling.{IsSub}
use Rattle.stage_in.specs.Logics.{IsFanIn}
use Rattle.stage_out.specs.OutLogics.{IsOut}
use Rattle.nodes.specs.Nodes.{node_law}
use Rattle.nodes.specs.Kinds.{IsMaker, IsFileSink}
use Rattle.nodes.specs.Sink.{Sink}
use Rattle.nodes.specs.Ignoring.{Ignorer, EndsWith}
use Rattle.nodes.specs.Source.{Lines}
use Rattle.nodes.specs.declared.node.IslandNode.{IslandNode}
use Rattle.nodes.specs.declared.node.IslandNode.TheVariants as node
use Rattle.interpreter.specs.Island.{sinks_of, readers_of, writers_of}
use Rattle.run_laws.specs.Made.{FirstOf}
use Rattle.run_laws.specs.Picture.{has_ended}
use Rattle.stream_model.specs.declared.blueprint.Node as blue
use Rattle.stream_model.specs.declared.blueprint.WireDecl.{WireDecl}
use Rattle.materializer.specs.Files.{source_file, output_of, is_sink}
use Rattle.materializer.specs.Graphs.{graph_node}
use Rattle.run_blueprint.specs.Stands.{SinkStand, sink_places, has_ended_at}
use Rattle.stream_model.specs.Linear.{Book}

-- what a node leaves
abbrev pub reader_in : {S D L H B : Type 0} → IslandNode S D L H B → Option S
reader_in (node.Reading x) = Some x.reader.source
reader_in _ = None

abbrev pub writer_in : {S D L H B : Type 0} → IslandNode S D L H B → Option D
writer_in (node.Writing x) = Some x.drain
writer_in _ = None

abbrev pub stand_in : {S D L H B : Type 0} → IslandNode S D L H B → Option SinkStand
stand_in (node.Writing x) = Some (x.node, x.count, x.end)
stand_in (node.Ignoring x) = Some (x.node, 0, x.end)
stand_in _ = None

pub readers_filtered : {S D L H B : Type 0} (xs : List (IslandNode S D L H B)) → readers_of xs ≡ filter_map reader_in xs
readers_filtered [] = refl
readers_filtered (node.Reading x ∷ xs) = ap (λ l. x.reader.source ∷ l) (readers_filtered xs)
readers_filtered (node.Linear x ∷ xs) = readers_filtered xs
readers_filtered (node.Writing x ∷ xs) = readers_filtered xs
readers_filtered (node.Making x ∷ xs) = readers_filtered xs
readers_filtered (node.State x ∷ xs) = readers_filtered xs
readers_filtered (node.Sub x ∷ xs) = readers_filtered xs
readers_filtered (node.FanIn x ∷ xs) = readers_filtered xs
readers_filtered (node.FanOut x ∷ xs) = readers_filtered xs
readers_filtered (node.Custom x ∷ xs) = readers_filtered xs
readers_filtered (node.Entering x ∷ xs) = readers_filtered xs
readers_filtered (node.Leaving x ∷ xs) = readers_filtered xs
readers_filtered (node.Ignoring x ∷ xs) = readers_filtered xs

pub writers_filtered : {S D L H B : Type 0} (xs : List (IslandNode S D L H B)) → writers_of xs ≡ filter_map writer_in xs
writers_filtered [] = refl
writers_filtered (node.Reading x ∷ xs) = writers_filtered xs
writers_filtered (node.Linear x ∷ xs) = writers_filtered xs
writers_filtered (node.Writing x ∷ xs) = ap (λ l. x.drain ∷ l) (writers_filtered xs)
writers_filtered (node.Making x ∷ xs) = writers_filtered xs
writers_filtered (node.State x ∷ xs) = writers_filtered xs
writers_filtered (node.Sub x ∷ xs) = writers_filtered xs
writers_filtered (node.FanIn x ∷ xs) = writers_filtered xs
writers_filtered (node.FanOut x ∷ xs) = writers_filtered xs
writers_filtered (node.Custom x ∷ xs) = writers_filtered xs
writers_filtered (node.Entering x ∷ xs) = writers_filtered xs
writers_filtered (node.Leaving x ∷ xs) = writers_filtered xs
writers_filtered (node.Ignoring x ∷ xs) = writers_filtered xs

pub sinks_filtered : {S D L H B : Type 0} (xs : List (IslandNode S D L H B)) → sinks_of xs ≡ filter_map stand_in xs
sinks_filtered [] = refl
sinks_filtered (node.Reading x ∷ xs) = sinks_filtered xs
sinks_filtered (node.Linear x ∷ xs) = sinks_filtered xs
sinks_filtered (node.Writing x ∷ xs) = ap (λ (l : List SinkStand). (x.node, x.count, x.end) ∷ l) (sinks_filtered xs)
sinks_filtered (node.Making x ∷ xs) = sinks_filtered xs
sinks_filtered (node.State x ∷ xs) = sinks_filtered xs
sinks_filtered (node.Sub x ∷ xs) = sinks_filtered xs
sinks_filtered (node.FanIn x ∷ xs) = sinks_filtered xs
sinks_filtered (node.FanOut x ∷ xs) = sinks_filtered xs
sinks_filtered (node.Custom x ∷ xs) = sinks_filtered xs
sinks_filtered (node.Entering x ∷ xs) = sinks_filtered xs
sinks_filtered (node.Leaving x ∷ xs) = sinks_filtered xs
sinks_filtered (node.Ignoring x ∷ xs) = ap (λ (l : List SinkStand). (x.node, 0, x.end) ∷ l) (sinks_filtered xs)

pub some_one : {A : Type 0} (x y : A) → Some x ≡ Some y → x ≡ y
some_one x y e = cc

-- what a sink, and what no sink leaves, at its place
abbrev pub StandsAt : ℕ → Bool → Option SinkStand → Type 0
StandsAt k true o = (s : SinkStand) × ((o ≡ Some s) × (s.0 ≡ k))
StandsAt k false o = o ≡ None

-- what node k leaves: a reader where its kind reads a file, which the reader names; a drain where its kind writes one; and how
-- it stands where it is a sink, and where it stands its kind is a sink's
pub record Profile {S D L H B : Type 0} (sources : S → SourceState) (drains : D → DrainState) (k : ℕ) (n : blue.Node) (x : IslandNode S D L H B) : Type 0 where
  pub input : source_file n.kind ≡ option_map (λ s. (sources s).name) (reader_in x)
  pub output : output_of n.kind ≡ option_map (λ d. (drains d).name) (writer_in x)
  pub stand : StandsAt k (is_sink n) (stand_in x)
  pub sink : (s : SinkStand) → stand_in x ≡ Some s → oneway.is_sink n.kind ≡ true

-- a kind that is no sink and reads no file: a stage, or a source without a file
record IsInner (shape : Kind) : Type 0 where
  input : source_file shape ≡ None
  output : output_of shape ≡ None
  sink : oneway.is_sink shape ≡ false

linear_inner : (shape : Kind) → IsLinear shape → IsInner shape
linear_inner (kind.Map f) h = record { input = refl; output = refl; sink = refl }
linear_inner (kind.Filter p) h = record { input = refl; output = refl; sink = refl }
linear_inner (kind.FilterNot p) h = record { input = refl; output = refl; sink = refl }
linear_inner (kind.Take n) h = record { input = refl; output = refl; sink = refl }
linear_inner (kind.TakeWhile p) h = record { input = refl; output = refl; sink = refl }
linear_inner (kind.Drop n) h = record { input = refl; output = refl; sink = refl }
linear_inner (kind.DropWhile p) h = record { input = refl; output = refl; sink = refl }
linear_inner (kind.Limit n) h = record { input = refl; output = refl; sink = refl }
linear_inner (kind.MapConcat x) h = record { input = refl; output = refl; sink = refl }
linear_inner (kind.Plug name) h = record { input = refl; output = refl; sink = refl }
linear_inner _ h = absurd h

state_inner : (shape : Kind) → IsStateful shape → IsInner shape
state_inner (kind.Grouped n) h = record { input = refl; output = refl; sink = refl }
state_inner (kind.Fold o) h = record { input = refl; output = refl; sink = refl }
state_inner (kind.Reduce r) h = record { input = refl; output = refl; sink = refl }
state_inner (kind.Scan o) h = record { input = refl; output = refl; sink = refl }
state_inner (kind.Buffer n p) h = record { input = refl; output = refl; sink = refl }
state_inner (kind.RecoverNum z) h = record { input = refl; output = refl; sink = refl }
state_inner (kind.RecoverText l) h = record { input = refl; output = refl; sink = refl }
state_inner (kind.Valve name) h = record { input = refl; output = refl; sink = refl }
state_inner (kind.TripShutdown name n) h = record { input = refl; output = refl; sink = refl }
state_inner (kind.TripAbort name n) h = record { input = refl; output = refl; sink = refl }
state_inner _ h = absurd h

sub_inner : (shape : Kind) → IsSub shape → IsInner shape
sub_inner (kind.GroupBy n f name) h = record { input = refl; output = refl; sink = refl }
sub_inner (kind.SplitWhen p name j) h = record { input = refl; output = refl; sink = refl }
sub_inner (kind.SplitAfter p name j) h = record { input = refl; output = refl; sink = refl }
sub_inner _ h = absurd h

fan_in_inner : (shape : Kind) → IsFanIn shape → IsInner shape
fan_in_inner (kind.Concat n) h = record { input = refl; output = refl; sink = refl }
fan_in_inner (kind.Interleave n s) h = record { input = refl; output = refl; sink = refl }
fan_in_inner kind.MergeSorted h = record { input = refl; output = refl; sink = refl }
fan_in_inner kind.Zip h = record { input = refl; output = refl; sink = refl }
fan_in_inner (kind.Merge n) h = record { input = refl; output = refl; sink = refl }
fan_in_inner (kind.MergeHub m n) h = record { input = refl; output = refl; sink = refl }
fan_in_inner _ h = absurd h

fan_out_inner : (shape : Kind) → IsOut shape → IsInner shape
fan_out_inner (kind.Broadcast n) h = record { input = refl; output = refl; sink = refl }
fan_out_inner (kind.BroadcastHub m n) h = record { input = refl; output = refl; sink = refl }
fan_out_inner (kind.Partition n f) h = record { input = refl; output = refl; sink = refl }
fan_out_inner kind.Unzip h = record { input = refl; output = refl; sink = refl }
fan_out_inner (kind.Balance n) h = record { input = refl; output = refl; sink = refl }
fan_out_inner _ h = absurd h

maker_inner : (shape : Kind) → IsMaker shape → IsInner shape
maker_inner (kind.Range low high) h = record { input = refl; output = refl; sink = refl }
maker_inner (kind.Empty b) h = record { input = refl; output = refl; sink = refl }
maker_inner (kind.Failed b) h = record { input = refl; output = refl; sink = refl }
maker_inner _ h = absurd h

custom_inner : (shape : Kind) (name : List ℕ) → shape ≡ kind.Custom name → IsInner shape
custom_inner shape name is = record { input = ap source_file is; output = ap output_of is; sink = ap oneway.is_sink is }

-- a sink with a file has one, and reads none
record HasFile (shape : Kind) : Type 0 where
  name : List ℕ
  input : source_file shape ≡ None
  output : output_of shape ≡ Some name
  sink : oneway.is_sink shape ≡ true

file_sink : (shape : Kind) → IsFileSink shape → HasFile shape
file_sink (kind.ToLines name) h = record { name = name; input = refl; output = refl; sink = refl }
file_sink (kind.Head name) h = record { name = name; input = refl; output = refl; sink = refl }
file_sink (kind.Last name) h = record { name = name; input = refl; output = refl; sink = refl }
file_sink _ h = absurd h

-- a kind that writes a file is a sink with one
pub writes_file : (shape : Kind) (name : List ℕ) → output_of shape ≡ Some name → IsFileSink shape
writes_file (kind.ToLines f) name e = tt
writes_file (kind.Head f) name e = tt
writes_file (kind.Last f) name e = tt
writes_file _ name e = absurd cc

no_sink : (k : ℕ) (b : Bool) (o : Option SinkStand) → b ≡ false → o ≡ None → StandsAt k b o
no_sink k true o e f = absurd cc
no_sink k false o e f = f

a_sink : (k : ℕ) (b : Bool) (o : Option SinkStand) (s : SinkStand) → b ≡ true → o ≡ Some s → s.0 ≡ k → StandsAt k b o
a_sink k true o s e f g = (s, (f, g))
a_sink k false o s e f g = absurd cc

module _ {S D L H B : Type 0} (sources : S → SourceState) (drains : D → DrainState) (book : Book) (k : ℕ) (n : blue.Node) where
  reading_profile : (x : Lines S) (name : List ℕ) → n.kind ≡ kind.Lines name → (sources x.reader.source).name ≡ name → Profile {S = S} {D = D} {L = L} {H = H} {B = B} sources drains k n (node.Reading x)
  reading_profile x name is named = record {
    input = ap source_file is ∙ ap Some (sym named);
    output = ap output_of is;
    stand = no_sink k (is_sink n) None (ap oneway.is_sink is) refl;
    sink = λ s e. absurd cc;
  }

  writing_profile : (x : Sink D) → IsFileSink n.kind → x.node ≡ k → ((name : List ℕ) → output_of n.kind ≡ Some name → (drains x.drain).name ≡ name) → Profile {S = S} {D = D} {L = L} {H = H} {B = B} sources drains k n (node.Writing x)
  writing_profile x is place named =
      let f = file_sink n.kind is in
      record {
        input = f.input;
        output = f.output ∙ ap Some (sym (named f.name f.output));
        stand = a_sink k (is_sink n) (Some (x.node, x.count, x.end)) (x.node, x.count, x.end) f.sink refl place;
        sink = λ s e. f.sink;
      }

  ignoring_profile : (x : Ignorer) → n.kind ≡ kind.Ignore → x.node ≡ k → Profile {S = S} {D = D} {L = L} {H = H} {B = B} sources drains k n (node.Ignoring x)
  ignoring_profile x is place = record {
    input = ap source_file is;
    output = ap output_of is;
    stand = a_sink k (is_sink n) (Some (x.node, 0, x.end)) (x.node, 0, x.end) (ap oneway.is_sink is) refl place;
    sink = λ s e. ap oneway.is_sink is;
  }

  inner_profile : (x : IslandNode S D L H B) → reader_in x ≡ None → writer_in x ≡ None → stand_in x ≡ None → IsInner n.kind → Profile sources drains k n x
  inner_profile x reads writes stands is = record {
    input = is.input ∙ ap (option_map (λ s. (sources s).name)) (sym reads);
    output = is.output ∙ ap (option_map (λ d. (drains d).name)) (sym writes);
    stand = no_sink k (is_sink n) (stand_in x) is.sink stands;
    sink = λ s e. absurd cc;
  }

  -- what a node leaves, whatever its kind is, where its source and its drain have the names of their files
  pub node_profile : (wires : List WireDecl) (chains : List graph.Chain) (first now : IslandNode S D L H B) (v : View) (took gave : List (List Item)) → FirstOf sources chains k (graph_node wires n) first → node_law sources drains book first now v took gave
      → ((name : List ℕ) (x : Lines S) → n.kind ≡ kind.Lines name → now ≡ node.Reading x → (sources x.reader.source).name ≡ name)
      → ((name : List ℕ) (x : Sink D) → output_of n.kind ≡ Some name → now ≡ node.Writing x → (drains x.drain).name ≡ name)
      → Profile sources drains k n now
  node_profile wires chains (node.Reading f) (node.Reading x) v took gave made law reads writes = reading_profile x made.name made.kind_is (reads made.name x made.kind_is refl)
  node_profile wires chains (node.Making f) (node.Making x) v took gave made law reads writes = inner_profile (node.Making x) refl refl refl (maker_inner n.kind made.is_maker)
  node_profile wires chains (node.Linear f) (node.Linear x) v took gave made law reads writes = inner_profile (node.Linear x) refl refl refl (linear_inner n.kind made.is_linear)
  node_profile wires chains (node.State f) (node.State x) v took gave made law reads writes = inner_profile (node.State x) refl refl refl (state_inner n.kind made.is_state)
  node_profile wires chains (node.Sub f) (node.Sub x) v took gave made law reads writes = inner_profile (node.Sub x) refl refl refl (sub_inner n.kind made.is_sub)
  node_profile wires chains (node.FanIn f) (node.FanIn x) v took gave made law reads writes = inner_profile (node.FanIn x) refl refl refl (fan_in_inner n.kind made.is_in)
  node_profile wires chains (node.FanOut f) (node.FanOut x) v took gave made law reads writes = inner_profile (node.FanOut x) refl refl refl (fan_out_inner n.kind made.is_out)
  node_profile wires chains (node.Custom f) (node.Custom x) v took gave made law reads writes = inner_profile (node.Custom x) refl refl refl (custom_inner n.kind made.name made.kind_is)
  node_profile wires chains (node.Writing f) (node.Writing x) v took gave made law reads writes = writing_profile x made.is_sink (law.node ∙ made.node) (λ name e. writes name x e refl)
  node_profile wires chains (node.Ignoring f) (node.Ignoring x) v took gave made law reads writes = ignoring_profile x made.kind_is (law.node ∙ made.node)
  node_profile wires chains (node.Entering f) x v took gave made law reads writes = absurd made
  node_profile wires chains (node.Leaving f) x v took gave made law reads writes = absurd made
  node_profile wires chains f x v took gave made law reads writes = absurd law

  -- a sink with a file is one by its kind
  pub writing_kind : (wires : List WireDecl) (chains : List graph.Chain) (first now : IslandNode S D L H B) (x : Sink D) (v : View) (took gave : List (List Item)) → FirstOf sources chains k (graph_node wires n) first → node_law sources drains book first now v took gave → now ≡ node.Writing x → (name : List ℕ) × (output_of n.kind ≡ Some name)
  writing_kind wires chains (node.Writing f) (node.Writing y) x v took gave made law is = let f = file_sink n.kind made.is_sink in (f.name, f.output)
  writing_kind wires chains (node.Reading f) (node.Reading y) x v took gave made law is = absurd cc
  writing_kind wires chains (node.Making f) (node.Making y) x v took gave made law is = absurd cc
  writing_kind wires chains (node.Linear f) (node.Linear y) x v took gave made law is = absurd cc
  writing_kind wires chains (node.State f) (node.State y) x v took gave made law is = absurd cc
  writing_kind wires chains (node.Sub f) (node.Sub y) x v took gave made law is = absurd cc
  writing_kind wires chains (node.FanIn f) (node.FanIn y) x v took gave made law is = absurd cc
  writing_kind wires chains (node.FanOut f) (node.FanOut y) x v took gave made law is = absurd cc
  writing_kind wires chains (node.Custom f) (node.Custom y) x v took gave made law is = absurd cc
  writing_kind wires chains (node.Ignoring f) (node.Ignoring y) x v took gave made law is = absurd cc
  writing_kind wires chains (node.Entering f) y x v took gave made law is = absurd made
  writing_kind wires chains (node.Leaving f) y x v took gave made law is = absurd made
  writing_kind wires chains f y x v took gave made law is = absurd law

  -- no write of a sink without a file fails
  pub never_faults : (first now : IslandNode S D L H B) (s : SinkStand) (v : View) (took gave : List (List Item)) → node_law sources drains book first now v took gave → stand_in now ≡ Some s → s.2 ≡ WriteFault → (x : Sink D) × (now ≡ node.Writing x)
  never_faults (node.Writing f) (node.Writing y) s v took gave law stands fault = (y, refl)
  never_faults (node.Ignoring f) (node.Ignoring y) s v took gave law stands fault =
      let same : (y.node, 0, y.end) ≡ s = some_one (y.node, 0, y.end) s stands in
      let never : EndsWith WriteFault law.in_end = subst (λ e. EndsWith e law.in_end) (ap (λ (t : SinkStand). t.2) same ∙ fault) law.ends in
      absurd never
  never_faults (node.Reading f) (node.Reading y) s v took gave law stands fault = absurd cc
  never_faults (node.Making f) (node.Making y) s v took gave law stands fault = absurd cc
  never_faults (node.Linear f) (node.Linear y) s v took gave law stands fault = absurd cc
  never_faults (node.State f) (node.State y) s v took gave law stands fault = absurd cc
  never_faults (node.Sub f) (node.Sub y) s v took gave law stands fault = absurd cc
  never_faults (node.FanIn f) (node.FanIn y) s v took gave law stands fault = absurd cc
  never_faults (node.FanOut f) (node.FanOut y) s v took gave law stands fault = absurd cc
  never_faults (node.Custom f) (node.Custom y) s v took gave law stands fault = absurd cc
  never_faults (node.Entering f) (node.Entering y) s v took gave law stands fault = absurd cc
  never_faults (node.Leaving f) (node.Leaving y) s v took gave law stands fault = absurd cc
  never_faults f y s v took gave law stands fault = absurd law

-- a node that leaves a drain is a sink with a file
pub writer_there : {S D L H B : Type 0} (name : D → List ℕ) (x : IslandNode S D L H B) (n : List ℕ) → Some n ≡ option_map name (writer_in x) → (y : Sink D) × (x ≡ node.Writing y)
writer_there name (node.Writing y) n e = (y, refl)
writer_there name (node.Reading y) n e = absurd cc
writer_there name (node.Making y) n e = absurd cc
writer_there name (node.Linear y) n e = absurd cc
writer_there name (node.State y) n e = absurd cc
writer_there name (node.Sub y) n e = absurd cc
writer_there name (node.FanIn y) n e = absurd cc
writer_there name (node.FanOut y) n e = absurd cc
writer_there name (node.Custom y) n e = absurd cc
writer_there name (node.Entering y) n e = absurd cc
writer_there name (node.Leaving y) n e = absurd cc
writer_there name (node.Ignoring y) n e = absurd cc

-- the sinks stand in the order of their nodes
stand_cons : (k : ℕ) (b : Bool) (o : Option SinkStand) (later : List ℕ) (ss : List SinkStand) → StandsAt k b o → map (λ (s : SinkStand). s.0) ss ≡ later → map (λ (s : SinkStand). s.0) (cons_option o ss) ≡ (if b then k ∷ later else later)
stand_cons k true o later ss h e = rw h.1.0 (ap (λ m. m ∷ map (λ (s : SinkStand). s.0) ss) h.1.1 ∙ ap (λ l. k ∷ l) e)
stand_cons k false o later ss h e = rw h e

pub stands_along : {S D L H B : Type 0} (k : ℕ) (ns : List blue.Node) (xs : List (IslandNode S D L H B)) → length ns ≡ length xs → ((i : ℕ) (n : blue.Node) (x : IslandNode S D L H B) → slice_get ns i ≡ Some n → slice_get xs i ≡ Some x → StandsAt (k + i) (is_sink n) (stand_in x)) → map (λ (s : SinkStand). s.0) (filter_map stand_in xs) ≡ sink_places k ns
stands_along k [] [] e p = refl
stands_along k [] (x ∷ xs) e p = absurd (omega (arith, e))
stands_along k (n ∷ ns) [] e p = absurd (omega (arith, e))
stands_along k (n ∷ ns) (x ∷ xs) e p =
    let here : StandsAt k (is_sink n) (stand_in x) = subst (λ j. StandsAt j (is_sink n) (stand_in x)) (omega arith) (p 0 n x refl refl) in
    stand_cons k (is_sink n) (stand_in x) (sink_places (k + 1) ns) (filter_map stand_in xs) here
    (stands_along (k + 1) ns xs (omega (arith, e)) (λ i m y a b. subst (λ j. StandsAt j (is_sink m) (stand_in y)) (omega arith) (p (suc i) m y a b)))

-- a sink that has ended is told so by its stand, where each stand has the number of its node
skip_other : (s : SinkStand) (ss : List SinkStand) (j : ℕ) → s.0 ≢ j → has_ended_at (s ∷ ss) j ≡ has_ended_at ss j
skip_other s ss j differs = elim (eqb_tells s.0 j) as (λ _. has_ended_at (s ∷ ss) j ≡ has_ended_at ss j) [
  | inl e ↦ absurd (differs e.1)
  | inr e ↦ rw e.0 refl
]

take_this : (s : SinkStand) (ss : List SinkStand) (j : ℕ) → s.0 ≡ j → has_ended_at (s ∷ ss) j ≡ has_ended s.2
take_this s ss j same = elim (eqb_tells s.0 j) as (λ _. has_ended_at (s ∷ ss) j ≡ has_ended s.2) [
  | inl e ↦ rw e.0 refl
  | inr e ↦ absurd (e.1 same)
]

numbered_by : (k j : ℕ) (o : Option SinkStand) (ss : List SinkStand) (b : Bool) → StandsAt k b o → j ≢ k → has_ended_at (cons_option o ss) j ≡ has_ended_at ss j
numbered_by k j None ss b h differs = refl
numbered_by k j (Some s) ss true h differs = let same : s ≡ h.0 = cc in skip_other s ss j (λ e. differs (sym e ∙ ap (λ (x : SinkStand). x.0) same ∙ h.1.1))
numbered_by k j (Some s) ss false h differs = absurd cc

stand_number : (k : ℕ) (b : Bool) (s : SinkStand) → StandsAt k b (Some s) → s.0 ≡ k
stand_number k true s h = let same : s ≡ h.0 = cc in ap (λ (x : SinkStand). x.0) same ∙ h.1.1
stand_number k false s h = absurd cc

ended_first : (k j : ℕ) (b : Bool) (o : Option SinkStand) (s : SinkStand) (ss : List SinkStand) → StandsAt k b o → o ≡ Some s → j ≡ k → has_ended_at (cons_option o ss) j ≡ has_ended s.2
ended_first k j b None s ss h e is = absurd cc
ended_first k j b (Some t) s ss h e is = let same : t ≡ s = cc in take_this t ss j (stand_number k b t h ∙ sym is) ∙ ap (λ (x : SinkStand). has_ended x.2) same

pub ended_along : {S D L H B : Type 0} (k : ℕ) (ns : List blue.Node) (xs : List (IslandNode S D L H B)) → length ns ≡ length xs → ((i : ℕ) (n : blue.Node) (x : IslandNode S D L H B) → slice_get ns i ≡ Some n → slice_get xs i ≡ Some x → StandsAt (k + i) (is_sink n) (stand_in x))
    → (i j : ℕ) (x : IslandNode S D L H B) (s : SinkStand) → j ≡ k + i → slice_get xs i ≡ Some x → stand_in x ≡ Some s → has_ended_at (filter_map stand_in xs) j ≡ has_ended s.2
ended_along k ns [] e p i j x s is at stands = absurd cc
ended_along k [] (y ∷ ys) e p i j x s is at stands = absurd (omega (arith, e))
ended_along k (n ∷ ns) (y ∷ ys) e p zero j x s is at stands =
    let same : y ≡ x = cc in
    let here : StandsAt k (is_sink n) (stand_in y) = subst (λ m. StandsAt m (is_sink n) (stand_in y)) (omega arith) (p 0 n y refl refl) in
    ended_first k j (is_sink n) (stand_in y) s (filter_map stand_in ys) here (ap stand_in same ∙ stands) (omega (arith, is))
ended_along k (n ∷ ns) (y ∷ ys) e p (suc i) j x s is at stands =
    let here : StandsAt k (is_sink n) (stand_in y) = subst (λ m. StandsAt m (is_sink n) (stand_in y)) (omega arith) (p 0 n y refl refl) in
    numbered_by k j (stand_in y) (filter_map stand_in ys) (is_sink n) here (λ same. absurd (omega (arith, is, same)))
    ∙ ended_along (k + 1) ns ys (omega (arith, e)) (λ l m z a b. subst (λ q. StandsAt q (is_sink m) (stand_in z)) (omega arith) (p (suc l) m z a b)) i j x s (omega (arith, is)) at stands
