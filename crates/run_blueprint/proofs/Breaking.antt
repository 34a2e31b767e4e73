-- A run in which memory was wanting: its island was taken apart, and its handles were closed.
use Rattle.std.proofs.Common.{◌≡◌, ◌⊎◌, inl, inr, ℕ, zero, suc, ◌+◌, ◌-◌, ◌≤◌, List, [], ◌∷◌, ◌++◌, map, length, slice_get, refl, sym, ap, ◌∙◌, subst, arith}
use Rattle.std.specs.Prelude.{IsTrue, Option, Some, None}
use Rattle.std.specs.Option.{option_map, option_to_list}
use Rattle.std.specs.List.{Contains}
use Rattle.std.proofs.lemmas.List.{append-nil, length-map, length-append}
use Rattle.elem_core.specs.Prefix.{IsPrefix}
use Rattle.elem_core.specs.Text.{text_lines}
use Rattle.elem_core.specs.Tree.{Tree}
use Rattle.elem_core.proofs.Prefixes.{prefix_refl}
use Rattle.stream_model.specs.declared.outcome.EndState.{EndState}
use Rattle.stream_model.specs.declared.outcome.EndState.TheVariants.{Ended, Failed, Unended, WriteFault}
use Rattle.stream_model.specs.Graph.{Graph}
use Rattle.stream_model.specs.Node.{World}
use Rattle.stream_model.specs.Outlook.{Outlook}
use Rattle.stream_model.specs.Composed.{IsRanked, sink_outlook}
use Rattle.stream_io.specs.Counts.{Grew}
use Rattle.stream_io.specs.State.{FolderState, SourceState, DrainState, ClosesDrain}
use Rattle.fused_net.specs.Laws.{AllKept}
use Rattle.nodes.specs.Keeping.{KeepsSource, KeepsDrain, KeepsEnd}
use Rattle.nodes.specs.Nodes.{KeepsNode, node_end}
use Rattle.nodes.specs.Source.{Lines}
use Rattle.nodes.specs.Sink.{Sink}
use Rattle.nodes.specs.declared.node.IslandNode.{IslandNode}
use Rattle.nodes.specs.declared.node.IslandNode.TheVariants as node
use Rattle.nodes.specs.declared.node.NodeEnd.{NodeEnd}
use Rattle.nodes.specs.declared.node.NodeEnd.TheVariants.{Read, Staged, Wrote}
use Rattle.nodes.proofs.Drawings.{text_lines-append}
use Rattle.interpreter.specs.declared.island.IslandEnd.{IslandEnd}
use Rattle.run_laws.specs.Account.{Account}
use Rattle.run_laws.specs.Runs.{IsRun}
use Rattle.run_laws.specs.Sinks.{SinkTells, SinkWrote}
use Rattle.stream_model.specs.declared.blueprint.Blueprint.{Blueprint}
use Rattle.stream_model.specs.declared.blueprint.Node as blue
use Rattle.blue_check.specs.Fitness.{IsFit}
use Rattle.stream_model.specs.Known.{HeadLists}
use Rattle.materializer.specs.Fit.{CanRun}
use Rattle.materializer.specs.Files.{output_of, inputs_of_nodes, outputs_of_nodes}
use Rattle.materializer.specs.Graphs.{graph_node, graph_of}
use Rattle.stream_io.specs.Opening.{OpensAll, GivesUp}
use Rattle.stream_io.specs.Closing.{ClosesAll}
use Rattle.stream_io.proofs.Stoppings.{gives_up}
use Rattle.stream_io.proofs.Closings.{adds_more, adds_behind, keeps_more}
use Rattle.stream_io.specs.Names.{drain_names}
use Rattle.run_blueprint.specs.Drawing.{Drawn, IsSource, IsWorldOf}
use Rattle.island_runs.specs.Leaving.{Moment, LeavesBroken, HasHandles, HasAsMany}
use Rattle.run_blueprint.specs.Opening.{Opens, ClosesAs}
use Rattle.run_blueprint.specs.Tracing.{written_files, IsApart}
use Rattle.run_blueprint.specs.Running.{WasReadOn, SinkBreaks, BreaksFiles, WantsWithin}
use Rattle.run_blueprint.proofs.Places.{mapped_at}
use Rattle.run_blueprint.proofs.Profiles.{reader_in, writer_in, Profile}
use Rattle.run_blueprint.proofs.Worlds.{world_of}
use Rattle.run_blueprint.proofs.Handles.{HandleLaws, source_facts, sink_facts, profiles, as_many}
use Rattle.run_blueprint.proofs.Counts.{contains_or_not}
use Rattle.run_blueprint.proofs.Shuts.{Shuts}
use Rattle.run_blueprint.proofs.Traces.{LeftEmpty, listed, unlisted, lone_of, map_taken}
use Rattle.run_blueprint.proofs.Shutting.{TakenApart, unwritten, read_grew, faults_grew, writes_grew, file_held, other_files, other_reads, other_writes, other_draws, refused, tells_old, readers_many, writers_many}
use Rattle.run_blueprint.proofs.Drawns.{drawn_of, made_moves, picks_stand, Draws, draws_all, reads_of}
use Rattle.run_blueprint.proofs.RunLaws.{WroteLaw}
use Rattle.run_blueprint.proofs.Closing.{stands_writes}
use Rattle.stream_model.specs.Linear.{Book}

-- ---- a first part of a text

prefix_text : (l m : List Tree) → IsPrefix l m → IsPrefix (text_lines l) (text_lines m)
prefix_text l m p = record { rest = text_lines p.rest; is = ap text_lines p.is ∙ text_lines-append l p.rest }

-- what a sink may write is a first part of the text of all that may pass
part_of : (o : Outlook) (e : EndState) (bytes : List ℕ) → SinkTells o e bytes → IsPrefix bytes (text_lines o.list)
part_of o Ended bytes h = subst (λ (x : List ℕ). IsPrefix x (text_lines o.list)) (sym (h.is ∙ ap text_lines h.agrees.1)) (prefix_refl (text_lines o.list))
part_of o (Failed c) bytes h = subst (λ (x : List ℕ). IsPrefix x (text_lines o.list)) (sym h.is) (prefix_text h.list o.list h.agrees.0)
part_of o Unended bytes h = subst (λ (x : List ℕ). IsPrefix x (text_lines o.list)) (sym h.is) (prefix_text h.list o.list h.agrees)
part_of o WriteFault bytes h = h

-- ---- the handles that a node leaves

abbrev read_end : {S D : Type 0} → NodeEnd S D → Option S
read_end (Read s) = Some s
read_end Staged = None
read_end (Wrote x) = None

abbrev drain_end : {S D : Type 0} → NodeEnd S D → Option D
drain_end (Read s) = None
drain_end Staged = None
drain_end (Wrote x) = x.drain

reader_ends : {S D L H B : Type 0} (x : IslandNode S D L H B) → reader_in x ≡ read_end (node_end x)
reader_ends (node.Reading x) = refl
reader_ends (node.Making x) = refl
reader_ends (node.Linear x) = refl
reader_ends (node.State x) = refl
reader_ends (node.Sub x) = refl
reader_ends (node.FanIn x) = refl
reader_ends (node.FanOut x) = refl
reader_ends (node.Custom x) = refl
reader_ends (node.Writing x) = refl
reader_ends (node.Ignoring x) = refl
reader_ends (node.Entering x) = refl
reader_ends (node.Leaving x) = refl

writer_ends : {S D L H B : Type 0} (x : IslandNode S D L H B) → writer_in x ≡ drain_end (node_end x)
writer_ends (node.Reading x) = refl
writer_ends (node.Making x) = refl
writer_ends (node.Linear x) = refl
writer_ends (node.State x) = refl
writer_ends (node.Sub x) = refl
writer_ends (node.FanIn x) = refl
writer_ends (node.FanOut x) = refl
writer_ends (node.Custom x) = refl
writer_ends (node.Writing x) = refl
writer_ends (node.Ignoring x) = refl
writer_ends (node.Entering x) = refl
writer_ends (node.Leaving x) = refl

keeps_self : (s : SourceState) → KeepsSource s s
keeps_self s = record { name = refl; whole = refl; given = omega arith; ahead = omega arith; faults = refl }

abbrev source_name : {S : Type 0} → (S → SourceState) → S → List ℕ
source_name sources s = (sources s).name

abbrev drain_name : {D : Type 0} → (D → DrainState) → D → List ℕ
drain_name drains d = (drains d).name

-- what a node leaves has the name of its handle
module _ {S D : Type 0} (sources : S → SourceState) (drains : D → DrainState) where
  drains_named : (o p : Option D) → KeepsDrain sources drains o p → option_map (drain_name drains) p ≡ option_map (drain_name drains) o
  drains_named None None k = refl
  drains_named (Some d) (Some e) k = ap (λ (s : DrainState). Some s.name) k
  drains_named None (Some e) k = absurd k
  drains_named (Some d) None k = absurd k

  read_named : (p q : NodeEnd S D) → KeepsEnd sources drains p q → option_map (source_name sources) (read_end q) ≡ option_map (source_name sources) (read_end p)
  read_named (Read s) (Read t) k = ap Some k.name
  read_named Staged Staged k = refl
  read_named (Wrote x) (Wrote y) k = refl
  read_named p q k = absurd k

  written_named : (p q : NodeEnd S D) → KeepsEnd sources drains p q → option_map (drain_name drains) (drain_end q) ≡ option_map (drain_name drains) (drain_end p)
  written_named (Read s) (Read t) k = refl
  written_named Staged Staged k = refl
  written_named (Wrote x) (Wrote y) k = drains_named x.drain y.drain k
  written_named p q k = absurd k

module _ {S D L H B : Type 0} (sources : S → SourceState) (drains : D → DrainState) where
  -- a node is the same, or it has kept what outlives want of memory
  abbrev Kept : IslandNode S D L H B → IslandNode S D L H B → Type 0
  Kept x y = (y ≡ x) ⊎ KeepsNode sources drains x y

  -- its handle has the same name
  reads_same : (x y : IslandNode S D L H B) → Kept x y → option_map (source_name sources) (reader_in y) ≡ option_map (source_name sources) (reader_in x)
  reads_same x y (inl e) = ap (λ (z : IslandNode S D L H B). option_map (source_name sources) (reader_in z)) e
  reads_same x y (inr k) = ap (option_map (source_name sources)) (reader_ends y) ∙ read_named sources drains (node_end x) (node_end y) k.ends ∙ ap (option_map (source_name sources)) (sym (reader_ends x))

  writes_same : (x y : IslandNode S D L H B) → Kept x y → option_map (drain_name drains) (writer_in y) ≡ option_map (drain_name drains) (writer_in x)
  writes_same x y (inl e) = ap (λ (z : IslandNode S D L H B). option_map (drain_name drains) (writer_in z)) e
  writes_same x y (inr k) = ap (option_map (drain_name drains)) (writer_ends y) ∙ written_named sources drains (node_end x) (node_end y) k.ends ∙ ap (option_map (drain_name drains)) (sym (writer_ends x))

  -- a source is still there, as far as it was read
  reading_by : (x : Lines S) (y : IslandNode S D L H B) → KeepsNode sources drains (node.Reading x) y → (z : Lines S) × ((y ≡ node.Reading z) × KeepsSource (sources x.reader.source) (sources z.reader.source))
  reading_by x (node.Reading z) k = (z, (refl, k.ends))
  reading_by x y k = absurd k.ends

  reading_kept : (x : Lines S) (y : IslandNode S D L H B) → Kept (node.Reading x) y → (z : Lines S) × ((y ≡ node.Reading z) × KeepsSource (sources x.reader.source) (sources z.reader.source))
  reading_kept x y (inl e) = (x, (e, keeps_self (sources x.reader.source)))
  reading_kept x y (inr k) = reading_by x y k

  -- and a drain has what it had
  writing_by : (x : Sink D) (y : IslandNode S D L H B) → KeepsNode sources drains (node.Writing x) y → (z : Sink D) × ((y ≡ node.Writing z) × (drains z.drain ≡ drains x.drain))
  writing_by x (node.Writing z) k = (z, (refl, k.ends))
  writing_by x y k = absurd k.ends

  writing_kept : (x : Sink D) (y : IslandNode S D L H B) → Kept (node.Writing x) y → (z : Sink D) × ((y ≡ node.Writing z) × (drains z.drain ≡ drains x.drain))
  writing_kept x y (inl e) = (x, (e, refl))
  writing_kept x y (inr k) = writing_by x y k

  -- the nodes by their places
  kept_many : (xs ys : List (IslandNode S D L H B)) → AllKept (KeepsNode sources drains) xs ys → length xs ≡ length ys
  kept_many [] [] k = refl
  kept_many [] (y ∷ ys) k = absurd k
  kept_many (x ∷ xs) [] k = absurd k
  kept_many (x ∷ xs) (y ∷ ys) k = ap suc (kept_many xs ys k.1)

  kept_at : (xs ys : List (IslandNode S D L H B)) (i : ℕ) (x : IslandNode S D L H B) → AllKept (KeepsNode sources drains) xs ys → slice_get xs i ≡ Some x → (y : IslandNode S D L H B) × ((slice_get ys i ≡ Some y) × Kept x y)
  kept_at [] ys i x k e = absurd cc
  kept_at (z ∷ xs) [] i x k e = absurd k
  kept_at (z ∷ xs) (y ∷ ys) zero x k e = let same : z ≡ x = cc in (y, (refl, subst (λ (w : IslandNode S D L H B). Kept w y) same k.0))
  kept_at (z ∷ xs) (y ∷ ys) (suc i) x k e = kept_at xs ys i x k.1 e

  kept_from : (xs ys : List (IslandNode S D L H B)) (i : ℕ) (y : IslandNode S D L H B) → AllKept (KeepsNode sources drains) xs ys → slice_get ys i ≡ Some y → (x : IslandNode S D L H B) × ((slice_get xs i ≡ Some x) × Kept x y)
  kept_from xs [] i y k e = absurd cc
  kept_from [] (z ∷ ys) i y k e = absurd k
  kept_from (x ∷ xs) (z ∷ ys) zero y k e = let same : z ≡ y = cc in (x, (refl, subst (λ (w : IslandNode S D L H B). Kept x w) same k.0))
  kept_from (x ∷ xs) (z ∷ ys) (suc i) y k e = kept_from xs ys i y k.1 e

-- ---- what the run leaves

module _ {S D L H B : Type 0} (sources : S → SourceState) (drains : D → DrainState) (book : Book) (handles : HandleLaws L H B sources drains book) (wrote_law : WroteLaw L H B sources drains book)
    (ranked_law : (b : Blueprint) (heads : HeadLists) (taken : List (List ℕ)) → IsFit b heads taken → (rank : ℕ → ℕ) × IsRanked (graph_of b) rank)
    (b : Blueprint) (can : CanRun b) (ss : List S) (ds : List D) (e : IslandEnd S D) (l : LeavesBroken L H B sources drains book b ss ds e)
    (old mid : FolderState) (trace : Option (List ℕ)) (separate : IsApart b trace) (opens : Opens old mid (inputs_of_nodes b.nodes.items) (outputs_of_nodes b.nodes.items) (option_to_list trace) (map sources ss) (map drains ds)) (new : FolderState)
    (closes : Shuts mid new (option_to_list trace) (map sources e.readers.items) (map drains e.writers.items)) where
  abbrev nodes : List blue.Node
  nodes = b.nodes.items

  abbrev left : Account (IslandNode S D L H B)
  left = l.account

  abbrev last : List (IslandNode S D L H B)
  last = l.last

  abbrev final : List (IslandNode S D L H B)
  final = l.nodes

  abbrev g : Graph
  g = graph_of b

  abbrev between : Moment sources drains book b ss ds left last
  between = l.moment

  run : IsRun sources drains book g left
  run = l.moment.run

  profile : (k : ℕ) (n : blue.Node) (x : IslandNode S D L H B) → slice_get nodes k ≡ Some n → slice_get last k ≡ Some x → Profile sources drains k n x
  profile = profiles sources drains book handles b ss ds left last between old mid opens

  lone : (n : List ℕ) → Contains (outputs_of_nodes nodes) n → Contains (option_to_list trace) n → ⊥
  lone = lone_of b trace separate

  apart : TakenApart sources drains b final e.readers.items e.writers.items
  apart = record {
    as_many = as_many sources drains book handles b ss ds left last between old mid opens ∙ kept_many sources drains last final l.kept;
    input = λ k n y at here. let f = kept_from sources drains last final k y l.kept here in (profile k n f.0 at f.1.0).input ∙ sym (reads_same sources drains f.0 y f.1.1);
    output = λ k n y at here. let f = kept_from sources drains last final k y l.kept here in (profile k n f.0 at f.1.0).output ∙ sym (writes_same sources drains f.0 y f.1.1);
    readers_are = l.readers;
    writers_are = l.writers;
  }

  -- the trace's file, as it was left where none of the sinks' drains has its name
  abbrev Emptied : Type 0
  Emptied = ((n : List ℕ) → Contains (option_to_list trace) n → Contains (drain_names (map drains e.writers.items)) n → ⊥) → (t : List ℕ) → trace ≡ Some t → LeftEmpty old new t

  trace_left : Emptied → (t : List ℕ) → trace ≡ Some t → LeftEmpty old new t
  trace_left ended = ended (unwritten sources drains b can final e.readers.items e.writers.items apart old mid _ _ opens new closes lone)

  -- all of them
  pub closes_broken : HasAsMany ss ds e
  closes_broken = record {
    readers = readers_many sources drains b final e.readers.items e.writers.items apart ss opens.input_names;
    writers = writers_many sources drains b final e.readers.items e.writers.items apart ds opens.output_names;
  }

  abbrev drawn : Drawn
  drawn = drawn_of sources (graph_of b) left last

  module _ (tells_was : IsTrue old.tells) where
    drew : Draws sources drains book handles b can ss ds left last between old mid opens
    drew = draws_all sources drains book handles b can ss ds left last between old mid opens tells_was

    source_breaks : (k : ℕ) (file : List ℕ) → IsSource nodes k file → WasReadOn old new file (drawn.bytes k) (drawn.given k) (drawn.faulted k)
    source_breaks k file is =
        let f = source_facts sources drains book handles b ss ds left last between old mid opens k file is in
        let y = kept_at sources drains last final k (node.Reading f.now) l.kept f.at in
        let z = reading_kept sources drains f.now y.0 y.1.1 in
        let here : slice_get final k ≡ Some (node.Reading z.0) = y.1.0 ∙ ap Some z.1.0 in
        let named : (sources z.0.reader.source).name ≡ file = z.1.1.name ∙ f.law.name ∙ f.first_named in
        let given = (drew.source k file f).given in
        let read = read_grew sources drains b can final e.readers.items e.writers.items apart old mid _ _ opens new closes lone k file z.0 here named in
        let faults = faults_grew sources drains b can final e.readers.items e.writers.items apart old mid _ _ opens new closes lone k file z.0 here named in
        record {
          more = (sources z.0.reader.source).given;
          given_less = subst (λ (m : ℕ). m ≤ (sources z.0.reader.source).given) (sym given) z.1.1.given;
          ahead = subst (λ (m : ℕ). (sources z.0.reader.source).given ≤ m + 69632) (sym given) z.1.1.ahead;
          read = reads_of sources drains book handles b can ss ds left last between old mid opens tells_was k file f new (sources z.0.reader.source).given read
              (subst (λ (m : ℕ). Grew (old.rfaults file) m (new.rfaults file)) z.1.1.faults faults);
        }

    sink_breaks : (k : ℕ) (n : blue.Node) (file : List ℕ) → slice_get nodes k ≡ Some n → output_of n.kind ≡ Some file → SinkBreaks book old new b drawn k n file
    sink_breaks k n file at shape =
        let f = sink_facts sources drains book handles b ss ds left last between old mid opens k file (record { node = n; at = at; file_is = shape }) in
        let y = kept_at sources drains last final k (node.Writing f.now) l.kept f.at in
        let z = writing_kept sources drains f.now y.0 y.1.1 in
        let here : slice_get final k ≡ Some (node.Writing z.0) = y.1.0 ∙ ap Some z.1.0 in
        let named : (drains z.0.drain).name ≡ file = ap (λ (s : DrainState). s.name) z.1.1 ∙ f.law.name ∙ f.first_named in
        let wrote : SinkWrote sources drains book g left k (graph_node b.wires.items n) f.first f.now = wrote_law g left run k (graph_node b.wires.items n) f.first f.now (mapped_at (graph_node b.wires.items) nodes k n at) f.there in
        let ranked = ranked_law b can.heads can.taken can.fit in
        let tells : (w : World) → IsWorldOf book nodes drawn w → SinkTells (sink_outlook g w k (graph_node b.wires.items n)) f.now.end wrote.written = λ w is. wrote.tells w ranked.0 is.book_is (drew.tells w is) ranked.1 in
        let grew = writes_grew sources drains b can final e.readers.items e.writers.items apart old mid _ _ opens new closes lone k file z.0 here named in
        record {
          held = wrote.written;
          end = f.now.end;
          there = λ told.
              file_held sources drains b can final e.readers.items e.writers.items apart old mid _ _ opens new closes lone k file z.0 here named told
              ∙ ap (λ (s : DrainState). s.holds) z.1.1
              ∙ wrote.holds (f.start.holds (closes.told told));
          tells = tells;
          part = λ w is. part_of (sink_outlook g w k (graph_node b.wires.items n)) f.now.end wrote.written (tells w is);
          writes = stands_writes f.now.end f.now.gather (drains f.first.drain) (drains f.now.drain) f.law.wrote f.now.count (old.wfaults file) (new.wfaults file) f.law.stands f.start.faults
              (subst (λ (s : DrainState). Grew (old.wfaults file) s.faults (new.wfaults file)) z.1.1 grew);
        }

    breaks_files : Emptied → BreaksFiles book old new b trace
    breaks_files ended = record {
      drawn = drawn;
      chose = picks_stand sources drains book handles b can ss ds left last between old mid opens;
      read = source_breaks;
      world = world_of book nodes drawn (made_moves sources drains book handles b can ss ds left last between old mid opens);
      has_files = drew.has_files;
      sink = sink_breaks;
      others = λ tells n never aside. other_files sources drains b can final e.readers.items e.writers.items apart old mid _ _ opens new closes lone tells n never (unlisted trace n aside);
      empty = λ tells t is. (trace_left ended t is).empty tells;
    }

  other_calm : Emptied → (n : List ℕ) → (Contains (outputs_of_nodes nodes) n → ⊥) → Grew (old.wfaults n) 0 (new.wfaults n)
  other_calm ended n never = elim (contains_or_not (option_to_list trace) n) [
    | inl c ↦ ((trace_left ended n (listed trace n c)).calm)
    | inr aside ↦ (other_writes sources drains b can final e.readers.items e.writers.items apart old mid _ _ opens new closes lone n never aside)
  ]

  pub wants_within : Emptied → WantsWithin book old new b trace
  wants_within ended = record {
    told = tells_old sources drains b can final e.readers.items e.writers.items apart old mid _ _ opens new closes lone;
    leaves = λ tells. breaks_files tells ended;
    refusals = refused sources drains b can final e.readers.items e.writers.items apart old mid _ _ opens new closes lone;
    reads = other_reads sources drains b can final e.readers.items e.writers.items apart old mid _ _ opens new closes lone;
    other_writes = other_calm ended;
    other_draws = other_draws sources drains b can final e.readers.items e.writers.items apart old mid _ _ opens new closes lone;
  }

-- ---- before the run

-- what was opened was closed as it was
pub unmade : {S D : Type 0} (sources : S → SourceState) (drains : D → DrainState) (old mid new : FolderState) (b : Blueprint) (trace : Option (List ℕ)) (ss : List S) (all ds : List D) (o : Option D) (e : IslandEnd S D)
    → OpensAll old mid (inputs_of_nodes b.nodes.items) (written_files b trace) (map sources ss) (map drains all) → all ≡ ds ++ option_to_list o → HasHandles sources drains ss ds e → ClosesAll mid new (map sources e.readers.items) (map drains e.writers.items ++ option_to_list (option_map drains o))
    → GivesUp old new (written_files b trace)
unmade sources drains old mid new b trace ss all ds o e opens taken h closes =
    let written : map drains e.writers.items ++ option_to_list (option_map drains o) ≡ map drains all = ap (λ l. l ++ option_to_list (option_map drains o)) h.writers ∙ sym (ap (map drains) taken ∙ map_taken drains ds o) in
    let closed : ClosesAll mid new (map sources ss) (map drains e.writers.items ++ option_to_list (option_map drains o)) = subst (λ is. ClosesAll mid new is (map drains e.writers.items ++ option_to_list (option_map drains o))) h.readers closes in
    gives_up old mid new (written_files b trace) (map sources ss) (map drains all)
    (record {
      inputs = inputs_of_nodes b.nodes.items;
      before = written_files b trace;
      after = [];
      place = sym (append-nil (written_files b trace));
      mid = mid;
      opens = opens;
      files = record { telling = refl; files = λ told n. refl };
      faults = record { read = λ n. refl; rfaults = λ n. refl; wfaults = λ n. refl };
      refusals = λ n. refl;
    })
    (subst (λ os. ClosesAll mid new (map sources ss) os) written closed)

same_many : {X Y : Type 0} (f : X → Y) (xs ys : List X) → map f xs ≡ map f ys → length xs ≡ length ys
same_many f xs ys e = sym (length-map xs f) ∙ ap length e ∙ length-map ys f

pub closes_unmade : {S D : Type 0} (sources : S → SourceState) (drains : D → DrainState) (ss : List S) (ds : List D) (e : IslandEnd S D) → HasHandles sources drains ss ds e → HasAsMany ss ds e
closes_unmade sources drains ss ds e h = record { readers = same_many sources e.readers.items ss h.readers; writers = same_many drains e.writers.items ds h.writers }

-- the handles that were opened were closed
pub none_open : {S D : Type 0} (ss : List S) (all ds : List D) (o : Option D) (e : IslandEnd S D) (old mid new : ℕ) → mid ≡ old + (length ss + length all) → all ≡ ds ++ option_to_list o → HasAsMany ss ds e → new ≡ mid - (length e.readers.items + length e.writers.items + length (option_to_list o)) → new ≡ old
none_open ss all ds o e old mid new opened taken many closed =
    let size : length all ≡ length ds + length (option_to_list o) = ap length taken ∙ length-append ds (option_to_list o) in
    let readers : length e.readers.items ≡ length ss = many.readers in
    let writers : length e.writers.items ≡ length ds = many.writers in
    omega (arith, opened, size, readers, writers, closed)

-- the drain of the trace was closed too
closes_more : (s t u : FolderState) (is : List SourceState) (os : List DrainState) (o : DrainState) → ClosesAll s t is os → ClosesDrain t u o → ClosesAll s u is (os ++ o ∷ [])
closes_more s t u is os o c d = record {
  read = adds_behind (λ (i : SourceState). i.name) (λ (i : SourceState). i.given) is s.read t.read u.read c.read d.read;
  rfaults = adds_behind (λ (i : SourceState). i.name) (λ (i : SourceState). i.faults) is s.rfaults t.rfaults u.rfaults c.rfaults d.rfaults;
  wfaults = adds_more (λ (p : DrainState). p.name) (λ (p : DrainState). p.faults) os o s.wfaults t.wfaults u.wfaults c.wfaults d.wfaults d.other_wfaults;
  files = keeps_more s t u os o c.files d;
  refusals = λ n. d.refusals n ∙ c.refusals n;
}

pub closes_with : (s t u : FolderState) (is : List SourceState) (os : List DrainState) (o : Option DrainState) → ClosesAll s t is os → ClosesAs t u o → ClosesAll s u is (os ++ option_to_list o)
closes_with s t u is os None c d = subst (λ l. ClosesAll s u is l) (sym (append-nil os)) (subst (λ v. ClosesAll s v is os) (sym d) c)
closes_with s t u is os (Some o) c d = closes_more s t u is os o c d
