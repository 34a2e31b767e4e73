-- The folder once the handles of an island that was taken apart were closed, by the names of the files of its blueprint.
use Rattle.std.proofs.Common.{◌≡◌, ℕ, List, map, length, slice_get, refl, sym, ap, ◌∙◌, subst}
use Rattle.std.proofs.lemmas.List.{length-map}
use Rattle.std.specs.Prelude.{IsTrue, Some}
use Rattle.std.specs.Option.{option_map}
use Rattle.std.specs.List.{Contains}
use Rattle.stream_io.specs.Counts.{Grew}
use Rattle.stream_io.specs.State.{FolderState, SourceState, DrainState}
use Rattle.nodes.specs.Source.{Lines}
use Rattle.nodes.specs.Sink.{Sink}
use Rattle.nodes.specs.declared.node.IslandNode.{IslandNode}
use Rattle.nodes.specs.declared.node.IslandNode.TheVariants as node
use Rattle.interpreter.specs.Island.{readers_of, writers_of}
use Rattle.stream_model.specs.declared.blueprint.Blueprint.{Blueprint}
use Rattle.stream_model.specs.declared.blueprint.Node as blue
use Rattle.materializer.specs.Fit.{CanRun}
use Rattle.materializer.specs.Files.{source_file, output_of, inputs_of_nodes, outputs_of_nodes}
use Rattle.stream_io.specs.Names.{source_names, drain_names, DistinctNames}
use Rattle.run_blueprint.specs.Opening.{Opens}
use Rattle.run_blueprint.proofs.Shuts.{Shuts}
use Rattle.stream_io.proofs.Counts.{grew_same}
use Rattle.run_blueprint.proofs.Places.{all_at, mapped_at, filtered_at, filtered_along, map_two}
use Rattle.run_blueprint.proofs.Counts.{grew_behind}
use Rattle.run_blueprint.proofs.Apart.{inputs_distinct, outputs_distinct}
use Rattle.run_blueprint.proofs.Profiles.{reader_in, writer_in, readers_filtered, writers_filtered}

-- these nodes have the names of the files of their nodes in the blueprint, and these are their handles
pub record TakenApart {S D L H B : Type 0} (sources : S → SourceState) (drains : D → DrainState) (b : Blueprint) (final : List (IslandNode S D L H B)) (readers : List S) (writers : List D) : Type 0 where
  pub as_many : length b.nodes.items ≡ length final
  pub input : (k : ℕ) (n : blue.Node) (x : IslandNode S D L H B) → slice_get b.nodes.items k ≡ Some n → slice_get final k ≡ Some x → source_file n.kind ≡ option_map (λ s. (sources s).name) (reader_in x)
  pub output : (k : ℕ) (n : blue.Node) (x : IslandNode S D L H B) → slice_get b.nodes.items k ≡ Some n → slice_get final k ≡ Some x → output_of n.kind ≡ option_map (λ d. (drains d).name) (writer_in x)
  pub readers_are : readers ≡ readers_of final
  pub writers_are : writers ≡ writers_of final

-- lists whose elements have the same names
many_names : {X Y : Type 0} (f : X → Y) (name : Y → List ℕ) (xs ys : List X) → map name (map f xs) ≡ map name (map f ys) → length xs ≡ length ys
many_names f name xs ys e = sym (length-map xs f) ∙ sym (length-map (map f xs) name) ∙ ap length e ∙ length-map (map f ys) name ∙ length-map ys f

module _ {S D L H B : Type 0} (sources : S → SourceState) (drains : D → DrainState) (b : Blueprint) (final : List (IslandNode S D L H B)) (readers : List S) (writers : List D) (apart : TakenApart sources drains b final readers writers) where
  -- the readers have the names of the inputs, and the drains those of the outputs
  reader_names : source_names (map sources readers) ≡ inputs_of_nodes b.nodes.items
  reader_names =
      map_two (λ (i : SourceState). i.name) sources readers
      ∙ ap (map (λ (s : S). (sources s).name)) (apart.readers_are ∙ readers_filtered final)
      ∙ sym (filtered_along (λ (n : blue.Node). source_file n.kind) reader_in (λ (s : S). (sources s).name) b.nodes.items final apart.as_many apart.input)

  writer_names : drain_names (map drains writers) ≡ outputs_of_nodes b.nodes.items
  writer_names =
      map_two (λ (o : DrainState). o.name) drains writers
      ∙ ap (map (λ (d : D). (drains d).name)) (apart.writers_are ∙ writers_filtered final)
      ∙ sym (filtered_along (λ (n : blue.Node). output_of n.kind) writer_in (λ (d : D). (drains d).name) b.nodes.items final apart.as_many apart.output)

  -- so there are as many as were handed in
  pub readers_many : (ss : List S) → source_names (map sources ss) ≡ inputs_of_nodes b.nodes.items → length readers ≡ length ss
  readers_many ss e = many_names sources (λ (i : SourceState). i.name) readers ss (reader_names ∙ sym e)

  pub writers_many : (ds : List D) → drain_names (map drains ds) ≡ outputs_of_nodes b.nodes.items → length writers ≡ length ds
  writers_many ds e = many_names drains (λ (o : DrainState). o.name) writers ds (writer_names ∙ sym e)

module _ {S D L H B : Type 0} (sources : S → SourceState) (drains : D → DrainState) (b : Blueprint) (can : CanRun b) (final : List (IslandNode S D L H B)) (readers : List S) (writers : List D) (apart : TakenApart sources drains b final readers writers)
    (old mid : FolderState) (is : List SourceState) (os : List DrainState) {others : List (List ℕ)} (opens : Opens old mid (inputs_of_nodes b.nodes.items) (outputs_of_nodes b.nodes.items) others is os) (new : FolderState) (closes : Shuts mid new others (map sources readers) (map drains writers))
    (lone : (n : List ℕ) → Contains (outputs_of_nodes b.nodes.items) n → Contains others n → ⊥) where
  abbrev nodes : List blue.Node
  nodes = b.nodes.items

  readers_named : source_names (map sources readers) ≡ inputs_of_nodes nodes
  readers_named = reader_names sources drains b final readers writers apart

  writers_named : drain_names (map drains writers) ≡ outputs_of_nodes nodes
  writers_named = writer_names sources drains b final readers writers apart

  readers_distinct : DistinctNames (source_names (map sources readers))
  readers_distinct = subst DistinctNames (sym readers_named) (inputs_distinct b can.heads can.taken can.fit)

  writers_distinct : DistinctNames (drain_names (map drains writers))
  writers_distinct = subst DistinctNames (sym writers_named) (outputs_distinct b can.heads can.taken can.fit)

  writers_lone : (n : List ℕ) → Contains (drain_names (map drains writers)) n → Contains others n → ⊥
  writers_lone n c = lone n (subst (λ (l : List (List ℕ)). Contains l n) writers_named c)

  pub unwritten : (n : List ℕ) → Contains others n → Contains (drain_names (map drains writers)) n → ⊥
  unwritten n aside c = writers_lone n c aside

  module _ (k : ℕ) (file : List ℕ) (x : Lines S) (at : slice_get final k ≡ Some (node.Reading x)) (named : (sources x.reader.source).name ≡ file) where
    -- the reader of a source is among those that were closed
    reader_closed : (i : ℕ) × (slice_get (map sources readers) i ≡ Some (sources x.reader.source))
    reader_closed =
        let found = filtered_at reader_in final k (node.Reading x) x.reader.source at refl in
        let among : slice_get readers found.0 ≡ Some x.reader.source = subst (λ (r : List S). slice_get r found.0 ≡ Some x.reader.source) (sym (apart.readers_are ∙ readers_filtered final)) found.1 in
        (found.0, mapped_at sources readers found.0 x.reader.source among)

    -- what was read, and the reads that failed
    pub read_grew : Grew (old.read file) (sources x.reader.source).given (new.read file)
    read_grew =
        let grew = all_at (λ (i : SourceState). Grew (mid.read i.name) i.given (new.read i.name)) (map sources readers) reader_closed.0 (sources x.reader.source) (closes.read_each readers_distinct) reader_closed.1 in
        subst (λ m. Grew m (sources x.reader.source).given (new.read file)) (opens.read file)
        (subst (λ n. Grew (mid.read n) (sources x.reader.source).given (new.read n)) named grew)

    pub faults_grew : Grew (old.rfaults file) (sources x.reader.source).faults (new.rfaults file)
    faults_grew =
        let grew = all_at (λ (i : SourceState). Grew (mid.rfaults i.name) i.faults (new.rfaults i.name)) (map sources readers) reader_closed.0 (sources x.reader.source) (closes.rfaults_each readers_distinct) reader_closed.1 in
        grew_behind (old.rfaults file) (mid.rfaults file) (new.rfaults file) (sources x.reader.source).faults (opens.rfaults file)
        (subst (λ n. Grew (mid.rfaults n) (sources x.reader.source).faults (new.rfaults n)) named grew)

  module _ (k : ℕ) (file : List ℕ) (x : Sink D) (at : slice_get final k ≡ Some (node.Writing x)) (named : (drains x.drain).name ≡ file) where
    -- and so is the drain of a sink
    drain_closed : (i : ℕ) × (slice_get (map drains writers) i ≡ Some (drains x.drain))
    drain_closed =
        let found = filtered_at writer_in final k (node.Writing x) x.drain at refl in
        let among : slice_get writers found.0 ≡ Some x.drain = subst (λ (r : List D). slice_get r found.0 ≡ Some x.drain) (sym (apart.writers_are ∙ writers_filtered final)) found.1 in
        (found.0, mapped_at drains writers found.0 x.drain among)

    pub writes_grew : Grew (old.wfaults file) (drains x.drain).faults (new.wfaults file)
    writes_grew =
        let grew = all_at (λ (o : DrainState). Grew (mid.wfaults o.name) o.faults (new.wfaults o.name)) (map drains writers) drain_closed.0 (drains x.drain) (closes.wfaults_each writers_distinct writers_lone) drain_closed.1 in
        grew_behind (old.wfaults file) (mid.wfaults file) (new.wfaults file) (drains x.drain).faults (opens.wfaults file)
        (subst (λ n. Grew (mid.wfaults n) (drains x.drain).faults (new.wfaults n)) named grew)

    -- the file is what the drain held
    pub file_held : IsTrue new.tells → new.file file ≡ (drains x.drain).holds
    file_held tells =
        let held = all_at (λ (o : DrainState). new.file o.name ≡ o.holds) (map drains writers) drain_closed.0 (drains x.drain) (closes.held writers_distinct writers_lone tells) drain_closed.1 in
        subst (λ n. new.file n ≡ (drains x.drain).holds) named held

  pub other_files : IsTrue new.tells → (n : List ℕ) → (Contains (outputs_of_nodes nodes) n → ⊥) → (Contains others n → ⊥) → new.file n ≡ old.file n
  other_files tells n never aside =
      closes.held_others tells n (λ c. never (subst (λ (x : List (List ℕ)). Contains x n) writers_named c)) aside ∙ opens.apart (closes.told tells) n never aside

  pub other_reads : (n : List ℕ) → (Contains (inputs_of_nodes nodes) n → ⊥) → Grew (old.rfaults n) 0 (new.rfaults n)
  other_reads n never = grew_behind (old.rfaults n) (mid.rfaults n) (new.rfaults n) 0 (opens.rfaults n) (grew_same (mid.rfaults n) (new.rfaults n) (closes.rfaults_others n (λ c. never (subst (λ (x : List (List ℕ)). Contains x n) readers_named c))))

  pub other_draws : (n : List ℕ) → (Contains (inputs_of_nodes nodes) n → ⊥) → Grew (old.read n) 0 (new.read n)
  other_draws n never = grew_same (old.read n) (new.read n) (closes.read_others n (λ c. never (subst (λ (x : List (List ℕ)). Contains x n) readers_named c)) ∙ opens.read n)

  pub other_writes : (n : List ℕ) → (Contains (outputs_of_nodes nodes) n → ⊥) → (Contains others n → ⊥) → Grew (old.wfaults n) 0 (new.wfaults n)
  other_writes n never aside = grew_behind (old.wfaults n) (mid.wfaults n) (new.wfaults n) 0 (opens.wfaults n) (grew_same (mid.wfaults n) (new.wfaults n) (closes.wfaults_others n (λ c. never (subst (λ (x : List (List ℕ)). Contains x n) writers_named c)) aside))

  pub refused : (n : List ℕ) → Grew (old.refusals n) 0 (new.refusals n)
  refused n = grew_behind (old.refusals n) (mid.refusals n) (new.refusals n) 0 (opens.refusals n) (grew_same (mid.refusals n) (new.refusals n) (closes.refusals n))

  pub tells_old : IsTrue new.tells → IsTrue old.tells
  tells_old h = opens.told (closes.told h)
