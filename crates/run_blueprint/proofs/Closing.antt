-- From the account of a blueprint's run at its end to what the run leaves in the folder.
use Rattle.std.proofs.Common.{◌≡◌, inl, inr, ℕ, ◌<◌, Bool, false, List, map, length, slice_get, refl, sym, ap, ◌∙◌, subst}
use Rattle.std.specs.Prelude.{Option, Some}
use Rattle.std.specs.Option.{option_to_list}
use Rattle.std.specs.List.{Contains, filter_map}
use Rattle.elem_core.specs.Tree.{Tree}
use Rattle.stream_model.specs.declared.outcome.EndState.{EndState}
use Rattle.stream_model.specs.declared.outcome.EndState.TheVariants.{Ended, Failed, Unended, WriteFault}
use Rattle.stream_model.specs.Graph.{Graph}
use Rattle.stream_io.specs.Counts.{Grew}
use Rattle.stream_io.specs.State.{FolderState, SourceState, DrainState}
use Rattle.nodes.specs.Sink.{Gathered, SinkStandsAs}
use Rattle.nodes.specs.declared.node.IslandNode.{IslandNode}
use Rattle.nodes.specs.declared.node.IslandNode.TheVariants as node
use Rattle.interpreter.specs.Picks.{Pick, pick_of}
use Rattle.run_laws.specs.Account.{Account}
use Rattle.stream_model.specs.declared.blueprint.Blueprint.{Blueprint}
use Rattle.stream_model.specs.declared.blueprint.Node as blue
use Rattle.stream_model.specs.Known.{HeadLists}
use Rattle.materializer.specs.Fit.{CanRun}
use Rattle.materializer.specs.Files.{output_of, inputs_of_nodes, outputs_of_nodes}
use Rattle.materializer.specs.Seats.{place_plan}
use Rattle.materializer.specs.Graphs.{graph_of}
use Rattle.stream_io.specs.Names.{drain_names}
use Rattle.run_blueprint.specs.Choosing.{picked}
use Rattle.run_blueprint.specs.Drawing.{Drawn}
use Rattle.island_runs.specs.Leaving.{Moment, RunLeaves, HasAsMany}
use Rattle.run_blueprint.specs.Opening.{Opens}
use Rattle.run_blueprint.specs.Tracing.{IsApart, Traces}
use Rattle.run_blueprint.specs.Replaying.{MakesItsMoves, IsMisfit}
use Rattle.run_blueprint.specs.Running.{MisfitByFiles, FailedWritesOf, Runs}
use Rattle.run_blueprint.specs.Stands.{SinkStand, is_write_fault}
use Rattle.island_runs.specs.declared.run.Stopped.{Stopped}
use Rattle.island_runs.specs.declared.ran.Ran.{Ran}
use Rattle.run_blueprint.specs.declared.run.RunResult.{RunResult}
use Rattle.run_blueprint.proofs.Counts.{rose_by, rose_from_none, contains_or_not}
use Rattle.run_blueprint.proofs.Places.{contains_at, contained_at, filtered_at, unfiltered_at, place_of, place_one, place_within}
use Rattle.run_blueprint.proofs.Profiles.{some_one, stand_in, writer_there, sinks_filtered, Profile}
use Rattle.run_blueprint.proofs.Handles.{IsSinkInto, HandleLaws, fault_kind, writer_kind, SinkFacts, sink_facts, profiles, as_many, stands_are}
use Rattle.run_blueprint.proofs.Shuts.{Shuts}
use Rattle.run_blueprint.proofs.Traces.{unlisted, lone_of, calm_trace}
use Rattle.run_blueprint.proofs.Shutting.{TakenApart, unwritten, writes_grew, other_reads, other_writes, other_draws, refused, tells_old, readers_many, writers_many}
use Rattle.run_blueprint.proofs.Drawns.{drawn_of, picks_stand}
use Rattle.run_blueprint.proofs.RunLaws.{RunLaws}
use Rattle.run_blueprint.proofs.EndStands.{apart, pays, sinks_wired, stand_of}
use Rattle.run_blueprint.proofs.EndLists.{HasTypes}
use Rattle.run_blueprint.proofs.EndMoves.{made, stopped}
use Rattle.run_blueprint.proofs.EndPictures.{ending, pictured_told}
use Rattle.run_blueprint.proofs.EndFiles.{leaves_so, by_files}
use Rattle.stream_model.specs.Linear.{Book}

-- ---- the drain of a sink

-- what the drain counted is added to the folder's count
pub stands_writes : (e : EndState) (y : Gathered) (s t : DrainState) (wrote : List Tree) (n old new : ℕ) → SinkStandsAs e y s t wrote n → s.faults ≡ 0 → Grew old t.faults new → FailedWritesOf e old new
stands_writes Unended y s t wrote n old new h none grew = subst (λ k. Grew old k new) (h.first.wrote_all.faults ∙ none) grew
stands_writes Ended y s t wrote n old new h none grew = subst (λ k. Grew old k new) (h.faults ∙ none) grew
stands_writes (Failed c) y s t wrote n old new h none grew = subst (λ k. Grew old k new) (h.faults ∙ none) grew
stands_writes WriteFault y s t wrote n old new h none grew = rose_by old t.faults new grew (rose_from_none s.faults t.faults none h.faults)

calm_write : (e : EndState) (old new : ℕ) → is_write_fault e ≡ false → FailedWritesOf e old new → Grew old 0 new
calm_write Unended old new h w = w
calm_write Ended old new h w = w
calm_write (Failed c) old new h w = w
calm_write WriteFault old new h w = absurd cc

-- ---- what a run leaves

module _ {S D L H B : Type 0} (sources : S → SourceState) (drains : D → DrainState) (book : Book) (handles : HandleLaws L H B sources drains book) (laws : RunLaws L H B sources drains book) (b : Blueprint) (can : CanRun b) (ss : List S) (ds : List D) (budget : ℕ) (st : Stopped S D) (l : RunLeaves L H B sources drains book b ss ds budget st)
    (plans : List (Option (List ℕ))) (led : map place_plan l.moment.places ≡ plans) (old mid : FolderState) (trace : Option (List ℕ)) (separate : IsApart b trace) (opens : Opens old mid (inputs_of_nodes b.nodes.items) (outputs_of_nodes b.nodes.items) (option_to_list trace) (map sources ss) (map drains ds)) (new : FolderState)
    (closes : Shuts mid new (option_to_list trace) (map sources st.end.readers.items) (map drains st.end.writers.items)) where
  abbrev nodes : List blue.Node
  nodes = b.nodes.items

  abbrev left : Account (IslandNode S D L H B)
  left = l.account

  abbrev last : List (IslandNode S D L H B)
  last = l.nodes

  abbrev between : Moment sources drains book b ss ds left last
  between = l.moment

  abbrev g : Graph
  g = graph_of b

  abbrev ASink : ℕ → List ℕ → Type 0
  ASink k file = SinkFacts sources drains book handles b ss ds left last between old mid opens k file

  sink_at : (k : ℕ) (file : List ℕ) → IsSinkInto nodes k file → ASink k file
  sink_at = sink_facts sources drains book handles b ss ds left last between old mid opens

  profile : (k : ℕ) (n : blue.Node) (x : IslandNode S D L H B) → slice_get nodes k ≡ Some n → slice_get last k ≡ Some x → Profile sources drains k n x
  profile = profiles sources drains book handles b ss ds left last between old mid opens

  lone : (n : List ℕ) → Contains (outputs_of_nodes nodes) n → Contains (option_to_list trace) n → ⊥
  lone = lone_of b trace separate

  -- its handles were closed
  taken : TakenApart sources drains b last st.end.readers.items st.end.writers.items
  taken = apart sources drains book handles laws b ss ds budget st l old mid opens

  -- all of them
  pub closes_run : HasAsMany ss ds st.end
  closes_run = record {
    readers = readers_many sources drains b last st.end.readers.items st.end.writers.items taken ss opens.input_names;
    writers = writers_many sources drains b last st.end.readers.items st.end.writers.items taken ds opens.output_names;
  }

  sink_writes : (k : ℕ) (file : List ℕ) (f : ASink k file) → Grew (old.wfaults file) (drains f.now.drain).faults (new.wfaults file)
  sink_writes k file f = writes_grew sources drains b can last st.end.readers.items st.end.writers.items taken old mid _ _ opens new closes lone k file f.now f.at (f.law.name ∙ f.first_named)

  -- what the sources drew
  abbrev drawn : Drawn
  drawn = drawn_of sources (graph_of b) left last

  calm_output : ((i : ℕ) (s : SinkStand) → slice_get st.end.sinks.items i ≡ Some s → is_write_fault s.2 ≡ false) → (n : List ℕ) → Contains (outputs_of_nodes nodes) n → Grew (old.wfaults n) 0 (new.wfaults n)
  calm_output none n c =
      let at = contained_at (outputs_of_nodes nodes) n c in
      let from = unfiltered_at (λ (m : blue.Node). output_of m.kind) nodes at.0 n at.1 in
      let below : from.0 < length last = subst (λ j. from.0 < j) (as_many sources drains book handles b ss ds left last between old mid opens) (place_within nodes from.0 from.1.0 from.1.1.0) in
      let x = place_of last from.0 below in
      let y = writer_there (λ d. (drains d).name) x.0 n (sym from.1.1.1 ∙ (profile from.0 from.1.0 x.0 from.1.1.0 x.1).output) in
      let shape = writer_kind sources drains book handles b ss ds left last between old mid opens from.0 from.1.0 x.0 y.0 from.1.1.0 x.1 y.1 in
      let named : shape.0 ≡ n = some_one shape.0 n (sym shape.1 ∙ from.1.1.1) in
      let f = sink_at from.0 shape.0 (record { node = from.1.0; at = from.1.1.0; file_is = shape.1 }) in
      let told = filtered_at stand_in last from.0 (node.Writing f.now) (f.now.node, f.now.count, f.now.end) f.at refl in
      let among : slice_get st.end.sinks.items told.0 ≡ Some (f.now.node, f.now.count, f.now.end) = subst (λ (z : List SinkStand). slice_get z told.0 ≡ Some (f.now.node, f.now.count, f.now.end)) (sym (l.sinks ∙ sinks_filtered last)) told.1 in
      let grew : Grew (old.wfaults shape.0) 0 (new.wfaults shape.0) = calm_write f.now.end (old.wfaults shape.0) (new.wfaults shape.0) (none told.0 (f.now.node, f.now.count, f.now.end) among)
      (stands_writes f.now.end f.now.gather (drains f.first.drain) (drains f.now.drain) f.law.wrote f.now.count (old.wfaults shape.0) (new.wfaults shape.0) f.law.stands f.start.faults (sink_writes from.0 shape.0 f)) in
      subst (λ m. Grew (old.wfaults m) 0 (new.wfaults m)) named grew

  -- where no sink's write failed, and none to the trace's file, no count of failed writes rose
  calm_other : ((n : List ℕ) → Contains (option_to_list trace) n → Grew (old.wfaults n) 0 (new.wfaults n)) → (n : List ℕ) → (Contains (outputs_of_nodes nodes) n → ⊥) → Grew (old.wfaults n) 0 (new.wfaults n)
  calm_other calm n never = elim (contains_or_not (option_to_list trace) n) [
    | inl c ↦ (calm n c)
    | inr aside ↦ (other_writes sources drains b can last st.end.readers.items st.end.writers.items taken old mid _ _ opens new closes lone n never aside)
  ]

  calm_writes : ((i : ℕ) (s : SinkStand) → slice_get st.end.sinks.items i ≡ Some s → is_write_fault s.2 ≡ false) → ((n : List ℕ) → Contains (option_to_list trace) n → Grew (old.wfaults n) 0 (new.wfaults n)) → (n : List ℕ) → Grew (old.wfaults n) 0 (new.wfaults n)
  calm_writes none calm n = elim (contains_or_not (outputs_of_nodes nodes) n) [
    | inl c ↦ (calm_output none n c)
    | inr never ↦ (calm_other calm n never)
  ]

  -- the result, whether or not a write to the trace's file failed
  abbrev result : Bool → Ran → RunResult
  result failed ran = record {
    sinks = st.end.sinks;
    picks = st.end.picks;
    misfit = st.end.misfit;
    wires = st.wires;
    used = st.used;
    at_rest = st.at_rest;
    trace_failed = failed;
    ran = ran;
  }

  -- the trace, as it was left where none of the sinks' drains has its name
  abbrev Traced : RunResult → Type 0
  Traced ran = ((n : List ℕ) → Contains (option_to_list trace) n → Contains (drain_names (map drains st.end.writers.items)) n → ⊥) → Traces old new b trace (map pick_of ran.picks.items) ran.trace_failed

  traced_so : (ran : RunResult) → Traced ran → Traces old new b trace (map pick_of ran.picks.items) ran.trace_failed
  traced_so ran traced = traced (unwritten sources drains b can last st.end.readers.items st.end.writers.items taken old mid _ _ opens new closes lone)

  pub runs_of : (heads : HeadLists) → HasTypes sources drains book handles laws b can ss ds budget st l old mid opens heads → (failed : Bool) (ran : Ran) → Traced (result failed ran) → Runs book heads old new b plans trace budget (result failed ran)
  runs_of heads typed failed ran traced = record {
    sinks_are = ap (map (λ (s : SinkStand). s.0)) l.sinks ∙ stands_are sources drains book handles b ss ds left last between old mid opens;
    picks_are = ap picked l.picks ∙ picks_stand sources drains book handles b can ss ds left last between old mid opens;
    told = tells_old sources drains b can last st.end.readers.items st.end.writers.items taken old mid _ _ opens new closes lone;
    traces = traced_so (result failed ran) traced;
    leaves = λ h. (leaves_so sources drains book handles laws b can ss ds budget st l plans led old mid trace separate opens new closes h heads typed).0;
    stuck = λ h stage place is.
        subst (λ (d : Drawn). IsMisfit b plans (map pick_of st.end.picks.items) (MisfitByFiles book b plans d) stage place) (sym (leaves_so sources drains book handles laws b can ss ds budget st l plans led old mid trace separate opens new closes h heads typed).1)
        (subst (λ (ps : List Pick). IsMisfit b plans ps (MisfitByFiles book b plans drawn) stage place) (sym l.picks) (stopped sources drains book handles laws b can ss ds budget st l plans led old mid opens (MisfitByFiles book b plans drawn) (by_files sources drains book handles laws b can ss ds budget st l plans led old mid trace separate opens new closes h) stage place is));
    refusals = refused sources drains b can last st.end.readers.items st.end.writers.items taken old mid _ _ opens new closes lone;
    reads = other_reads sources drains b can last st.end.readers.items st.end.writers.items taken old mid _ _ opens new closes lone;
    writes = λ i s n file at here shape.
        let found = stand_of sources drains book handles laws b ss ds budget st l old mid opens i s n file at here shape in
        let f = found.0 in
        subst (λ (t : SinkStand). FailedWritesOf t.2 (old.wfaults file) (new.wfaults file)) (sym found.1)
        (stands_writes f.now.end f.now.gather (drains f.first.drain) (drains f.now.drain) f.law.wrote f.now.count (old.wfaults file) (new.wfaults file) f.law.stands f.start.faults (sink_writes s.0 file f));
    faults = λ i s at fault.
        let among : slice_get (filter_map stand_in last) i ≡ Some s = subst (λ (x : List SinkStand). slice_get x i ≡ Some s) (l.sinks ∙ sinks_filtered last) at in
        let from = unfiltered_at stand_in last i s among in
        let below : from.0 < length nodes = subst (λ m. from.0 < m) (sym (as_many sources drains book handles b ss ds left last between old mid opens)) (place_within last from.0 from.1.0 from.1.1.0) in
        let m = place_of nodes from.0 below in
        let shape = fault_kind sources drains book handles b ss ds left last between old mid opens from.0 m.0 from.1.0 s m.1 from.1.1.0 from.1.1.1 fault in
        let f = sink_at from.0 shape.0 (record { node = m.0; at = m.1; file_is = shape.1 }) in
        let is : from.1.0 ≡ node.Writing f.now = place_one last from.0 from.1.0 (node.Writing f.now) from.1.1.0 f.at in
        let told : stand_in {S = S} {D = D} {L = L} {H = H} {B = B} (node.Writing f.now) ≡ Some s = ap stand_in (sym is) ∙ from.1.1.1 in
        let same : (f.now.node, f.now.count, f.now.end) ≡ s = some_one (f.now.node, f.now.count, f.now.end) s told in
        let failed : f.now.end ≡ WriteFault = ap (λ (t : SinkStand). t.2) same ∙ fault in
        let file = filtered_at (λ (n : blue.Node). output_of n.kind) nodes from.0 m.0 shape.0 m.1 shape.1 in
        record {
          file = shape.0;
          output = contains_at (outputs_of_nodes nodes) file.0 shape.0 file.1;
          rose = subst (λ (e : EndState). FailedWritesOf e (old.wfaults shape.0) (new.wfaults shape.0)) failed
              (stands_writes f.now.end f.now.gather (drains f.first.drain) (drains f.now.drain) f.law.wrote f.now.count (old.wfaults shape.0) (new.wfaults shape.0) f.law.stands f.start.faults (sink_writes from.0 shape.0 f));
        };
    calm = λ none calm. calm_writes none (calm_trace old new b trace _ failed (traced_so (result failed ran) traced) calm);
    other_writes = λ n never aside. other_writes sources drains b can last st.end.readers.items st.end.writers.items taken old mid _ _ opens new closes lone n never (unlisted trace n aside);
    other_draws = other_draws sources drains b can last st.end.readers.items st.end.writers.items taken old mid _ _ opens new closes lone;
    within = l.within;
    spent = l.spent;
    pays = pays sources drains book handles laws b ss ds budget st l old mid opens;
    picture = (pictured_told sources drains book handles laws b can ss ds budget st l plans led old mid opens heads typed).0;
    ending = ending sources drains book handles laws b can ss ds budget st l plans led old mid opens;
    misfit = (pictured_told sources drains book handles laws b can ss ds budget st l plans led old mid opens heads typed).1;
    made = subst (MakesItsMoves b plans) (sym l.picks) (made sources drains book handles laws b can ss ds budget st l plans led old mid opens);
    wired = sinks_wired sources drains book handles laws b ss ds budget st l old mid opens;
  }
