-- What a blueprint's run leaves in its files, where the folder had told them before it.
use Rattle.std.proofs.Common.{◌≡◌, ◌⊎◌, inl, inr, ℕ, ◌+◌, ◌/◌, ◌<◌, ◌≤◌, max, List, map, length, slice_get, refl, sym, ap, ◌∙◌, subst, arith}
use Rattle.std.specs.Prelude.{IsTrue, Option, None, Some}
use Rattle.std.specs.Option.{option_to_list}
use Rattle.std.specs.List.{Contains}
use Rattle.std.proofs.lemmas.List.{length-map}
use Rattle.elem_core.specs.Tree.{text}
use Rattle.elem_core.specs.Items.{elements}
use Rattle.elem_core.specs.declared.item.Item.{Item}
use Rattle.stream_model.specs.declared.kind.Kind.TheVariants as kind
use Rattle.stream_model.specs.declared.outcome.WireCount.{WireCount}
use Rattle.stream_model.specs.declared.outcome.EndState.{EndState}
use Rattle.stream_model.specs.Graph.{Graph, Edge}
use Rattle.stream_model.specs.Graph as graph
use Rattle.stream_model.specs.Node.{World}
use Rattle.stream_model.specs.Outlook.{unended}
use Rattle.stream_model.specs.Composed.{composed, sink_outlook, inputs_by}
use Rattle.stream_model.specs.Shape.{sent_at, need, count_needed}
use Rattle.stream_io.specs.Counts.{Grew}
use Rattle.stream_io.specs.State.{FolderState, SourceState, DrainState}
use Rattle.stream_io.specs.Reading.{FirstTooLong}
use Rattle.nodes.specs.Drawing.{ended_lines}
use Rattle.nodes.specs.Sink.{sink_room}
use Rattle.nodes.specs.Kinds.{writes_of}
use Rattle.nodes.specs.declared.sink.Writes.{Writes}
use Rattle.nodes.specs.declared.sink.Writes.TheVariants.{Each}
use Rattle.nodes.specs.Nodes.{node_picks, node_plan}
use Rattle.nodes.specs.declared.node.IslandNode.{IslandNode}
use Rattle.nodes.specs.declared.node.IslandNode.TheVariants as node
use Rattle.interpreter.specs.Picks.{Pick, pick_of}
use Rattle.run_laws.specs.Account.{Account, IsStill}
use Rattle.run_laws.specs.Items.{AgreesWith}
use Rattle.run_laws.proofs.Coming.{elements_told}
use Rattle.run_laws.specs.Runs.{IsRun}
use Rattle.run_laws.specs.Replayed.{FitsBy, IsLawfulBy, RestsBy}
use Rattle.run_laws.specs.Serving.{IsSureAt, ServesPlan}
use Rattle.run_laws.specs.Telling.{ServesPlans, TellsFiles, WorldTells, AreSettled}
use Rattle.run_laws.specs.Sinks.{SinkTells, SinkWrote, IgnoreTells}
use Rattle.run_laws.specs.Reads.{ReadsAhead, SentLines}
use Rattle.stream_model.specs.declared.blueprint.Blueprint.{Blueprint}
use Rattle.stream_model.specs.declared.blueprint.Node as blue
use Rattle.blue_check.specs.Wires.{blueprint_wires}
use Rattle.stream_model.specs.Known.{HeadLists}
use Rattle.materializer.specs.Fit.{CanRun}
use Rattle.materializer.specs.Files.{inputs_of_nodes, outputs_of_nodes}
use Rattle.materializer.specs.Choosers.{plan_at}
use Rattle.materializer.specs.Seats.{place_plan}
use Rattle.materializer.specs.Graphs.{graph_node, graph_of}
use Rattle.materializer.specs.Seats.{gather_of}
use Rattle.run_blueprint.specs.Plugs.{CustomsTyped}
use Rattle.run_blueprint.specs.Carrying.{WiresCarry, AgreesWithFiles}
use Rattle.run_blueprint.proofs.Carried.{agrees_told}
use Rattle.run_blueprint.specs.Drawing.{Drawn, IsSource, WasRead, IsWorldOf, DrawsFirst}
use Rattle.island_runs.specs.Leaving.{Moment, RunLeaves}
use Rattle.run_blueprint.specs.Opening.{Opens}
use Rattle.run_blueprint.specs.Tracing.{IsApart}
use Rattle.run_blueprint.specs.Sending.{SentOn}
use Rattle.run_blueprint.specs.Replaying.{HasMade, MakesItsMoves, IsReplayOf, ServesItsMoves}
use Rattle.run_blueprint.specs.Running.{SinkLeaves, IgnoreLeaves, ServesAll, LeavesFiles, MisfitByFiles}
use Rattle.run_blueprint.specs.Stands.{SinkStand}
use Rattle.island_runs.specs.declared.run.Stopped.{Stopped}
use Rattle.run_blueprint.proofs.Replays.{chose_along, made_along}
use Rattle.run_blueprint.proofs.Counts.{rose_from_none, is_positive, positive}
use Rattle.run_blueprint.proofs.Units.{need_more, passed_within}
use Rattle.run_blueprint.proofs.Worlds.{world_of}
use Rattle.run_blueprint.proofs.Places.{mapped_at, unmapped_at, place_of, place_one, place_within}
use Rattle.run_blueprint.proofs.Profiles.{some_one}
use Rattle.run_blueprint.proofs.Handles.{IsSinkInto, HandleLaws, SourceFacts, SinkFacts, source_facts, sink_facts}
use Rattle.run_blueprint.proofs.Sending.{sink_sent, sink_rests, ignorer_told}
use Rattle.run_blueprint.proofs.Shuts.{Shuts}
use Rattle.run_blueprint.proofs.Traces.{unlisted, lone_of}
use Rattle.run_blueprint.proofs.Shutting.{TakenApart, read_grew, faults_grew, file_held, other_files}
use Rattle.run_blueprint.proofs.Drawns.{drawn_of, made_moves, Draws, draws_all, reads_of}
use Rattle.run_blueprint.proofs.RunLaws.{RunLaws}
use Rattle.run_blueprint.proofs.EndStands.{apart, wires_are, wire_count_at, stand_of, roomed_at, ignorer_of, matched}
use Rattle.run_blueprint.proofs.EndLists.{carried, HasTypes, sent_typed}
use Rattle.run_blueprint.proofs.EndMoves.{follows, made, Told}
use Rattle.run_blueprint.proofs.EndPictures.{ending}
use Rattle.stream_model.specs.Linear.{Book}

-- ---- room to put lines together

-- room for a line at least is room for as many
max_one : (n : ℕ) → 1 ≤ n → max n 1 ≡ n
max_one n h = omega (arith, h)

one_max : (n : ℕ) → 1 ≤ max 1 n
one_max n = omega arith

room_each : (lane : Option ℕ) → sink_room Each (gather_of lane) ≡ gather_of lane
room_each None = refl
room_each (Some s) = max_one (max 1 (s / 2)) (one_max (s / 2))

-- ---- what was drawn

ahead_told : (first now : SourceState) (later : List (List ℕ)) (n : ℕ) → first.faults ≡ 0 → ReadsAhead first now later n
    → (now.given ≤ n + 4096) ⊎ ((IsTrue (is_positive now.faults) ⊎ FirstTooLong later) × (now.given ≤ n + (4096 + 65537)))
ahead_told first now later n none (inl h) = inl h
ahead_told first now later n none (inr (inl rose, h)) = inr (inl (positive now.faults (rose_from_none first.faults now.faults none rose)), h)
ahead_told first now later n none (inr (inr long, h)) = inr (inr long, h)

draws_told : (bytes : List ℕ) (first now : SourceState) (items : List Item) (sent : ℕ) → first.faults ≡ 0 → sent ≡ elements items → SentLines bytes first now items → DrawsFirst bytes now.given (is_positive now.faults) sent
draws_told bytes first now items sent none e s = record {
  drawn = s.drawn;
  later = s.later;
  lines_are = s.lines_are;
  sent_is = e ∙ ap elements s.sent_is ∙ elements_told (map text s.drawn) s.end ∙ length-map s.drawn text;
  ahead = ahead_told first now s.later (length (ended_lines s.drawn)) none s.ahead;
}

-- ---- the files of a run

module _ {S D L H B : Type 0} (sources : S → SourceState) (drains : D → DrainState) (book : Book) (handles : HandleLaws L H B sources drains book) (laws : RunLaws L H B sources drains book) (b : Blueprint) (can : CanRun b) (ss : List S) (ds : List D) (budget : ℕ) (st : Stopped S D) (l : RunLeaves L H B sources drains book b ss ds budget st)
    (plans : List (Option (List ℕ))) (led : map place_plan l.moment.places ≡ plans) (old mid : FolderState) (trace : Option (List ℕ)) (separate : IsApart b trace) (opens : Opens old mid (inputs_of_nodes b.nodes.items) (outputs_of_nodes b.nodes.items) (option_to_list trace) (map sources ss) (map drains ds)) (new : FolderState)
    (closes : Shuts mid new (option_to_list trace) (map sources st.end.readers.items) (map drains st.end.writers.items)) where
  abbrev nodes : List blue.Node
  nodes = b.nodes.items

  abbrev left : Account (IslandNode S D L H B)
  left = l.account

  abbrev last : List (IslandNode S D L H B)
  last = l.nodes

  abbrev between : Moment sources drains book b ss ds left last
  between = l.moment

  abbrev g : Graph
  g = graph_of b

  abbrev Source : ℕ → List ℕ → Type 0
  Source k file = SourceFacts sources drains book handles b ss ds left last between old mid opens k file

  source_at : (k : ℕ) (file : List ℕ) → IsSource nodes k file → Source k file
  source_at = source_facts sources drains book handles b ss ds left last between old mid opens

  abbrev ASink : ℕ → List ℕ → Type 0
  ASink k file = SinkFacts sources drains book handles b ss ds left last between old mid opens k file

  sink_at : (k : ℕ) (file : List ℕ) → IsSinkInto nodes k file → ASink k file
  sink_at = sink_facts sources drains book handles b ss ds left last between old mid opens

  lone : (n : List ℕ) → Contains (outputs_of_nodes nodes) n → Contains (option_to_list trace) n → ⊥
  lone = lone_of b trace separate

  -- its handles were closed
  taken : TakenApart sources drains b last st.end.readers.items st.end.writers.items
  taken = apart sources drains book handles laws b ss ds budget st l old mid opens

  sink_held : (k : ℕ) (file : List ℕ) (f : ASink k file) → IsTrue new.tells → new.file file ≡ (drains f.now.drain).holds
  sink_held k file f = file_held sources drains b can last st.end.readers.items st.end.writers.items taken old mid _ _ opens new closes lone k file f.now f.at (f.law.name ∙ f.first_named)

  run : IsRun sources drains book g left
  run = l.moment.run

  -- so it is by the heads of every world that has these
  run_at : (w : World) → w.book ≡ book → IsRun sources drains w.book g left
  run_at w is = subst (λ (x : Book). IsRun sources drains x g left) (sym is) run

  still : IsTrue st.at_rest → IsStill g left
  still rest = l.still rest

  settled : AreSettled g left
  settled = l.settled

  -- what the sources drew
  abbrev drawn : Drawn
  drawn = drawn_of sources (graph_of b) left last

  -- what passed its wires
  abbrev carry : WiresCarry book b st.end.sinks.items st.wires.items drawn.picks
  carry = carried sources drains book handles laws b can ss ds budget st l old mid opens

  module _ (tells_was : IsTrue old.tells) where
    abbrev Drew : Type 0
    Drew = Draws sources drains book handles b can ss ds left last between old mid opens

    drew : Drew
    drew = draws_all sources drains book handles b can ss ds left last between old mid opens tells_was

    module _ (k : ℕ) (file : List ℕ) (f : Source k file) where
      was_read : WasRead old new file (drawn.bytes k) (drawn.given k) (drawn.faulted k)
      was_read =
          let given = (drew.source k file f).given in
          let read = read_grew sources drains b can last st.end.readers.items st.end.writers.items taken old mid _ _ opens new closes lone k file f.now f.at (f.law.name ∙ f.first_named) in
          let faults = faults_grew sources drains b can last st.end.readers.items st.end.writers.items taken old mid _ _ opens new closes lone k file f.now f.at (f.law.name ∙ f.first_named) in
          reads_of sources drains book handles b can ss ds left last between old mid opens tells_was k file f new (drawn.given k) (subst (λ n. Grew (old.read file) n (new.read file)) (sym given) read) faults

    -- the world tells of every source
    world_tells : (w : World) → IsWorldOf book nodes drawn w → WorldTells sources g w left
    world_tells w is = drew.tells w is

    -- what was sent on each wire may pass
    sent_agrees : (u : ℕ) (v : Edge) → slice_get (blueprint_wires b) u ≡ Some v → (w : World) → IsWorldOf book nodes drawn w → AgreesWith (composed g w u) (left.near u).wire.sent
    sent_agrees u v at w is = let ranked = laws.ranked b can.heads can.taken can.fit in laws.agree g w ranked.0 left (run_at w is.book_is) (world_tells w is) ranked.1 u (place_within (blueprint_wires b) u v at)

    pub by_files : Told sources drains book handles laws b can ss ds budget st l plans led old mid opens (MisfitByFiles book b plans drawn)
    by_files k n x place at there found = λ w is.
        let ranked = laws.ranked b can.heads can.taken can.fit in
        let tells = world_tells w is in
        (laws.misfit g w (plan_at plans) left (composed g w) (run_at w is.book_is) tells.picks (follows sources drains book handles laws b can ss ds budget st l plans led old mid opens) (laws.agree g w ranked.0 left (run_at w is.book_is) tells ranked.1) k (graph_node b.wires.items n) x place (mapped_at (graph_node b.wires.items) nodes k n at) there found).1

    -- one world that has the files
    abbrev world : World
    world = world_of book nodes drawn (made_moves sources drains book handles b can ss ds left last between old mid opens)

    has_files : IsWorldOf book nodes drawn world
    has_files = drew.has_files

    -- a sink's file
    module _ (k : ℕ) (n : blue.Node) (file : List ℕ) (at : slice_get nodes k ≡ Some n) (f : ASink k file) where
      at_graph : slice_get g.nodes k ≡ Some (graph_node b.wires.items n)
      at_graph = mapped_at (graph_node b.wires.items) nodes k n at

      room_now : n.kind ≡ kind.ToLines file → (u : ℕ) (v : Edge) → slice_get (blueprint_wires b) u ≡ Some v → v.to ≡ k → f.now.gather.room ≡ gather_of v.lane
      room_now shape u v wire to =
          f.law.room_same ∙ roomed_at sources drains book handles laws b ss ds budget st l old mid opens k n f.first u v (ap (inputs_by (graph_node b.wires.items n).head) shape) at f.there.at_first wire to
          ∙ ap (λ (m : Writes). sink_room m (gather_of v.lane)) ((run.made k (graph_node b.wires.items n) (node.Writing f.first) at_graph f.there.at_first).writes ∙ ap writes_of shape) ∙ room_each v.lane

      wrote : SinkWrote sources drains book g left k (graph_node b.wires.items n) f.first f.now
      wrote = laws.wrote g left run k (graph_node b.wires.items n) f.first f.now at_graph f.there

      sink_leaves : SinkLeaves book new b drawn st.wires.items st.at_rest k n file f.now.count f.now.end
      sink_leaves = record {
        held = wrote.written;
        there = λ tells. sink_held k file f tells ∙ wrote.holds (f.start.holds (closes.told tells));
        tells = λ w is. let ranked = laws.ranked b can.heads can.taken can.fit in wrote.tells w ranked.0 is.book_is (world_tells w is) ranked.1;
        lines_are = wrote.lines_are;
        sent = λ shape u v at to.
            let ranked = laws.ranked b can.heads can.taken can.fit in
            let list = laws.took g world ranked.0 left (run_at world has_files.book_is) (world_tells world has_files) ranked.1 k (graph_node b.wires.items n) file f.first f.now at_graph shape f.there in
            subst (λ (m : ℕ). SentOn v.lane f.now.end m f.now.count) (sym (wire_count_at sources drains book handles laws b ss ds budget st l old mid opens u v at))
            (sink_sent sources drains book g left run u v at (composed g world u) (sent_agrees u v at world has_files) k (graph_node b.wires.items n) at_graph (ap (inputs_by (graph_node b.wires.items n).head) shape) to f.now.end (sink_outlook g world k (graph_node b.wires.items n)) list f.now.gather.room f.now.count
            (room_now shape u v at to)
            (laws.sent g left run k (graph_node b.wires.items n) file f.first f.now u v at_graph shape f.there at to));
        rests = λ shape rest unended u v at to.
            wire_count_at sources drains book handles laws b ss ds budget st l old mid opens u v at ∙ sink_rests sources drains book g left run u v at (composed g world u) (sent_agrees u v at world has_files) k (graph_node b.wires.items n) at_graph (ap (inputs_by (graph_node b.wires.items n).head) shape) to f.first f.now f.there (still rest) unended
            ∙ laws.rest g left run k (graph_node b.wires.items n) file f.first f.now u v at_graph shape f.there at to (still rest) unended (l.none_late rest k f.now f.there.at_last);
      }

    -- a sink without a file
    ignore_leaves : (i : ℕ) (s : SinkStand) (n : blue.Node) → slice_get st.end.sinks.items i ≡ Some s → slice_get nodes s.0 ≡ Some n → n.kind ≡ kind.Ignore → IgnoreLeaves book b drawn st.wires.items s.0 n s.1 s.2
    ignore_leaves i s n at here shape =
        let x = ignorer_of sources drains book handles laws b ss ds budget st l old mid opens i s n at here shape in
        let now = x.1.0 in
        let same : (now.node, 0, now.end) ≡ s = x.1.1.1 in
        record {
          none = ap (λ (t : SinkStand). t.1) (sym same);
          tells = λ w is_world u v wire to.
              subst (λ (e : EndState). IgnoreTells (sink_outlook g w s.0 (graph_node b.wires.items n)) e (sent_at st.wires.items u)) (ap (λ (t : SinkStand). t.2) same)
              (subst (λ (c : ℕ). IgnoreTells (sink_outlook g w s.0 (graph_node b.wires.items n)) now.end c) (sym (wire_count_at sources drains book handles laws b ss ds budget st l old mid opens u v wire))
              (ignorer_told sources drains book g left run u v wire w (sent_agrees u v wire w is_world) s.0 (graph_node b.wires.items n) (mapped_at (graph_node b.wires.items) nodes s.0 n here) shape to x.0 now x.1.1.0));
        }

    needed : (w : World) → IsWorldOf book nodes drawn w → count_needed g st.wires.items ≤ need g (composed g w)
    needed w is =
        need_more (blueprint_wires b) 0 (sent_at st.wires.items) (λ i. length (composed g w i).list) (λ k lt.
        let here = place_of (blueprint_wires b) (0 + k) (omega (arith, lt)) in
        let sent : sent_at st.wires.items (0 + k) ≡ elements (left.near (0 + k)).wire.sent = wire_count_at sources drains book handles laws b ss ds budget st l old mid opens (0 + k) here.0 here.1 in
        let within : elements (left.near (0 + k)).wire.sent ≤ length (composed g w (0 + k)).list = passed_within (composed g w (0 + k)) (left.near (0 + k)).wire.sent (sent_agrees (0 + k) here.0 here.1 w is) in
        let le : sent_at st.wires.items (0 + k) ≤ length (composed g w (0 + k)).list = omega (arith, sent, within) in
        le)

    -- a world that has the moves that the stages follow, where each made all of them or nothing may fail at it
    module _ (w : World) (is : IsReplayOf book nodes plans drawn w) (fits : FitsBy g w (plan_at plans)) (serve : ServesItsMoves b plans drawn.picks w) where
      files_there : TellsFiles sources g w left
      files_there = drew.files w is.book_is is.files is.gave

      serves_there : ServesPlans g w left
      serves_there k n first now gi fi ni moves at = by (node_plan first) refl
        where
          m : (x : blue.Node) × ((slice_get nodes k ≡ Some x) × (n ≡ graph_node b.wires.items x))
          m = unmapped_at (graph_node b.wires.items) nodes k n gi

          found : slice_get last k ≡ Some now
          found = sym (between.node_at k) ∙ ni

          chose : HasMade drawn.picks k moves
          chose = made_along 0 last k k now moves (omega arith) found at

          -- it made no others
          one : (plan : List ℕ) → HasMade drawn.picks k plan → plan ≡ moves
          one plan h =
              let c = chose_along 0 last h.0 k plan h.1 in
              let place : c.at ≡ k = let p = c.place in omega (arith, p) in
              let same : c.node ≡ now = place_one last k c.node now (subst (λ (j : ℕ). slice_get last j ≡ Some c.node) place c.there) found in
              some_one plan moves (sym c.picks ∙ ap node_picks same ∙ at)

          by_plan : (plan : List ℕ) → plan_at plans k ≡ Some plan → HasMade drawn.picks k plan ⊎ IsSureAt g w k (graph_node b.wires.items m.0) → ServesPlan g w k n (Some plan) moves
          by_plan plan p (inl all) = inl (is.followed k plan p ∙ one plan all)
          by_plan plan p (inr sure) = inr (is.followed k plan p, (fits.each k n gi, subst (λ (x : graph.Node). IsSureAt g w k x) (sym m.1.1) sure))

          by : (o : Option (List ℕ)) → node_plan first ≡ o → ServesPlan g w k n o moves
          by None e = is.chosen k moves (follows sources drains book handles laws b can ss ds budget st l plans led old mid opens k first fi ∙ e) chose
          by (Some plan) e = let p = follows sources drains book handles laws b can ss ds budget st l plans led old mid opens k first fi ∙ e in by_plan plan p (serve k m.0 plan m.1.0 p)

      serves_wires : (i : ℕ) → i < length g.wires → AgreesWith (composed g w i) (left.near i).wire.sent
      serves_wires = let ranked = laws.ranked b can.heads can.taken can.fit in laws.serves g w ranked.0 left (run_at w is.book_is) files_there serves_there ranked.1

      wire_serves : (i : ℕ) (v : Edge) → slice_get (blueprint_wires b) i ≡ Some v → AgreesWith (composed g w i) (left.near i).wire.sent
      wire_serves i v at = serves_wires i (place_within (blueprint_wires b) i v at)

      serves_all : ServesAll book new b drawn.picks st.end.sinks.items st.wires.items carry w
      serves_all = record {
        sink = λ i s n file at here shape.
            let ranked = laws.ranked b can.heads can.taken can.fit in
            let found = stand_of sources drains book handles laws b ss ds budget st l old mid opens i s n file at here shape in
            let f = found.0 in
            let its = wrote s.0 n file here f in (
              its.written,
              (
                λ tells. sink_held s.0 file f tells ∙ its.holds (f.start.holds (closes.told tells)),
                subst (λ (t : SinkStand). SinkTells (sink_outlook g w s.0 (graph_node b.wires.items n)) t.2 its.written) (sym found.1) (its.serves w ranked.0 is.book_is files_there serves_there ranked.1),
              ),
            );
        ignores = λ i s n at here shape u v wire to.
            let x = ignorer_of sources drains book handles laws b ss ds budget st l old mid opens i s n at here shape in
            let now = x.1.0 in
            let same : (now.node, 0, now.end) ≡ s = x.1.1.1 in
            subst (λ (e : EndState). IgnoreTells (sink_outlook g w s.0 (graph_node b.wires.items n)) e (sent_at st.wires.items u)) (ap (λ (t : SinkStand). t.2) same)
            (subst (λ (c : ℕ). IgnoreTells (sink_outlook g w s.0 (graph_node b.wires.items n)) now.end c) (sym (wire_count_at sources drains book handles laws b ss ds budget st l old mid opens u v wire))
            (ignorer_told sources drains book g left run u v wire w (wire_serves u v wire) s.0 (graph_node b.wires.items n) (mapped_at (graph_node b.wires.items) nodes s.0 n here) shape to x.0 now x.1.1.0));
        passed = λ i v at. agrees_told (composed g w i) (left.near i).wire.sent (wire_serves i v at);
      }

    -- what passed each wire agrees with what may pass it, and all is as by all the moves of stages that follow some
    abbrev Carried : List Pick → Type 0
    Carried ps = (c : WiresCarry book b st.end.sinks.items st.wires.items ps) × (AgreesWithFiles drawn c × ((w : World) → IsReplayOf book nodes plans drawn w → FitsBy g w (plan_at plans) → ServesItsMoves b plans ps w
        → ServesAll book new b ps st.end.sinks.items st.wires.items c w) × ((heads : HeadLists) → HasTypes sources drains book handles laws b can ss ds budget st l old mid opens heads → CustomsTyped heads book nodes (blueprint_wires b) c.lists))

    carried_so : Carried drawn.picks
    carried_so = (carry, (λ w is i v at. agrees_told (composed g w i) (left.near i).wire.sent (sent_agrees i v at w is), λ w is fits serve. serves_all w is fits serve, λ heads typed. sent_typed sources drains book handles laws b can ss ds budget st l old mid opens heads typed))

    carried_told : Carried (map pick_of st.end.picks.items)
    carried_told = subst Carried (sym l.picks) carried_so

    leaves_files : (heads : HeadLists) → HasTypes sources drains book handles laws b can ss ds budget st l old mid opens heads → LeavesFiles book heads old new b plans trace st.end.sinks.items (map pick_of st.end.picks.items) st.wires.items st.at_rest
    leaves_files heads typed =
        let ranked = laws.ranked b can.heads can.taken can.fit in
        record {
          drawn = drawn;
          chose = sym l.picks;
          carries = carried_told.0;
          passed = carried_told.1.0;
          fits = λ w is. laws.moves g w (plan_at plans) ranked.0 left (run_at w is.book_is) settled (world_tells w is) (follows sources drains book handles laws b can ss ds budget st l plans led old mid opens) ranked.1;
          made = subst (MakesItsMoves b plans) (sym l.picks) (made sources drains book handles laws b can ss ds budget st l plans led old mid opens);
          served = carried_told.1.1;
          customs = carried_told.1.2 heads typed;
          blames = λ w is. laws.blames g w ranked.0 left (run_at w is.book_is) (world_tells w is) ranked.1;
          read = λ k file is. was_read k file (source_at k file is);
          world = world;
          has_files = has_files;
          ending = ending sources drains book handles laws b can ss ds budget st l plans led old mid opens;
          needed = needed;
          sink = λ i s n file at here shape.
              let found = stand_of sources drains book handles laws b ss ds budget st l old mid opens i s n file at here shape in
              subst (λ (t : SinkStand). SinkLeaves book new b drawn st.wires.items st.at_rest s.0 n file t.1 t.2) (sym found.1) (sink_leaves s.0 n file here found.0);
          ignores = λ i s n at here shape. ignore_leaves i s n at here shape;
          others = λ tells n never aside. other_files sources drains b can last st.end.readers.items st.end.writers.items taken old mid _ _ opens new closes lone tells n never (unlisted trace n aside);
          draws = λ k file u v is at from.
              let f = source_at k file is in
              let d = drew.source k file f in
              let told = draws_told d.bytes (sources f.first.reader.source) (sources f.now.reader.source) (left.near u).wire.sent (sent_at st.wires.items u) f.start.faults (wire_count_at sources drains book handles laws b ss ds budget st l old mid opens u v at)
              (laws.reads g left run k (graph_node b.wires.items is.node) f.first f.now u v d.bytes (mapped_at (graph_node b.wires.items) nodes k is.node is.at) f.there at from d.whole) in
              rw (d.drawn_bytes, d.given, d.faulted) told;
          lawful = λ w is. subst (λ (c : List WireCount). IsLawfulBy g w (plan_at plans) c (composed g w)) (sym (wires_are sources drains book handles laws b ss ds budget st l old mid opens)) (laws.lawful g w (plan_at plans) ranked.0 left (run_at w is.book_is) settled (world_tells w is) (follows sources drains book handles laws b can ss ds budget st l plans led old mid opens) ranked.1);
          rest = λ rest w is. subst (λ (c : List WireCount). RestsBy g w (plan_at plans) c (composed g w)) (sym (wires_are sources drains book handles laws b ss ds budget st l old mid opens)) (laws.rests g w (plan_at plans) ranked.0 left (run_at w is.book_is) (still rest) (world_tells w is) (follows sources drains book handles laws b can ss ds budget st l plans led old mid opens) ranked.1);
          matching = λ rest w. matched sources drains book handles laws b ss ds budget st l old mid opens rest w (composed g w);
        }

    -- with what was drawn
    pub leaves_so : (heads : HeadLists) → HasTypes sources drains book handles laws b can ss ds budget st l old mid opens heads → (x : LeavesFiles book heads old new b plans trace st.end.sinks.items (map pick_of st.end.picks.items) st.wires.items st.at_rest) × (x.drawn ≡ drawn)
    unfolding leaves_files
    leaves_so heads typed = (leaves_files heads typed, refl)
