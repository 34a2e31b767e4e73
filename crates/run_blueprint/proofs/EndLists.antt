-- What passed the wires of a blueprint by the end of its run.
use Rattle.std.proofs.Common.{◌≡◌, ℕ, List, map, slice_get, refl, sym, ap, ◌∙◌, subst}
use Rattle.std.specs.Prelude.{not, Option, Some}
use Rattle.std.specs.Option.{option_map}
use Rattle.elem_core.specs.Sort.{Sort}
use Rattle.elem_core.specs.Tree.{Tree}
use Rattle.stream_model.specs.declared.kind.Kind.{Kind}
use Rattle.stream_model.specs.declared.kind.Kind.TheVariants as kind
use Rattle.stream_model.specs.declared.outcome.WireCount.{WireCount}
use Rattle.stream_model.specs.Graph.{Graph, Edge}
use Rattle.stream_model.specs.Listed.{tells_none}
use Rattle.stream_model.specs.Node.{World}
use Rattle.stream_model.specs.Outlook.{Outlook}
use Rattle.stream_io.specs.State.{FolderState, SourceState, DrainState}
use Rattle.nodes.specs.declared.node.IslandNode.{IslandNode}
use Rattle.nodes.specs.declared.node.IslandNode.TheVariants as node
use Rattle.run_laws.specs.Account.{Account}
use Rattle.run_laws.specs.Items.{list_of, passed_so, IsToldList}
use Rattle.run_laws.proofs.Blaming.{custom_gives}
use Rattle.run_laws.proofs.CustomRows.{custom_there}
use Rattle.run_laws.specs.Pictures as pictures
use Rattle.run_laws.specs.Runs.{IsRun}
use Rattle.run_laws.specs.Telling.{TellsPicks, TellsCustoms}
use Rattle.run_laws.proofs.Choosing.{chosen_told}
use Rattle.stream_model.specs.declared.blueprint.Blueprint.{Blueprint}
use Rattle.stream_model.specs.declared.blueprint.Node as blue
use Rattle.blue_check.specs.Wires.{blueprint_wires}
use Rattle.stream_model.specs.Known.{CustomShape, HeadLists}
use Rattle.blue_names.specs.CustomPorts.{custom_named, output_type}
use Rattle.graph_stage.specs.Passed.{ItemsTyped}
use Rattle.materializer.specs.Fit.{CanRun}
use Rattle.materializer.specs.Files.{inputs_of_nodes, outputs_of_nodes}
use Rattle.materializer.specs.HandedCustoms.{head_types, types_by_heads}
use Rattle.materializer.specs.Seats.{place_types}
use Rattle.materializer.specs.Graphs.{graph_node, graph_of}
use Rattle.run_blueprint.specs.Plugs.{GivenTyped, ToldTyped, CustomsTyped}
use Rattle.run_blueprint.specs.Types.{AllTyped}
use Rattle.run_blueprint.specs.Carrying.{WiresCarry, as_passed}
use Rattle.run_blueprint.proofs.Carried.{unread, agrees_exactly, passes_exactly, told_sent, carries}
use Rattle.run_blueprint.specs.Drawing.{Drawn}
use Rattle.island_runs.specs.Leaving.{Moment, RunLeaves}
use Rattle.run_blueprint.specs.Opening.{Opens}
use Rattle.island_runs.specs.declared.run.Stopped.{Stopped}
use Rattle.run_blueprint.proofs.Places.{mapped_at, place_of}
use Rattle.run_blueprint.proofs.CustomTypes.{list_typed, output_found, types_along}
use Rattle.run_blueprint.proofs.Profiles.{some_one}
use Rattle.run_blueprint.proofs.Handles.{HandleLaws}
use Rattle.run_blueprint.proofs.SinkWires.{ended_shut, lane_asked}
use Rattle.run_blueprint.proofs.Drawns.{drawn_of, gave_told, made_moves, picks_told}
use Rattle.run_blueprint.proofs.RunLaws.{RunLaws}
use Rattle.run_blueprint.proofs.EndStands.{wire_count_at, wire_at, sink_stood, ended_stood, writer_stood, took_there, ignored_there, left_stood}
use Rattle.stream_model.specs.Linear.{Book}

module _ {S D L H B : Type 0} (sources : S → SourceState) (drains : D → DrainState) (book : Book) (handles : HandleLaws L H B sources drains book) (laws : RunLaws L H B sources drains book) (b : Blueprint) (can : CanRun b) (ss : List S) (ds : List D) (budget : ℕ) (st : Stopped S D) (l : RunLeaves L H B sources drains book b ss ds budget st)
    (old mid : FolderState) {others : List (List ℕ)} (opens : Opens old mid (inputs_of_nodes b.nodes.items) (outputs_of_nodes b.nodes.items) others (map sources ss) (map drains ds)) where
  abbrev pub nodes : List blue.Node
  nodes = b.nodes.items

  abbrev pub left : Account (IslandNode S D L H B)
  left = l.account

  abbrev pub last : List (IslandNode S D L H B)
  last = l.nodes

  abbrev pub between : Moment sources drains book b ss ds left last
  between = l.moment

  abbrev pub g : Graph
  g = graph_of b

  pub run : IsRun sources drains book g left
  run = l.moment.run

  -- so it is by the heads of every world that has these
  pub run_at : (w : World) → w.book ≡ book → IsRun sources drains w.book g left
  run_at w is = subst (λ (x : Book). IsRun sources drains x g left) (sym is) run

  -- what the sources drew
  abbrev pub drawn : Drawn
  drawn = drawn_of sources (graph_of b) left last

  -- what the nodes chose
  abbrev pub moved : ℕ → List ℕ
  moved = made_moves sources drains book handles b can ss ds left last between old mid opens

  -- a world with these moves tells what the stages chose
  pub told_moves : TellsPicks (unread book moved) left
  told_moves = chosen_told book (unread book moved).file left

  -- the same world, in which the custom stages gave what they gave
  abbrev pub given_world : World
  given_world = record (unread book moved) { given = drawn.given_by }

  pub customs_told : TellsCustoms g given_world left
  customs_told k n c gi ni = gave_told sources drains book handles b can ss ds left last between old mid opens given_world refl (λ j m p at untold. refl) k n c gi ni

  -- what a custom stage gave is what was sent on the wire from there
  pub given_typed : (heads : HeadLists) → CustomsTyped heads book nodes (blueprint_wires b) (λ u. list_of (left.near u).wire.sent) → GivenTyped heads nodes (blueprint_wires b) given_world
  given_typed heads passed = record {
    told = passed.told;
    typed = λ j v n name t at is custom untold out.
        let m = graph_node b.wires.items n in
        let there : slice_get g.nodes v.from ≡ Some m = mapped_at (graph_node b.wires.items) nodes v.from n is in
        let gave : given_world.given v.from v.output ≡ passed_so (left.near j).wire.sent = custom_gives sources drains g given_world left run (λ k x c gi ni. customs_told k x c gi ni) j v m name at there custom (ap (tells_none book) custom ∙ ap not untold) in
        subst (λ (l : List Tree). AllTyped t l) (sym (ap (λ (o : Outlook). o.list) gave)) (passed.came j v n name t at is custom out);
  }

  -- each custom stage has the types that these heads name, and tells elements of those
  abbrev pub HasTypes : HeadLists → Type 0
  HasTypes heads = (map place_types between.places ≡ types_by_heads heads nodes) × ToldTyped heads book

  -- so what it sent is of them
  sent_typed_at : (heads : HeadLists) → map place_types between.places ≡ types_by_heads heads nodes → (j : ℕ) (v : Edge) (n : blue.Node) (name : List ℕ) (t : Sort) → slice_get (blueprint_wires b) j ≡ Some v → slice_get nodes v.from ≡ Some n → n.kind ≡ kind.Custom name
      → output_type (custom_named heads name) v.output ≡ Some t → AllTyped t (list_of (left.near j).wire.sent)
  sent_typed_at heads has j v n name t at is custom out =
      let m = graph_node b.wires.items n in
      let there : slice_get g.nodes v.from ≡ Some m = mapped_at (graph_node b.wires.items) nodes v.from n is in
      let c = custom_there sources drains book g left run v.from m name there custom in
      let first : slice_get between.firsts v.from ≡ Some (node.Custom c.0) = sym (between.first_at v.from) ∙ c.1.1.0 in
      let by_place : slice_get (map place_types between.places) v.from ≡ Some (Some c.0.types) = types_along between.places between.firsts between.become v.from c.0 first in
      let by_head : slice_get (types_by_heads heads nodes) v.from ≡ Some (head_types heads n.kind) = mapped_at (λ (y : blue.Node). head_types heads y.kind) nodes v.from n is in
      let same : head_types heads n.kind ≡ Some c.0.types =
      some_one (head_types heads n.kind) (Some c.0.types) (sym by_head ∙ sym (ap (λ (l : List (Option (List Sort))). slice_get l v.from) has) ∙ by_place) in
      let named : option_map (λ (h : CustomShape). h.outputs) (custom_named heads name) ≡ Some c.0.types = ap (λ (q : Kind). head_types heads q) (sym custom) ∙ same in
      let typed : ItemsTyped (slice_get c.0.types v.output) (left.near j).wire.sent = laws.typed g left run j v m name at there custom c.0 c.1.1.0 in
      list_typed t (left.near j).wire.sent (subst (λ (o : Option Sort). ItemsTyped o (left.near j).wire.sent) (output_found (custom_named heads name) c.0.types v.output t named out) typed)

  pub sent_typed : (heads : HeadLists) → HasTypes heads → CustomsTyped heads book nodes (blueprint_wires b) (λ u. list_of (left.near u).wire.sent)
  sent_typed heads has = record { came = λ j v n name t at is custom out. sent_typed_at heads has.0 j v n name t at is custom out; told = has.1 }

  -- what was sent on each wire is a list, and how it stands
  pub sent_list : (i : ℕ) (v : Edge) → slice_get (blueprint_wires b) i ≡ Some v → IsToldList (left.near i).wire.sent
  sent_list i v at =
      let ranks = laws.ranked b can.heads can.taken can.fit in
      told_sent g ranks.0 ranks.1 (unread book moved) (λ u. (left.near u).wire.sent) (λ k x here. let n = run.joined.source k x here in (n.0, n.1)) (laws.texts g left run) (laws.customs g left run) (laws.gives g (unread book moved) left run told_moves) i v at

  -- it is of its type where the heads keep to theirs
  abbrev pub carried : WiresCarry book b st.end.sinks.items st.wires.items drawn.picks
  carried =
      carries book b st.end.sinks.items st.wires.items drawn.picks moved (λ u. (left.near u).wire.sent) (wire_count_at sources drains book handles laws b ss ds budget st l old mid opens) sent_list given_world
      (λ heads taken fit keeps passed i v at.
      let by = laws.ranked b heads taken fit in
      laws.types heads b.chains.items nodes g given_world by.0 left run told_moves customs_told (laws.fits b heads taken g fit refl refl refl) keeps (given_typed heads passed) by.1 i v at)
      (λ w is has sent j v n at from other tells came. laws.gives g w left (run_at w is) (picks_told sources drains book handles b can ss ds left last between old mid opens w has) sent j v n at from other (ap (λ (x : Book). tells_none x n.kind) is ∙ tells) came)
      (λ u v c at is. rw (wire_at sources drains book handles laws b ss ds budget st l old mid opens u v c at is) (record { over = ended_shut sources drains book g left run u v at; asks = lane_asked sources drains book g left run u v at }))
      (left_stood sources drains book handles laws b ss ds budget st l old mid opens) (sink_stood sources drains book handles laws b ss ds budget st l old mid opens) (ended_stood sources drains book handles laws b ss ds budget st l old mid opens) (writer_stood sources drains book handles laws b ss ds budget st l old mid opens) (took_there sources drains book handles laws b ss ds budget st l old mid opens) (ignored_there sources drains book handles laws b ss ds budget st l old mid opens)

  -- the picture of the run
  abbrev pub picture : List WireCount
  picture = pictures.picture_counts left g

  pub all_pass : pictures.AllPass left g (as_passed carried)
  all_pass u below = let v = place_of (blueprint_wires b) u below in passes_exactly (left.near u).wire.sent (sent_list u v.0 v.1)

  pub all_agree : pictures.AllAgreeWith left g (as_passed carried)
  all_agree u below = let v = place_of (blueprint_wires b) u below in agrees_exactly (left.near u).wire.sent (sent_list u v.0 v.1)
