-- What the sources of a blueprint had drawn at a moment of its run between two events and what its stages had chosen, and the worlds
-- that tell of it.
use Rattle.std.proofs.Common.{◌≡◌, ℕ, ◌+◌, true, List, [], map, length, refl, sym, ap, ◌∙◌, subst, arith}
use Rattle.std.specs.Prelude.{slice_get, IsTrue, IsSome, Option, Some, None, unwrap_or}
use Rattle.stream_model.specs.declared.kind.Kind.TheVariants as kind
use Rattle.stream_model.specs.Composed.{count_from}
use Rattle.stream_model.specs.Graph.{Graph}
use Rattle.stream_model.specs.Graph as graph
use Rattle.stream_model.specs.Node.{World, nothing}
use Rattle.stream_model.specs.Outlook.{Outlook}
use Rattle.elem_core.specs.declared.item.Item.{Item}
use Rattle.port_core.specs.View.{View}
use Rattle.graph_stage.specs.State.{CustomState}
use Rattle.graph_stage.proofs.Pushes.{stays}
use Rattle.stream_io.specs.Counts.{Grew}
use Rattle.stream_io.specs.State.{FolderState, SourceState, DrainState}
use Rattle.nodes.specs.Source.{Lines}
use Rattle.nodes.specs.declared.node.IslandNode.{IslandNode}
use Rattle.nodes.specs.declared.node.IslandNode.TheVariants as node
use Rattle.nodes.specs.Nodes.{node_law}
use Rattle.run_laws.specs.Items.{passed_so}
use Rattle.run_laws.specs.Made.{FirstOf}
use Rattle.run_laws.specs.Account.{Account}
use Rattle.interpreter.specs.Picks.{picks_of}
use Rattle.run_laws.specs.Telling.{TellsFile, TellsGave, given_at, TellsNode, TellsFiles, TellsPicks, WorldTells, moves_at}
use Rattle.stream_model.specs.declared.blueprint.Blueprint.{Blueprint}
use Rattle.blue_names.specs.Names.{file_of}
use Rattle.stream_model.specs.declared.blueprint.Node as blue
use Rattle.materializer.specs.Fit.{CanRun}
use Rattle.materializer.specs.Files.{inputs_of_nodes, outputs_of_nodes}
use Rattle.materializer.specs.Graphs.{graph_node, graph_of, chains_of}
use Rattle.run_blueprint.specs.Choosing.{pick_places, picked, HasPicks}
use Rattle.run_blueprint.specs.Opening.{Opens}
use Rattle.run_blueprint.specs.Drawing.{Drawn, IsSource, WasRead, IsWorldOf}
use Rattle.island_runs.specs.Leaving.{Moment}
use Rattle.run_blueprint.proofs.Choosing.{node_chooses, picked_along, told_along, has_along}
use Rattle.run_blueprint.proofs.Counts.{rose_by, rose_from_none, is_positive, positive, above_none, not_positive, some_of}
use Rattle.run_blueprint.proofs.Apart.{one_file}
use Rattle.run_blueprint.proofs.Worlds.{world_of, world_has}
use Rattle.run_blueprint.proofs.Places.{unmapped_at}
use Rattle.run_blueprint.proofs.Handles.{HandleLaws, SourceFacts, source_facts, node_facts, reading_same, as_many}
use Rattle.stream_model.specs.Linear.{Book}
use Rattle.stream_model.specs.Listed.{tells_none}

-- the state of the source at a place, where one is there
abbrev blank : SourceState
blank = record { name = []; whole = None; given = 0; faults = 0 }

abbrev source_in : {S D L H B : Type 0} → (S → SourceState) → Option (IslandNode S D L H B) → SourceState
source_in sources (Some (node.Reading x)) = sources x.reader.source
source_in sources _ = blank

source_there : {S D L H B : Type 0} (sources : S → SourceState) (o : Option (IslandNode S D L H B)) (x : Lines S) → o ≡ Some (node.Reading x) → source_in sources o ≡ sources x.reader.source
source_there sources o x e = rw e refl

one_node : {A : Type 0} {o : Option A} (x y : A) → o ≡ Some x → o ≡ Some y → x ≡ y
one_node x y a b = cc

told_whole : (o : Option (List ℕ)) (bytes : List ℕ) → o ≡ Some bytes → unwrap_or o [] ≡ bytes
told_whole o bytes e = rw e refl

-- what a custom stage at a place gave on an output
abbrev so_passed : Option (List Item) → Outlook
so_passed None = nothing
so_passed (Some h) = passed_so h

abbrev custom_gave : {S D L H B : Type 0} → Option graph.Node → Option (IslandNode S D L H B) → ℕ → Outlook
custom_gave (Some n) (Some (node.Custom x)) p = so_passed (slice_get (given_at n x) p)
custom_gave _ _ p = nothing

custom_there : {S D L H B : Type 0} (o : Option graph.Node) (x : Option (IslandNode S D L H B)) (n : graph.Node) (c : CustomState) (p : ℕ) (h : List Item) → o ≡ Some n → x ≡ Some (node.Custom c) → slice_get (given_at n c) p ≡ Some h
    → custom_gave o x p ≡ passed_so h
custom_there {S} {D} {L} {H} {B} o x n c p h e f at =
    ap (λ (z : Option graph.Node). custom_gave z x p) e ∙ ap (λ (z : Option (IslandNode S D L H B)). custom_gave (Some n) z p) f ∙ ap so_passed at

-- it stays the stage of its node
custom_node : {S D L H B : Type 0} (sources : S → SourceState) (drains : D → DrainState) (book : Book) (chains : List graph.Chain) (k : ℕ) (n : graph.Node) (first : IslandNode S D L H B) (c : CustomState) (v : View) (took gave : List (List Item))
    → FirstOf sources chains k n first → node_law sources drains book first (node.Custom c) v took gave → c.node ≡ k
custom_node sources drains book chains k n (node.Custom f) c v took gave made law = (stays f c v took gave law).0 ∙ made.node
custom_node sources drains book chains k n (node.Entering f) c v took gave made law = absurd made
custom_node sources drains book chains k n (node.Leaving f) c v took gave made law = absurd made
custom_node sources drains book chains k n first c v took gave made law = absurd law

-- a world that has the files as they were read and what custom stages gave tells of each of them
tells_node : {S D L H B : Type 0} (sources : S → SourceState) (w : World) (n : graph.Node) (first now : IslandNode S D L H B)
    → ((a c : Lines S) (name : List ℕ) → first ≡ node.Reading a → now ≡ node.Reading c → n.kind ≡ kind.Lines name → TellsFile (sources a.reader.source) (sources c.reader.source) (w.file name))
    → ((c : CustomState) → now ≡ node.Custom c → TellsGave w n c) → TellsNode sources w n first now
tells_node sources w n (node.Reading a) (node.Reading c) tells gave = λ name shape. tells a c name refl refl shape
tells_node sources w n (node.Custom a) (node.Custom c) tells gave = gave c refl
tells_node sources w n first now tells gave = tt

abbrev pub drawn_of : {S D L H B : Type 0} → (S → SourceState) → Graph → Account (IslandNode S D L H B) → List (IslandNode S D L H B) → Drawn
drawn_of sources g left last = record {
  bytes = λ k. unwrap_or (source_in sources (left.firsts k)).whole [];
  given = λ k. (source_in sources (left.nodes k)).given;
  faulted = λ k. is_positive (source_in sources (left.nodes k)).faults;
  picks = picks_of (count_from 0 (length last)) last;
  given_by = λ k p. custom_gave (slice_get g.nodes k) (left.nodes k) p;
}

module _ {S D L H B : Type 0} (sources : S → SourceState) (drains : D → DrainState) (book : Book) (handles : HandleLaws L H B sources drains book) (b : Blueprint) (can : CanRun b) (ss : List S) (ds : List D) (left : Account (IslandNode S D L H B)) (last : List (IslandNode S D L H B)) (l : Moment sources drains book b ss ds left last)
    (old mid : FolderState) {others : List (List ℕ)} (opens : Opens old mid (inputs_of_nodes b.nodes.items) (outputs_of_nodes b.nodes.items) others (map sources ss) (map drains ds)) where
  abbrev nodes : List blue.Node
  nodes = b.nodes.items

  abbrev Source : ℕ → List ℕ → Type 0
  Source k file = SourceFacts sources drains book handles b ss ds left last l old mid opens k file

  abbrev drawn : Drawn
  drawn = drawn_of sources (graph_of b) left last

  -- the moves of each node
  abbrev pub made_moves : ℕ → List ℕ
  made_moves k = moves_at (left.nodes k)

  -- a world that has the moves tells of every stage
  pub picks_told : (w : World) → HasPicks drawn.picks w → TellsPicks w left
  picks_told w has k now at moves is =
      let none : 0 + k ≡ k = omega arith in
      ap w.moves (sym none) ∙ told_along 0 last w has k now moves (sym (l.node_at k) ∙ at) is

  -- and so has one in which each node made its own
  pub has_made : (w : World) → ((k : ℕ) → w.moves k ≡ made_moves k) → HasPicks drawn.picks w
  has_made w made = has_along 0 last w (λ i x at. let none : 0 + i ≡ i = omega arith in ap w.moves none ∙ made i ∙ ap moves_at (l.node_at i ∙ at))

  -- there is a list of moves for each stage whose kind chooses, and no other
  pub picks_stand : picked drawn.picks ≡ pick_places 0 nodes
  picks_stand =
      picked_along 0 nodes last (as_many sources drains book handles b ss ds left last l old mid opens)
      (λ i n x at here.
      let f = node_facts sources drains book handles b ss ds left last l old mid opens i n x at here in
      node_chooses sources drains book b.wires.items (chains_of b) i n f.first x f.knew f.came f.went f.made f.law)

  -- what a source drew of its file, which was there
  pub record DrawsOf (k : ℕ) (file : List ℕ) (f : Source k file) : Type 0 where
    pub bytes : List ℕ
    pub there : old.file file ≡ Some bytes
    pub whole : (sources f.first.reader.source).whole ≡ Some bytes
    pub drawn_bytes : drawn.bytes k ≡ bytes
    pub given : drawn.given k ≡ (sources f.now.reader.source).given
    pub faulted : drawn.faulted k ≡ is_positive (sources f.now.reader.source).faults

  -- the world has the files as they were read
  abbrev pub HasFiles : World → Type 0
  HasFiles w = (k : ℕ) (file : List ℕ) → IsSource nodes k file → w.file file ≡ record { bytes = drawn.bytes k; read = drawn.given k; faulted = drawn.faulted k }

  -- and what each custom stage gave that tells no list
  abbrev pub GaveSo : World → Type 0
  GaveSo w = (k : ℕ) (n : blue.Node) (p : ℕ) → slice_get nodes k ≡ Some n → tells_none book n.kind ≡ true → w.given k p ≡ drawn.given_by k p

  -- what every source drew; and a world that has the files as they were read, and what the custom stages gave that tell no list, tells of them
  pub record Draws : Type 0 where
    pub source : (k : ℕ) (file : List ℕ) (f : Source k file) → DrawsOf k file f
    pub tells : (w : World) → IsWorldOf book nodes drawn w → WorldTells sources (graph_of b) w left
    pub files : (w : World) → w.book ≡ book → HasFiles w → GaveSo w → TellsFiles sources (graph_of b) w left
    pub has_files : IsWorldOf book nodes drawn (world_of book nodes drawn made_moves)

  -- what a custom stage gave, it has
  pub gave_told : (w : World) → w.book ≡ book → GaveSo w → (k : ℕ) (n : graph.Node) (c : CustomState) → slice_get (graph_of b).nodes k ≡ Some n → left.nodes k ≡ Some (node.Custom c) → TellsGave w n c
  gave_told w is gave k n c gi ni =
      let m = unmapped_at (graph_node b.wires.items) nodes k n gi in
      let f = node_facts sources drains book handles b ss ds left last l old mid opens k m.0 (node.Custom c) m.1.0 (sym (l.node_at k) ∙ ni) in
      let place : c.node ≡ k = custom_node sources drains book (chains_of b) k (graph_node b.wires.items m.0) f.first c f.knew f.came f.went f.made f.law in
      record {
        given = λ untold p h at.
            let here : tells_none book m.0.kind ≡ true = ap (λ (x : graph.Node). tells_none book x.kind) (sym m.1.1) ∙ ap (λ (x : Book). tells_none x n.kind) (sym is) ∙ untold in
            ap (λ (j : ℕ). w.given j p) place ∙ gave k m.0 p m.1.0 here ∙ custom_there (slice_get (graph_of b).nodes k) (left.nodes k) n c p h gi ni at;
      }

  module _ (tells_was : IsTrue old.tells) where
    draws_of : (k : ℕ) (file : List ℕ) (f : Source k file) → DrawsOf k file f
    draws_of k file f =
        let there = some_of (old.file file) (subst (λ n. IsSome (old.file n)) f.first_named (f.start.there tells_was)) in
        let whole : (sources f.first.reader.source).whole ≡ Some there.0 = f.start.whole tells_was ∙ ap old.file f.first_named ∙ there.1 in
        record {
          bytes = there.0;
          there = there.1;
          whole = whole;
          drawn_bytes = ap (λ (i : SourceState). unwrap_or i.whole []) (source_there sources (left.firsts k) f.first f.there.at_first) ∙ told_whole (sources f.first.reader.source).whole there.0 whole;
          given = ap (λ (i : SourceState). i.given) (source_there sources (left.nodes k) f.now f.there.at_last);
          faulted = ap (λ (i : SourceState). is_positive i.faults) (source_there sources (left.nodes k) f.now f.there.at_last);
        }

    -- so much was read of its file, and its reads that failed were counted
    pub reads_of : (k : ℕ) (file : List ℕ) (f : Source k file) (new : FolderState) (read : ℕ) → Grew (old.read file) read (new.read file) → Grew (old.rfaults file) (sources f.now.reader.source).faults (new.rfaults file)
        → WasRead old new file (drawn.bytes k) read (drawn.faulted k)
    reads_of k file f new read grew faults =
        let d = draws_of k file f in
        record {
          there = d.there ∙ ap Some (sym d.drawn_bytes);
          read = grew;
          rose = λ p. rose_by (old.rfaults file) (sources f.now.reader.source).faults (new.rfaults file) faults (above_none (sources f.now.reader.source).faults (subst IsTrue d.faulted p));
          calm = λ p. subst (λ n. Grew (old.rfaults file) n (new.rfaults file)) (not_positive (sources f.now.reader.source).faults (sym d.faulted ∙ p)) faults;
        }

    file_told : (k : ℕ) (file : List ℕ) (f : Source k file) (w : World) → w.file file ≡ record { bytes = drawn.bytes k; read = drawn.given k; faulted = drawn.faulted k } → TellsFile (sources f.first.reader.source) (sources f.now.reader.source) (w.file file)
    file_told k file f w is =
        let d = draws_of k file f in
        rw is (record {
          bytes = d.whole ∙ ap Some (sym d.drawn_bytes);
          read = d.given;
          faulted = λ rose. subst IsTrue (sym d.faulted) (positive (sources f.now.reader.source).faults (rose_from_none (sources f.first.reader.source).faults (sources f.now.reader.source).faults f.start.faults rose));
        })

    files_told : (w : World) → w.book ≡ book → HasFiles w → GaveSo w → TellsFiles sources (graph_of b) w left
    files_told w is has gave k n first now gi fi ni = tells_node sources w n first now (λ a c name fa nc shape.
        let m = unmapped_at (graph_node b.wires.items) nodes k n gi in
        let place : IsSource nodes k name = record { node = m.0; at = m.1.0; kind_is = ap (λ (x : graph.Node). x.kind) (sym m.1.1) ∙ shape } in
        let f = source_facts sources drains book handles b ss ds left last l old mid opens k name place in
        let first_is : f.first ≡ a = reading_same f.first a first (one_node first (node.Reading f.first) fi f.there.at_first) fa in
        let now_is : f.now ≡ c = reading_same f.now c now (one_node now (node.Reading f.now) ni f.there.at_last) nc in
        subst (λ (x : Lines S). TellsFile (sources x.reader.source) (sources c.reader.source) (w.file name)) first_is
        (subst (λ (x : Lines S). TellsFile (sources f.first.reader.source) (sources x.reader.source) (w.file name)) now_is (file_told k name f w (has k name place))))
        (λ c nc. gave_told w is gave k n c gi (ni ∙ ap (λ (x : IslandNode S D L H B). Some x) nc))

    world_tells : (w : World) → IsWorldOf book nodes drawn w → WorldTells sources (graph_of b) w left
    world_tells w is = record { files = files_told w is.book_is is.files is.gave; picks = picks_told w is.moves }

    pub draws_all : Draws
    draws_all = record {
      source = draws_of;
      tells = world_tells;
      files = files_told;
      has_files = world_has book nodes drawn made_moves (λ i k m n name at here p q. one_file b can.heads can.taken can.fit i k m n name at here (ap file_of p) (ap file_of q))
          (has_made (world_of book nodes drawn made_moves) (λ k. refl));
    }
