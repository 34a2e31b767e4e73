-- What passed the wires of a run, and how they stand, whatever the folder tells of its files.
use Rattle.std.specs.Prelude.{◌≡◌, ◌≢◌, ℕ, ◌+◌, ◌≤◌, Bool, true, false, if◌then◌else◌, IsTrue, List, length, slice_get, Option, None, Some, ⊤}
use Rattle.elem_core.specs.Sort.{Sort}
use Rattle.elem_core.specs.Tree.{Tree}
use Rattle.stream_model.specs.declared.kind.Kind.{Kind}
use Rattle.stream_model.specs.declared.kind.Kind.TheVariants.{Lines, ToLines, Head, Ignore}
use Rattle.stream_model.specs.declared.outcome.WireCount.{WireCount}
use Rattle.stream_model.specs.declared.outcome.EndState.{EndState}
use Rattle.stream_model.specs.declared.outcome.EndState.TheVariants.{Ended, Failed, Unended, WriteFault}
use Rattle.stream_model.specs.Composed.{next, composed}
use Rattle.stream_model.specs.Graph.{Edge}
use Rattle.stream_model.specs.Lane.{lane_loss, Carries}
use Rattle.stream_model.specs.Listed.{tells_none}
use Rattle.stream_model.specs.Node.{World}
use Rattle.stream_model.specs.Outlook.{Outlook, End, unended, Agrees}
use Rattle.stream_model.specs.Rests.{SinksMatch}
use Rattle.stream_model.specs.Shape.{sent_at}
use Rattle.stream_model.specs.declared.blueprint.Blueprint.{Blueprint}
use Rattle.stream_model.specs.declared.blueprint.Node.{Node}
use Rattle.stream_model.specs.Known.{HeadLists}
use Rattle.nodes.specs.Ignoring.{EndsWith}
use Rattle.nodes.specs.Kinds.{writes_of}
use Rattle.nodes.specs.Sink.{WritesOf, sink_room}
use Rattle.run_laws.specs.Items.{lane_size}
use Rattle.run_laws.specs.Replayed.{RestsBy, IsLawfulBy, MisfitsOver}
use Rattle.run_laws.specs.Sinks.{WithinRounds}
use Rattle.blue_check.specs.Fitness.{IsFit}
use Rattle.blue_check.specs.Wires.{blueprint_wires}
use Rattle.materializer.specs.Files.{output_of}
use Rattle.materializer.specs.Choosers.{plan_at}
use Rattle.materializer.specs.Graphs.{graph_of, graph_node}
use Rattle.materializer.specs.Seats.{gather_of}
use Rattle.run_blueprint.specs.Checked.{wire_type}
use Rattle.run_blueprint.specs.Sent.{exact}
use Rattle.run_blueprint.specs.Stands.{SinkStand, has_ended_at}
use Rattle.run_blueprint.specs.Types.{AllTyped}
use Rattle.interpreter.specs.Picks.{Pick}
use Rattle.run_blueprint.specs.Choosing.{HasPicks}
use Rattle.run_blueprint.specs.Drawing.{Drawn, IsWorldOf}
use Rattle.stream_model.specs.Linear.{Book}
use Rattle.run_blueprint.specs.Plugs.{KeepsPlugTypes, CustomsTyped}

-- the type that the check settles for a wire
abbrev pub settled_type : Blueprint → HeadLists → Edge → Option Sort
settled_type b heads v = wire_type heads b.chains.items b.nodes.items (graph_of b) v

-- The wire of a sink is shut where the sink has ended or a write of it failed, but for a lane, through which the sink's cancel may be
-- on its way; and where the sink failed, also a lane (`lane_shut` of `WiresCarry` says more of a lane).
abbrev pub ShutBy : EndState → Option ℕ → Bool → Type 0
ShutBy Unended lane shut = ⊤
ShutBy Ended None shut = shut ≡ true
ShutBy Ended (Some s) shut = ⊤
ShutBy (Failed c) lane shut = shut ≡ true
ShutBy WriteFault None shut = shut ≡ true
ShutBy WriteFault (Some s) shut = ⊤

-- where the wire of a sink that goes on is shut, its end was sent
abbrev pub OverBy : EndState → Bool → End → Type 0
OverBy Unended shut e = shut ≡ true → e ≢ unended
OverBy Ended shut e = ⊤
OverBy (Failed c) shut e = ⊤
OverBy WriteFault shut e = ⊤

-- On the wire of a sink that goes on and wrote `count` lines, where it is open and no lane, an element is asked for exactly where all
-- that was sent was written; else one is on its way.
abbrev pub AskedBy : EndState → Option ℕ → ℕ → WireCount → Type 0
AskedBy Unended None count c = c.shut ≡ false → c.sent ≡ (if c.asked then count else count + 1)
AskedBy Unended (Some s) count c = ⊤
AskedBy Ended lane count c = ⊤
AskedBy (Failed d) lane count c = ⊤
AskedBy WriteFault lane count c = ⊤

-- So many lines of these were written, by a sink that may put so many together: while it waits no fewer than all but those that it may
-- put off, and less than all where a write failed, but no fewer than that. Where it may put one alone these are all, or all but one.
abbrev pub LinesWritten : ℕ → EndState → List Tree → ℕ → Type 0
LinesWritten room WriteFault wrote n = (n + 1 ≤ length wrote) × WithinRounds room (length wrote) n
LinesWritten room Unended wrote n = (n ≤ length wrote) × WithinRounds room (length wrote + 1) n
LinesWritten room _ wrote n = length wrote ≡ n

-- What came to a sink with a file of the list and the end that passed its wire: all of it but what is on its way, and but what a
-- failure may have robbed of a lane, `loss` elements at most. The sink wrote of that what its kind writes, so many lines, and it stands
-- so.
pub record SinkTook (loss lane : Option ℕ) (list : List Tree) (end : End) (shape : Kind) (s : SinkStand) : Type 0 where
  pub came : List Tree
  pub seen : End
  pub carried : Carries (lane_size loss) list end came seen
  pub kept : Option Tree
  pub wrote : List Tree
  pub writes : WritesOf (writes_of shape) s.0 kept s.2 came seen wrote
  pub lines : LinesWritten (sink_room (writes_of shape) (gather_of lane)) s.2 wrote s.1

-- what came to a sink that keeps nothing, which ends as that does
pub record IgnorerTook (loss : Option ℕ) (list : List Tree) (end : End) (s : SinkStand) : Type 0 where
  pub came : List Tree
  pub seen : End
  pub carried : Carries (lane_size loss) list end came seen
  pub none : s.1 ≡ 0
  pub ends : EndsWith s.2 seen

-- On each wire a list passed, and it stands so: as many elements as the picture counts (`counted`), all of the type that the
-- check settles for the wire, where those of custom stages are of their heads' (`typed`). What a node gave that is no source of lines and
-- no custom stage that tells no list agrees with what it gives of the lists that passed on its inputs, by every world that has what the
-- stages chose (`given`). A wire on which an end was sent is shut (`shut_is`);
-- a lane is not asked only where as many elements were sent as it has places (`lane_asks`); and the wire of a sink stands by how the
-- sink does (`sink_shut`, `sink_asked`): also a lane is shut where its sink has ended, unless that takes one element alone and so may
-- have cancelled it (`lane_shut`). A wire that is shut though no end was sent on it was cancelled, and then each wire behind it is shut,
-- those that go out of the node to which it leads, where that is no custom stage that tells no list (`left_shut`). Each sink stands by what came to it of what passed its wire
-- (`sink_took`, `ignorer_took`). What a source of lines gave, `AgreesWithFiles` says.
pub record WiresCarry (book : Book) (b : Blueprint) (stands : List SinkStand) (wires : List WireCount) (picks : List Pick) : Type 0 where
  pub lists : ℕ → List Tree
  pub ends : ℕ → End
  pub counted : (i : ℕ) (v : Edge) → slice_get (blueprint_wires b) i ≡ Some v → sent_at wires i ≡ length (lists i)
  pub typed : (heads : HeadLists) (taken : List (List ℕ)) → IsFit b heads taken → KeepsPlugTypes heads book
      → CustomsTyped heads book b.nodes.items (blueprint_wires b) lists → (i : ℕ) (v : Edge) → slice_get (blueprint_wires b) i ≡ Some v
      → (t : Sort) × ((settled_type b heads v ≡ Some t) × AllTyped t (lists i))
  pub given : (w : World) → w.book ≡ book → HasPicks picks w → (j : ℕ) (v : Edge) (n : Node) → slice_get (blueprint_wires b) j ≡ Some v
      → slice_get b.nodes.items v.from ≡ Some n → ((name : List ℕ) → n.kind ≢ Lines name) → tells_none book n.kind ≡ false
      → Agrees (next (graph_of b) w (λ u. exact (lists u) (ends u)) j) (lists j) (ends j)
  pub shut_is : (i : ℕ) (v : Edge) (c : WireCount) → slice_get (blueprint_wires b) i ≡ Some v → slice_get wires i ≡ Some c → ends i ≢ unended → c.shut ≡ true
  pub left_shut : (i : ℕ) (v : Edge) (c : WireCount) → slice_get (blueprint_wires b) i ≡ Some v → slice_get wires i ≡ Some c → c.shut ≡ true → ends i ≡ unended
      → ((n : Node) → slice_get b.nodes.items v.to ≡ Some n → tells_none book n.kind ≡ false)
      → (j : ℕ) (x : Edge) (d : WireCount) → slice_get (blueprint_wires b) j ≡ Some x → x.from ≡ v.to → slice_get wires j ≡ Some d → d.shut ≡ true
  pub lane_asks : (i : ℕ) (v : Edge) (c : WireCount) (s : ℕ) → slice_get (blueprint_wires b) i ≡ Some v → slice_get wires i ≡ Some c → v.lane ≡ Some s
      → c.asked ≡ false → s ≤ c.sent
  pub sink_shut : (k : ℕ) (s : SinkStand) (i : ℕ) (v : Edge) (c : WireCount) → slice_get stands k ≡ Some s → slice_get (blueprint_wires b) i ≡ Some v
      → v.to ≡ s.0 → slice_get wires i ≡ Some c
      → ShutBy s.2 v.lane c.shut × OverBy s.2 c.shut (ends i)
  pub lane_shut : (k : ℕ) (s : SinkStand) (n : Node) (i : ℕ) (v : Edge) (c : WireCount) → slice_get stands k ≡ Some s → slice_get b.nodes.items s.0 ≡ Some n
      → ((file : List ℕ) → n.kind ≢ Head file) → slice_get (blueprint_wires b) i ≡ Some v → v.to ≡ s.0 → slice_get wires i ≡ Some c → s.2 ≡ Ended
      → c.shut ≡ true
  pub sink_asked : (k : ℕ) (s : SinkStand) (n : Node) (file : List ℕ) (i : ℕ) (v : Edge) (c : WireCount) → slice_get stands k ≡ Some s
      → slice_get b.nodes.items s.0 ≡ Some n → n.kind ≡ ToLines file
      → slice_get (blueprint_wires b) i ≡ Some v → v.to ≡ s.0 → slice_get wires i ≡ Some c → AskedBy s.2 v.lane s.1 c
  pub sink_took : (k : ℕ) (s : SinkStand) (n : Node) (file : List ℕ) (i : ℕ) (v : Edge) → slice_get stands k ≡ Some s → slice_get b.nodes.items s.0 ≡ Some n
      → output_of n.kind ≡ Some file → slice_get (blueprint_wires b) i ≡ Some v → v.to ≡ s.0
      → SinkTook (lane_loss v.keep v.lane) v.lane (lists i) (ends i) n.kind s
  pub ignorer_took : (k : ℕ) (s : SinkStand) (n : Node) (i : ℕ) (v : Edge) → slice_get stands k ≡ Some s → slice_get b.nodes.items s.0 ≡ Some n
      → n.kind ≡ Ignore → slice_get (blueprint_wires b) i ≡ Some v → v.to ≡ s.0 → IgnorerTook (lane_loss v.keep v.lane) (lists i) (ends i) s

-- what passed each wire, as all that may pass it
abbrev pub as_passed : {book : Book} → {b : Blueprint} → {stands : List SinkStand} → {wires : List WireCount} → {picks : List Pick}
    → WiresCarry book b stands wires picks → ℕ → Outlook
as_passed c u = exact (c.lists u) (c.ends u)

-- What passed each wire, also that of a source of lines, agrees with the wire's composed outlook, by every world that has the input
-- files as they were read and what the stages chose. So a source of lines sent an end only behind all lines of its file, or a failure
-- for which the file or a failed read gives the cause.
abbrev pub AgreesWithFiles : {book : Book} → {b : Blueprint} → {stands : List SinkStand} → {wires : List WireCount} → {picks : List Pick} → Drawn
    → WiresCarry book b stands wires picks → Type 0
AgreesWithFiles {book} {b} d c = (w : World) → IsWorldOf book b.nodes.items d w → (i : ℕ) (v : Edge) → slice_get (blueprint_wires b) i ≡ Some v
    → Agrees (composed (graph_of b) w i) (c.lists i) (c.ends i)

-- a stage cannot make its next move by what passed the wires
abbrev pub MisfitByPassed : {book : Book} → {b : Blueprint} → {stands : List SinkStand} → {wires : List WireCount} → {picks : List Pick}
    → WiresCarry book b stands wires picks → List (Option (List ℕ)) → ℕ → Node → Type 0
MisfitByPassed {book} {b} {stands} {wires} {picks} c plans k n = (w : World) → w.book ≡ book → HasPicks picks w
    → MisfitsOver (graph_of b) w (plan_at plans) (as_passed c) k (graph_node b.wires.items n)

-- The picture of a run by what passed its wires, whatever the folder tells of its files. What came of custom stages is of the types of these
-- heads. By every world that has the book of the run and what its stages chose it is lawful, and where no event was left it rests, but for the
-- stages that cannot make their next move; then a sink's input is shut exactly where the sink has ended.
pub record PictureStands (book : Book) (heads : HeadLists) (b : Blueprint) (plans : List (Option (List ℕ))) (sinks : List SinkStand) (picks : List Pick)
    (wires : List WireCount) (at_rest : Bool) : Type 0 where
  pub carries : WiresCarry book b sinks wires picks
  pub customs : CustomsTyped heads book b.nodes.items (blueprint_wires b) carries.lists
  pub lawful : (w : World) → w.book ≡ book → HasPicks picks w → IsLawfulBy (graph_of b) w (plan_at plans) wires (as_passed carries)
  pub rest : IsTrue at_rest → (w : World) → w.book ≡ book → HasPicks picks w → RestsBy (graph_of b) w (plan_at plans) wires (as_passed carries)
  pub matching : IsTrue at_rest → (w : World) → SinksMatch (graph_of b) w wires (as_passed carries) (has_ended_at sinks)
