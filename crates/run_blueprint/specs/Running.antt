-- What a run of a blueprint leaves in the folder.
use Rattle.std.specs.Prelude.{◌≡◌, ◌≢◌, ℕ, ◌+◌, ◌≤◌, ◌⊎◌, Bool, false, IsTrue, List, [], length, map, slice_get, Option, Some}
use Rattle.std.specs.List.{Contains, list_any}
use Rattle.elem_core.specs.Prefix.{IsPrefix}
use Rattle.elem_core.specs.Text.{text_lines}
use Rattle.stream_model.specs.declared.blueprint.Blueprint.{Blueprint}
use Rattle.stream_model.specs.declared.blueprint.Node.{Node}
use Rattle.blue_check.specs.Wires.{blueprint_wires}
use Rattle.blue_check.specs.Forest.{wiring}
use Rattle.stream_model.specs.declared.kind.Kind.TheVariants.{ToLines, Ignore}
use Rattle.stream_model.specs.declared.outcome.WireCount.{WireCount}
use Rattle.stream_model.specs.declared.outcome.EndState.{EndState}
use Rattle.stream_model.specs.declared.outcome.EndState.TheVariants.{Unended, WriteFault}
use Rattle.stream_model.specs.Graph.{Edge}
use Rattle.stream_model.specs.Known.{HeadLists}
use Rattle.stream_model.specs.Listed.{AllTell}
use Rattle.stream_model.specs.Node.{World}
use Rattle.stream_model.specs.Blame.{GivenLeads}
use Rattle.stream_model.specs.Composed.{composed, sink_outlook}
use Rattle.stream_model.specs.Sources.{whole_lines}
use Rattle.stream_model.specs.Outlook.{Agrees}
use Rattle.stream_model.specs.Rests.{SinksMatch}
use Rattle.stream_model.specs.Shape.{IsPolytree, sent_at, need, count_needed}
use Rattle.stream_io.specs.Counts.{Rose, Grew}
use Rattle.stream_io.specs.State.{FolderState}
use Rattle.run_laws.specs.Replayed.{RestsBy, IsLawfulBy, FitsBy, MisfitsOver}
use Rattle.run_laws.specs.Sinks.{SinkTells, IgnoreTells}
use Rattle.materializer.specs.Choosers.{plan_at, NoneFollow}
use Rattle.materializer.specs.Graphs.{graph_node, graph_of}
use Rattle.materializer.specs.Files.{output_of, inputs_of_nodes, outputs_of_nodes}
use Rattle.stream_io.specs.Quiet.{Quiet}
use Rattle.stream_io.specs.Opening.{GivesUp}
use Rattle.interpreter.specs.Picks.{Pick, pick_of}
use Rattle.run_blueprint.specs.Carrying.{WiresCarry, AgreesWithFiles, PictureStands, MisfitByPassed}
use Rattle.run_blueprint.specs.Choosing.{pick_places, picked}
use Rattle.run_blueprint.specs.Drawing.{Drawn, IsSource, WasRead, WereRead, IsWorldOf, DrawsFirst}
use Rattle.run_blueprint.specs.Plugs.{CustomsTyped}
use Rattle.run_blueprint.specs.Replaying.{MakesItsMoves, IsReplayOf, ServesItsMoves, IsMisfit}
use Rattle.run_blueprint.specs.Sending.{SentOn}
use Rattle.run_blueprint.specs.Stands.{SinkStand, sink_places, has_ended_at, is_write_fault, is_unended}
use Rattle.run_blueprint.specs.Tracing.{Traces, written_files}
use Rattle.run_blueprint.specs.Units.{Pays}
use Rattle.run_blueprint.specs.declared.run.RunResult.{RunResult}
use Rattle.stream_model.specs.Linear.{Book}

-- What is told of the sink with a file that is node k, which stands so: it wrote what the composed outlook of the sink lets it
-- write, by every world that has the input files as they were read and what the stages chose, and so many whole lines. Where the
-- folder still tells its files, the sink's file holds just that. To a sink of lines as many
-- elements were sent, or one more while it has not ended, and just one more where a write failed, but for what a lane to it may
-- hold; where no event was left no more than it wrote, also on a lane.
pub record SinkLeaves (book : Book) (new : FolderState) (b : Blueprint) (d : Drawn) (wires : List WireCount) (at_rest : Bool) (k : ℕ) (n : Node) (file : List ℕ)
    (count : ℕ) (end : EndState) : Type 0 where
  pub held : List ℕ
  pub there : IsTrue new.tells → new.file file ≡ Some held
  pub tells : (w : World) → IsWorldOf book b.nodes.items d w → SinkTells (sink_outlook (graph_of b) w k (graph_node b.wires.items n)) end held
  pub lines_are : whole_lines (length held) held ≡ count
  pub sent : n.kind ≡ ToLines file → (u : ℕ) (v : Edge) → slice_get (blueprint_wires b) u ≡ Some v → v.to ≡ k → SentOn v.lane end (sent_at wires u) count
  pub rests : n.kind ≡ ToLines file → IsTrue at_rest → end ≡ Unended → (u : ℕ) (v : Edge) → slice_get (blueprint_wires b) u ≡ Some v → v.to ≡ k
      → sent_at wires u ≡ count

-- What is told of a sink that keeps nothing: it counts none, and how it stands and how many elements were sent to it are as its
-- composed outlook lets them be.
pub record IgnoreLeaves (book : Book) (b : Blueprint) (d : Drawn) (wires : List WireCount) (k : ℕ) (n : Node) (count : ℕ) (end : EndState) : Type 0 where
  pub none : count ≡ 0
  pub tells : (w : World) → IsWorldOf book b.nodes.items d w → (u : ℕ) (v : Edge) → slice_get (blueprint_wires b) u ≡ Some v → v.to ≡ k
      → IgnoreTells (sink_outlook (graph_of b) w k (graph_node b.wires.items n)) end (sent_at wires u)

-- What is told of each sink by a world: it wrote what the composed outlook of the sink lets it write; and what passed each wire agrees with the
-- wire's.
pub record ServesAll (book : Book) (new : FolderState) (b : Blueprint) (picks : List Pick) (sinks : List SinkStand) (wires : List WireCount)
    (carries : WiresCarry book b sinks wires picks) (w : World) : Type 0 where
  pub sink : (i : ℕ) (s : SinkStand) (n : Node) (file : List ℕ) → slice_get sinks i ≡ Some s → slice_get b.nodes.items s.0 ≡ Some n
      → output_of n.kind ≡ Some file
      → (held : List ℕ) × ((IsTrue new.tells → new.file file ≡ Some held) × SinkTells (sink_outlook (graph_of b) w s.0 (graph_node b.wires.items n)) s.2 held)
  pub ignores : (i : ℕ) (s : SinkStand) (n : Node) → slice_get sinks i ≡ Some s → slice_get b.nodes.items s.0 ≡ Some n → n.kind ≡ Ignore
      → (u : ℕ) (v : Edge) → slice_get (blueprint_wires b) u ≡ Some v → v.to ≡ s.0
      → IgnoreTells (sink_outlook (graph_of b) w s.0 (graph_node b.wires.items n)) s.2 (sent_at wires u)
  pub passed : (i : ℕ) (v : Edge) → slice_get (blueprint_wires b) i ≡ Some v → Agrees (composed (graph_of b) w i) (carries.lists i) (carries.ends i)

-- The inputs were read, and each sink wrote what its outlook lets it write. No other file but that of the trace is changed, where the
-- folder still tells its files. The lines that were
-- drawn are the first of each input, and little more than those was read. Each wire stands by what was sent on it and by how its sink
-- stands, and what was sent agrees with its composed outlook; of a custom stage it is of the types of its head. The picture is lawful; and where no event was left it
-- rests, and a sink's input is shut exactly where the sink has ended; in a polytree whose custom stages all tell a list every sink has ended
-- then. The stages chose
-- these moves, which fit what may come in on their inputs. There is a world that has the input files as they were read, and these
-- moves.
-- Choice: docs/DECISIONS.md#polytrees-never-stall
pub record LeavesFiles (book : Book) (heads : HeadLists) (old new : FolderState) (b : Blueprint) (plans : List (Option (List ℕ))) (trace : Option (List ℕ))
    (sinks : List SinkStand) (picks : List Pick)
    (wires : List WireCount) (at_rest : Bool) : Type 0 where
  pub drawn : Drawn
  pub chose : drawn.picks ≡ picks
  pub read : WereRead old new b.nodes.items drawn
  pub world : World
  pub has_files : IsWorldOf book b.nodes.items drawn world
  pub sink : (i : ℕ) (s : SinkStand) (n : Node) (file : List ℕ) → slice_get sinks i ≡ Some s → slice_get b.nodes.items s.0 ≡ Some n
      → output_of n.kind ≡ Some file
      → SinkLeaves book new b drawn wires at_rest s.0 n file s.1 s.2
  pub ignores : (i : ℕ) (s : SinkStand) (n : Node) → slice_get sinks i ≡ Some s → slice_get b.nodes.items s.0 ≡ Some n → n.kind ≡ Ignore
      → IgnoreLeaves book b drawn wires s.0 n s.1 s.2
  pub others : IsTrue new.tells → (n : List ℕ) → ¬ (Contains (outputs_of_nodes b.nodes.items) n) → trace ≢ Some n → new.file n ≡ old.file n
  pub draws : (k : ℕ) (file : List ℕ) (u : ℕ) (v : Edge) → IsSource b.nodes.items k file → slice_get (blueprint_wires b) u ≡ Some v → v.from ≡ k
      → DrawsFirst (drawn.bytes k) (drawn.given k) (drawn.faulted k) (sent_at wires u)
  pub fits : (w : World) → IsWorldOf book b.nodes.items drawn w → FitsBy (graph_of b) w (plan_at plans)
  pub carries : WiresCarry book b sinks wires picks
  pub passed : AgreesWithFiles drawn carries
  pub customs : CustomsTyped heads book b.nodes.items (blueprint_wires b) carries.lists
  -- the picture, by the composed outlooks
  pub lawful : (w : World) → IsWorldOf book b.nodes.items drawn w → IsLawfulBy (graph_of b) w (plan_at plans) wires (composed (graph_of b) w)
  pub rest : IsTrue at_rest → (w : World) → IsWorldOf book b.nodes.items drawn w → RestsBy (graph_of b) w (plan_at plans) wires (composed (graph_of b) w)
  pub matching : IsTrue at_rest → (w : World) → SinksMatch (graph_of b) w wires (composed (graph_of b) w) (has_ended_at sinks)
  pub ending : NoneFollow plans → AllTell (graph_of b) book → IsPolytree (wiring (blueprint_wires b)) → IsTrue at_rest → list_any (λ s. is_unended s.2) sinks ≡ false
  -- the stages that follow moves made the first of them; and where each made all of them, or nothing may fail at it, and they fit, all is as by
  -- all of them
  pub made : MakesItsMoves b plans picks
  pub served : (w : World) → IsReplayOf book b.nodes.items plans drawn w → FitsBy (graph_of b) w (plan_at plans) → ServesItsMoves b plans picks w
      → ServesAll book new b picks sinks wires carries w
  -- what a custom stage failed with that tells no list was of its own, or came to it
  pub blames : (w : World) → IsWorldOf book b.nodes.items drawn w → GivenLeads (graph_of b) w
  -- the units that suffice for what was sent suffice for all that may be sent
  pub needed : (w : World) → IsWorldOf book b.nodes.items drawn w → count_needed (graph_of b) wires ≤ need (graph_of b) (composed (graph_of b) w)

-- a stage cannot make its next move, by every world that has the input files as they were read and what the stages chose
abbrev pub MisfitByFiles : Book → Blueprint → List (Option (List ℕ)) → Drawn → ℕ → Node → Type 0
MisfitByFiles book b plans d k n = (w : World) → IsWorldOf book b.nodes.items d w
    → MisfitsOver (graph_of b) w (plan_at plans) (composed (graph_of b) w) k (graph_node b.wires.items n)

-- the count of failed writes of a sink's file rose exactly where a write failed
abbrev pub FailedWritesOf : EndState → ℕ → ℕ → Type 0
FailedWritesOf WriteFault old new = Rose old new
FailedWritesOf _ old new = Grew old 0 new

-- the count of failed writes of some sink's file rose
pub record SomeWriteRose (old new : FolderState) (b : Blueprint) : Type 0 where
  pub file : List ℕ
  pub output : Contains (outputs_of_nodes b.nodes.items) file
  pub rose : Rose (old.wfaults file) (new.wfaults file)

-- What is told of a run where the folder told its files before it, and how its counts rose. There is a list of moves for each
-- stage whose kind chooses, in order of nodes, and no other; the trace's file, where one is wanted, holds the text of these moves, or
-- a first part where a write to it failed. Whatever the folder tells, the units are within the budget and pay for what passed, the picture
-- stands by what passed, and where no event was left every sink of a polytree whose custom stages all tell a list has ended.
pub record Runs (book : Book) (heads : HeadLists) (old new : FolderState) (b : Blueprint) (plans : List (Option (List ℕ))) (trace : Option (List ℕ))
    (budget : ℕ)
    (ran : RunResult) : Type 0 where
  pub sinks_are : map (λ (s : SinkStand). s.0) ran.sinks.items ≡ sink_places 0 b.nodes.items
  pub picks_are : picked (map pick_of ran.picks.items) ≡ pick_places 0 b.nodes.items
  pub told : IsTrue new.tells → IsTrue old.tells
  pub traces : Traces old new b trace (map pick_of ran.picks.items) ran.trace_failed
  pub leaves : IsTrue old.tells → LeavesFiles book heads old new b plans trace ran.sinks.items (map pick_of ran.picks.items) ran.wires.items ran.at_rest
  pub stuck : (tells : IsTrue old.tells) (stage place : ℕ) → ran.misfit ≡ Some (stage, place)
      → IsMisfit b plans (map pick_of ran.picks.items) (MisfitByFiles book b plans (leaves tells).drawn) stage place
  pub refusals : Quiet old.refusals new.refusals
  pub reads : (n : List ℕ) → ¬ (Contains (inputs_of_nodes b.nodes.items) n) → Grew (old.rfaults n) 0 (new.rfaults n)
  pub writes : (i : ℕ) (s : SinkStand) (n : Node) (file : List ℕ) → slice_get ran.sinks.items i ≡ Some s → slice_get b.nodes.items s.0 ≡ Some n
      → output_of n.kind ≡ Some file → FailedWritesOf s.2 (old.wfaults file) (new.wfaults file)
  pub faults : (i : ℕ) (s : SinkStand) → slice_get ran.sinks.items i ≡ Some s → s.2 ≡ WriteFault → SomeWriteRose old new b
  pub calm : ((i : ℕ) (s : SinkStand) → slice_get ran.sinks.items i ≡ Some s → is_write_fault s.2 ≡ false) → ran.trace_failed ≡ false
      → Quiet old.wfaults new.wfaults
  pub other_writes : (n : List ℕ) → ¬ (Contains (outputs_of_nodes b.nodes.items) n) → trace ≢ Some n → Grew (old.wfaults n) 0 (new.wfaults n)
  pub other_draws : (n : List ℕ) → ¬ (Contains (inputs_of_nodes b.nodes.items) n) → Grew (old.read n) 0 (new.read n)
  pub within : ran.used ≤ budget
  pub spent : ran.at_rest ≡ false → ran.used ≡ budget
  pub pays : Pays b ran.wires.items ran.used
  pub picture : PictureStands book heads b plans ran.sinks.items (map pick_of ran.picks.items) ran.wires.items ran.at_rest
  pub ending : NoneFollow plans → AllTell (graph_of b) book → IsPolytree (wiring (blueprint_wires b)) → IsTrue ran.at_rest
      → list_any (λ s. is_unended s.2) ran.sinks.items ≡ false
  pub misfit : (stage place : ℕ) → ran.misfit ≡ Some (stage, place)
      → IsMisfit b plans (map pick_of ran.picks.items) (MisfitByPassed picture.carries plans) stage place
  pub made : MakesItsMoves b plans (map pick_of ran.picks.items)
  pub wired : 1 ≤ length ran.sinks.items → 1 ≤ length (blueprint_wires b)

-- A source of a run in which memory was wanting: its file was there with these bytes, so many of them were read, and at most one
-- piece and one longest line with its LF more; and the count of failed reads rose only where a read failed.
pub record WasReadOn (old new : FolderState) (file bytes : List ℕ) (given : ℕ) (faulted : Bool) : Type 0 where
  pub more : ℕ
  pub given_less : given ≤ more
  pub ahead : more ≤ given + 69632
  pub read : WasRead old new file bytes more faulted

-- What is told of the sink with a file that is node k, in a run in which memory was wanting: it stood so, and wrote what the composed
-- outlook of the sink lets it write, by every world that has the input files as they were read and what the stages chose; so that is a first part of the text
-- of all that may pass. Where the folder still tells its files, the sink's file holds just that.
pub record SinkBreaks (book : Book) (old new : FolderState) (b : Blueprint) (d : Drawn) (k : ℕ) (n : Node) (file : List ℕ) : Type 0 where
  pub held : List ℕ
  pub end : EndState
  pub there : IsTrue new.tells → new.file file ≡ Some held
  pub tells : (w : World) → IsWorldOf book b.nodes.items d w → SinkTells (sink_outlook (graph_of b) w k (graph_node b.wires.items n)) end held
  pub part : (w : World) → IsWorldOf book b.nodes.items d w → IsPrefix held (text_lines (sink_outlook (graph_of b) w k (graph_node b.wires.items n)).list)
  pub writes : FailedWritesOf end (old.wfaults file) (new.wfaults file)

-- The inputs were read, and each sink wrote a first part of what it may write; the trace's file is empty, and no other file is
-- changed. What the stages chose is not answered; there is a list of moves for each stage whose kind chooses, and no other.
pub record BreaksFiles (book : Book) (old new : FolderState) (b : Blueprint) (trace : Option (List ℕ)) : Type 0 where
  pub drawn : Drawn
  pub chose : picked drawn.picks ≡ pick_places 0 b.nodes.items
  pub read : (k : ℕ) (file : List ℕ) → IsSource b.nodes.items k file → WasReadOn old new file (drawn.bytes k) (drawn.given k) (drawn.faulted k)
  pub world : World
  pub has_files : IsWorldOf book b.nodes.items drawn world
  pub sink : (k : ℕ) (n : Node) (file : List ℕ) → slice_get b.nodes.items k ≡ Some n → output_of n.kind ≡ Some file → SinkBreaks book old new b drawn k n file
  pub others : IsTrue new.tells → (n : List ℕ) → ¬ (Contains (outputs_of_nodes b.nodes.items) n) → trace ≢ Some n → new.file n ≡ old.file n
  pub empty : IsTrue new.tells → (t : List ℕ) → trace ≡ Some t → new.file t ≡ Some []

-- memory was wanting in the run: what is told of it where the folder told its files before it, and which counts may have risen
pub record WantsWithin (book : Book) (old new : FolderState) (b : Blueprint) (trace : Option (List ℕ)) : Type 0 where
  pub told : IsTrue new.tells → IsTrue old.tells
  pub leaves : IsTrue old.tells → BreaksFiles book old new b trace
  pub refusals : Quiet old.refusals new.refusals
  pub reads : (n : List ℕ) → ¬ (Contains (inputs_of_nodes b.nodes.items) n) → Grew (old.rfaults n) 0 (new.rfaults n)
  pub other_writes : (n : List ℕ) → ¬ (Contains (outputs_of_nodes b.nodes.items) n) → Grew (old.wfaults n) 0 (new.wfaults n)
  pub other_draws : (n : List ℕ) → ¬ (Contains (inputs_of_nodes b.nodes.items) n) → Grew (old.read n) 0 (new.read n)

-- memory was wanting before the run, and then the first of the files that it opens to write them are empty, and no other file is changed and no count rose; or in it
abbrev pub Wants : Book → FolderState → FolderState → Blueprint → Option (List ℕ) → Type 0
Wants book old new b trace = GivesUp old new (written_files b trace) ⊎ WantsWithin book old new b trace
