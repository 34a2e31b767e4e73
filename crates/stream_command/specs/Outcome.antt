-- What a call answers and what it leaves, status by status.
use Rattle.std.specs.Prelude.{◌≡◌, ◌≢◌, ℕ, ◌<◌, ◌≤◌, ◌⊎◌, true, false, IsTrue, IsSome, List, [], ◌∷◌, ◌++◌, length, map, replicate, slice_get, Option, Some, None, ⊤}
use Rattle.std.specs.Option.{option_to_list}
use Rattle.std.specs.List.{All, Contains}
use Rattle.stream_model.specs.declared.outcome.EndState.TheVariants as state
use Rattle.stream_model.specs.Listed.{AllTell}
use Rattle.stream_model.specs.Node.{World}
use Rattle.stream_model.specs.Composed.{composed, sink_outlook}
use Rattle.stream_model.specs.Shape.{IsPolytree, need, count_needed}
use Rattle.stream_io.specs.Counts.{Rose, Grew, GrewAtMost}
use Rattle.stream_io.specs.State.{FolderState, SameFiles, LacksFile}
use Rattle.stream_model.specs.declared.blueprint.Blueprint.{Blueprint}
use Rattle.stream_model.specs.declared.blueprint.Node.{Node}
use Rattle.blue_lang.specs.Texts as language
use Rattle.blue_modules.specs.Text.{PlainText}
use Rattle.blue_check.specs.Fitness.{IsFit}
use Rattle.blue_check.specs.Meaning.{Denotes, BreaksRule}
use Rattle.blue_check.specs.Wires.{blueprint_wires}
use Rattle.blue_check.specs.Forest.{wiring}
use Rattle.materializer.specs.Files.{output_of, inputs_of_nodes, outputs_of_nodes}
use Rattle.materializer.specs.Choosers.{NoneFollow, choosers_in, plans_in}
use Rattle.materializer.specs.Graphs.{graph_of, graph_node}
use Rattle.plan_reader.specs.Plans.{SaysPlans, IsFault}
use Rattle.stream_io.specs.Quiet.{Quiet, QuietBut}
use Rattle.stream_io.specs.Opening.{Empties}
use Rattle.run_blueprint.specs.Carrying.{PictureStands, MisfitByPassed}
use Rattle.run_blueprint.specs.Choosing.{pick_places, picked}
use Rattle.run_blueprint.specs.Drawing.{Drawn, IsWorldOf}
use Rattle.run_blueprint.specs.Replaying.{IsMisfit}
use Rattle.run_blueprint.specs.Stands.{SinkStand, sink_places}
use Rattle.run_blueprint.specs.Tracing.{Traces, written_files}
use Rattle.run_blueprint.specs.Units.{Pays}
use Rattle.run_blueprint.specs.Running.{LeavesFiles, FailedWritesOf, BreaksFiles, MisfitByFiles}
use Rattle.run_report.specs.Answer.{Answer}
use Rattle.run_report.specs.declared.outcome.Status.{Status}
use Rattle.run_report.specs.declared.outcome.Status.TheVariants as status
use Rattle.stream_command.specs.Asked.{AskedRun, Plugged}
use Rattle.stream_command.specs.AfterRun.{told_ends, all_ended, some_failed, some_unended, some_fault, no_event_left}

-- the command's file says this
pub record SaysText (folder : FolderState) (file : List ℕ) (t : PlainText) : Type 0 where
  pub whole : List ℕ
  pub there : folder.file file ≡ Some whole
  pub says : language.Says whole t

-- and this is its blueprint: what is left when each instance of a module is replaced by the module's body
abbrev pub SaysFile : FolderState → List ℕ → Blueprint → Type 0
SaysFile folder file b = Denotes (SaysText folder file) b

-- the files that no source and no sink may name: the command's own, that of the trace, where one is wanted, and that of the moves to follow
-- Choice: docs/DECISIONS.md#own-file-is-taken
abbrev pub taken_files : List ℕ → Option (List ℕ) → Option (List ℕ) → List (List ℕ)
taken_files file trace replay = file ∷ (option_to_list trace ++ option_to_list replay)

-- and it breaks no rule, where these plugs are handed in and these files are taken
pub record SaysFit (p : Plugged) (folder : FolderState) (file : List ℕ) (trace replay : Option (List ℕ)) (b : Blueprint) : Type 0 where
  pub says : SaysFile folder file b
  pub fit : IsFit b p.heads (taken_files file trace replay)

-- nothing was run: there is nothing to tell of a run
pub record Blank (a : Answer) : Type 0 where
  pub no_sinks : a.sinks ≡ []
  pub no_wires : a.wires ≡ []
  pub no_picks : a.picks ≡ []
  pub unused : a.used ≡ 0

-- nothing was run, so there is nothing to tell of a run, and no file is changed
pub record RanNothing (old new : FolderState) (a : Answer) : Type 0 where
  pub files : SameFiles old new
  pub blank : Blank a

-- The blueprint was run, by so many units at most, and its sinks stand so; the files are left as a run leaves them. No event was
-- left where it stalled or used fewer units. There is a list of moves for each stage whose kind chooses, in order of nodes, and no
-- other, by which the sinks and the picture are told; where no kind chooses there is none, and all of it is told by the input files
-- alone. The units pay for what passed the wires. Each wire carried only elements of its type, and what its composed outlook lets pass;
-- it stands by what was sent on it and by how its sink stands (`carries` and `passed` of `leaves`). In a polytree whose stages follow no moves a sink has not ended only
-- where the units were used up; and where they suffice for all that may pass, each sink of whose outlook no failure is part has
-- ended, unless a write to its file failed.
pub record RanTo (p : Plugged) (old new : FolderState) (b : Blueprint) (plans : List (Option (List ℕ))) (trace : Option (List ℕ)) (turns : ℕ) (a : Answer)
    : Type 0 where
  pub stands : List SinkStand
  pub stands_are : map (λ (s : SinkStand). s.0) stands ≡ sink_places 0 b.nodes.items
  pub sinks : a.sinks ≡ told_ends b.nodes.items stands
  pub picks_are : picked a.picks ≡ pick_places 0 b.nodes.items
  pub leaves : LeavesFiles p.book p.heads old new b plans trace stands a.picks a.wires (no_event_left a turns)
  pub writes : (i : ℕ) (s : SinkStand) (n : Node) (file : List ℕ) → slice_get stands i ≡ Some s → slice_get b.nodes.items s.0 ≡ Some n
      → output_of n.kind ≡ Some file → FailedWritesOf s.2 (old.wfaults file) (new.wfaults file)
  pub within : a.used ≤ turns
  pub pays : Pays b a.wires a.used
  pub ending : NoneFollow plans → AllTell (graph_of b) p.book → IsPolytree (wiring (blueprint_wires b)) → some_unended a.sinks ≡ true → a.used ≡ turns
  pub enough : NoneFollow plans → AllTell (graph_of b) p.book → IsPolytree (wiring (blueprint_wires b)) → (w : World) → IsWorldOf p.book b.nodes.items leaves.drawn w
      → need (graph_of b) (composed (graph_of b) w) ≤ turns
      → (i : ℕ) (s : SinkStand) (n : Node) (file : List ℕ) → slice_get stands i ≡ Some s → slice_get b.nodes.items s.0 ≡ Some n → output_of n.kind ≡ Some file
      → (sink_outlook (graph_of b) w s.0 (graph_node b.wires.items n)).fails ≡ [] → (Rose (old.wfaults file) (new.wfaults file) → ⊥) → s.2 ≡ state.Ended

-- The units were used up. They were fewer than the count over what was sent, and so fewer than the need over all that may pass.
pub record FallsShort (p : Plugged) (b : Blueprint) (turns : ℕ) (a : Answer) (d : Drawn) : Type 0 where
  pub used : a.used ≡ turns
  pub count : turns < count_needed (graph_of b) a.wires
  pub need : (w : World) → IsWorldOf p.book b.nodes.items d w → turns < need (graph_of b) (composed (graph_of b) w)

-- the folder has no file of that name, or its opening was refused
abbrev pub IsAbsent : FolderState → FolderState → List ℕ → Type 0
IsAbsent old new n = LacksFile old n ⊎ Rose (old.refusals n) (new.refusals n)

-- what a call that ended before its blueprint was checked answers, where the folder told its files before it
abbrev pub EndedBefore : Plugged → Status → Answer → List ℕ → Option (List ℕ) → Option (List ℕ) → FolderState → FolderState → Type 0
EndedBefore p (status.Missing n) a file trace replay old new = RanNothing old new a × (n ≡ file) × IsAbsent old new file
EndedBefore p status.ReadFault a file trace replay old new = RanNothing old new a × Rose (old.rfaults file) (new.rfaults file)
EndedBefore p (status.Refused f) a file trace replay old new = RanNothing old new a × ((whole : List ℕ)
    × ((old.file file ≡ Some whole) × (language.text_fault whole ≡ Some f)))
EndedBefore p (status.Unfit f) a file trace replay old new = RanNothing old new a × ((t : PlainText)
    × (SaysText old file t × BreaksRule t p.heads (taken_files file trace replay) f))
EndedBefore p status.NoMemory a file trace replay old new = RanNothing old new a
EndedBefore p _ a file trace replay old new = ⊥

-- ---- the moves to follow

-- a file of moves has fewer bytes than this
abbrev pub plan_limit : ℕ
plan_limit = 67108865

-- of the file of moves so many bytes at most were read
abbrev pub ReadsMost : Option (List ℕ) → (List ℕ → ℕ) → (List ℕ → ℕ) → Type 0
ReadsMost replay old new = (t : List ℕ) → replay ≡ Some t → GrewAtMost (old t) plan_limit (new t)

-- The moves of each of these nodes, in their order: where a file of moves is named, those that its text says, a line for each stage that
-- chooses, and else none.
abbrev pub FollowsFile : FolderState → Option (List ℕ) → List Node → List (Option (List ℕ)) → Type 0
FollowsFile folder None nodes plans = plans ≡ replicate (length nodes) None
FollowsFile folder (Some name) nodes plans = (text : List ℕ) × ((folder.file name ≡ Some text) × ((length text < plan_limit)
    × ((lists : List (List ℕ)) × (SaysPlans (choosers_in nodes) text lists × (plans ≡ plans_in nodes lists)))))

-- the line of that number is the first at fault in the text of a file of moves, or that is too long, and the number 0
abbrev pub IsBadTrace : List ℕ → List Node → ℕ → Type 0
IsBadTrace text nodes line = ((line ≡ 0) × (plan_limit ≤ length text)) ⊎ ((length text < plan_limit) × IsFault (choosers_in nodes) text line)

-- what a call answers that ended as the moves to follow were read, where the folder told its files before it
abbrev pub EndedReplay : Status → Answer → List Node → Option (List ℕ) → FolderState → FolderState → Type 0
EndedReplay (status.Missing n) a nodes (Some file) old new = RanNothing old new a × (n ≡ file) × IsAbsent old new file
EndedReplay status.ReadFault a nodes (Some file) old new = RanNothing old new a × Rose (old.rfaults file) (new.rfaults file)
EndedReplay (status.BadTrace line) a nodes (Some file) old new = RanNothing old new a × ((text : List ℕ)
    × ((old.file file ≡ Some text) × IsBadTrace text nodes line))
EndedReplay status.NoMemory a nodes replay old new = RanNothing old new a
EndedReplay _ a nodes replay old new = ⊥

-- the first of the inputs that is not there, or whose opening was refused, has this name; no file is changed
pub record LacksInput (old new : FolderState) (b : Blueprint) (n : List ℕ) (a : Answer) : Type 0 where
  pub before : List (List ℕ)
  pub after : List (List ℕ)
  pub place : inputs_of_nodes b.nodes.items ≡ before ++ n ∷ after
  pub there : All (λ m. IsSome (old.file m)) before
  pub absent : IsAbsent old new n
  pub nothing : RanNothing old new a

-- the inputs are there, and the first of the outputs, or behind them the trace's file, whose opening was refused has this name; those
-- before it are empty
pub record LacksOutput (old new : FolderState) (b : Blueprint) (trace : Option (List ℕ)) (n : List ℕ) (a : Answer) : Type 0 where
  pub before : List (List ℕ)
  pub after : List (List ℕ)
  pub place : written_files b trace ≡ before ++ n ∷ after
  pub there : All (λ m. IsSome (old.file m)) (inputs_of_nodes b.nodes.items)
  pub refused : Rose (old.refusals n) (new.refusals n)
  pub files : Empties old new before
  pub blank : Blank a

-- memory was wanting before the run, as its files were opened or its islands were made: the first of the files that it opens to write
-- them are empty, and no other file is changed
pub record GaveUpBefore (old new : FolderState) (b : Blueprint) (trace : Option (List ℕ)) : Type 0 where
  pub before : List (List ℕ)
  pub after : List (List ℕ)
  pub place : written_files b trace ≡ before ++ after
  pub files : Empties old new before

-- memory was wanting before the run or in it; in it each sink wrote a first part of what it may write, the trace's file is empty, and
-- no other file is changed
abbrev pub GaveUp : Plugged → FolderState → FolderState → Blueprint → Option (List ℕ) → Type 0
GaveUp p old new b trace = GaveUpBefore old new b trace ⊎ BreaksFiles p.book old new b trace

-- the count of failed writes of some sink's file, or of the trace's, rose
pub record SomeCountRose (old new : FolderState) (b : Blueprint) (trace : Option (List ℕ)) : Type 0 where
  pub file : List ℕ
  pub written : Contains (written_files b trace) file
  pub rose : Rose (old.wfaults file) (new.wfaults file)

-- some sink stands at a failed write, or the trace was not written whole
abbrev pub SomeWriteFailed : FolderState → FolderState → Blueprint → Option (List ℕ) → Answer → Type 0
SomeWriteFailed old new b trace a = ((some_fault a.sinks ≡ true) × Traces old new b trace a.picks false) ⊎ Traces old new b trace a.picks true

-- What the run of a blueprint answers, where the folder told its files before it. A failed write stands before a stage that could not
-- make its next move, that before a sink that has not ended, and that before one that failed. The trace's file holds the text of the moves, where no write to it failed. A polytree whose stages follow
-- no moves never stalls, and units that suffice for all that may pass are not used up.
abbrev pub EndedRun : Plugged → Status → Answer → Blueprint → List (Option (List ℕ)) → Option (List ℕ) → ℕ → FolderState → FolderState → Type 0
EndedRun p status.Done a b plans trace turns old new = RanTo p old new b plans trace turns a × Traces old new b trace a.picks false × (all_ended a.sinks ≡ true)
EndedRun p status.StreamFailed a b plans trace turns old new = RanTo p old new b plans trace turns a × Traces old new b trace a.picks false
    × (some_fault a.sinks ≡ false)
    × (some_unended a.sinks ≡ false) × (some_failed a.sinks ≡ true)
EndedRun p status.Stalled a b plans trace turns old new = RanTo p old new b plans trace turns a × Traces old new b trace a.picks false
    × (NoneFollow plans → AllTell (graph_of b) p.book → IsPolytree (wiring (blueprint_wires b)) → ⊥) × (some_fault a.sinks ≡ false) × (some_unended a.sinks ≡ true)
EndedRun p status.OutOfTurns a b plans trace turns old new = (ran : RanTo p old new b plans trace turns a) × Traces old new b trace a.picks false
    × FallsShort p b turns a ran.leaves.drawn × (some_fault a.sinks ≡ false) × (some_unended a.sinks ≡ true)
EndedRun p (status.Misfit stage place) a b plans trace turns old new = (ran : RanTo p old new b plans trace turns a) × Traces old new b trace a.picks false
    × (some_fault a.sinks ≡ false) × IsMisfit b plans a.picks (MisfitByFiles p.book b plans ran.leaves.drawn) stage place
EndedRun p status.WriteFault a b plans trace turns old new = RanTo p old new b plans trace turns a × SomeWriteFailed old new b trace a
    × SomeCountRose old new b trace
EndedRun p (status.Missing n) a b plans trace turns old new = LacksInput old new b n a ⊎ LacksOutput old new b trace n a
EndedRun p status.NoMemory a b plans trace turns old new = Blank a × GaveUp p old new b trace
EndedRun p _ a b plans trace turns old new = ⊥

-- what a blueprint that breaks no rule comes to: the call ended as the moves to follow were read, or the blueprint was run by those
abbrev pub EndedChecked : Plugged → Status → Answer → Blueprint → Option (List ℕ) → Option (List ℕ) → ℕ → FolderState → FolderState → Type 0
EndedChecked p s a b trace replay turns old new = EndedReplay s a b.nodes.items replay old new ⊎ ((plans : List (Option (List ℕ)))
    × (FollowsFile old replay b.nodes.items plans × EndedRun p s a b plans trace turns old new))

-- what a call with that file answers: it ended before a run, or it ran the blueprint that the file says
abbrev pub Told : Plugged → Answer → AskedRun → FolderState → FolderState → Type 0
Told p a c old new = EndedBefore p a.status a c.file c.trace c.replay old new ⊎ ((b : Blueprint)
    × (SaysFit p old c.file c.trace c.replay b × EndedChecked p a.status a b c.trace c.replay c.turns old new))

-- only counts of these names rose
abbrev pub QuietButAll : List (List ℕ) → (List ℕ → ℕ) → (List ℕ → ℕ) → Type 0
QuietButAll names old new = (n : List ℕ) → ¬ (Contains names n) → Grew (old n) 0 (new n)

-- no count of these names rose, but that of the file of moves
abbrev pub QuietAmong : List (List ℕ) → Option (List ℕ) → (List ℕ → ℕ) → (List ℕ → ℕ) → Type 0
QuietAmong names replay old new = (n : List ℕ) → Contains names n → replay ≢ Some n → Grew (old n) 0 (new n)

-- an input of this name is absent, or the opening of an output or of the trace's file of this name was refused
abbrev pub MissesFile : FolderState → FolderState → Blueprint → Option (List ℕ) → List ℕ → Type 0
MissesFile old new b trace n = (Contains (inputs_of_nodes b.nodes.items) n × IsAbsent old new n)
    ⊎ (Contains (written_files b trace) n × Rose (old.refusals n) (new.refusals n))

-- What is told of a run whatever the folder tells. Its sinks stand so, and the count of failed writes of a sink's file rose exactly where
-- that sink stands at a failed write. There is a list of moves for each stage whose kind chooses. The units were within the turns and
-- pay for what passed the wires; each wire carried only elements of its type and stands by what was sent on it and by how its sink
-- stands, and each sink by what came to it; and the picture stands by what passed: it is lawful, and where no event was left it rests.
-- In a polytree a sink has not ended only where the units were used up.
pub record SinksWrote (p : Plugged) (old new : FolderState) (b : Blueprint) (plans : List (Option (List ℕ))) (turns : ℕ) (a : Answer) : Type 0 where
  pub stands : List SinkStand
  pub stands_are : map (λ (s : SinkStand). s.0) stands ≡ sink_places 0 b.nodes.items
  pub sinks : a.sinks ≡ told_ends b.nodes.items stands
  pub picks_are : picked a.picks ≡ pick_places 0 b.nodes.items
  pub writes : (i : ℕ) (s : SinkStand) (n : Node) (file : List ℕ) → slice_get stands i ≡ Some s → slice_get b.nodes.items s.0 ≡ Some n
      → output_of n.kind ≡ Some file → FailedWritesOf s.2 (old.wfaults file) (new.wfaults file)
  pub within : a.used ≤ turns
  pub pays : Pays b a.wires a.used
  pub picture : PictureStands p.book p.heads b plans stands a.picks a.wires (no_event_left a turns)
  pub ending : NoneFollow plans → AllTell (graph_of b) p.book → IsPolytree (wiring (blueprint_wires b)) → some_unended a.sinks ≡ true → a.used ≡ turns

-- the units were used up, and were fewer than the count over what was sent
pub record UsedUp (b : Blueprint) (turns : ℕ) (a : Answer) : Type 0 where
  pub used : a.used ≡ turns
  pub count : turns < count_needed (graph_of b) a.wires

-- which counts a run raised: of failed reads at most those of its inputs, and of failed writes those of its outputs, each exactly
-- where its sink stands at a failed write, and that of the trace's file; and what is told of the run. A polytree whose stages follow no moves
-- never stalls.
abbrev pub RunCauses : Plugged → Status → Answer → Blueprint → List (Option (List ℕ)) → Option (List ℕ) → ℕ → FolderState → FolderState → Type 0
RunCauses p status.Usage a b plans trace turns old new = ⊥
RunCauses p status.ReadFault a b plans trace turns old new = ⊥
RunCauses p (status.Refused f) a b plans trace turns old new = ⊥
RunCauses p (status.BadTrace line) a b plans trace turns old new = ⊥
RunCauses p (status.Unfit f) a b plans trace turns old new = ⊥
RunCauses p (status.Missing n) a b plans trace turns old new = MissesFile old new b trace n × QuietBut n old.refusals new.refusals
    × Quiet old.rfaults new.rfaults
    × Quiet old.wfaults new.wfaults
RunCauses p status.NoMemory a b plans trace turns old new = Quiet old.refusals new.refusals
    × QuietButAll (inputs_of_nodes b.nodes.items) old.rfaults new.rfaults
    × QuietButAll (outputs_of_nodes b.nodes.items) old.wfaults new.wfaults
RunCauses p status.WriteFault a b plans trace turns old new = Quiet old.refusals new.refusals
    × QuietButAll (inputs_of_nodes b.nodes.items) old.rfaults new.rfaults
    × SomeCountRose old new b trace × QuietButAll (written_files b trace) old.wfaults new.wfaults × SinksWrote p old new b plans turns a
RunCauses p status.Stalled a b plans trace turns old new = Quiet old.refusals new.refusals × QuietButAll (inputs_of_nodes b.nodes.items) old.rfaults new.rfaults
    × Quiet old.wfaults new.wfaults × SinksWrote p old new b plans turns a × (NoneFollow plans → AllTell (graph_of b) p.book → IsPolytree (wiring (blueprint_wires b)) → ⊥)
RunCauses p status.OutOfTurns a b plans trace turns old new = Quiet old.refusals new.refusals
    × QuietButAll (inputs_of_nodes b.nodes.items) old.rfaults new.rfaults
    × Quiet old.wfaults new.wfaults × SinksWrote p old new b plans turns a × UsedUp b turns a
RunCauses p (status.Misfit stage place) a b plans trace turns old new = Quiet old.refusals new.refusals
    × QuietButAll (inputs_of_nodes b.nodes.items) old.rfaults new.rfaults
    × Quiet old.wfaults new.wfaults × ((wrote : SinksWrote p old new b plans turns a)
    × IsMisfit b plans a.picks (MisfitByPassed wrote.picture.carries plans) stage place)
RunCauses p _ a b plans trace turns old new = Quiet old.refusals new.refusals × QuietButAll (inputs_of_nodes b.nodes.items) old.rfaults new.rfaults
    × Quiet old.wfaults new.wfaults × SinksWrote p old new b plans turns a

-- What a call raised before a run: the count of the command's own file, or of the file of moves behind it. No other file was read.
abbrev pub CausesBefore : Status → List ℕ → Option (List ℕ) → FolderState → FolderState → Type 0
CausesBefore (status.Missing n) file replay old new = Contains (file ∷ option_to_list replay) n × IsAbsent old new n
    × QuietBut n old.refusals new.refusals × Quiet old.rfaults new.rfaults
    × Quiet old.wfaults new.wfaults × QuietButAll (file ∷ option_to_list replay) old.read new.read
CausesBefore status.ReadFault file replay old new = Quiet old.refusals new.refusals
    × ((n : List ℕ) × (Contains (file ∷ option_to_list replay) n × Rose (old.rfaults n) (new.rfaults n) × QuietBut n old.rfaults new.rfaults))
    × Quiet old.wfaults new.wfaults × QuietButAll (file ∷ option_to_list replay) old.read new.read
CausesBefore (status.Refused f) file replay old new = Quiet old.refusals new.refusals × Quiet old.rfaults new.rfaults × Quiet old.wfaults new.wfaults
    × QuietButAll (file ∷ []) old.read new.read
CausesBefore (status.Unfit f) file replay old new = Quiet old.refusals new.refusals × Quiet old.rfaults new.rfaults × Quiet old.wfaults new.wfaults
    × QuietButAll (file ∷ []) old.read new.read
CausesBefore (status.BadTrace line) file replay old new = IsSome replay × Quiet old.refusals new.refusals × Quiet old.rfaults new.rfaults
    × Quiet old.wfaults new.wfaults
    × QuietButAll (file ∷ option_to_list replay) old.read new.read
CausesBefore status.NoMemory file replay old new = Quiet old.refusals new.refusals × Quiet old.rfaults new.rfaults × Quiet old.wfaults new.wfaults
    × QuietButAll (file ∷ option_to_list replay) old.read new.read
CausesBefore _ file replay old new = ⊥

-- A blueprint was run that is fit where the command's own file, that of the trace and that of the moves are taken, so that its files are other
-- ones. It is the one that the command's file says, wherever the folder told its files before, and its stages follow the moves that the file of
-- moves says. No file was read but these two and those that its sources name, and the run raised these counts.
pub record CausedRun (p : Plugged) (s : Status) (a : Answer) (file : List ℕ) (trace replay : Option (List ℕ)) (turns : ℕ) (old new : FolderState) : Type 0 where
  pub blueprint : Blueprint
  pub says : IsTrue old.tells → SaysFile old file blueprint
  pub fit : IsFit blueprint p.heads (taken_files file trace replay)
  pub plans : List (Option (List ℕ))
  pub follows : IsTrue old.tells → FollowsFile old replay blueprint.nodes.items plans
  pub free : replay ≡ None → NoneFollow plans
  pub reads : QuietButAll (file ∷ (option_to_list replay ++ inputs_of_nodes blueprint.nodes.items)) old.read new.read
  pub causes : RunCauses p s a blueprint plans trace turns old new

-- Which counts rose, whether the folder tells its files or not: before a run, or in the run of a blueprint.
abbrev pub Causes : Plugged → Status → Answer → List ℕ → Option (List ℕ) → Option (List ℕ) → ℕ → FolderState → FolderState → Type 0
Causes p s a file trace replay turns old new = CausesBefore s file replay old new ⊎ CausedRun p s a file trace replay turns old new

-- what a status comes with; only where a trace is wanted a failed write may be no sink's
abbrev pub SinksOf : Status → Answer → Option (List ℕ) → Type 0
SinksOf status.Done a trace = all_ended a.sinks ≡ true
SinksOf status.StreamFailed a trace = (some_fault a.sinks ≡ false) × (some_unended a.sinks ≡ false) × (some_failed a.sinks ≡ true)
SinksOf status.Stalled a trace = (some_fault a.sinks ≡ false) × (some_unended a.sinks ≡ true)
SinksOf status.OutOfTurns a trace = (some_fault a.sinks ≡ false) × (some_unended a.sinks ≡ true)
SinksOf (status.Misfit stage pick) a trace = some_fault a.sinks ≡ false
SinksOf status.WriteFault a trace = (some_fault a.sinks ≡ true) ⊎ IsSome trace
SinksOf _ a trace = Blank a

-- the file of moves, where one is named, is there, and says moves of these nodes
abbrev pub SaysMoves : FolderState → Option (List ℕ) → List Node → Type 0
SaysMoves folder None nodes = ⊤
SaysMoves folder (Some name) nodes = (text : List ℕ) × ((folder.file name ≡ Some text) × ((length text < plan_limit)
    × ((lists : List (List ℕ)) × SaysPlans (choosers_in nodes) text lists)))

-- the file says a blueprint; it is fit, its inputs are there, and so are moves for its stages, where they are to follow some. A text says
-- one blueprint, so this is said of each value that the text says.
-- Choice: docs/DECISIONS.md#valid-words-run
pub record IsValid (p : Plugged) (file : List ℕ) (trace replay : Option (List ℕ)) (folder : FolderState) : Type 0 where
  pub blueprint : Blueprint
  pub says : SaysFile folder file blueprint
  pub fit : (b : Blueprint) → SaysFile folder file b → IsFit b p.heads (taken_files file trace replay)
  pub inputs : (b : Blueprint) → SaysFile folder file b → All (λ n. IsSome (folder.file n)) (inputs_of_nodes b.nodes.items)
  pub moves : (b : Blueprint) → SaysFile folder file b → SaysMoves folder replay b.nodes.items

-- no count rose
pub record RoseNowhere (old new : FolderState) : Type 0 where
  pub refusals : (n : List ℕ) → Rose (old.refusals n) (new.refusals n) → ⊥
  pub rfaults : (n : List ℕ) → Rose (old.rfaults n) (new.rfaults n) → ⊥
  pub wfaults : (n : List ℕ) → Rose (old.wfaults n) (new.wfaults n) → ⊥

-- the blueprint was run and no write failed, or memory was wanting
abbrev pub RanWithoutFault : Status → Type 0
RanWithoutFault status.Done = ⊤
RanWithoutFault status.StreamFailed = ⊤
RanWithoutFault status.Stalled = ⊤
RanWithoutFault status.OutOfTurns = ⊤
RanWithoutFault (status.Misfit stage pick) = ⊤
RanWithoutFault status.NoMemory = ⊤
RanWithoutFault _ = ⊥
