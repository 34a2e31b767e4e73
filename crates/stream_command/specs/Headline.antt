-- What the sinks' files hold after a call, said shortly, of what is told of the call.
use Rattle.std.specs.Prelude.{◌≡◌, ℕ, IsTrue, List, length, slice_get, Option, Some}
use Rattle.elem_core.specs.Prefix.{IsPrefix}
use Rattle.elem_core.specs.Text.{text_lines}
use Rattle.elem_core.specs.Tree.{Tree}
use Rattle.elem_core.specs.declared.why.Cause.{Cause}
use Rattle.stream_model.specs.declared.blueprint.Blueprint.{Blueprint}
use Rattle.stream_model.specs.declared.blueprint.Node.{Node}
use Rattle.stream_model.specs.declared.outcome.EndState.{EndState}
use Rattle.stream_model.specs.declared.outcome.EndState.TheVariants as state
use Rattle.stream_model.specs.Blame.{GivenLeads, EndsSink}
use Rattle.stream_model.specs.Composed.{sink_outlook}
use Rattle.stream_model.specs.Listed.{HasLists}
use Rattle.stream_model.specs.Exact.{ReachesLast}
use Rattle.stream_model.specs.Node.{World}
use Rattle.stream_model.specs.Outlook.{Outlook, Allows}
use Rattle.stream_io.specs.State.{FolderState}
use Rattle.materializer.specs.Files.{output_of}
use Rattle.materializer.specs.Graphs.{graph_of, graph_node}
use Rattle.interpreter.specs.Picks.{Pick}
use Rattle.stream_io.specs.Counts.{Rose}
use Rattle.run_blueprint.specs.Drawing.{Drawn, IsSource, WereRead, IsWorldOf}
use Rattle.run_blueprint.specs.Stands.{sink_places}
use Rattle.run_report.specs.Answer.{Answer}
use Rattle.run_report.specs.declared.outcome.SinkEnd.{SinkEnd}
use Rattle.stream_command.specs.Asked.{AskedRun, Plugged}
use Rattle.run_blueprint.specs.Replaying.{HasMade, IsReplayOf, MakesItsMoves, ServesItsMoves}
use Rattle.materializer.specs.Choosers.{plan_at}
use Rattle.run_laws.specs.Replayed.{FitsBy}
use Rattle.stream_command.specs.Outcome.{SaysFit, FollowsFile}

-- The file holds the text of all that may pass, and nothing else; and an end may follow all of it.
pub record HoldsWhole (folder : FolderState) (file : List ℕ) (o : Outlook) : Type 0 where
  pub ends : IsTrue o.ends
  pub text : folder.file file ≡ Some (text_lines o.list)

-- The file holds the text of a first part of what may pass, with as many elements at least as pass before that failure.
pub record HoldsBetween (folder : FolderState) (file : List ℕ) (o : Outlook) (cause : Cause) : Type 0 where
  pub list : List Tree
  pub text : folder.file file ≡ Some (text_lines list)
  pub most : IsPrefix list o.list
  pub least : Allows o.fails cause (length list)

-- The command's file says this blueprint, which breaks no rule; its input files were there before the call, and were read so; the
-- moves of its stages fit. There is a world that has these files, these moves, and the plugs that were handed in.
pub record RanOver (p : Plugged) (c : AskedRun) (old new : FolderState) (b : Blueprint) (d : Drawn) : Type 0 where
  pub said : SaysFit p old c.file c.trace c.replay b
  pub plans : List (Option (List ℕ))
  pub follows : FollowsFile old c.replay b.nodes.items plans
  pub read : WereRead old new b.nodes.items d
  pub fits : (w : World) → IsWorldOf p.book b.nodes.items d w → FitsBy (graph_of b) w (plan_at plans)
  pub blames : (w : World) → IsWorldOf p.book b.nodes.items d w → GivenLeads (graph_of b) w
  pub world : World
  pub is_one : IsWorldOf p.book b.nodes.items d world

-- The command's file says a blueprint, which ran over its input files by these moves. The file of each of its sinks holds the text of
-- the whole list that the graph's list functions give, by every world of those files and moves, and of what custom stages gave that tell no
-- list. Where there are no moves and each custom stage tells a list that is every world of those files.
pub record WholeFiles (p : Plugged) (moves : List Pick) (c : AskedRun) (old new : FolderState) : Type 0 where
  pub blueprint : Blueprint
  pub drawn : Drawn
  pub by_moves : drawn.picks ≡ moves
  pub ran : RanOver p c old new blueprint drawn
  pub whole : (w : World) (k : ℕ) (n : Node) (file : List ℕ) → IsWorldOf p.book blueprint.nodes.items drawn w → slice_get blueprint.nodes.items k ≡ Some n
      → output_of n.kind ≡ Some file
      → HoldsWhole new file (sink_outlook (graph_of blueprint) w k (graph_node blueprint.wires.items n))

-- The answer says that the sink with this file, which is node k, stands so. Sinks are answered in the order of nodes.
pub record AnswersSink (a : Answer) (b : Blueprint) (k : ℕ) (n : Node) (file : List ℕ) (end : EndState) : Type 0 where
  pub place : ℕ
  pub told : SinkEnd
  pub answered : slice_get a.sinks place ≡ Some told
  pub stands : told.end ≡ end
  pub sink : slice_get (sink_places 0 b.nodes.items) place ≡ Some k
  pub node : slice_get b.nodes.items k ≡ Some n
  pub writes : output_of n.kind ≡ Some file

-- The same of a call of any status, whose answer has every sink: the file of one that ended holds the text of the whole list, and that
-- of one that failed of a first part, no shorter than what its outlook guarantees of such a failure.
pub record EndedFiles (p : Plugged) (a : Answer) (c : AskedRun) (old new : FolderState) : Type 0 where
  pub blueprint : Blueprint
  pub drawn : Drawn
  pub by_moves : drawn.picks ≡ a.picks
  pub ran : RanOver p c old new blueprint drawn
  pub every : length a.sinks ≡ length (sink_places 0 blueprint.nodes.items)
  pub ended : (w : World) (k : ℕ) (n : Node) (file : List ℕ) → IsWorldOf p.book blueprint.nodes.items drawn w → AnswersSink a blueprint k n file state.Ended
      → HoldsWhole new file (sink_outlook (graph_of blueprint) w k (graph_node blueprint.wires.items n))
  pub failed : (w : World) (k : ℕ) (n : Node) (file : List ℕ) (cause : Cause) → IsWorldOf p.book blueprint.nodes.items drawn w
      → AnswersSink a blueprint k n file (state.Failed cause)
      → HoldsBetween new file (sink_outlook (graph_of blueprint) w k (graph_node blueprint.wires.items n)) cause

-- A second call ran what the same text says over input files of the same bytes, by the same moves; and no read of a file failed in either.
pub record RunsAlike (p : Plugged) (a x : Answer) (c e : AskedRun) (old new before after : FolderState) (first : EndedFiles p a c old new) : Type 0 where
  pub text : old.file c.file ≡ before.file e.file
  pub moves : a.picks ≡ x.picks
  pub inputs : (k : ℕ) (file : List ℕ) → IsSource first.blueprint.nodes.items k file → old.file file ≡ before.file file
  pub calm : (n : List ℕ) → ¬ (Rose (old.rfaults n) (new.rfaults n))
  pub quiet : (n : List ℕ) → ¬ (Rose (before.rfaults n) (after.rfaults n))

-- Of a call whose stages follow moves: they made the first of those that the file of moves says. Where each of them made all, or no failure may
-- come on any of its wires, and all fit, the file of each sink that ended holds the text of the whole list by all of them, also by those that
-- were not made.
pub record ReplayedFiles (p : Plugged) (a : Answer) (c : AskedRun) (old new : FolderState) : Type 0 where
  pub blueprint : Blueprint
  pub drawn : Drawn
  pub by_moves : drawn.picks ≡ a.picks
  pub ran : RanOver p c old new blueprint drawn
  pub made : MakesItsMoves blueprint ran.plans a.picks
  pub ended : (w : World) (k : ℕ) (n : Node) (file : List ℕ) → IsReplayOf p.book blueprint.nodes.items ran.plans drawn w
      → FitsBy (graph_of blueprint) w (plan_at ran.plans) → ServesItsMoves blueprint ran.plans a.picks w → AnswersSink a blueprint k n file state.Ended
      → HoldsWhole new file (sink_outlook (graph_of blueprint) w k (graph_node blueprint.wires.items n))

-- A second call ran what the same text says over input files of the same bytes, and of each stage that chose in the first its file of moves says
-- those that it made; no read of a file failed in either. All its stages made all their moves, or no failure may come on their wires, and the
-- moves fit.
pub record ReplaysRun (p : Plugged) (a x : Answer) (c e : AskedRun) (old new before after : FolderState) (first : EndedFiles p a c old new)
    (second : ReplayedFiles p x e before after) : Type 0 where
  pub text : old.file c.file ≡ before.file e.file
  pub moves : (k : ℕ) (moves : List ℕ) → HasMade a.picks k moves → plan_at second.ran.plans k ≡ Some moves
  pub inputs : (k : ℕ) (file : List ℕ) → IsSource first.blueprint.nodes.items k file → old.file file ≡ before.file file
  pub calm : (n : List ℕ) → ¬ (Rose (old.rfaults n) (new.rfaults n))
  pub quiet : (n : List ℕ) → ¬ (Rose (before.rfaults n) (after.rfaults n))
  pub fits : (w : World) → IsReplayOf p.book second.blueprint.nodes.items second.ran.plans second.drawn w
      → FitsBy (graph_of second.blueprint) w (plan_at second.ran.plans)
  pub serves : (w : World) → IsReplayOf p.book second.blueprint.nodes.items second.ran.plans second.drawn w
      → ServesItsMoves second.blueprint second.ran.plans x.picks w

-- Of a call whose answer has every sink: the file of a sink that failed holds the text of that whole list too, where the failure reaches
-- it behind all that passes and no way leads to the sink from a custom stage that tells no list.
pub record FailedWhole (p : Plugged) (a : Answer) (c : AskedRun) (old new : FolderState) : Type 0 where
  pub blueprint : Blueprint
  pub drawn : Drawn
  pub by_moves : drawn.picks ≡ a.picks
  pub ran : RanOver p c old new blueprint drawn
  pub every : length a.sinks ≡ length (sink_places 0 blueprint.nodes.items)
  pub whole : (w : World) (k : ℕ) (n : Node) (file : List ℕ) (cause : Cause) → IsWorldOf p.book blueprint.nodes.items drawn w
      → AnswersSink a blueprint k n file (state.Failed cause) → HasLists (graph_of blueprint) p.book k
      → ReachesLast (graph_of blueprint) cause k (graph_node blueprint.wires.items n)
      → new.file file ≡ Some (text_lines (sink_outlook (graph_of blueprint) w k (graph_node blueprint.wires.items n)).list)

-- Of a call whose answer has every sink: each failure that is answered of a sink with a file is one of the sink's own, or came along a
-- directed walk of wires from the node that it blames, where it may come on an output though nothing that comes in there fails; that of a
-- custom stage that tells no list is of its own.
pub record FailuresLead (p : Plugged) (a : Answer) (c : AskedRun) (old new : FolderState) : Type 0 where
  pub blueprint : Blueprint
  pub drawn : Drawn
  pub by_moves : drawn.picks ≡ a.picks
  pub ran : RanOver p c old new blueprint drawn
  pub every : length a.sinks ≡ length (sink_places 0 blueprint.nodes.items)
  pub leads : (w : World) (k : ℕ) (n : Node) (file : List ℕ) (cause : Cause) → IsWorldOf p.book blueprint.nodes.items drawn w
      → AnswersSink a blueprint k n file (state.Failed cause) → EndsSink (graph_of blueprint) w k (graph_node blueprint.wires.items n) cause
