-- What a sink tells of its outlook: by how it stands, what it took, and the bytes of its file, which was empty at first.
use Rattle.std.specs.Prelude.{◌≡◌, ◌≢◌, ℕ, ◌+◌, ◌*◌, ◌<◌, ◌≤◌, List, [], ◌∷◌, length, Some}
use Rattle.elem_core.specs.Prefix.{IsPrefix}
use Rattle.elem_core.specs.Text.{text_lines}
use Rattle.elem_core.specs.Tree.{Tree}
use Rattle.elem_core.specs.declared.item.Item.{Item}
use Rattle.stream_io.specs.State.{SourceState, DrainState}
use Rattle.stream_model.specs.Composed.{sink_outlook, IsRanked}
use Rattle.stream_model.specs.Graph.{Graph}
use Rattle.stream_model.specs.Graph as graph
use Rattle.stream_model.specs.Linear.{Book}
use Rattle.stream_model.specs.Node.{World}
use Rattle.stream_model.specs.Sources.{whole_lines}
use Rattle.stream_model.specs.Outlook.{Outlook, End, unended, ended, failed, Agrees}
use Rattle.stream_model.specs.declared.outcome.EndState.{EndState}
use Rattle.stream_model.specs.declared.outcome.EndState.TheVariants.{Ended, Failed, Unended, WriteFault}
use Rattle.stage_core.specs.Held.{told}
use Rattle.run_laws.specs.Account.{Account}
use Rattle.nodes.specs.declared.node.IslandNode.{IslandNode}
use Rattle.nodes.specs.declared.node.IslandNode.TheVariants.{Writing, Ignoring}
use Rattle.nodes.specs.Sink.{Sink, end_seen}
use Rattle.nodes.specs.Ignoring.{Ignorer}
use Rattle.run_laws.specs.Telling.{TellsFiles, ServesPlans, WorldTells}

-- it took a list that may pass and stand as its input does; a write may fail behind the end of its input
pub record TookList (o : Outlook) (e : EndState) (took : List (List Item)) : Type 0 where
  pub list : List Tree
  pub seen : End
  pub is : took ≡ told list seen ∷ []
  pub agrees : Agrees o list seen
  pub ends : e ≢ WriteFault → seen ≡ end_seen e

-- the bytes are the text of a list that may pass and stand so
pub record HoldsText (o : Outlook) (e : End) (bytes : List ℕ) : Type 0 where
  pub list : List Tree
  pub agrees : Agrees o list e
  pub is : bytes ≡ text_lines list

-- It ended or failed as it may, or it may go on; a write that failed left a first part of the text of all that may pass.
abbrev pub SinkTells : Outlook → EndState → List ℕ → Type 0
SinkTells o Ended bytes = HoldsText o ended bytes
SinkTells o (Failed c) bytes = HoldsText o (failed c) bytes
SinkTells o Unended bytes = HoldsText o unended bytes
SinkTells o WriteFault bytes = IsPrefix bytes (text_lines o.list)

-- In rounds of so many lines a file of `count` lines lacks at most those that were sent since the last full round, and one before
-- them. Where a round is one line that is one line.
abbrev pub WithinRounds : ℕ → ℕ → ℕ → Type 0
WithinRounds room sent count = (rounds over : ℕ) → sent ≡ rounds * room + over → over < room → sent ≤ count + (over + 1)

-- So many elements were sent to a sink of lines that wrote `count` lines, and may put so many together: as many where its input's end
-- came, and while it waits no more than it may put off and one more. Where a write failed it is one more at least, and no more than
-- it may put off and one more: these were not written whole, and none was asked for behind them.
abbrev pub SentTo : ℕ → EndState → ℕ → ℕ → Type 0
SentTo room Ended sent count = sent ≡ count
SentTo room (Failed c) sent count = sent ≡ count
SentTo room Unended sent count = (count ≤ sent) × WithinRounds room sent count
SentTo room WriteFault sent count = (count + 1 ≤ sent) × WithinRounds room sent count

-- a sink with a file is node k, as it was handed in and now
pub record IsSinkAt {S D L H B : Type 0} (a : Account (IslandNode S D L H B)) (k : ℕ) (first now : Sink D) : Type 0 where
  pub at_first : a.firsts k ≡ Some (Writing first)
  pub at_last : a.nodes k ≡ Some (Writing now)

-- What a sink with a file wrote, whether its drain tells what it holds or not: so many whole lines as it counts, and bytes that its
-- outlook lets it write, by every world of this book of plugs that tells of the files of the sources and of what the stages chose, and by every
-- one whose moves they serve. A drain that was empty at first, and tells what it holds, holds just those bytes.
pub record SinkWrote {S D L H B : Type 0} (sources : S → SourceState) (drains : D → DrainState) (book : Book) (g : Graph) (a : Account (IslandNode S D L H B))
    (k : ℕ) (n : graph.Node) (first now : Sink D) : Type 0 where
  pub written : List ℕ
  pub lines_are : whole_lines (length written) written ≡ now.count
  pub holds : (drains first.drain).holds ≡ Some [] → (drains now.drain).holds ≡ Some written
  pub tells : (w : World) (rank : ℕ → ℕ) → w.book ≡ book → WorldTells sources g w a → IsRanked g rank → SinkTells (sink_outlook g w k n) now.end written
  pub serves : (w : World) (rank : ℕ → ℕ) → w.book ≡ book → TellsFiles sources g w a → ServesPlans g w a → IsRanked g rank
      → SinkTells (sink_outlook g w k n) now.end written

-- So many elements were sent to a sink that keeps nothing: they are a list that may pass and stand so; while it waits, the
-- list that it took, and one element more at most.
abbrev pub IgnoreTells : Outlook → EndState → ℕ → Type 0
IgnoreTells o Ended sent = (list : List Tree) × (Agrees o list ended × (sent ≡ length list))
IgnoreTells o (Failed c) sent = (list : List Tree) × (Agrees o list (failed c) × (sent ≡ length list))
IgnoreTells o Unended sent = (list : List Tree) × (Agrees o list unended × ((length list ≤ sent) × (sent ≤ length list + 1)))
IgnoreTells o WriteFault sent = ⊥

-- a sink that keeps nothing is node k, as it was handed in and now
pub record IsIgnorerAt {S D L H B : Type 0} (a : Account (IslandNode S D L H B)) (k : ℕ) (first now : Ignorer) : Type 0 where
  pub at_first : a.firsts k ≡ Some (Ignoring first)
  pub at_last : a.nodes k ≡ Some (Ignoring now)
