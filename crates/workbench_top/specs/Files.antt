-- What `check` with the option that looks for files answers.
use Rattle.std.specs.Prelude.{◌≡◌, ◌⊎◌, ℕ, Bool, IsTrue, true, false, is_some, List, [], Option, Some, None}
use Rattle.std.specs.List.{list_all}
use Rattle.stream_model.specs.declared.blueprint.Blueprint.{Blueprint}
use Rattle.stream_model.specs.declared.blueprint.Node.{Node}
use Rattle.stream_model.specs.declared.kind.Kind.{Kind}
use Rattle.stream_model.specs.declared.kind.Kind.TheVariants.{Lines}
use Rattle.stream_io.specs.Counts.{Rose}
use Rattle.stream_io.specs.State.{FolderState, SameRefusals}
use Rattle.stream_io.specs.Text.{ReadsFile}
use Rattle.workbench_draw.specs.Judging.{IsFitText}
use Rattle.workbench_top.specs.Answer.{PassesAnswer, Blames}
use Rattle.workbench_top.specs.declared.answer.Answer.{Answer}
use Rattle.workbench_top.specs.declared.answer.Ending.TheVariants as ending

-- the file that a node reads
abbrev pub read_by : Kind → Option (List ℕ)
read_by (Lines file) = Some file
read_by _ = None

-- the folder has the file that is named, if one is
abbrev pub has_named : FolderState → Option (List ℕ) → Bool
has_named folder None = true
has_named folder (Some name) = is_some (folder.file name)

-- the folder has each file that these nodes read
abbrev pub has_files : FolderState → List Node → Bool
has_files folder nodes = list_all (λ n. has_named folder (read_by n.kind)) nodes

-- each file that these nodes read was opened: the folder has it, if it tells its files, and no opening was refused
pub record OpensFiles (nodes : List Node) (old new : FolderState) : Type 0 where
  pub there : IsTrue old.tells → has_files old nodes ≡ true
  pub refusals : SameRefusals old new

-- an opening was refused
pub record HasRefused (old new : FolderState) : Type 0 where
  pub name : List ℕ
  pub rose : Rose (old.refusals name) (new.refusals name)

-- the folder tells its files and does not have the one that is named, or an opening was refused
abbrev pub LacksNamed : Option (List ℕ) → FolderState → FolderState → Type 0
LacksNamed named old new = (IsTrue old.tells × (has_named old named ≡ false)) ⊎ HasRefused old new

-- the folder tells its files and does not have all that these nodes read, or an opening was refused
abbrev pub MissesOne : List Node → FolderState → FolderState → Type 0
MissesOne nodes old new = (IsTrue old.tells × (has_files old nodes ≡ false)) ⊎ HasRefused old new

-- the text and its blueprint break no rule, and each file that its sources name was opened
pub record FindsFiles (text file : List ℕ) (old new : FolderState) (a : Answer) : Type 0 where
  pub passes : PassesAnswer text file a
  pub opens : OpensFiles passes.blueprint.nodes.items old new

-- the text and its blueprint break no rule, and it is told that files are missing
pub record MissesFiles (text file : List ℕ) (old new : FolderState) (a : Answer) : Type 0 where
  pub ending : a.ending ≡ ending.Missing
  pub blueprint : Blueprint
  pub fit : IsFitText text file blueprint
  pub said : a.said.items ≡ []
  pub misses : MissesOne blueprint.nodes.items old new

-- the answer on the text of a blueprint's file
abbrev pub ChecksFiles : List ℕ → List ℕ → FolderState → FolderState → Answer → Type 0
ChecksFiles text file old new a = FindsFiles text file old new a ⊎ (MissesFiles text file old new a ⊎ Blames text file a)

-- the blueprint's file was read, and then the files were looked for that its text names
pub record ChecksRead (file : List ℕ) (old new : FolderState) (a : Answer) : Type 0 where
  pub text : List ℕ
  pub read : FolderState
  pub reads : ReadsFile old read file text
  pub checks : ChecksFiles text file read new a
