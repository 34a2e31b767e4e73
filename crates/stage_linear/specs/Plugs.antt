-- What a plug in a stage keeps, and what came of the end of the input, in the words of the model.
use Rattle.std.specs.Prelude.{◌≡◌, ℕ, Bool, true, List, ◌++◌, ⊤}
use Rattle.elem_core.specs.Tree.{Tree}
use Rattle.stream_model.specs.Machine.{adds, refuses}
use Rattle.stream_model.specs.Linear.{Book, Stage, Work, plugged, blame_end, finish_of}
use Rattle.plug_logic.specs.Gives.{Gives, listed}
use Rattle.step_work.specs.declared.task.LinearReaction.{LinearReaction}
use Rattle.step_work.specs.declared.task.LinearReaction.TheVariants as outcome
use Rattle.step_work.specs.declared.task.LinearEnd.{LinearEnd}
use Rattle.step_work.specs.declared.task.LinearEnd.TheVariants as last

-- p is what q says behind these inputs
pub record Is (p : Gives) (took : List Tree) (q : Gives) : Type 0 where
  pub reply : (rest : List Tree) (t : Tree) → q.reply (took ++ rest) t ≡ p.reply rest t
  pub closing : (rest : List Tree) → q.closing (took ++ rest) ≡ p.closing rest

-- a plug: its name, what it took, and whether it goes on
pub record PlugState : Type 0 where
  pub name : List ℕ
  pub taken : List Tree
  pub running : Bool

-- While it goes on, its logic gives what the book lists of its name, behind what it took.
abbrev pub FollowsBook : Book → List ℕ → List Tree → Bool → Gives → Type 0
FollowsBook b name taken on p = on ≡ true → Is p taken (listed b name)

-- the work of a plug in the words of the model, by its name and what it took
abbrev pub plug_work : PlugState → Work
plug_work s = plugged s.name s.taken

-- where the stage goes on, this does
abbrev pub StaysOn : Bool → LinearReaction → Type 0
StaysOn on (outcome.Gives u) = on ≡ true
StaysOn on (outcome.GivesAll us) = on ≡ true
StaysOn on outcome.Skips = on ≡ true
StaysOn on (outcome.EndsWith u) = ⊤
StaysOn on (outcome.EndsWithAll us) = ⊤
StaysOn on outcome.Ends = ⊤
StaysOn on (outcome.Blames why) = on ≡ true
StaysOn on (outcome.Fails why) = ⊤

-- what came of the end of the input of a stage of this work: its last outputs, or that it fails
abbrev pub WorkEndsAs : Book → Work → LinearEnd → Type 0
WorkEndsAs b w (last.Adds us) = (s : Stage) → finish_of b s w ≡ adds us
WorkEndsAs b w (last.Refuses why) = (s : Stage) → finish_of b s w ≡ refuses (blame_end s why)
