-- The trace of a run in the folder: what the stages of a blueprint chose, as the text of a file of its own.
use Rattle.std.specs.Prelude.{◌≡◌, ℕ, ◌<◌, Bool, true, false, IsTrue, List, ◌++◌, length, map, Option, Some, None, ⊤}
use Rattle.std.specs.List.{Contains}
use Rattle.std.specs.Option.{option_to_list}
use Rattle.elem_core.specs.Prefix.{IsPrefix}
use Rattle.stream_io.specs.Counts.{Rose, Grew}
use Rattle.stream_io.specs.State.{FolderState}
use Rattle.interpreter.specs.Picks.{Pick}
use Rattle.stream_model.specs.declared.blueprint.Blueprint.{Blueprint}
use Rattle.materializer.specs.Choices.{pick_names}
use Rattle.materializer.specs.Files.{inputs_of_nodes, outputs_of_nodes}
use Rattle.plan_reader.specs.Text.{trace_text}

-- the files that a run opens to write them, in order: those of its sinks, and that of its trace where one is wanted
abbrev pub written_files : Blueprint → Option (List ℕ) → List (List ℕ)
written_files b trace = outputs_of_nodes b.nodes.items ++ option_to_list trace

-- the trace's file is none of the blueprint's
abbrev pub IsApart : Blueprint → Option (List ℕ) → Type 0
IsApart b trace = (t : List ℕ) → trace ≡ Some t → ((Contains (inputs_of_nodes b.nodes.items) t → ⊥) × (Contains (outputs_of_nodes b.nodes.items) t → ⊥))

-- a line for each stage whose kind chooses, in order of nodes, with its name and its moves
abbrev pub picks_text : Blueprint → List Pick → List ℕ
picks_text b picks = trace_text (pick_names b.nodes.items) (map (λ (p : Pick). p.1) picks)

-- the trace's file holds all of it, where the folder still tells its files, and no write to it failed
pub record HoldsTrace (old new : FolderState) (b : Blueprint) (file : List ℕ) (picks : List Pick) : Type 0 where
  pub holds : IsTrue new.tells → new.file file ≡ Some (picks_text b picks)
  pub calm : Grew (old.wfaults file) 0 (new.wfaults file)

-- a write to it failed, and it holds a first part, not all
pub record BreaksTrace (old new : FolderState) (b : Blueprint) (file : List ℕ) (picks : List Pick) : Type 0 where
  pub part : List ℕ
  pub is_part : IsPrefix part (picks_text b picks)
  pub not_all : length part < length (picks_text b picks)
  pub holds : IsTrue new.tells → new.file file ≡ Some part
  pub rose : Rose (old.wfaults file) (new.wfaults file)

-- what became of the trace, where one was wanted, by whether a write to it failed
abbrev pub Traces : FolderState → FolderState → Blueprint → Option (List ℕ) → List Pick → Bool → Type 0
Traces old new b None picks false = ⊤
Traces old new b None picks true = ⊥
Traces old new b (Some file) picks false = HoldsTrace old new b file picks
Traces old new b (Some file) picks true = BreaksTrace old new b file picks
