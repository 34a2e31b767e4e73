-- The files of a run's nodes as they were opened, and its trace's drain, whatever was opened beside them.
use Rattle.std.specs.Prelude.{◌≡◌, ℕ, IsTrue, List, Option, Some, None, Bool, true, false, ⊤}
use Rattle.std.specs.List.{All, Contains}
use Rattle.stream_io.specs.State.{FolderState, SourceState, DrainState, ClosesDrain}
use Rattle.stream_io.specs.Quiet.{Quiet}
use Rattle.stream_io.specs.Names.{source_names, drain_names}
use Rattle.stream_io.specs.Opening.{AtStart, HoldsNone}
use Rattle.stream_io.specs.Putting.{Puts, PutsPart}

-- these inputs and these outputs were opened, in their order, and the outputs are empty; of other files only these others may have
-- been emptied too
pub record Opens (old new : FolderState) (inputs outputs others : List (List ℕ)) (is : List SourceState) (os : List DrainState) : Type 0 where
  pub input_names : source_names is ≡ inputs
  pub sources : All (AtStart old) is
  pub output_names : drain_names os ≡ outputs
  pub drains : All (HoldsNone new) os
  pub told : IsTrue new.tells → IsTrue old.tells
  pub apart : IsTrue new.tells → (n : List ℕ) → ¬ (Contains outputs n) → ¬ (Contains others n) → new.file n ≡ old.file n
  pub read : (n : List ℕ) → new.read n ≡ old.read n
  pub refusals : Quiet old.refusals new.refusals
  pub rfaults : Quiet old.rfaults new.rfaults
  pub wfaults : Quiet old.wfaults new.wfaults

-- the drain of the trace's file holds nothing, and no write to it has failed
pub record OpensTrace (new : FolderState) (file : List ℕ) (o : DrainState) : Type 0 where
  pub named : o.name ≡ file
  pub start : HoldsNone new o

-- the same where a trace is wanted
abbrev pub OpensAs : FolderState → Option (List ℕ) → Option DrainState → Type 0
OpensAs new None None = ⊤
OpensAs new (Some file) (Some o) = OpensTrace new file o
OpensAs new _ _ = ⊥

-- this text was put into it, or a first part where a write failed
abbrev pub WritesAs : Option DrainState → Option DrainState → List ℕ → Bool → Type 0
WritesAs None None text false = ⊤
WritesAs (Some o) (Some p) text false = Puts o p text
WritesAs (Some o) (Some p) text true = PutsPart o p text
WritesAs _ _ text failed = ⊥

-- it was closed
abbrev pub ClosesAs : FolderState → FolderState → Option DrainState → Type 0
ClosesAs old new None = new ≡ old
ClosesAs old new (Some o) = ClosesDrain old new o
