-- What an opening says: of a file that was opened, of one that was refused, and where memory was lacking.
use Rattle.std.proofs.Common.{◌≡◌, ◌≢◌, ℕ, Bool, true, false, List, [], Some, None, refl, sym, ap, ◌∙◌, arith, subst}
use Rattle.std.specs.Prelude.{Result, Ok, Err, IsErrAnd}
use Rattle.std.proofs.lemmas.Bool.{false≢true}
use Rattle.stream_io.specs.State.{FolderState, DrainState, SameFiles, SameFaults, SameRefusals, RefusesName, OpensSource, OpensDrain}
use Rattle.stream_io.specs.Files.{bytes_of_file, folder_of}
use Rattle.stream_io.specs.Tally.{folder_of_counts}
use Rattle.stream_io.specs.declared.named_file.NamedFile.{NamedFile}
use Rattle.stream_io.specs.declared.outside.OpenFault.{OpenFault}
use Rattle.stream_io.specs.declared.outside.OpenFault.TheVariants.{Missing, NoMemory}
use Rattle.stream_io.specs.declared.tally.Counts.{Counts}

-- a want of memory is no refusal
pub lacked : {T X : Type 0} (r : Result T OpenFault) → IsErrAnd r (λ e. e ≡ NoMemory) → r ≡ Err Missing → X
lacked (Ok x) h is = absurd h
lacked (Err e) h is = absurd cc

-- and a refusal is no want of memory
pub refusal_only : {T X : Type 0} (r : Result T OpenFault) (e : OpenFault) → r ≡ Err e → e ≡ Missing → r ≡ Err NoMemory → X
refusal_only r e was missing is = absurd cc

-- the error that came is a want of memory
pub memory_came : {T U : Type 0} (r : Result T OpenFault) (y : OpenFault) (s : Result U OpenFault) → IsErrAnd r (λ e. e ≡ y) → s ≡ Err y → s ≡ Err NoMemory → IsErrAnd r (λ e. e ≡ NoMemory)
memory_came (Ok x) y s h was memory = absurd h
memory_came (Err e) y s h was memory = let is : e ≡ NoMemory = cc in is

-- nothing changed
pub record Unopened (old new : FolderState) (name : List ℕ) : Type 0 where
  pub files : SameFiles old new
  pub faults : SameFaults old new
  pub same : SameRefusals old new
  pub refusal : RefusesName old new name

pub unopened : (s : FolderState) (name : List ℕ) → Unopened s s name
unopened s name = record {
  files = record { telling = refl; files = λ _ n. refl };
  faults = record { rfaults = λ n. refl; wfaults = λ n. refl; read = λ n. refl };
  same = λ n. refl;
  refusal = record { stays = omega arith; others = λ n _. refl };
}

-- the files stand in other room
pub unopened_files : (tells : Bool) (old new : List NamedFile) (counts : List Counts) (name : List ℕ) → new ≡ old → Unopened (folder_of tells old counts) (folder_of tells new counts) name
unopened_files tells old new counts name is = subst (λ (files : List NamedFile). Unopened (folder_of tells old counts) (folder_of tells files counts) name) (sym is) (unopened (folder_of tells old counts) name)

-- whatever the files are, no count rose
pub faults_stay : (tells : Bool) (old new : List NamedFile) (counts : List Counts) → SameFaults (folder_of tells old counts) (folder_of tells new counts)
faults_stay tells old new counts = record { rfaults = λ n. refl; wfaults = λ n. refl; read = λ n. refl }

pub refusals_stay : (tells : Bool) (old new : List NamedFile) (counts : List Counts) (name : List ℕ) → RefusesName (folder_of tells old counts) (folder_of tells new counts) name
refusals_stay tells old new counts name = record { stays = omega arith; others = λ n _. refl }

-- a drain without a name
abbrev drained : List ℕ → ℕ → DrainState
drained held faults = record { name = []; holds = Some held; faults = faults }

-- an empty file was put under the name, and a drain opened for it
pub opens_drain : (tells : Bool) (fs was new : List NamedFile) (counts : List Counts) (name own named held bytes : List ℕ) (faults : ℕ) → own ≡ name → named ≡ name → drained held faults ≡ drained [] 0 → bytes ≡ [] → was ≡ fs → bytes_of_file new named ≡ Some bytes → ((n : List ℕ) → n ≢ named → bytes_of_file new n ≡ bytes_of_file was n) → OpensDrain (folder_of tells fs counts) (folder_of tells new counts) name (record { name = own; holds = Some held; faults = faults })
opens_drain tells fs was new counts name own named held bytes faults is named_is drain none same this others = record {
  name_is = is;
  holds = λ _. ap (λ (d : DrainState). d.holds) drain;
  faults = ap (λ (d : DrainState). d.faults) drain;
  told = λ t. t;
  emptied = λ _. rw (← named_is) (this ∙ ap Some none);
  others = λ _ n other. others n (λ e. other (e ∙ named_is)) ∙ ap (λ (files : List NamedFile). bytes_of_file files n) same;
}

-- what a folder opens that tells no files
pub opens_untold_drain : (counts : List Counts) (name own : List ℕ) → own ≡ name → OpensDrain (folder_of_counts counts) (folder_of_counts counts) name (record { name = own; holds = None; faults = 0 })
opens_untold_drain counts name own is = record {
  name_is = is;
  holds = λ t. absurd (false≢true t);
  faults = refl;
  told = λ t. t;
  emptied = λ t. absurd (false≢true t);
  others = λ t. absurd (false≢true t);
}

pub opens_untold_source : (counts : List Counts) (name own : List ℕ) → own ≡ name → OpensSource (folder_of_counts counts) name (record { name = own; whole = None; given = 0; faults = 0 })
opens_untold_source counts name own is = record {
  name_is = is;
  there = λ t. absurd (false≢true t);
  whole = λ t. absurd (false≢true t);
  given = refl;
  faults = refl;
}
