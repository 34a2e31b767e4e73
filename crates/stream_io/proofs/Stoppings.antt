-- Openings that stop at a name, and the closing of what was open then.
use Rattle.std.proofs.Common.{◌≡◌, ℕ, inl, inr, List, [], ◌∷◌, Some, refl, sym, ◌∙◌, subst}
use Rattle.std.specs.Prelude.{IsTrue, IsSome}
use Rattle.std.specs.List.{All, Contains}
use Rattle.std.proofs.lemmas.List.Elements.{All-weaker, All-map}
use Rattle.stream_io.specs.Counts.{Rose}
use Rattle.stream_io.specs.State.{FolderState, SourceState, DrainState, SameFiles, SameFaults, SameRefusals, RefusesName, LacksFile}
use Rattle.stream_io.specs.Quiet.{Quiet, QuietBut}
use Rattle.stream_io.specs.Opening.{AtStart, HoldsNone, Empties, OpensAll, MissesInput, RefusesOutput, GivesUp}
use Rattle.stream_io.specs.Stopping.{StopsAtInput, StopsAtOutput, LacksRoom}
use Rattle.stream_io.specs.Closing.{ClosesAll}
use Rattle.stream_io.proofs.Counts.{quiet_same, quiet_two, quiet_but, rose_after}
use Rattle.stream_io.proofs.Lists.{contains_none}
use Rattle.stream_io.specs.Names.{drain_names}
use Rattle.stream_io.proofs.Openings.{opens_both, empties_none, tells_still}

-- the same, behind the inputs
pub stops_behind : (s t u : FolderState) (inputs outputs : List (List ℕ)) (n : List ℕ) (is : List SourceState) (os : List DrainState) → OpensAll s t inputs [] is [] → StopsAtOutput t u [] outputs n [] os → StopsAtOutput s u inputs outputs n is os
stops_behind s t u inputs outputs n is os first stops = record {
  before = stops.before;
  after = stops.after;
  place = stops.place;
  mid = stops.mid;
  opens = opens_both s t stops.mid inputs stops.before is os first stops.opens;
  files = stops.files;
  faults = stops.faults;
  rose = stops.rose;
  refusal = stops.refusal;
}

-- ---- what is left once all is closed

no_drains : (os : List DrainState) → drain_names os ≡ [] → os ≡ []
no_drains [] e = refl
no_drains (o ∷ os) e = cc

module _ (s mid t u : FolderState) (inputs outputs : List (List ℕ)) (is : List SourceState) (os : List DrainState) (opens : OpensAll s mid inputs outputs is os) (files : SameFiles mid t) (faults : SameFaults mid t) (closes : ClosesAll t u is os) where
  pub told_still : IsTrue u.tells → IsTrue mid.tells
  told_still h = tells_still mid t (sym files.telling) (closes.files.told h)

  pub inputs_there : IsTrue s.tells → All (λ m. IsSome (s.file m)) inputs
  inputs_there h = subst (λ ns. All (λ m. IsSome (s.file m)) ns) opens.input_names (All-map (λ m. IsSome (s.file m)) (λ (i : SourceState). i.name) is (All-weaker (AtStart s) (λ i. IsSome (s.file i.name)) (λ i at. at.there h) is opens.sources))

  pub outputs_emptied : Empties s u outputs
  outputs_emptied = record {
    told = λ h. opens.files.told (told_still h);
    still = λ e. closes.files.still (no_drains os (opens.output_names ∙ e)) ∙ files.telling ∙ opens.files.still e;
    emptied = λ h. subst (λ ns. All (λ m. u.file m ≡ Some []) ns) opens.output_names (All-map (λ m. u.file m ≡ Some []) (λ (o : DrainState). o.name) os (closes.files.alike (Some []) (All-weaker (HoldsNone mid) (λ o. o.holds ≡ Some []) (λ o none. none.holds (told_still h)) os opens.drains) h));
    others = λ h n no. closes.files.others h n (subst (λ ns. ¬ (Contains ns n)) (sym opens.output_names) no) ∙ files.files (told_still h) n ∙ opens.files.others (told_still h) n no;
  }

  pub read_quiet : Quiet s.read u.read
  read_quiet = quiet_two s.read t.read u.read (quiet_same s.read t.read (λ n. faults.read n ∙ opens.read n)) (closes.read.quiet (All-weaker (AtStart s) (λ i. i.given ≡ 0) (λ i at. at.given) is opens.sources))

  pub rfaults_quiet : Quiet s.rfaults u.rfaults
  rfaults_quiet = quiet_two s.rfaults t.rfaults u.rfaults (quiet_two s.rfaults mid.rfaults t.rfaults opens.rfaults (quiet_same _ _ faults.rfaults)) (closes.rfaults.quiet (All-weaker (AtStart s) (λ i. i.faults ≡ 0) (λ i at. at.faults) is opens.sources))

  pub wfaults_quiet : Quiet s.wfaults u.wfaults
  wfaults_quiet = quiet_two s.wfaults t.wfaults u.wfaults (quiet_two s.wfaults mid.wfaults t.wfaults opens.wfaults (quiet_same _ _ faults.wfaults)) (closes.wfaults.quiet (All-weaker (HoldsNone mid) (λ o. o.faults ≡ 0) (λ o none. none.faults) os opens.drains))

  pub refusals_but : (n : List ℕ) → RefusesName mid t n → QuietBut n s.refusals u.refusals
  refusals_but n refusal = quiet_but n s.refusals mid.refusals t.refusals u.refusals opens.refusals refusal.stays refusal.others closes.refusals

  pub refusals_quiet : SameRefusals mid t → Quiet s.refusals u.refusals
  refusals_quiet same = quiet_two s.refusals mid.refusals u.refusals opens.refusals (quiet_same _ _ (λ n. closes.refusals n ∙ same n))

  pub rose_still : (n : List ℕ) → Rose (mid.refusals n) (t.refusals n) → Rose (s.refusals n) (u.refusals n)
  rose_still n rose = let quiet = opens.refusals n in rose_after (s.refusals n) (mid.refusals n) (t.refusals n) (u.refusals n) quiet.stays rose (closes.refusals n)

-- no file was made empty
pub emptied_none : (s u : FolderState) → Empties s u [] → SameFiles s u
emptied_none s u none = record {
  telling = none.still refl;
  files = λ h n. none.others (tells_still u s (none.still refl) h) n (contains_none n);
}

pub lacks_before : (s t : FolderState) (n : List ℕ) → Empties s t [] → LacksFile t n → LacksFile s n
lacks_before s t n none lacks = (none.told lacks.0, sym (none.others lacks.0 n (contains_none n)) ∙ lacks.1)

pub misses : (s t u : FolderState) (inputs : List (List ℕ)) (n : List ℕ) (is : List SourceState) (os : List DrainState) → StopsAtInput s t inputs n is os → ClosesAll t u is os → MissesInput s u inputs n
misses s t u inputs n is os stops closes = record {
  before = stops.before;
  after = stops.after;
  place = stops.place;
  there = inputs_there s stops.mid t u stops.before [] is os stops.opens stops.files stops.faults closes;
  why = elim stops.why [
    | inl lacks ↦ inl (lacks_before s stops.mid n stops.opens.files lacks)
    | inr rose ↦ inr (rose_still s stops.mid t u stops.before [] is os stops.opens stops.files stops.faults closes n rose)
  ];
  files = emptied_none s u (outputs_emptied s stops.mid t u stops.before [] is os stops.opens stops.files stops.faults closes);
  refusals = refusals_but s stops.mid t u stops.before [] is os stops.opens stops.files stops.faults closes n stops.refusal;
  read = read_quiet s stops.mid t u stops.before [] is os stops.opens stops.files stops.faults closes;
  rfaults = rfaults_quiet s stops.mid t u stops.before [] is os stops.opens stops.files stops.faults closes;
  wfaults = wfaults_quiet s stops.mid t u stops.before [] is os stops.opens stops.files stops.faults closes;
}

pub refuses : (s t u : FolderState) (inputs outputs : List (List ℕ)) (n : List ℕ) (is : List SourceState) (os : List DrainState) → StopsAtOutput s t inputs outputs n is os → ClosesAll t u is os → RefusesOutput s u inputs outputs n
refuses s t u inputs outputs n is os stops closes = record {
  before = stops.before;
  after = stops.after;
  place = stops.place;
  there = inputs_there s stops.mid t u inputs stops.before is os stops.opens stops.files stops.faults closes;
  rose = rose_still s stops.mid t u inputs stops.before is os stops.opens stops.files stops.faults closes n stops.rose;
  files = outputs_emptied s stops.mid t u inputs stops.before is os stops.opens stops.files stops.faults closes;
  refusals = refusals_but s stops.mid t u inputs stops.before is os stops.opens stops.files stops.faults closes n stops.refusal;
  read = read_quiet s stops.mid t u inputs stops.before is os stops.opens stops.files stops.faults closes;
  rfaults = rfaults_quiet s stops.mid t u inputs stops.before is os stops.opens stops.files stops.faults closes;
  wfaults = wfaults_quiet s stops.mid t u inputs stops.before is os stops.opens stops.files stops.faults closes;
}

pub gives_up : (s t u : FolderState) (outputs : List (List ℕ)) (is : List SourceState) (os : List DrainState) → LacksRoom s t outputs is os → ClosesAll t u is os → GivesUp s u outputs
gives_up s t u outputs is os lacks closes = record {
  before = lacks.before;
  after = lacks.after;
  place = lacks.place;
  files = outputs_emptied s lacks.mid t u lacks.inputs lacks.before is os lacks.opens lacks.files lacks.faults closes;
  refusals = refusals_quiet s lacks.mid t u lacks.inputs lacks.before is os lacks.opens lacks.files lacks.faults closes lacks.refusals;
  read = read_quiet s lacks.mid t u lacks.inputs lacks.before is os lacks.opens lacks.files lacks.faults closes;
  rfaults = rfaults_quiet s lacks.mid t u lacks.inputs lacks.before is os lacks.opens lacks.files lacks.faults closes;
  wfaults = wfaults_quiet s lacks.mid t u lacks.inputs lacks.before is os lacks.opens lacks.files lacks.faults closes;
}

-- ---- memory was wanting

-- among the outputs, which were opened behind the inputs
pub lacks_behind : (s t u : FolderState) (inputs outputs : List (List ℕ)) (is : List SourceState) (os : List DrainState) → OpensAll s t inputs [] is [] → LacksRoom t u outputs [] os → LacksRoom s u outputs is os
lacks_behind s t u inputs outputs is os first lacks = record {
  inputs = inputs;
  before = lacks.before;
  after = lacks.after;
  place = lacks.place;
  mid = lacks.mid;
  opens = opens_both s t lacks.mid inputs lacks.before is os first (subst (λ l. OpensAll t lacks.mid l lacks.before [] os) (sym lacks.opens.input_names) lacks.opens);
  files = lacks.files;
  faults = lacks.faults;
  refusals = lacks.refusals;
}

-- before the first opening
pub gives_up_first : (s : FolderState) (outputs : List (List ℕ)) → GivesUp s s outputs
gives_up_first s outputs = record {
  before = [];
  after = outputs;
  place = refl;
  files = empties_none s;
  refusals = quiet_same _ _ (λ n. refl);
  read = quiet_same _ _ (λ n. refl);
  rfaults = quiet_same _ _ (λ n. refl);
  wfaults = quiet_same _ _ (λ n. refl);
}
