-- Counts that follow one another, and files that no step changed.
use Rattle.std.proofs.Common.{◌≡◌, ◌≢◌, ℕ, ◌+◌, ◌<◌, ◌≤◌, List, inl, inr, sym, ap, ◌∙◌, subst, arith}
use Rattle.std.specs.Prelude.{take, Option, Some, None, IfSome, IsSome, IsTrue}
use Rattle.std.specs.Option.{option_map}
use Rattle.stream_io.specs.Counts.{last_count, Rose, Grew, GrewAtMost}
use Rattle.stream_io.specs.State.{FolderState, SourceState, SameFiles, SameFaults, SameRefusals, OpensSource, ClosesSource}
use Rattle.stream_io.proofs.Counts.{grew_same, grew_two, quiet_same, quiet_two, same_name}
use Rattle.stream_io.specs.Text.{ReadsUpTo, FailsToRead, StaysQuiet}

-- a folder whose files no step changed tells them behind it as before
pub tells_behind : (s t : FolderState) → SameFiles s t → IsTrue s.tells → IsTrue t.tells
tells_behind s t same h = subst (λ b. IsTrue b) (sym same.telling) h

pub tells_before : (s t : FolderState) → SameFiles s t → IsTrue t.tells → IsTrue s.tells
tells_before s t same h = subst (λ b. IsTrue b) same.telling h

-- files that two steps in a row leave alone are left alone
pub files_two : (s t u : FolderState) → SameFiles s t → SameFiles t u → SameFiles s u
files_two s t u p q = record {
  telling = q.telling ∙ p.telling;
  files = λ h n. q.files (tells_behind s t p h) n ∙ p.files h n;
}

-- a whole that is told gives its text
text_told : (limit : ℕ) (o w : Option (List ℕ)) (text : List ℕ) → w ≡ o → IsSome o → IfSome w (λ b. text ≡ take limit b) → option_map (λ b. take limit b) o ≡ Some text
text_told limit None w text e h p = cc
text_told limit (Some b) w text e h p = ap Some (sym (subst (λ o. IfSome o (λ b. text ≡ take limit b)) e p))

-- of another name's file nothing is read
others_unread : (s t u : FolderState) (name : List ℕ) (h h' : SourceState) → OpensSource s name h → SameFaults s t → h'.name ≡ h.name → ClosesSource t u h' → (n : List ℕ) → n ≢ name → u.read n ≡ s.read n
others_unread s t u name h h' opened faults same closed n differs = closed.other_read n (λ e. differs (e ∙ same ∙ opened.name_is)) ∙ faults.read n

-- what the opening, the reading and the closing of a file leave alone
pub closed_quiet : (s t u : FolderState) (name : List ℕ) (h h' : SourceState) → OpensSource s name h → SameFiles s t → SameFaults s t → SameRefusals s t → h'.name ≡ h.name → h'.faults ≡ h.faults → ClosesSource t u h' → SameFiles t u → StaysQuiet s u name
closed_quiet s t u name h h' opened files faults refusals same_name_is same_faults closed same = record {
  files = files_two s t u files same;
  read = others_unread s t u name h h' opened faults same_name_is closed;
  refusals = quiet_two _ _ _ (quiet_same _ _ refusals) (quiet_same _ _ closed.refusals);
  rfaults = λ n. elim (same_name n h'.name) [
    | inl e ↦ (let grew = grew_two _ _ _ 0 0 (grew_same _ _ (faults.rfaults n)) (subst (λ m. Grew (t.rfaults m) 0 (u.rfaults m)) (sym e) (subst (λ k. Grew (t.rfaults h'.name) k (u.rfaults h'.name)) (same_faults ∙ opened.faults) closed.rfaults)) in grew)
    | inr differs ↦ grew_same _ _ (closed.other_rfaults n differs ∙ faults.rfaults n)
  ];
  wfaults = quiet_two _ _ _ (quiet_same _ _ faults.wfaults) (quiet_same _ _ closed.wfaults);
}

-- a count to which a handle's was added rose where the handle's did
rose_closed : (old opened new first last : ℕ) → opened ≡ old → first ≡ 0 → Rose first last → Grew opened last new → Rose old new
rose_closed old opened new first last same none rose grew = λ h.
    let sum : new ≡ opened + last = grew.grew h in
    let below : last < last_count = omega (arith, sum, h) in
    let some : first < last = rose below in
    omega (arith, sum, same, none, some)

-- what a failed read of it leaves
pub closed_fault : (s t u : FolderState) (name : List ℕ) (h h' : SourceState) → OpensSource s name h → SameFiles s t → SameFaults s t → SameRefusals s t → h'.name ≡ h.name → Rose h.faults h'.faults → ClosesSource t u h' → SameFiles t u → FailsToRead s u name
closed_fault s t u name h h' opened files faults refusals same rose closed kept =
    let is : h'.name ≡ name = same ∙ opened.name_is in
    let grew : Grew (t.rfaults name) h'.faults (u.rfaults name) = subst (λ n. Grew (t.rfaults n) h'.faults (u.rfaults n)) is closed.rfaults in
    let before : t.rfaults name ≡ s.rfaults name = faults.rfaults name in
    let none : h.faults ≡ 0 = opened.faults in
    record {
      files = files_two s t u files kept;
      read = others_unread s t u name h h' opened faults same closed;
      rose = rose_closed (s.rfaults name) (t.rfaults name) (u.rfaults name) h.faults h'.faults before none rose grew;
      refusals = quiet_two _ _ _ (quiet_same _ _ refusals) (quiet_same _ _ closed.refusals);
      rfaults = record {
        stays = let grown : t.rfaults name ≤ u.rfaults name = grew.stays in omega (arith, before, grown);
        others = λ n differs. grew_same _ _ (closed.other_rfaults n (λ e. differs (e ∙ is)) ∙ faults.rfaults n);
      };
      wfaults = quiet_two _ _ _ (quiet_same _ _ faults.wfaults) (quiet_same _ _ closed.wfaults);
    }

-- ---- how many bytes of a file were read

pub read_none : (old new n : ℕ) → new ≡ old → GrewAtMost old n new
read_none old new n e = record { stays = omega (arith, e); most = λ h. omega (arith, e) }

pub read_most : (old mid n new : ℕ) → mid ≡ old → (k : ℕ) → k ≤ n → Grew mid k new → GrewAtMost old n new
read_most old mid n new e k few g = record {
  stays = omega (arith, e, g.stays);
  most = λ h. let more : new ≡ mid + k = g.grew h in omega (arith, e, few, more);
}

-- more of it is not read later
pub most_later : (old mid new n : ℕ) → GrewAtMost old n mid → Grew mid 0 new → GrewAtMost old n new
most_later old mid new n p q = record {
  stays = omega (arith, p.stays, q.stays);
  most = λ h. let same : new ≡ mid + 0 = q.grew h in let few : mid ≤ old + n = p.most (omega (arith, h, same)) in omega (arith, same, few);
}

-- of the file that was opened, read so far and closed
pub closed_most : (limit : ℕ) (s t u : FolderState) (name : List ℕ) (h h' : SourceState) → OpensSource s name h → SameFaults s t → h'.name ≡ h.name → h'.given ≤ limit → ClosesSource t u h' → GrewAtMost (s.read name) limit (u.read name)
closed_most limit s t u name h h' opened faults same few closed =
    let is : h'.name ≡ name = same ∙ opened.name_is in
    read_most (s.read name) (t.read name) limit (u.read name) (faults.read name) h'.given few (subst (λ n. Grew (t.read n) h'.given (u.read n)) is closed.read)

pub file_read : (limit : ℕ) (s t u : FolderState) (name text : List ℕ) (h h' : SourceState) → OpensSource s name h → SameFiles s t → SameFaults s t → SameRefusals s t → h'.name ≡ h.name → h'.faults ≡ h.faults → IfSome h.whole (λ w. text ≡ take limit w) → ClosesSource t u h' → SameFiles t u → ReadsUpTo limit s u name text
file_read limit s t u name text h h' opened files faults refusals same_name same_faults bytes closed same =
    let quiet = closed_quiet s t u name h h' opened files faults refusals same_name same_faults closed same in
    record {
      files = quiet.files;
      text_is = λ tells. text_told limit (s.file name) h.whole text (opened.whole tells) (opened.there tells) bytes;
      read = quiet.read;
      refusals = quiet.refusals;
      rfaults = quiet.rfaults;
      wfaults = quiet.wfaults;
    }
