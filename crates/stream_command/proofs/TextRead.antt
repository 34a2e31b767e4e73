-- What the bytes of the blueprint's file say is what the file says.
use Rattle.std.proofs.Common.{◌≡◌, ℕ, ◌<◌, ◌≤◌, Bool, true, false, List, [], inl, inr, refl, sym, ap, ◌∙◌, subst, arith, length, length-take}
use Rattle.std.specs.Prelude.{IsTrue, Option, Some, None, if◌then◌else◌, nat_lt}
use Rattle.std.specs.Option.{option_map}
use Rattle.std.proofs.lemmas.List.{take_all}
use Rattle.std.proofs.lemmas.Bool.{ltb-false, lt-ltb}
use Rattle.std.proofs.lemmas.Bool.Decides.{leb_tells}
use Rattle.elem_core.specs.Text.{lines}
use Rattle.blue_words.specs.declared.fault.BlueKind.TheVariants.{TooLong}
use Rattle.stream_io.specs.State.{FolderState}
use Rattle.blue_words.specs.declared.fault.BlueFault.{BlueFault}
use Rattle.stream_model.specs.declared.blueprint.Blueprint.{Blueprint}
use Rattle.blue_modules.specs.Text.{PlainText}
use Rattle.blue_lang.specs.Texts as language
use Rattle.blue_check.specs.Meaning.{Denotes}
use Rattle.stream_io.specs.Text.{text_limit, text_of_file, ReadsFile}
use Rattle.stream_command.specs.Outcome.{SaysText, SaysFile}

-- a file whose first bytes were read
whole_of : (o : Option (List ℕ)) (t : List ℕ) → option_map text_of_file o ≡ Some t → (whole : List ℕ) × ((o ≡ Some whole) × (t ≡ text_of_file whole))
whole_of None t e = cc
whole_of (Some whole) t e = (whole, (refl, cc))

short_whole : (whole t : List ℕ) → t ≡ text_of_file whole → length whole ≤ 1048576 → t ≡ whole
short_whole whole t e h = e ∙ take_all text_limit whole (omega (arith, h))

long_text : (t : List ℕ) (long : Bool) (later : Option BlueFault) → (if long then Some (record { kind = TooLong; line = 0 }) else later) ≡ None → long ≡ false
long_text t true later e = absurd cc
long_text t false later e = refl

-- a text that says something is the whole file
says_whole : (whole t : List ℕ) → t ≡ text_of_file whole → language.text_fault t ≡ None → t ≡ whole
says_whole whole t e none =
    let short : length t ≤ 1048576 = ltb-false 1048576 (length t) (long_text t (nat_lt 1048576 (length t)) (language.first_fault [] (lines t)) none) in
    let l : length t ≡ length (text_of_file whole) = ap length e in
    let small : length whole ≤ 1048576 = omega (arith, l, short, length-take text_limit whole) in
    short_whole whole t e small

-- a text that is too long has that fault
long_fault : (t : List ℕ) → 1048576 < length t → language.text_fault t ≡ Some (record { kind = TooLong; line = 0 })
long_fault t h = rw (lt-ltb 1048576 (length t) h) refl

-- the first fault of the bytes that were read is that of the file
fault_whole : (whole t : List ℕ) → t ≡ text_of_file whole → language.text_fault t ≡ language.text_fault whole
fault_whole whole t e = elim (leb_tells (length whole) 1048576) [
  | inl h ↦ ap language.text_fault (short_whole whole t e h.1)
  | inr h ↦ (
      let more : 1048576 < length whole = h.1 in
      let l : length t ≡ length (text_of_file whole) = ap length e in
      let long : 1048576 < length t = omega (arith, l, more, length-take text_limit whole) in
      long_fault t long ∙ sym (long_fault whole more)
      )
]

-- what the bytes say is what the file says
pub says_read : (old mid : FolderState) (file t : List ℕ) (said : PlainText) → IsTrue old.tells → ReadsFile old mid file t → language.Says t said → SaysText old file said
says_read old mid file t said tells r s =
    let w = whole_of (old.file file) t (r.text_is tells) in
    record {
      whole = w.0;
      there = w.1.0;
      says = subst (λ x. language.Says x said) (says_whole w.0 t w.1.1 s.faultless) s;
    }

pub denotes_read : (old mid : FolderState) (file t : List ℕ) (b : Blueprint) → IsTrue old.tells → ReadsFile old mid file t → Denotes (language.Says t) b → SaysFile old file b
denotes_read old mid file t b tells r d = record { text = d.text; says = says_read old mid file t d.text tells r d.says; flat = d.flat }

pub refused_read : (old mid : FolderState) (file t : List ℕ) (f : BlueFault) → IsTrue old.tells → ReadsFile old mid file t → language.text_fault t ≡ Some f → (whole : List ℕ) × ((old.file file ≡ Some whole) × (language.text_fault whole ≡ Some f))
refused_read old mid file t f tells r e =
    let w = whole_of (old.file file) t (r.text_is tells) in
    (w.0, (w.1.0, sym (fault_whole w.0 t w.1.1) ∙ e))
