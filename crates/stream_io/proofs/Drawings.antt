-- What each way out of a draw of a line says of the counts and of the kept bytes.
use Rattle.std.proofs.Common.{◌≡◌, ℕ, ◌+◌, ◌≤◌, List, [], ◌∷◌, length, take, drop, min, ◌-◌, IsSome, refl, sym, ap, ◌∙◌, arith, subst, length-take, length-drop}
use Rattle.std.specs.Prelude.{Result, Ok, Err, IsErrAnd}
use Rattle.elem_core.specs.Text.{lines}
use Rattle.stream_io.specs.declared.line_reader.LineEnd.{LineEnd}
use Rattle.stream_io.specs.declared.line_reader.LineEnd.TheVariants.{ReadFault, LineTooLong, NoMemory}
use Rattle.stream_io.specs.State.{SourceState}
use Rattle.stream_io.specs.Reading.{Fetched, rest, AtEnd, ReadToEnd, FirstTooLong}

-- a want of memory is no other error
pub long_or_memory : {T X : Type 0} (r : Result T LineEnd) (y : LineEnd) → IsErrAnd r (λ e. e ≡ y) → y ≡ NoMemory → r ≡ Err LineTooLong → X
long_or_memory (Ok x) y h memory is = absurd h
long_or_memory (Err e) y h memory is = absurd cc

pub fault_or_memory : {T X : Type 0} (r : Result T LineEnd) (y : LineEnd) → IsErrAnd r (λ e. e ≡ y) → y ≡ NoMemory → r ≡ Err ReadFault → X
fault_or_memory (Ok x) y h memory is = absurd h
fault_or_memory (Err e) y h memory is = absurd cc

-- the reader read on, and gave out nothing
pub record Undrawn (old : SourceState) (kept : List ℕ) (new : SourceState) (kept' : List ℕ) : Type 0 where
  pub never_falls : old.faults ≤ new.faults
  pub left : IsSome old.whole → rest new kept' ≡ rest old kept
  pub bound : length kept' ≤ 69632
  pub given : old.given ≤ new.given
  pub reads : new.given + length kept ≤ old.given + 69632
  pub count : new.given + length kept ≡ old.given + length kept'
  pub name : new.name ≡ old.name
  pub whole : new.whole ≡ old.whole

pub undrawn : (o f n : SourceState) (k fk nk : List ℕ) → Fetched o k f fk → length fk ≤ 69632 → o.faults ≤ f.faults → n ≡ f → nk ≡ fk → Undrawn o k n nk
undrawn o f n k fk nk reads bound never_falls same kept =
    let count : length fk + o.given ≡ length k + f.given = reads.count in
    rw (same, kept) (record {
      never_falls = never_falls;
      left = reads.left;
      bound = bound;
      given = reads.given;
      reads = omega (arith, count, bound);
      count = omega (arith, count);
      name = reads.name;
      whole = reads.whole;
    })

-- the reader read on, and gave out a line
pub record Drawn (old : SourceState) (kept : List ℕ) (line : List ℕ) (new : SourceState) (kept' : List ℕ) : Type 0 where
  pub short : length line ≤ 65536
  pub no_fault : new.faults ≡ old.faults
  pub never_falls : old.faults ≤ new.faults
  pub few : length kept' ≤ 4096
  pub bound : length kept' ≤ 69632
  pub given : old.given ≤ new.given
  pub reads : new.given + length kept ≤ old.given + 69632
  pub read_for_line : new.given + length kept ≤ old.given + (length kept' + (length line + 1))
  pub name : new.name ≡ old.name
  pub whole : new.whole ≡ old.whole

pub drawn : (o f n : SourceState) (k fk nk line : List ℕ) (size past : ℕ) → Fetched o k f fk → length fk ≤ 69632 → f.faults ≡ o.faults → n ≡ f → past ≤ size + 1 → past ≤ length fk → size ≤ 65536 → length fk ≤ past + 4096 → line ≡ take size fk → nk ≡ drop past fk → Drawn o k line n nk
drawn o f n k fk nk line size past reads bound no_fault same next within short few is left =
    let count : length fk + o.given ≡ length k + f.given = reads.count in
    let long : length line ≡ min size (length fk) = ap length is ∙ length-take size fk in
    let keeps : length nk ≡ length fk - past = ap length left ∙ length-drop past fk in
    rw same (record {
      short = omega (arith, long, short);
      no_fault = no_fault;
      never_falls = omega (arith, no_fault);
      few = omega (arith, keeps, few);
      bound = omega (arith, keeps, bound);
      given = reads.given;
      reads = omega (arith, count, bound);
      read_for_line = omega (arith, count, long, keeps, next, within);
      name = reads.name;
      whole = reads.whole;
    })

none_long : (bs : List ℕ) → length bs ≡ 0 → bs ≡ []
none_long [] none = refl
none_long (b ∷ bs) none = absurd (omega arith)

-- the source ended, and nothing was kept
pub read_to_end : (o f : SourceState) (k fk : List ℕ) → Fetched o k f fk → AtEnd f fk → length fk ≡ 0 → ReadToEnd o k f fk
read_to_end o f k fk reads ends none =
    let keeps : fk ≡ [] = none_long fk none in
    let leaves = λ (told : IsSome o.whole). ends.left (subst IsSome (sym reads.whole) told) ∙ keeps in
    record {
      nothing_kept = none_long k (omega (arith, reads.count, reads.given, none));
      nothing_keeps = keeps;
      nothing_left = λ told. sym (reads.left told) ∙ leaves told;
      nothing_leaves = leaves;
    }

pub nothing_too_long : (bs : List ℕ) → bs ≡ [] → FirstTooLong (lines bs) → ⊥
nothing_too_long bs none long = subst (λ (b : List ℕ). FirstTooLong (lines b)) none long
