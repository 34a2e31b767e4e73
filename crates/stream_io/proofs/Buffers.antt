-- Parts of the buffer of a reader of lines that hold no LF.
use Rattle.std.proofs.Common.{◌≡◌, ◌≢◌, ℕ, ◌+◌, ◌-◌, ◌<◌, ◌≤◌, ⊎_elim, List, ◌++◌, length, take, drop, get_or, slice_range, arith, eq-eqb, sym, ap, refl, ◌∙◌, Option, Some, None, IfSome}
use Rattle.std.proofs.lemmas.List.{places, take_at, drop-take, drop-drop, take-take}
use Rattle.std.proofs.lemmas.List.Edits.{get_or-between, length-between}
use Rattle.std.proofs.lemmas.Bool.{cases_lt}
use Rattle.memchr.specs.Find.{Nowhere, Passes, is_byte}
use Rattle.std.proofs.lemmas.Slice.{between_from_start}
use Rattle.std.proofs.Math.Seq.{take-add}
use Rattle.stream_io.specs.State.{StartsWithPiece}
use Rattle.stream_io.specs.Reading.{NoEnd, ReadsOn}

-- no LF stands from one place up to another
abbrev pub Unended : List ℕ → ℕ → ℕ → Type 0
Unended bytes from to = (k : ℕ) → from ≤ k → k < to → get_or bytes k 0 ≢ 10

-- the first n bytes of a part were searched
pub Unended-searched : (bytes : List ℕ) (from mid to n : ℕ) → Unended bytes from mid → n + mid ≤ to → to ≤ length bytes → Nowhere (Passes (is_byte 10) (slice_range bytes mid to)) 0 n → Unended bytes from (mid + n)
Unended-searched bytes from mid to n before few fits nowhere k low high is =
    ⊎_elim (λ below. before k low below is) (λ above. nowhere (k - mid) (omega arith) (omega arith) (eq-eqb _ 10 (grind (arith, get_or-between, places)))) (cases_lt k mid)

-- such a part, as a list
pub NoEnd-part : (bytes : List ℕ) (from to : ℕ) → to ≤ length bytes → Unended bytes from to → NoEnd (slice_range bytes from to)
NoEnd-part bytes from to fits none k d low is = none (from + k) (omega arith) (grind (arith, places)) (grind (arith, places))

-- the front of such a part
pub NoEnd-front : (bytes : List ℕ) (from mid to : ℕ) → from ≤ mid → mid ≤ to → to ≤ length bytes → Unended bytes from mid → NoEnd (take (mid - from) (slice_range bytes from to))
NoEnd-front bytes from mid to low high fits none k d l is = none (from + k) (omega arith) (grind (arith, places)) (grind (arith, places))

-- a piece that was handed out stands behind the kept bytes
pub ReadsOn-behind : (told : Option (List ℕ)) (from n at : ℕ) (old was new kept : List ℕ) → take at was ≡ old → take at new ≡ take at was → at + n ≤ length new → kept ≡ take (at + n) new → IfSome told (λ whole. StartsWithPiece whole from (slice_range new at (at + n))) → IfSome told (λ whole. ReadsOn whole from n old kept)
ReadsOn-behind None from n at old was new kept begins front fits ends piece = tt
ReadsOn-behind (Some whole) from n at old was new kept begins front fits ends piece =
    let l : length (slice_range new at (at + n)) ≡ n = length-between new at (at + n) fits ∙ omega arith in
    let within : from + n ≤ length whole = omega (arith, piece.within) in
    let part : take n (drop from whole) ≡ slice_range new at (at + n) = rw l at piece.bytes in
    let ends' : take n (drop at new) ≡ slice_range new at (at + n) = grind (arith) in
    (within, ends ∙ take-add at n new ∙ rw (front, begins, ends', part) refl)

-- the front of a buffer that was lent as a slice and given back
pub front-given_back : (new items : List ℕ) (len m : ℕ) → length new ≡ len → slice_range (take len (new ++ drop (length new) items)) 0 m ≡ take m new
front-given_back new items len m l =
    ap (λ (b : List ℕ). slice_range b 0 m) (take_at new (drop (length new) items) len l) ∙ between_from_start new m

-- the kept bytes past a place
pub between-past : (bytes : List ℕ) (from past to : ℕ) → from + past ≤ to → slice_range bytes (from + past) to ≡ drop past (slice_range bytes from to)
between-past bytes from past to fits =
    let whole : to - from ≡ past + (to - (from + past)) = omega arith in
    sym (ap (λ (n : ℕ). drop past (take n (drop from bytes))) whole
    ∙ drop-take past (to - (from + past)) (drop from bytes)
    ∙ ap (take (to - (from + past))) (drop-drop past from bytes))

-- the front of the kept bytes is a part of the buffer
pub take-between : (bytes : List ℕ) (from n to : ℕ) → from + n ≤ to → take n (slice_range bytes from to) ≡ slice_range bytes from (from + n)
take-between bytes from n to fits =
    take-take n (to - from) (drop from bytes) (omega arith)
    ∙ ap (λ (m : ℕ). take m (drop from bytes)) (let m : n ≡ from + n - from = omega arith in m)
