-- The lines of bytes, by the first place of an LF.
use Rattle.std.proofs.Common.{◌≡◌, ◌≢◌, ℕ, suc, ◌+◌, ◌<◌, ◌≤◌, Bool, true, false, List, [], ◌∷◌, ◌++◌, length, take, drop, eqb, cond, IsSome, zero, refl, sym, ap, ◌∙◌, subst, arith, append_assoc, length-append, unwrap_or, inr}
use Rattle.std.proofs.lemmas.Bool.Decides.{nat_tests}
use Rattle.std.proofs.lemmas.List.{take-append-drop, drop_more, append-nil, take-append-le, append_cancel_left}
use Rattle.std.proofs.lemmas.List.Elements.{All-head, All-tail}
use Rattle.elem_core.specs.Line.{has_no_lf}
use Rattle.elem_core.specs.Text.{lines, add_byte}
use Rattle.stream_io.specs.State.{SourceState}
use Rattle.stream_io.specs.Reading.{NoEnd, rest, LineEndsAt, AtEnd, TooLong, FirstTooLong, Draws}

abbrev not_lf : ℕ → Type 0
not_lf b = b ≢ 10

-- the two forms of bytes without LF
pub has_no_lf-NoEnd : (bs : List ℕ) → NoEnd bs → has_no_lf bs ≡ true
has_no_lf-NoEnd [] none = refl
has_no_lf-NoEnd (b ∷ bs) none =
    let other : b ≢ 10 = All-head not_lf b bs none in
    let later = has_no_lf-NoEnd bs (All-tail not_lf b bs none) in
    grind (arith, nat_tests)

-- a line with its LF stands first
pub lines-first : (line later : List ℕ) → NoEnd line → lines (line ++ 10 ∷ later) ≡ line ∷ lines later
lines-first [] later none = refl
lines-first (b ∷ bs) later none =
    let other : b ≢ 10 = All-head not_lf b bs none in
    let tail = lines-first bs later (All-tail not_lf b bs none) in
    let here : eqb b 10 ≡ false = grind (arith, nat_tests) in
    rw (here, tail) refl

-- a last line without LF
pub lines-last : (line : List ℕ) → NoEnd line → line ≢ [] → lines line ≡ line ∷ []
lines-last [] none some = absurd (some refl)
lines-last (b ∷ []) none some =
    let other : b ≢ 10 = All-head not_lf b [] none in
    let here : eqb b 10 ≡ false = grind (arith, nat_tests) in
    rw here refl
lines-last (b ∷ c ∷ bs) none some =
    let other : b ≢ 10 = All-head not_lf b (c ∷ bs) none in
    let here : eqb b 10 ≡ false = grind (arith, nat_tests) in
    let tail = lines-last (c ∷ bs) (All-tail not_lf b (c ∷ bs) none) (λ (e : c ∷ bs ≡ []). cc) in
    ap (λ (t : Bool). cond t ([] ∷ lines (c ∷ bs)) (add_byte b (lines (c ∷ bs)))) here ∙ ap (add_byte b) tail

-- the first line has at least n bytes, where there is one
abbrev FirstFrom : ℕ → List (List ℕ) → Type 0
FirstFrom n [] = n ≡ 0
FirstFrom n (l ∷ ls) = n ≤ length l

FirstFrom-add : (n b : ℕ) (ls : List (List ℕ)) → FirstFrom n ls → FirstFrom (suc n) (add_byte b ls)
FirstFrom-add n b [] h = omega arith
FirstFrom-add n b (l ∷ ls) h = omega arith

FirstFrom-none : (ls : List (List ℕ)) → FirstFrom 0 ls
FirstFrom-none [] = refl
FirstFrom-none (l ∷ ls) = omega arith

FirstFrom-lines : (n : ℕ) (bs : List ℕ) → n ≤ length bs → NoEnd (take n bs) → FirstFrom n (lines bs)
FirstFrom-lines zero bs fits none = FirstFrom-none (lines bs)
FirstFrom-lines (suc n) [] fits none = absurd (omega arith)
FirstFrom-lines (suc n) (b ∷ bs) fits none =
    let other : b ≢ 10 = All-head not_lf b (take n bs) none in
    let here : eqb b 10 ≡ false = grind (arith, nat_tests) in
    let later = FirstFrom-lines n bs (omega arith) (All-tail not_lf b (take n bs) none) in
    rw here (FirstFrom-add n b (lines bs) later)

FirstTooLong-from : (n : ℕ) (ls : List (List ℕ)) → 65536 < n → FirstFrom n ls → FirstTooLong ls
FirstTooLong-from n [] long from = absurd (omega arith)
FirstTooLong-from n (l ∷ ls) long from = omega arith

-- too many bytes without LF stand first
pub FirstTooLong-kept : (kept later : List ℕ) → TooLong kept → FirstTooLong (lines (kept ++ later))
FirstTooLong-kept kept later long =
    let n = long.0 in
    let same : take n (kept ++ later) ≡ take n kept = take-append-le n kept later long.2 in
    let none : NoEnd (take n (kept ++ later)) = rw same long.3 in
    FirstTooLong-from n _ long.1 (FirstFrom-lines n (kept ++ later) (omega (arith, length-append kept later)) none)

-- a first line that is short enough
pub FirstTooLong-none : (ls later : List (List ℕ)) (line : List ℕ) → ls ≡ line ∷ later → length line ≤ 65536 → FirstTooLong ls → ⊥
FirstTooLong-none ls later line is short long =
    let l : FirstTooLong (line ∷ later) = subst FirstTooLong is long in
    omega arith

-- the kept bytes up to an LF are drawn
pub rest-ended : (s : SourceState) (kept : List ℕ) (at : ℕ) → LineEndsAt kept at → rest s kept ≡ take at kept ++ 10 ∷ rest s (drop (at + 1) kept)
rest-ended s kept at ends =
    let more : drop at kept ≡ 10 ∷ drop (at + 1) kept = drop_more kept at 0 ends.within ∙ ap (λ (b : ℕ). b ∷ drop (at + 1) kept) ends.found in
    let whole : kept ≡ take at kept ++ 10 ∷ drop (at + 1) kept = sym (take-append-drop at kept) ∙ ap (λ (r : List ℕ). take at kept ++ r) more in
    ap (λ (k : List ℕ). rest s k) whole ∙ append_assoc (take at kept) (10 ∷ drop (at + 1) kept) _

-- a line that ended was drawn
pub drawn-ended : (o f n : SourceState) (k fk nk line : List ℕ) (at : ℕ) → rest f fk ≡ rest o k → n ≡ f → LineEndsAt fk at → line ≡ take at fk → nk ≡ drop (at + 1) fk → rest o k ≡ line ++ 10 ∷ rest n nk
drawn-ended o f n k fk nk line at left same ends is past = sym left ∙ rest-ended f fk at ends ∙ sym (rw (same, is, past) refl)

-- and it is the first of the lines
pub lines-ended : (old line later fk : List ℕ) (at : ℕ) → old ≡ line ++ 10 ∷ later → NoEnd (take at fk) → line ≡ take at fk → lines old ≡ line ∷ lines later
lines-ended old line later fk at is none same = ap lines is ∙ lines-first line later (rw same none)

-- a last line was drawn
pub lines-unended : (o f n : SourceState) (k fk nk line : List ℕ) → rest f fk ≡ rest o k → n ≡ f → AtEnd f fk → IsSome f.whole → fk ≢ [] → line ≡ fk → nk ≡ [] → lines (rest o k) ≡ line ∷ lines (rest n nk)
lines-unended o f n k fk nk line left same ends told some is none =
    let d = drop f.given (unwrap_or f.whole []) in
    let empty : d ≡ [] = append_cancel_left fk d [] (ends.left told ∙ sym (append-nil fk)) in
    ap lines (sym left ∙ ends.left told) ∙ lines-last fk ends.no_end some ∙ sym (rw (none, is, same, empty) refl)

-- and it is drawn
pub drawn-unended : (o f n : SourceState) (k fk nk line : List ℕ) → rest f fk ≡ rest o k → n ≡ f → AtEnd f fk → IsSome f.whole → fk ≢ [] → line ≡ fk → nk ≡ [] → Draws (rest o k) line (rest n nk)
drawn-unended o f n k fk nk line left same ends told some is none =
    let d = drop f.given (unwrap_or f.whole []) in
    let empty : d ≡ [] = append_cancel_left fk d [] (ends.left told ∙ sym (append-nil fk)) in
    inr (sym left ∙ ends.left told ∙ sym is, (λ e. some (sym is ∙ e)), rw (none, same, empty) refl)
