-- Lines that a sink has put off, and what becomes of them.
use Rattle.std.specs.Prelude.{min, ◌*◌, ◌==◌, if◌then◌else◌}
use Rattle.std.specs.Option.{option_map}
use Rattle.std.proofs.Common.{◌≡◌, ℕ, zero, suc, ◌+◌, ◌<◌, ◌≤◌, Bool, true, false, List, [], ◌∷◌, ◌++◌, length, take, drop, refl, sym, ap, subst, ◌∙◌, arith, append_assoc, length-append}
use native.Mathlib.Nat.{min-eq_left}
use Rattle.std.proofs.lemmas.Bool.Decides.{nat_tests}
use Rattle.std.proofs.lemmas.List.{append-nil, take-append-drop, take-append-le}
use Rattle.elem_core.specs.Text.{text_of, text_lines}
use Rattle.elem_core.specs.Tree.{Tree}
use Rattle.stream_io.specs.Counts.{Rose}
use Rattle.stream_io.specs.State.{DrainState}
use Rattle.stream_io.specs.Putting.{Puts}
use Rattle.stream_io.proofs.Puttings.{held-two}
use Rattle.nodes.specs.Sink.{Gathered, AllOneLine, WroteAll, WroteFirst, WrotePart, PutOff, Paced, PutsShort, one_off}
use Rattle.nodes.proofs.Drawings.{text_lines-append}
use Rattle.nodes.proofs.LineFeeds.{lf_count, count-append, count-cons, count_text, count_take}

-- ---- bytes of lines

-- the text of some elements ends in an LF
text_ends : (t : Tree) (l : List Tree) → (x : List ℕ) × (text_lines (t ∷ l) ≡ x ++ 10 ∷ [])
text_ends t [] = (text_of t, refl)
text_ends t (u ∷ l) =
    let r = text_ends u l in
    (text_of t ++ 10 ∷ r.0, ap (λ (z : List ℕ). text_of t ++ 10 ∷ z) r.1 ∙ sym (append_assoc (text_of t) (10 ∷ r.0) (10 ∷ [])))

-- the LFs of bytes are those before a place and those behind it
halves : (d : ℕ) (bytes : List ℕ) → lf_count (take d bytes) + lf_count (drop d bytes) ≡ lf_count bytes
halves d bytes = sym (count-append (take d bytes) (drop d bytes)) ∙ ap lf_count (take-append-drop d bytes)

-- what is left of bytes that end in an LF has one
left_ends : (bytes x : List ℕ) (d : ℕ) → bytes ≡ x ++ 10 ∷ [] → d < length bytes → 1 ≤ lf_count (drop d bytes)
left_ends bytes x d e less =
    let many : length bytes ≡ length x + 1 = ap length e ∙ length-append x (10 ∷ []) in
    let within : d ≤ length x = omega (arith, less, many) in
    let front : take d bytes ≡ take d x = ap (take d) e ∙ take-append-le d x (10 ∷ []) within in
    let few : lf_count (take d bytes) ≤ lf_count x = subst (λ (z : List ℕ). lf_count z ≤ lf_count x) (sym front) (count_take d x) in
    let all : lf_count bytes ≡ lf_count x + lf_count (10 ∷ []) = ap lf_count e ∙ count-append x (10 ∷ []) in
    let one : lf_count (10 ∷ []) ≡ 1 = count-cons 10 [] in
    omega (arith, few, all, one, halves d bytes)

-- what is left of the text of elements has an LF
lost_some : (off : List Tree) (held : List ℕ) (d : ℕ) → held ≡ text_lines off → d < length held → 1 ≤ lf_count (drop d held)
lost_some [] held d e less = let none : length held ≡ 0 = ap length e in absurd (omega (arith, less, none))
lost_some (t ∷ l) held d e less = let r = text_ends t l in left_ends held r.0 d (e ∙ r.1) less

pub one_line_parts : (a b : List Tree) → AllOneLine (a ++ b) → AllOneLine a × AllOneLine b
one_line_parts [] b h = (tt, h)
one_line_parts (t ∷ a) b h = let r = one_line_parts a b h.1 in ((h.0, r.0), r.1)

min_small : (a b : ℕ) → a ≤ b → min a b ≡ a
min_small a b h = min-eq_left h

-- ---- what was put off

-- one line more
pub off_more : (old now : DrainState) (w : List Tree) (n : ℕ) (y : Gathered) (t : Tree) → WroteFirst old now w n y.held y.late → WroteFirst old now (w ++ t ∷ []) n (one_off y t).held (one_off y t).late
off_more old now w n y t f = record {
  put = f.put;
  off = f.off ++ t ∷ [];
  wrote_is = ap (λ (x : List Tree). x ++ t ∷ []) f.wrote_is ∙ append_assoc f.put f.off (t ∷ []);
  wrote_all = f.wrote_all;
  held_is = ap (λ (x : List ℕ). x ++ (text_of t ++ 10 ∷ [])) f.held_is ∙ sym (text_lines-append f.off (t ∷ []));
  late_is = let l : y.late ≡ length f.off = f.late_is in omega (arith, l, length-append f.off (t ∷ []));
}

-- nothing is put off where all was written
pub off_none : (old now : DrainState) (w : List Tree) (n : ℕ) (y : Gathered) → y.held ≡ [] → y.late ≡ 0 → WroteAll old now w n → PutOff old now w n y
off_none old now w n y held late h = record { first = record { put = w; off = []; wrote_is = sym (append-nil w); wrote_all = h; held_is = held; late_is = late }; due = λ _. late }

-- all of it was put
pub off_all : (old was now : DrainState) (w : List Tree) (n : ℕ) (held : List ℕ) (late : ℕ) → WroteFirst old was w n held late → Puts was now held → WroteAll old now w (n + late)
off_all old was now w n held late f p = record {
  holds = p.holds ∙ ap (option_map (λ (h : List ℕ). h ++ held)) f.wrote_all.holds ∙ held-two old.holds (text_lines f.put) held
      ∙ ap (λ (x : List ℕ). option_map (λ (h : List ℕ). h ++ x) old.holds) (ap (λ (z : List ℕ). text_lines f.put ++ z) f.held_is ∙ sym (text_lines-append f.put f.off) ∙ ap text_lines (sym f.wrote_is));
  count =
      let c : n ≡ length f.put = f.wrote_all.count in
      let l : late ≡ length f.off = f.late_is in
      let all : length w ≡ length (f.put ++ f.off) = ap length f.wrote_is in
      omega (arith, c, l, all, length-append f.put f.off);
  faults = p.faults ∙ f.wrote_all.faults;
}

-- nothing was to be written, so all was
pub wrote_nothing : (old now : DrainState) (w : List Tree) (n : ℕ) (y : Gathered) → w ≡ [] → WroteFirst old now w n y.held y.late → WroteAll old now w n
wrote_nothing old now w n y none f = rw none (by f.put f.off (sym f.wrote_is ∙ none) f.wrote_all)
  where
    by : (a b : List Tree) → a ++ b ≡ [] → WroteAll old now a n → WroteAll old now [] n
    by [] b e h = h
    by (t ∷ a) b e h = cc

-- where a write failed in it something was to be written
pub short_some : (old was now : DrainState) (w : List Tree) (n m : ℕ) (y : Gathered) → WroteFirst old was w n y.held y.late → PutsShort was now y n m → w ≡ [] → ⊥
short_some old was now w n m y f p none = by f.put f.off (sym f.wrote_is ∙ none) f.held_is
  where
    by : (a b : List Tree) → a ++ b ≡ [] → y.held ≡ text_lines b → ⊥
    by [] [] e h = let empty : length y.held ≡ 0 = ap length h in let less : p.done < length y.held = p.less in omega (arith, empty, less)
    by [] (t ∷ b) e h = cc
    by (t ∷ a) b e h = cc

-- a write failed in it, and a first part of it was put
pub off_part : (old was now : DrainState) (w : List Tree) (n m : ℕ) (y : Gathered) → WroteFirst old was w n y.held y.late → AllOneLine w → PutsShort was now y n m → WrotePart old now w m
off_part old was now w n m y f one p =
    let part = take p.done y.held in
    let rest = drop p.done y.held in
    let each = one_line_parts f.put f.off (subst AllOneLine f.wrote_is one) in
    let c : n ≡ length f.put = f.wrote_all.count in
    let l : y.late ≡ length f.off = f.late_is in
    let all : length w ≡ length (f.put ++ f.off) = ap length f.wrote_is in
    let many : lf_count y.held ≡ length f.off = ap lf_count f.held_is ∙ count_text f.off each.1 in
    let split : lf_count part + lf_count rest ≡ lf_count y.held = halves p.done y.held in
    let lost : 1 ≤ lf_count rest = lost_some f.off y.held p.done f.held_is p.less in
    let counted : m ≡ n + lf_count part = p.count ∙ ap (λ (z : ℕ). n + z) (min_small (lf_count part) y.late (omega (arith, split, many, l))) in
    record {
      part = text_lines f.put ++ part;
      rest = rest;
      text = ap text_lines f.wrote_is ∙ text_lines-append f.put f.off ∙ ap (λ (z : List ℕ). text_lines f.put ++ z) (sym f.held_is ∙ sym (take-append-drop p.done y.held)) ∙ sym (append_assoc (text_lines f.put) part rest);
      holds = p.puts.holds ∙ ap (option_map (λ (h : List ℕ). h ++ part)) f.wrote_all.holds ∙ held-two old.holds (text_lines f.put) part;
      count = omega (arith, counted, c, count-append (text_lines f.put) part, count_text f.put each.0);
      lost = omega (arith, counted, c, l, all, many, split, lost, length-append f.put f.off);
      faults = subst (λ (z : ℕ). Rose z now.faults) f.wrote_all.faults p.puts.faults;
    }

-- ---- rounds

pub paced_on : (room passed n m lines : ℕ) → n ≤ m → Paced room passed n lines → Paced room passed m lines
paced_on room passed n m lines more a = record { rounds = a.rounds; lines_are = a.lines_are; few = a.few; behind = let b : lines ≤ n + (passed + 1) = a.behind in omega (arith, b, more) }

-- no fewer lines are counted where a write failed
pub counted_on : (was now : DrainState) (y : Gathered) (n m : ℕ) → PutsShort was now y n m → n ≤ m
counted_on was now y n m p = let c : m ≡ n + min (lf_count (take p.done y.held)) y.late = p.count in omega (arith, c)

abbrev next : Bool → ℕ → ℕ
next full passed = if full then 0 else passed + 1

is_full : (a b : ℕ) → (a == b) ≡ true → a ≡ b
is_full a b h = grind (arith, nat_tests)

all_full : (a b : ℕ) → a ≡ b → (a == b) ≡ true
all_full a b h = grind (arith, nat_tests)

is_part : (a b : ℕ) → (a == b) ≡ false → a ≡ b → ⊥
is_part a b h e = let t : true ≡ false = sym (all_full a b e) ∙ h in cc

pub strict : (a b : ℕ) → a ≤ b → (a ≡ b → ⊥) → a < b
strict zero zero h n = absurd (n refl)
strict zero (suc b) h n = omega arith
strict (suc a) zero h n = absurd (omega (arith, h))
strict (suc a) (suc b) h n = let r = strict a b (omega (arith, h)) (λ e. n (ap suc e)) in omega (arith, r)

-- one line more came
pub paced_more : (old now : DrainState) (w : List Tree) (n : ℕ) (y : Gathered) (t : Tree) → PutOff old now w n y → Paced y.room y.passed n (length w) → Paced y.room (one_off y t).passed n (length (w ++ t ∷ []))
paced_more old now w n y t o a = subst (Paced y.room (one_off y t).passed n) (sym (length-append w (t ∷ []))) (by ((y.passed + 1) == y.room) (λ full. is_full (y.passed + 1) y.room full) (λ part. is_part (y.passed + 1) y.room part))
  where
    lines : length w ≡ a.rounds * y.room + y.passed
    lines = a.lines_are

    all : length w ≡ length (o.first.put ++ o.first.off)
    all = ap length o.first.wrote_is

    count : n ≡ length o.first.put
    count = o.first.wrote_all.count

    late : y.late ≡ length o.first.off
    late = o.first.late_is

    more : (a.rounds + 1) * y.room ≡ a.rounds * y.room + y.room
    more = omega arith

    by : (full : Bool) → (full ≡ true → y.passed + 1 ≡ y.room) → (full ≡ false → y.passed + 1 ≡ y.room → ⊥) → Paced y.room (next full y.passed) n (length w + 1)
    by true same other =
        let is : y.passed + 1 ≡ y.room = same refl in
        let none : y.late ≡ 0 = o.due is in
        record { rounds = a.rounds + 1; lines_are = omega (arith, lines, more, is); few = omega (arith, is); behind = omega (arith, all, count, late, none, length-append o.first.put o.first.off) }
    by false same other =
        let few : y.passed < y.room = a.few in
        let behind : length w ≤ n + (y.passed + 1) = a.behind in
        record { rounds = a.rounds; lines_are = omega (arith, lines); few = strict (y.passed + 1) y.room (omega (arith, few)) (other refl); behind = omega (arith, behind) }
