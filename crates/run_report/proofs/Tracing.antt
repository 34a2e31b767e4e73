-- The lines of a trace, gathered and put one after another.
use Rattle.std.proofs.Common.{min, ◌≡◌, ℕ, zero, suc, ◌+◌, ◌<◌, ◌≤◌, ◌⊎◌, inl, inr, List, [], ◌∷◌, ◌++◌, length, map, drop, get_or, refl, sym, ap, ◌∙◌, subst, arith, append_assoc}
use Rattle.std.specs.Prelude.{Result, Ok, Err, OnOk, OnErr}
use Rattle.std.specs.List.{flat_map}
use Rattle.std.proofs.lemmas.Bool.Decides.{leb_tells}
use Rattle.std.proofs.lemmas.List.{append-nil}
use Rattle.stream_io.specs.State.{DrainState}
use Rattle.stream_model.specs.declared.outcome.PickList.{PickList}
use Rattle.plan_reader.specs.Text.{pick_line, trace_text}
use Rattle.run_report.specs.Trace.{moves_in}
use Rattle.stream_io.specs.Putting.{Puts, PutsPart}
use Rattle.run_report.specs.Writing.{LeavesRest}
use Rattle.stream_io.proofs.Puttings.{puts_nothing, puts_two, puts_then_part}
use Rattle.run_report.proofs.Puttings.{leaves_stop, part_before, parts_from, parts_end}

-- a piece that was gathered
pub gathered_more : (s : DrainState) (was now piece : List ℕ) → now ≡ was ++ piece → LeavesRest s s (was ++ piece) now
gathered_more s was now piece e = record { sofar = []; puts = puts_nothing s; is = sym e }

-- what was gathered was put, and a piece behind it
pub put_behind : (s t u : DrainState) (was piece now : List ℕ) → Puts s t was → Puts t u piece → now ≡ [] → LeavesRest s u (was ++ piece) now
put_behind s t u was piece now p q e = record {
  sofar = was ++ piece;
  puts = puts_two s t u was piece p q;
  is = sym (append-nil (was ++ piece)) ∙ ap (λ (x : List ℕ). (was ++ piece) ++ x) (sym e);
}

-- the next piece was added to what is gathered
pub gathers_next : (s t u : DrainState) (whole was piece rest now : List ℕ) → LeavesRest s t whole (was ++ (piece ++ rest)) → LeavesRest t u (was ++ piece) now → LeavesRest s u whole (now ++ rest)
gathers_next s t u whole was piece rest now l m = record {
  sofar = l.sofar ++ m.sofar;
  puts = puts_two s t u l.sofar m.sofar l.puts m.puts;
  is =
      l.is ∙ ap (λ (x : List ℕ). l.sofar ++ x) (sym (append_assoc was piece rest) ∙ ap (λ (x : List ℕ). x ++ rest) m.is ∙ append_assoc m.sofar now rest)
      ∙ sym (append_assoc l.sofar m.sofar (now ++ rest));
}

-- a write failed as the next piece was added
pub gathers_stop : (s t u : DrainState) (whole was piece rest : List ℕ) → LeavesRest s t whole (was ++ (piece ++ rest)) → PutsPart t u (was ++ piece) → PutsPart s u whole
gathers_stop s t u whole was piece rest l p =
    leaves_stop s t u whole (was ++ piece) rest (subst (LeavesRest s t whole) (sym (append_assoc was piece rest)) l) p

-- at the start all is to come
pub gathers_all : (s : DrainState) (was whole : List ℕ) → LeavesRest s s (was ++ whole) (was ++ whole)
gathers_all s was whole = record { sofar = []; puts = puts_nothing s; is = refl }

-- at the end nothing is
pub gathers_none : (s t : DrainState) (whole now rest : List ℕ) → rest ≡ [] → LeavesRest s t whole (now ++ rest) → LeavesRest s t whole now
gathers_none s t whole now rest e l = subst (LeavesRest s t whole) (ap (λ (x : List ℕ). now ++ x) e ∙ append-nil now) l

-- two pieces that were added are one
pub adds_two : (s t u : DrainState) (was first between second now : List ℕ) → LeavesRest s t (was ++ first) between → LeavesRest t u (between ++ second) now → LeavesRest s u (was ++ (first ++ second)) now
adds_two s t u was first between second now l m = record {
  sofar = l.sofar ++ m.sofar;
  puts = puts_two s t u l.sofar m.sofar l.puts m.puts;
  is =
      sym (append_assoc was first second) ∙ ap (λ (x : List ℕ). x ++ second) l.is ∙ append_assoc l.sofar between second
      ∙ ap (λ (x : List ℕ). l.sofar ++ x) m.is ∙ sym (append_assoc l.sofar m.sofar now);
}

-- a write failed in the first of two, or in the second
pub stops_first : (s t : DrainState) (was first second : List ℕ) → PutsPart s t (was ++ first) → PutsPart s t (was ++ (first ++ second))
stops_first s t was first second p = subst (PutsPart s t) (append_assoc was first second) (part_before s t (was ++ first) second p)

pub stops_second : (s t u : DrainState) (was first between second : List ℕ) → LeavesRest s t (was ++ first) between → PutsPart t u (between ++ second) → PutsPart s u (was ++ (first ++ second))
stops_second s t u was first between second l p =
    subst (PutsPart s u)
    (sym (append_assoc l.sofar between second) ∙ ap (λ (x : List ℕ). x ++ second) (sym l.is) ∙ append_assoc was first second)
    (puts_then_part s t u l.sofar (between ++ second) l.puts p)

-- what is gathered was put, and nothing is to come
pub gathered_put : (s t u : DrainState) (whole now : List ℕ) → LeavesRest s t ([] ++ whole) now → Puts t u now → Puts s u whole
gathered_put s t u whole now l p = subst (Puts s u) (sym l.is) (puts_two s t u l.sofar now l.puts p)

pub gathered_stop : (s t u : DrainState) (whole now : List ℕ) → LeavesRest s t ([] ++ whole) now → PutsPart t u now → PutsPart s u whole
gathered_stop s t u whole now l p = subst (PutsPart s u) (sym l.is) (puts_then_part s t u l.sofar now l.puts p)

-- what was gathered was put, and then a piece behind it
pub then_behind : {T E : Type 0} (r : Result T E) (s t u : DrainState) (was piece now : List ℕ) → Puts s t was → now ≡ [] → OnOk r (Puts t u piece) → OnOk r (LeavesRest s u (was ++ piece) now)
then_behind (Ok x) s t u was piece now p e q = put_behind s t u was piece now p q e
then_behind (Err x) s t u was piece now p e q = tt

-- two pieces that were added, by what the second came to
pub then_adds : {T E : Type 0} (r : Result T E) (s t u : DrainState) (was first between second now : List ℕ) → LeavesRest s t (was ++ first) between → OnOk r (LeavesRest t u (between ++ second) now) → OnOk r (LeavesRest s u (was ++ (first ++ second)) now)
then_adds (Ok x) s t u was first between second now l m = adds_two s t u was first between second now l m
then_adds (Err x) s t u was first between second now l m = tt

pub then_stops : {T E : Type 0} (r : Result T E) (s t u : DrainState) (was first between second : List ℕ) → LeavesRest s t (was ++ first) between → OnErr r (PutsPart t u (between ++ second)) → OnErr r (PutsPart s u (was ++ (first ++ second)))
then_stops (Ok x) s t u was first between second l p = tt
then_stops (Err x) s t u was first between second l p = stops_second s t u was first between second l p

-- what is gathered was put at last
pub then_put : {T E : Type 0} (r : Result T E) (s t u : DrainState) (whole now : List ℕ) → LeavesRest s t ([] ++ whole) now → OnOk r (Puts t u now) → OnOk r (Puts s u whole)
then_put (Ok x) s t u whole now l p = gathered_put s t u whole now l p
then_put (Err x) s t u whole now l p = tt

pub then_stop : {T E : Type 0} (r : Result T E) (s t u : DrainState) (whole now : List ℕ) → LeavesRest s t ([] ++ whole) now → OnErr r (PutsPart t u now) → OnErr r (PutsPart s u whole)
then_stop (Ok x) s t u whole now l p = tt
then_stop (Err x) s t u whole now l p = gathered_stop s t u whole now l p

-- the lines from one place on
abbrev pub lines_from : List (List ℕ) → List PickList → ℕ → List ℕ
lines_from names picks i = trace_text (drop i names) (map moves_in (drop i picks))

lines_next : (names : List (List ℕ)) (picks : List PickList) (i : ℕ) (n : List ℕ) (p : PickList) → i < length names → i < length picks
    → lines_from names picks i ≡ pick_line (get_or names i n) (moves_in (get_or picks i p)) ++ lines_from names picks (i + 1)
lines_next [] picks i n p h k = absurd (omega arith)
lines_next (m ∷ ms) [] i n p h k = absurd (omega arith)
lines_next (m ∷ ms) (q ∷ qs) zero n p h k = refl
lines_next (m ∷ ms) (q ∷ qs) (suc i) n p h k =
    let later : suc i + 1 ≡ suc (i + 1) = omega arith in
    rw later (lines_next ms qs i n p (omega arith) (omega arith))

-- behind the last picks, or the last names, there is none
no_moves : (l : List (List ℕ)) → trace_text l [] ≡ []
no_moves [] = refl
no_moves (x ∷ xs) = refl

pub lines_over : (names : List (List ℕ)) (picks : List PickList) (i : ℕ) → length picks ≤ i → lines_from names picks i ≡ []
lines_over [] [] zero h = refl
lines_over [] [] (suc i) h = refl
lines_over [] (q ∷ qs) zero h = absurd (omega arith)
lines_over [] (q ∷ qs) (suc i) h = refl
lines_over (m ∷ ms) [] zero h = refl
lines_over (m ∷ ms) [] (suc i) h = no_moves (drop i ms)
lines_over (m ∷ ms) (q ∷ qs) zero h = absurd (omega arith)
lines_over (m ∷ ms) (q ∷ qs) (suc i) h = lines_over ms qs i (omega arith)

pub names_over : (names : List (List ℕ)) (picks : List PickList) (i : ℕ) → length names ≤ i → lines_from names picks i ≡ []
names_over [] picks zero h = refl
names_over [] picks (suc i) h = refl
names_over (m ∷ ms) picks zero h = absurd (omega arith)
names_over (m ∷ ms) [] (suc i) h = no_moves (drop i ms)
names_over (m ∷ ms) (q ∷ qs) (suc i) h = names_over ms qs i (omega arith)

module _ (names : List (List ℕ)) (picks : List PickList) (i : ℕ) (n : List ℕ) (p : PickList) (s t u : DrainState) (whole was : List ℕ) (ni : n ≡ get_or names i n) (pi : p ≡ get_or picks i p) (h : i < length names) (k : i < length picks) (l : LeavesRest s t whole (was ++ lines_from names picks i)) where
  -- the line there is the one of this name and of these moves
  here : lines_from names picks i ≡ pick_line n (moves_in p) ++ lines_from names picks (i + 1)
  here = lines_next names picks i n p h k ∙ ap (λ (x : List ℕ). pick_line x (moves_in (get_or picks i p)) ++ lines_from names picks (i + 1)) (sym ni) ∙ ap (λ (x : PickList). pick_line n (moves_in x) ++ lines_from names picks (i + 1)) (sym pi)

  there : LeavesRest s t whole (was ++ (pick_line n (moves_in p) ++ lines_from names picks (i + 1)))
  there = subst (λ (x : List ℕ). LeavesRest s t whole (was ++ x)) here l

  -- one line more was added
  pub gathers_line : (now : List ℕ) → LeavesRest t u (was ++ pick_line n (moves_in p)) now → LeavesRest s u whole (now ++ lines_from names picks (i + 1))
  gathers_line now q = gathers_next s t u whole was (pick_line n (moves_in p)) (lines_from names picks (i + 1)) now there q

  -- a write failed in one line
  pub gathers_stop_line : PutsPart t u (was ++ pick_line n (moves_in p)) → PutsPart s u whole
  gathers_stop_line q = gathers_stop s t u whole was (pick_line n (moves_in p)) (lines_from names picks (i + 1)) there q

-- the same of the parts of a list
module _ {X : Type 0} (f : X → List ℕ) (xs : List X) (i : ℕ) (d : X) (s t u : DrainState) (whole was : List ℕ) (h : i < length xs) (l : LeavesRest s t whole (was ++ flat_map f (drop i xs))) where
  next : LeavesRest s t whole (was ++ (f (get_or xs i d) ++ flat_map f (drop (i + 1) xs)))
  next = subst (λ (x : List ℕ). LeavesRest s t whole (was ++ x)) (parts_from f xs i d h) l

  pub gathers_part : (now : List ℕ) → LeavesRest t u (was ++ f (get_or xs i d)) now → LeavesRest s u whole (now ++ flat_map f (drop (i + 1) xs))
  gathers_part now q = gathers_next s t u whole was (f (get_or xs i d)) (flat_map f (drop (i + 1) xs)) now next q

  pub gathers_stop_part : PutsPart t u (was ++ f (get_or xs i d)) → PutsPart s u whole
  gathers_stop_part q = gathers_stop s t u whole was (f (get_or xs i d)) (flat_map f (drop (i + 1) xs)) next q

pub gathers_end : {X : Type 0} (f : X → List ℕ) (xs : List X) (i : ℕ) (s t : DrainState) (whole now : List ℕ) → length xs ≤ i → LeavesRest s t whole (now ++ flat_map f (drop i xs)) → LeavesRest s t whole now
gathers_end f xs i s t whole now h l = gathers_none s t whole now (flat_map f (drop i xs)) (parts_end f xs i h) l

-- behind the shorter of the two lists there is no line
pub over_either : (names : List (List ℕ)) (picks : List PickList) (i n : ℕ) → n ≡ min (length names) (length picks) → n ≤ i → lines_from names picks i ≡ []
over_either names picks i n e h = elim (leb_tells (length picks) i) [
  | inl k ↦ lines_over names picks i k.1
  | inr k ↦ (let more : i < length picks = k.1 in names_over names picks i (omega (arith, e, h, more)))
]
