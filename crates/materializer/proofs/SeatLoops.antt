-- The places of an island, one after another.
use Rattle.std.proofs.Common.{◌≡◌, ℕ, ◌+◌, ◌≤◌, Bool, true, List, [], ◌∷◌, ◌++◌, length, Option, Some, None, refl, sym, ap, ◌∙◌, subst, arith, append_assoc, append-nil, length-append}
use Rattle.std.specs.List.{list_all}
use Rattle.std.proofs.lemmas.Bool.{and_parts}
use Rattle.interpreter.specs.declared.parts.Seated.{Seated}
use Rattle.stream_model.specs.declared.blueprint.Node.{Node}
use Rattle.materializer.specs.Graphs.{Around}
use Rattle.materializer.specs.Files.{source_file, output_of}
use Rattle.materializer.specs.Seats.{handles_left, IsWork, AreSeats}
use Rattle.materializer.specs.Planned.{IsSeat, ArePlanned, Fills, reads, writes, reads_in, writes_in}
use Rattle.materializer.specs.declared.seats.Seat.{Seat}

-- a node of those that are left has been built, and so have those behind it
pub all_next : (test : Node → Bool) (n : Node) (old rest : List Node) → old ≡ n ∷ rest → list_all test old ≡ true → (test n ≡ true) × (list_all test rest ≡ true)
all_next test n old rest e h = and_parts (test n) (list_all test rest) (sym (ap (list_all test) e) ∙ h)

-- a node without a file takes no handle
pub none_left_out : {X : Type 0} (o : Option (List ℕ)) (xs : List X) → o ≡ None → xs ≡ handles_left o xs
none_left_out None xs e = refl
none_left_out (Some file) xs e = cc

-- ---- seats, whose handles are not there yet

module _ {S D L H B : Type 0} (all : List Node) where
  pub planned_start : (around : Around) (ns : List Node) (seats xs : List (Seat S D L H B)) → ns ≡ all → seats ≡ [] → ArePlanned around (length seats) ns xs → ArePlanned around 0 all (seats ++ xs)
  planned_start around ns seats xs e none h =
      let at_none : ArePlanned around 0 ns xs = subst (λ (p : List (Seat S D L H B)). ArePlanned around (length p) ns xs) none h in
      subst (λ (p : List (Seat S D L H B)). ArePlanned around 0 all (p ++ xs)) (sym none) (subst (λ n. ArePlanned around 0 n xs) e at_none)

  -- one seat more
  pub planned_next : (around : Around) (n : Node) (old rest : List Node) (k : ℕ) (s : Seat S D L H B) (was now : List (Seat S D L H B)) → old ≡ n ∷ rest → k ≡ length was → IsSeat around k n s → now ≡ was ++ s ∷ []
      → ((xs : List (Seat S D L H B)) → ArePlanned around (length was) old xs → ArePlanned around 0 all (was ++ xs)) → (xs : List (Seat S D L H B)) → ArePlanned around (length now) rest xs → ArePlanned around 0 all (now ++ xs)
  planned_next around n old rest k s was now e at is more so xs h =
      let size : length now ≡ length was + 1 = ap length more ∙ length-append was (s ∷ []) in
      let later : ArePlanned around (length was + 1) rest xs = subst (λ i. ArePlanned around i rest xs) size h in
      let here : IsSeat around (length was) n s = subst (λ i. IsSeat around i n s) at is in
      let whole : ArePlanned around (length was) old (s ∷ xs) = subst (λ r. ArePlanned around (length was) r (s ∷ xs)) (sym e) (here, later) in
      subst (λ l. ArePlanned around 0 all l) (sym (ap (λ l. l ++ xs) more ∙ append_assoc was (s ∷ []) xs)) (so (s ∷ xs) whole)

  -- all of them
  pub planned_end : (around : Around) (rest : List Node) (seats : List (Seat S D L H B)) → rest ≡ [] → ((xs : List (Seat S D L H B)) → ArePlanned around (length seats) rest xs → ArePlanned around 0 all (seats ++ xs)) → ArePlanned around 0 all seats
  planned_end around rest seats e so =
      subst (λ l. ArePlanned around 0 all l) (append-nil seats) (so [] (subst (λ r. ArePlanned {S = S} {D = D} {L = L} {H = H} {B = B} around (length seats) r []) (sym e) tt))

-- where no seat is left there is no node left
none_planned : {S D L H B : Type 0} (around : Around) (k : ℕ) (rest : List Node) (none : List (Seat S D L H B)) → none ≡ [] → ArePlanned around k rest none → rest ≡ []
none_planned around k [] none e h = refl
none_planned around k (n ∷ ns) none e h = absurd (subst (λ l. ArePlanned around k (n ∷ ns) l) e h)

module _ {S D L H B : Type 0} (all : List Node) (sources : List S) (drains : List D) where
  -- one place more
  pub seats_next : (around : Around) (n : Node) (old rest : List Node) (ss later_ss : List S) (ds later_ds : List D) (k : ℕ) (p : Seated S D L H B) (was now : List (Seated S D L H B))
      → old ≡ n ∷ rest → k ≡ length was → p.node ≡ k → IsWork around k n ss ds p.work → later_ss ≡ handles_left (source_file n.kind) ss → later_ds ≡ handles_left (output_of n.kind) ds → now ≡ was ++ p ∷ []
      → ((xs : List (Seated S D L H B)) → AreSeats around (length was) old ss ds xs → AreSeats around 0 all sources drains (was ++ xs))
      → (xs : List (Seated S D L H B)) → AreSeats around (length now) rest later_ss later_ds xs → AreSeats around 0 all sources drains (now ++ xs)
  seats_next around n old rest ss later_ss ds later_ds k p was now e at node is s d more so xs h =
      let size : length now ≡ length was + 1 = ap length more ∙ length-append was (p ∷ []) in
      let a : AreSeats around (length was + 1) rest later_ss later_ds xs = subst (λ i. AreSeats around i rest later_ss later_ds xs) size h in
      let b : AreSeats around (length was + 1) rest (handles_left (source_file n.kind) ss) later_ds xs = subst (λ x. AreSeats around (length was + 1) rest x later_ds xs) s a in
      let c : AreSeats around (length was + 1) rest (handles_left (source_file n.kind) ss) (handles_left (output_of n.kind) ds) xs = subst (λ x. AreSeats around (length was + 1) rest (handles_left (source_file n.kind) ss) x xs) d b in
      let work : IsWork around (length was) n ss ds p.work = subst (λ i. IsWork around i n ss ds p.work) at is in
      let whole : AreSeats around (length was) old ss ds (p ∷ xs) = subst (λ r. AreSeats around (length was) r ss ds (p ∷ xs)) (sym e) (node ∙ at, (work, c)) in
      subst (λ l. AreSeats around 0 all sources drains l) (sym (ap (λ l. l ++ xs) more ∙ append_assoc was (p ∷ []) xs)) (so (p ∷ xs) whole)

  -- all of them
  pub seats_end : (around : Around) (rest : List Node) (ss : List S) (ds : List D) (places : List (Seated S D L H B)) → rest ≡ [] → ((xs : List (Seated S D L H B)) → AreSeats around (length places) rest ss ds xs → AreSeats around 0 all sources drains (places ++ xs)) → AreSeats around 0 all sources drains places
  seats_end around rest ss ds places e so =
      subst (λ l. AreSeats around 0 all sources drains l) (append-nil places) (so [] (subst (λ r. AreSeats {S = S} {D = D} {L = L} {H = H} {B = B} around (length places) r ss ds []) (sym e) tt))

  -- the seats that are left are those of the nodes that are left, and behind the places that there are they complete all
  pub record FillsRest (around : Around) (seats : List (Seat S D L H B)) (ss : List S) (ds : List D) (places : List (Seated S D L H B)) : Type 0 where
    pub rest : List Node
    pub planned : ArePlanned around (length places) rest seats
    pub so : (xs : List (Seated S D L H B)) → AreSeats around (length places) rest ss ds xs → AreSeats around 0 all sources drains (places ++ xs)

  pub fills_first : (around : Around) (seats : List (Seat S D L H B)) (ss : List S) (ds : List D) (places : List (Seated S D L H B)) → ss ≡ sources → ds ≡ drains → places ≡ [] → ArePlanned around 0 all seats → FillsRest around seats ss ds places
  fills_first around seats ss ds places s d none h =
      rw (s, d, none) (record { rest = all; planned = h; so = λ xs a. a })

  fills_with : (around : Around) (rest : List Node) (s : Seat S D L H B) (later : List (Seat S D L H B)) (ss later_ss : List S) (ds later_ds : List D) (p : Seated S D L H B) (was now : List (Seated S D L H B)) → ArePlanned around (length was) rest (s ∷ later) → Fills around s ss ds p later_ss later_ds → now ≡ was ++ p ∷ []
      → ((xs : List (Seated S D L H B)) → AreSeats around (length was) rest ss ds xs → AreSeats around 0 all sources drains (was ++ xs)) → FillsRest around later later_ss later_ds now
  fills_with around [] s later ss later_ss ds later_ds p was now h fills more so = absurd h
  fills_with around (n ∷ ns) s later ss later_ss ds later_ds p was now h fills more so =
      let f = fills (length was) n h.0 in
      let size : length was + 1 ≡ length now = sym (ap length more ∙ length-append was (p ∷ [])) in
      record {
        rest = ns;
        planned = subst (λ i. ArePlanned around i ns later) size h.1;
        so = seats_next around n (n ∷ ns) ns ss later_ss ds later_ds (length was) p was now refl refl f.node f.work f.sources_left f.drains_left more so;
      }

  pub fills_next : (around : Around) (old later : List (Seat S D L H B)) (s : Seat S D L H B) (ss later_ss : List S) (ds later_ds : List D) (p : Seated S D L H B) (was now : List (Seated S D L H B)) → FillsRest around old ss ds was → old ≡ s ∷ later → Fills around s ss ds p later_ss later_ds → now ≡ was ++ p ∷ [] → FillsRest around later later_ss later_ds now
  fills_next around old later s ss later_ss ds later_ds p was now f e fills more =
      fills_with around f.rest s later ss later_ss ds later_ds p was now (subst (λ l. ArePlanned around (length was) f.rest l) e f.planned) fills more f.so

  pub fills_last : (around : Around) (seats : List (Seat S D L H B)) (ss : List S) (ds : List D) (places : List (Seated S D L H B)) → FillsRest around seats ss ds places → seats ≡ [] → AreSeats around 0 all sources drains places
  fills_last around seats ss ds places f e = seats_end around f.rest ss ds places (none_planned around (length places) f.rest seats e f.planned) f.so

-- how many handles are wanted
pub reads_next : {S D L H B : Type 0} (old later : List (Seat S D L H B)) (s : Seat S D L H B) (a b : ℕ) → old ≡ s ∷ later → a ≡ reads_in old → a ≡ b + reads s.planned → b ≡ reads_in later
reads_next old later s a b e h k = let size : reads_in old ≡ reads s.planned + reads_in later = ap reads_in e in omega (arith, size, h, k)

pub reads_enough : {S D L H B : Type 0} (old later : List (Seat S D L H B)) (s : Seat S D L H B) (a : ℕ) → old ≡ s ∷ later → a ≡ reads_in old → reads s.planned ≤ a
reads_enough old later s a e h = let size : reads_in old ≡ reads s.planned + reads_in later = ap reads_in e in omega (arith, size, h)

pub writes_next : {S D L H B : Type 0} (old later : List (Seat S D L H B)) (s : Seat S D L H B) (a b : ℕ) → old ≡ s ∷ later → a ≡ writes_in old → a ≡ b + writes s.planned → b ≡ writes_in later
writes_next old later s a b e h k = let size : writes_in old ≡ writes s.planned + writes_in later = ap writes_in e in omega (arith, size, h, k)

pub writes_enough : {S D L H B : Type 0} (old later : List (Seat S D L H B)) (s : Seat S D L H B) (a : ℕ) → old ≡ s ∷ later → a ≡ writes_in old → writes s.planned ≤ a
writes_enough old later s a e h = let size : writes_in old ≡ writes s.planned + writes_in later = ap writes_in e in omega (arith, size, h)
