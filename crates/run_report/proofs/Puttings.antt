-- Pieces put one after another, and what is still to come of the whole.
use Rattle.std.specs.List.{flat_map}
use Rattle.std.proofs.Common.{subst, get_or, add-one, drop-cons, ◌≡◌, ℕ, ◌+◌, ◌<◌, ◌≤◌, arith, OnErr, List, [], ◌++◌, length, drop, refl, sym, ap, ◌∙◌, append_assoc, length-append}
use Rattle.std.specs.Prelude.{Result, Ok, Err}
use Rattle.std.specs.Option.{option_map}
use Rattle.std.proofs.lemmas.List.{append-nil, drop_all}
use Rattle.stream_io.specs.State.{DrainState}
use Rattle.stream_model.specs.declared.outcome.WireCount.{WireCount}
use Rattle.run_report.specs.Report.{wire_line, wire_lines}
use Rattle.stream_io.specs.Putting.{Puts, PutsPart}
use Rattle.run_report.specs.Writing.{LeavesRest}
use Rattle.stream_io.proofs.Puttings.{puts_nothing, puts_two, puts_then_part}

-- at the start all is to come
pub leaves_all : (s : DrainState) (whole : List ℕ) → LeavesRest s s whole whole
leaves_all s whole = record { sofar = []; puts = puts_nothing s; is = refl }

-- the next piece was put
pub leaves_less : (s t u : DrainState) (whole piece rest : List ℕ) → LeavesRest s t whole (piece ++ rest) → Puts t u piece → LeavesRest s u whole rest
leaves_less s t u whole piece rest l p = record {
  sofar = l.sofar ++ piece;
  puts = puts_two s t u l.sofar piece l.puts p;
  is = l.is ∙ sym (append_assoc l.sofar piece rest);
}

-- a write failed in the next piece
pub leaves_stop : (s t u : DrainState) (whole piece rest : List ℕ) → LeavesRest s t whole (piece ++ rest) → PutsPart t u piece → PutsPart s u whole
leaves_stop s t u whole piece rest l p =
    let q = puts_then_part s t u l.sofar piece l.puts p in
    record {
      part = q.part;
      is_part = record {
        rest = q.is_part.rest ++ rest;
        is = l.is ∙ sym (append_assoc l.sofar piece rest) ∙ ap (λ x. x ++ rest) q.is_part.is ∙ append_assoc q.part q.is_part.rest rest;
      };
      not_all = let less : length q.part < length (l.sofar ++ piece) = q.not_all in omega (arith, less, ap length l.is, length-append l.sofar (piece ++ rest), length-append piece rest, length-append l.sofar piece);
      holds = q.holds;
      faults = q.faults;
      stays = q.stays;
      name = q.name;
    }

-- nothing is to come
pub leaves_none : (s t : DrainState) (whole : List ℕ) → LeavesRest s t whole [] → Puts s t whole
leaves_none s t whole l = record {
  holds = l.puts.holds ∙ ap (λ x. option_map (λ held. held ++ x) s.holds) (sym (l.is ∙ append-nil l.sofar));
  faults = l.puts.faults;
  name = l.puts.name;
}

-- the parts from one place on are the part there and the later ones
pub parts_from : {X : Type 0} (f : X → List ℕ) (xs : List X) (i : ℕ) (d : X) → i < length xs → flat_map f (drop i xs) ≡ f (get_or xs i d) ++ flat_map f (drop (i + 1) xs)
parts_from f xs i d h = rw add-one (ap (flat_map f) (drop-cons xs i d h))

-- behind the last part there is none
pub parts_end : {X : Type 0} (f : X → List ℕ) (xs : List X) (i : ℕ) → length xs ≤ i → flat_map f (drop i xs) ≡ []
parts_end f xs i h = ap (flat_map f) (drop_all i xs h)

-- one part more was put
pub leaves_next : {X : Type 0} (f : X → List ℕ) (xs : List X) (i : ℕ) (d : X) (s t u : DrainState) (whole : List ℕ) → i < length xs → LeavesRest s t whole (flat_map f (drop i xs)) → Puts t u (f (get_or xs i d)) → LeavesRest s u whole (flat_map f (drop (i + 1) xs))
leaves_next f xs i d s t u whole h l p =
    leaves_less s t u whole (f (get_or xs i d)) (flat_map f (drop (i + 1) xs)) (subst (LeavesRest s t whole) (parts_from f xs i d h) l) p

-- a write failed in one part
pub leaves_stop_at : {X : Type 0} (f : X → List ℕ) (xs : List X) (i : ℕ) (d : X) (s t u : DrainState) (whole : List ℕ) → i < length xs → LeavesRest s t whole (flat_map f (drop i xs)) → PutsPart t u (f (get_or xs i d)) → PutsPart s u whole
leaves_stop_at f xs i d s t u whole h l p =
    leaves_stop s t u whole (f (get_or xs i d)) (flat_map f (drop (i + 1) xs)) (subst (LeavesRest s t whole) (parts_from f xs i d h) l) p

-- no part is left
pub leaves_end : {X : Type 0} (f : X → List ℕ) (xs : List X) (i : ℕ) (s t : DrainState) (whole : List ℕ) → length xs ≤ i → LeavesRest s t whole (flat_map f (drop i xs)) → Puts s t whole
leaves_end f xs i s t whole h l = leaves_none s t whole (subst (LeavesRest s t whole) (parts_end f xs i h) l)

-- the same of the part x that stands there
pub leaves_item : {X : Type 0} (f : X → List ℕ) (xs : List X) (i : ℕ) (x : X) (s t u : DrainState) (whole : List ℕ) → x ≡ get_or xs i x → i < length xs → LeavesRest s t whole (flat_map f (drop i xs)) → Puts t u (f x) → LeavesRest s u whole (flat_map f (drop (i + 1) xs))
leaves_item f xs i x s t u whole e h l p = leaves_next f xs i x s t u whole h l (subst (λ y. Puts t u (f y)) e p)

pub leaves_stop_item : {X : Type 0} (f : X → List ℕ) (xs : List X) (i : ℕ) (x : X) (s t u : DrainState) (whole : List ℕ) → x ≡ get_or xs i x → i < length xs → LeavesRest s t whole (flat_map f (drop i xs)) → PutsPart t u (f x) → PutsPart s u whole
leaves_stop_item f xs i x s t u whole e h l p = leaves_stop_at f xs i x s t u whole h l (subst (λ y. PutsPart t u (f y)) e p)

-- the lines of the wires from number i on
pub wires_from : (ws : List WireCount) (i : ℕ) (d : WireCount) → i < length ws → wire_lines i (drop i ws) ≡ wire_line i (get_or ws i d) ++ wire_lines (i + 1) (drop (i + 1) ws)
wires_from ws i d h = ap (wire_lines i) (drop-cons ws i d h) ∙ ap (λ n. wire_line i (get_or ws i d) ++ wire_lines (i + 1) (drop n ws)) (sym (add-one i))

-- one wire more was put
pub leaves_wire : (ws : List WireCount) (i : ℕ) (d : WireCount) (s t u : DrainState) (whole : List ℕ) → i < length ws → LeavesRest s t whole (wire_lines i (drop i ws)) → Puts t u (wire_line i (get_or ws i d)) → LeavesRest s u whole (wire_lines (i + 1) (drop (i + 1) ws))
leaves_wire ws i d s t u whole h l p =
    leaves_less s t u whole (wire_line i (get_or ws i d)) (wire_lines (i + 1) (drop (i + 1) ws)) (subst (LeavesRest s t whole) (wires_from ws i d h) l) p

-- a write failed in one wire
pub leaves_stop_wire : (ws : List WireCount) (i : ℕ) (d : WireCount) (s t u : DrainState) (whole : List ℕ) → i < length ws → LeavesRest s t whole (wire_lines i (drop i ws)) → PutsPart t u (wire_line i (get_or ws i d)) → PutsPart s u whole
leaves_stop_wire ws i d s t u whole h l p =
    leaves_stop s t u whole (wire_line i (get_or ws i d)) (wire_lines (i + 1) (drop (i + 1) ws)) (subst (LeavesRest s t whole) (wires_from ws i d h) l) p

-- no wire is left
pub leaves_wires : (ws : List WireCount) (i : ℕ) (s t : DrainState) (whole : List ℕ) → length ws ≤ i → LeavesRest s t whole (wire_lines i (drop i ws)) → Puts s t whole
leaves_wires ws i s t whole h l = leaves_none s t whole (subst (LeavesRest s t whole) (ap (wire_lines i) (drop_all i ws h)) l)

-- a part of the first of two pieces is a part of both
pub part_before : (s t : DrainState) (a b : List ℕ) → PutsPart s t a → PutsPart s t (a ++ b)
part_before s t a b p = leaves_stop s s t (a ++ b) a b (leaves_all s (a ++ b)) p

-- a piece that was put, and then a write that failed
pub then_part : {T E : Type 0} (r : Result T E) (s t u : DrainState) (a b : List ℕ) → Puts s t a → OnErr r (PutsPart t u b) → OnErr r (PutsPart s u (a ++ b))
then_part (Ok x) s t u a b p q = tt
then_part (Err e) s t u a b p q = puts_then_part s t u a b p q
