-- What the nodes of an island leave, gathered one after another.
use Rattle.std.proofs.Common.{◌≡◌, ℕ, ◌+◌, ◌<◌, List, [], ◌∷◌, ◌++◌, length, map, drop, get_or, Option, None, refl, sym, ap, ◌∙◌, arith, append-nil}
use Rattle.std.proofs.lemmas.List.{get_or_default}
use Rattle.stage_switch.specs.Public.{SeatState}
use Rattle.nodes.specs.declared.node.IslandNode.{IslandNode}
use Rattle.interpreter.specs.declared.island.IslandEnd.{IslandEnd}
use Rattle.interpreter.specs.Island.{sinks_of, readers_of, writers_of}
use Rattle.interpreter.specs.Picks.{Pick, pick_of, picks_of}
use Rattle.interpreter.specs.Misfits.{least, found_at, least_of}
use Rattle.nodes.specs.Nodes.{node_misfit}
use Rattle.interpreter.specs.Seats.{seats_of}
use Rattle.interpreter.specs.Room.{RoomFor}
use Rattle.interpreter.proofs.Tables.{len_next, none_left}
use Rattle.interpreter.proofs.Islands.{left_next, sinks_cut, readers_cut, writers_cut}
use Rattle.interpreter.proofs.Picking.{picks_next}
use Rattle.interpreter.proofs.Leasts.{least_next, least_last}
use Rattle.interpreter.proofs.Seating.{seats_next, seats_none}

picks_none : (S D L H B : Type 0) (places : List ℕ) → picks_of {S = S} {D = D} {L = L} {H = H} {B = B} places [] ≡ []
picks_none S D L H B [] = refl
picks_none S D L H B (k ∷ ks) = refl

-- what the nodes that came leave is in the lists, and there is room for the rest
pub record Gathers {S D L H B : Type 0} (nodes : List (IslandNode S D L H B)) (places : List ℕ) (start : IslandEnd S D) (rest : List (IslandNode S D L H B)) (left place : ℕ) (end : IslandEnd S D) : Type 0 where
  pub left_is : left ≡ length rest
  pub sinks : end.sinks.items ++ sinks_of rest ≡ sinks_of nodes
  pub readers : end.readers.items ++ readers_of rest ≡ readers_of nodes
  pub writers : end.writers.items ++ writers_of rest ≡ writers_of nodes
  pub wires : end.wires ≡ start.wires
  pub picks : map pick_of end.picks.items ++ picks_of (drop place places) rest ≡ picks_of places nodes
  pub seats : end.seats.items ++ seats_of (drop place places) rest ≡ seats_of places nodes
  pub misfit : least end.misfit (least_of (drop place places) rest) ≡ least_of places nodes
  pub at : place + left ≡ length places
  pub room : RoomFor end left

-- what one node adds to the lists
pub record Added {S D L H B : Type 0} (was now : IslandEnd S D) (number : ℕ) (x : IslandNode S D L H B) : Type 0 where
  pub sinks : now.sinks.items ≡ was.sinks.items ++ sinks_of (x ∷ [])
  pub picks : map pick_of now.picks.items ≡ map pick_of was.picks.items ++ picks_of (number ∷ []) (x ∷ [])
  pub seats : now.seats.items ≡ was.seats.items ++ seats_of (number ∷ []) (x ∷ [])
  pub misfit : now.misfit ≡ least was.misfit (found_at number (node_misfit x))
  pub readers : now.readers.items ≡ was.readers.items ++ readers_of (x ∷ [])
  pub writers : now.writers.items ≡ was.writers.items ++ writers_of (x ∷ [])
  pub wires : now.wires ≡ was.wires
  pub room : (n : ℕ) → RoomFor was (n + 1) → RoomFor now n

module _ {S D L H B : Type 0} (nodes : List (IslandNode S D L H B)) (places : List ℕ) (start : IslandEnd S D) where
  pub gathers_first : (rest : List (IslandNode S D L H B)) (left m : ℕ) → rest ≡ nodes → left ≡ length rest → m ≡ length nodes → length places ≡ m → start.sinks.items ≡ [] → start.picks.items ≡ [] → start.seats.items ≡ [] → start.readers.items ≡ [] → start.writers.items ≡ [] → start.misfit ≡ None → RoomFor start m → Gathers nodes places start rest left 0 start
  gathers_first rest left m e l k count sinks picks seats readers writers misfit room =
      let same : left ≡ m = l ∙ ap length e ∙ sym k in
      record {
        left_is = l;
        sinks = rw (sinks, e) refl;
        readers = rw (readers, e) refl;
        writers = rw (writers, e) refl;
        wires = refl;
        picks = rw (picks, e) refl;
        seats = rw (seats, e) refl;
        misfit = ap (λ (o : Option _). least o (least_of (drop 0 places) rest)) misfit ∙ ap (least_of places) e;
        at = omega (arith, same, count);
        room = rw same room;
      }

  pub gathers_next : (rest later : List (IslandNode S D L H B)) (left fewer place more number : ℕ) (x : IslandNode S D L H B) (was now : IslandEnd S D) → Gathers nodes places start rest left place was → rest ≡ x ∷ later → fewer + 1 ≡ left → more ≡ place + 1 → number ≡ get_or places place 0 → Added was now number x
      → Gathers nodes places start later fewer more now
  gathers_next rest later left fewer place more number x was now g e l p n a =
      let within : place < length places = omega (arith, g.at, l) in
      record {
        left_is = len_next rest later x left fewer e l g.left_is;
        sinks = left_next sinks_of sinks_cut rest later x _ _ _ e a.sinks g.sinks;
        readers = left_next readers_of readers_cut rest later x _ _ _ e a.readers g.readers;
        writers = left_next writers_of writers_cut rest later x _ _ _ e a.writers g.writers;
        wires = a.wires ∙ g.wires;
        picks = rw p (picks_next places place number rest later x _ _ _ within (n ∙ get_or_default places place 0 number within) e a.picks g.picks);
        misfit = rw p (least_next places place number rest later x _ _ _ within (n ∙ get_or_default places place 0 number within) e a.misfit g.misfit);
        seats = rw p (seats_next places place number rest later x _ _ _ within (n ∙ get_or_default places place 0 number within) e a.seats g.seats);
        at = omega (arith, g.at, l, p);
        room = a.room fewer (rw l g.room);
      }

  -- all of them
  pub gathers_last : (rest : List (IslandNode S D L H B)) (left place : ℕ) (end : IslandEnd S D) → Gathers nodes places start rest left place end → left ≡ 0
      → (end.sinks.items ≡ sinks_of nodes) × ((map pick_of end.picks.items ≡ picks_of places nodes) × ((end.seats.items ≡ seats_of places nodes) × ((end.readers.items ≡ readers_of nodes) × ((end.writers.items ≡ writers_of nodes) × ((end.wires ≡ start.wires) × (end.misfit ≡ least_of places nodes))))))
  gathers_last rest left place end g l =
      let none : rest ≡ [] = none_left rest left l g.left_is in
      let sinks : end.sinks.items ++ sinks_of {S = S} {D = D} {L = L} {H = H} {B = B} [] ≡ sinks_of nodes = rw none at g.sinks in
      let readers : end.readers.items ++ readers_of {S = S} {D = D} {L = L} {H = H} {B = B} [] ≡ readers_of nodes = rw none at g.readers in
      let writers : end.writers.items ++ writers_of {S = S} {D = D} {L = L} {H = H} {B = B} [] ≡ writers_of nodes = rw none at g.writers in
      let picks : map pick_of end.picks.items ++ picks_of {S = S} {D = D} {L = L} {H = H} {B = B} (drop place places) [] ≡ picks_of places nodes = rw none at g.picks in
      let seats : end.seats.items ++ seats_of {S = S} {D = D} {L = L} {H = H} {B = B} (drop place places) [] ≡ seats_of places nodes = rw none at g.seats in (
        sym (append-nil _) ∙ sinks,
        (
          sym (append-nil _) ∙ ap (λ (l : List Pick). map pick_of end.picks.items ++ l) (sym (picks_none S D L H B (drop place places))) ∙ picks,
          (
            sym (append-nil _) ∙ ap (λ (l : List (ℕ × SeatState)). end.seats.items ++ l) (sym (seats_none S D L H B (drop place places))) ∙ seats,
            (sym (append-nil _) ∙ readers, (sym (append-nil _) ∙ writers, (g.wires, least_last end.misfit (drop place places) rest (least_of places nodes) none g.misfit))),
          ),
        ),
      )
