-- The seats of each switch are put together.
use Rattle.std.proofs.Common.{◌≡◌, ℕ, zero, suc, ◌+◌, ◌<◌, true, List, [], ◌∷◌, length, get_or, sym, ap, ◌∙◌, subst, arith, Option, Some, None}
use Rattle.std.specs.Prelude.{slice_get}
use Rattle.std.specs.Arc.{arc_value}
use Rattle.std.specs.List.{All, Contains}
use Rattle.std.specs.declared.alloc.Global.{Global}
use Rattle.std.specs.declared.sync.Arc.{Arc}
use Rattle.std.specs.declared.vec.Vec.{Vec}
use Rattle.std.proofs.lemmas.List.{length-map}
use Rattle.std.proofs.lemmas.List.Elements.{Contains-get_or}
use Rattle.stage_switch.specs.Public.{SwitchState, SeatState, IsSeatOf}
use Rattle.stream_model.specs.declared.kind.Kind.{Kind}
use Rattle.stage_switch.specs.Settling.{SeatsAre, AllSettled}
use Rattle.materializer.specs.declared.switch_board.Board.{Board}
use Rattle.materializer.specs.Board.{switch_of, place_by, switch_place, sits, count_at, IsBoard, switch_at, switch_held, switch_behind, IsSeatAt, AreAtSwitches, numbered_from, seat_there, seat_in}
use Rattle.materializer.specs.Dealing.{seats_at, HaveLists, HaveRoom, HaveSeats, AllWhole, ListsSettled}
use Rattle.materializer.proofs.Places.{mapped_at, there_is, is_within, at_named, named_at, one_name, has_place, kind_there, place_names}
use Rattle.materializer.proofs.Sitting.{sits_there, sits_own, seats_count, seats_in, seats_only, IsSeatThere}

-- the numbers of seats are those of their nodes
numbered_below : (k : ℕ) (ss : List (Option SeatState)) (i : ℕ) (d : ℕ × SeatState) → i < length (numbered_from k ss) → (get_or (numbered_from k ss) i d).0 < k + length ss
numbered_below k [] i d less = absurd (omega (arith, less))
numbered_below k (None ∷ ss) i d less = let b = numbered_below (k + 1) ss i d less in omega (arith, b)
numbered_below k (Some s ∷ ss) zero d less = omega arith
numbered_below k (Some s ∷ ss) (suc i) d less = let b = numbered_below (k + 1) ss i d (omega (arith, less)) in omega (arith, b)

module _ (kinds : List Kind) (board : Board) (all : List (Option SeatState)) (is : IsBoard kinds board) (at : AreAtSwitches kinds board all) where
  abbrev pub places : List (Option ℕ)
  places = board.places.items

  all_rest : (i : ℕ) → slice_get places (0 + i) ≡ slice_get places i
  all_rest i = let e : 0 + i ≡ i = omega arith in ap (slice_get places) e

  many : length places ≡ length kinds
  many = ap length is.places_are ∙ length-map kinds (switch_place kinds)

  seats_many : length all ≡ length places
  seats_many = at.many ∙ sym many

  place_here : (k : ℕ) (kind : Kind) → slice_get kinds k ≡ Some kind → slice_get places k ≡ Some (switch_place kinds kind)
  place_here k kind there = ap (λ l. slice_get l k) is.places_are ∙ mapped_at (switch_place kinds) kinds k kind there

  -- a node with a place, its kind, its switch and its seat
  record Sits (j k : ℕ) (s : Option SeatState) : Type 0 where
    kind : Kind
    kind_at : slice_get kinds k ≡ Some kind
    place : switch_place kinds kind ≡ Some j
    seat : SeatState
    seat_is : s ≡ Some seat
    switch : switch_at board k ≡ Some seat.switch

  sitting : (j k : ℕ) (p : Option ℕ) (s : Option SeatState) → slice_get places k ≡ Some p → slice_get all k ≡ Some s → sits j p ≡ true → Sits j k s
  sitting j k p s here seat sit =
      let u = kind_there kinds k p (ap (λ l. slice_get l k) (sym is.places_are) ∙ here) in
      let e : switch_place kinds u.0 ≡ Some j = sym u.1.1 ∙ sits_there j p sit in
      let n = place_names kinds (switch_of u.0) j e in
      let t : IsSeatAt (Some n.name) (switch_at board k) s = subst (λ o. IsSeatAt o (switch_at board k) s) n.names (at.each k u.0 s u.1.0 seat) in
      record { kind = u.0; kind_at = u.1.0; place = e; seat = t.0; seat_is = t.1.0; switch = t.1.1 }

  count_is : (j : ℕ) → length (seats_at j places (numbered_from 0 all)) ≡ count_at j places
  count_is j = seats_count j places 0 places all all_rest seats_many (λ i p s here seat sit. let t = sitting j i p s here seat sit in (t.seat, t.seat_is))

  module _ (entries : List (ℕ × SeatState)) (same : entries ≡ numbered_from 0 all) where
    pub nodes_below : All (λ x. x.0 < length places) entries
    nodes_below = subst (λ (l : List (ℕ × SeatState)). All (λ x. x.0 < length places) l) (sym same) (λ i d less. let b = numbered_below 0 all i d less in omega (arith, b, seats_many))

    pub have_lists : HaveLists places board.seats.items
    have_lists = λ k j here. let s = is.some k j here in let less = is_within board.switches.items j (Some s.0) s.1 in omega (arith, less, is.switches_many, is.seats_many)

    pub have_room : HaveRoom places entries board.seats.items
    have_room = λ j list here. let r = is.room j list here in let c = ap (λ (l : List (ℕ × SeatState)). length (seats_at j places l)) same ∙ count_is j in omega (arith, r, c)

    module _ (lists : List (Vec SeatState Global)) (lists_many : length lists ≡ length board.seats.items) (have : HaveSeats places entries lists) where
      items_are : (j : ℕ) (list : Vec SeatState Global) → slice_get lists j ≡ Some list → list.items ≡ seats_at j places (numbered_from 0 all)
      items_are j list here = have j list here ∙ ap (seats_at j places) same

      only : (j : ℕ) (s : SeatState) → Contains (seats_at j places (numbered_from 0 all)) s → IsSeatThere j places places all s
      only j s c = seats_only j places 0 places all all_rest seats_many s c

      seat_of : (j : ℕ) (s : Arc SwitchState Global) → slice_get board.switches.items j ≡ Some (Some s) → (t : SeatState) → Contains (seats_at j places (numbered_from 0 all)) t → IsSeatOf (arc_value s) t
      seat_of j s here t c =
          let o = only j t c in
          let x = sitting j o.node o.place (Some t) o.at o.is o.sit in
          let place : slice_get places o.node ≡ Some (Some j) = o.at ∙ ap (λ p. Some p) (sits_there j o.place o.sit) in
          let switch : switch_at board o.node ≡ Some (arc_value s) = ap (switch_behind board) place ∙ ap switch_held here in
          let e : Some x.seat.switch ≡ Some (arc_value s) = sym x.switch ∙ switch in
          let f : t ≡ x.seat = (let g : Some t ≡ Some x.seat = x.seat_is in cc) in
          ap (λ (y : SeatState). y.switch) f ∙ (let g : x.seat.switch ≡ arc_value s = cc in g)

      pub all_whole : AllWhole board.switches.items lists
      all_whole = λ j s list here there.
          let size = is.switches j s here in
          let items = items_are j list there in
          record {
            all = list.ok.0 ∙ ap length items ∙ count_is j ∙ sym size.0;
            some = omega (arith, size.0, size.1);
            seats = subst (λ (l : List SeatState). All (IsSeatOf (arc_value s)) l) (sym items) (λ i d less. seat_of j s here _ (Contains-get_or (seats_at j places (numbered_from 0 all)) i d less));
          }

      pub all_settled : ListsSettled board.switches.items lists → AllSettled kinds (seat_in all)
      all_settled settled node kind name here named =
          let names = at_named name kind named in
          let p = has_place kinds node kind name here names in
          let j = p.0 in
          let place : slice_get places node ≡ Some (Some j) = place_here node kind here ∙ ap (λ x. Some x) p.1 in
          let s = is.some node j place in
          let less = is_within board.switches.items j (Some s.0) s.1 in
          let list = there_is lists j (omega (arith, less, is.switches_many, is.seats_many, lists_many)) in
          let items = items_are j list.0 list.1 in
          let settle = settled j s.0 list.0 s.1 list.1 in
          (list.0.items, (settle.0, (subst (λ (l : List SeatState). SeatsAre kinds name (seat_in all) l) (sym items) (seats_are node kind name j here names p.1), settle.1)))
        where
          seats_are : (node : ℕ) (kind : Kind) (name : List ℕ) (j : ℕ) → slice_get kinds node ≡ Some kind → switch_of kind ≡ Some name → switch_place kinds kind ≡ Some j → SeatsAre kinds name (seat_in all) (seats_at j places (numbered_from 0 all))
          seats_are node kind name j here names p = record {
            all = λ k other there at_it.
                let their = at_named name other at_it in
                let place : switch_place kinds other ≡ Some j = ap (place_by kinds) (their ∙ sym names) ∙ p in
                let here : slice_get places k ≡ Some (Some j) = place_here k other there ∙ ap (λ x. Some x) place in
                let less = is_within kinds k other there in
                let seat = there_is all k (omega (arith, less, at.many)) in
                let x = sitting j k (Some j) seat.0 here seat.1 (sits_own j) in
                let is_there : slice_get all k ≡ Some (Some x.seat) = seat.1 ∙ ap (λ y. Some y) x.seat_is in
                (x.seat, (ap seat_there is_there, seats_in j places 0 places all all_rest k (Some j) x.seat here (sits_own j) is_there));
            only = λ t c.
                let o = only j t c in
                let x = sitting j o.node o.place (Some t) o.at o.is o.sit in
                let one = one_name kinds (switch_of x.kind) (switch_of kind) j x.place p in
                (o.node, (x.kind, (x.kind_at, (named_at name x.kind (one ∙ names), ap seat_there o.is))));
          }
