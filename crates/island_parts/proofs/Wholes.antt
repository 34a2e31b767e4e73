-- The places, the homes and the links of all islands: the parts of each island are its shares.
use Rattle.std.proofs.Common.{◌≡◌, ℕ, ◌+◌, ◌<◌, ◌^◌, true, false, List, [], ◌∷◌, ◌++◌, length, map, take, Option, Some, None, refl, ap, sym, ◌∙◌, subst, ⊎_elim, length-append, arith}
use Rattle.std.specs.Prelude.{slice_get, slice_index}
use Rattle.std.specs.Option.{option_map}
use Rattle.std.proofs.lemmas.List.{length-map}
use Rattle.std.proofs.lemmas.Option.{slice_get_within, slice_get-map, get_or_from_slice_get}
use Rattle.stream_model.specs.Graph.{Edge}
use Rattle.fused_net.specs.declared.net.WireEnds.{WireEnds}
use Rattle.fused_net.specs.Net.{end_at}
use Rattle.interpreter.specs.declared.parts.Link.{Link}
use Rattle.interpreter.specs.declared.parts.Seated.{Seated}
use Rattle.interpreter.specs.Parts.{ends_of, seat_place, inputs_at, outputs_at, AllUnused, IsWiring, AreParts}
use Rattle.interpreter.specs.Ways.{IsOnce, is_lane_in, is_lane_out, lane_comes, lane_goes, comes_in, goes_out}
use Rattle.blue_check.specs.declared.plan.LanePlan.{LanePlan}
use Rattle.blue_check.specs.Plan.{lanes_from}
use Rattle.scatter.specs.Shares.{of_home}
use Rattle.island_parts.specs.Whole.{lanes_in, whole_links, in_seat, out_seat, whole_seats, in_place, out_place, whole_places, whole_homes}
use Rattle.island_parts.proofs.Cutting.{IsLane, lanes_count, lane_plan, lane_get}
use Rattle.island_parts.proofs.Wiring.{there, get_left, get_right, into, same_wire, plain_ends, AtOutput, AtEntry, AtInput, AtExit, out_side, in_side, cut}
use Rattle.island_parts.proofs.Restricting.{mine, inputs_by, outputs_by, island_parts}

module _ {X : Type 0} {Y : Type 0} (first : List Y) (f g : X → Y) (xs : List X) where
  -- what stands behind the first of three lists
  abbrev pub three : List Y
  three = first ++ (map f xs ++ map g xs)

  pub three_count : length three ≡ length first + length xs + length xs
  three_count =
      let a : length three ≡ length first + length (map f xs ++ map g xs) = length-append first (map f xs ++ map g xs) in
      let b : length (map f xs ++ map g xs) ≡ length (map f xs) + length (map g xs) = length-append (map f xs) (map g xs) in
      let c : length (map f xs) ≡ length xs = length-map xs f in
      let d : length (map g xs) ≡ length xs = length-map xs g in
      omega (arith, a, b, c, d)

  pub three_first : (i : ℕ) (y : Y) → slice_get first i ≡ Some y → slice_get three i ≡ Some y
  three_first i y at = get_left first (map f xs ++ map g xs) i y at

  pub three_second : (i j : ℕ) (x : X) → i ≡ length first + j → slice_get xs j ≡ Some x → slice_get three i ≡ Some (f x)
  three_second i j x e at = get_right first (map f xs ++ map g xs) i j e ∙ get_left (map f xs) (map g xs) j (f x) (slice_get-map f xs j ∙ ap (option_map f) at)

  pub three_third : (i j : ℕ) (x : X) → i ≡ length first + length xs + j → slice_get xs j ≡ Some x → slice_get three i ≡ Some (g x)
  three_third i j x e at =
      let c : length (map f xs) ≡ length xs = length-map xs f in
      get_right first (map f xs ++ map g xs) i (length xs + j) (omega (arith, e)) ∙ get_right (map f xs) (map g xs) (length xs + j) j (omega (arith, c)) ∙ slice_get-map g xs j ∙ ap (option_map g) at

-- the places before the nodes hold their handles
pub places_whole : {S D L H B : Type 0} (nodes : List (Seated S D L H B)) (lanes : List LanePlan) → map seat_place (whole_seats nodes lanes) ≡ whole_places (map seat_place nodes) lanes
places_whole {S = S} {D = D} {L = L} {H = H} {B = B} nodes lanes = map_both nodes (map in_seat lanes ++ map out_seat lanes) ∙ ap (λ l. map seat_place nodes ++ l) (map_both (map in_seat lanes) (map out_seat lanes) ∙ ap (λ l. l ++ map seat_place (map (out_seat {S = S} {D = D} {L = L} {H = H} {B = B}) lanes)) (ins lanes) ∙ ap (λ l. map in_place lanes ++ l) (outs lanes))
  where
    map_both : (xs ys : List (Seated S D L H B)) → map seat_place (xs ++ ys) ≡ map seat_place xs ++ map seat_place ys
    map_both [] ys = refl
    map_both (x ∷ xs) ys = ap (λ l. seat_place x ∷ l) (map_both xs ys)

    ins : (ls : List LanePlan) → map seat_place (map (in_seat {S = S} {D = D} {L = L} {H = H} {B = B}) ls) ≡ map in_place ls
    ins [] = refl
    ins (l ∷ ls) = ap (λ r. in_place l ∷ r) (ins ls)

    outs : (ls : List LanePlan) → map seat_place (map (out_seat {S = S} {D = D} {L = L} {H = H} {B = B}) ls) ≡ map out_place ls
    outs [] = refl
    outs (l ∷ ls) = ap (λ r. out_place l ∷ r) (outs ls)

pub unused_whole : {S D L H B : Type 0} (nodes : List (Seated S D L H B)) (lanes : List LanePlan) → AllUnused nodes → AllUnused (whole_seats nodes lanes)
unused_whole {S = S} {D = D} {L = L} {H = H} {B = B} nodes lanes a = unused_both nodes (map in_seat lanes ++ map out_seat lanes) a (unused_both (map in_seat lanes) (map out_seat lanes) (ins lanes) (outs lanes))
  where
    unused_both : (xs ys : List (Seated S D L H B)) → AllUnused xs → AllUnused ys → AllUnused (xs ++ ys)
    unused_both [] ys a b = b
    unused_both (x ∷ xs) ys a b = (a.0, unused_both xs ys a.1 b)

    ins : (ls : List LanePlan) → AllUnused (map (in_seat {S = S} {D = D} {L = L} {H = H} {B = B}) ls)
    ins [] = tt
    ins (l ∷ ls) = (tt, ins ls)

    outs : (ls : List LanePlan) → AllUnused (map (out_seat {S = S} {D = D} {L = L} {H = H} {B = B}) ls)
    outs [] = tt
    outs (l ∷ ls) = (tt, outs ls)

-- the islands of all places
module _ (homes : List ℕ) (ws : List Edge) (n : ℕ) (each_home : length homes ≡ n) where
  abbrev pub lanes : List LanePlan
  lanes = lanes_from homes 0 ws

  abbrev pub all_homes : List ℕ
  all_homes = whole_homes homes lanes

  pub many : length lanes ≡ lanes_in ws
  many = lanes_count homes 0 ws

  pub homes_count : length all_homes ≡ n + lanes_in ws + lanes_in ws
  homes_count = let a : length all_homes ≡ length homes + length lanes + length lanes = three_count homes (λ (l : LanePlan). l.to) (λ (l : LanePlan). l.from) lanes in omega (arith, a, each_home, many)

  -- lane j of the plan
  pub plan_at : (j : ℕ) (x : IsLane ws j) → slice_get lanes j ≡ Some (lane_plan homes x.at x.wire x.size)
  plan_at j x =
      let z : 0 + x.at ≡ x.at = omega arith in
      ap (slice_get lanes) (sym x.number) ∙ lane_get homes 0 ws x.at x.wire x.size x.is x.lane ∙ ap (λ u. Some (lane_plan homes u x.wire x.size)) z

  pub a_plan : (j : ℕ) → j < lanes_in ws → (l : LanePlan) × (slice_get lanes j ≡ Some l)
  a_plan j lt = there lanes j (omega (arith, lt, many))

  -- ---- homes

  pub node_home : (k : ℕ) → k < n → slice_index all_homes k ≡ slice_index homes k
  node_home k lt =
      let h = there homes k (omega (arith, lt, each_home)) in
      get_or_from_slice_get all_homes k h.0 0 (three_first homes (λ (l : LanePlan). l.to) (λ (l : LanePlan). l.from) lanes k h.0 h.1) ∙ sym (get_or_from_slice_get homes k h.0 0 h.1)

  pub entry_home : (k j : ℕ) (x : IsLane ws j) → k ≡ n + j → slice_index all_homes k ≡ slice_index homes x.wire.to
  entry_home k j x e = get_or_from_slice_get all_homes k _ 0 (three_second homes (λ (l : LanePlan). l.to) (λ (l : LanePlan). l.from) lanes k j _ (omega (arith, e, each_home)) (plan_at j x))

  pub exit_home : (k j : ℕ) (x : IsLane ws j) → k ≡ n + lanes_in ws + j → slice_index all_homes k ≡ slice_index homes x.wire.from
  exit_home k j x e = get_or_from_slice_get all_homes k _ 0 (three_third homes (λ (l : LanePlan). l.to) (λ (l : LanePlan). l.from) lanes k j _ (omega (arith, e, each_home, many)) (plan_at j x))

module _ {S D L H B : Type 0} (homes : List ℕ) (ws : List Edge) (nodes : List (Seated S D L H B)) (n : ℕ) (size : length nodes ≡ n) (each_home : length homes ≡ n)
    (from_node : (i : ℕ) (v : Edge) → slice_get ws i ≡ Some v → v.from < n) (to_node : (i : ℕ) (v : Edge) → slice_get ws i ≡ Some v → v.to < n) where
  abbrev seats : List (Seated S D L H B)
  seats = whole_seats nodes (lanes_from homes 0 ws)

  pub seats_count : length seats ≡ n + lanes_in ws + lanes_in ws
  seats_count = let a : length seats ≡ length nodes + length (lanes_from homes 0 ws) + length (lanes_from homes 0 ws) = three_count nodes in_seat out_seat (lanes_from homes 0 ws) in omega (arith, a, size, many homes ws n each_home)

  -- ---- what stands where

  pub node_seat : (k : ℕ) (p : Seated S D L H B) → slice_get nodes k ≡ Some p → slice_get seats k ≡ Some p
  node_seat k p at = three_first nodes in_seat out_seat (lanes_from homes 0 ws) k p at

  pub entry_seat : (k j : ℕ) (l : LanePlan) → k ≡ n + j → slice_get (lanes_from homes 0 ws) j ≡ Some l → slice_get seats k ≡ Some (in_seat l)
  entry_seat k j l e at = three_second nodes in_seat out_seat (lanes_from homes 0 ws) k j l (omega (arith, e, size)) at

  pub exit_seat : (k j : ℕ) (l : LanePlan) → k ≡ n + lanes_in ws + j → slice_get (lanes_from homes 0 ws) j ≡ Some l → slice_get seats k ≡ Some (out_seat l)
  exit_seat k j l e at = three_third nodes in_seat out_seat (lanes_from homes 0 ws) k j l (omega (arith, e, size, many homes ws n each_home)) at

  node_ports : (k : ℕ) → k < n → (inputs_at seats k ≡ inputs_at nodes k) × (outputs_at seats k ≡ outputs_at nodes k)
  node_ports k lt =
      let p = there nodes k (omega (arith, lt, size)) in
      (inputs_by seats k p.0 (node_seat k p.0 p.1) ∙ sym (inputs_by nodes k p.0 p.1), outputs_by seats k p.0 (node_seat k p.0 p.1) ∙ sym (outputs_by nodes k p.0 p.1))

  entry_ports : (j : ℕ) → j < lanes_in ws → (inputs_at seats (n + j) ≡ 0) × (outputs_at seats (n + j) ≡ 1)
  entry_ports j lt =
      let l = a_plan homes ws n each_home j lt in
      (inputs_by seats (n + j) _ (entry_seat (n + j) j l.0 refl l.1), outputs_by seats (n + j) _ (entry_seat (n + j) j l.0 refl l.1))

  exit_ports : (j : ℕ) → j < lanes_in ws → (inputs_at seats (n + lanes_in ws + j) ≡ 1) × (outputs_at seats (n + lanes_in ws + j) ≡ 0)
  exit_ports j lt =
      let l = a_plan homes ws n each_home j lt in
      (inputs_by seats (n + lanes_in ws + j) _ (exit_seat (n + lanes_in ws + j) j l.0 refl l.1), outputs_by seats (n + lanes_in ws + j) _ (exit_seat (n + lanes_in ws + j) j l.0 refl l.1))

  module _ (inside : (i : ℕ) (w : Edge) → slice_get ws i ≡ Some w → w.lane ≡ None → slice_index homes w.from ≡ slice_index homes w.to) where
    -- a link at the output of a node which leads into the input of one is no lane
    fused_same : (p : ℕ) (l : Link) (o : AtOutput n ws p l) (x : AtInput n ws p l) → slice_index homes o.wire.from ≡ slice_index homes x.wire.to
    fused_same p l o x = by x.wire.lane refl
      where
        by : (lane : Option ℕ) → x.wire.lane ≡ lane → slice_index homes o.wire.from ≡ slice_index homes x.wire.to
        by None e =
            let place : p ≡ x.at = x.place ∙ ap (into (length ws) (lanes_in (take x.at ws)) x.at) e in
            let same = same_wire ws p x.at o.wire x.wire place o.is x.is in
            ap (λ (w : Edge). slice_index homes w.from) same ∙ inside x.at x.wire x.is e
        by (Some s) e =
            let place : p ≡ length ws + lanes_in (take x.at ws) = x.place ∙ ap (into (length ws) (lanes_in (take x.at ws)) x.at) e in
            let lt = slice_get_within ws p o.wire o.is in
            absurd (omega (arith, place, lt))

    pub one_home : (p : ℕ) (l : Link) → slice_get (whole_links n ws) p ≡ Some l → slice_index (whole_homes homes (lanes_from homes 0 ws)) l.from ≡ slice_index (whole_homes homes (lanes_from homes 0 ws)) l.to
    one_home p l at =
        ⊎_elim
        (λ (o : AtOutput n ws p l).
        let from : slice_index (whole_homes homes (lanes_from homes 0 ws)) l.from ≡ slice_index homes o.wire.from = ap (slice_index (whole_homes homes (lanes_from homes 0 ws))) o.from ∙ node_home homes ws n each_home o.wire.from (from_node p o.wire o.is) in
        ⊎_elim
        (λ (x : AtInput n ws p l). from ∙ fused_same p l o x ∙ sym (ap (slice_index (whole_homes homes (lanes_from homes 0 ws))) x.to ∙ node_home homes ws n each_home x.wire.to (to_node x.at x.wire x.is)))
        (λ (x : AtExit n ws p l).
        let same = same_wire ws p p o.wire x.wire refl o.is x.is in
        let lane : IsLane ws (lanes_in (take p ws)) = record { at = p; wire = x.wire; size = x.size; is = x.is; lane = x.lane; number = refl } in
        from ∙ ap (λ (w : Edge). slice_index homes w.from) same ∙ sym (exit_home homes ws n each_home l.to (lanes_in (take p ws)) lane x.to))
        (in_side n ws p l at))
        (λ (e : AtEntry n ws p l).
        let from : l.from ≡ n + e.j = ap (λ (k : Link). k.from) e.is in
        let to : l.to ≡ e.lane.wire.to = ap (λ (k : Link). k.to) e.is in
        entry_home homes ws n each_home l.from e.j e.lane from ∙ sym (ap (slice_index (whole_homes homes (lanes_from homes 0 ws))) to ∙ node_home homes ws n each_home e.lane.wire.to (to_node e.lane.at e.lane.wire e.lane.is)))
        (out_side n ws p l at)

    module _ (no_ends : (k : ℕ) (p : Seated S D L H B) → slice_get nodes k ≡ Some p → (is_lane_in p.work ≡ false) × (is_lane_out p.work ≡ false)) where
      no_entry : (k : ℕ) → k < n → comes_in seats k ≡ true → ⊥
      no_entry k lt t =
          let p = there nodes k (omega (arith, lt, size)) in
          let f : comes_in seats k ≡ false = ap lane_comes (node_seat k p.0 p.1) ∙ (no_ends k p.0 p.1).0 in
          cc

      no_exit : (k : ℕ) → k < n → goes_out seats k ≡ true → ⊥
      no_exit k lt t =
          let p = there nodes k (omega (arith, lt, size)) in
          let f : goes_out seats k ≡ false = ap lane_goes (node_seat k p.0 p.1) ∙ (no_ends k p.0 p.1).1 in
          cc

      an_entry : (p : ℕ) (l : Link) → slice_get (whole_links n ws) p ≡ Some l → comes_in seats l.from ≡ true → AtEntry n ws p l
      an_entry p l at t =
          ⊎_elim
          (λ (o : AtOutput n ws p l). absurd (no_entry o.wire.from (from_node p o.wire o.is) (ap (comes_in seats) (sym o.from) ∙ t)))
          (λ (e : AtEntry n ws p l). e)
          (out_side n ws p l at)

      an_exit : (p : ℕ) (l : Link) → slice_get (whole_links n ws) p ≡ Some l → goes_out seats l.to ≡ true → AtExit n ws p l
      an_exit p l at t =
          ⊎_elim
          (λ (x : AtInput n ws p l). absurd (no_exit x.wire.to (to_node x.at x.wire x.is) (ap (goes_out seats) (sym x.to) ∙ t)))
          (λ (x : AtExit n ws p l). x)
          (in_side n ws p l at)

      pub once : IsOnce seats (whole_links n ws)
      once = record {
        ins = λ p q l m a b c d e.
            let x = an_entry p l a c in
            let y = an_entry q m b d in
            let same : x.lane.at ≡ y.lane.at = sym (ap (λ (k : Link). k.wire) x.is) ∙ e ∙ ap (λ (k : Link). k.wire) y.is in
            let number : x.j ≡ y.j = sym x.lane.number ∙ ap (λ i. lanes_in (take i ws)) same ∙ y.lane.number in
            x.place ∙ ap (λ j. length ws + j) number ∙ sym y.place;
        outs = λ p q l m a b c d e.
            let x = an_exit p l a c in
            let y = an_exit q m b d in
            sym x.number ∙ e ∙ y.number;
      }

      pub all_parts : (ends : List WireEnds) → IsWiring (inputs_at nodes) (outputs_at nodes) n ends → length ends ≡ length ws → ((i : ℕ) (v : Edge) → slice_get ws i ≡ Some v → end_at ends i ≡ plain_ends v) → AllUnused nodes → length (whole_links n ws) < 2 ^ 32
          → (k : ℕ) → AreParts (of_home (whole_homes homes (lanes_from homes 0 ws)) k seats) (mine (whole_homes homes (lanes_from homes 0 ws)) (whole_links n ws) k)
      all_parts ends plain long each unused few k =
          let wiring : IsWiring (inputs_at seats) (outputs_at seats) (n + lanes_in ws + lanes_in ws) (map ends_of (whole_links n ws)) =
          cut n ws (inputs_at nodes) (outputs_at nodes) (inputs_at seats) (outputs_at seats) ends plain long each (λ i lt. (node_ports i lt).0) (λ i lt. (node_ports i lt).1) (λ j lt. (entry_ports j lt).0) (λ j lt. (entry_ports j lt).1) (λ j lt. (exit_ports j lt).0)
          (λ j lt. (exit_ports j lt).1) in
          island_parts (whole_homes homes (lanes_from homes 0 ws)) (whole_links n ws) k seats (seats_count ∙ sym (homes_count homes ws n each_home)) (unused_whole nodes (lanes_from homes 0 ws) unused) (subst (λ m. IsWiring (inputs_at seats) (outputs_at seats) m (map ends_of (whole_links n ws))) (sym seats_count) wiring) one_home once few
