-- Where nodes and links stand: each at its rank among the places, or the links, of its island.
use Rattle.std.proofs.Common.{◌≡◌, ℕ, zero, suc, ◌+◌, ◌<◌, ◌^◌, List, [], ◌∷◌, length, map, take, Option, Some, None, refl, ap, sym, ◌∙◌, subst, arith}
use Rattle.std.specs.Prelude.{slice_get, slice_index}
use Rattle.std.specs.List.{All}
use Rattle.std.specs.Option.{option_map}
use Rattle.std.proofs.lemmas.List.{length-map}
use Rattle.std.proofs.lemmas.List.Elements.{All-get_or}
use Rattle.std.proofs.lemmas.Option.{slice_get_within, slice_get-map, get_or_from_slice_get}
use Rattle.stream_model.specs.Graph.{Edge}
use Rattle.fused_net.specs.declared.net.WireEnds.{WireEnds}
use Rattle.interpreter.specs.declared.parts.Link.{Link}
use Rattle.interpreter.specs.declared.parts.Seated.{Seated}
use Rattle.interpreter.specs.Parts.{inputs_at, outputs_at, IsWiring, AreParts}
use Rattle.run_laws.specs.Units.{lane_at}
use Rattle.blue_check.specs.Plan.{lanes_from}
use Rattle.scatter.specs.Shares.{of_home, rank_of, share_of}
use Rattle.scatter.proofs.Sharing.{share_count, share_at}
use Rattle.island_parts.specs.Whole.{lanes_in, near_at, whole_links, whole_seats, link_home, local_link, own_links}
use Rattle.island_parts.proofs.Wiring.{there, into, AtEntry, near_link, input_link as link_into}
use Rattle.island_parts.proofs.Restricting.{IsMine, home_at, rank_is, rank_below, mine_at}
use Rattle.island_parts.proofs.Wholes.{homes_count, node_home, seats_count, node_seat, one_home, all_parts}
use Rattle.island_parts.proofs.Splitting.{ends_within, whole_below}
use Rattle.bodies_run.specs.Islands.{place_homes, link_homes, link_place, input_link, far_link, AreSeated}

-- the lane of a wire, and which link is at its input
pub lane_is : (ws : List Edge) (u : ℕ) (v : Edge) → slice_get ws u ≡ Some v → lane_at ws u ≡ v.lane
lane_is [] u v at = absurd cc
lane_is (w ∷ ws) zero v at = let same : w ≡ v = cc in ap (λ (x : Edge). x.lane) same
lane_is (w ∷ ws) (suc u) v at = lane_is ws u v at

pub input_is : (many number u : ℕ) (o : Option ℕ) → input_link u (many + number) o ≡ into many number u o
input_is many number u None = refl
input_is many number u (Some s) = refl

pub far_is : (ws : List Edge) (u : ℕ) (v : Edge) → slice_get ws u ≡ Some v → far_link ws u ≡ into (length ws) (lanes_in (take u ws)) u v.lane
far_is ws u v at = ap (input_link u (length ws + lanes_in (take u ws))) (lane_is ws u v at) ∙ input_is (length ws) (lanes_in (take u ws)) u v.lane

module _ {S D L H B : Type 0} (homes : List ℕ) (count : ℕ) (ws : List Edge) (nodes : List (Seated S D L H B)) (a : AreSeated homes count ws nodes) where
  abbrev pub hs : List ℕ
  hs = place_homes homes ws

  abbrev pub links : List Link
  links = whole_links (length homes) ws

  abbrev pub lhs : List ℕ
  lhs = link_homes homes ws

  abbrev pub seats : List (Seated S D L H B)
  seats = whole_seats nodes (lanes_from homes 0 ws)

  -- ---- the ends of wires are nodes

  pub size : length nodes ≡ length homes
  size = sym a.each

  in_ends : (i : ℕ) (v : Edge) → slice_get ws i ≡ Some v → i < length a.nodes_are.ends
  in_ends i v at = let lt : i < length ws = slice_get_within ws i v at in omega (arith, lt, a.nodes_are.each_wire)

  pub from_node : (i : ℕ) (v : Edge) → slice_get ws i ≡ Some v → v.from < length homes
  from_node i v at = let b = subst (λ (e : WireEnds). e.from < length nodes) (a.nodes_are.ends_are i v at) (a.nodes_are.wiring.from_within i (in_ends i v at)) in omega (arith, b, a.each)

  pub to_node : (i : ℕ) (v : Edge) → slice_get ws i ≡ Some v → v.to < length homes
  to_node i v at = let b = subst (λ (e : WireEnds). e.to < length nodes) (a.nodes_are.ends_are i v at) (a.nodes_are.wiring.to_within i (in_ends i v at)) in omega (arith, b, a.each)

  pub parts : (k : ℕ) → AreParts (of_home hs k seats) (own_links hs links k)
  parts k =
      all_parts homes ws nodes (length homes) size refl from_node to_node a.inside.inside a.nodes_are.no_ends a.nodes_are.ends (subst (λ n. IsWiring (inputs_at nodes) (outputs_at nodes) n a.nodes_are.ends) size a.nodes_are.wiring) a.nodes_are.each_wire
      a.nodes_are.ends_are a.nodes_are.unused (subst (λ n. length (whole_links n ws) < 2 ^ 32) size a.few) k

  pub one_island : (p : ℕ) (l : Link) → slice_get links p ≡ Some l → slice_index hs l.from ≡ slice_index hs l.to
  one_island = one_home homes ws nodes (length homes) size refl from_node to_node a.inside.inside

  -- ---- homes

  pub places_count : length hs ≡ length homes + lanes_in ws + lanes_in ws
  places_count = homes_count homes ws (length homes) refl

  pub all_seats : length seats ≡ length hs
  all_seats = seats_count homes ws nodes (length homes) size refl from_node to_node ∙ sym places_count

  pub all_below : All (λ h. h < count) hs
  all_below = whole_below (length homes) ws from_node to_node homes count refl a.below

  pub home_below : (k : ℕ) → k < length homes → slice_index homes k < count
  home_below k lt = All-get_or (λ h. h < count) homes k 0 lt a.below

  pub same_home : (k : ℕ) → k < length homes → slice_index hs k ≡ slice_index homes k
  same_home k lt = node_home homes ws (length homes) refl k lt

  pub place_at : (k : ℕ) → k < length homes → slice_get hs k ≡ Some (slice_index homes k)
  place_at k lt = home_at hs k (slice_index homes k) (omega (arith, lt, places_count)) (same_home k lt)

  pub place_rank : (k : ℕ) → k < length homes → rank_of hs k ≡ share_of (slice_index homes k) (take k hs)
  place_rank k lt = rank_is hs k (slice_index homes k) (same_home k lt)

  pub rank_within : (k : ℕ) → k < length homes → rank_of hs k < share_of (slice_index homes k) hs
  rank_within k lt = let e = place_rank k lt in let b = rank_below hs k (slice_index homes k) (place_at k lt) in omega (arith, e, b)

  pub seats_in_count : (k : ℕ) → length (of_home hs k seats) ≡ share_of k hs
  seats_in_count k = share_count hs seats k all_seats

  -- what stands at the place of a node
  pub seat_at : (k : ℕ) (s : Seated S D L H B) → slice_get nodes k ≡ Some s → k < length homes → slice_get (of_home hs (slice_index homes k) seats) (rank_of hs k) ≡ Some s
  seat_at k s at lt =
      ap (slice_get (of_home hs (slice_index homes k) seats)) (place_rank k lt) ∙ share_at hs seats k (slice_index homes k) s (node_seat homes ws nodes (length homes) size refl from_node to_node k s at) (place_at k lt)

  -- what stands at a place stands at its rank in its island
  pub place_seat : (x k : ℕ) → x < length hs → slice_index hs x ≡ k → slice_get (of_home hs k seats) (rank_of hs x) ≡ slice_get seats x
  place_seat x k lt home =
      let s = there seats x (omega (arith, lt, all_seats)) in
      ap (slice_get (of_home hs k seats)) (rank_is hs x k home) ∙ share_at hs seats x k s.0 s.1 (home_at hs x k lt home) ∙ sym s.1

  -- ---- links

  pub link_within : (p : ℕ) (l : Link) → slice_get links p ≡ Some l → l.from < length hs
  link_within p l at = let w = ends_within (length homes) ws from_node to_node p l at in omega (arith, w.0, places_count)

  pub link_to_within : (p : ℕ) (l : Link) → slice_get links p ≡ Some l → l.to < length hs
  link_to_within p l at = let w = ends_within (length homes) ws from_node to_node p l at in omega (arith, w.1, places_count)

  pub links_in_count : (k : ℕ) → length (own_links hs links k) ≡ share_of k lhs
  links_in_count k = share_count lhs (map (local_link hs) links) k (length-map links (local_link hs) ∙ sym (length-map links (link_home hs)))

  -- a link stands in the island of its output
  pub record Stands (p : ℕ) (l : Link) : Type 0 where
    pub island : slice_index lhs p ≡ slice_index hs l.from
    pub below : slice_index lhs p < count
    pub at : slice_get (own_links hs links (slice_index lhs p)) (rank_of lhs p) ≡ Some (local_link hs l)

  pub stands : (p : ℕ) (l : Link) → slice_get links p ≡ Some l → Stands p l
  stands p l at =
      let island : slice_index lhs p ≡ slice_index hs l.from = get_or_from_slice_get lhs p (link_home hs l) 0 (slice_get-map (link_home hs) links p ∙ ap (option_map (link_home hs)) at) in
      let b : slice_index hs l.from < count = All-get_or (λ h. h < count) hs l.from 0 (link_within p l at) all_below in
      record { island = island; below = omega (arith, island, b); at = mine_at hs links (slice_index lhs p) p l at (sym island) }

  pub mine_place : (k q : ℕ) (l : Link) (m : IsMine hs links k q l) → link_place homes ws m.at ≡ record { island = k; at = q }
  mine_place k q l m =
      let home : slice_index lhs m.at ≡ k = (stands m.at m.link m.is).island ∙ m.home in
      let rank : rank_of lhs m.at ≡ q = ap (λ h. share_of h (take m.at lhs)) home ∙ m.rank in
      ap (λ j. record { island = j; at = rank_of lhs m.at }) home ∙ ap (λ j. record { island = k; at = j }) rank

  -- ---- the links of a wire

  pub entry_number : (p : ℕ) (l : Link) (e : AtEntry (length homes) ws p l) → far_link ws e.lane.at ≡ p
  entry_number p l e = far_is ws e.lane.at e.lane.wire e.lane.is ∙ ap (into (length ws) (lanes_in (take e.lane.at ws)) e.lane.at) e.lane.lane ∙ ap (λ j. length ws + j) e.lane.number ∙ sym e.place

  pub near_there : (u : ℕ) (v : Edge) → slice_get ws u ≡ Some v → (l : Link) × ((slice_get links u ≡ Some l) × ((l.from ≡ v.from) × (l.output ≡ v.output)))
  near_there u v at = by v.lane (near_link (length homes) ws u v at)
    where
      by : (o : Option ℕ) → slice_get links u ≡ Some (near_at (length homes + lanes_in ws + lanes_in (take u ws)) u v o) → (l : Link) × ((slice_get links u ≡ Some l) × ((l.from ≡ v.from) × (l.output ≡ v.output)))
      by None e = (near_at (length homes + lanes_in ws + lanes_in (take u ws)) u v None, (e, (refl, refl)))
      by (Some s) e = (near_at (length homes + lanes_in ws + lanes_in (take u ws)) u v (Some s), (e, (refl, refl)))

  pub far_there : (u : ℕ) (v : Edge) → slice_get ws u ≡ Some v → (l : Link) × ((slice_get links (far_link ws u) ≡ Some l) × ((l.to ≡ v.to) × (l.input ≡ v.input)))
  far_there u v at = let l = link_into (length homes) ws u v at in (l.0, (ap (slice_get links) (far_is ws u v at) ∙ l.1.0, l.1.1))
