-- The connections at which lanes come in and go out.
use Rattle.std.proofs.Common.{◌≡◌, ℕ, ◌+◌, ◌<◌, true, false, List, length, take, Some, refl, ap, sym, ◌∙◌, ⊎_elim, arith}
use Rattle.std.specs.Prelude.{slice_get, slice_index}
use Rattle.stream_model.specs.Graph.{Edge}
use Rattle.interpreter.specs.declared.parts.Link.{Link}
use Rattle.interpreter.specs.declared.parts.Seated.{Seated}
use Rattle.interpreter.specs.Ways.{lane_comes, lane_goes, comes_in, goes_out}
use Rattle.blue_check.specs.Plan.{lanes_from}
use Rattle.scatter.specs.Shares.{rank_of}
use Rattle.island_parts.specs.Whole.{lanes_in, near_at, whole_links, local_link, own_links, in_seat, out_seat}
use Rattle.island_parts.proofs.Cutting.{lane_below, lane_plan, lane_get, far_link as lane_link}
use Rattle.island_parts.proofs.Wiring.{there, near_link, far_link_at, into, AtOutput, AtEntry, AtInput, AtExit, out_side, in_side}
use Rattle.island_parts.proofs.Restricting.{IsMine, mine_from}
use Rattle.island_parts.proofs.Wholes.{node_seat, entry_seat, exit_seat}
use Rattle.bodies_run.specs.Islands.{place_homes, link_homes, link_place, far_link, seats_in, links_in, AreSeated, IsWayIn, IsWayOut, HasWays, IsNearOf, IsFarOf}
use Rattle.bodies_run.proofs.Standing.{seats, size, far_is, from_node, to_node, one_island, places_count, same_home, place_seat, link_within, link_to_within, stands, mine_place, entry_number, near_there, far_there}

module _ {S D L H B : Type 0} (homes : List ℕ) (count : ℕ) (ws : List Edge) (nodes : List (Seated S D L H B)) (a : AreSeated homes count ws nodes) where
  -- the links of an island, by the number of homes and by that of nodes
  own_at : (k q : ℕ) → slice_get (links_in homes ws nodes k) q ≡ slice_get (own_links (place_homes homes ws) (whole_links (length homes) ws) k) q
  own_at k q = ap (λ n. slice_get (own_links (place_homes homes ws) (whole_links n ws) k) q) (size homes count ws nodes a)

  -- ---- of a lane

  module _ (u : ℕ) (v : Edge) (bound : ℕ) (at : slice_get ws u ≡ Some v) (lane : v.lane ≡ Some bound) where
    abbrev j : ℕ
    j = lanes_in (take u ws)

    below : j < lanes_in ws
    below = lane_below ws u v bound at lane

    plan : slice_get (lanes_from homes 0 ws) j ≡ Some (lane_plan homes (0 + u) v bound)
    plan = lane_get homes 0 ws u v bound at lane

    abbrev out_link : Link
    out_link = near_at (length homes + lanes_in ws + j) u v (Some bound)

    out_at : slice_get (whole_links (length homes) ws) u ≡ Some out_link
    out_at = near_link (length homes) ws u v at ∙ ap (λ o. Some (near_at (length homes + lanes_in ws + j) u v o)) lane

    abbrev in_link : Link
    in_link = lane_link (length homes + j) u v

    number : far_link ws u ≡ length ws + j
    number = far_is ws u v at ∙ ap (into (length ws) j u) lane

    in_at : slice_get (whole_links (length homes) ws) (far_link ws u) ≡ Some in_link
    in_at = ap (slice_get (whole_links (length homes) ws)) number ∙ far_link_at (length homes) ws u v bound at lane

    goes_out_there : slice_get (seats homes count ws nodes a) (length homes + lanes_in ws + j) ≡ Some (out_seat (lane_plan homes (0 + u) v bound))
    goes_out_there = exit_seat homes ws nodes (length homes) (size homes count ws nodes a) refl (from_node homes count ws nodes a) (to_node homes count ws nodes a) (length homes + lanes_in ws + j) j (lane_plan homes (0 + u) v bound) refl plan

    comes_in_there : slice_get (seats homes count ws nodes a) (length homes + j) ≡ Some (in_seat (lane_plan homes (0 + u) v bound))
    comes_in_there = entry_seat homes ws nodes (length homes) (size homes count ws nodes a) refl (from_node homes count ws nodes a) (to_node homes count ws nodes a) (length homes + j) j (lane_plan homes (0 + u) v bound) refl plan

    pub way_out : IsWayOut homes ws nodes u (link_place homes ws u)
    way_out =
        let s = stands homes count ws nodes a u out_link out_at in
        let home : slice_index (place_homes homes ws) (length homes + lanes_in ws + j) ≡ slice_index (link_homes homes ws) u = sym (s.island ∙ one_island homes count ws nodes a u out_link out_at) in
        record {
          link = local_link (place_homes homes ws) out_link;
          at = own_at (slice_index (link_homes homes ws) u) (rank_of (link_homes homes ws) u) ∙ s.at;
          wire = refl;
          goes = ap lane_goes (place_seat homes count ws nodes a (length homes + lanes_in ws + j) (slice_index (link_homes homes ws) u) (let c = places_count homes count ws nodes a in omega (arith, below, c)) home ∙ goes_out_there);
        }

    pub way_in : IsWayIn homes ws nodes u (link_place homes ws (far_link ws u))
    way_in =
        let s = stands homes count ws nodes a (far_link ws u) in_link in_at in
        record {
          link = local_link (place_homes homes ws) in_link;
          at = own_at (slice_index (link_homes homes ws) (far_link ws u)) (rank_of (link_homes homes ws) (far_link ws u)) ∙ s.at;
          wire = refl;
          comes = ap lane_comes (place_seat homes count ws nodes a (length homes + j) (slice_index (link_homes homes ws) (far_link ws u)) (let c = places_count homes count ws nodes a in omega (arith, below, c)) (sym s.island) ∙ comes_in_there);
        }

    pub has_ways : HasWays homes ws nodes u v
    has_ways = record {
      out = way_out;
      out_island = (stands homes count ws nodes a u out_link out_at).island ∙ same_home homes count ws nodes a v.from (from_node homes count ws nodes a u v at);
      inp = way_in;
      in_island = (stands homes count ws nodes a (far_link ws u) in_link in_at).island ∙ one_island homes count ws nodes a (far_link ws u) in_link in_at ∙ same_home homes count ws nodes a v.to (to_node homes count ws nodes a u v at);
    }

  -- ---- no connection is at two

  -- no lane comes in at a node, and none goes out there
  node_there : (k : ℕ) → k < length homes → (p : Seated S D L H B) × ((slice_get nodes k ≡ Some p) × (slice_get (seats homes count ws nodes a) k ≡ Some p))
  node_there k lt =
      let p = there nodes k (omega (arith, lt, a.each)) in
      (p.0, (p.1, node_seat homes ws nodes (length homes) (size homes count ws nodes a) refl (from_node homes count ws nodes a) (to_node homes count ws nodes a) k p.0 p.1))

  no_entry : (k : ℕ) → k < length homes → comes_in (seats homes count ws nodes a) k ≡ false
  no_entry k lt = let p = node_there k lt in ap lane_comes p.1.1 ∙ (a.nodes_are.no_ends k p.0 p.1.0).0

  no_exit : (k : ℕ) → k < length homes → goes_out (seats homes count ws nodes a) k ≡ false
  no_exit k lt = let p = node_there k lt in ap lane_goes p.1.1 ∙ (a.nodes_are.no_ends k p.0 p.1.0).1

  -- ---- a link of an island

  module _ (k q : ℕ) (l : Link) (at : slice_get (links_in homes ws nodes k) q ≡ Some l) where
    m : IsMine (place_homes homes ws) (whole_links (length homes) ws) k q l
    m = mine_from (place_homes homes ws) (whole_links (length homes) ws) k q l (sym (own_at k q) ∙ at)

    number_of : l.wire ≡ m.link.wire
    number_of = ap (λ (x : Link). x.wire) (sym m.local)

    to_home : slice_index (place_homes homes ws) m.link.to ≡ k
    to_home = sym (one_island homes count ws nodes a m.at m.link m.is) ∙ m.home

    came : comes_in (seats_in homes ws nodes k) l.from ≡ comes_in (seats homes count ws nodes a) m.link.from
    came = ap (λ (x : Link). comes_in (seats_in homes ws nodes k) x.from) (sym m.local) ∙ ap lane_comes (place_seat homes count ws nodes a m.link.from k (link_within homes count ws nodes a m.at m.link m.is) m.home)

    went : goes_out (seats_in homes ws nodes k) l.to ≡ goes_out (seats homes count ws nodes a) m.link.to
    went = ap (λ (x : Link). goes_out (seats_in homes ws nodes k) x.to) (sym m.local) ∙ ap lane_goes (place_seat homes count ws nodes a m.link.to k (link_to_within homes count ws nodes a m.at m.link m.is) to_home)

    an_entry : comes_in (seats_in homes ws nodes k) l.from ≡ true → AtEntry (length homes) ws m.at m.link
    an_entry comes =
        ⊎_elim
        (λ (o : AtOutput (length homes) ws m.at m.link).
        let f : comes_in (seats_in homes ws nodes k) l.from ≡ false = came ∙ ap (comes_in (seats homes count ws nodes a)) o.from ∙ no_entry o.wire.from (from_node homes count ws nodes a m.at o.wire o.is) in
        absurd cc)
        (λ (e : AtEntry (length homes) ws m.at m.link). e)
        (out_side (length homes) ws m.at m.link m.is)

    an_exit : goes_out (seats_in homes ws nodes k) l.to ≡ true → AtExit (length homes) ws m.at m.link
    an_exit goes =
        ⊎_elim
        (λ (o : AtInput (length homes) ws m.at m.link).
        let f : goes_out (seats_in homes ws nodes k) l.to ≡ false = went ∙ ap (goes_out (seats homes count ws nodes a)) o.to ∙ no_exit o.wire.to (to_node homes count ws nodes a o.at o.wire o.is) in
        absurd cc)
        (λ (e : AtExit (length homes) ws m.at m.link). e)
        (in_side (length homes) ws m.at m.link m.is)

    pub apart : comes_in (seats_in homes ws nodes k) l.from ≡ true → goes_out (seats_in homes ws nodes k) l.to ≡ false
    apart comes =
        let e = an_entry comes in
        let node : m.link.to ≡ e.lane.wire.to = ap (λ (x : Link). x.to) e.is in
        went ∙ ap (goes_out (seats homes count ws nodes a)) node ∙ no_exit e.lane.wire.to (to_node homes count ws nodes a e.lane.at e.lane.wire e.lane.is)

    pub only_in : comes_in (seats_in homes ws nodes k) l.from ≡ true → IsFarOf homes ws k q l.wire
    only_in comes =
        let e = an_entry comes in
        let number : l.wire ≡ e.lane.at = number_of ∙ ap (λ (x : Link). x.wire) e.is in
        record {
          wire = e.lane.wire;
          size = e.lane.size;
          is = ap (slice_get ws) number ∙ e.lane.is;
          lane = e.lane.lane;
          place = ap (λ u. link_place homes ws (far_link ws u)) number ∙ ap (link_place homes ws) (entry_number homes count ws nodes a m.at m.link e) ∙ mine_place homes count ws nodes a k q l m;
        }

    pub only_out : goes_out (seats_in homes ws nodes k) l.to ≡ true → IsNearOf homes ws k q l.wire
    only_out goes =
        let e = an_exit goes in
        let number : l.wire ≡ m.at = number_of ∙ e.number in
        record {
          wire = e.wire;
          size = e.size;
          is = ap (slice_get ws) number ∙ e.is;
          lane = e.lane;
          place = ap (link_place homes ws) number ∙ mine_place homes count ws nodes a k q l m;
        }

  -- ---- each connection is in one of so many islands

  pub islands : (u : ℕ) (v : Edge) → slice_get ws u ≡ Some v → ((link_place homes ws u).island < count) × ((link_place homes ws (far_link ws u)).island < count)
  islands u v at =
      let l = near_there homes count ws nodes a u v at in
      let r = far_there homes count ws nodes a u v at in
      ((stands homes count ws nodes a u l.0 l.1.0).below, (stands homes count ws nodes a (far_link ws u) r.0 r.1.0).below)
