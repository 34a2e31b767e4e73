-- The nets of the islands of a blueprint cover its graph, and have no other connections.
use Rattle.std.proofs.Common.{◌≡◌, ℕ, ◌<◌, List, length, map, take, Some, ap, sym, ◌∙◌, subst, ⊎_elim, ◌⊎◌, inl, inr, arith}
use Rattle.std.specs.Prelude.{slice_get, slice_index}
use Rattle.std.proofs.lemmas.List.{length-map}
use Rattle.std.proofs.lemmas.Option.{slice_get_within}
use Rattle.stream_model.specs.Graph.{Graph, Edge}
use Rattle.stream_model.specs.Graph as graph
use Rattle.fused_net.specs.declared.net.WireEnds.{WireEnds}
use Rattle.fused_net.specs.PortLists.{PortLists}
use Rattle.fused_net.specs.Laws.{Wired, NetGoesOn}
use Rattle.fused_net.specs.Net.{Net, end_at, ports_at}
use Rattle.nodes.specs.declared.node.IslandNode.{IslandNode}
use Rattle.interpreter.specs.declared.parts.Link.{Link}
use Rattle.interpreter.specs.declared.parts.Seated.{Seated}
use Rattle.interpreter.specs.Parts.{ends_of, inputs_at, outputs_at, IsWiring, AllBecome}
use Rattle.run_laws.specs.Seats.{Covers}
use Rattle.run_laws.specs.Units.{Owned}
use Rattle.scatter.specs.Shares.{rank_of, share_of}
use Rattle.island_parts.specs.Whole.{lanes_in, whole_links, local_link, own_links}
use Rattle.island_parts.proofs.Wiring.{there, end_get, into, AtOutput, AtEntry, out_side}
use Rattle.island_parts.proofs.Restricting.{mine_from, inputs_by, outputs_by}
use Rattle.bodies_run.specs.Islands.{place_homes, link_homes, link_place, far_link, seats_by_islands, seats_in, AreSeated, IsGraphOf, AreNets}
use Rattle.bodies_run.proofs.Ports.{ins_count, outs_count}
use Rattle.bodies_run.proofs.Becoming.{become_count}
use Rattle.bodies_run.proofs.Standing.{size, far_is, from_node, to_node, parts, one_island, home_below, same_home, rank_within, seats_in_count, seat_at, stands, mine_place, entry_number, near_there, far_there}

-- nets that went on are nets of the same islands
wired_as : (es fs : List WireEnds) (ps qs : List PortLists) (n m w v : ℕ) → fs ≡ es → qs ≡ ps → m ≡ n → v ≡ w → Wired es ps n w → Wired fs qs m v
wired_as es fs ps qs n m w v a b c d h = subst (λ x. Wired x qs m v) (sym a) (subst (λ x. Wired es x m v) (sym b) (subst (λ x. Wired es ps x v) (sym c) (subst (λ x. Wired es ps n x) (sym d) h)))

pub go_on : {S D L H B : Type 0} (homes : List ℕ) (count : ℕ) (ws : List Edge) (nodes : List (Seated S D L H B)) (nets later : ℕ → Net (IslandNode S D L H B)) → AreNets homes ws nodes count nets → ((k : ℕ) → k < count → NetGoesOn (nets k) (later k)) → AreNets homes ws nodes count later
go_on homes count ws nodes nets later b on = record {
  become = λ k lt. subst (AllBecome (seats_in homes ws nodes k)) (sym (on k lt).firsts) (b.become k lt);
  ends_are = λ k lt. (on k lt).ends ∙ b.ends_are k lt;
  wired = λ k lt. let o = on k lt in wired_as (nets k).ends (later k).ends (nets k).ports (later k).ports (length (nets k).nodes) (length (later k).nodes) (length (nets k).wires) (length (later k).wires) o.ends o.ports o.nodes o.wires (b.wired k lt);
  each_first = λ k lt. ap length (on k lt).firsts ∙ b.each_first k lt ∙ sym (on k lt).nodes;
}

module _ {S D L H B : Type 0} (homes : List ℕ) (count : ℕ) (ws : List Edge) (nodes : List (Seated S D L H B)) (nets : ℕ → Net (IslandNode S D L H B)) (a : AreSeated homes count ws nodes) (b : AreNets homes ws nodes count nets) where
  pub firsts_count : (k : ℕ) → k < count → length (nets k).firsts ≡ share_of k (place_homes homes ws)
  firsts_count k lt = become_count (seats_in homes ws nodes k) (nets k).firsts (b.become k lt) ∙ seats_in_count homes count ws nodes a k

  pub nodes_count : (k : ℕ) → k < count → length (nets k).nodes ≡ share_of k (place_homes homes ws)
  nodes_count k lt = sym (b.each_first k lt) ∙ firsts_count k lt

  abbrev own : ℕ → List Link
  own k = own_links (place_homes homes ws) (whole_links (length homes) ws) k

  ends_own : (k : ℕ) → k < count → (nets k).ends ≡ map ends_of (own k)
  ends_own k lt = b.ends_are k lt ∙ ap (λ n. map ends_of (own_links (place_homes homes ws) (whole_links n ws) k)) (size homes count ws nodes a)

  wires_count : (k : ℕ) → k < count → length (nets k).wires ≡ length (own k)
  wires_count k lt = sym (b.wired k lt).each_wire ∙ ap length (ends_own k lt) ∙ length-map (own k) ends_of

  own_end : (k q : ℕ) (l : Link) → k < count → slice_get (own k) q ≡ Some l → end_at (nets k).ends q ≡ ends_of l
  own_end k q l lt at = ap (λ es. end_at es q) (ends_own k lt) ∙ end_get (own k) q l at

  -- ---- the connection of link p of all

  place_within : (p : ℕ) (l : Link) → slice_get (whole_links (length homes) ws) p ≡ Some l → (link_place homes ws p).at < length (nets (link_place homes ws p).island).wires
  place_within p l at =
      let s = stands homes count ws nodes a p l at in
      let lt : rank_of (link_homes homes ws) p < length (own (slice_index (link_homes homes ws) p)) = slice_get_within (own (slice_index (link_homes homes ws) p)) (rank_of (link_homes homes ws) p) (local_link (place_homes homes ws) l) s.at in
      let e = wires_count (slice_index (link_homes homes ws) p) s.below in
      omega (arith, lt, e)

  place_end : (p : ℕ) (l : Link) → slice_get (whole_links (length homes) ws) p ≡ Some l → end_at (nets (link_place homes ws p).island).ends (link_place homes ws p).at ≡ ends_of (local_link (place_homes homes ws) l)
  place_end p l at =
      let s = stands homes count ws nodes a p l at in
      own_end (slice_index (link_homes homes ws) p) (rank_of (link_homes homes ws) p) (local_link (place_homes homes ws) l) s.below s.at

  -- ---- the ports of a node

  module _ (k : ℕ) (s : Seated S D L H B) (at : slice_get nodes k ≡ Some s) where
    within : k < length homes
    within = let lt : k < length nodes = slice_get_within nodes k s at in omega (arith, lt, a.each)

    abbrev pub h : ℕ
    h = slice_index homes k

    below : h < count
    below = home_below homes count ws nodes a k within

    abbrev pub r : ℕ
    r = rank_of (place_homes homes ws) k

    stands_there : slice_get (seats_in homes ws nodes h) r ≡ Some s
    stands_there = seat_at homes count ws nodes a k s at within

    wiring : IsWiring (inputs_at (seats_in homes ws nodes h)) (outputs_at (seats_in homes ws nodes h)) (length (seats_in homes ws nodes h)) (nets h).ends
    wiring = subst (IsWiring (inputs_at (seats_in homes ws nodes h)) (outputs_at (seats_in homes ws nodes h)) (length (seats_in homes ws nodes h))) (sym (ends_own h below)) (parts homes count ws nodes a h).wiring

    pub node_in : r < length (nets h).nodes
    node_in = let lt = rank_within homes count ws nodes a k within in let e = nodes_count h below in omega (arith, lt, e)

    place_in : r < length (seats_in homes ws nodes h)
    place_in = slice_get_within (seats_in homes ws nodes h) r s stands_there

    pub node_ins : length (ports_at (nets h) r).ins ≡ inputs_at nodes k
    node_ins =
        ins_count (inputs_at (seats_in homes ws nodes h)) (outputs_at (seats_in homes ws nodes h)) (length (seats_in homes ws nodes h)) (nets h).ends (nets h).ports (length (nets h).nodes) (length (nets h).wires) r (b.wired h below) wiring place_in node_in
        ∙ inputs_by (seats_in homes ws nodes h) r s stands_there ∙ sym (inputs_by nodes k s at)

    pub node_outs : length (ports_at (nets h) r).outs ≡ outputs_at nodes k
    node_outs =
        outs_count (inputs_at (seats_in homes ws nodes h)) (outputs_at (seats_in homes ws nodes h)) (length (seats_in homes ws nodes h)) (nets h).ends (nets h).ports (length (nets h).nodes) (length (nets h).wires) r (b.wired h below) wiring place_in node_in
        ∙ outputs_by (seats_in homes ws nodes h) r s stands_there ∙ sym (outputs_by nodes k s at)

  module _ (g : Graph) (i : IsGraphOf g ws nodes) where
    seated : (k : ℕ) (n : graph.Node) → slice_get g.nodes k ≡ Some n → (s : Seated S D L H B) × (slice_get nodes k ≡ Some s)
    seated k n at = let lt : k < length g.nodes = slice_get_within g.nodes k n at in there nodes k (omega (arith, lt, i.each_node))

    wire : (u : ℕ) (v : Edge) → slice_get g.wires u ≡ Some v → slice_get ws u ≡ Some v
    wire u v at = ap (λ vs. slice_get vs u) (sym i.wires_are) ∙ at

    pub covers : Covers g nets (seats_by_islands homes ws)
    covers = record {
      node_within = λ k n at. let s = seated k n at in node_in k s.0 s.1;
      ins = λ k n at. let s = seated k n at in node_ins k s.0 s.1 ∙ i.ins_are k n at;
      outs = λ k n at. let s = seated k n at in node_outs k s.0 s.1 ∙ i.outs_are k n at;
      near_within = λ u v at. let l = near_there homes count ws nodes a u v (wire u v at) in place_within u l.0 l.1.0;
      near_home = λ u v at.
          let l = near_there homes count ws nodes a u v (wire u v at) in
          let s = stands homes count ws nodes a u l.0 l.1.0 in
          s.island ∙ ap (slice_index (place_homes homes ws)) l.1.1.0 ∙ same_home homes count ws nodes a v.from (from_node homes count ws nodes a u v (wire u v at));
      near_from = λ u v at. let l = near_there homes count ws nodes a u v (wire u v at) in ap (λ (e : WireEnds). e.from) (place_end u l.0 l.1.0) ∙ ap (rank_of (place_homes homes ws)) l.1.1.0;
      near_output = λ u v at. let l = near_there homes count ws nodes a u v (wire u v at) in ap (λ (e : WireEnds). e.output) (place_end u l.0 l.1.0) ∙ l.1.1.1;
      far_within = λ u v at. let l = far_there homes count ws nodes a u v (wire u v at) in place_within (far_link ws u) l.0 l.1.0;
      far_home = λ u v at.
          let l = far_there homes count ws nodes a u v (wire u v at) in
          let s = stands homes count ws nodes a (far_link ws u) l.0 l.1.0 in
          s.island ∙ one_island homes count ws nodes a (far_link ws u) l.0 l.1.0 ∙ ap (slice_index (place_homes homes ws)) l.1.1.0 ∙ same_home homes count ws nodes a v.to (to_node homes count ws nodes a u v (wire u v at));
      far_to = λ u v at. let l = far_there homes count ws nodes a u v (wire u v at) in ap (λ (e : WireEnds). e.to) (place_end (far_link ws u) l.0 l.1.0) ∙ ap (rank_of (place_homes homes ws)) l.1.1.0;
      far_input = λ u v at. let l = far_there homes count ws nodes a u v (wire u v at) in ap (λ (e : WireEnds). e.input) (place_end (far_link ws u) l.0 l.1.0) ∙ l.1.1.1;
      fused = λ u v at lane. ap (link_place homes ws) (far_is ws u v (wire u v at) ∙ ap (into (length ws) (lanes_in (take u ws)) u) lane);
    }

    -- ---- and no other connection

    abbrev Owns : ℕ → ℕ → Type 0
    Owns k q = (u : ℕ) × ((v : Edge) × ((slice_get g.wires u ≡ Some v) × (((seats_by_islands homes ws).near u ≡ record { island = k; at = q }) ⊎ ((seats_by_islands homes ws).far u ≡ record { island = k; at = q }))))

    graph_wire : (u : ℕ) (v : Edge) → slice_get ws u ≡ Some v → slice_get g.wires u ≡ Some v
    graph_wire u v at = ap (λ vs. slice_get vs u) i.wires_are ∙ at

    owner : (k q : ℕ) → k < count → q < length (nets k).wires → Owns k q
    owner k q lk lq =
        let x = there (own k) q (omega (arith, lq, wires_count k lk)) in
        let m = mine_from (place_homes homes ws) (whole_links (length homes) ws) k q x.0 x.1 in
        let place = mine_place homes count ws nodes a k q x.0 m in
        ⊎_elim
        (λ (o : AtOutput (length homes) ws m.at m.link). (m.at, (o.wire, (graph_wire m.at o.wire o.is, inl place))))
        (λ (e : AtEntry (length homes) ws m.at m.link).
        let number = entry_number homes count ws nodes a m.at m.link e in
        (e.lane.at, (e.lane.wire, (graph_wire e.lane.at e.lane.wire e.lane.is, inr (ap (link_place homes ws) number ∙ place)))))
        (out_side (length homes) ws m.at m.link m.is)

    pub owned : Owned g nets (seats_by_islands homes ws) count
    owned = record { owner = owner }
