-- What islands cost in all is below the count of their blueprint's wires.
use Rattle.std.specs.Prelude.{◌==◌, ◌&&◌, slice_get}
use Rattle.std.proofs.Common.{◌≡◌, ◌≢◌, ◌⊎◌, inl, inr, ℕ, zero, suc, ◌+◌, ◌<◌, ◌≤◌, Bool, true, false, List, [], ◌∷◌, length, Option, None, Some, refl, sym, ap, ◌∙◌, arith}
use Rattle.std.proofs.lemmas.Bool.Decides.{nat_tests}
use Rattle.elem_core.specs.Items.{elements}
use Rattle.elem_core.specs.declared.item.Item.{Item}
use Rattle.port_core.specs.Joint.{IsSound}
use Rattle.port_core.specs.Ring.{is_queued}
use Rattle.port_core.specs.View.{View}
use Rattle.port_core.specs.Counts.{spent}
use Rattle.stream_model.specs.declared.outcome.WireCount.{WireCount}
use Rattle.stream_model.specs.Graph.{Graph, Edge}
use Rattle.stream_model.specs.Shape.{units_of, need_from, sent_at, count_needed}
use Rattle.fused_net.specs.Costs.{sum_below, total_cost}
use Rattle.fused_net.specs.Laws.{Settled}
use Rattle.fused_net.specs.Net.{Net, wire_at}
use Rattle.fused_net.proofs.Reading.{get_there}
use Rattle.fused_net.proofs.Sums.{sum_le}
use Rattle.run_laws.specs.Account.{Account}
use Rattle.run_laws.specs.Pictures.{picture_counts}
use Rattle.run_laws.specs.Ports.{wire_count}
use Rattle.run_laws.specs.Seats.{IslandPlace, Seats, Covers, joined_account}
use Rattle.run_laws.specs.Units.{lane_at, if_lane, over_lanes, Owned, LanesCost}
use Rattle.run_laws.proofs.Costs.{connection_cost, paid}
use Rattle.run_laws.proofs.Joining.{near_there, far_there}
use Rattle.run_laws.proofs.Pictures.{counts_at}

-- ---- sums

sum_none : (n : ℕ) → sum_below (λ k. 0) n ≡ 0
sum_none zero = refl
sum_none (suc n) = omega (arith, sum_none n)

sum_ones : (n : ℕ) → sum_below (λ k. 1) n ≡ n
sum_ones zero = refl
sum_ones (suc n) = omega (arith, sum_ones n)

sum_add : (f g : ℕ → ℕ) (n : ℕ) → sum_below (λ k. f k + g k) n ≡ sum_below f n + sum_below g n
sum_add f g zero = refl
sum_add f g (suc n) = omega (arith, sum_add f g n)

sum_same : (f g : ℕ → ℕ) (n : ℕ) → ((k : ℕ) → f k ≡ g k) → sum_below f n ≡ sum_below g n
sum_same f g zero h = refl
sum_same f g (suc n) h = omega (arith, sum_same f g n h, h n)

sum_first : (f : ℕ → ℕ) (n : ℕ) → sum_below f (suc n) ≡ f 0 + sum_below (λ k. f (suc k)) n
sum_first f zero = omega arith
sum_first f (suc n) = omega (arith, sum_first f n)

sum_swap : (f : ℕ → ℕ → ℕ) (m n : ℕ) → sum_below (λ a. sum_below (λ b. f a b) n) m ≡ sum_below (λ b. sum_below (λ a. f a b) m) n
sum_swap f zero n = sym (sum_none n)
sum_swap f (suc m) n = let rest = sum_swap f m n in let both = sum_add (λ b. sum_below (λ a. f a b) m) (λ b. f m b) n in omega (arith, rest, both)

-- at one place
abbrev when : Bool → ℕ → ℕ
when true x = x
when false x = 0

eq_same : (k w : ℕ) → (k == w) ≡ true → k ≡ w
eq_same k w e = grind (arith, nat_tests)

eq_refl : (k : ℕ) → (k == k) ≡ true
eq_refl k = grind (arith, nat_tests)

eq_other : (k w : ℕ) → k ≢ w → (k == w) ≡ false
eq_other k w e = grind (arith, nat_tests)

test_cases : (k w : ℕ) → (k ≡ w) ⊎ (k ≢ w)
test_cases k w = elim (k == w) as (λ t. (k == w) ≡ t → (k ≡ w) ⊎ (k ≢ w)) [ true ↦ λ e. inl (eq_same k w e) | false ↦ λ e. inr (λ s. let yes : (k == w) ≡ true = rw s (eq_refl w) in absurd cc) ] refl

-- all but one are none
only : (h : ℕ → ℕ) (n w c : ℕ) → ((k : ℕ) → k ≢ w → h k ≡ 0) → h w ≤ c → sum_below h n ≤ c
only h zero w c none top = omega arith
only h (suc n) w c none top = elim (test_cases n w) [
  | inl e ↦
      let rest : sum_below h n ≤ 0 = none_below n (λ k l. none k (λ s. let z : k ≡ n = s ∙ sym e in omega (arith, z, l))) in
      let at : h n ≤ c = rw e top in
      omega (arith, rest, at)
  | inr ne ↦ let last = none n ne in omega (arith, last, only h n w c none top)
]
  where
    none_below : (m : ℕ) → ((k : ℕ) → k < m → h k ≡ 0) → sum_below h m ≤ 0
    none_below zero f = omega arith
    none_below (suc m) f = let last = f m (omega arith) in omega (arith, last, none_below m (λ k l. f k (omega arith)))

-- some place has it
has_at : (h : ℕ → ℕ) (n w c : ℕ) → w < n → c ≤ h w → c ≤ sum_below h n
has_at h zero w c l top = absurd (omega arith)
has_at h (suc n) w c l top = elim (test_cases w n) [
  | inl e ↦ let at : c ≤ h n = rw (sym e) top in omega (arith, at)
  | inr ne ↦ omega (arith, has_at h n w c (omega arith) top)
]

-- ---- the connections of all islands, over the wires

module _ (islands wires : ℕ) (size : ℕ → ℕ) (near far : ℕ → IslandPlace) (lane : ℕ → Option ℕ) (cost : ℕ → ℕ → ℕ) where
  abbrev hit : IslandPlace → ℕ → ℕ → Bool
  hit p b q = (p.island == b) && (p.at == q)

  abbrev near_part : ℕ → ℕ → ℕ → ℕ
  near_part b q u = when (hit (near u) b q) (cost b q)

  abbrev far_part : ℕ → ℕ → ℕ → ℕ
  far_part b q u = if_lane (lane u) (when (hit (far u) b q) (cost b q))

  hit_here : (b q : ℕ) → hit (record { island = b; at = q }) b q ≡ true
  hit_here b q = rw (eq_refl b, eq_refl q) refl

  -- one place has one cost
  one_place : (p : IslandPlace) → sum_below (λ b. sum_below (λ q. when (hit p b q) (cost b q)) (size b)) islands ≤ cost p.island p.at
  one_place p = only (λ b. sum_below (λ q. when (hit p b q) (cost b q)) (size b)) islands p.island (cost p.island p.at)
      (λ b ne. sum_same (λ q. when (hit p b q) (cost b q)) (λ q. 0) (size b) (λ q. rw (eq_other p.island b (λ e. ne (sym e))) refl) ∙ sum_none (size b))
      (only (λ q. when (hit p p.island q) (cost p.island q)) (size p.island) p.at (cost p.island p.at) (λ q ne. missed q ne) at_it)
    where
      missed : (q : ℕ) → q ≢ p.at → when (hit p p.island q) (cost p.island q) ≡ 0
      missed q ne = rw (eq_refl p.island, eq_other p.at q (λ e. ne (sym e))) refl

      at_it : when (hit p p.island p.at) (cost p.island p.at) ≤ cost p.island p.at
      at_it = rw (eq_refl p.island, eq_refl p.at) (omega arith)

  module _ (owner : (b q : ℕ) → b < islands → q < size b → (u : ℕ) × ((u < wires) × ((near u ≡ record { island = b; at = q }) ⊎ ((s : ℕ) × ((lane u ≡ Some s) × (far u ≡ record { island = b; at = q })))))) where
    each : (b q : ℕ) → b < islands → q < size b → cost b q ≤ sum_below (λ u. near_part b q u + far_part b q u) wires
    each b q hb hq =
        let o = owner b q hb hq in
        has_at (λ u. near_part b q u + far_part b q u) wires o.0 (cost b q) o.1.0 (by o.0 o.1.1)
      where
        by : (u : ℕ) → (near u ≡ record { island = b; at = q }) ⊎ ((s : ℕ) × ((lane u ≡ Some s) × (far u ≡ record { island = b; at = q }))) → cost b q ≤ near_part b q u + far_part b q u
        by u (inl e) = let some : near_part b q u ≡ cost b q = rw (e, hit_here b q) refl in omega (arith, some)
        by u (inr e) = let some : far_part b q u ≡ cost b q = rw (e.1.0, e.1.1, hit_here b q) refl in omega (arith, some)

    -- the cost of all connections of all islands
    all_costs : sum_below (λ b. sum_below (λ q. cost b q) (size b)) islands ≤ sum_below (λ u. cost (near u).island (near u).at + if_lane (lane u) (cost (far u).island (far u).at)) wires
    all_costs =
        let first : sum_below (λ b. sum_below (λ q. cost b q) (size b)) islands ≤ sum_below (λ b. sum_below (λ q. sum_below (λ u. near_part b q u + far_part b q u) wires) (size b)) islands =
        sum_le _ _ islands (λ b hb. sum_le _ _ (size b) (λ q hq. each b q hb hq)) in
        let inner : sum_below (λ b. sum_below (λ q. sum_below (λ u. near_part b q u + far_part b q u) wires) (size b)) islands ≡ sum_below (λ b. sum_below (λ u. sum_below (λ q. near_part b q u + far_part b q u) (size b)) wires) islands =
        sum_same _ _ islands (λ b. sum_swap (λ q u. near_part b q u + far_part b q u) (size b) wires) in
        let outer : sum_below (λ b. sum_below (λ u. sum_below (λ q. near_part b q u + far_part b q u) (size b)) wires) islands ≡ sum_below (λ u. sum_below (λ b. sum_below (λ q. near_part b q u + far_part b q u) (size b)) islands) wires =
        sum_swap (λ b u. sum_below (λ q. near_part b q u + far_part b q u) (size b)) islands wires in
        let last : sum_below (λ u. sum_below (λ b. sum_below (λ q. near_part b q u + far_part b q u) (size b)) islands) wires ≤ sum_below (λ u. cost (near u).island (near u).at + if_lane (lane u) (cost (far u).island (far u).at)) wires =
        sum_le _ _ wires (λ u hu. wire_cost u) in
        omega (arith, first, inner, outer, last)
      where
        lane_cost : (u : ℕ) (t : Option ℕ) → sum_below (λ b. sum_below (λ q. if_lane t (when (hit (far u) b q) (cost b q))) (size b)) islands ≤ if_lane t (cost (far u).island (far u).at)
        lane_cost u (Some s) = one_place (far u)
        lane_cost u None = let none : sum_below (λ b. sum_below (λ q. 0) (size b)) islands ≡ 0 = sum_same _ (λ b. 0) islands (λ b. sum_none (size b)) ∙ sum_none islands in omega (arith, none)

        wire_cost : (u : ℕ) → sum_below (λ b. sum_below (λ q. near_part b q u + far_part b q u) (size b)) islands ≤ cost (near u).island (near u).at + if_lane (lane u) (cost (far u).island (far u).at)
        wire_cost u =
            let split : sum_below (λ b. sum_below (λ q. near_part b q u + far_part b q u) (size b)) islands ≡ sum_below (λ b. sum_below (λ q. near_part b q u) (size b)) islands + sum_below (λ b. sum_below (λ q. far_part b q u) (size b)) islands =
            sum_same _ (λ b. sum_below (λ q. near_part b q u) (size b) + sum_below (λ q. far_part b q u) (size b)) islands (λ b. sum_add (λ q. near_part b q u) (λ q. far_part b q u) (size b))
            ∙ sum_add (λ b. sum_below (λ q. near_part b q u) (size b)) (λ b. sum_below (λ q. far_part b q u) (size b)) islands in
            let a = one_place (near u) in
            let b = lane_cost u (lane u) in
            omega (arith, split, a, b)

-- ---- the count of the wires

lane_there : (ws : List Edge) (u : ℕ) (v : Edge) → slice_get ws u ≡ Some v → lane_at ws u ≡ v.lane
lane_there [] u v e = cc
lane_there (w ∷ ws) zero v e = cc
lane_there (w ∷ ws) (suc u) v e = lane_there ws u v e

need_sum : (vs : List Edge) (i : ℕ) (f : ℕ → ℕ) → need_from i vs f ≡ sum_below (λ u. units_of (lane_at vs u) (f (i + u))) (length vs)
need_sum [] i f = refl
need_sum (v ∷ vs) i f =
    let first : sum_below (λ u. units_of (lane_at (v ∷ vs) u) (f (i + u))) (length (v ∷ vs)) ≡ units_of v.lane (f (i + 0)) + sum_below (λ u. units_of (lane_at vs u) (f (i + suc u))) (length vs) =
    sum_first (λ u. units_of (lane_at (v ∷ vs) u) (f (i + u))) (length vs) in
    let later : sum_below (λ u. units_of (lane_at vs u) (f (i + suc u))) (length vs) ≡ sum_below (λ u. units_of (lane_at vs u) (f ((i + 1) + u))) (length vs) =
    sum_same _ _ (length vs) (λ u. let on : i + suc u ≡ (i + 1) + u = omega arith in rw on refl) in
    let place : i + 0 ≡ i = omega arith in
    let here : units_of v.lane (f (i + 0)) ≡ units_of v.lane (f i) = rw place refl in
    let rest = need_sum vs (i + 1) f in
    omega (arith, first, later, here, rest)

module _ {N : Type 0} (port_state : N → View → Type 0) (law : N → N → View → List (List Item) → List (List Item) → Type 0) (asking : N → View → Type 0) (moves : N → List ℕ)
    (g : Graph) (nets : ℕ → Net N) (s : Seats) (asked cost : ℕ → ℕ) (islands : ℕ) (covers : Covers g nets s) (settled : (b : ℕ) → Settled port_state law asking moves (nets b)) (owned : Owned g nets s islands)
    (lanes : LanesCost g nets s asked cost) where
  abbrev all : Account N
  all = joined_account nets s asked

  -- what a connection costs
  abbrev spent_at : ℕ → ℕ → ℕ
  spent_at b q = spent (wire_at (nets b) q).wire (is_queued (nets b).queue q)

  abbrev near_cost : ℕ → ℕ
  near_cost u = spent_at (s.near u).island (s.near u).at

  abbrev far_cost : ℕ → ℕ
  far_cost u = spent_at (s.far u).island (s.far u).at

  abbrev lane : ℕ → Option ℕ
  lane u = lane_at g.wires u

  below : (ws : List Edge) (u : ℕ) (v : Edge) → slice_get ws u ≡ Some v → u < length ws
  below [] u v e = cc
  below (w ∷ ws) zero v e = omega arith
  below (w ∷ ws) (suc u) v e = omega (arith, below ws u v e)

  owner : (b q : ℕ) → b < islands → q < length (nets b).wires
      → (u : ℕ) × ((u < length g.wires) × ((s.near u ≡ record { island = b; at = q }) ⊎ ((z : ℕ) × ((lane u ≡ Some z) × (s.far u ≡ record { island = b; at = q })))))
  owner b q hb hq = let o = owned.owner b q hb hq in (o.0, (below g.wires o.0 o.1.0 o.1.1.0, by o.0 o.1.0 o.1.1.0 o.1.1.1 o.1.0.lane refl))
    where
      by : (u : ℕ) (v : Edge) → slice_get g.wires u ≡ Some v → (s.near u ≡ record { island = b; at = q }) ⊎ (s.far u ≡ record { island = b; at = q }) → (l : Option ℕ) → v.lane ≡ l
          → (s.near u ≡ record { island = b; at = q }) ⊎ ((z : ℕ) × ((lane u ≡ Some z) × (s.far u ≡ record { island = b; at = q })))
      by u v e (inl n) l is = inl n
      by u v e (inr f) None is = inl (sym (covers.fused u v e is) ∙ f)
      by u v e (inr f) (Some z) is = inr (z, (lane_there g.wires u v e ∙ is, f))

  sent_there : (u : ℕ) → u < length g.wires → sent_at (picture_counts all g) u ≡ elements (all.near u).wire.sent
  sent_there u h =
      let v = get_there g.wires u h in
      let none : 0 + u ≡ u = omega arith in
      let at = counts_at all 0 g.wires u v.0 v.1 in
      sent_by (picture_counts all g) u (wire_count v.0.lane (all.near u) (asked u)) (rw none at at)
    where
      sent_by : (cs : List WireCount) (u : ℕ) (c : WireCount) → slice_get cs u ≡ Some c → sent_at cs u ≡ c.sent
      sent_by cs u c e = ap (λ (o : Option WireCount). elim o as (λ _. ℕ) [ Some d ↦ d.sent | None ↦ 0 ]) e

  -- one wire
  wire_units : (u : ℕ) → u < length g.wires → ((near_cost u + if_lane (lane u) (far_cost u)) + if_lane (lane u) (cost u)) + 1 ≤ units_of (lane u) (sent_at (picture_counts all g) u)
  wire_units u h = let v = get_there g.wires u h in rw (sent_there u h, lane_there g.wires u v.0 v.1) (by v.0 v.1 v.0.lane refl)
    where
      near_sound : IsSound (all.near u).wire (is_queued (nets (s.near u).island).queue (s.near u).at)
      near_sound = (settled (s.near u).island).sound (s.near u).at (near_there g nets s covers u h)

      far_sound : IsSound (all.far u).wire (is_queued (nets (s.far u).island).queue (s.far u).at)
      far_sound = (settled (s.far u).island).sound (s.far u).at (far_there g nets s covers u h)

      by : (v : Edge) → slice_get g.wires u ≡ Some v → (l : Option ℕ) → v.lane ≡ l → ((near_cost u + if_lane l (far_cost u)) + if_lane l (cost u)) + 1 ≤ units_of l (elements (all.near u).wire.sent)
      by v e None is = let c = connection_cost (all.near u).wire (is_queued (nets (s.near u).island).queue (s.near u).at) near_sound in omega (arith, c)
      by v e (Some z) is =
          let k = lanes u v z e is in
          let c = paid v.keep z (all.near u) (all.far u) (is_queued (nets (s.near u).island).queue (s.near u).at) (is_queued (nets (s.far u).island).queue (s.far u).at) (asked u) near_sound far_sound k.0 in
          let same = k.1 in
          omega (arith, c, same)

  pub all_paid : (sum_below (λ b. total_cost (nets b)) islands + over_lanes g cost) + length g.wires ≤ count_needed g (picture_counts all g)
  all_paid =
      let n = length g.wires in
      let first : sum_below (λ b. total_cost (nets b)) islands ≤ sum_below (λ u. near_cost u + if_lane (lane u) (far_cost u)) (length g.wires) = all_costs islands (length g.wires) (λ b. length (nets b).wires) s.near s.far lane spent_at owner in
      let two : sum_below (λ u. (near_cost u + if_lane (lane u) (far_cost u)) + if_lane (lane u) (cost u)) (length g.wires) ≡ sum_below (λ u. near_cost u + if_lane (lane u) (far_cost u)) (length g.wires) + over_lanes g cost =
      sum_add (λ u. near_cost u + if_lane (lane u) (far_cost u)) (λ u. if_lane (lane u) (cost u)) (length g.wires) in
      let three : sum_below (λ u. ((near_cost u + if_lane (lane u) (far_cost u)) + if_lane (lane u) (cost u)) + 1) (length g.wires) ≡ sum_below (λ u. (near_cost u + if_lane (lane u) (far_cost u)) + if_lane (lane u) (cost u)) (length g.wires) + sum_below (λ u. 1) (length g.wires) =
      sum_add (λ u. (near_cost u + if_lane (lane u) (far_cost u)) + if_lane (lane u) (cost u)) (λ u. 1) (length g.wires) in
      let ones = sum_ones (length g.wires) in
      let most : sum_below (λ u. ((near_cost u + if_lane (lane u) (far_cost u)) + if_lane (lane u) (cost u)) + 1) (length g.wires) ≤ sum_below (λ u. units_of (lane u) (sent_at (picture_counts all g) u)) (length g.wires) = sum_le _ _ (length g.wires) wire_units in
      let need : count_needed g (picture_counts all g) ≡ sum_below (λ u. units_of (lane u) (sent_at (picture_counts all g) (0 + u))) (length g.wires) = need_sum g.wires 0 (sent_at (picture_counts all g)) in
      let same : sum_below (λ u. units_of (lane u) (sent_at (picture_counts all g) (0 + u))) (length g.wires) ≡ sum_below (λ u. units_of (lane u) (sent_at (picture_counts all g) u)) (length g.wires) =
      sum_same _ _ (length g.wires) (λ u. let none : 0 + u ≡ u = omega arith in rw none refl) in
      omega (arith, first, two, three, ones, most, need, same)
