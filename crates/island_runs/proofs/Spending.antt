-- Each element that was pushed on a wire took a unit that the bodies spent, and each that was taken off a lane another.
use Rattle.std.proofs.Common.{◌≡◌, ℕ, zero, suc, ◌+◌, ◌-◌, ◌<◌, ◌≤◌, List, [], ◌∷◌, length, Option, None, Some, refl, ap, sym, ◌∙◌, subst, arith}
use Rattle.std.specs.Prelude.{slice_get, slice_index}
use Rattle.std.specs.List.{sum_by}
use Rattle.std.proofs.lemmas.List.{length-map}
use Rattle.std.proofs.lemmas.Option.{slice_get_within}
use Rattle.stream_io.specs.State.{SourceState, DrainState}
use Rattle.stream_model.specs.Graph.{Graph, Edge}
use Rattle.elem_core.specs.Items.{elements}
use Rattle.port_core.specs.Counts.{asks}
use Rattle.fused_net.specs.Costs.{sum_below, all_asks}
use Rattle.fused_net.specs.Net.{wire_at}
use Rattle.fused_net.proofs.Sums.{sum_le}
use Rattle.interpreter.specs.declared.parts.Seated.{Seated}
use Rattle.nodes.specs.declared.node.IslandNode.{IslandNode}
use Rattle.run_laws.specs.Account.{Account}
use Rattle.run_laws.specs.Pictures.{counts_from, picture_counts}
use Rattle.run_laws.specs.Seats.{IslandPlace, joined_account}
use Rattle.run_laws.specs.Units.{lane_at, if_lane, over_lanes, LanesCost}
use Rattle.run_laws.proofs.Costs.{taken_most}
use Rattle.lane_core.specs.Bodies.{AllOf, EachOf}
use Rattle.lane_core.specs.Crossings.{AllJoined}
use Rattle.lane_core.specs.declared.crossing.Crossing.{Crossing}
use Rattle.scatter.specs.Shares.{rank_of}
use Rattle.island_parts.specs.Whole.{whole_links, link_home}
use Rattle.island_parts.proofs.Restricting.{home_at, rank_is, rank_one}
use Rattle.island_parts.proofs.Wiring.{there}
use Rattle.bodies_run.specs.Islands.{place_homes, link_homes, link_place, seats_by_islands}
use Rattle.bodies_run.proofs.Leading.{islands}
use Rattle.bodies_run.proofs.Standing.{near_there}
use Rattle.island_body.specs.Keeping.{BodyKeeps, BodyGoes}
use Rattle.island_body.specs.Meeting.{BodiesJoined}
use Rattle.island_body.specs.declared.body.Body.{Body}
use Rattle.bodies_run.specs.Bodies.{net_of, AskedAre, AreBodiesOf}
use Rattle.bodies_run.proofs.Nets.{Went, went, nets_cover}
use Rattle.bodies_run.proofs.Paying.{costs}
use Rattle.bodies_run.specs.Counts.{all_sent, off_lane, taken_off}
use Rattle.island_runs.proofs.Totals.{sum_places}
use Rattle.stream_model.specs.Linear.{Book}

-- ---- one wire

sum_first : (f : ℕ → ℕ) (n : ℕ) → sum_below f (suc n) ≡ f 0 + sum_below (λ k. f (suc k)) n
sum_first f zero = omega arith
sum_first f (suc n) = omega (arith, sum_first f n)

-- what was sent on a connection is at most the asks that came to its output
pub sent_asked : {N : Type 0} (a : Account N) (u : ℕ) (ws : List Edge) → all_sent (counts_from a u ws) ≤ sum_below (λ k. asks (a.near (u + k)).wire) (length ws)
sent_asked a u [] = omega arith
sent_asked a u (v ∷ vs) =
    let first : sum_below (λ k. asks (a.near (u + k)).wire) (suc (length vs)) ≡ asks (a.near (u + 0)).wire + sum_below (λ k. asks (a.near (u + suc k)).wire) (length vs) = sum_first (λ k. asks (a.near (u + k)).wire) (length vs) in
    let none : u + 0 ≡ u = omega arith in
    let here : asks (a.near (u + 0)).wire ≡ asks (a.near u).wire = ap (λ k. asks (a.near k).wire) none in
    let later : sum_below (λ k. asks (a.near ((u + 1) + k)).wire) (length vs) ≤ sum_below (λ k. asks (a.near (u + suc k)).wire) (length vs) =
    sum_le (λ k. asks (a.near ((u + 1) + k)).wire) (λ k. asks (a.near (u + suc k)).wire) (length vs) (λ k lt. let on : (u + 1) + k ≡ u + suc k = omega arith in let same : asks (a.near ((u + 1) + k)).wire ≡ asks (a.near (u + suc k)).wire = ap (λ j. asks (a.near j).wire) on in omega (arith, same)) in
    let rest = sent_asked a (u + 1) vs in
    omega (arith, first, here, later, rest)

-- ---- one lane

-- at least so many elements were taken off it as its own cost says
off_at : (o : Option ℕ) (n cost : ℕ) → ((size : ℕ) → o ≡ Some size → n ≤ cost + size) → off_lane o n ≤ if_lane o cost
off_at None n cost h = omega arith
off_at (Some size) n cost h = let most = h size refl in omega (arith, most)

-- of the wires from number u on, where each lane cost so much
pub taken_paid : {N : Type 0} (a : Account N) (cost : ℕ → ℕ) (u : ℕ) (ws : List Edge) → ((k : ℕ) (v : Edge) (size : ℕ) → slice_get ws k ≡ Some v → v.lane ≡ Some size → elements (a.near (u + k)).wire.sent ≤ cost (u + k) + size)
    → taken_off ws (counts_from a u ws) ≤ sum_below (λ k. if_lane (lane_at ws k) (cost (u + k))) (length ws)
taken_paid a cost u [] h = omega arith
taken_paid a cost u (v ∷ vs) h =
    let first : sum_below (λ k. if_lane (lane_at (v ∷ vs) k) (cost (u + k))) (suc (length vs)) ≡ if_lane v.lane (cost (u + 0)) + sum_below (λ k. if_lane (lane_at vs k) (cost (u + suc k))) (length vs) = sum_first (λ k. if_lane (lane_at (v ∷ vs) k) (cost (u + k))) (length vs) in
    let none : u + 0 ≡ u = omega arith in
    let here : off_lane v.lane (elements (a.near u).wire.sent) ≤ if_lane v.lane (cost u) = off_at v.lane (elements (a.near u).wire.sent) (cost u) (λ size is. subst (λ (j : ℕ). elements (a.near j).wire.sent ≤ cost j + size) none (h 0 v size refl is)) in
    let same : if_lane v.lane (cost (u + 0)) ≡ if_lane v.lane (cost u) = ap (λ (j : ℕ). if_lane v.lane (cost j)) none in
    let rest : taken_off vs (counts_from a (u + 1) vs) ≤ sum_below (λ k. if_lane (lane_at vs k) (cost ((u + 1) + k))) (length vs) =
    taken_paid a cost (u + 1) vs (λ k w size at is. let on : u + suc k ≡ (u + 1) + k = omega arith in subst (λ (j : ℕ). elements (a.near j).wire.sent ≤ cost j + size) on (h (suc k) w size at is)) in
    let later : sum_below (λ k. if_lane (lane_at vs k) (cost ((u + 1) + k))) (length vs) ≤ sum_below (λ k. if_lane (lane_at vs k) (cost (u + suc k))) (length vs) =
    sum_le (λ k. if_lane (lane_at vs k) (cost ((u + 1) + k))) (λ k. if_lane (lane_at vs k) (cost (u + suc k))) (length vs) (λ k lt. let on : (u + 1) + k ≡ u + suc k = omega arith in let is : if_lane (lane_at vs k) (cost ((u + 1) + k)) ≡ if_lane (lane_at vs k) (cost (u + suc k)) = ap (λ j. if_lane (lane_at vs k) (cost j)) on in omega (arith, is)) in
    omega (arith, first, here, same, rest, later)

-- ---- places

-- two items of one home and one rank are one
ranks_apart : (hs : List ℕ) (i j : ℕ) → i < length hs → j < length hs → slice_index hs i ≡ slice_index hs j → rank_of hs i ≡ rank_of hs j → i ≡ j
ranks_apart hs i j a b home rank = rank_one hs i j (slice_index hs j) (home_at hs i (slice_index hs j) a home) (home_at hs j (slice_index hs j) b refl) (sym (rank_is hs i (slice_index hs j) home) ∙ (rank ∙ rank_is hs j (slice_index hs j) refl))

module _ {S D L H B : Type 0} (sources : S → SourceState) (drains : D → DrainState) (book : Book) (g : Graph) (homes : List ℕ) (count : ℕ) (ws : List Edge) (nodes : List (Seated S D L H B)) (crossings : List Crossing) (begun now : List (Body S D L H B))
    (m : AreBodiesOf sources drains book g homes count ws nodes crossings begun) (goes : EachOf BodyGoes begun now) (keep : AllOf (BodyKeeps sources drains book) now) (all : ℕ → ℕ) (asked_are : AskedAre now crossings all) (all_joined : AllJoined BodiesJoined now crossings) where
  goes_on : (k : ℕ) (a b : Body S D L H B) → slice_get begun k ≡ Some a → slice_get now k ≡ Some b → Went a b
  goes_on k a b x y = went a b (goes.each k a b x y)

  abbrev account : Account (IslandNode S D L H B)
  account = joined_account (net_of now) (seats_by_islands homes ws) all

  abbrev asks_at : ℕ → ℕ → ℕ
  asks_at b q = asks (wire_at (net_of now b) q).wire

  -- the connection at an output is in an island, at a place of it
  within : (u : ℕ) → u < length ws → ((link_place homes ws u).island < count) × ((link_place homes ws u).at < length (net_of now (link_place homes ws u).island).wires)
  within u lt =
      let v = there ws u lt in
      let cover = nets_cover sources drains book g homes count ws nodes crossings begun m now goes.count goes_on in
      ((islands homes count ws nodes m.seated u v.0 v.1).0, cover.near_within u v.0 (ap (λ vs. slice_get vs u) m.graph.wires_are ∙ v.1))

  linked : (u : ℕ) → u < length ws → u < length (link_homes homes ws)
  linked u lt =
      let v = there ws u lt in
      let l = near_there homes count ws nodes m.seated u v.0 v.1 in
      let here = slice_get_within (whole_links (length homes) ws) u l.0 l.1.0 in
      let many = length-map (whole_links (length homes) ws) (link_home (place_homes homes ws)) in
      omega (arith, here, many)

  apart : (u w : ℕ) → u < length ws → w < length ws → link_place homes ws u ≡ link_place homes ws w → u ≡ w
  apart u w a b e = ranks_apart (link_homes homes ws) u w (linked u a) (linked w b) (ap (λ (p : IslandPlace). p.island) e) (ap (λ (p : IslandPlace). p.at) e)

  placed : sum_below (λ u. asks_at (link_place homes ws u).island (link_place homes ws u).at) (length ws) ≤ sum_below (λ b. all_asks (net_of now b)) count
  placed = sum_places count (λ b. length (net_of now b).wires) (length ws) (link_place homes ws) asks_at within apart

  sent_placed : all_sent (counts_from account 0 ws) ≤ sum_below (λ u. asks_at (link_place homes ws u).island (link_place homes ws u).at) (length ws)
  sent_placed =
      let sent = sent_asked account 0 ws in
      let same : sum_below (λ k. asks (account.near (0 + k)).wire) (length ws) ≤ sum_below (λ u. asks_at (link_place homes ws u).island (link_place homes ws u).at) (length ws) =
      sum_le (λ k. asks (account.near (0 + k)).wire) (λ u. asks_at (link_place homes ws u).island (link_place homes ws u).at) (length ws) (λ k lt. let none : 0 + k ≡ k = omega arith in let here : asks (account.near (0 + k)).wire ≡ asks (account.near k).wire = ap (λ j. asks (account.near j).wire) none in omega (arith, here)) in
      omega (arith, sent, same)

  -- of each lane its cost has what was sent, but for what has a place in it
  taken_there : (cost : ℕ → ℕ) → LanesCost g (net_of now) (seats_by_islands homes ws) all cost → taken_off g.wires (picture_counts account g) ≤ over_lanes g cost
  taken_there cost lanes =
      let most = taken_paid account cost 0 g.wires (λ k v size at is.
      let none : 0 + k ≡ k = omega arith in
      let keeps = lanes k v size at is in
      let few = taken_most v.keep size (account.near k) (account.far k) (all k) keeps.0 in
      let paid = keeps.1 in
      let there : elements (account.near k).wire.sent ≤ cost k + size = omega (arith, few, paid) in
      subst (λ (j : ℕ). elements (account.near j).wire.sent ≤ cost j + size) (sym none) there) in
      let same : sum_below (λ k. if_lane (lane_at g.wires k) (cost (0 + k))) (length g.wires) ≤ over_lanes g cost =
      sum_le (λ k. if_lane (lane_at g.wires k) (cost (0 + k))) (λ k. if_lane (lane_at g.wires k) (cost k)) (length g.wires) (λ k lt. let none : 0 + k ≡ k = omega arith in let is : if_lane (lane_at g.wires k) (cost (0 + k)) ≡ if_lane (lane_at g.wires k) (cost k) = ap (λ j. if_lane (lane_at g.wires k) (cost j)) none in omega (arith, is)) in
      omega (arith, most, same)

  pub spent : all_sent (picture_counts account g) + taken_off g.wires (picture_counts account g) ≤ sum_by (λ (b : Body S D L H B). b.spent) now
  spent =
      let sent = subst (λ (vs : List Edge). all_sent (counts_from account 0 vs) ≤ sum_below (λ u. asks_at (link_place homes ws u).island (link_place homes ws u).at) (length ws)) (sym m.graph.wires_are) sent_placed in
      let c = costs sources drains book g homes count ws nodes crossings begun now m goes keep all asked_are all_joined in
      let taken = taken_there c.0 c.1.0 in
      let paid = c.1.1.1 in
      omega (arith, sent, placed, taken, paid)
