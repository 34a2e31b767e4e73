-- What bodies spend.
use Rattle.std.specs.Prelude.{slice_get, slice_index}
use Rattle.std.specs.List.{sum_by}
use Rattle.std.proofs.Common.{◌≡◌, ℕ, suc, ◌+◌, ◌≤◌, List, [], ◌∷◌, Some, length, refl, sym, ap, ◌∙◌, subst, arith}
use Rattle.std.proofs.lemmas.Option.{slice_get_within}
use Rattle.stream_io.specs.State.{SourceState, DrainState}
use Rattle.stream_model.specs.Graph.{Graph, Edge}
use Rattle.fused_net.specs.Costs.{sum_below, total_cost, all_asks}
use Rattle.fused_net.specs.Net.{Net}
use Rattle.fused_net.proofs.Reading.{some_same}
use Rattle.nodes.specs.declared.node.IslandNode.{IslandNode}
use Rattle.interpreter.specs.declared.parts.Seated.{Seated}
use Rattle.lane_core.specs.Ends.{taken_items, finds}
use Rattle.island_body.specs.Beside.{in_node, out_node}
use Rattle.island_body.specs.declared.output.OutputBoundary.{OutputBoundary}
use Rattle.island_body.specs.declared.input.IslandInput.{IslandInput}
use Rattle.run_laws.specs.Ends.{OutEnd, InEnd}
use Rattle.run_laws.specs.Units.{LanesCost, over_lanes}
use Rattle.bodies_run.specs.Islands.{seats_by_islands, AreSeated}
use Rattle.lane_core.specs.Bodies.{AllOf}
use Rattle.lane_core.specs.Crossings.{AllJoined}
use Rattle.lane_core.specs.declared.crossing.Crossing.{Crossing}
use Rattle.island_body.specs.Ends.{all_taken, all_finds}
use Rattle.island_body.specs.Keeping.{cost_of, BodyKeeps}
use Rattle.island_body.specs.Meeting.{BodiesJoined}
use Rattle.island_body.specs.declared.body.Body.{Body}
use Rattle.bodies_run.specs.Bodies.{net_of, IsCrossingOf, AreLanes, AskedAre}
use Rattle.bodies_run.proofs.Lanes.{kept_here, asked_here}
use Rattle.bodies_run.proofs.Nets.{stood}
use Rattle.bodies_run.proofs.Sums.{add_up, when_same, same_hit, other_hit, map_get, by_sum, add_le, add_both, none_up, only_one, sum_first, over, over_add, lane_there, over_one, over_all, over_once, over_each}
use Rattle.stream_model.specs.Linear.{Book}

-- the items that an input end took, where its lane is wire u, and the finds of an output end
abbrev took_of : IslandInput → ℕ
took_of x = length (taken_items x.boundary.lane)

abbrev found_of : OutputBoundary → ℕ
found_of o = finds o.lane

abbrev took_at : ℕ → IslandInput → ℕ
took_at u x = when_same x.wire u (took_of x)

abbrev found_at : ℕ → OutputBoundary → ℕ
found_at u o = when_same o.wire u (found_of o)

taken_up : (xs : List IslandInput) → all_taken xs ≡ add_up took_of xs
taken_up [] = refl
taken_up (x ∷ xs) = ap (λ (n : ℕ). took_of x + n) (taken_up xs)

finds_up : (xs : List OutputBoundary) → all_finds xs ≡ add_up found_of xs
finds_up [] = refl
finds_up (x ∷ xs) = ap (λ (n : ℕ). found_of x + n) (finds_up xs)

same_wire : (ws : List Edge) (u w : ℕ) (v z : Edge) → slice_get ws u ≡ Some v → slice_get ws w ≡ Some z → w ≡ u → z ≡ v
same_wire ws u w v z a b e = some_same z v (sym b ∙ (ap (slice_get ws) e ∙ a))

module _ {S D L H B : Type 0} where
  -- what a number read off each net is in all
  by_nets : (F : Net (IslandNode S D L H B) → ℕ) (now : List (Body S D L H B)) → add_up (λ (b : Body S D L H B). F b.island.net) now ≡ sum_below (λ k. F (net_of now k)) (length now)
  by_nets F [] = refl
  by_nets F (b ∷ bs) =
      let rest : add_up (λ (b : Body S D L H B). F b.island.net) bs ≡ sum_below (λ k. F (net_of bs k)) (length bs) = by_nets F bs in
      let first : sum_below (λ k. F (net_of (b ∷ bs) k)) (suc (length bs)) ≡ F b.island.net + sum_below (λ k. F (net_of bs k)) (length bs) = sum_first (λ k. F (net_of (b ∷ bs) k)) (length bs) in
      omega (arith, rest, first)

  -- what a body took off its lanes and found at them
  abbrev pub at_lanes : Body S D L H B → ℕ
  at_lanes b = all_taken b.ins.items + all_finds b.outs.items

  pub asks_paid : (sources : S → SourceState) (drains : D → DrainState) (book : Book) (now : List (Body S D L H B)) → AllOf (BodyKeeps sources drains book) now
      → sum_below (λ k. all_asks (net_of now k)) (length now) + add_up at_lanes now ≤ sum_by (λ (b : Body S D L H B). b.spent) now
  asks_paid sources drains book now keep =
      let spent = by_sum (λ (b : Body S D L H B). b.spent) now in
      let nets : add_up (λ (b : Body S D L H B). all_asks b.island.net) now ≡ sum_below (λ k. all_asks (net_of now k)) (length now) = by_nets all_asks now in
      let both : add_up (λ (b : Body S D L H B). all_asks b.island.net + at_lanes b) now ≡ add_up (λ (b : Body S D L H B). all_asks b.island.net) now + add_up at_lanes now = add_both (λ (b : Body S D L H B). all_asks b.island.net) at_lanes now in
      let most : add_up (λ (b : Body S D L H B). all_asks b.island.net + at_lanes b) now ≤ add_up (λ (b : Body S D L H B). b.spent) now = add_le (λ (b : Body S D L H B). all_asks b.island.net + at_lanes b) (λ (b : Body S D L H B). b.spent) now (λ k b at.
      let a = (keep k b at).laws.asks in let u = (keep k b at).charged in omega (arith, a, u)) in
      omega (arith, spent, nets, both, most)

  abbrev took_in : ℕ → Body S D L H B → ℕ
  took_in u b = add_up (took_at u) b.ins.items

  abbrev found_in : ℕ → Body S D L H B → ℕ
  found_in u b = add_up (found_at u) b.outs.items

  -- what the ends of wire u cost
  abbrev pub cost_at : List (Body S D L H B) → ℕ → ℕ
  cost_at now u = add_up (took_in u) now + add_up (found_in u) now

  module _ (sources : S → SourceState) (drains : D → DrainState) (book : Book) (g : Graph) (homes : List ℕ) (count : ℕ) (ws : List Edge) (nodes : List (Seated S D L H B)) (seated : AreSeated homes count ws nodes) (same : g.wires ≡ ws) (now : List (Body S D L H B)) (keep : AllOf (BodyKeeps sources drains book) now)
      (crossings : List Crossing) (l : AreLanes homes ws now crossings) where
    -- ---- all that was spent is spread over the lanes

    ins_over : add_up (λ (b : Body S D L H B). all_taken b.ins.items) now ≤ over ws (λ u. add_up (took_in u) now) (length ws)
    ins_over = over_all ws (λ (b : Body S D L H B). all_taken b.ins.items) took_in (length ws) now (λ k b at.
        let all : add_up took_of b.ins.items ≤ over ws (λ u. took_in u b) (length ws) =
        over_all ws took_of took_at (length ws) b.ins.items (λ j x here.
        let c = l.ins_are k j b x at here in
        over_one ws x.wire c.size (took_of x) (length ws) (slice_get_within ws x.wire c.wire c.is) (lane_there ws x.wire c.wire c.is ∙ c.lane)) in
        let is = taken_up b.ins.items in
        omega (arith, all, is))

    outs_over : add_up (λ (b : Body S D L H B). all_finds b.outs.items) now ≤ over ws (λ u. add_up (found_in u) now) (length ws)
    outs_over = over_all ws (λ (b : Body S D L H B). all_finds b.outs.items) found_in (length ws) now (λ k b at.
        let all : add_up found_of b.outs.items ≤ over ws (λ u. found_in u b) (length ws) =
        over_all ws found_of found_at (length ws) b.outs.items (λ j x here.
        let c = l.outs_are k j b x at here in
        over_one ws x.wire c.size (found_of x) (length ws) (slice_get_within ws x.wire c.wire c.is) (lane_there ws x.wire c.wire c.is ∙ c.lane)) in
        let is = finds_up b.outs.items in
        omega (arith, all, is))

    pub spent_over : sum_by (λ (b : Body S D L H B). b.spent) now ≤ sum_below (λ k. total_cost (net_of now k)) (length now) + over_lanes g (cost_at now)
    spent_over =
        let spent = by_sum (λ (b : Body S D L H B). b.spent) now in
        let most : add_up (λ (b : Body S D L H B). b.spent) now ≤ add_up cost_of now = add_le (λ (b : Body S D L H B). b.spent) cost_of now (λ k b at. (keep k b at).paid) in
        let one : add_up cost_of now ≡ add_up (λ (b : Body S D L H B). total_cost b.island.net) now + add_up (λ (b : Body S D L H B). all_taken b.ins.items + all_finds b.outs.items) now = add_both (λ (b : Body S D L H B). total_cost b.island.net) (λ (b : Body S D L H B). all_taken b.ins.items + all_finds b.outs.items) now in
        let two : add_up (λ (b : Body S D L H B). all_taken b.ins.items + all_finds b.outs.items) now ≡ add_up (λ (b : Body S D L H B). all_taken b.ins.items) now + add_up (λ (b : Body S D L H B). all_finds b.outs.items) now = add_both (λ (b : Body S D L H B). all_taken b.ins.items) (λ (b : Body S D L H B). all_finds b.outs.items) now in
        let nets : add_up (λ (b : Body S D L H B). total_cost b.island.net) now ≡ sum_below (λ k. total_cost (net_of now k)) (length now) = by_nets total_cost now in
        let ins = ins_over in
        let outs = outs_over in
        let both : over ws (cost_at now) (length ws) ≡ over ws (λ u. add_up (took_in u) now) (length ws) + over ws (λ u. add_up (found_in u) now) (length ws) = over_add ws (λ u. add_up (took_in u) now) (λ u. add_up (found_in u) now) (length ws) in
        let is : over_lanes g (cost_at now) ≡ over ws (cost_at now) (length ws) = ap (λ (z : List Edge). over z (cost_at now) (length z)) same in
        omega (arith, spent, most, one, two, nets, ins, outs, both, is)

    -- ---- and what the lanes cost was spent beside the asks

    ins_under : over ws (λ u. add_up (took_in u) now) (length ws) ≤ add_up (λ (b : Body S D L H B). all_taken b.ins.items) now
    ins_under = over_each ws (λ (b : Body S D L H B). all_taken b.ins.items) took_in (length ws) now (λ b.
        let all : over ws (λ u. took_in u b) (length ws) ≤ add_up took_of b.ins.items = over_each ws took_of took_at (length ws) b.ins.items (λ x. over_once ws x.wire (took_of x) (length ws)) in
        let is = taken_up b.ins.items in
        omega (arith, all, is))

    outs_under : over ws (λ u. add_up (found_in u) now) (length ws) ≤ add_up (λ (b : Body S D L H B). all_finds b.outs.items) now
    outs_under = over_each ws (λ (b : Body S D L H B). all_finds b.outs.items) found_in (length ws) now (λ b.
        let all : over ws (λ u. found_in u b) (length ws) ≤ add_up found_of b.outs.items = over_each ws found_of found_at (length ws) b.outs.items (λ o. over_once ws o.wire (found_of o) (length ws)) in
        let is = finds_up b.outs.items in
        omega (arith, all, is))

    pub spent_under : sum_below (λ k. all_asks (net_of now k)) (length now) + over_lanes g (cost_at now) ≤ sum_by (λ (b : Body S D L H B). b.spent) now
    spent_under =
        let asks = asks_paid sources drains book now keep in
        let two : add_up (λ (b : Body S D L H B). all_taken b.ins.items + all_finds b.outs.items) now ≡ add_up (λ (b : Body S D L H B). all_taken b.ins.items) now + add_up (λ (b : Body S D L H B). all_finds b.outs.items) now = add_both (λ (b : Body S D L H B). all_taken b.ins.items) (λ (b : Body S D L H B). all_finds b.outs.items) now in
        let ins = ins_under in
        let outs = outs_under in
        let both : over ws (cost_at now) (length ws) ≡ over ws (λ u. add_up (took_in u) now) (length ws) + over ws (λ u. add_up (found_in u) now) (length ws) = over_add ws (λ u. add_up (took_in u) now) (λ u. add_up (found_in u) now) (length ws) in
        let is : over_lanes g (cost_at now) ≡ over ws (cost_at now) (length ws) = ap (λ (z : List Edge). over z (cost_at now) (length z)) same in
        omega (arith, asks, two, ins, outs, both, is)

    -- ---- and of each lane only its own two ends cost anything

    module _ (u : ℕ) (v : Edge) (size : ℕ) (e : slice_get ws u ≡ Some v) (c : Crossing) (x : IsCrossingOf homes ws now u v size c) where
      took_here : add_up (took_in u) now ≡ took_of x.inp
      took_here =
          only_one (took_in u) now c.to x.to x.to_at (λ k b at ne. none_up (took_at u) b.ins.items (λ j y here. other_hit y.wire u (took_of y) (λ t.
          let z = l.ins_are k j b y at here in
          ne (sym z.home ∙ (ap (λ (w : Edge). slice_index homes w.to) (same_wire ws u y.wire v z.wire e z.is t) ∙ sym x.to_is)))))
          ∙ (only_one (took_at u) x.to.ins.items c.inp x.inp x.inp_at (λ j y here ne. other_hit y.wire u (took_of y) (λ t.
          (keep c.to x.to x.to_at).stands.apart.ins_apart j c.inp y.wire x.inp.wire (map_get (λ (z : IslandInput). z.wire) x.to.ins.items j y here) (map_get (λ (z : IslandInput). z.wire) x.to.ins.items c.inp x.inp x.inp_at) ne
          (ap (in_node x.to.island) (t ∙ sym x.inp_wire))))
          ∙ (ap (λ (w : ℕ). when_same x.inp.wire w (took_of x.inp)) (sym x.inp_wire) ∙ same_hit x.inp.wire (took_of x.inp)))

      found_here : add_up (found_in u) now ≡ found_of x.out
      found_here =
          only_one (found_in u) now c.from x.from x.from_at (λ k b at ne. none_up (found_at u) b.outs.items (λ j y here. other_hit y.wire u (found_of y) (λ t.
          let z = l.outs_are k j b y at here in
          ne (sym z.home ∙ (ap (λ (w : Edge). slice_index homes w.from) (same_wire ws u y.wire v z.wire e z.is t) ∙ sym x.from_is)))))
          ∙ (only_one (found_at u) x.from.outs.items c.out x.out x.out_at (λ j y here ne. other_hit y.wire u (found_of y) (λ t.
          (keep c.from x.from x.from_at).stands.apart.outs_apart j c.out y.wire x.out.wire (map_get (λ (z : OutputBoundary). z.wire) x.from.outs.items j y here) (map_get (λ (z : OutputBoundary). z.wire) x.from.outs.items c.out x.out x.out_at) ne
          (ap (out_node x.from.island) (t ∙ sym x.out_wire))))
          ∙ (ap (λ (w : ℕ). when_same x.out.wire w (found_of x.out)) (sym x.out_wire) ∙ same_hit x.out.wire (found_of x.out)))

      cost_is : cost_at now u ≡ took_of x.inp + found_of x.out
      cost_is = ap (λ (n : ℕ). n + add_up (found_in u) now) took_here ∙ ap (λ (n : ℕ). took_of x.inp + n) found_here

    module _ (all : ℕ → ℕ) (asked_are : AskedAre now crossings all) (joined : AllJoined BodiesJoined now crossings) where
      pub lanes_cost : LanesCost g (net_of now) (seats_by_islands homes ws) all (cost_at now)
      lanes_cost = λ u v size e s.
          let there : slice_get ws u ≡ Some v = subst (λ (l : List Edge). slice_get l u ≡ Some v) same e in
          let x = l.each u v size there s in
          let y = x.1.1.1 in
          let w = joined x.0 x.1.0 x.1.1.0 in
          let k = kept_here sources drains book homes count ws nodes seated now (λ k b at. stood sources drains book b (keep k b at)) u v size there s x.1.0 y w.0 (w.1 y.from y.to y.from_at y.to_at) (all u)
          (asked_here sources drains book g homes count ws nodes seated same now (λ k b at. stood sources drains book b (keep k b at)) crossings l all asked_are x.0 u v size x.1.0 y x.1.1.0) in
          (k.0, cost_is u v size there x.1.0 y ∙ (ap (λ (i : InEnd). length i.taken + found_of y.out) (sym k.1.1) ∙ ap (λ (o : OutEnd). length k.0.inp.taken + o.finds) (sym k.1.0)))
