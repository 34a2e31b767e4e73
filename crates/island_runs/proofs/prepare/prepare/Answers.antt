-- The goals of `prepare::prepare` that the search leaves.
use Rattle.std.proofs.Common.{◌≡◌, ◌∙◌, ◌<◌, ℕ, ap, length, map, sym, subst, arith}
use Rattle.std.specs.List.{All}
use Rattle.std.proofs.lemmas.List.{length-map}
use Rattle.blue_check.specs.Wires.{blueprint_wires}
use Rattle.island_plans.specs.LaneEnds.{CanAllBeMade, AreRising, AreAllEnds}
use Rattle.island_plans.specs.Ends.{wire_home}
use Rattle.island_plans.specs.Making.{IsRoomForBodies}
use Rattle.island_runs.proofs.prepare.prepare.Goals as goal

pub ends_of-requires-clause-can : goal.ends_of-requires-clause-can
ends_of-requires-clause-can g c = subst (λ lanes. CanAllBeMade c.in_ok-plans.plans.count lanes) (sym c.deref.ensures.value) (c.filled_islands_are_seated.ensures.lanes c.in_ok-plans.plans c.in_ok-plans.ensures.plans)

pub ends_of-requires-clause-order : goal.ends_of-requires-clause-order
ends_of-requires-clause-order g c = subst AreRising (sym c.deref.ensures.value) (c.filled_islands_are_seated.ensures.rise c.in_ok-plans.plans c.in_ok-plans.ensures.plans)

pub of-requires-clause-wires : goal.of-requires-clause-wires
of-requires-clause-wires g c = subst (λ homes. All (λ h. h < c.in_ok-plans.plans.count) homes) (sym c.deref-2.ensures.value) (c.filled_islands_are_seated.ensures.homes c.in_ok-plans.plans c.in_ok-plans.ensures.plans)

pub of-requires-clause-lanes : goal.of-requires-clause-lanes
of-requires-clause-lanes g c = subst (λ lanes. CanAllBeMade c.in_ok-plans.plans.count lanes) (sym c.deref-3.ensures.value) (c.filled_islands_are_seated.ensures.lanes c.in_ok-plans.plans c.in_ok-plans.ensures.plans)

pub of-requires-2 : goal.of-requires-2
of-requires-2 g c = c.filled_islands_are_seated.ensures.homes c.in_ok-plans.plans c.in_ok-plans.ensures.plans

pub returns-clause-prepared : goal.returns-clause-prepared
returns-clause-prepared g c =
    let p = c.in_ok-plans.plans in
    let is = c.in_ok-plans.ensures.plans in
    let wires : length p.ends.wires.items ≡ length (blueprint_wires p.blueprint.value) = ap length is.ends_are.wires_are ∙ length-map (blueprint_wires p.blueprint.value) (wire_home p.homes.items) in
    record {
      plans_are = is;
      ends_are = subst (λ lanes. AreAllEnds lanes p.count c.in_ok-ends.ends) c.deref.ensures.value c.in_ok-ends.ensures;
      none_started = c.in_ok-with_capacity.ensures.items;
      room_to_start = omega (arith, c.in_ok-with_capacity.ensures.capacity);
      none_unmade = c.in_ok-with_capacity-2.ensures.items;
      room_to_unmake = omega (arith, c.in_ok-with_capacity-2.ensures.capacity);
      bodies_room = subst (λ homes. IsRoomForBodies homes p.lanes.items p.count c.in_ok-bodies.bodies) c.deref-2.ensures.value (subst (λ lanes. IsRoomForBodies c.deref-2.result.now lanes p.count c.in_ok-bodies.bodies) c.deref-3.ensures.value c.in_ok-bodies.ensures);
      ends_room = c.in_ok-room.ensures;
      none_asked = c.in_ok-asked.ensures.items;
      room_to_ask = omega (arith, c.in_ok-asked.ensures.capacity, c.len.ensures, p.lanes.ok.0);
      none_counted = c.in_ok-counts.ensures.items;
      room_to_count = omega (arith, c.in_ok-counts.ensures.capacity, c.len-2.ensures, p.ends.wires.ok.0, wires);
    }
