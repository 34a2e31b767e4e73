-- What the run of a blueprint's islands takes of memory before its files are opened.
use Rattle.std.specs.Prelude.{◌≡◌, ◌≤◌, List, [], length, vec_capacity}
use Rattle.blue_check.specs.Wires.{blueprint_wires}
use Rattle.island_plans.specs.LaneEnds.{AreAllEnds}
use Rattle.island_parts.specs.Room as ends
use Rattle.island_plans.specs.Making as bodies
use Rattle.island_plans.specs.Plans.{IsPlans}
use Rattle.island_runs.specs.declared.prepare.Prepared.{Prepared}

-- the plans of the islands of their blueprint, both ends of all lanes, and empty lists with room for all that the run puts there
pub record IsPrepared {S D L H B : Type 0} (p : Prepared S D L H B) : Type 0 where
  pub plans_are : IsPlans p.plans
  pub ends_are : AreAllEnds p.plans.lanes.items p.plans.count p.ends
  pub none_started : p.started.items ≡ []
  pub room_to_start : p.plans.count ≤ vec_capacity p.started
  pub none_unmade : p.unmade.items ≡ []
  pub room_to_unmake : p.plans.count ≤ vec_capacity p.unmade
  pub bodies_room : bodies.IsRoomForBodies p.plans.ends.wires.items p.plans.lanes.items p.plans.count p.bodies
  pub ends_room : ends.IsRoomForEnds p.plans.ends p.plans.count p.room
  pub none_asked : p.asked.items ≡ []
  pub room_to_ask : length p.plans.lanes.items ≤ vec_capacity p.asked
  pub none_counted : p.counts.items ≡ []
  pub room_to_count : length (blueprint_wires p.plans.blueprint.value) ≤ vec_capacity p.counts
