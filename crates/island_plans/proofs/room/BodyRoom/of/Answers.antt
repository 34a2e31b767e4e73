-- The goals of `room::BodyRoom::of` that the search leaves.
use Rattle.std.proofs.Common.{◌∙◌}
use Rattle.island_plans.specs.Making.{way_homes}
use Rattle.island_plans.proofs.Tables.{ways_below, all_blank}
use Rattle.island_plans.proofs.room.BodyRoom.of.Goals as goal

pub ranks_of-requires : goal.ranks_of-requires
ranks_of-requires g c = ways_below c.args.wires.now c.args.lanes.now c.args.count _ (c.deref.ensures.value ∙ c.in_ok-homes.ensures) c.requires.wires c.requires.lanes

pub returns : goal.returns
returns g c = record {
  blank = all_blank (way_homes c.args.wires.now c.args.lanes.now) _ c.args.count _ _ _ _ (c.deref.ensures.value ∙ c.in_ok-homes.ensures) c.in_ok-counts.ensures c.deref-2.ensures.value c.in_ok-blank_tables.ensures;
  peers = c.in_ok-peers_of.ensures;
  no_bodies = c.in_ok-with_capacity.ensures.items;
  room_for_bodies = c.in_ok-with_capacity.ensures.capacity;
  no_ends = c.in_ok-with_capacity-2.ensures.items;
  room_for_ends = c.in_ok-with_capacity-2.ensures.capacity;
}
