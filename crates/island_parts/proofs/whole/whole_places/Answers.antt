-- The goals of `whole::whole_places` that the search leaves.
use Rattle.std.proofs.Common.{sym}
use Rattle.island_parts.specs.Whole.{in_place, out_place}
use Rattle.island_parts.proofs.Joining.{same_next}
use Rattle.island_parts.proofs.whole.whole_places.Goals as goal

pub entries-preserved : goal.entries-preserved
entries-preserved c = same_next in_place c.args.lanes.now c.entries.lane-index c.entries.all.items c.push.new.self.items _ c.entry.result c.entries-test.true c.entries.invariant c.in_ok-push.ensures.items (λ l. sym c.entry.ensures)

pub exits-preserved : goal.exits-preserved
exits-preserved c = same_next out_place c.args.lanes.now c.exits.lane-index c.exits.all.items c.push-in-exits.new.self.items _ c.exit.result c.exits-test.true c.exits.invariant c.in_ok-push-2.ensures.items (λ l. sym c.exit.ensures)
