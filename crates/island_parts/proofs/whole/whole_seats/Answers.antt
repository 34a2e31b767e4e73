-- The goals of `whole::whole_seats` that the search leaves.
use Rattle.std.proofs.Common.{◌≡◌, [], ◌∷◌, ◌++◌, map, get_or, ap, ◌∙◌, append_assoc, false, None, rules}
use Rattle.std.proofs.lemmas.List.{drop_all}
use Rattle.blue_check.specs.declared.plan.LanePlan.{LanePlan}
use Rattle.island_parts.specs.Whole.{in_seat, out_seat}
use Rattle.island_parts.proofs.Seating.{one_added, all_added}
use Rattle.island_parts.proofs.whole.whole_seats.Goals as goal

abbrev no_lane : LanePlan
no_lane = record { wire = 0; size = 0; keep = false; from = 0; to = 0; hub = None }

pub entries-preserved : goal.entries-preserved
entries-preserved g c =
    let more : c.push_reserved.new.self.items ≡ c.entries.all.items ++ in_seat (get_or c.args.lanes.now c.entries.lane-index no_lane) ∷ [] = search rules in
    (one_added in_seat c.args.lanes.now c.entries.lane-index no_lane _ _ _ c.entries-test.true more c.entries.invariant.0, search rules, search rules)

pub exits-init : goal.exits-init
exits-init g c =
    (ap (λ l. l ++ map out_seat c.args.lanes.now) (all_added in_seat _ _ _ (drop_all _ _ c.entries-test.false) c.entries.invariant.0), search rules, c.entries.invariant.2)

pub exits-preserved : goal.exits-preserved
exits-preserved g c =
    let more : c.push_reserved-in-exits.new.self.items ≡ c.exits.all.items ++ out_seat (get_or c.args.lanes.now c.exits.lane-index no_lane) ∷ [] = search rules in
    (one_added out_seat c.args.lanes.now c.exits.lane-index no_lane _ _ _ c.exits-test.true more c.exits.invariant.0, search rules, search rules)

pub returns : goal.returns
returns g c =
    all_added out_seat _ _ _ (drop_all _ _ c.exits-test.false) c.exits.invariant.0
    ∙ append_assoc c.args.nodes.items (map in_seat c.args.lanes.now) (map out_seat c.args.lanes.now)
