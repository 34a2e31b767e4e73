-- The loops of `whole::whole_places`.
use Rattle.std.proofs.Common.{◌≡◌, ◌++◌, map, drop}
use Rattle.island_parts.specs.Whole.{in_place, out_place}
use Rattle.island_parts.proofs.whole.whole_places.Given as goal

-- with what is left they are all
abbrev pub invariant-entries : goal.invariant-entries
invariant-entries l = l.all.items ++ map in_place (drop l.lane-index l.lanes) ≡ l.fn.nodes.items ++ map in_place l.lanes

abbrev pub invariant-exits : goal.invariant-exits
invariant-exits l = l.all.items ++ map out_place (drop l.lane-index l.lanes) ≡ (l.fn.nodes.items ++ map in_place l.lanes) ++ map out_place l.lanes
