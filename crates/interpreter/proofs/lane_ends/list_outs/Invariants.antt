-- The loop of `lane_ends::list_outs`.
use Rattle.std.proofs.Common.{◌≡◌, vec_capacity}
use Rattle.interpreter.proofs.Listing.{ListsOutsTo}
use Rattle.interpreter.proofs.lane_ends.list_outs.Given as goal

abbrev pub invariant-loop-q : goal.invariant-loop-q
invariant-loop-q g l = ListsOutsTo l.works l.links l.lanes.items l.q × (vec_capacity l.lanes ≡ vec_capacity l.initial.lanes)
