-- The loop of `lane_ends::list_ins`.
use Rattle.std.proofs.Common.{◌≡◌, vec_capacity}
use Rattle.interpreter.proofs.Listing.{ListsInsTo}
use Rattle.interpreter.proofs.lane_ends.list_ins.Given as goal

abbrev pub invariant-loop-q : goal.invariant-loop-q
invariant-loop-q g l = ListsInsTo l.works l.links l.lanes.items l.q × (vec_capacity l.lanes ≡ vec_capacity l.initial.lanes)
