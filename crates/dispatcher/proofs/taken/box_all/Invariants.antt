-- The loop of `taken::box_all`.
use Rattle.std.proofs.Common.{◌≡◌, ◌≤◌, ◌+◌, ◌++◌, map, reverse, box_value, vec_len, vec_capacity}
use Rattle.dispatcher.proofs.taken.box_all.Given as goal

abbrev pub invariant-loop-body : goal.invariant-loop-body
invariant-loop-body g l = record {
  count : vec_len l.left + vec_len l.boxes ≡ vec_len l.fn.bodies;
  room : vec_len l.fn.bodies ≤ vec_capacity l.boxes;
  back : vec_capacity l.left ≡ vec_capacity l.fn.bodies;
  all : l.left.items ++ map box_value (reverse l.boxes.items) ≡ l.fn.bodies.items;
}

abbrev pub decreases-loop-body : goal.decreases-loop-body
decreases-loop-body g l = vec_len l.left
