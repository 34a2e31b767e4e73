-- The loop of `taken::unbox_all`.
use Rattle.std.proofs.Common.{◌≡◌, ◌≤◌, ◌+◌, ◌∷◌, ◌++◌, map, reverse, box_value, vec_len, vec_capacity}
use Rattle.dispatcher.proofs.taken.unbox_all.Given as goal

abbrev pub invariant-loop-boxed : goal.invariant-loop-boxed
invariant-loop-boxed g l = record {
  room : vec_len l.bodies + vec_len l.boxes ≤ vec_capacity l.bodies;
  all : l.bodies.items ++ map box_value (reverse l.boxes.items) ≡ l.fn.left.items ++ l.fn.next ∷ map box_value (reverse l.fn.boxes.items);
}

abbrev pub decreases-loop-boxed : goal.decreases-loop-boxed
decreases-loop-boxed g l = vec_len l.boxes
