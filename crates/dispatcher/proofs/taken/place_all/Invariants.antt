-- The loop of `taken::place_all`.
use Rattle.std.proofs.Common.{◌≡◌, ◌+◌, ◌++◌, map, length, box_value, vec_len, vec_capacity}
use Rattle.std.specs.List.{All}
use Rattle.std.specs.Vec.Iter.{into_iter_items, into_iter_len}
use Rattle.dispatcher.specs.PublicBudget.{budget_id, seat_id, used_by, budget_parts, limit_of, HasNoClaim}
use Rattle.dispatcher.specs.Places.{Belongs, body_start}
use Rattle.dispatcher.proofs.taken.place_all.Given as goal

abbrev pub invariant-loop-body : goal.invariant-loop-body
invariant-loop-body g l = record {
  next : (goal.iterator-loop-body g).can_next l.body-iterator;
  ends : (goal.iterator-loop-body g).is_finite l.body-iterator;
  long : into_iter_len l.body-iterator ≡ length (into_iter_items l.body-iterator);
  all : l.fn.bodies.items ≡ l.yielded ++ into_iter_items l.body-iterator;
  seat : seat_id l.first ≡ budget_id l.fn.purse;
  idle : HasNoClaim l.first;
  parts : budget_parts l.first ≡ into_iter_len l.body-iterator + 1;
  limit : limit_of l.first ≡ l.fn.purse.limit;
  used : used_by l.first ≡ 0;
  len : vec_len l.places + length (into_iter_items l.body-iterator) ≡ vec_len l.fn.bodies;
  room : vec_capacity l.places ≡ vec_capacity l.fn.places;
  starts : map body_start l.places.items ≡ map box_value l.yielded;
  belong : All (Belongs (budget_id l.fn.purse) l.fn.purse.limit) l.places.items;
}
