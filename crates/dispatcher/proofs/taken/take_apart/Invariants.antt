-- The loop of `taken::take_apart`.
use Rattle.std.proofs.Common.{◌≡◌, ◌≤◌, ◌<◌, ◌+◌, ◌++◌, false, map, length, vec_len, vec_capacity}
use Rattle.std.specs.List.{sum_by}
use Rattle.std.specs.Vec.Iter.{into_iter_items, into_iter_len}
use Rattle.dispatcher.specs.PublicBudget.{budget_id, seat_id, used_by, budget_parts, limit_of, HasNoClaim}
use Rattle.lane_core.specs.Bodies.{EachOf}
use Rattle.dispatcher.specs.Places.{BodyWentOn, WentOrBroke, body_start}
use Rattle.dispatcher.proofs.taken.take_apart.Given as goal

abbrev pub invariant-loop-place : goal.invariant-loop-place
invariant-loop-place g l = record {
  next : (goal.iterator-loop-place g).can_next l.place-iterator;
  ends : (goal.iterator-loop-place g).is_finite l.place-iterator;
  long : into_iter_len l.place-iterator ≡ length (into_iter_items l.place-iterator);
  all : l.fn.places.items ≡ l.yielded ++ into_iter_items l.place-iterator;
  seat : seat_id l.first ≡ budget_id l.fn.purse;
  idle : HasNoClaim l.first;
  parts : 0 < budget_parts l.first;
  limit : limit_of l.first ≡ l.fn.purse.limit;
  used : used_by l.first ≡ l.total;
  within : l.total ≤ l.fn.purse.limit;
  room : vec_len l.bodies + length (into_iter_items l.place-iterator) ≤ vec_capacity l.bodies;
  each : EachOf (WentOrBroke g.B.Turning.keeps g.B.Turning.goes g.B.Turning.breaks) (map body_start l.yielded) l.bodies.items;
  whole : l.lack ≡ false → EachOf (BodyWentOn g.B.Turning.keeps g.B.Turning.goes) (map body_start l.yielded) l.bodies.items;
  spent : l.lack ≡ false → l.total ≡ sum_by g.B.Turning.spent l.bodies.items;
}
