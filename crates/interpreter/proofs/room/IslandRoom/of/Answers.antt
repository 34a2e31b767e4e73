-- The goal of `room::IslandRoom::of`.
use Rattle.std.proofs.Common.{ap, sym, subst, arith}
use Rattle.interpreter.specs.Room.{CallsFit}
use Rattle.interpreter.proofs.room.IslandRoom.of.Goals as goal

pub returns : goal.returns
returns g c = record {
  no_acts = ap (λ a. a.items) c.in_ok-acts.ensures;
  least_room = omega (arith, ap (λ a. a.room) c.in_ok-acts.ensures, c.in-Some.ensures.least);
  room_for_acts = subst (CallsFit c.args.places.now) (sym (ap (λ a. a.room) c.in_ok-acts.ensures)) c.in-Some.ensures.calls;
  numbers = c.in_ok-numbers.ensures;
  places_are = c.in_ok-places.ensures;
  blank = c.in_ok-blank.ensures;
  ways = c.in_ok-ways.ensures;
  end = c.in_ok-end.ensures;
}
