-- The goal of `spaces::space_of` that the search leaves.
use Rattle.std.proofs.Common.{List, refl, subst}
use Rattle.interpreter.specs.declared.parts.Link.{Link}
use Rattle.interpreter.specs.Room.{IsRoom}
use Rattle.island_parts.proofs.spaces.space_of.Goals as goal

pub returns : goal.returns
returns g c = record {
  links_are = refl;
  room_is = subst (λ (l : List Link). IsRoom c.in_ok-room.room c.args.places.now l) c.deref.ensures.value c.in_ok-room.ensures;
}
