-- The goal of `Body::wakes` that the search leaves.
use Rattle.std.proofs.Common.{sym, subst}
use Rattle.dispatcher.specs.Naming.{NamesEach}
use Rattle.island_body.specs.Telling.{HasTold}
use Rattle.island_body.proofs.Naming.{names_told}
use Rattle.island_body.proofs.meeting.BodyWaking.wakes.Goals as goal

pub returns : goal.returns
returns g c = record { names = λ old told. subst (NamesEach (HasTold old c.args.self.now)) (sym c.woken.ensures) (names_told old c.args.self.now told) }
