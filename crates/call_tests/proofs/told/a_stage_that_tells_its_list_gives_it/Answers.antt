-- The box of a lifted dedup tells what that does.
use mathlib.Core.Logic.{inl}
use denote.Param.Object.{read_made}
use mir.Syntax.{Dict}
use Rattle.std.proofs.Common.{refl}
use Rattle.call_tests.proofs.Telling.{tells_alike}
use Rattle.call_tests.specs.contracts.told.only.{dyn-1-ghosts}
use Rattle.call_tests.proofs.told.a_stage_that_tells_its_list_gives_it.Object-1.{Members}
use Rattle.call_tests.proofs.told.a_stage_that_tells_its_list_gives_it.OwnLists.{own-1, lawful-own-1}
use Rattle.call_tests.proofs.told.a_stage_that_tells_its_list_gives_it.Hidden.{sends-own-1}
use Rattle.call_tests.proofs.told.a_stage_that_tells_its_list_gives_it.Goals as goal

pub only-requires : goal.only-requires
only-requires g c = tells_alike c.in_ok-boxed.ensures (read_made {G = Members} {C = Dict} (dyn-1-ghosts (own-1, lawful-own-1, sends-own-1)).0 _ (inl tt) refl _ (λ j v. j.1.tells v) c.into_dyn_box.result.vtable c.into_dyn_box.result.value c.in_ok-boxed.field-0.value c.into_dyn_box.ensures.1)
