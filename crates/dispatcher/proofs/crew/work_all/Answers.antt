-- The goals of `crew::work_all` that the search leaves.
use Rattle.std.proofs.Common.{rules, ◌<◌, length, subst}
use mir.Syntax.{named}
use denote.Exit.{no}
use denote.Param.{param}
use denote.Param.Send.{sendable, param_sync, arg_sync}
use Rattle.std.proofs.alloc.Global.TheSendSync as heap
use Rattle.dispatcher.specs.PublicTurns.{IsFree}
use Rattle.dispatcher.specs.contracts.origin.PlaceOrigin as origin
use Rattle.dispatcher.proofs.Crossing.{place_send, turns_sync, budget_sync, list_sync, shares_sync}
use Rattle.dispatcher.proofs.crew.work_all.Goals as goal

pub for_each_mut-requires-sync-F : goal.for_each_mut-requires-sync-F
for_each_mut-requires-sync-F g c κs within =
    let place = place_send (param 0 g.row.B) g.B.Turning g.B.Meet (search sendable) in
    param_sync 2 _ (arg_sync _ no _ (shares_sync _ _ _ _ (record { mir = named 9; lft = κs.1.1.1.1.1.1.1.1.1.0 }) (record { mir = named 10; lft = κs.1.1.1.1.1.1.1.1.1.1.0 }) _ _ _ _ _ c.type_bounds.sync-R heap.the_sync (turns_sync _ (origin.the_row (param 0 g.row.B)) _ place) budget_sync list_sync))

pub returns-clause-free : goal.returns-clause-free
returns-clause-free g c k d less =
    let inside : k < length c.args.seats.now = search rules in
    let at = (c.for_each_mut.ensures k d inside).1 in subst (IsFree c.args.turns.now) at.left at.call
