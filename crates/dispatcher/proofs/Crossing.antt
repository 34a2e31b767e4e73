-- A place may go to another thread where its body may.
use denote.RattleType.{RattleType}
use mathlib.Core.List.{[], ◌∷◌}
use denote.Ref.{NamedLft, ShrRef}
use denote.Struct.Tuple.{TupleAt}
use denote.Struct.Field.{row_field, u32-field, bool-field}
use denote.Param.Send.{IsSend, IsSync, view_send, owning_send, sendable}
use denote.Param.SendFields.{as_row_send, declared_send}
use Rattle.std.specs.contracts.snapshot.Snapshot as snapshot
use Rattle.std.proofs.Crossing.{crosses, Box-send}
use Rattle.std.proofs.alloc.Global.TheSendSync as heap
use Rattle.atomic_table.proofs.shared.Seat.TheSendSync as seat
use Rattle.atomic_table.proofs.shared.Shared.TheSendSync as shared
use Rattle.atomic_table.proofs.send_lease.SendLease.TheSendSync as lease
use Rattle.dispatcher.specs.contracts.turns.Turns as turns
use Rattle.dispatcher.specs.contracts.ready.ReadyList as ready_list
use Rattle.dispatcher.specs.contracts.budget.Budget as budget
use Rattle.dispatcher.specs.contracts.budget.BudgetSeat as budget_seat
use Rattle.dispatcher.specs.contracts.place.TablePlace as place
use Rattle.dispatcher.specs.contracts.place.TablePlace.TheInside as inside

seat_send : IsSend budget_seat.the_row
seat_send = search (sendable, seat.the_send) depth 20

start_send : (T : RattleType) → IsSend (snapshot.the_row T)
start_send T = owning_send (snapshot.the_type T) (search sendable, tt) (λ d. tt) (λ k x w. tt)

fields_send : (T : RattleType) (g : _) (h : _) → IsSend T → IsSend (inside.the_row T g h)
fields_send T g h s = declared_send (inside.the_type T g h) (as_row_send (row_field _) (Box-send T s), (seat_send, (start_send T, (as_row_send u32-field (search sendable), (as_row_send bool-field (search sendable), (as_row_send bool-field (search sendable), (as_row_send u32-field (search sendable), tt)))))))

pub place_send : (T : RattleType) (g : _) (h : _) → IsSend T → IsSend (place.the_row T g h)
place_send T g h s = view_send _ _ _ _ _ (fields_send T g h s)

-- so may a table of values be shared
pub turns_sync : (T O : RattleType) (k : _) → IsSend T → IsSync (turns.the_row T O k)
turns_sync T O k s = search (sendable, crosses, shared.the_sync, lease.the_sync, heap.the_sync, heap.the_send) depth 40

pub budget_sync : IsSync budget.the_row
budget_sync = search (sendable, crosses, shared.the_sync, lease.the_sync, heap.the_sync, heap.the_send) depth 40

pub list_sync : IsSync ready_list.the_row
list_sync = search (sendable, crosses, shared.the_sync, lease.the_sync, heap.the_sync, heap.the_send) depth 40

-- a closure that shares five values may be shared where they may
pub shares_sync : (ν : _) (a b c d e : NamedLft) (A B C D E : RattleType) → IsSync A → IsSync B → IsSync C → IsSync D → IsSync E
    → IsSync (TupleAt ν (ShrRef a.mir a.lft A ∷ ShrRef b.mir b.lft B ∷ ShrRef c.mir c.lft C ∷ ShrRef d.mir d.lft D ∷ ShrRef e.mir e.lft E ∷ []))
shares_sync ν a b c d e A B C D E p q r s t = search sendable depth 40
