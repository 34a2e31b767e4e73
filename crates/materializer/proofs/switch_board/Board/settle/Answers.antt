-- The goals of `board::Board::settle` that the search leaves.
use Rattle.std.proofs.Common.{◌<◌, ℕ, List, length, sym, subst, Option}
use Rattle.std.specs.List.{All}
use Rattle.std.specs.declared.alloc.Global.{Global}
use Rattle.std.specs.declared.sync.Arc.{Arc}
use Rattle.stage_switch.specs.Public.{SwitchState}
use Rattle.materializer.specs.Dealing.{HaveLists, HaveRoom, HaveSeats, AllWhole, ListsSettled}
use Rattle.materializer.proofs.Settled.{nodes_below, have_lists, have_room, all_whole, all_settled}
use Rattle.materializer.proofs.switch_board.Board.settle.Goals as goal

pub put_all-requires-clause-nodes : goal.put_all-requires-clause-nodes
put_all-requires-clause-nodes c =
    let r = c.requires in
    subst (λ (l : List (Option ℕ)). All (λ x. x.0 < length l) c.args.seats.items) (sym c.deref-2.ensures.value) (nodes_below r.0 c.args.self r.1.0 r.1.1.0 r.1.1.1.0 c.args.seats.items r.1.1.1.1)

pub put_all-requires-clause-lists : goal.put_all-requires-clause-lists
put_all-requires-clause-lists c =
    let r = c.requires in
    subst (λ (l : List (Option ℕ)). HaveLists l c.args.self.seats.items) (sym c.deref-2.ensures.value) (have_lists r.0 c.args.self r.1.0 r.1.1.0 r.1.1.1.0 c.args.seats.items r.1.1.1.1)

pub put_all-requires-clause-room : goal.put_all-requires-clause-room
put_all-requires-clause-room c =
    let r = c.requires in
    subst (λ (l : List (Option ℕ)). HaveRoom l c.args.seats.items c.args.self.seats.items) (sym c.deref-2.ensures.value) (have_room r.0 c.args.self r.1.0 r.1.1.0 r.1.1.1.0 c.args.seats.items r.1.1.1.1)

pub settle_all-requires-clause-whole : goal.settle_all-requires-clause-whole
settle_all-requires-clause-whole c =
    let r = c.requires in
    let lists = c.put_all.result.items in
    let have = subst (λ (l : List (Option ℕ)). HaveSeats l c.args.seats.items lists) c.deref-2.ensures.value c.put_all.ensures.seats in
    subst (λ (l : List (Option (Arc SwitchState Global))). AllWhole l lists) (sym c.deref.ensures.value) (all_whole r.0 c.args.self r.1.0 r.1.1.0 r.1.1.1.0 c.args.seats.items r.1.1.1.1 lists c.put_all.ensures.many have)

pub returns : goal.returns
returns c = λ kinds all is at same.
    let lists = c.put_all.result.items in
    let have = subst (λ (l : List (Option ℕ)). HaveSeats l c.args.seats.items lists) c.deref-2.ensures.value c.put_all.ensures.seats in
    let settled = subst (λ (l : List (Option (Arc SwitchState Global))). ListsSettled l lists) c.deref.ensures.value c.settle_all.ensures in
    all_settled kinds c.args.self all is at c.args.seats.items same lists c.put_all.ensures.many have settled
