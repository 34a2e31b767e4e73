-- The goals of `seats::seat_all` that the search leaves.
use Rattle.std.proofs.Common.{◌≡◌, ◌∙◌, ◌+◌, ◌++◌, length, map, ap, sym, subst, rules, arith}
use Rattle.std.specs.List.{list_all}
use Rattle.std.specs.Vec.Iter.{into_iter_items, into_iter_len}
use Rattle.interpreter.proofs.Tables.{none_left, len_next}
use Rattle.blue_names.specs.Sizes.{sizes_fit}
use Rattle.materializer.specs.HandedCustoms.{AreGuests, HaveUsedPorts, guest_types}
use Rattle.materializer.specs.Board.{AreHanded, seat_of_end}
use Rattle.materializer.specs.Graphs.{graph_chain}
use Rattle.materializer.specs.Choosers.{moves_of, PlansFit}
use Rattle.materializer.specs.Planned.{planned_plan, planned_seat, planned_room, planned_types}
use Rattle.materializer.proofs.Leading.{moves_left, moves_next, no_moves_left}
use Rattle.materializer.proofs.Rooms.{room_next, count_next, rooms_left, rooms_end}
use Rattle.materializer.proofs.Guests.{guests_left, guest_next, no_guests, ports_next}
use Rattle.materializer.proofs.SeatLoops.{all_next, planned_start, planned_next, planned_end}
use Rattle.materializer.proofs.Switches.{kinds_of, ends_left, end_next, no_ends, map_next, map_end}
use Rattle.materializer.proofs.seats.seat_all.Goals as goal

pub plan-requires-clause-sized : goal.plan-requires-clause-sized
plan-requires-clause-sized g c = (all_next (λ n. sizes_fit n.kind) c.in-Some.node _ _ c.in-Some.ensures.steps.0 c.loop-node.invariant.3).0

pub loop-node-init : goal.loop-node-init
loop-node-init g c =
    let r = c.into_iter-node-iterator.result in
    let all : into_iter_items r ≡ c.args.nodes.items = search rules in
    let left : into_iter_len r ≡ length (into_iter_items r) = search rules in (
      tt,
      tt,
      left,
      ap (list_all (λ n. sizes_fit n.kind)) all ∙ c.requires.sized,
      λ wires used. (
        subst (λ l. HaveUsedPorts wires l (into_iter_items c.into_iter-unhanded_guests.result)) (sym all) (subst (λ l. HaveUsedPorts wires c.args.nodes.items l) (sym c.into_iter-unhanded_guests.ensures.rest) used),
        λ xs h. planned_start c.args.nodes.items (record { chains = map graph_chain c.args.chains.now; wires = wires }) (into_iter_items r) c.new-seats.result.items xs all c.new-seats.ensures.items h,
      ),
      subst (λ l. AreHanded (kinds_of l) (into_iter_items c.into_iter-unhanded.result)) (sym all) (subst (λ l. AreHanded (kinds_of c.args.nodes.items) l) (sym c.into_iter-unhanded.ensures.rest) c.requires.handed),
      search rules,
      ap (λ l. map planned_seat l ++ map seat_of_end (into_iter_items c.into_iter-unhanded.result)) c.new-seats.ensures.items ∙ ap (map seat_of_end) c.into_iter-unhanded.ensures.rest,
      subst (λ l. AreGuests g.L.Logic.gives g.H.Handlers.tells g.B.PlugBook.lists (kinds_of l) (into_iter_items c.into_iter-unhanded_guests.result)) (sym all) (subst (λ l. AreGuests g.L.Logic.gives g.H.Handlers.tells g.B.PlugBook.lists (kinds_of c.args.nodes.items) l) (sym c.into_iter-unhanded_guests.ensures.rest) c.requires.guests),
      search rules,
      subst (λ l. PlansFit (kinds_of l) (map moves_of (into_iter_items c.into_iter-unmade.result))) (sym all) (subst (λ l. PlansFit (kinds_of c.args.nodes.items) (map moves_of l)) (sym c.into_iter-unmade.ensures.rest) c.requires.follow),
      search rules,
      ap (λ l. map planned_plan l ++ map moves_of (into_iter_items c.into_iter-unmade.result)) c.new-seats.ensures.items ∙ ap (map moves_of) c.into_iter-unmade.ensures.rest,
      ap (λ l. map planned_room l ++ into_iter_items c.into_iter-unroomed.result) c.new-seats.ensures.items ∙ c.into_iter-unroomed.ensures.rest,
      omega (arith, ap length c.new-seats.ensures.items, ap length all),
      search rules,
      ap (λ l. map planned_types l ++ map guest_types (into_iter_items c.into_iter-unhanded_guests.result)) c.new-seats.ensures.items ∙ ap (map guest_types) c.into_iter-unhanded_guests.ensures.rest,
    )

pub loop-node-preserved : goal.loop-node-preserved
loop-node-preserved g c =
    let kept = c.loop-node.invariant in
    let next = c.in-Some.ensures.steps in
    let node = c.in-Some.node in
    let at : c.in_ok-k.k ≡ length c.loop-node.seats.items = search rules in (
      tt,
      tt,
      len_next _ _ _ _ _ next.0 next.1 kept.2,
      (all_next (λ n. sizes_fit n.kind) node _ _ next.0 kept.3).1,
      λ wires used.
          let old = kept.4 wires used in
          let ports = ports_next g.L.Logic.gives g.H.Handlers.tells g.B.PlugBook.lists wires node _ _ _ _ _ next.0 c.take_next-guest.ensures.items old.0 in
          (ports.1, planned_next _ _ node _ _ _ _ _ _ next.0 at (c.in_ok-plan.ensures.planned wires ports.0) c.in_ok-push.ensures.items old.1),
      (end_next node _ _ _ _ _ next.0 c.take_next-end.ensures.items kept.5).1,
      len_next _ _ _ _ _ c.take_next-end.ensures.items (sym c.take_next-end.ensures.len) kept.6,
      map_next planned_seat seat_of_end _ _ _ _ _ _ _ c.take_next-end.ensures.items c.in_ok-push.ensures.items c.in_ok-plan.ensures.seat kept.7,
      (guest_next g.L.Logic.gives g.H.Handlers.tells g.B.PlugBook.lists node _ _ _ _ _ next.0 c.take_next-guest.ensures.items kept.8).1,
      len_next _ _ _ _ _ c.take_next-guest.ensures.items (sym c.take_next-guest.ensures.len) kept.9,
      (moves_next node _ _ _ _ _ next.0 c.take_next-moves.ensures.items kept.10).1,
      len_next _ _ _ _ _ c.take_next-moves.ensures.items (sym c.take_next-moves.ensures.len) kept.11,
      map_next planned_plan moves_of _ _ _ _ _ _ _ c.take_next-moves.ensures.items c.in_ok-push.ensures.items c.in_ok-plan.ensures.plan kept.12,
      room_next planned_room _ _ _ _ _ _ _ c.take_next-room.ensures.items c.in_ok-push.ensures.items c.in_ok-plan.ensures.room kept.13,
      count_next planned_room _ _ _ _ _ _ _ next.0 c.in_ok-push.ensures.items kept.14,
      len_next _ _ _ _ _ c.take_next-room.ensures.items (sym c.take_next-room.ensures.len) kept.15,
      map_next planned_types guest_types _ _ _ _ _ _ _ c.take_next-guest.ensures.items c.in_ok-push.ensures.items c.in_ok-plan.ensures.types kept.16,
    )

pub take_next-end-requires : goal.take_next-end-requires
take_next-end-requires g c = ends_left c.in-Some.node _ _ _ _ c.in-Some.ensures.steps.0 c.loop-node.invariant.5 c.loop-node.invariant.6

pub take_next-guest-requires : goal.take_next-guest-requires
take_next-guest-requires g c = guests_left g.L.Logic.gives g.H.Handlers.tells g.B.PlugBook.lists c.in-Some.node _ _ _ _ c.in-Some.ensures.steps.0 c.loop-node.invariant.8 c.loop-node.invariant.9

pub take_next-moves-requires : goal.take_next-moves-requires
take_next-moves-requires g c = moves_left c.in-Some.node _ _ _ _ c.in-Some.ensures.steps.0 c.loop-node.invariant.10 c.loop-node.invariant.11

pub plan-requires-clause-follows : goal.plan-requires-clause-follows
plan-requires-clause-follows g c = (moves_next c.in-Some.node _ _ _ _ _ c.in-Some.ensures.steps.0 c.take_next-moves.ensures.items c.loop-node.invariant.10).0

pub plan-requires-clause-handed : goal.plan-requires-clause-handed
plan-requires-clause-handed g c = (end_next c.in-Some.node _ _ _ _ _ c.in-Some.ensures.steps.0 c.take_next-end.ensures.items c.loop-node.invariant.5).0

pub plan-requires-clause-guest : goal.plan-requires-clause-guest
plan-requires-clause-guest g c = (guest_next g.L.Logic.gives g.H.Handlers.tells g.B.PlugBook.lists c.in-Some.node _ _ _ _ _ c.in-Some.ensures.steps.0 c.take_next-guest.ensures.items c.loop-node.invariant.8).0

pub returns-clause-seats : goal.returns-clause-seats
returns-clause-seats g c =
    let kept = c.loop-node.invariant in
    map_end planned_seat seat_of_end _ _ _ (no_ends _ _ (none_left _ _ c.in-None.ensures.steps.0 kept.2) kept.5) kept.7

pub returns-clause-planned : goal.returns-clause-planned
returns-clause-planned g c = λ wires used. planned_end _ _ _ _ (none_left _ _ c.in-None.ensures.steps.0 c.loop-node.invariant.2) (c.loop-node.invariant.4 wires used).1

pub returns-clause-plans : goal.returns-clause-plans
returns-clause-plans g c =
    let kept = c.loop-node.invariant in
    map_end planned_plan moves_of _ _ _ (no_moves_left _ _ (none_left _ _ c.in-None.ensures.steps.0 kept.2) kept.10) kept.12

pub take_next-room-requires : goal.take_next-room-requires
take_next-room-requires g c =
    let kept = c.loop-node.invariant in
    rooms_left planned_room _ _ _ _ _ _ _ _ c.in-Some.ensures.steps.0 kept.13 kept.14 kept.15 (sym c.args.rooms.ok.0 ∙ c.requires.rooms ∙ c.args.nodes.ok.0)

pub returns-clause-rooms : goal.returns-clause-rooms
returns-clause-rooms g c =
    let kept = c.loop-node.invariant in
    rooms_end planned_room _ _ _ _ _ (none_left _ _ c.in-None.ensures.steps.0 kept.2) kept.13 kept.14 (sym c.args.rooms.ok.0 ∙ c.requires.rooms ∙ c.args.nodes.ok.0)

pub returns-clause-types : goal.returns-clause-types
returns-clause-types g c =
    let kept = c.loop-node.invariant in
    map_end planned_types guest_types _ _ _ (no_guests g.L.Logic.gives g.H.Handlers.tells g.B.PlugBook.lists _ _ (none_left _ _ c.in-None.ensures.steps.0 kept.2) kept.8) kept.16
