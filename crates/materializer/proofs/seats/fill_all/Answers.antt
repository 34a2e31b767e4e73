-- The goals of `seats::fill_all` that the search leaves.
use Rattle.std.proofs.Common.{◌≡◌, ◌∙◌, List, ◌++◌, length, map, vec_len, refl, ap, sym, subst, rules, arith}
use Rattle.std.specs.Vec.Iter.{into_iter_items, into_iter_len}
use Rattle.materializer.specs.Planned.{ArePlanned, planned_plan, planned_seat, planned_room, planned_types, reads_in, writes_in}
use Rattle.materializer.specs.Seats.{place_plan, place_seat, place_room, place_types}
use Rattle.materializer.proofs.Switches.{map_next, map_end}
use Rattle.materializer.specs.declared.seats.Seat.{Seat}
use Rattle.interpreter.proofs.Tables.{none_left, len_next}
use Rattle.materializer.proofs.SeatLoops.{reads_enough, writes_enough, reads_next, writes_next, fills_first, fills_next, fills_last}
use Rattle.materializer.proofs.seats.fill_all.Goals as goal

pub loop-seat-init : goal.loop-seat-init
loop-seat-init g c =
    let r = c.into_iter-seat-iterator.result in
    let all : into_iter_items r ≡ c.args.seats.items = search rules in
    let left : into_iter_len r ≡ length (into_iter_items r) = search rules in
    let none : vec_len c.args.places ≡ 0 = c.args.places.ok.0 ∙ ap length c.requires.empty in
    let many : length (into_iter_items r) ≡ vec_len c.args.seats = ap length all ∙ sym c.args.seats.ok.0 in (
      tt,
      tt,
      left,
      c.into_iter-unread.ensures.len ∙ c.requires.sources ∙ ap reads_in (sym all),
      c.into_iter-unwritten.ensures.len ∙ c.requires.drains ∙ ap writes_in (sym all),
      omega (arith, none, left, many, c.requires.room),
      refl,
      omega (arith, none, left, many),
      λ around nodes planned. fills_first nodes _ _ around (into_iter_items r) _ _ _ c.into_iter-unread.ensures.rest c.into_iter-unwritten.ensures.rest c.requires.empty (subst (λ (l : List (Seat _ _ _ _ _)). ArePlanned around 0 nodes l) (sym all) planned),
      ap (λ l. map place_seat l ++ map planned_seat (into_iter_items r)) c.requires.empty ∙ ap (map planned_seat) all,
      ap (λ l. map place_plan l ++ map planned_plan (into_iter_items r)) c.requires.empty ∙ ap (map planned_plan) all,
      ap (λ l. map place_room l ++ map planned_room (into_iter_items r)) c.requires.empty ∙ ap (map planned_room) all,
      ap (λ l. map place_types l ++ map planned_types (into_iter_items r)) c.requires.empty ∙ ap (map planned_types) all,
    )

pub fill-requires-clause-source : goal.fill-requires-clause-source
fill-requires-clause-source g c = reads_enough _ _ _ _ c.in-Some.ensures.steps.0 c.loop-seat.invariant.3

pub fill-requires-clause-drain : goal.fill-requires-clause-drain
fill-requires-clause-drain g c = writes_enough _ _ _ _ c.in-Some.ensures.steps.0 c.loop-seat.invariant.4

pub loop-seat-preserved : goal.loop-seat-preserved
loop-seat-preserved g c =
    let kept = c.loop-seat.invariant in
    let next = c.in-Some.ensures.steps in (
      tt,
      tt,
      len_next _ _ _ _ _ next.0 next.1 kept.2,
      reads_next _ _ _ _ _ next.0 kept.3 c.fill.ensures.fewer_sources,
      writes_next _ _ _ _ _ next.0 kept.4 c.fill.ensures.fewer_drains,
      omega (arith, kept.5, next.1, c.push_reserved.ensures.len, c.push_reserved.ensures.capacity),
      omega (arith, kept.6, c.push_reserved.ensures.capacity),
      omega (arith, kept.7, next.1, c.push_reserved.ensures.len),
      λ around nodes planned. fills_next nodes _ _ around _ _ _ _ _ _ _ _ _ _ (kept.8 around nodes planned) next.0 (c.fill.ensures.fills around) c.push_reserved.ensures.items,
      map_next place_seat planned_seat _ _ _ _ _ _ _ next.0 c.push_reserved.ensures.items c.fill.ensures.seat kept.9,
      map_next place_plan planned_plan _ _ _ _ _ _ _ next.0 c.push_reserved.ensures.items c.fill.ensures.plan kept.10,
      map_next place_room planned_room _ _ _ _ _ _ _ next.0 c.push_reserved.ensures.items c.fill.ensures.room kept.11,
      map_next place_types planned_types _ _ _ _ _ _ _ next.0 c.push_reserved.ensures.items c.fill.ensures.types kept.12,
    )

pub returns-clause-seats : goal.returns-clause-seats
returns-clause-seats g c = λ around nodes planned. fills_last nodes _ _ around _ _ _ _ (c.loop-seat.invariant.8 around nodes planned) (none_left _ _ c.in-None.ensures.steps.0 c.loop-seat.invariant.2)

pub returns-clause-room : goal.returns-clause-room
returns-clause-room g c = c.loop-seat.invariant.6

pub returns-clause-each : goal.returns-clause-each
returns-clause-each g c =
    let rest = c.loop-seat.seat-iterator in
    let none : into_iter_len rest ≡ 0 = c.loop-seat.invariant.2 ∙ ap length (none_left _ _ c.in-None.ensures.steps.0 c.loop-seat.invariant.2) in
    omega (arith, none, c.loop-seat.invariant.7)

pub returns-clause-kept : goal.returns-clause-kept
returns-clause-kept g c = map_end place_seat planned_seat _ _ _ (none_left _ _ c.in-None.ensures.steps.0 c.loop-seat.invariant.2) c.loop-seat.invariant.9

pub returns-clause-plans : goal.returns-clause-plans
returns-clause-plans g c = map_end place_plan planned_plan _ _ _ (none_left _ _ c.in-None.ensures.steps.0 c.loop-seat.invariant.2) c.loop-seat.invariant.10

pub returns-clause-rooms : goal.returns-clause-rooms
returns-clause-rooms g c = map_end place_room planned_room _ _ _ (none_left _ _ c.in-None.ensures.steps.0 c.loop-seat.invariant.2) c.loop-seat.invariant.11

pub returns-clause-types : goal.returns-clause-types
returns-clause-types g c = map_end place_types planned_types _ _ _ (none_left _ _ c.in-None.ensures.steps.0 c.loop-seat.invariant.2) c.loop-seat.invariant.12
