-- The goals of `start::start_all` that the search leaves.
use Rattle.std.proofs.Common.{◌≡◌, [], length, ap, refl, sym, subst, arith, rules}
use Rattle.std.specs.Vec.Iter.{into_iter_items, into_iter_len}
use Rattle.island_parts.specs.Starts.{CanAllStart}
use Rattle.island_parts.proofs.Starting.{Started, fewer, none_more, going_first, going_next, going_last, all_added, next_can, later_can, all_apart}
use Rattle.island_parts.proofs.start.start_all.Goals as goal

pub loop-next-init : goal.loop-next-init
loop-next-init g c =
    let r = c.into_iter-rest.result in
    let all : into_iter_items r ≡ c.args.islands.items = search rules in
    let left : into_iter_len r ≡ length (into_iter_items r) = search rules in
    let size : length (into_iter_items r) ≡ length c.args.islands.items = ap length all in
    let none : length c.args.started.items ≡ 0 = ap length c.requires.none_started in (
      left,
      omega (arith, none, left, size, c.args.started.ok.0, c.args.islands.ok.0),
      omega (arith, none, left, size, c.args.started.ok.0, c.args.islands.ok.0, c.requires.room_to_start),
      subst CanAllStart (sym all) c.requires.can,
      going_first (Started g.S.Source.state g.D.Drain.state g.B.PlugBook.lists) c.args.islands.items [] _ _ all c.requires.none_started,
    )

pub start_one-requires : goal.start_one-requires
start_one-requires g c = next_can _ _ _ c.loop-next.invariant.3 c.in-Some.ensures.items

pub loop-next-preserved : goal.loop-next-preserved
loop-next-preserved g c =
    let kept = c.loop-next.invariant in
    let next = c.in-Some.ensures in (
      fewer _ _ _ _ _ next.items (sym next.len) kept.0,
      omega (arith, kept.1, next.len, c.push_reserved.ensures.len),
      omega (arith, kept.2, next.len, c.push_reserved.ensures.len, c.push_reserved.ensures.capacity),
      later_can _ _ _ kept.3 next.items,
      going_next (Started g.S.Source.state g.D.Drain.state g.B.PlugBook.lists) c.args.islands.items [] _ _ _ _ _ _ kept.4 next.items c.push_reserved.ensures.items c.in-Ok.ensures.started,
    )

pub take_apart-requires : goal.take_apart-requires
take_apart-requires g c =
    let kept = c.loop-next.invariant in
    let next = c.in-Some.ensures in
    record {
      can = later_can _ _ _ kept.3 next.items;
      len = fewer _ _ _ _ _ next.items (sym next.len) kept.0;
      none_ended = c.requires.none_ended;
      room = omega (arith, kept.1, next.len, c.requires.room_to_end);
    }

pub returns-in-Err-clause-ended : goal.returns-in-Err-clause-ended
returns-in-Err-clause-ended g c = all_apart g.S.Source.state g.D.Drain.state g.B.PlugBook.lists c.args.islands.items _ _ _ _ _ _ c.loop-next.invariant.4 c.in-Some.ensures.items c.in-Err.ensures.ended c.take_apart.ensures

pub returns-clause-started : goal.returns-clause-started
returns-clause-started g c =
    let kept = c.loop-next.invariant in
    let started = Started g.S.Source.state g.D.Drain.state g.B.PlugBook.lists in
    all_added started c.args.islands.items [] _ refl (going_last started c.args.islands.items [] _ _ kept.4 (none_more _ _ c.in_default.ensures.variant.1 kept.0))
