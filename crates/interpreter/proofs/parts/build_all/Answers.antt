-- The goals of `parts::build_all` that the search leaves.
use Rattle.std.proofs.Common.{◌≡◌, length, ap, arith}
use Rattle.std.specs.Vec.Iter.{into_iter_items}
use Rattle.interpreter.proofs.Tables.{seat_first, seat_next, seat_last, none_left, len_next}
use Rattle.interpreter.proofs.parts.build_all.Goals as goal

pub loop-seated-preserved : goal.loop-seated-preserved
loop-seated-preserved g c =
    let n = seat_next _ _ _ _ _ _ _ c.in-Some.ensures.steps.0 c.loop-seated.invariant.3 c.build.ensures c.push_reserved.ensures.items c.loop-seated.invariant.4 in
    (tt, tt, len_next _ _ _ _ _ c.in-Some.ensures.steps.0 c.in-Some.ensures.steps.1 c.loop-seated.invariant.2, n.0, n.1, omega (arith, c.loop-seated.invariant.5, c.in-Some.ensures.steps.1, c.push_reserved.ensures.len, c.push_reserved.ensures.capacity))

pub returns : goal.returns
returns g c = seat_last _ _ _ (none_left _ _ c.in-None.ensures.steps.0 c.loop-seated.invariant.2) c.loop-seated.invariant.4

pub loop-seated-init : goal.loop-seated-init
loop-seated-init g c =
    let made = c.into_iter-seated-iterator.ensures.into_iter_gives in
    let its = into_iter_items c.into_iter-seated-iterator.result in
    let many : length its ≡ length c.args.places.items = ap length made.0 in
    let none : length c.args.nodes.items ≡ 0 = ap length c.requires.empty in
    let n = seat_first its c.args.places.items c.args.nodes.items made.0 c.requires.empty c.requires.unused in
    (tt, tt, omega (arith, many, made.1, c.args.places.ok.0), n.0, n.1, omega (arith, none, made.1, c.requires.room, c.args.nodes.ok.0))
