-- The goals of `ways::look_through` that the search leaves.
use Rattle.std.proofs.Common.{◌≡◌, length, rules, arith}
use Rattle.std.proofs.lemmas.Option.{slice_get-get_or, slice_get_within}
use Rattle.interpreter.proofs.Listing.{place_here, place_none, other_next}
use Rattle.interpreter.proofs.ways.look_through.Goals as goal

pub returns-then-lane-wire : goal.returns-then-lane-wire
returns-then-lane-wire c = place_here c.args.lanes.now c.loop-i.i c.args.wire _ c.requires (slice_get-get_or c.args.lanes.now c.loop-i.i _ c.loop-i-test.true) c.if-lane-wire.true

pub loop-i-preserved : goal.loop-i-preserved
loop-i-preserved c = other_next c.args.lanes.now c.args.wire c.loop-i.i _ (slice_get-get_or c.args.lanes.now c.loop-i.i _ c.loop-i-test.true) c.if-lane-wire.false c.loop-i.invariant

pub returns : goal.returns
returns c =
    let all : c.loop-i.i ≡ length c.args.lanes.now = search rules in
    place_none c.args.lanes.now c.args.wire (λ j x at. c.loop-i.invariant j x (let h = slice_get_within c.args.lanes.now j x at in omega (arith, all, h)) at)
