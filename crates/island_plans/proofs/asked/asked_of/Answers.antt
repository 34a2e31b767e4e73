-- The goals of `asked::asked_of` that the search leaves.
use Rattle.std.proofs.Common.{◌≡◌, length, arith, rules}
use Rattle.std.specs.Prelude.{get_or}
use Rattle.island_plans.proofs.Noting.{at_place, no_crossing, asked_next, asked_last}
use Rattle.island_plans.proofs.asked.asked_of.Goals as goal

pub asked_at-requires : goal.asked_at-requires
asked_at-requires g c = c.requires.lie c.loop-crossing.crossing-index _ (at_place c.args.crossings.now c.loop-crossing.crossing-index no_crossing c.loop-crossing-test.true)

pub loop-crossing-preserved : goal.loop-crossing-preserved
loop-crossing-preserved g c =
    let kept = c.loop-crossing.invariant in
    let put = c.push_reserved.ensures in
    let at = at_place c.args.crossings.now c.loop-crossing.crossing-index no_crossing c.loop-crossing-test.true in (
      asked_next c.args.bodies.now c.args.crossings.now c.loop-crossing.crossing-index (get_or c.args.crossings.now c.loop-crossing.crossing-index no_crossing) c.asked_at.result c.loop-crossing.all.items _ at c.asked_at.ensures kept.0 put.items,
      omega (arith, kept.1, put.capacity),
    )

pub returns : goal.returns
returns g c =
    let all : c.loop-crossing.crossing-index ≡ length c.args.crossings.now = search rules in
    asked_last c.args.bodies.now c.args.crossings.now c.loop-crossing.crossing-index _ all c.loop-crossing.invariant.0
