-- The goals of `island::count_wires` that the search leaves.
use Rattle.std.proofs.Common.{◌≡◌, ◌<◌, ◌∙◌, rules, arith, length, min}
use Rattle.interpreter.proofs.Islands.{counts_step, counts_all}
use Rattle.interpreter.proofs.island.count_wires.Goals as goal

pub loop-i-preserved : goal.loop-i-preserved
loop-i-preserved c =
    let below : c.loop-i.i < min (length c.args.numbers.now) (length c.args.wires.now) = search rules in
    let n : c.loop-i.i < length c.args.numbers.now = omega (arith, below) in
    let w : c.loop-i.i < length c.args.wires.now = omega (arith, below) in (
      counts_step _ _ _ _ _ _ _ _ _ _ n w c.index-wires-i.is c.push_reserved.ensures.items c.loop-i.invariant.0 c.pushed.ensures c.is_asked.ensures c.is_closed.ensures,
      search (rules, arith),
      c.push_reserved.ensures.capacity ∙ c.loop-i.invariant.2,
    )

pub returns : goal.returns
returns c = let all : c.loop-i.i ≡ min (length c.args.numbers.now) (length c.args.wires.now) = search rules in c.loop-i.invariant.0 ∙ counts_all _ _ _ all
