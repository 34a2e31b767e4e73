-- The goal of `woken::Woken::none_of` that the search leaves.
use Rattle.std.proofs.Common.{rules}
use Rattle.island_body.proofs.Wakes.{fresh_from}
use Rattle.island_body.proofs.woken.Woken.none_of.Goals as goal

pub invariant_of-result : goal.invariant_of-result
invariant_of-result c = fresh_from c.args.least c.args.count _ _ _ c.in_ok-islands.ensures.items (search (rules, c.in_ok-marks.ensures.items_if_clones_equal)) (search rules)
