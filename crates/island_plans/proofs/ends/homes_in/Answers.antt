use Rattle.std.proofs.Common.{◌≡◌, get_or, rules}
use Rattle.island_plans.proofs.Listing.{homes_more}
use Rattle.island_plans.proofs.ends.homes_in.Goals as goal

pub loop-i-preserved : goal.loop-i-preserved
loop-i-preserved c =
    let n = c.index-nodes-i.result in
    let at : get_or c.args.nodes.now c.loop-i.i n ≡ n = search rules in
    homes_more c.args.list c.args.nodes.now c.args.homes.now c.loop-i.i n _ _ c.requires c.loop-i-test.true at c.loop-i.invariant c.in_ok-put_home.ensures
