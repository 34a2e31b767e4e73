use Rattle.std.proofs.Common.{arith}
use Rattle.blue_names.specs.Links.{wire_of_link}
use Rattle.blue_check.proofs.ClosedWalks.{NeverFalls-more}
use Rattle.blue_check.proofs.ranks.never_falls.Goals as goal

pub loop-link-preserved : goal.loop-link-preserved
loop-link-preserved c =
    NeverFalls-more wire_of_link c.args.ranks.now c.args.links.now c.loop-link.link-index _ c.rank_of.result c.rank_of-in-loop-link.result c.loop-link-test.true c.rank_of.ensures c.rank_of-in-loop-link.ensures (omega (arith, c.if-rank_of.false)) c.loop-link.invariant
