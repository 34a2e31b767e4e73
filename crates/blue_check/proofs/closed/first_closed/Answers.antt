use Rattle.std.proofs.Common.{sym, ◌∙◌}
use Rattle.blue_check.proofs.ClosedWalks.{NoneBelow-link, IsFirstClosed-link, HasNoClosedWalk-links, none_closed}
use Rattle.blue_check.proofs.closed.first_closed.Goals as goal

pub returns-then-rises-clause-none : goal.returns-then-rises-clause-none
returns-then-rises-clause-none c = none_closed c.args.links.now (sym c.rises.ensures ∙ c.if-rises.true)

pub returns-then-branch-clause-first : goal.returns-then-branch-clause-first
returns-then-branch-clause-first c =
    IsFirstClosed-link c.args.links.now c.loop-i.i _ c.loop-i-test.true (c.in_ok-leads_back.ensures.leads c.if-branch.true) c.loop-i.invariant

pub loop-i-preserved : goal.loop-i-preserved
loop-i-preserved c = NoneBelow-link c.args.links.now c.loop-i.i _ c.loop-i-test.true (c.in_ok-leads_back.ensures.leads_not c.if-branch.false) c.loop-i.invariant

pub returns-clause-none : goal.returns-clause-none
returns-clause-none c = HasNoClosedWalk-links c.args.links.now c.loop-i.i c.loop-i-test.false c.loop-i.invariant
