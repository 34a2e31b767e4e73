use Rattle.std.proofs.Common.{sym, arith}
use Rattle.blue_names.specs.Links.{wire_of_link, wires_of_links}
use Rattle.blue_check.proofs.Carrying.{AreGoals-set}
use Rattle.blue_check.proofs.components.pass_goal.Goals as goal

pub returns-then-rank_of-clause-goals : goal.returns-then-rank_of-clause-goals
returns-then-rank_of-clause-goals c =
    let ok = c.args.goals.now.ok.0 in
    AreGoals-set (wires_of_links c.args.links.now) c.args.goals.now.items c.args.i c.index.result.now (wire_of_link c.in-Some.link) (sym c.in-Some.ensures)
    (omega (arith, ok, c.if-from-len.true, c.len.ensures)) (omega (arith, ok, c.if-to-len.true, c.len-then-from-len.ensures)) c.index.ensures c.requires
