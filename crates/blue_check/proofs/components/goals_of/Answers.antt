use Rattle.std.proofs.Common.{sym, ◌∙◌}
use Rattle.blue_names.specs.Links.{wires_of_links}
use Rattle.blue_check.proofs.Carrying.{AreGoals-own}
use Rattle.blue_check.proofs.components.goals_of.Goals as goal

pub loop-i-init : goal.loop-i-init
loop-i-init c =
    let own = c.in_ok-goals.ensures in
    (own.length, AreGoals-own (wires_of_links c.args.links.now) c.in_ok-goals.goals.items c.args.count (sym c.in_ok-goals.goals.ok.0 ∙ own.length) own.own)
