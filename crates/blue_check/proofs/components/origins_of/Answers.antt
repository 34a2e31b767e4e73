use Rattle.std.proofs.Common.{sym, ◌∙◌}
use Rattle.blue_names.specs.Links.{wires_of_links}
use Rattle.blue_check.proofs.Carrying.{AreOrigins-own}
use Rattle.blue_check.proofs.components.origins_of.Goals as goal

pub loop-i-init : goal.loop-i-init
loop-i-init c =
    let own = c.in_ok-origins.ensures in
    (own.length, AreOrigins-own (wires_of_links c.args.links.now) c.in_ok-origins.origins.items c.args.count (sym c.in_ok-origins.origins.ok.0 ∙ own.length) own.own)
