use Rattle.std.proofs.Common.{sym, ◌∙◌}
use Rattle.blue_names.proofs.HubWires.{no_hub_wrong}
use Rattle.blue_names.proofs.hubs.hub_wrong.Goals as goal

pub returns-then-not-has_hub : goal.returns-then-not-has_hub
returns-then-not-has_hub c = no_hub_wrong c.args.nodes.now c.args.wires.now (sym c.has_hub.ensures ∙ c.if-not-has_hub.true)
