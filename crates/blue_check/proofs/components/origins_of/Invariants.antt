use Rattle.std.proofs.Common.{◌≡◌, vec_len}
use Rattle.blue_names.specs.Links.{wires_of_links}
use Rattle.blue_check.specs.Components.{AreOrigins}
use Rattle.blue_check.proofs.components.origins_of.Given as goal

abbrev pub invariant-loop-i : goal.invariant-loop-i
invariant-loop-i l = (vec_len l.origins ≡ l.count) × AreOrigins (wires_of_links l.links) l.origins.items
