use Rattle.std.proofs.Common.{◌≡◌, vec_len}
use Rattle.blue_names.specs.Links.{wires_of_links}
use Rattle.blue_check.specs.Components.{AreGoals}
use Rattle.blue_check.proofs.components.goals_of.Given as goal

abbrev pub invariant-loop-i : goal.invariant-loop-i
invariant-loop-i l = (vec_len l.goals ≡ l.count) × AreGoals (wires_of_links l.links) l.goals.items
