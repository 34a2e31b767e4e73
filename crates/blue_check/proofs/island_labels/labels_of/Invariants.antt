use Rattle.std.proofs.Common.{take}
use Rattle.blue_names.specs.Links.{wires_of_links}
use Rattle.blue_check.specs.Classes.{AreListed}
use Rattle.blue_check.specs.Labels.{AreLabels}
use Rattle.blue_check.proofs.island_labels.labels_of.Given as goal

abbrev pub invariant-loop-link : goal.invariant-loop-link
invariant-loop-link l = record { labels : AreLabels (wires_of_links (take l.link-index l.links)) l.count l.labels.items; listed : AreListed l.labels.items l.members.items }
