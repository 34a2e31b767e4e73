use Rattle.std.proofs.Common.{◌≡◌, vec_len, take}
use Rattle.std.specs.Prelude.{slice_index}
use Rattle.blue_names.specs.Links.{wires_of_links}
use Rattle.blue_check.specs.Classes.{AreListed}
use Rattle.blue_check.specs.Forest.{Labels}
use Rattle.blue_check.proofs.forest.is_polytree.Given as goal

abbrev pub invariant-loop-link : goal.invariant-loop-link
invariant-loop-link l =
    (vec_len l.labels ≡ l.count) × Labels (wires_of_links (take l.link-index l.links)) l.count (slice_index l.labels.items) × AreListed l.labels.items l.members.items
