use Rattle.std.proofs.Common.{◌≡◌, vec_len, take}
use Rattle.blue_names.specs.Links.{wires_of_links}
use Rattle.blue_check.specs.Visits.{Visits}
use Rattle.blue_check.proofs.marks.visit.Given as goal

abbrev pub invariant-loop-i : goal.invariant-loop-i
invariant-loop-i l =
    (vec_len l.marks ≡ vec_len l.initial.marks) × Visits (wires_of_links l.links) l.node (vec_len l.initial.marks) l.initial.marks.items l.marks.items l.initial.order.items l.order.items (take l.i-index l.i-items)
