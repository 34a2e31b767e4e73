use Rattle.std.proofs.Common.{◌≡◌, vec_len}
use Rattle.blue_names.specs.Links.{wires_of_links}
use Rattle.blue_check.specs.Marks.{Reaches}
use Rattle.blue_check.proofs.Reaching.{IsClosed}
use Rattle.blue_check.proofs.marks.reach.Given as goal

abbrev pub invariant-walk : goal.invariant-walk
invariant-walk l =
    (vec_len l.marks ≡ l.count) × Reaches (wires_of_links l.links) l.start l.count l.marks.items l.order.items × IsClosed (wires_of_links l.links) l.order.items l.k
