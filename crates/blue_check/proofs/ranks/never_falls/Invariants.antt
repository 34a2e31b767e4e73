use Rattle.std.proofs.Common.{take}
use Rattle.blue_names.specs.Links.{wires_of_links}
use Rattle.blue_check.specs.Ranks.{NeverFalls}
use Rattle.blue_check.proofs.ranks.never_falls.Given as goal

abbrev pub invariant-loop-link : goal.invariant-loop-link
invariant-loop-link l = NeverFalls (wires_of_links (take l.link-index l.links)) l.ranks
