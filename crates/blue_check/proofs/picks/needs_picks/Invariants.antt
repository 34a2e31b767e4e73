use Rattle.std.proofs.Common.{◌≡◌, drop}
use Rattle.blue_names.specs.Picks.{needs_picks}
use Rattle.blue_check.proofs.picks.needs_picks.Given as goal

abbrev pub invariant-loop-node : goal.invariant-loop-node
invariant-loop-node l = needs_picks l.nodes ≡ needs_picks (drop l.node-index l.nodes)
