-- The goal of `seats::unplugged` that the search leaves.
use Rattle.std.proofs.Common.{map, Some, subst}
use Rattle.materializer.specs.Board.{switch_of, IsHandedAt}
use Rattle.materializer.specs.Graphs.{graph_chain}
use Rattle.materializer.proofs.Switches.{plans_at_switch}
use Rattle.materializer.proofs.seats.unplugged.Goals as goal

pub returns-in_ok-state_work-in-Some-clause-planned : goal.returns-in_ok-state_work-in-Some-clause-planned
returns-in_ok-state_work-in-Some-clause-planned g c =
    let handed : IsHandedAt (switch_of c.args.kind) (Some c.in-Some.end) = subst (λ e. IsHandedAt (switch_of c.args.kind) e) c.in-Some.is c.requires.handed in
    λ wires. plans_at_switch (record { chains = map graph_chain c.args.chains.now; wires = wires }) c.args.k c.args.kind c.args.decider c.in-Some.end _ handed c.requires.no_custom (c.in_ok-state_work-in-Some.ensures.work (map graph_chain c.args.chains.now))
