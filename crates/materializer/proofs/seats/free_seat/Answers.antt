-- The goal of `seats::free_seat` that the search leaves.
use Rattle.std.proofs.Common.{map, sym, subst, rules}
use Rattle.materializer.specs.Graphs.{Around, graph_chain}
use Rattle.materializer.specs.Planned.{IsPlanned}
use Rattle.materializer.specs.declared.seats.Planned.{Planned}
use Rattle.materializer.proofs.Switches.{plans_free}
use Rattle.materializer.proofs.seats.free_seat.Goals as goal
use Rattle.materializer.proofs.seats.free_seat.Goals.{in-Lines+in-Lines-1, in-Lines+in-Range-1, in-ToLines, in_default+in_ok-free_work-in_default}

-- a node without a file has the ports of its kind whatever the wires
pub returns-clause-planned : goal.returns-clause-planned
returns-clause-planned g c =
    λ wires node is same.
    let around : Around = record { chains = map graph_chain c.args.chains.now; wires = wires } in
    elim c.match-kind.branch as (λ _. IsPlanned around c.args.k node c.match-kind.result) [
      | in-Lines+in-Lines-1 w ↦ search rules
      | in-Lines+in-Range-1 w ↦ search rules
      | in-ToLines w ↦ search rules
      | in_default+in_ok-free_work-in_default w ↦
          let worked = w.in_ok-free_work-in_default.ensures in
          subst (λ (x : Planned _ _ _ _ _). IsPlanned around c.args.k node x) (sym w.result-is)
          (plans_free around c.args.k c.args.kind c.args.decider _ worked.no_input worked.no_output c.requires.no_custom worked.work node is same)
    ]
