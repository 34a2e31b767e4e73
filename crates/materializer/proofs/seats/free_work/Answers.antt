-- The goal of `seats::free_work` that the search leaves.
use Rattle.std.proofs.Common.{rules, List, map, sym, subst}
use Rattle.interpreter.specs.declared.parts.Work.{Work}
use Rattle.stream_model.specs.Graph as graph
use Rattle.materializer.specs.Graphs.{graph_chain}
use Rattle.materializer.specs.Seats.{IsFreeWork}
use Rattle.materializer.proofs.seats.free_work.Goals as goal
use Rattle.materializer.proofs.seats.free_work.Goals.{in-Range, in-Ignore, in-Grouped+in_ok-state_work-in-Grouped, in-GroupBy+in_ok-sub_work-in-GroupBy, in-Merge+in_ok-fan_in_work-in-Merge, in-Broadcast+in_ok-fan_out_work-in-Broadcast, in_default+in_ok-linear_work-in_default}

-- a stage without substreams is of its kind whatever the chains
pub returns-clause-work : goal.returns-clause-work
returns-clause-work g c =
    let chains : List graph.Chain = map graph_chain c.args.chains.now in
    elim c.match-kind.branch as (λ _. IsFreeWork chains c.args.k c.args.kind c.args.decider c.match-kind.result) [
      | in-Range w ↦ search rules
      | in-Ignore w ↦ search rules
      | in-Grouped+in_ok-state_work-in-Grouped w ↦ subst (λ (x : Work _ _ _ _ _). IsFreeWork chains c.args.k c.args.kind c.args.decider x) (sym w.result-is) (w.in_ok-state_work-in-Grouped.ensures.work chains)
      | in-GroupBy+in_ok-sub_work-in-GroupBy w ↦ search rules
      | in-Merge+in_ok-fan_in_work-in-Merge w ↦ subst (λ (x : Work _ _ _ _ _). IsFreeWork chains c.args.k c.args.kind c.args.decider x) (sym w.result-is) (w.in_ok-fan_in_work-in-Merge.ensures.work chains)
      | in-Broadcast+in_ok-fan_out_work-in-Broadcast w ↦ subst (λ (x : Work _ _ _ _ _). IsFreeWork chains c.args.k c.args.kind c.args.decider x) (sym w.result-is) (w.in_ok-fan_out_work-in-Broadcast.ensures.work chains)
      | in_default+in_ok-linear_work-in_default w ↦ subst (λ (x : Work _ _ _ _ _). IsFreeWork chains c.args.k c.args.kind c.args.decider x) (sym w.result-is) (w.in_ok-linear_work-in_default.ensures.work chains)
    ]
