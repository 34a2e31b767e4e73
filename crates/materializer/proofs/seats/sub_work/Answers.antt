-- The goals of `seats::sub_work` that the search leaves.
use Rattle.std.proofs.Common.{subst}
use Rattle.std.specs.Prelude.{map}
use denote.Exit.{no}
use denote.Param.Send.{param_send, arg_send}
use Rattle.line_chain.specs.Line.{IsLine}
use Rattle.materializer.specs.Graphs.{graph_chain}
use Rattle.line_chain.proofs.Sending.{line_send}
use Rattle.materializer.proofs.SubPlaces.{stages_sub}
use Rattle.materializer.proofs.seats.sub_work.Goals as goal

pub new-requires-2-send-C : goal.new-requires-2-send-C
new-requires-2-send-C g c κs = param_send 0 _ (arg_send _ no _ line_send)

pub returns-clause-work : goal.returns-clause-work
returns-clause-work g c =
    let chain = c.in_ok-chain.chain in
    stages_sub (map graph_chain c.args.chains.now) c.args.k c.args.kind chain c.in_ok-logic.logic c.requires c.in_ok-logic.ensures.begins c.in_ok-logic.ensures.free (subst (λ s. IsLine c.args.k s chain) c.steps_of_kind.ensures c.in_ok-chain.ensures)
