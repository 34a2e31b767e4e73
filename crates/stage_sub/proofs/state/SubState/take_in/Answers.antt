use Rattle.std.specs.Prelude.{IfOk}
use Rattle.std.proofs.Common.{List, subst}
use Rattle.elem_core.specs.Tree.{Tree}
use Rattle.stream_model.specs.Outlook.{End}
use Rattle.stream_model.specs.Machine.{Given}
use Rattle.stream_model.specs.Substreams.{Sub}
use Rattle.port_core.specs.ListFunction.{ListFunction, Same}
use Rattle.step_work.specs.Means.{Means}
use Rattle.stage_sub.specs.KeptSubs.{Keeps, TakesBy}
use Rattle.stage_sub.specs.States.{Logic}
use Rattle.stage_sub.proofs.state.SubState.take_in.Goals as goal

pub returns-clause-takes : goal.returns-clause-takes
returns-clause-takes g c =
    subst (λ (l : Logic g.row.C.Denot). IfOk c.take.result (λ b. (f : ListFunction) → Same (g.C.Chain.whole l.chain) f → (yields : List Tree → End → Given Tree) → Means yields f → (ss : List Sub) → Keeps g.C.Chain.rest g.C.Chain.is_open f yields l.how l.kept ss
    → TakesBy g.C.Chain.rest g.C.Chain.is_open f yields l.how ss c.args.e b l.pending c.take.new.outs c.take.new.self)) c.self.view_is c.take.ensures.takes
