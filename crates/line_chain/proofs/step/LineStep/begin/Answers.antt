use Rattle.line_chain.specs.Kinds.{begun}
use Rattle.line_chain.specs.Steps.{work_in}
use Rattle.line_chain.proofs.Starts.{begun_now}
use Rattle.line_chain.proofs.step.LineStep.begin.Goals as goal

pub returns-clause-now : goal.returns-clause-now
returns-clause-now c = begun_now c.args.node c.args.decider (begun c.args.kind) (work_in c.in_ok-work.work) c.in_ok-owed.owed c.ending-ending.result c.in_ok-owed.ensures c.in_ok-work.ensures c.ending-ending.ensures
