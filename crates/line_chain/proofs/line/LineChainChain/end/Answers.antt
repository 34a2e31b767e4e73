use Rattle.std.proofs.Common.{[], refl, subst}
use Rattle.port_core.specs.ListFunction.{FunctionFinished}
use Rattle.stream_model.specs.Outlook.{ended}
use Rattle.line_chain.specs.Line.{Line, line_rest}
use Rattle.line_chain.specs.Steps.{end_of}
use Rattle.line_chain.proofs.Lines.{ran_as, end_answers}
use Rattle.line_chain.proofs.line.LineChainChain.end.Goals as goal

pub returns-clause-gives : goal.returns-clause-gives
returns-clause-gives c =
    let olds = c.self.inside.steps.items in
    let news = c.run_all.new.steps.items in
    let before = c.args.out.now in
    let now = c.run_all.new.out in
    let d = end_of c.in_ok-ending.ending in
    let r = ran_as olds news c.clear.new.self [] before now ended d d c.clear.ensures refl c.in_ok-ending.ensures in
    subst (λ (x : Line). FunctionFinished (line_rest x) c.last_answer.result before now) c.self.view_is (end_answers olds news before now d c.last_answer.result r c.last_answer.ensures)
