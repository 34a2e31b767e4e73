use Rattle.std.proofs.Common.{◌≡◌, false, [], ◌∷◌, ◌++◌, List, ap, ◌∙◌, subst}
use Rattle.elem_core.specs.Tree.{Tree}
use Rattle.port_core.specs.ListFunction.{Pushed}
use Rattle.port_core.specs.declared.chain.ChainStep.TheVariants.{Go, Closed, Failed}
use Rattle.stream_model.specs.Outlook.{unended, ended, failed}
use Rattle.line_chain.specs.Line.{Line, line_rest}
use Rattle.line_chain.specs.Steps.{end_of}
use Rattle.line_chain.specs.Chains.{starts_of, nows_of}
use Rattle.line_chain.proofs.Lines.{ran_as, push_goes, push_ends, push_fails}
use Rattle.line_chain.proofs.line.LineChainChain.push.Goals as goal

pub returns-in-Lasting-clause-gives : goal.returns-in-Lasting-clause-gives
returns-in-Lasting-clause-gives c =
    let olds = c.self.inside.steps.items in
    let news = c.run_all.new.steps.items in
    let before = c.args.out.now in
    let now = c.run_all.new.out in
    let ins : c.add.new.self ≡ c.args.e ∷ [] = c.in_ok-add.ensures ∙ ap (λ (l : List Tree). l ++ c.args.e ∷ []) c.clear.ensures in
    let r = ran_as olds news c.add.new.self (c.args.e ∷ []) before now unended (end_of c.in_ok-ending.ending) unended ins (ap end_of c.in-Lasting.is) c.in_ok-ending.ensures in
    let rest = line_rest (record { starts = starts_of news; now = nows_of news; callable = c.self.inside.callable }) in
    subst (λ (x : Line). Pushed (line_rest x) c.args.e Go before now rest) c.self.view_is (push_goes olds news c.args.e before now r)

pub returns-in-Ended-clause-gives : goal.returns-in-Ended-clause-gives
returns-in-Ended-clause-gives c =
    let olds = c.self.inside.steps.items in
    let news = c.run_all.new.steps.items in
    let before = c.args.out.now in
    let now = c.run_all.new.out in
    let ins : c.add.new.self ≡ c.args.e ∷ [] = c.in_ok-add.ensures ∙ ap (λ (l : List Tree). l ++ c.args.e ∷ []) c.clear.ensures in
    let r = ran_as olds news c.add.new.self (c.args.e ∷ []) before now unended (end_of c.in_ok-ending.ending) ended ins (ap end_of c.in-Ended.is) c.in_ok-ending.ensures in
    let rest = line_rest (record { starts = starts_of news; now = nows_of news; callable = false }) in
    subst (λ (x : Line). Pushed (line_rest x) c.args.e Closed before now rest) c.self.view_is (push_ends olds news c.args.e before now rest r)

pub returns-in-Failed-clause-gives : goal.returns-in-Failed-clause-gives
returns-in-Failed-clause-gives c =
    let olds = c.self.inside.steps.items in
    let news = c.run_all.new.steps.items in
    let before = c.args.out.now in
    let now = c.run_all.new.out in
    let ins : c.add.new.self ≡ c.args.e ∷ [] = c.in_ok-add.ensures ∙ ap (λ (l : List Tree). l ++ c.args.e ∷ []) c.clear.ensures in
    let r = ran_as olds news c.add.new.self (c.args.e ∷ []) before now unended (end_of c.in_ok-ending.ending) (failed c.in-Failed.cause) ins (ap end_of c.in-Failed.is) c.in_ok-ending.ensures in
    let rest = line_rest (record { starts = starts_of news; now = nows_of news; callable = false }) in
    subst (λ (x : Line). Pushed (line_rest x) c.args.e (Failed c.in-Failed.cause.why) before now rest) c.self.view_is (push_fails olds news c.args.e before now rest c.in-Failed.cause r)
