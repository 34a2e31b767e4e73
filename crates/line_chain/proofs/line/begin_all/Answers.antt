use Rattle.std.proofs.Common.{◌≡◌, ◌<◌, ◌+◌, ◌++◌, ◌∷◌, [], take, length, sym, ap, ◌∙◌, rules}
use Rattle.std.proofs.lemmas.List.{take_more}
use Rattle.stream_model.specs.Linear.{begin_work}
use Rattle.line_chain.proofs.Lines.{begun_more}
use Rattle.line_chain.proofs.line.begin_all.Goals as goal

pub loop-step-preserved : goal.loop-step-preserved
loop-step-preserved c =
    let s = c.step-item.result in
    let i = c.loop-step.step-index in
    let within : i < length c.args.steps.now = search rules in
    let more : take (i + 1) c.args.steps.now ≡ take i c.args.steps.now ++ s ∷ [] = take_more c.args.steps.now i s within ∙ ap (λ x. take i c.args.steps.now ++ x ∷ []) (sym c.step-item.is) in
    let starts = c.in_ok-one.ensures.starts ∙ ap (begin_work c.args.node s.decider) c.in_ok-kind.ensures in
    begun_more c.args.node (take i c.args.steps.now) (take (i + 1) c.args.steps.now) s c.loop-step.begun.items c.push.new.self.items c.in_ok-one.one c.loop-step.invariant more c.in_ok-push.ensures.items starts (c.in_ok-one.ensures.now ∙ sym c.in_ok-one.ensures.starts)
