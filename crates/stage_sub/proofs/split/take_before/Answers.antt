use Rattle.std.proofs.Common.{rules, ◌≡◌, true, false, Ok}
use Rattle.elem_core.specs.Values.{pred_value}
use Rattle.stream_model.specs.Substreams.{before, opened}
use Rattle.stage_sub.specs.Subs.{grown}
use Rattle.stage_sub.proofs.Splitting.{taken, before_hit, before_miss}
use Rattle.stage_sub.proofs.split.take_before.Goals as goal

pub returns-in-Ok-true-clause-takes : goal.returns-in-Ok-true-clause-takes
returns-in-Ok-true-clause-takes g c =
    let test : pred_value c.args.test.now c.args.e ≡ Ok true = search rules in
    taken g.C.Chain.rest g.C.Chain.is_open (g.C.Chain.whole c.args.chain.now) c.args.last.now c.end_and_open.new.last c.args.outs.now c.end_and_open.new.outs (before c.args.test.now) c.args.e (λ ss. opened c.args.e c.args.e ss) c.end_and_open.result (λ ss. before_hit c.args.e ss c.args.test.now test) c.end_and_open.ensures.becomes

pub returns-in-Ok-false-clause-takes : goal.returns-in-Ok-false-clause-takes
returns-in-Ok-false-clause-takes g c =
    let test : pred_value c.args.test.now c.args.e ≡ Ok false = search rules in
    taken g.C.Chain.rest g.C.Chain.is_open (g.C.Chain.whole c.args.chain.now) c.args.last.now c.grow.new.last c.args.outs.now c.grow.new.outs (before c.args.test.now) c.args.e (λ ss. grown ss c.args.e) c.grow.result (λ ss. before_miss c.args.e ss c.args.test.now test) c.grow.ensures.becomes
