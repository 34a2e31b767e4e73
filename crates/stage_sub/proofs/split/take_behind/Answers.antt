use Rattle.std.proofs.Common.{rules, ◌≡◌, true, false, Ok}
use Rattle.elem_core.specs.Values.{pred_value}
use Rattle.stream_model.specs.Substreams.{behind, end_all}
use Rattle.stage_sub.specs.Subs.{grown}
use Rattle.stage_sub.proofs.Splitting.{taken, behind_hit, behind_miss}
use Rattle.stage_sub.proofs.split.take_behind.Goals as goal

pub returns-in-Ok-true-clause-takes : goal.returns-in-Ok-true-clause-takes
returns-in-Ok-true-clause-takes g c =
    let test : pred_value c.args.test.now c.args.e ≡ Ok true = search rules in
    taken g.C.Chain.rest g.C.Chain.is_open (g.C.Chain.whole c.args.chain.now) c.args.last.now c.grow_and_end.new.last c.args.outs.now c.grow_and_end.new.outs (behind c.args.test.now) c.args.e (λ ss. end_all (grown ss c.args.e)) c.grow_and_end.result (λ ss. behind_hit c.args.e ss c.args.test.now test) c.grow_and_end.ensures.becomes

pub returns-in-Ok-false-clause-takes : goal.returns-in-Ok-false-clause-takes
returns-in-Ok-false-clause-takes g c =
    let test : pred_value c.args.test.now c.args.e ≡ Ok false = search rules in
    taken g.C.Chain.rest g.C.Chain.is_open (g.C.Chain.whole c.args.chain.now) c.args.last.now c.grow.new.last c.args.outs.now c.grow.new.outs (behind c.args.test.now) c.args.e (λ ss. grown ss c.args.e) c.grow.result (λ ss. behind_miss c.args.e ss c.args.test.now test) c.grow.ensures.becomes
