use Rattle.std.proofs.Common.{ℕ, List, IfOk, subst}
use Rattle.stream_model.specs.declared.blueprint.ChainDecl.{ChainDecl}
use Rattle.stream_model.specs.declared.blueprint.Node.{Node}
use Rattle.stream_model.specs.declared.blueprint.WireDecl.{WireDecl}
use Rattle.blue_names.specs.RuleLinks.{wires_of}
use Rattle.blue_check.specs.Fitness.{early_of}
use Rattle.blue_check.specs.Judging.{IsJudged}
use Rattle.blue_check.proofs.judge.judge.Goals as goal

pub returns : goal.returns
returns c =
    let b = c.args.b.now in
    let r = c.by_parts.result in
    let p = c.args.heads.now in
    let t = c.args.taken.now in
    subst (λ (s : List (List ℕ)). IfOk r (IsJudged (early_of s b.chains.items b.nodes.items b.wires.items p t) (wires_of b.nodes.items b.wires.items))) c.deref.ensures.value
    (subst (λ (ch : List ChainDecl). IfOk r (IsJudged (early_of c.deref.result.now ch b.nodes.items b.wires.items p t) (wires_of b.nodes.items b.wires.items))) c.deref-2.ensures.value
    (subst (λ (n : List Node). IfOk r (IsJudged (early_of c.deref.result.now c.deref-2.result.now n b.wires.items p t) (wires_of n b.wires.items))) c.deref-3.ensures.value
    (subst (λ (w : List WireDecl). IfOk r (IsJudged (early_of c.deref.result.now c.deref-2.result.now c.deref-3.result.now w p t) (wires_of c.deref-3.result.now w))) c.deref-4.ensures.value c.by_parts.ensures)))
