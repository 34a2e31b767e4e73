use Rattle.std.proofs.Common.{◌≤◌, ◌+◌, List, length, sym, ◌∙◌, subst, rules}
use Rattle.elem_core.specs.Tree.{Tree}
use Rattle.line_chain.specs.Steps.{end_of}
use Rattle.line_chain.proofs.Running.{Half, half_next, half_all}
use Rattle.line_chain.proofs.line.run_all.Goals as goal

pub loop-i-preserved : goal.loop-i-preserved
loop-i-preserved c =
    let olds = c.args.steps.now.items in
    let next =
    half_next olds c.args.inputs.now (end_of c.args.ending) c.loop-i.i c.loop-i.steps.items c.run_at.new.steps.items c.loop-i.inputs c.run_at.new.outputs (end_of c.loop-i.ending) (end_of c.in_ok-ending.ending) c.loop-i.invariant.0 c.in_ok-ending.ensures.runs in (
      subst (λ (l : List Tree). Half olds c.args.inputs.now (end_of c.args.ending) (c.loop-i.i + 1) c.run_at.new.steps.items l (end_of c.in_ok-ending.ending)) (sym c.swap.ensures.x_after) next,
      c.swap.ensures.y_after ∙ c.in_ok-ending.ensures.none,
    )

pub returns : goal.returns
returns c =
    let past : length c.loop-i.steps.items ≤ c.loop-i.i = search rules in
    half_all c.args.steps.now.items c.args.inputs.now (end_of c.args.ending) c.loop-i.i c.loop-i.steps.items c.loop-i.inputs (end_of c.loop-i.ending) c.args.out.now c.move_to.new.to past c.loop-i.invariant.0 c.in_ok-move_to.ensures.all
