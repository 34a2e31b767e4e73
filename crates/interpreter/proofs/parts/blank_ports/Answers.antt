-- The goals of `parts::blank_ports` that the search leaves.
use Rattle.std.proofs.Common.{◌≡◌, ◌∙◌, length, rules, sym}
use Rattle.fused_net.specs.PortLists.{PortLists}
use Rattle.interpreter.specs.Parts.{input_count_at, output_count_at}
use Rattle.interpreter.proofs.Tables.{inputs_here, outputs_here, rows_next, sized_of, length_next}
use Rattle.interpreter.proofs.parts.blank_ports.Goals as goal

pub loop-n-preserved : goal.loop-n-preserved
loop-n-preserved c = rw c.in_ok-push.ensures.items (
  length_next _ _ _ c.loop-n.invariant.0,
  rows_next (λ (p : PortLists). length p.ins) (input_count_at c.args.places.now) _ _ _ c.loop-n.invariant.0 c.loop-n.invariant.1 (c.in_ok-blank_row.ensures.ins ∙ sym (inputs_here _ _ _ c.loop-n-test.true)),
  rows_next (λ (p : PortLists). length p.outs) (output_count_at c.args.places.now) _ _ _ c.loop-n.invariant.0 c.loop-n.invariant.2 (c.in_ok-blank_row.ensures.outs ∙ sym (outputs_here _ _ _ c.loop-n-test.true)),
)

pub returns : goal.returns
returns c = let all : c.loop-n.n ≡ length c.args.places.now = search rules in sized_of _ _ _ all c.loop-n.invariant.0 c.loop-n.invariant.1 c.loop-n.invariant.2
