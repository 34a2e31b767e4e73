use Rattle.std.specs.Prelude.{replicate}
use Rattle.std.proofs.Common.{◌≡◌, ◌≤◌, ℕ, length, ap, ◌∙◌, refl, arith}
use Rattle.graph_stage.specs.Making.{quiet_in, quiet_out}
use Rattle.graph_stage.proofs.Making.{made_fresh}
use Rattle.graph_stage.proofs.logic.CustomLogic.new.Goals as goal

pub returns-clause-fresh : goal.returns-clause-fresh
returns-clause-fresh g c =
    let i : c.len.result ≡ length c.args.custom.head.inputs.items = grind (arith, c.len.ensures, c.args.custom.head.inputs.ok) in
    let o : c.len-2.result ≡ length c.args.custom.head.outputs.items = grind (arith, c.len-2.ensures, c.args.custom.head.outputs.ok) in
    made_fresh _ (length c.args.custom.head.inputs.items) (length c.args.custom.head.outputs.items)
    (c.in_ok-ins.ensures ∙ ap (λ (n : ℕ). replicate n quiet_in) i) (c.in_ok-outs.ensures ∙ ap (λ (n : ℕ). replicate n quiet_out) o)
    c.requires.inputs c.requires.outputs c.new.ensures refl c.empty.ensures c.empty-2.ensures c.empty-3.ensures
