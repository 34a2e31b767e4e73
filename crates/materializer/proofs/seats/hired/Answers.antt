-- The goals of `seats::hired` that the search leaves.
use Rattle.std.proofs.Common.{rules, ◌≡◌, ℕ, length}
use Rattle.materializer.proofs.Guests.{stages_custom, plans_custom}
use Rattle.materializer.proofs.seats.hired.Goals as goal

pub returns-clause-planned : goal.returns-clause-planned
returns-clause-planned g c =
    let ins : ℕ = length c.args.custom.head.inputs.items in
    let outs : ℕ = length c.args.custom.head.outputs.items in
    let inputs : c.len-inputs.result ≡ ins = search rules in
    let outputs : c.len-outputs.result ≡ outs = search rules in
    let made = c.in_ok-stage.ensures in
    λ around node is used. plans_custom around c.args.k node c.args.custom.head.name c.in_ok-stage.stage ins outs c.len-inputs.result c.len-outputs.result is
    (stages_custom c.args.k node.kind c.args.custom.head.name c.in_ok-stage.stage ins outs c.len-inputs.result c.len-outputs.result is made.name made.node made.fresh inputs outputs)
    used inputs outputs

pub returns-clause-free : goal.returns-clause-free
returns-clause-free g c =
    let ins : ℕ = length c.args.custom.head.inputs.items in
    let outs : ℕ = length c.args.custom.head.outputs.items in
    let inputs : c.len-inputs.result ≡ ins = search rules in
    let outputs : c.len-outputs.result ≡ outs = search rules in
    let made = c.in_ok-stage.ensures in
    λ chains node is. stages_custom c.args.k node.kind c.args.custom.head.name c.in_ok-stage.stage ins outs c.len-inputs.result c.len-outputs.result is made.name made.node made.fresh inputs outputs
