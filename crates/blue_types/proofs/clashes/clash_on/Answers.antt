use Rattle.std.proofs.Common.{◌≡◌, Option, Some, IfOk, refl, subst, sym, ◌∙◌}
use Rattle.std.specs.Prelude.{slice_get}
use Rattle.elem_core.specs.Sort.{Sort}
use Rattle.stream_model.specs.declared.blueprint.Node.{Node}
use Rattle.blue_names.specs.Rounds.{clash_with, type_on}
use Rattle.blue_names.specs.Links.{wire_of_link, wires_of_links}
use Rattle.blue_types.specs.Net.{type_at}
use Rattle.blue_types.proofs.clashes.clash_on.Goals as goal

pub returns-in-Some-2 : goal.returns-in-Some-2
returns-in-Some-2 c =
    let n = c.args.net.now in
    let l = c.args.library.now in
    let w = wire_of_link c.args.link in
    let taken = type_at c.args.types.now w.to in
    let arrives : Option Sort = type_on l.heads.now n.nodes.now (wires_of_links n.links.now) (type_at c.args.types.now) (Some w) in
    let node = c.in-Some.node.now in
    let a : slice_get n.nodes.now w.to ≡ Some node = sym c.in-Some.ensures in
    let b : arrives ≡ Some c.in-Some-2.t = sym c.in_ok-type_on-in-Some.ensures ∙ c.in-Some-2.is in
    let here = c.clash_at.ensures node taken refl c.type_of.ensures in
    subst (λ (x : Option Node). IfOk c.clash_at.result (λ r. r ≡ clash_with l.heads.now l.chains.now c.args.wire w.input x taken arrives)) (sym a)
    (subst (λ (y : Option Sort). IfOk c.clash_at.result (λ r. r ≡ clash_with l.heads.now l.chains.now c.args.wire w.input (Some node) taken y)) (sym b) here)
