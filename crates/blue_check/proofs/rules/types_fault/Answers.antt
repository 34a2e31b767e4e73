use Rattle.std.proofs.Common.{◌≡◌, List, IfOk, subst}
use Rattle.stream_model.specs.declared.blueprint.ChainDecl.{ChainDecl}
use Rattle.stream_model.specs.Known.{HeadLists}
use Rattle.blue_names.specs.Links.{wires_of_links}
use Rattle.blue_check.specs.Fitness.{types_fault}
use Rattle.blue_check.proofs.rules.types_fault.Goals as goal

pub returns : goal.returns
returns c =
    let e = c.in_ok-library.ensures in
    let l = c.in_ok-library.library in
    let n = c.args.nodes.now in
    let ws = wires_of_links c.args.links.now in
    subst (λ (p : HeadLists). IfOk c.net_fault.result (λ f. f ≡ types_fault p c.args.chains.now n ws)) e.heads
    (subst (λ (ch : List ChainDecl). IfOk c.net_fault.result (λ f. f ≡ types_fault l.heads.now ch n ws)) e.chains c.net_fault.ensures)
