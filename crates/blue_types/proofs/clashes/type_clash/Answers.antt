use Rattle.std.proofs.Common.{◌≡◌, ℕ, Option, IfOk, subst}
use mathlib.Core.Path.{fun_ext}
use Rattle.elem_core.specs.Sort.{Sort}
use Rattle.blue_names.specs.First.{first_from}
use Rattle.blue_names.specs.Rounds.{clash_on}
use Rattle.blue_names.specs.Links.{wires_of_links}
use Rattle.blue_types.proofs.clashes.type_clash.Goals as goal

pub returns : goal.returns
returns c =
    let l = c.args.library.now in
    let n = c.args.net.now in
    let ws = wires_of_links n.links.now in
    subst (λ (t : ℕ → Option Sort). IfOk c.first_clash.result (λ r. r ≡ first_from (clash_on l.heads.now l.chains.now n.nodes.now ws t) 0 ws)) (fun_ext c.requires.settled) c.first_clash.ensures
