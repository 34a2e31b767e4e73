use Rattle.std.proofs.Common.{◌≡◌, ℕ, Option, Some, IfOk, subst}
use mathlib.Core.Path.{fun_ext}
use Rattle.elem_core.specs.Sort.{Sort}
use Rattle.blue_names.specs.First.{first_from, when}
use Rattle.blue_names.specs.Rounds.{attempt_at, is_deep}
use Rattle.blue_names.specs.Links.{wires_of_links}
use Rattle.blue_types.proofs.clashes.too_deep.Goals as goal

pub returns : goal.returns
returns c =
    let l = c.args.library.now in
    let n = c.args.net.now in
    let ws = wires_of_links n.links.now in
    subst (λ (t : ℕ → Option Sort). IfOk c.first_deep.result (λ r. r ≡ first_from (λ i m. when (is_deep (attempt_at l.heads.now l.chains.now n.nodes.now ws t i (Some m))) i) 0 n.nodes.now)) (fun_ext c.requires.settled) c.first_deep.ensures
