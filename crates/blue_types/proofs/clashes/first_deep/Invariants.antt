use Rattle.std.proofs.Common.{◌≡◌, ℕ, drop, Option, Some}
use Rattle.stream_model.specs.declared.blueprint.Node.{Node}
use Rattle.blue_names.specs.First.{first_from, when}
use Rattle.blue_names.specs.Rounds.{attempt_at, is_deep}
use Rattle.blue_names.specs.Links.{wires_of_links}
use Rattle.blue_types.specs.Net.{type_at}
use Rattle.blue_types.proofs.clashes.first_deep.Given as goal

abbrev pub invariant-loop-i : goal.invariant-loop-i
invariant-loop-i l =
    let deep : ℕ → Node → Option ℕ = λ i n. when (is_deep (attempt_at l.library.heads.now l.library.chains.now l.net.nodes.now (wires_of_links l.net.links.now) (type_at l.types) i (Some n))) i in
    first_from deep 0 l.net.nodes.now ≡ first_from deep l.i (drop l.i l.net.nodes.now)
