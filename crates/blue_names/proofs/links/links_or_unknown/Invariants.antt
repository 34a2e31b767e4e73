use Rattle.std.proofs.Common.{◌≡◌, map, take, drop}
use Rattle.blue_names.specs.First.{first_from}
use Rattle.blue_names.specs.RuleLinks.{wires_of}
use Rattle.blue_names.specs.Links.{wires_of_links}
use Rattle.blue_names.specs.Names.{unknown_end}
use Rattle.blue_names.proofs.links.links_or_unknown.Given as goal

-- the wires so far, none of which names what is not declared
abbrev pub invariant-loop-wire : goal.invariant-loop-wire
invariant-loop-wire l =
    (wires_of_links l.links.items ≡ wires_of l.nodes (take l.wire-index l.wires))
    × (first_from (λ _ w. unknown_end (map (λ n. n.name) l.nodes) w) 0 l.wires ≡ first_from (λ _ w. unknown_end (map (λ n. n.name) l.nodes) w) l.wire-index (drop l.wire-index l.wires))
