use Rattle.std.proofs.Common.{◌≡◌, drop}
use Rattle.blue_names.specs.First.{first_from}
use Rattle.blue_modules.specs.Rules.{unless_named}
use Rattle.blue_modules.proofs.names.unknown_at_ports.Given as goal

abbrev pub invariant-loop-port : goal.invariant-loop-port
invariant-loop-port l = first_from (λ _ d. unless_named l.entries d.node) 0 l.ports ≡ first_from (λ _ d. unless_named l.entries d.node) l.port-index (drop l.port-index l.ports)
