use Rattle.std.proofs.Common.{◌≡◌, drop}
use Rattle.blue_names.specs.First.{first_from}
use Rattle.blue_modules.specs.Counts.{plain_counted}
use Rattle.blue_modules.specs.Rules.{wrong_port}
use Rattle.blue_modules.specs.Scopes.{body_in}
use Rattle.blue_modules.proofs.ports.wrong_in_module.Given as goal

abbrev pub invariant-loop-i : goal.invariant-loop-i
invariant-loop-i l = first_from (wrong_port (plain_counted l.owner) (body_in l.scope)) 0 (l.owner.of.now).ports.items ≡ first_from (wrong_port (plain_counted l.owner) (body_in l.scope)) l.i (drop l.i (l.owner.of.now).ports.items)
