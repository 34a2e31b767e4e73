-- Bodies as the rules see them.
use Rattle.std.specs.Prelude.{List, map}
use Rattle.std.specs.Option.{option_map}
use Rattle.blue_modules.specs.declared.scopes.Scope.{Scope}
use Rattle.blue_modules.specs.declared.ports.Wrong.{Wrong}
use Rattle.blue_modules.specs.declared.ports.Wrong.TheVariants.{Twice, Place}
use Rattle.blue_modules.specs.Counts.{counted_modules, plain_counted}
use Rattle.blue_modules.specs.Rules.{Body, WrongPort, mark_text}

-- a body, of what the code holds of it
abbrev pub body_in : Scope → Body
body_in s = record { owner = option_map (λ c. plain_counted c.now) s.owner; before = counted_modules s.before.now; entries = s.entries.now }

-- bodies, of what the code holds of them
abbrev pub bodies_in : List Scope → List Body
bodies_in ss = map body_in ss

-- a wrong port, of what the code holds of it
abbrev pub wrong_of : Wrong → WrongPort
wrong_of (Twice m p) = (m.now, p.now)
wrong_of (Place n k) = (n.now, mark_text k.now)
