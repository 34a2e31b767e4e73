-- The faults of a text's bodies, as they are seen in code.
use Rattle.std.specs.Prelude.{List, Option}
use Rattle.std.specs.Option.{option_map, option_or}
use Rattle.blue_modules.specs.declared.scopes.Scope.{Scope}
use Rattle.blue_modules.specs.declared.fault.ModuleFault.{ModuleFault}
use Rattle.blue_modules.specs.declared.fault.ModuleFault.TheVariants.{TwoNames, NoSuchModule, NoSuchName}
use Rattle.blue_names.specs.First.{first_from}
use Rattle.blue_modules.specs.Rules.{named_again, unknown_module, unknown_in_body, wrong_in}
use Rattle.blue_modules.specs.Scopes.{body_in}
use Rattle.blue_modules.specs.Fitness.{port_fault}

-- the first fault of a name in bodies
abbrev pub names_in : List Scope → Option ModuleFault
names_in ss =
    option_or (option_map TwoNames (first_from (λ _ s. named_again (body_in s)) 0 ss))
    (option_or (option_map NoSuchModule (first_from (λ _ s. unknown_module (body_in s)) 0 ss))
    (option_map NoSuchName (first_from (λ _ s. unknown_in_body (body_in s)) 0 ss)))

-- the first fault of a name in bodies, or else of a port
abbrev pub faults_in : List Scope → Option ModuleFault
faults_in ss = option_or (names_in ss) (option_map port_fault (first_from (λ _ s. wrong_in (body_in s)) 0 ss))
