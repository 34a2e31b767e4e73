-- The first rule that a text breaks, and the blueprint that is left of one that breaks none.
use Rattle.std.specs.Prelude.{◌≡◌, Bool, ◌||◌, nat_lt, List, length, Option, None}
use Rattle.std.specs.Option.{option_map, option_or}
use Rattle.stream_model.specs.declared.limit.TheConstants.{MAX_NODES, MAX_WIRES}
use Rattle.blue_modules.specs.Plain.{PlainBlueprint}
use Rattle.blue_modules.specs.declared.fault.ModuleFault.{ModuleFault}
use Rattle.blue_modules.specs.declared.fault.ModuleFault.TheVariants.{TwoNames, NoSuchModule, NoSuchName, PortName, TooLarge}
use Rattle.blue_modules.specs.Text.{PlainText}
use Rattle.blue_modules.specs.Flatten.{FlatPart, part_nodes, part_wires, latest_first, flat_parts, flat}
use Rattle.blue_names.specs.First.{first_from, when}
use Rattle.blue_modules.specs.Rules.{Body, WrongPort, bodies, named_again, unknown_module, unknown_in_body, wrong_in}

-- the bodies of a text
abbrev pub bodies_of : PlainText → List Body
bodies_of t = bodies (latest_first t.modules) t.body

-- more nodes or wires than a blueprint may have
abbrev pub exceeds_limits : List FlatPart → Bool
exceeds_limits ps = nat_lt MAX_NODES (length (part_nodes ps)) || nat_lt MAX_WIRES (length (part_wires ps))

-- the text comes to more nodes or wires than a blueprint may have
abbrev pub too_large : PlainText → Bool
too_large t = exceeds_limits (flat_parts t)

-- the fault of a port: a module or a node or instance, and the port
abbrev pub port_fault : WrongPort → ModuleFault
port_fault w = PortName w.0 w.1

-- names come first: those that are taken twice, the modules of uses, and what wires and port lines name
abbrev pub first_name_fault : List Body → Option ModuleFault
first_name_fault bs =
    option_or (option_map TwoNames (first_from (λ _ b. named_again b) 0 bs))
    (option_or (option_map NoSuchModule (first_from (λ _ b. unknown_module b) 0 bs)) (option_map NoSuchName (first_from (λ _ b. unknown_in_body b) 0 bs)))

-- then ports
abbrev pub bodies_fault : List Body → Option ModuleFault
bodies_fault bs = option_or (first_name_fault bs) (option_map port_fault (first_from (λ _ b. wrong_in b) 0 bs))

-- the first rule that is broken, at its least place; the last is that on the size
-- Choices: docs/DECISIONS.md#rules-by-body, docs/DECISIONS.md#unused-modules-keep-rules
abbrev pub rule_fault : PlainText → Option ModuleFault
rule_fault t = option_or (bodies_fault (bodies_of t)) (when (too_large t) TooLarge)

-- the blueprint of a text that breaks no rule on modules
pub record IsFlat (t : PlainText) (b : PlainBlueprint) : Type 0 where
  pub fit : rule_fault t ≡ None
  pub is : b ≡ flat t
