-- What a text means: its blueprint, or the first of all rules that it breaks.
use Rattle.std.specs.Prelude.{◌≡◌, ℕ, List, Option, Some, ◌⊎◌}
use Rattle.std.specs.Option.{option_map}
use Rattle.stream_model.specs.declared.blueprint.Blueprint.{Blueprint}
use Rattle.stream_model.specs.Known.{HeadLists}
use Rattle.blue_modules.specs.Plain.{plain}
use Rattle.blue_modules.specs.Text.{PlainText}
use Rattle.blue_modules.specs.declared.fault.ModuleFault.{ModuleFault}
use Rattle.blue_modules.specs.declared.fault.ModuleFault.TheVariants as broken
use Rattle.blue_modules.specs.Fitness.{rule_fault, IsFlat}
use Rattle.blue_check.specs.declared.fault.CheckFault.{CheckFault}
use Rattle.blue_check.specs.declared.fault.CheckFault.TheVariants.{TwoNames, NoSuchName, NoSuchModule, PortName, TooLarge}
use Rattle.blue_check.specs.Fitness.{IsFirstFault}

-- a rule on modules, among all rules
abbrev pub as_check_fault : ModuleFault → CheckFault
as_check_fault (broken.TwoNames n) = TwoNames n
as_check_fault (broken.NoSuchModule n) = NoSuchModule n
as_check_fault (broken.NoSuchName n) = NoSuchName n
as_check_fault (broken.PortName n p) = PortName n p
as_check_fault broken.TooLarge = TooLarge

-- the first rule on modules that a text breaks, among all rules
abbrev pub modules_fault : PlainText → Option CheckFault
modules_fault t = option_map as_check_fault (rule_fault t)

-- the blueprint of what is said
-- Choice: docs/DECISIONS.md#meaning-over-a-relation
pub record Denotes (Says : PlainText → Type 0) (b : Blueprint) : Type 0 where
  pub text : PlainText
  pub says : Says text
  pub flat : IsFlat text (plain b)

-- the first of all rules that a text breaks: one on modules, or else one on its blueprint
abbrev pub BreaksRule : PlainText → HeadLists → List (List ℕ) → CheckFault → Type 0
BreaksRule t heads taken f = (modules_fault t ≡ Some f) ⊎ ((b : Blueprint) × (IsFlat t (plain b) × IsFirstFault b heads taken f))
