-- What a text comes to that says something.
use Rattle.std.proofs.Common.{◌≡◌, inl, inr, ℕ, List, [], ◌∷◌}
use Rattle.std.specs.Prelude.{Some}
use Rattle.stream_model.specs.declared.blueprint.Blueprint.{Blueprint}
use Rattle.stream_model.specs.Heads.{shipped_guests}
use Rattle.blue_modules.specs.Plain.{plain}
use Rattle.blue_modules.specs.Text.{PlainText}
use Rattle.blue_modules.specs.Fitness.{IsFlat}
use Rattle.blue_lang.specs.Texts.{Says}
use Rattle.blue_check.specs.Fitness.{IsFirstFault}
use Rattle.blue_check.specs.Meaning.{Denotes, modules_fault}
use Rattle.blue_check.specs.declared.fault.CheckFault.{CheckFault}
use Rattle.workbench_draw.specs.Judging.{IsUnfitText}

-- it has a blueprint
pub denotes : (text : List ℕ) (said : PlainText) (b : Blueprint) → Says text said → IsFlat said (plain b) → Denotes (Says text) b
denotes text said b says flat = record { text = said; says = says; flat = flat }

-- it breaks a rule on modules
pub breaks_modules : (text file : List ℕ) (said : PlainText) (f : CheckFault) → Says text said → modules_fault said ≡ Some f → IsUnfitText text file f
breaks_modules text file said f says broken = record { said = said; says = says; broken = inl broken }

-- its blueprint breaks a rule
pub breaks_rule : (text file : List ℕ) (b : Blueprint) (f : CheckFault) → Denotes (Says text) b → IsFirstFault b shipped_guests (file ∷ []) f → IsUnfitText text file f
breaks_rule text file b f d first = record { said = d.text; says = d.says; broken = inr (b, (d.flat, first)) }
