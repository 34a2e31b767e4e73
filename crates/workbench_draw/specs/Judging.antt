-- Whether a text says a blueprint that can be run.
use Rattle.std.specs.Prelude.{◌≡◌, ℕ, List, [], ◌∷◌, Some}
use Rattle.stream_model.specs.declared.blueprint.Blueprint.{Blueprint}
use Rattle.blue_modules.specs.Text.{PlainText}
use Rattle.blue_check.specs.Fitness.{IsFit}
use Rattle.blue_check.specs.Meaning.{Denotes, BreaksRule}
use Rattle.blue_check.specs.declared.fault.CheckFault.{CheckFault}
use Rattle.blue_lang.specs.Texts.{Says, text_fault}
use Rattle.stream_model.specs.Heads.{shipped_guests}
use Rattle.workbench_draw.specs.declared.judge.Unready.{Unready}
use Rattle.workbench_draw.specs.declared.judge.Unready.TheVariants.{Refused, Unfit, NoMemory}

-- it is the blueprint of the text, and breaks no rule where the text's own file is taken and the plugs of `streams` are handed in
pub record IsFitText (text file : List ℕ) (b : Blueprint) : Type 0 where
  pub says : Denotes (Says text) b
  pub fit : IsFit b shipped_guests (file ∷ [])

-- the text says something of which this is the first rule that is broken, at its least place
pub record IsUnfitText (text file : List ℕ) (f : CheckFault) : Type 0 where
  pub said : PlainText
  pub says : Says text said
  pub broken : BreaksRule said shipped_guests (file ∷ []) f

-- why the text says no blueprint that can be run; memory may be wanting at any text
abbrev pub IsUnready : List ℕ → List ℕ → Unready → Type 0
IsUnready text file (Refused f) = text_fault text ≡ Some f
IsUnready text file (Unfit f) = IsUnfitText text file f
IsUnready text file NoMemory = Unit {0}
