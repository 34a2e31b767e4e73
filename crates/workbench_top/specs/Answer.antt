-- What the workbench answers to a work on the text of a blueprint's file.
use Rattle.std.specs.Prelude.{◌≡◌, ◌<◌, ℕ, ◌⊎◌, true, List, [], Some, length, codes}
use Rattle.stream_model.specs.declared.blueprint.Blueprint.{Blueprint}
use Rattle.blue_words.specs.declared.fault.BlueFault.{BlueFault}
use Rattle.blue_lang.specs.Texts.{Says, text_fault}
use Rattle.blue_lang.specs.Canonical.{canonical}
use Rattle.blue_modules.specs.Text.{PlainText}
use Rattle.stream_model.specs.Shape.{IsPolytree}
use Rattle.blue_check.specs.Forest.{wiring}
use Rattle.blue_check.specs.Wires.{blueprint_wires}
use Rattle.blue_check.specs.Meaning.{Denotes}
use Rattle.workbench_top.specs.declared.task.TaskKind.{TaskKind}
use Rattle.workbench_top.specs.declared.task.TaskKind.TheVariants.{Check, Format, Draw, Explain, Turns}
use Rattle.workbench_draw.specs.declared.judge.Unready.{Unready}
use Rattle.workbench_draw.specs.declared.judge.Unready.TheVariants as unready
use Rattle.workbench_draw.specs.Judging.{IsFitText, IsUnready}
use Rattle.workbench_draw.specs.Message.{BeginsWithReport}
use Rattle.workbench_draw.specs.Drawing.{IsDrawingOf}
use Rattle.workbench_draw.specs.Turns.{Suffices}
use Rattle.workbench_top.specs.Comments.{has_notes, IsCommented}
use Rattle.workbench_top.specs.declared.answer.Answer.{Answer}
use Rattle.workbench_top.specs.declared.answer.Ending.{Ending}
use Rattle.workbench_top.specs.declared.answer.Ending.TheVariants as ending

-- the exit code of an ending
abbrev pub code_of : Ending → ℕ
code_of ending.Done = 0
code_of ending.Words = 1
code_of ending.Faulty = 2
code_of ending.Missing = 6
code_of ending.ReadFault = 7
code_of ending.NoMemory = 9

-- nothing is said, and the fault is told
pub record TellsFault (why : Unready) (a : Answer) : Type 0 where
  pub ending : a.ending ≡ ending.Faulty
  pub said : a.said.items ≡ []
  pub told : BeginsWithReport why a.told.items

-- the fault is told, or memory was wanting
abbrev pub IsBlame : Unready → Answer → Type 0
IsBlame unready.NoMemory a = a.ending ≡ ending.NoMemory
IsBlame why a = TellsFault why a ⊎ (a.ending ≡ ending.NoMemory)

-- the fault of the text is told: the first of the language, or the first rule that is broken
pub record Blames (text file : List ℕ) (a : Answer) : Type 0 where
  pub why : Unready
  pub is : IsUnready text file why
  pub blame : IsBlame why a

-- the text and its blueprint break no rule, and nothing is said; warnings are told only if its wires have a closed walk, directions
-- ignored
pub record PassesAnswer (text file : List ℕ) (a : Answer) : Type 0 where
  pub ending : a.ending ≡ ending.Done
  pub blueprint : Blueprint
  pub fit : IsFitText text file blueprint
  pub said : a.said.items ≡ []
  pub told : IsPolytree (wiring (blueprint_wires blueprint)) → a.told.items ≡ []

-- the answer to `check`
abbrev pub Checks : List ℕ → List ℕ → Answer → Type 0
Checks text file a = PassesAnswer text file a ⊎ Blames text file a

-- the canonical text of what the text says is said; if the text has comments, it may be said with them
pub record SaysCanonical (text : List ℕ) (a : Answer) : Type 0 where
  pub ending : a.ending ≡ ending.Done
  pub meant : PlainText
  pub says : Says text meant
  pub said : (a.said.items ≡ canonical meant) ⊎ ((has_notes text ≡ true) × IsCommented meant a.said.items)

-- the first fault of the text is told
pub record RefusesText (text : List ℕ) (a : Answer) : Type 0 where
  pub fault : BlueFault
  pub is : text_fault text ≡ Some fault
  pub told : TellsFault (unready.Refused fault) a

-- the answer to `fmt`
abbrev pub Formats : List ℕ → Answer → Type 0
Formats text a = SaysCanonical text a ⊎ (RefusesText text a ⊎ (a.ending ≡ ending.NoMemory))

-- a drawing of the blueprint of the text is said, which breaks no rule
pub record DrawsFit (text file : List ℕ) (a : Answer) : Type 0 where
  pub ending : a.ending ≡ ending.Done
  pub blueprint : Blueprint
  pub fit : IsFitText text file blueprint
  pub said : IsDrawingOf blueprint a.said.items

-- a drawing of the blueprint of the text is said, and the rule is told that it breaks
pub record DrawsUnfit (text file : List ℕ) (a : Answer) : Type 0 where
  pub ending : a.ending ≡ ending.Faulty
  pub blueprint : Blueprint
  pub says : Denotes (Says text) blueprint
  pub said : IsDrawingOf blueprint a.said.items
  pub why : Unready
  pub is : IsUnready text file why
  pub told : BeginsWithReport why a.told.items

-- the answer to `draw`
abbrev pub DrawsAnswer : List ℕ → List ℕ → Answer → Type 0
DrawsAnswer text file a = DrawsFit text file a ⊎ (DrawsUnfit text file a ⊎ Blames text file a)

-- it is told that the report is none of the blueprint, and nothing is said
pub record TellsNoReport (a : Answer) : Type 0 where
  pub ending : a.ending ≡ ending.Faulty
  pub said : a.said.items ≡ []
  pub told : a.told.items ≡ codes "this is no report of this blueprint\n"

-- a report is given, and told to be none of the blueprint
pub record RefusesReport (report : List ℕ) (a : Answer) : Type 0 where
  pub given : 0 < length report
  pub tells : TellsNoReport a

-- the answer to `draw` of a text and of what the input gives: that to the text, or that the report is none of it, or could not be read
abbrev pub DrawsInput : List ℕ → List ℕ → Answer → Type 0
DrawsInput text file a = DrawsAnswer text file a ⊎ (TellsNoReport a ⊎ ((a.ending ≡ ending.ReadFault) ⊎ (a.ending ≡ ending.NoMemory)))

-- the units are said that suffice for the blueprint that the text says, where the sources give so many elements
pub record SaysUnits (text file counts : List ℕ) (a : Answer) : Type 0 where
  pub ending : a.ending ≡ ending.Done
  pub blueprint : Blueprint
  pub fit : IsFitText text file blueprint
  pub said : Suffices blueprint counts a.said.items

-- `turns`, where the words tell other than one count for each source, or more than any run takes
pub record MissesCounts (text file : List ℕ) (a : Answer) : Type 0 where
  pub ending : a.ending ≡ ending.Words
  pub blueprint : Blueprint
  pub fit : IsFitText text file blueprint
  pub said : a.said.items ≡ []

-- the answer to `turns`
abbrev pub Counts : List ℕ → List ℕ → List ℕ → Answer → Type 0
Counts text file counts a = SaysUnits text file counts a ⊎ (MissesCounts text file a ⊎ (Blames text file a ⊎ (a.ending ≡ ending.NoMemory)))

-- what is answered to a work on the text of that name's file; of a report nothing is claimed
abbrev pub AnswersText : TaskKind → List ℕ → List ℕ → List ℕ → Answer → Type 0
AnswersText Check text file counts a = Checks text file a
AnswersText Format text file counts a = Formats text a
AnswersText Draw text file counts a = DrawsInput text file a
AnswersText Explain text file counts a = Unit {0}
AnswersText Turns text file counts a = Counts text file counts a
