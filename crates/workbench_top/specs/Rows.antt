-- The blueprint of a row: a source, stages and a sink, each fed by the one before it.
use Rattle.std.specs.Prelude.{◌≡◌, ℕ, ◌+◌, ◌==◌, ◌⊎◌, if◌then◌else◌, List, [], ◌∷◌, ◌++◌, codes}
use Rattle.std.specs.Fmt.{decimal}
use Rattle.elem_core.specs.Bytes.{line_feed, space_byte}
use Rattle.blue_lang.specs.Texts.{Says}
use Rattle.blue_lang.specs.Canonical.{canonical}
use Rattle.blue_modules.specs.Text.{PlainText}
use Rattle.workbench_top.specs.Answer.{RefusesText}
use Rattle.workbench_top.specs.declared.answer.Answer.{Answer}
use Rattle.workbench_top.specs.declared.answer.Ending.TheVariants as ending

-- the byte put before the first part
abbrev pub onto_part : ℕ → List (List ℕ) → List (List ℕ)
onto_part b [] = (b ∷ []) ∷ []
onto_part b (p ∷ ps) = (b ∷ p) ∷ ps

-- the parts that bars part
abbrev pub row_parts : List ℕ → List (List ℕ)
row_parts [] = [] ∷ []
row_parts (b ∷ bs) = if b == 124 then [] ∷ row_parts bs else onto_part b (row_parts bs)

-- the name of a place: in for the source, and s1, s2 and so on for the stages
abbrev pub place_name : ℕ → List ℕ
place_name n = if n == 0 then codes "in" else 115 ∷ decimal n

-- the line of the stage of a place
abbrev pub stage_line : ℕ → List ℕ → List ℕ
stage_line n part = codes "stage " ++ (place_name n ++ (space_byte ∷ (part ++ codes "\n")))

-- the line of the wire between two places
abbrev pub row_wire_line : ℕ → ℕ → List ℕ
row_wire_line before n = codes "wire " ++ (place_name before ++ (codes ".0 -> " ++ (place_name n ++ codes ".0\n")))

-- the lines of the stage of a place, and of the wire to it from the place before it
abbrev pub stage_between : ℕ → ℕ → List ℕ → List ℕ
stage_between before n part = stage_line n part ++ row_wire_line before n

-- the lines of the sink behind a place, and of the wire to it
abbrev pub sink_lines : ℕ → List ℕ → List ℕ
sink_lines n part = codes "sink out " ++ (part ++ (codes "\nwire " ++ (place_name n ++ codes ".0 -> out.0\n")))

-- the lines of the parts behind a place: the last is the sink
abbrev pub later_lines : ℕ → List (List ℕ) → List ℕ
later_lines n [] = []
later_lines n (p ∷ []) = sink_lines n p
later_lines n (p ∷ q ∷ ps) = stage_between n (n + 1) p ++ later_lines (n + 1) (q ∷ ps)

-- the text of a row: of its source, and of the parts behind that
abbrev pub row_text : List ℕ → List ℕ → List ℕ
row_text source parts = codes "streams 1\nsource in " ++ (source ++ (line_feed ∷ later_lines 0 (row_parts parts)))

-- The canonical text of what this text says is said, and is read again as the same.
pub record SaysRow (text : List ℕ) (a : Answer) : Type 0 where
  pub ending : a.ending ≡ ending.Done
  pub meant : PlainText
  pub says : Says text meant
  pub said : a.said.items ≡ canonical meant
  pub again : Says a.said.items meant
  pub told : a.told.items ≡ []

-- `row`, of a row of this text
abbrev pub PrintsRow : List ℕ → Answer → Type 0
PrintsRow text a = SaysRow text a ⊎ (RefusesText text a ⊎ (a.ending ≡ ending.NoMemory))
