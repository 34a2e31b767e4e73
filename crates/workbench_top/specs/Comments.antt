-- What a text is without its comments, and what a canonical text is with them.
use Rattle.std.specs.Prelude.{◌≡◌, ℕ, Bool, ◌&&◌, if◌then◌else◌, List, [], ◌∷◌, ◌++◌}
use Rattle.std.specs.List.{list_any}
use Rattle.std.specs.Char.{is_ascii_graphic}
use Rattle.elem_core.specs.Bytes.{line_feed}
use Rattle.elem_core.specs.Text.{lines}
use Rattle.blue_words.specs.Line.{is_passed_over}
use Rattle.blue_modules.specs.Text.{PlainText}
use Rattle.blue_lang.specs.Canonical.{canonical}
use Rattle.blue_lang.specs.Texts.{Says}

-- the line is a comment: it is passed over, though it has a visible byte
abbrev pub is_note : List ℕ → Bool
is_note l = is_passed_over l && list_any is_ascii_graphic l

-- a line of the text is a comment
abbrev pub has_notes : List ℕ → Bool
has_notes text = list_any is_note (lines text)

-- the lines that are not passed over, each with LF
abbrev pub saying_lines : List (List ℕ) → List ℕ
saying_lines [] = []
saying_lines (l ∷ ls) = if is_passed_over l then saying_lines ls else l ++ line_feed ∷ saying_lines ls

-- the text without its comments and its empty lines
abbrev pub uncommented : List ℕ → List ℕ
uncommented text = saying_lines (lines text)

-- without its comments it is the canonical text of what is meant, and with them it says the same
pub record IsCommented (meant : PlainText) (said : List ℕ) : Type 0 where
  pub lines : uncommented said ≡ canonical meant
  pub again : Says said meant
