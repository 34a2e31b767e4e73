-- The canonical text of what a text says: one of version 2 of the language.
use Rattle.std.specs.Prelude.{ℕ, Bool, true, false, ◌||◌, if◌then◌else◌, List, [], ◌∷◌, ◌++◌, map, Option, Some, None, is_some, codes}
use Rattle.std.specs.List.{flat_map}
use Rattle.std.specs.Fmt.{decimal}
use Rattle.elem_core.specs.Bytes.{line_feed, point_byte}
use Rattle.blue_modules.specs.declared.text.Attrs.{Attrs}
use Rattle.blue_modules.specs.declared.text.PortMark.{PortMark}
use Rattle.blue_modules.specs.declared.text.PortMark.TheVariants.{Num, Name}
use Rattle.blue_modules.specs.declared.text.LaneMark.{LaneMark}
use Rattle.blue_modules.specs.declared.text.LaneMark.TheVariants.{Fused, Inherited, Own}
use Rattle.blue_modules.specs.declared.text.Entry.{Entry}
use Rattle.blue_modules.specs.declared.text.Entry.TheVariants.{Node, Instance, Wire}
use Rattle.blue_modules.specs.declared.text.PortDecl.{PortDecl}
use Rattle.blue_modules.specs.declared.text.StepText.{StepText}
use Rattle.blue_modules.specs.Text.{PlainModule, PlainText}
use Rattle.blue_lang.specs.Spaced.{spaced}
use Rattle.blue_lang.specs.Kinds.{kind_words, sort_word, decider_words}
use Rattle.blue_lang.specs.Declarations.{Declaration, sets, switch, chain, opens, port, part, ends}

-- the size that is set for lanes, where one is
abbrev pub size_words : Option ℕ → List (List ℕ)
size_words None = []
size_words (Some n) = codes "async" ∷ decimal n ∷ []

-- what is set for lanes and stages
abbrev pub attrs_words : Attrs → List (List ℕ)
attrs_words a = size_words a.size ++ decider_words a.decider

-- a port as a place has it: its number, or its name
abbrev pub mark_word : PortMark → List ℕ
mark_word (Num n) = decimal n
mark_word (Name p) = p

-- a place: the name of a node or of an instance, a point, and its port
abbrev pub place_word : List ℕ → PortMark → List ℕ
place_word name mark = name ++ point_byte ∷ mark_word mark

-- the mark of a lane that keeps what came before a failure
abbrev pub keep_words : Bool → List (List ℕ)
keep_words false = []
keep_words true = codes "keep" ∷ []

-- a lane, with its size where it has one of its own, and its mark
abbrev pub lane_words : LaneMark → Bool → List (List ℕ)
lane_words Fused keep = []
lane_words Inherited keep = codes "async" ∷ keep_words keep
lane_words (Own n) keep = codes "async" ∷ decimal n ∷ keep_words keep

-- ---- chains
-- the words of a step
abbrev pub step_words : StepText → List (List ℕ)
step_words s = kind_words s.kind ++ decider_words s.decider

-- each step behind `|`
abbrev pub later_words : List StepText → List (List ℕ)
later_words [] = []
later_words (s ∷ ss) = codes "|" ∷ (step_words s ++ later_words ss)

-- the words of steps, parted by `|`
abbrev pub steps_words : List StepText → List (List ℕ)
steps_words [] = []
steps_words (s ∷ ss) = step_words s ++ later_words ss

-- ---- the words of a line, by what it declares
-- the words of a node's, an instance's or a wire's line
abbrev pub entry_words : Entry → List (List ℕ)
entry_words (Node n) = sort_word n.kind ∷ n.name ∷ (kind_words n.kind ++ decider_words n.decider)
entry_words (Instance u) = codes "use" ∷ u.name ∷ u.of ∷ attrs_words u.attrs
entry_words (Wire w) = codes "wire" ∷ place_word w.from w.output ∷ codes "->" ∷ place_word w.to w.input ∷ lane_words w.lane w.keep

-- the first word of a port line: an input's or an output's
abbrev pub direction_word : Bool → List ℕ
direction_word false = codes "in"
direction_word true = codes "out"

-- the words of a port line
abbrev pub port_words : PortDecl → List (List ℕ)
port_words p = direction_word p.output ∷ p.name ∷ codes "=" ∷ place_word p.node p.port ∷ []

-- the words of a line, by what it declares
abbrev pub declaration_words : Declaration → List (List ℕ)
declaration_words (sets a) = codes "default" ∷ attrs_words a
declaration_words (switch n) = codes "switch" ∷ n ∷ []
declaration_words (chain c) = codes "chain" ∷ c.name ∷ steps_words c.steps
declaration_words (opens n a) = codes "module" ∷ n ∷ attrs_words a
declaration_words (port p) = port_words p
declaration_words (part e) = entry_words e
declaration_words ends = codes "end" ∷ []

-- ---- the declarations of a text, in the canonical order
-- something is set
abbrev pub sets_some : Attrs → Bool
sets_some a = is_some a.size || is_some a.decider

-- the line that sets something for the whole text, where something is set
abbrev pub default_lines : Attrs → List Declaration
default_lines a = if sets_some a then sets a ∷ [] else []

-- a module: its line, its ports, its body and its end
-- Choice: docs/DECISIONS.md#ports-stand-first
abbrev pub module_lines : PlainModule → List Declaration
module_lines m = opens m.name m.attrs ∷ (map port m.ports ++ (map part m.body ++ ends ∷ []))

-- what is set, switches, chains, modules, and the text's own body, each in its order
abbrev pub canonical_declarations : PlainText → List Declaration
canonical_declarations t =
    default_lines t.attrs ++ (map switch t.switches ++ (map chain t.chains ++ (flat_map module_lines t.modules ++ map part t.body)))

-- the words of the version line
-- Choice: docs/DECISIONS.md#version-two-is-printed
abbrev pub version_words : List (List ℕ)
version_words = codes "streams" ∷ codes "2" ∷ []

-- the words of each line
abbrev pub canonical_lines : PlainText → List (List (List ℕ))
canonical_lines t = version_words ∷ map declaration_words (canonical_declarations t)

-- a line's words, parted by one space, and LF
abbrev pub line_text : List (List ℕ) → List ℕ
line_text [] = line_feed ∷ []
line_text (w ∷ ws) = w ++ (spaced ws ++ line_feed ∷ [])

-- the text of lines
abbrev pub lines_text : List (List (List ℕ)) → List ℕ
lines_text [] = []
lines_text (l ∷ ls) = line_text l ++ lines_text ls

-- the text of declarations
abbrev pub declared_text : List Declaration → List ℕ
declared_text ds = lines_text (map declaration_words ds)

-- the canonical text
abbrev pub canonical : PlainText → List ℕ
canonical t = lines_text (canonical_lines t)
