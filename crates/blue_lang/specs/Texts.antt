-- Which text says what, and the first fault of a text that says nothing.
use Rattle.std.specs.Prelude.{◌≡◌, ℕ, suc, ◌+◌, Bool, true, false, not, ◌&&◌, nat_lt, nat_le, if◌then◌else◌, count_by, List, [], ◌∷◌, ◌++◌, length, map, Option, Some, None, is_some, Ok, Err, codes}
use Rattle.std.specs.List.{filter, filter_map, list_any, cons_option}
use Rattle.std.specs.Option.{option_map}
use Rattle.std.specs.Str.{bytes_eq}
use Rattle.elem_core.specs.Text.{words, lines}
use Rattle.blue_modules.specs.declared.text.Attrs.{Attrs}
use Rattle.blue_modules.specs.declared.text.Entry.{Entry}
use Rattle.blue_modules.specs.declared.text.Entry.TheVariants.{Node, Instance, Wire}
use Rattle.blue_modules.specs.declared.text.PortDecl.{PortDecl}
use Rattle.stream_model.specs.declared.limit.TheConstants.{MAX_CHAINS, MAX_NODES, MAX_STEPS, MAX_SWITCHES, MAX_TEXT_LINE, MAX_WIRES}
use Rattle.blue_modules.specs.declared.limit.TheConstants.{MAX_MODULES, MAX_PORTS, MAX_USES}
use Rattle.blue_modules.specs.Text.{no_attrs, PlainChainText, PlainModule, PlainText}
use Rattle.blue_words.specs.declared.fault.BlueKind.{BlueKind}
use Rattle.blue_words.specs.declared.fault.BlueKind.TheVariants.{BadVersion, BadLine, TooLong, TooMany}
use Rattle.blue_words.specs.declared.fault.BlueFault.{BlueFault}
use Rattle.blue_words.specs.declared.fault.Version.{Version}
use Rattle.blue_words.specs.declared.fault.Version.TheVariants.{First, Second}
use Rattle.blue_words.specs.Line.{is_plain, is_passed_over}
use Rattle.blue_words.specs.Reading.{At}
use Rattle.blue_lang.specs.Declarations.{Declaration, sets, switch, chain, opens, port, part, ends, is_nil, read_whole, declaration, declared_in, is_misplaced}

-- ---- the version line
-- the version that a word names
abbrev pub version_named : List ℕ → Option Version
version_named w = if bytes_eq w (codes "1") then Some First else (if bytes_eq w (codes "2") then Some Second else None)

-- the version that one word names, and no other stands behind it
abbrev pub version_word : List (List ℕ) → Option Version
version_word [] = None
version_word (w ∷ ws) = if is_nil ws then version_named w else None

-- the version that words name
abbrev pub version_of_words : List (List ℕ) → Option Version
version_of_words [] = None
version_of_words (w ∷ ws) = if bytes_eq w (codes "streams") then version_word ws else None

-- the version that a line names
abbrev pub version_of : List ℕ → Option Version
version_of l = if is_plain l then version_of_words (words l) else None

-- ---- what declarations say together
-- the ports of the module whose line stands before these: those up to its end
abbrev pub ports_said : List Declaration → List PortDecl
ports_said [] = []
ports_said (sets a ∷ ds) = ports_said ds
ports_said (switch n ∷ ds) = ports_said ds
ports_said (chain c ∷ ds) = ports_said ds
ports_said (opens n a ∷ ds) = []
ports_said (port p ∷ ds) = p ∷ ports_said ds
ports_said (part e ∷ ds) = ports_said ds
ports_said (ends ∷ ds) = []

-- its body
abbrev pub body_said : List Declaration → List Entry
body_said [] = []
body_said (sets a ∷ ds) = body_said ds
body_said (switch n ∷ ds) = body_said ds
body_said (chain c ∷ ds) = body_said ds
body_said (opens n a ∷ ds) = []
body_said (port p ∷ ds) = body_said ds
body_said (part e ∷ ds) = e ∷ body_said ds
body_said (ends ∷ ds) = []

-- the modules, each with what stands between its line and its end
abbrev pub modules_said : List Declaration → List PlainModule
modules_said [] = []
modules_said (sets a ∷ ds) = modules_said ds
modules_said (switch n ∷ ds) = modules_said ds
modules_said (chain c ∷ ds) = modules_said ds
modules_said (opens n a ∷ ds) = record { name = n; attrs = a; ports = ports_said ds; body = body_said ds } ∷ modules_said ds
modules_said (port p ∷ ds) = modules_said ds
modules_said (part e ∷ ds) = modules_said ds
modules_said (ends ∷ ds) = modules_said ds

-- the entries that stand in no module, where the first of them stand in one, or in none
abbrev pub own_entries : Bool → List Declaration → List Entry
own_entries inside [] = []
own_entries inside (sets a ∷ ds) = own_entries inside ds
own_entries inside (switch n ∷ ds) = own_entries inside ds
own_entries inside (chain c ∷ ds) = own_entries inside ds
own_entries inside (opens n a ∷ ds) = own_entries true ds
own_entries inside (port p ∷ ds) = own_entries inside ds
own_entries true (part e ∷ ds) = own_entries true ds
own_entries false (part e ∷ ds) = e ∷ own_entries false ds
own_entries inside (ends ∷ ds) = own_entries false ds

-- what is set for the whole text
abbrev pub default_of : Attrs → List Declaration → Attrs
default_of a [] = a
default_of a (sets b ∷ ds) = default_of b ds
default_of a (switch n ∷ ds) = default_of a ds
default_of a (chain c ∷ ds) = default_of a ds
default_of a (opens n b ∷ ds) = default_of a ds
default_of a (port p ∷ ds) = default_of a ds
default_of a (part e ∷ ds) = default_of a ds
default_of a (ends ∷ ds) = default_of a ds

-- the switch that a declaration declares, where it is one's
abbrev pub switch_in : Declaration → Option (List ℕ)
switch_in (switch n) = Some n
switch_in _ = None

-- the chain that a declaration declares, where it is one's
abbrev pub declared_chain : Declaration → Option PlainChainText
declared_chain (chain c) = Some c
declared_chain _ = None

-- what they say
abbrev pub text_of : List Declaration → PlainText
text_of ds =
    record {
      attrs = default_of no_attrs ds;
      switches = filter_map switch_in ds;
      chains = filter_map declared_chain ds;
      modules = modules_said ds;
      body = own_entries false ds;
    }

-- ---- counts
-- the number of ports of the module that is open, if one is
abbrev pub open_ports : Option ℕ → List Declaration → Option ℕ
open_ports o [] = o
open_ports o (sets a ∷ ds) = open_ports o ds
open_ports o (switch n ∷ ds) = open_ports o ds
open_ports o (chain c ∷ ds) = open_ports o ds
open_ports o (opens n a ∷ ds) = open_ports (Some 0) ds
open_ports o (port p ∷ ds) = open_ports (option_map suc o) ds
open_ports o (part e ∷ ds) = open_ports o ds
open_ports o (ends ∷ ds) = open_ports None ds

-- the declaration sets something for the whole text
abbrev pub is_default : Declaration → Bool
is_default (sets a) = true
is_default _ = false

-- the declaration is a switch's
abbrev pub is_switch : Declaration → Bool
is_switch (switch n) = true
is_switch _ = false

-- the declaration is a chain's
abbrev pub is_chain : Declaration → Bool
is_chain (chain c) = true
is_chain _ = false

-- the declaration is the first line of a module
abbrev pub is_opening : Declaration → Bool
is_opening (opens n a) = true
is_opening _ = false

-- the declaration is a node's
abbrev pub is_node : Declaration → Bool
is_node (part (Node n)) = true
is_node _ = false

-- the declaration is an instance's
abbrev pub is_use : Declaration → Bool
is_use (part (Instance u)) = true
is_use _ = false

-- the declaration is a wire's
abbrev pub is_wire : Declaration → Bool
is_wire (part (Wire w)) = true
is_wire _ = false

-- what counts of the declarations before a line
pub record Context : Type 0 where
  pub defaulted : Bool
  pub switches : ℕ
  pub chains : ℕ
  pub modules : ℕ
  pub nodes : ℕ
  pub uses : ℕ
  pub wires : ℕ
  pub opened : Option ℕ

-- what counts of these declarations
abbrev pub context_of : List Declaration → Context
context_of ds =
    record {
      defaulted = list_any is_default ds;
      switches = count_by is_switch ds;
      chains = count_by is_chain ds;
      modules = count_by is_opening ds;
      nodes = count_by is_node ds;
      uses = count_by is_use ds;
      wires = count_by is_wire ds;
      opened = open_ports None ds;
    }

-- ---- faults
-- the module that is open, if one is, may have a port more
abbrev pub few_ports : Option ℕ → Bool
few_ports None = true
few_ports (Some n) = nat_lt n MAX_PORTS

-- the limits allow one declaration more; nodes, wires and uses of all bodies count together
abbrev pub has_room : Context → Declaration → Bool
has_room c (sets a) = true
has_room c (switch n) = nat_lt c.switches MAX_SWITCHES
has_room c (chain k) = nat_lt c.chains MAX_CHAINS && nat_le (length k.steps) MAX_STEPS
has_room c (opens n a) = nat_lt c.modules MAX_MODULES
has_room c (port p) = few_ports c.opened
has_room c (part (Node n)) = nat_lt c.nodes MAX_NODES
has_room c (part (Instance u)) = nat_lt c.uses MAX_USES
has_room c (part (Wire w)) = nat_lt c.wires MAX_WIRES
has_room c ends = true

-- what is wrong with a declaration
abbrev pub declaration_fault : Context → At Declaration → Option BlueKind
declaration_fault c (Ok d) = if has_room c d then None else Some TooMany
declaration_fault c (Err k) = Some k

-- what is wrong with the words of a line, behind a version line: where the first may not stand there, the rest does not count
abbrev pub words_fault : Version → Context → List (List ℕ) → Option BlueKind
words_fault v c [] = Some BadLine
words_fault v c (w ∷ ws) =
    if is_misplaced (is_some c.opened) c.defaulted w then Some BadLine else declaration_fault c (read_whole (declaration v w ws))

-- what is wrong with a line that says something, behind a version line
abbrev pub said_fault : Version → Context → List ℕ → Option BlueKind
said_fault v c l = if is_plain l then words_fault v c (words l) else Some BadLine

-- what is wrong with the first line that says something
abbrev pub version_fault : Option Version → Option BlueKind
version_fault None = Some BadVersion
version_fault (Some v) = None

-- what is wrong with a line that is not passed over, where the version of the lines before it is this, if they have one
abbrev pub behind_version : Option Version → Context → List ℕ → Option BlueKind
behind_version None c l = version_fault (version_of l)
behind_version (Some v) c l = said_fault v c l

-- what is wrong with a line, where the version of the lines before it is this and their declarations have this context
abbrev pub line_fault : Option Version → Context → List ℕ → Option BlueKind
line_fault v c l = if nat_lt MAX_TEXT_LINE (length l) then Some TooLong else (if is_passed_over l then None else behind_version v c l)

-- the version that a line names that says something
abbrev pub version_line : List ℕ → Option Version
version_line l = if is_passed_over l then None else version_of l

-- the version of a text whose version is this so far, and then this line
abbrev pub version_behind : Option Version → List ℕ → Option Version
version_behind (Some v) l = Some v
version_behind None l = version_line l

-- the version of lines, where that of the lines before them is this
abbrev pub version_from : Option Version → List (List ℕ) → Option Version
version_from v [] = v
version_from v (l ∷ ls) = version_from (version_behind v l) ls

-- what a line declares behind a version line
abbrev pub declaration_at : At Declaration → Option Declaration
declaration_at (Ok d) = Some d
declaration_at (Err k) = None

-- what a line declares, where the version of the lines before it is this
abbrev pub declares : Option Version → List ℕ → Option Declaration
declares None l = None
declares (Some v) l = if is_passed_over l then None else declaration_at (declared_in v l)

-- what lines declare, where the version of the lines before them is this
abbrev pub declarations_from : Option Version → List (List ℕ) → List Declaration
declarations_from v [] = []
declarations_from v (l ∷ ls) = cons_option (declares v l) (declarations_from (version_behind v l) ls)

-- the version of lines
abbrev pub version_in : List (List ℕ) → Option Version
version_in ls = version_from None ls

-- what lines declare
abbrev pub declarations : List (List ℕ) → List Declaration
declarations ls = declarations_from None ls

-- what is wrong with a line behind these lines
abbrev pub fault_behind : List (List ℕ) → List ℕ → Option BlueKind
fault_behind before l = line_fault (version_in before) (context_of (declarations before)) l

-- the fault in the line of this number, or else a later one
abbrev pub fault_or : Option BlueKind → ℕ → Option BlueFault → Option BlueFault
fault_or None n later = later
fault_or (Some k) n later = Some (record { kind = k; line = n })

-- what is wrong with lines that have no fault each
-- Choice: docs/DECISIONS.md#open-module-has-no-line
abbrev pub end_fault : Option Version → Context → Option BlueFault
end_fault None c = Some (record { kind = BadVersion; line = 0 })
end_fault (Some v) c = if is_some c.opened then Some (record { kind = BadLine; line = 0 }) else None

-- the first fault of the lines that follow lines without fault
abbrev pub first_fault : List (List ℕ) → List (List ℕ) → Option BlueFault
first_fault before [] = end_fault (version_in before) (context_of (declarations before))
first_fault before (l ∷ ls) = fault_or (fault_behind before l) (length before + 1) (first_fault (before ++ l ∷ []) ls)

-- lines say a text
pub record SaysLines (ls : List (List ℕ)) (t : PlainText) : Type 0 where
  pub faultless : first_fault [] ls ≡ None
  pub declared : text_of (declarations ls) ≡ t

-- the first fault of a text
abbrev pub text_fault : List ℕ → Option BlueFault
text_fault text = if nat_lt 1048576 (length text) then Some (record { kind = TooLong; line = 0 }) else first_fault [] (lines text)

-- the text has no fault, and its lines declare this
pub record Says (text : List ℕ) (t : PlainText) : Type 0 where
  pub faultless : text_fault text ≡ None
  pub declared : text_of (declarations (lines text)) ≡ t

-- the words of the lines that are not passed over
abbrev pub said_words : List ℕ → List (List (List ℕ))
said_words text = map words (filter (λ l. not (is_passed_over l)) (lines text))
