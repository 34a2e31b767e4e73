-- The rules on modules: over the text's own body, and then the modules in order.
use Rattle.std.specs.Prelude.{ℕ, Bool, true, false, not, ◌&&◌, if◌then◌else◌, List, [], ◌∷◌, ◌++◌, take, Option, Some, None, is_some, is_none}
use Rattle.std.specs.Fmt.{decimal}
use Rattle.std.specs.Option.{option_or}
use Rattle.elem_core.specs.Values.{same_text}
use Rattle.blue_names.specs.First.{first_from, when}
use Rattle.blue_modules.specs.declared.text.PortMark.{PortMark}
use Rattle.blue_modules.specs.declared.text.PortMark.TheVariants.{Num, Name}
use Rattle.blue_modules.specs.declared.text.Entry.{Entry}
use Rattle.blue_modules.specs.declared.text.Entry.TheVariants.{Node, Instance, Wire}
use Rattle.blue_modules.specs.declared.text.PortDecl.{PortDecl}
use Rattle.blue_modules.specs.Names.{entry_named}
use Rattle.blue_modules.specs.Flatten.{port_line}
use Rattle.blue_modules.specs.Text.{PlainModule}

-- a body with its module, where it has one, and the modules that its uses may name, the latest first
pub record Body : Type 0 where
  pub owner : Option PlainModule
  pub before : List PlainModule
  pub entries : List Entry

-- the body of a module, which may use these
abbrev pub module_body : PlainModule → List PlainModule → Body
module_body m before = record { owner = Some m; before = before; entries = m.body }

-- the bodies of these modules, the latest of which is the first, in order of declaration
abbrev pub module_bodies : List PlainModule → List Body
module_bodies [] = []
module_bodies (m ∷ before) = module_bodies before ++ module_body m before ∷ []

-- the bodies of a text: its own, which may use all modules, and then those of the modules
abbrev pub bodies : List PlainModule → List Entry → List Body
bodies latest own = record { owner = None; before = latest; entries = own } ∷ module_bodies latest

-- the ports of the module of that name, among these
abbrev pub ports_among : List PlainModule → List ℕ → List PortDecl
ports_among [] name = []
ports_among (m ∷ ms) name = if same_text m.name name then m.ports else ports_among ms name

-- the module of that name is among these
abbrev pub has_module : List PlainModule → List ℕ → Bool
has_module [] name = false
has_module (m ∷ ms) name = if same_text m.name name then true else has_module ms name

-- ---- no two modules, and no two nodes or instances of one body, have one name
-- the name of a node or of an instance
abbrev pub name_of : Entry → Option (List ℕ)
name_of (Node n) = Some n.name
name_of (Instance u) = Some u.name
name_of (Wire w) = None

-- a name that one of the entries before has
abbrev pub taken_in : List Entry → Option (List ℕ) → Option (List ℕ)
taken_in earlier None = None
taken_in earlier (Some q) = when (is_some (entry_named q earlier)) q

-- the name of a body's module, where a module before has it
abbrev pub owner_again : Option PlainModule → List PlainModule → Option (List ℕ)
owner_again None before = None
owner_again (Some m) before = when (has_module before m.name) m.name

-- a module's own name comes before those in its body
-- Choice: docs/DECISIONS.md#names-of-modules-apart
abbrev pub named_again : Body → Option (List ℕ)
named_again b = option_or (owner_again b.owner b.before) (first_from (λ i e. taken_in (take i b.entries) (name_of e)) 0 b.entries)

-- ---- a use names a module that its body may use
-- the module of a use, where its body may not use one of that name
abbrev pub unknown_use : List PlainModule → Entry → Option (List ℕ)
unknown_use before (Node n) = None
unknown_use before (Instance u) = when (not (has_module before u.of)) u.of
unknown_use before (Wire w) = None

-- the first such module of a body
abbrev pub unknown_module : Body → Option (List ℕ)
unknown_module b = first_from (λ _ e. unknown_use b.before e) 0 b.entries

-- ---- a port line and a wire name nodes or instances of their body
-- a name, where no node or instance of the body has it
abbrev pub unless_named : List Entry → List ℕ → Option (List ℕ)
unless_named entries q = when (is_none (entry_named q entries)) q

-- the name at an end of a wire, where no node or instance has it
abbrev pub unknown_at_end : List Entry → Entry → Option (List ℕ)
unknown_at_end entries (Node n) = None
unknown_at_end entries (Instance u) = None
unknown_at_end entries (Wire w) = option_or (unless_named entries w.from) (unless_named entries w.to)

-- the first such name of a module's port lines
abbrev pub unknown_at_ports : Option PlainModule → List Entry → Option (List ℕ)
unknown_at_ports None entries = None
unknown_at_ports (Some m) entries = first_from (λ _ d. unless_named entries d.node) 0 m.ports

-- the first such name of a body: those of port lines come before those of wires
abbrev pub unknown_in_body : Body → Option (List ℕ)
unknown_in_body b = option_or (unknown_at_ports b.owner b.entries) (first_from (λ _ e. unknown_at_end b.entries e) 0 b.entries)

-- ---- a place is a node's by its number, or an instance's by a name that its module has in that direction; one that names nothing is
-- at fault by an earlier rule
abbrev pub is_wrong : List PlainModule → Bool → Option Entry → PortMark → Bool
is_wrong before output None mark = false
is_wrong before output (Some (Node n)) (Num k) = false
is_wrong before output (Some (Node n)) (Name p) = true
is_wrong before output (Some (Instance u)) (Num k) = true
is_wrong before output (Some (Instance u)) (Name p) = is_none (port_line output p (ports_among before u.of))
is_wrong before output (Some (Wire w)) mark = false

-- a port as it is written
abbrev pub mark_text : PortMark → List ℕ
mark_text (Num n) = decimal n
mark_text (Name p) = p

-- a wrong port: the name of a module or of a node or instance, and the port as it is written
abbrev pub WrongPort : Type 0
WrongPort = List ℕ × List ℕ

-- the place, where it is wrong
abbrev pub wrong_place : Body → Bool → List ℕ → PortMark → Option WrongPort
wrong_place b output name mark = when (is_wrong b.before output (entry_named name b.entries) mark) (name, mark_text mark)

-- in a wire its source comes first
abbrev pub wrong_wire : Body → Entry → Option WrongPort
wrong_wire b (Node n) = None
wrong_wire b (Instance u) = None
wrong_wire b (Wire w) = option_or (wrong_place b true w.from w.output) (wrong_place b false w.to w.input)

-- a port line's own name is no earlier one's of its direction, and then its place
abbrev pub wrong_port : PlainModule → Body → ℕ → PortDecl → Option WrongPort
wrong_port m b i d =
    option_or (when (is_some (port_line d.output d.name (take i m.ports))) (m.name, d.name)) (wrong_place b d.output d.node d.port)

-- the port is told by its number
abbrev pub by_number : PortMark → Bool
by_number (Num n) = true
by_number (Name p) = false

-- the entry is a node, or a wire between ports that are told by their numbers
abbrev pub names_no_port : Entry → Bool
names_no_port (Node n) = true
names_no_port (Instance u) = false
names_no_port (Wire w) = by_number w.output && by_number w.input

-- the first wrong port of a module's port lines
abbrev pub wrong_among_ports : Option PlainModule → Body → Option WrongPort
wrong_among_ports None b = None
wrong_among_ports (Some m) b = first_from (wrong_port m b) 0 m.ports

-- the port lines of a body's module, and then its wires
abbrev pub wrong_in : Body → Option WrongPort
wrong_in b = option_or (wrong_among_ports b.owner b) (first_from (λ _ e. wrong_wire b e) 0 b.entries)
