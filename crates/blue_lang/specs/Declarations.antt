-- What one line declares, in a text of either version.
use Rattle.std.specs.Prelude.{ℕ, Bool, true, false, ◌||◌, if◌then◌else◌, List, [], ◌∷◌, Option, Some, None, Err, codes}
use Rattle.std.specs.Str.{bytes_eq}
use Rattle.elem_core.specs.Bytes.{point_byte}
use Rattle.elem_core.specs.Text.{words}
use Rattle.elem_core.specs.declared.why.Decider.{Decider}
use Rattle.stream_model.specs.declared.kind.Kind.{Kind}
use Rattle.blue_modules.specs.declared.text.Attrs.{Attrs}
use Rattle.blue_modules.specs.declared.text.PortMark.{PortMark}
use Rattle.blue_modules.specs.declared.text.PortMark.TheVariants.{Num, Name}
use Rattle.blue_modules.specs.declared.text.LaneMark.{LaneMark}
use Rattle.blue_modules.specs.declared.text.LaneMark.TheVariants.{Fused, Inherited, Own}
use Rattle.blue_modules.specs.declared.text.NodeText.{NodeText}
use Rattle.blue_modules.specs.declared.text.UseText.{UseText}
use Rattle.blue_modules.specs.declared.text.WireText.{WireText}
use Rattle.blue_modules.specs.declared.text.Entry.{Entry}
use Rattle.blue_modules.specs.declared.text.Entry.TheVariants.{Node, Instance, Wire}
use Rattle.blue_modules.specs.declared.text.PortDecl.{PortDecl}
use Rattle.blue_modules.specs.Text.{PlainChainText}
use Rattle.blue_words.specs.declared.fault.BlueKind.TheVariants.{BadLine}
use Rattle.blue_words.specs.declared.fault.Version.{Version}
use Rattle.blue_words.specs.declared.fault.Version.TheVariants.{First, Second}
use Rattle.blue_words.specs.Cut.{cut_at}
use Rattle.blue_words.specs.Line.{is_plain}
use Rattle.blue_words.specs.Names.{begins_with_letter}
use Rattle.blue_words.specs.Numbers.{read_count, read_name}
use Rattle.blue_words.specs.Reading.{At, Reading, at_map, both, said, made, then_read, behind_word, begins_with, name, size}
use Rattle.blue_kinds.specs.Kinds.{source_kind, sink_kind, stage_in, may_decide, decider_of}
use Rattle.blue_kinds.specs.Steps.{read_chain}

-- what a line may declare
pub data Declaration : Type 0 where
  sets : Attrs → Declaration
  switch : List ℕ → Declaration
  chain : PlainChainText → Declaration
  opens : List ℕ → Attrs → Declaration
  port : PortDecl → Declaration
  part : Entry → Declaration
  ends : Declaration

-- no word is left
abbrev pub is_nil : List (List ℕ) → Bool
is_nil [] = true
is_nil (w ∷ ws) = false

-- ---- what a text, a module or a use sets
-- a decider, or none
abbrev pub set_decider : List (List ℕ) → Reading (Option Decider)
set_decider ws = decider_of Second true ws

-- `async` with a size, and a decider behind it or none; or a decider alone; or nothing
abbrev pub read_attrs : List (List ℕ) → Reading Attrs
read_attrs ws =
    if begins_with (codes "async") ws
    then made (λ r. record { size = Some r.0; decider = r.1 }) (then_read (behind_word (codes "async") size ws) set_decider)
    else made (λ d. record { size = None; decider = d }) (set_decider ws)

-- the same, of one word or more
abbrev pub read_some_attrs : List (List ℕ) → Reading Attrs
read_some_attrs ws = if is_nil ws then None else read_attrs ws

-- ---- places and lanes
-- what stands behind the point of a place: in version 2 a name, where it begins with a letter; else a number
abbrev pub read_mark : Version → List ℕ → At PortMark
read_mark First w = at_map Num (read_count 32 w)
read_mark Second w = if begins_with_letter w then at_map Name (read_name w) else at_map Num (read_count 32 w)

-- a name and a port, where a word was cut in two at a point
abbrev pub cut_place : Version → Option (List ℕ × List ℕ) → List (List ℕ) → Reading (List ℕ × PortMark)
cut_place v None ws = None
cut_place v (Some r) ws = Some (both (read_name r.0) (read_mark v r.1), ws)

-- a place: the name of a node or of an instance, and behind the first point its port
abbrev pub read_port_place : Version → List (List ℕ) → Reading (List ℕ × PortMark)
read_port_place v [] = None
read_port_place v (w ∷ ws) = cut_place v (cut_at point_byte w) ws

-- a lane without a size has 16 in version 1, and what is set around the wire in version 2
abbrev pub bare_lane : Version → LaneMark
bare_lane First = Own 16
bare_lane Second = Inherited

-- the mark of a lane that keeps what came before a failure is a word of version 2
abbrev pub is_keep : Version → List ℕ → Bool
is_keep First w = false
is_keep Second w = bytes_eq w (codes "keep")

-- whether that word comes next
abbrev pub read_keep : Version → List (List ℕ) → Reading Bool
read_keep v [] = said false []
read_keep v (w ∷ ws) = if is_keep v w then said true ws else said false (w ∷ ws)

-- the size of a lane, where one is written, and its mark
abbrev pub read_lane_size : Version → List (List ℕ) → Reading (LaneMark × Bool)
read_lane_size v [] = said (bare_lane v, false) []
read_lane_size v (w ∷ ws) = if is_keep v w then said (bare_lane v, true) ws else then_read (made Own (size (w ∷ ws))) (read_keep v)

-- whether a wire has a lane, its size and its mark
abbrev pub read_lane : Version → List (List ℕ) → Reading (LaneMark × Bool)
read_lane v [] = said (Fused, false) []
read_lane v (w ∷ ws) = behind_word (codes "async") (read_lane_size v) (w ∷ ws)

-- ---- what stands in bodies
-- the place that a wire goes to
abbrev pub read_end : Version → List (List ℕ) → Reading (List ℕ × PortMark)
read_end v ws = behind_word (codes "->") (read_port_place v) ws

-- a wire, of its two ends and its lane
abbrev pub wire_from : (List ℕ × PortMark) × ((List ℕ × PortMark) × (LaneMark × Bool)) → WireText
wire_from r = record { from = r.0.0; output = r.0.1; to = r.1.0.0; input = r.1.0.1; lane = r.1.1.0; keep = r.1.1.1 }

-- a wire's two ends and its lane
abbrev pub read_wire : Version → List (List ℕ) → Reading WireText
read_wire v ws = made wire_from (then_read (read_port_place v ws) (λ vs. then_read (read_end v vs) (read_lane v)))

-- a kind that has no decider
abbrev pub undecided : (List ℕ → List (List ℕ) → Reading Kind) → List (List ℕ) → Reading (Kind × Option Decider)
undecided table [] = None
undecided table (w ∷ ws) = made (λ k. (k, None)) (table w ws)

-- a stage's kind and its decider
abbrev pub read_decided : Version → List (List ℕ) → Reading (Kind × Option Decider)
read_decided v [] = None
read_decided v (w ∷ ws) = then_read (stage_in v w ws) (decider_of v (may_decide w))

-- a node: its name, and behind it its kind and its decider
abbrev pub read_node : (List (List ℕ) → Reading (Kind × Option Decider)) → List (List ℕ) → Reading NodeText
read_node kind ws = made (λ r. record { name = r.0; kind = r.1.0; decider = r.1.1 }) (then_read (name ws) kind)

-- an instance: its name, that of its module, and what it sets
abbrev pub read_use : List (List ℕ) → Reading UseText
read_use ws = made (λ r. record { name = r.0; of = r.1.0; attrs = r.1.1 }) (then_read (name ws) (λ vs. then_read (name vs) read_attrs))

-- the place that a port of a module stands for
abbrev pub read_behind : List (List ℕ) → Reading (List ℕ × PortMark)
read_behind ws = behind_word (codes "=") (read_port_place Second) ws

-- a port of a module, of its name and its place
abbrev pub port_from : Bool → List ℕ × (List ℕ × PortMark) → PortDecl
port_from output r = record { output = output; name = r.0; node = r.1.0; port = r.1.1 }

-- a port of a module: its name, and its place
abbrev pub read_port : Bool → List (List ℕ) → Reading PortDecl
read_port output ws = made (port_from output) (then_read (name ws) read_behind)

-- a chain: its name, and behind it its steps
abbrev pub chain_words : Version → List (List ℕ) → Reading PlainChainText
chain_words v ws = made (λ r. record { name = r.0; steps = r.1 }) (then_read (name ws) (read_chain v))

-- ---- a whole line
-- what stands in modules alone
abbrev pub inner_declaration : List ℕ → List (List ℕ) → Reading Declaration
inner_declaration w ws =
    if bytes_eq w (codes "in") then made port (read_port false ws) else
    (if bytes_eq w (codes "out") then made port (read_port true ws) else
    (if bytes_eq w (codes "end") then said ends ws else None))

-- a module's name, and what it sets
abbrev pub read_opening : List (List ℕ) → Reading (List ℕ × Attrs)
read_opening ws = then_read (name ws) read_attrs

-- what only version 2 has
abbrev pub module_declaration : List ℕ → List (List ℕ) → Reading Declaration
module_declaration w ws =
    if bytes_eq w (codes "default") then made sets (read_some_attrs ws) else
    (if bytes_eq w (codes "module") then made (λ r. opens r.0 r.1) (read_opening ws) else
    (if bytes_eq w (codes "use") then made (λ u. part (Instance u)) (read_use ws) else inner_declaration w ws))

-- what only version 2 has; nothing in version 1
abbrev pub later_declaration : Version → List ℕ → List (List ℕ) → Reading Declaration
later_declaration First w ws = None
later_declaration Second w ws = module_declaration w ws

-- a wire, by its first word, or what goes on
abbrev pub wire_declaration : Version → List ℕ → List (List ℕ) → Reading Declaration
wire_declaration v w ws =
    if bytes_eq w (codes "wire") then made (λ x. part (Wire x)) (read_wire v ws) else later_declaration v w ws

-- a node, by its first word, or what goes on
abbrev pub node_declaration : Version → List ℕ → List (List ℕ) → Reading Declaration
node_declaration v w ws =
    if bytes_eq w (codes "source") then made (λ n. part (Node n)) (read_node (undecided source_kind) ws) else
    (if bytes_eq w (codes "stage") then made (λ n. part (Node n)) (read_node (read_decided v) ws) else
    (if bytes_eq w (codes "sink") then made (λ n. part (Node n)) (read_node (undecided sink_kind) ws) else wire_declaration v w ws))

-- a declaration, by its first word
abbrev pub declaration : Version → List ℕ → List (List ℕ) → Reading Declaration
declaration v w ws =
    if bytes_eq w (codes "switch") then made switch (name ws) else
    (if bytes_eq w (codes "chain") then made chain (chain_words v ws) else node_declaration v w ws)

-- what is read, where no word is left behind it
abbrev pub read_whole : {A : Type 0} → Reading A → At A
read_whole None = Err BadLine
read_whole (Some r) = if is_nil r.1 then r.0 else Err BadLine

-- the declaration that words say, or what is wrong with them
abbrev pub declared_by : Version → List (List ℕ) → At Declaration
declared_by v [] = Err BadLine
declared_by v (w ∷ ws) = read_whole (declaration v w ws)

-- the declaration that a line says that is not passed over, or what is wrong with it
abbrev pub declared_in : Version → List ℕ → At Declaration
declared_in v l = if is_plain l then declared_by v (words l) else Err BadLine

-- a first word that may not stand here: in a module, and outside of one, where a second `default` may not stand either
abbrev pub is_misplaced : Bool → Bool → List ℕ → Bool
is_misplaced true defaulted w =
    bytes_eq w (codes "module") || bytes_eq w (codes "switch") || bytes_eq w (codes "chain") || bytes_eq w (codes "default")
is_misplaced false defaulted w =
    if bytes_eq w (codes "default") then defaulted else (bytes_eq w (codes "end") || bytes_eq w (codes "in") || bytes_eq w (codes "out"))
