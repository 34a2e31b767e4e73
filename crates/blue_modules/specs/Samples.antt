-- Texts for worked values.
use Rattle.std.specs.Prelude.{ℕ, pos, true, false, List, [], ◌∷◌, Option, Some, None, codes}
use Rattle.elem_core.specs.declared.why.Decider.{Decider}
use Rattle.elem_core.specs.declared.why.Decider.TheVariants.{Stop, Resume}
use Rattle.elem_core.specs.declared.function.MapFn.TheVariants as f
use Rattle.elem_core.specs.declared.function.Pred.TheVariants as p
use Rattle.stream_model.specs.declared.kind.Kind.{Kind}
use Rattle.stream_model.specs.declared.kind.Kind.TheVariants as k
use Rattle.stream_model.specs.declared.blueprint.Node as blueprint
use Rattle.stream_model.specs.declared.blueprint.WireDecl.{WireDecl}
use Rattle.blue_modules.specs.declared.text.Attrs.{Attrs}
use Rattle.blue_modules.specs.declared.text.PortMark.{PortMark}
use Rattle.blue_modules.specs.declared.text.PortMark.TheVariants.{Num, Name}
use Rattle.blue_modules.specs.declared.text.LaneMark.{LaneMark}
use Rattle.blue_modules.specs.declared.text.LaneMark.TheVariants.{Fused, Inherited}
use Rattle.blue_modules.specs.declared.text.Entry.{Entry}
use Rattle.blue_modules.specs.declared.text.Entry.TheVariants.{Node, Instance, Wire}
use Rattle.blue_modules.specs.declared.text.PortDecl.{PortDecl}
use Rattle.blue_modules.specs.Text.{no_attrs, PlainModule, PlainText}

-- entries
abbrev pub node_entry : List ℕ → Kind → Entry
node_entry name kind = Node (record { name = name; kind = kind; decider = None })

-- an instance that sets nothing
abbrev pub use_entry : List ℕ → List ℕ → Entry
use_entry name of = Instance (record { name = name; of = of; attrs = no_attrs })

-- a wire of a body
abbrev pub wire_entry : List ℕ → PortMark → List ℕ → PortMark → LaneMark → Entry
wire_entry from output to input lane = Wire (record { from = from; output = output; to = to; input = input; lane = lane; keep = false })

-- ports of a module
abbrev pub input_port : List ℕ → List ℕ → PortMark → PortDecl
input_port name node port = record { output = false; name = name; node = node; port = port }

-- an output of a module
abbrev pub output_port : List ℕ → List ℕ → PortMark → PortDecl
output_port name node port = record { output = true; name = name; node = node; port = port }

-- a module that reads numbers and keeps those above 0, which sets this
abbrev pub positive : Attrs → PlainModule
positive attrs =
    record {
      name = codes "pos";
      attrs = attrs;
      ports = input_port (codes "i") (codes "n") (Num 0) ∷ output_port (codes "o") (codes "t") (Num 0) ∷ [];
      body = node_entry (codes "n") (k.Map f.Num) ∷ node_entry (codes "t") (k.Filter (p.Gt (pos 0)))
          ∷ wire_entry (codes "n") (Num 0) (codes "t") (Num 0) Inherited ∷ [];
    }

-- the text that uses it between a file and a file, and sets lanes of 4 and the decider resume
abbrev pub positives : PlainModule → List ℕ → PlainText
positives m of =
    record {
      attrs = record { size = Some 4; decider = Some Resume };
      switches = [];
      chains = [];
      modules = m ∷ [];
      body =
          node_entry (codes "src") (k.Lines (codes "in.txt"))
          ∷ use_entry (codes "p") of
          ∷ node_entry (codes "out") (k.ToLines (codes "out.txt"))
          ∷ wire_entry (codes "src") (Num 0) (codes "p") (Name (codes "i")) Fused
          ∷ wire_entry (codes "p") (Name (codes "o")) (codes "out") (Num 0) Fused
          ∷ [];
    }

-- what a flattened text has of it
abbrev pub flat_node : List ℕ → Kind → Decider → blueprint.Node
flat_node name kind decider = record { name = name; kind = kind; decider = decider }

-- a wire of the blueprint, between outputs and inputs of number 0
abbrev pub flat_wire : List ℕ → List ℕ → Option ℕ → WireDecl
flat_wire from to lane = record { from = from; output = 0; to = to; input = 0; lane = lane; keep = false }

-- the nodes of the blueprint of that text, where the module's stages have this decider
abbrev pub flat_nodes : Decider → List blueprint.Node
flat_nodes decider =
    flat_node (codes "src") (k.Lines (codes "in.txt")) Stop
    ∷ flat_node (codes "p.n") (k.Map f.Num) decider
    ∷ flat_node (codes "p.t") (k.Filter (p.Gt (pos 0))) decider
    ∷ flat_node (codes "out") (k.ToLines (codes "out.txt")) Stop
    ∷ []

-- the wires of that blueprint
abbrev pub flat_wires : List WireDecl
flat_wires =
    flat_wire (codes "p.n") (codes "p.t") (Some 4) ∷ flat_wire (codes "src") (codes "p.n") None ∷ flat_wire (codes "p.t") (codes "out") None ∷ []

-- the module of one stage, and modules that use the one before them twice: the last comes first
abbrev pub single : PlainModule
single = record { name = codes "m"; attrs = no_attrs; ports = []; body = node_entry (codes "s") (k.Map f.Num) ∷ [] }

-- a module that uses another twice
abbrev pub using_twice : List ℕ → List ℕ → PlainModule
using_twice name of = record { name = name; attrs = no_attrs; ports = []; body = use_entry (codes "a") of ∷ use_entry (codes "b") of ∷ [] }

-- a text of these modules that uses one of them
abbrev pub text_using : List PlainModule → List ℕ → PlainText
text_using modules of = record { attrs = no_attrs; switches = []; chains = []; modules = modules; body = use_entry (codes "a") of ∷ [] }
