-- The blueprint that is left of a text when each instance is replaced by its module's body.
use Rattle.std.specs.Prelude.{ℕ, Bool, not, ◌&&◌, if◌then◌else◌, true, false, List, [], ◌∷◌, ◌++◌, map, Option, Some, None}
use Rattle.std.specs.List.{flat_map, filter_map}
use Rattle.std.specs.Option.{unwrap_or}
use Rattle.elem_core.specs.Bytes.{point_byte}
use Rattle.elem_core.specs.Values.{same_text}
use Rattle.elem_core.specs.declared.why.Decider.{Decider}
use Rattle.elem_core.specs.declared.why.Decider.TheVariants.{Stop}
use Rattle.stream_model.specs.declared.blueprint.Node as blueprint
use Rattle.stream_model.specs.declared.blueprint.WireDecl.{WireDecl}
use Rattle.blue_modules.specs.declared.text.Attrs.{Attrs}
use Rattle.blue_modules.specs.declared.text.PortMark.{PortMark}
use Rattle.blue_modules.specs.declared.text.PortMark.TheVariants.{Num, Name}
use Rattle.blue_modules.specs.declared.text.LaneMark.{LaneMark}
use Rattle.blue_modules.specs.declared.text.LaneMark.TheVariants.{Fused, Inherited, Own}
use Rattle.blue_modules.specs.declared.text.NodeText.{NodeText}
use Rattle.blue_modules.specs.declared.text.UseText.{UseText}
use Rattle.blue_modules.specs.declared.text.WireText.{WireText}
use Rattle.blue_modules.specs.declared.text.Entry.{Entry}
use Rattle.blue_modules.specs.declared.text.Entry.TheVariants.{Node, Instance, Wire}
use Rattle.blue_modules.specs.declared.text.PortDecl.{PortDecl}
use Rattle.blue_modules.specs.declared.parts.Around.{Around}
use Rattle.blue_modules.specs.declared.text.StepText.{StepText}
use Rattle.stream_model.specs.declared.blueprint.Step.{Step}
use Rattle.blue_modules.specs.Text.{PlainModule, PlainChainText, PlainText}
use Rattle.blue_modules.specs.Plain.{PlainChain, PlainBlueprint}
use Rattle.blue_modules.specs.Deciders.{takes_decider}
use Rattle.blue_modules.specs.Names.{entry_named, module_of}

-- what is set around the parts of something that sets this itself, where `around` is what is set around it
abbrev pub inside : Attrs → Around → Around
inside a around = record { size = unwrap_or a.size around.size; decider = unwrap_or a.decider around.decider }

-- what is set around the body of an instance: by its module, else by its use, else around the use
abbrev pub around_body : PlainModule → UseText → Around → Around
around_body m u around = inside m.attrs (inside u.attrs around)

-- the port line of that direction and that name
abbrev pub port_line : Bool → List ℕ → List PortDecl → Option PortDecl
port_line output p [] = None
port_line output p (d ∷ ds) = if (if output then d.output else not d.output) && same_text d.name p then Some d else port_line output p ds

-- a node of a body, by its name as it is beneath that body, and the number of one of its ports
abbrev pub NodePort : Type 0
NodePort = List ℕ × ℕ

-- the same, seen from the body in which an instance of that name stands
abbrev pub beneath : List ℕ → NodePort → NodePort
beneath name r = (name ++ point_byte ∷ r.0, r.1)

-- what a port stands for of an instance of the module of that name, where `port_through` says it of each module
abbrev pub instance_port : (List ℕ → List ℕ → NodePort) → Option (List ℕ) → List ℕ → NodePort
instance_port port_through None p = ([], 0)
instance_port port_through (Some m) p = port_through m p

-- what a place of a body stands for
abbrev pub place : (List ℕ → List ℕ → NodePort) → List Entry → List ℕ → PortMark → NodePort
place port_through body name (Num n) = (name, n)
place port_through body name (Name p) = beneath name (instance_port port_through (module_of (entry_named name body)) p)

-- what a port line of a body stands for
abbrev pub behind_line : (List ℕ → List ℕ → NodePort) → List Entry → Option PortDecl → NodePort
behind_line port_through body None = ([], 0)
behind_line port_through body (Some d) = place port_through body d.node d.port

-- what a port stands for of the module of that name, among these; the latest is the first
abbrev pub port_through : Bool → List PlainModule → List ℕ → List ℕ → NodePort
port_through output [] name p = ([], 0)
port_through output (m ∷ ms) name p = if same_text m.name name then behind_line (port_through output ms) m.body (port_line output p m.ports)
    else port_through output ms name p

-- a part of a flattened body
pub data FlatPart : Type 0 where
  node : blueprint.Node → FlatPart
  wire : WireDecl → FlatPart

-- the node that a part is, where it is one
abbrev pub part_node : FlatPart → Option blueprint.Node
part_node (node n) = Some n
part_node (wire w) = None

-- the wire that a part is, where it is one
abbrev pub part_wire : FlatPart → Option WireDecl
part_wire (node n) = None
part_wire (wire w) = Some w

-- the decider of a stage that may have one
abbrev pub decider_within : Bool → Option Decider → Decider → Decider
decider_within takes own around = if takes then unwrap_or own around else Stop

-- a node, with the names of the instances around it before its own
abbrev pub flat_node : List ℕ → Around → NodeText → blueprint.Node
flat_node prefix around n = record { name = prefix ++ n.name; kind = n.kind; decider = decider_within (takes_decider n.kind) n.decider around.decider }

-- a lane, and its size
abbrev pub flat_lane : Around → LaneMark → Option ℕ
flat_lane around Fused = None
flat_lane around Inherited = Some around.size
flat_lane around (Own n) = Some n

-- a wire between the two places that its ends stand for
abbrev pub wire_between : List ℕ → NodePort → NodePort → Option ℕ → Bool → WireDecl
wire_between prefix a b lane keep = record { from = prefix ++ a.0; output = a.1; to = prefix ++ b.0; input = b.1; lane = lane; keep = keep }

-- a wire of a body, with the names of the instances around it before those of its ends
abbrev pub flat_wire : List PlainModule → List Entry → List ℕ → Around → WireText → WireDecl
flat_wire ms body prefix around w =
    wire_between prefix (place (port_through true ms) body w.from w.output) (place (port_through false ms) body w.to w.input)
    (flat_lane around w.lane) w.keep

-- how an instance is replaced, beneath instances of these names and with this around it
abbrev pub Replacing : Type 0
Replacing = List ℕ → Around → UseText → List FlatPart

-- the parts of an entry of a body
abbrev pub entry_parts : List PlainModule → Replacing → List Entry → List ℕ → Around → Entry → List FlatPart
entry_parts ms replace body prefix around (Node n) = node (flat_node prefix around n) ∷ []
entry_parts ms replace body prefix around (Instance u) = replace prefix around u
entry_parts ms replace body prefix around (Wire w) = wire (flat_wire ms body prefix around w) ∷ []

-- an instance's name and a point, behind the names of the instances around it
abbrev pub prefix_of : List ℕ → List ℕ → List ℕ
prefix_of prefix name = prefix ++ (name ++ point_byte ∷ [])

-- an instance is replaced by the parts of the body of its module, which is among these, the latest first; a body uses the modules
-- that were declared before its own
abbrev pub replaced : List PlainModule → Replacing
replaced [] prefix around u = []
replaced (m ∷ ms) prefix around u =
    if same_text m.name u.of
    then flat_map (entry_parts ms (replaced ms) m.body (prefix_of prefix u.name) (around_body m u around)) m.body
    else replaced ms prefix around u

-- the parts of a body, in order
abbrev pub flat_body : List PlainModule → List ℕ → Around → List Entry → List FlatPart
flat_body ms prefix around body = flat_map (entry_parts ms (replaced ms) body prefix around) body

-- the nodes and the wires of a body
abbrev pub part_nodes : List FlatPart → List blueprint.Node
part_nodes ps = filter_map part_node ps

-- the wires among parts
abbrev pub part_wires : List FlatPart → List WireDecl
part_wires ps = filter_map part_wire ps

-- what is set around a text: lanes of 16, and the decider stop
abbrev pub around_text : Around
around_text = record { size = 16; decider = Stop }

-- the latest module first
abbrev pub latest_onto : List PlainModule → List PlainModule → List PlainModule
latest_onto done [] = done
latest_onto done (m ∷ ms) = latest_onto (m ∷ done) ms

-- modules in order of declaration, with the latest first
-- Choice: docs/DECISIONS.md#latest-first
abbrev pub latest_first : List PlainModule → List PlainModule
latest_first ms = latest_onto [] ms

-- the parts of a text's own body, with each instance replaced
abbrev pub flat_parts : PlainText → List FlatPart
flat_parts t = flat_body (latest_first t.modules) [] (inside t.attrs around_text) t.body

-- the steps of a chain take what the text sets, alone
abbrev pub flat_step : Decider → StepText → Step
flat_step around s = record { kind = s.kind; decider = decider_within (takes_decider s.kind) s.decider around }

-- a chain, where this decider is set around the text
abbrev pub flat_chain : Decider → PlainChainText → PlainChain
flat_chain around c = record { name = c.name; steps = map (flat_step around) c.steps }

-- the blueprint of a text
abbrev pub flat : PlainText → PlainBlueprint
flat t =
    record {
      switches = t.switches;
      chains = map (flat_chain (inside t.attrs around_text).decider) t.chains;
      nodes = part_nodes (flat_parts t);
      wires = part_wires (flat_parts t);
    }
