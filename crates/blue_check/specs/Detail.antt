-- What a report says of a fault beside its number.
use Rattle.std.specs.Prelude.{ℕ, Bool, true, false, List, [], ◌∷◌, ◌++◌, codes}
use Rattle.std.specs.Fmt.{decimal}
use Rattle.elem_core.specs.Bytes.{space_byte}
use Rattle.elem_core.specs.Sort.{Sort, num_type, text_type, seq_type, pair_type}
use Rattle.blue_names.specs.declared.spot.Spot.{Spot}
use Rattle.blue_names.specs.declared.spot.Spot.TheVariants as at
use Rattle.blue_names.specs.declared.want.Want.{Want}
use Rattle.blue_names.specs.declared.want.Want.TheVariants.{Is, AnySeq, AnyPair}
use Rattle.blue_check.specs.declared.fault.CheckFault.{CheckFault}
use Rattle.blue_check.specs.declared.fault.CheckFault.TheVariants.{TwoNames, NoSuchName, NoSuchPort, PortTwice, PortOpen, TypeClash, ClosedWalk, TooDeep, NoSuchPlug, PlugTwice, BadSize, NoSuchModule, PortName, TooLarge, HubWire}

-- the text of a type: `num`, `text`, `[T]` or `(T,U)`
abbrev pub type_text : Sort → List ℕ
type_text num_type = codes "num"
type_text text_type = codes "text"
type_text (seq_type t) = 91 ∷ (type_text t ++ 93 ∷ [])
type_text (pair_type t u) = 40 ∷ (type_text t ++ 44 ∷ (type_text u ++ 41 ∷ []))

-- the text of what an input accepts
abbrev pub want_text : Want → List ℕ
want_text (Is t) = type_text t
want_text AnySeq = codes "[any]"
want_text AnyPair = codes "(any,any)"

-- the text of a wire, by its number
abbrev pub wire_text : ℕ → List ℕ
wire_text i = codes "wire " ++ decimal i

-- the place of a size that is wrong: a node, a wire or a chain by its number
abbrev pub spot_text : Spot → List ℕ
spot_text (at.Node i) = codes "node " ++ decimal i
spot_text (at.Wire i) = codes "wire " ++ decimal i
spot_text (at.Chain i) = codes "chain " ++ decimal i

-- whether a port is an output or an input
abbrev pub side_text : Bool → List ℕ
side_text true = codes " output "
side_text false = codes " input "

-- what is at fault
abbrev pub fault_words : CheckFault → List ℕ
fault_words (TwoNames l) = l
fault_words (NoSuchName l) = l
fault_words (NoSuchPort i) = wire_text i
fault_words (PortTwice i) = wire_text i
fault_words (PortOpen l o p) = l ++ side_text o ++ decimal p
fault_words (TypeClash i t w) = wire_text i ++ codes " " ++ type_text t ++ codes " " ++ want_text w
fault_words (ClosedWalk i) = wire_text i
fault_words (TooDeep l) = l
fault_words (NoSuchPlug l) = l
fault_words (PlugTwice l) = l
fault_words (BadSize s) = spot_text s
fault_words (NoSuchModule l) = l
fault_words (PortName l p) = l ++ codes " " ++ p
fault_words TooLarge = []
fault_words (HubWire i) = wire_text i

-- what is told of a broken rule beside its number: a name, a wire, a port, the types of a clash or a place, behind a space; of some nothing
abbrev pub detail_text : CheckFault → List ℕ
detail_text TooLarge = []
detail_text f = space_byte ∷ fault_words f
