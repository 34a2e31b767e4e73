-- The plugs and the custom stages that a caller hands in, and what each node is handed of them.
use Rattle.std.specs.Prelude.{◌≡◌, ℕ, true, List, [], ◌∷◌, map, length, slice_get, Option, Some, None, ⊤}
use Rattle.std.specs.List.{remove}
use Rattle.std.specs.Option.{option_map}
use Rattle.elem_core.specs.Sort.{Sort}
use Rattle.elem_core.specs.Values.{same_text}
use Rattle.stream_model.specs.Known.{CustomShape, head_shape, HeadLists}
use Rattle.stream_model.specs.Linear.{Book}
use Rattle.stream_model.specs.declared.blueprint.ChainDecl.{ChainDecl}
use Rattle.stream_model.specs.declared.blueprint.Node.{Node}
use Rattle.stream_model.specs.declared.blueprint.WireDecl.{WireDecl}
use Rattle.stream_model.specs.declared.kind.Kind.{Kind}
use Rattle.blue_names.specs.CustomPorts.{custom_of, custom_head, head_fits}
use Rattle.blue_names.specs.First.{first_from, when}
use Rattle.blue_names.specs.Names.{plug_of, unknown_guest, guest_twice}
use Rattle.graph_stage.specs.declared.custom.Custom.{Custom}
use Rattle.graph_stage.specs.Told.{ToldList, HandedAs}
use Rattle.plug_logic.specs.declared.plug.Plug.{Plug}
use Rattle.plug_logic.specs.Gives.{Gives}
use Rattle.materializer.specs.HandedPlugs.{GivesAsListed}
use Rattle.materializer.specs.Handing.{IsHandedPlug}
use Rattle.materializer.specs.Ports.{used_ports}
use Rattle.materializer.specs.declared.guest.Guest.{Guest}
use Rattle.materializer.specs.declared.guest.Guest.TheVariants as guest

-- the names of these custom stages
abbrev pub custom_names : {H : Type 0} → List (Custom H) → List (List ℕ)
custom_names customs = map (λ c. c.head.name) customs

-- the place of the first custom stage of this name
abbrev pub custom_place : {H : Type 0} → List ℕ → List (Custom H) → Option ℕ
custom_place name customs = first_from (λ k c. when (same_text name c.head.name) k) 0 customs

-- c is a custom stage of this name among the old ones, and the others are left
pub record IsTakenCustom {H : Type 0} (name : List ℕ) (old : List (Custom H)) (c : Custom H) (new : List (Custom H)) : Type 0 where
  pub at : ℕ
  pub there : slice_get old at ≡ Some c
  pub named : c.head.name ≡ name
  pub left : new ≡ remove old at

-- a node that names this custom stage, if it names one, is handed one of that name, and the others are left; else it is handed none
abbrev pub IsHandedCustom : {H : Type 0} → Option (List ℕ) → List (Custom H) → Option (Custom H) → List (Custom H) → Type 0
IsHandedCustom None old e new = (e ≡ None) × (new ≡ old)
IsHandedCustom {H} (Some name) old e new = (c : Custom H) × ((e ≡ Some c) × IsTakenCustom name old c new)

-- a node of this kind is handed this of both, and the others are left
abbrev pub IsHandedGuest : {L H : Type 0} → Kind → List (Plug L) → List (Custom H) → Option (Guest L H) → List (Plug L) → List (Custom H) → Type 0
IsHandedGuest kind plugs customs None left unhired = IsHandedPlug (plug_of kind) plugs None left × IsHandedCustom (custom_of kind) customs None unhired
IsHandedGuest kind plugs customs (Some (guest.Plug p)) left unhired = IsHandedPlug (plug_of kind) plugs (Some p) left × (unhired ≡ customs)
IsHandedGuest kind plugs customs (Some (guest.Custom c)) left unhired = IsHandedPlug (plug_of kind) plugs None left
    × IsHandedCustom (custom_of kind) customs (Some c) unhired

-- what is known of these plugs and custom stages
abbrev pub handed_heads : {L H : Type 0} → List (Plug L) → List (Custom H) → HeadLists
handed_heads plugs customs = record { plugs = map (λ p. p.head) plugs; customs = map (λ c. head_shape c.head) customs }

-- Each plug and each custom stage that a node names is among these; no two have one name, and no two nodes name one. A head that is named
-- has at most eight inputs and outputs, and a port, and its ports are those that the wires use.
pub record HasGuests (heads : HeadLists) (wires : List WireDecl) (nodes : List Node) : Type 0 where
  pub chains : List ChainDecl
  pub known : unknown_guest heads chains nodes ≡ None
  pub once : guest_twice heads nodes ≡ None
  pub fits : (k : ℕ) (n : Node) → slice_get nodes k ≡ Some n → head_fits (custom_head heads n.kind) ≡ true
  pub ports : (k : ℕ) (n : Node) (h : CustomShape) → slice_get nodes k ≡ Some n → custom_head heads n.kind ≡ Some h
      → used_ports wires n.name ≡ (length h.inputs, length h.outputs)

-- where the book has a list of a custom stage's name, it tells that list, of the type of its one output
abbrev pub TellsAsListed : {H : Type 0} → (H → ToldList) → Book → Custom H → Type 0
TellsAsListed tells book c = HandedAs (book.tells c.head.name) book c.head.name c.head.inputs.items c.head.outputs.items (tells c.stage)

-- a custom stage of that name, whose head has at most eight inputs and outputs, and a port, and which tells what the book lists of it
pub record IsHired {H : Type 0} (tells : H → ToldList) (book : Book) (name : List ℕ) (c : Custom H) : Type 0 where
  pub named : c.head.name ≡ name
  pub fits : head_fits (Some (head_shape c.head)) ≡ true
  pub told : TellsAsListed tells book c

-- A node that names a plug, or else a custom stage, is handed one of that name, and any other none. A plug gives what the book lists of
-- it, and a custom stage tells that, where the book lists anything of it.
abbrev pub IsGuest : {L H : Type 0} → (L → Gives) → (H → ToldList) → Book → Option (List ℕ) → Option (List ℕ) → Option (Guest L H) → Type 0
IsGuest gives tells book None None e = e ≡ None
IsGuest gives tells book None (Some name) (Some (guest.Custom c)) = IsHired tells book name c
IsGuest gives tells book None (Some name) _ = ⊥
IsGuest gives tells book (Some name) custom (Some (guest.Plug p)) = (p.head.name ≡ name) × GivesAsListed gives book p
IsGuest gives tells book (Some name) custom _ = ⊥

-- nodes of these kinds are handed these, each its own
abbrev pub AreGuests : {L H : Type 0} → (L → Gives) → (H → ToldList) → Book → List Kind → List (Option (Guest L H)) → Type 0
AreGuests gives tells book [] [] = ⊤
AreGuests gives tells book (kind ∷ kinds) (e ∷ ends) = IsGuest gives tells book (plug_of kind) (custom_of kind) e × AreGuests gives tells book kinds ends
AreGuests gives tells book _ _ = ⊥

-- a custom stage that is handed has so many inputs and outputs
abbrev pub HasPorts : {L H : Type 0} → ℕ × ℕ → Option (Guest L H) → Type 0
HasPorts ports (Some (guest.Custom c)) = ports ≡ (length c.head.inputs.items, length c.head.outputs.items)
HasPorts ports _ = ⊤

-- each custom stage that one of these nodes is handed has the ports that the wires use there
abbrev pub HaveUsedPorts : {L H : Type 0} → List WireDecl → List Node → List (Option (Guest L H)) → Type 0
HaveUsedPorts wires [] [] = ⊤
HaveUsedPorts wires (n ∷ ns) (e ∷ es) = HasPorts (used_ports wires n.name) e × HaveUsedPorts wires ns es
HaveUsedPorts wires _ _ = ⊥

-- the types of the outputs of what a node is handed, where it is a custom stage
abbrev pub guest_types : {L H : Type 0} → Option (Guest L H) → Option (List Sort)
guest_types (Some (guest.Custom c)) = Some c.head.outputs.items
guest_types _ = None

-- those of the custom stage that a node names, by its head
abbrev pub head_types : HeadLists → Kind → Option (List Sort)
head_types heads k = option_map (λ (h : CustomShape). h.outputs) (custom_head heads k)

-- those of each of these nodes
abbrev pub types_by_heads : HeadLists → List Node → List (Option (List Sort))
types_by_heads heads nodes = map (λ (n : Node). head_types heads n.kind) nodes
