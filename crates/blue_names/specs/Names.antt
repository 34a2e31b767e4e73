-- The rules on names: no name or file is taken twice, each name that is used is declared, and each plug and each custom stage is one of
-- those handed in and is used once.
use Rattle.std.specs.Prelude.{ℕ, Bool, false, not, ◌||◌, ◌&&◌, if◌then◌else◌, List, [], ◌∷◌, ◌++◌, map, Option, Some, None}
use Rattle.std.specs.List.{list_any}
use Rattle.std.specs.Option.{option_or}
use Rattle.elem_core.specs.Values.{same_text}
use Rattle.stream_model.specs.declared.kind.Kind.{Kind}
use Rattle.stream_model.specs.Linear.{Mention, no_name, a_file, a_switch, a_trip, a_plug, a_custom, a_chain, mention_of}
use Rattle.stream_model.specs.declared.blueprint.Node.{Node}
use Rattle.stream_model.specs.declared.blueprint.ChainDecl.{ChainDecl}
use Rattle.stream_model.specs.declared.blueprint.Step.{Step}
use Rattle.stream_model.specs.declared.blueprint.WireDecl.{WireDecl}
use Rattle.stream_model.specs.Known.{HeadLists}
use Rattle.blue_names.specs.CustomPorts.{custom_of}
use Rattle.blue_names.specs.First.{first_from, when}

-- what a declaration takes for itself: a name, a file, or a custom stage
pub data Claim : Type 0 where
  called : List ℕ → Claim
  opens : List ℕ → Claim
  hires : List ℕ → Claim

-- the text of what a declaration takes
abbrev pub text_of : Claim → List ℕ
text_of (called name) = name
text_of (opens file) = file
text_of (hires name) = name

-- two claims to one name, to one file, or to one custom stage
abbrev pub same_claim : Claim → Claim → Bool
same_claim (called a) (called b) = same_text a b
same_claim (opens a) (opens b) = same_text a b
same_claim (hires a) (hires b) = same_text a b
same_claim _ _ = false

-- the text of the first claim that is among those before it, to which those of `before` count
abbrev pub first_again : List Claim → List Claim → Option (List ℕ)
first_again before [] = None
first_again before (c ∷ cs) = if list_any (same_claim c) before then Some (text_of c) else first_again (c ∷ before) cs

-- the file that is named
abbrev file_in : Mention → Option (List ℕ)
file_in no_name = None
file_in (a_file file) = Some file
file_in (a_switch name) = None
file_in (a_trip order name n) = None
file_in (a_plug name) = None
file_in (a_custom name) = None
file_in (a_chain name) = None

-- the file that a source or a sink opens
abbrev pub file_of : Kind → Option (List ℕ)
file_of k = file_in (mention_of k)

-- these claims with that of a file in front, where there is one
abbrev pub opening : Option (List ℕ) → List Claim → List Claim
opening (Some file) cs = opens file ∷ cs
opening None cs = cs

-- the claims of these nodes, in order: of each its name, and then its file
abbrev pub claims_of_nodes : List Node → List Claim
claims_of_nodes [] = []
claims_of_nodes (n ∷ ns) = called n.name ∷ opening (file_of n.kind) (claims_of_nodes ns)

-- the claims of a blueprint, in order
abbrev pub claims : List (List ℕ) → List ChainDecl → List Node → List Claim
claims switches chains nodes = map called switches ++ (map (λ c. called c.name) chains ++ claims_of_nodes nodes)

-- a name or a file that is taken twice; a file that is taken by others counts as taken before
abbrev pub taken_twice : List (List ℕ) → List ChainDecl → List Node → List (List ℕ) → Option (List ℕ)
taken_twice switches chains nodes taken = first_again (map opens taken) (claims switches chains nodes)

-- the name is one of these
abbrev pub is_named : List ℕ → List (List ℕ) → Bool
is_named name names = list_any (same_text name) names

-- the name, where it is none of these
abbrev pub missing : List ℕ → List (List ℕ) → Option (List ℕ)
missing name names = when (not (is_named name names)) name

-- a switch or a chain that is named and not declared
abbrev unknown_in : List (List ℕ) → List (List ℕ) → Mention → Option (List ℕ)
unknown_in switches chains no_name = None
unknown_in switches chains (a_file file) = None
unknown_in switches chains (a_switch name) = missing name switches
unknown_in switches chains (a_trip order name n) = missing name switches
unknown_in switches chains (a_plug name) = None
unknown_in switches chains (a_custom name) = None
unknown_in switches chains (a_chain name) = missing name chains

-- a switch or a chain that a node names and that is not declared
abbrev pub unknown_at : List (List ℕ) → List (List ℕ) → Kind → Option (List ℕ)
unknown_at switches chains k = unknown_in switches chains (mention_of k)

-- a node that a wire names and that is not declared, its source first
abbrev pub unknown_end : List (List ℕ) → WireDecl → Option (List ℕ)
unknown_end nodes w = option_or (missing w.from nodes) (missing w.to nodes)

-- the first switch or chain that a node names and that is not declared
abbrev pub unknown_mention : List (List ℕ) → List ChainDecl → List Node → Option (List ℕ)
unknown_mention switches chains nodes = first_from (λ _ n. unknown_at switches (map (λ c. c.name) chains) n.kind) 0 nodes

-- the first node that a wire names and that is not declared
abbrev pub unknown_node : List Node → List WireDecl → Option (List ℕ)
unknown_node nodes wires = first_from (λ _ w. unknown_end (map (λ n. n.name) nodes) w) 0 wires

-- the first name that is used and not declared: nodes come before wires
abbrev pub unknown_name : List (List ℕ) → List ChainDecl → List Node → List WireDecl → Option (List ℕ)
unknown_name switches chains nodes wires = option_or (unknown_mention switches chains nodes) (unknown_node nodes wires)

-- the plug that is named
abbrev plug_in : Mention → Option (List ℕ)
plug_in no_name = None
plug_in (a_file file) = None
plug_in (a_switch name) = None
plug_in (a_trip order name n) = None
plug_in (a_plug name) = Some name
plug_in (a_custom name) = None
plug_in (a_chain name) = None

-- the plug that a node names
abbrev pub plug_of : Kind → Option (List ℕ)
plug_of k = plug_in (mention_of k)

-- the plug that a node names, where it is none of these
abbrev pub unknown_plug_at : List (List ℕ) → Option (List ℕ) → Option (List ℕ)
unknown_plug_at plugs (Some name) = missing name plugs
unknown_plug_at plugs None = None

-- the plug or the custom stage that a node names, where it is none of these plugs or of these custom stages
abbrev pub unknown_guest_at : List (List ℕ) → List (List ℕ) → Kind → Option (List ℕ)
unknown_guest_at plugs customs k = option_or (unknown_plug_at plugs (plug_of k)) (unknown_plug_at customs (custom_of k))

-- the first of them that one of these steps names
abbrev pub unknown_in_steps : List (List ℕ) → List (List ℕ) → List Step → Option (List ℕ)
unknown_in_steps plugs customs steps = first_from (λ _ s. unknown_guest_at plugs customs s.kind) 0 steps

-- the first of them that a step of a chain names
abbrev pub unknown_in_chains : List (List ℕ) → List (List ℕ) → List ChainDecl → Option (List ℕ)
unknown_in_chains plugs customs chains = first_from (λ _ c. unknown_in_steps plugs customs c.steps.items) 0 chains

-- the first of them that a node names
abbrev pub unknown_in_nodes : List (List ℕ) → List (List ℕ) → List Node → Option (List ℕ)
unknown_in_nodes plugs customs nodes = first_from (λ _ n. unknown_guest_at plugs customs n.kind) 0 nodes

-- the first plug or custom stage that is named and not handed in: chains come before nodes
abbrev pub unknown_guest : HeadLists → List ChainDecl → List Node → Option (List ℕ)
unknown_guest heads chains nodes =
    let plugs = map (λ p. p.name) heads.plugs in
    let customs = map (λ c. c.name) heads.customs in
    option_or (unknown_in_chains plugs customs chains) (unknown_in_nodes plugs customs nodes)

-- these claims with those of a plug's and of a custom stage's name in front, where there is one
abbrev pub claiming : Option (List ℕ) → Option (List ℕ) → List Claim → List Claim
claiming (Some name) custom cs = called name ∷ cs
claiming None (Some name) cs = hires name ∷ cs
claiming None None cs = cs

-- the plugs and the custom stages that nodes name, in order
abbrev pub guests_of_nodes : List Node → List Claim
guests_of_nodes [] = []
guests_of_nodes (n ∷ ns) = claiming (plug_of n.kind) (custom_of n.kind) (guests_of_nodes ns)

-- a name that two plugs have, or else one that two custom stages have, or else a plug or a custom stage that two nodes name
abbrev pub guest_twice : HeadLists → List Node → Option (List ℕ)
guest_twice heads nodes =
    option_or (first_again [] (map (λ p. called p.name) heads.plugs))
    (option_or (first_again [] (map (λ c. hires c.name) heads.customs)) (first_again [] (guests_of_nodes nodes)))
