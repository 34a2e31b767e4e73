-- What rules say that are not broken: of each wire, each input and each node.
use Rattle.std.proofs.Common.{◌≡◌, ℕ, zero, suc, ◌+◌, ◌<◌, ◌≤◌, Bool, true, false, not, ◌&&◌, ◌||◌, List, [], ◌∷◌, length, map, Option, Some, None, is_some, refl, sym, ap, ◌∙◌, subst, arith}
use Rattle.std.specs.Prelude.{if◌then◌else◌, ◌==◌, slice_get, is_none, nat_le}
use Rattle.std.specs.Option.{option_or, option_map, option_and_then}
use Rattle.std.proofs.lemmas.Bool.{or_parts, and_parts, leb-true, leb-false, eqb-true}
use Rattle.elem_core.specs.Sort.{Sort, same_sort}
use Rattle.elem_core.specs.SortLaws.{sort_from_same}
use Rattle.stream_model.specs.Composed.{count_from}
use Rattle.stream_model.specs.Graph.{Edge, find_wire, find_source}
use Rattle.stream_model.specs.declared.kind.Kind.{Kind}
use Rattle.stream_model.specs.declared.kind.Kind.TheVariants.{Plug, Custom, Merge, MergeHub, Concat, Interleave, MergeSorted}
use Rattle.stream_model.specs.declared.kind.TheConstants.{MAX_FAN}
use Rattle.stream_model.specs.declared.limit.TheConstants.{MAX_COUNT, MAX_LANE}
use Rattle.stream_model.proofs.Compositions.{found_first}
use Rattle.stream_model.specs.declared.blueprint.ChainDecl.{ChainDecl}
use Rattle.stream_model.specs.declared.blueprint.Node.{Node}
use Rattle.stream_model.specs.declared.blueprint.Step.{Step}
use Rattle.stream_model.specs.declared.head.PlugHead.{PlugHead}
use Rattle.stream_model.specs.Known.{CustomShape, HeadLists}
use Rattle.blue_names.specs.First.{first_from, when}
use Rattle.std.specs.List.{list_any, list_all}
use Rattle.elem_core.specs.Values.{same_text}
use Rattle.blue_names.specs.CustomPorts.{named, custom_head, head_fits, head_ports, input_type, output_type, outputs_type, is_headless, kind_inputs, kind_outputs}
use Rattle.blue_names.specs.Names.{unknown_plug_at, unknown_guest_at, unknown_in_steps, unknown_in_chains, unknown_in_nodes, unknown_guest}
use Rattle.blue_names.specs.Ports.{OpenPort, lacks_output, lacks_input, lacks_guest, is_port_number, port_missing, port_twice, port_open, open_input, open_output}
use Rattle.blue_names.specs.Rounds.{wire_into, settled, type_on, type_clash, too_deep, clash_with, clash_on, is_joining, unlike, clash_of, is_deep, attempt_at}
use Rattle.blue_names.specs.Sizes.{is_within, sizes_fit, node_fits, node_wrong}
use Rattle.blue_names.specs.StageTypes.{plug_named, port_typed, stage_typed}
use Rattle.blue_names.specs.declared.typed.Clash.{Clash}
use Rattle.blue_names.specs.declared.typed.Typed.{Typed}
use Rattle.blue_names.specs.declared.want.Want.TheVariants.{Is}
use Rattle.materializer.proofs.Joining.{alone, source_port}
use Rattle.materializer.proofs.Used.{known_by}
use Rattle.run_blueprint.specs.Checked.{HasKnownSteps}
use Rattle.run_blueprint.specs.Kinds.{is_known, shape_of, joining}
use Rattle.run_blueprint.proofs.Shapes.{clash_by}

-- ---- of a first place that there is not

pub none_parts : {F : Type 0} (a b : Option F) → option_or a b ≡ None → (a ≡ None) × (b ≡ None)
none_parts None b h = (refl, h)
none_parts (Some x) b h = cc

when_none : {F : Type 0} (b : Bool) (x : F) → when b x ≡ None → b ≡ false
when_none true x h = cc
when_none false x h = refl

first_none : {X F : Type 0} (f : ℕ → X → Option F) (n : ℕ) (xs : List X) (i : ℕ) (x : X) → first_from f n xs ≡ None → slice_get xs i ≡ Some x → f (n + i) x ≡ None
first_none f n [] i x h at = cc
first_none f n (y ∷ ys) zero x h at =
    let same : y ≡ x = cc in
    let here : n ≡ n + 0 = omega arith in
    subst (λ m. f m x ≡ None) here (subst (λ z. f n z ≡ None) same (none_parts (f n y) (first_from f (n + 1) ys) h).0)
first_none f n (y ∷ ys) (suc i) x h at =
    let there : n + 1 + i ≡ n + suc i = omega arith in
    subst (λ m. f m x ≡ None) there (first_none f (n + 1) ys i x (none_parts (f n y) (first_from f (n + 1) ys) h).1 at)

pub nowhere : {X F : Type 0} (f : ℕ → X → Option F) (xs : List X) (i : ℕ) (x : X) → first_from f 0 xs ≡ None → slice_get xs i ≡ Some x → f i x ≡ None
nowhere f xs i x h at = let here : 0 + i ≡ i = omega arith in subst (λ m. f m x ≡ None) here (first_none f 0 xs i x h at)

-- ---- ports

pub record At (nodes : List Node) (k : ℕ) : Type 0 where
  pub node : Node
  pub is : slice_get nodes k ≡ Some node

from_there : (heads : HeadLists) (nodes : List Node) (k p : ℕ) (o : Option Node) → slice_get nodes k ≡ o → lacks_output heads o p ≡ false → At nodes k
from_there heads nodes k p None e h = cc
from_there heads nodes k p (Some n) e h = record { node = n; is = e }

to_there : (heads : HeadLists) (nodes : List Node) (k p : ℕ) (o : Option Node) → slice_get nodes k ≡ o → lacks_input heads o p ≡ false → At nodes k
to_there heads nodes k p None e h = cc
to_there heads nodes k p (Some n) e h = record { node = n; is = e }

-- both ends of a wire are nodes
pub ends_there : (heads : HeadLists) (nodes : List Node) (ws : List Edge) → port_missing heads nodes ws ≡ None → (i : ℕ) (v : Edge) → slice_get ws i ≡ Some v → At nodes v.from × At nodes v.to
ends_there heads nodes ws h i v at =
    let none = nowhere (λ j x. when (lacks_output heads (slice_get nodes x.from) x.output || lacks_input heads (slice_get nodes x.to) x.input) j) ws i v h at in
    let parts = or_parts (lacks_output heads (slice_get nodes v.from) v.output) (lacks_input heads (slice_get nodes v.to) v.input)
    (when_none (lacks_output heads (slice_get nodes v.from) v.output || lacks_input heads (slice_get nodes v.to) v.input) i none) in
    (from_there heads nodes v.from v.output (slice_get nodes v.from) refl parts.0, to_there heads nodes v.to v.input (slice_get nodes v.to) refl parts.1)

count_at : (k m p : ℕ) → p < m → slice_get (count_from k m) p ≡ Some (k + p)
count_at k zero p h = absurd (omega arith)
count_at k (suc m) zero h = let e : k ≡ k + 0 = omega arith in ap Some e
count_at k (suc m) (suc p) h = let e : k + 1 + p ≡ k + suc p = omega arith in count_at (k + 1) m p (omega arith) ∙ ap Some e

-- the wire into an input
pub record Into (nodes : List Node) (ws : List Edge) (k p : ℕ) : Type 0 where
  pub number : ℕ
  pub wire : Edge
  pub finds : find_wire k p ws ≡ Some number
  pub at : slice_get ws number ≡ Some wire
  pub to : wire.to ≡ k
  pub into : wire_into nodes ws k p ≡ Some wire

pub into_from : (nodes : List Node) (ws : List Edge) (k p i : ℕ) → find_wire k p ws ≡ Some i → Into nodes ws k p
into_from nodes ws k p i e =
    let f = found_first (λ x. x.to) (λ x. x.input) k p ws i e in
    record { number = i; wire = f.wire; finds = e; at = f.at; to = f.to; into = ap (option_and_then (slice_get ws)) e ∙ f.at }

found_by : (nodes : List Node) (ws : List Edge) (k p : ℕ) (o : Option ℕ) → find_wire k p ws ≡ o → is_none o ≡ false → Into nodes ws k p
found_by nodes ws k p None e h = cc
found_by nodes ws k p (Some i) e h = into_from nodes ws k p i e

-- each input of a node has one
pub input_there : (heads : HeadLists) (nodes : List Node) (ws : List Edge) → port_open heads nodes ws ≡ None → (k p : ℕ) (n : Node) → slice_get nodes k ≡ Some n → p < kind_inputs heads n.kind → Into nodes ws k p
input_there heads nodes ws h k p n at lt =
    let both = nowhere (λ i x. option_or (open_input heads i x ws) (open_output heads i x ws)) nodes k n h at in
    let ins = (none_parts (open_input heads k n ws) (open_output heads k n ws) both).0 in
    let open_at : ℕ → OpenPort = λ q. record { node = k; output = false; port = q } in
    let zero_on : 0 + p ≡ p = omega arith in
    let none = nowhere (λ _ q. when (is_none (find_wire k q ws)) (open_at q)) (count_from 0 (kind_inputs heads n.kind)) p p ins (count_at 0 (kind_inputs heads n.kind) p lt ∙ ap Some zero_on) in
    found_by nodes ws k p (find_wire k p ws) refl (when_none (is_none (find_wire k p ws)) (open_at p) none)

-- the wire into the one input of a node is the one that leads there
pub only_wire : (heads : HeadLists) (chains : List ChainDecl) (nodes : List Node) (ws : List Edge) → unknown_guest heads chains nodes ≡ None → port_missing heads nodes ws ≡ None → port_twice heads nodes ws ≡ None → port_open heads nodes ws ≡ None
    → (i : ℕ) (v : Edge) (n : Node) → slice_get ws i ≡ Some v → slice_get nodes v.to ≡ Some n → kind_inputs heads n.kind ≡ 1 → wire_into nodes ws v.to 0 ≡ Some v
only_wire heads chains nodes ws named missing twice op i v n at is one =
    let known : is_headless heads n.kind ≡ false = known_by heads chains nodes named v.to n is in
    let lacks = nowhere (λ j x. when (lacks_output heads (slice_get nodes x.from) x.output || lacks_input heads (slice_get nodes x.to) x.input) j) ws i v missing at in
    let has = (or_parts (lacks_output heads (slice_get nodes v.from) v.output) (lacks_input heads (slice_get nodes v.to) v.input)
    (when_none (lacks_output heads (slice_get nodes v.from) v.output || lacks_input heads (slice_get nodes v.to) v.input) i lacks)).1 in
    let below : v.input < kind_inputs heads n.kind = leb-false (kind_inputs heads n.kind) v.input (alone (is_headless heads n.kind) (nat_le (kind_inputs heads n.kind) v.input) known (subst (λ o. lacks_input heads o v.input ≡ false) is has)) in
    let first : v.input ≡ 0 = omega (arith, below, one) in
    let again = nowhere
    (λ j x. when ((not (lacks_guest heads (slice_get nodes x.from)) && not (is_port_number j (find_source x.from x.output ws))) || (not (lacks_guest heads (slice_get nodes x.to)) && not (is_port_number j (find_wire x.to x.input ws)))) j)
    ws i v twice at in
    let both = or_parts (not (lacks_guest heads (slice_get nodes v.from)) && not (is_port_number i (find_source v.from v.output ws))) (not (lacks_guest heads (slice_get nodes v.to)) && not (is_port_number i (find_wire v.to v.input ws)))
    (when_none ((not (lacks_guest heads (slice_get nodes v.from)) && not (is_port_number i (find_source v.from v.output ws))) || (not (lacks_guest heads (slice_get nodes v.to)) && not (is_port_number i (find_wire v.to v.input ws)))) i again) in
    let guest : lacks_guest heads (slice_get nodes v.to) ≡ false = ap (lacks_guest heads) is ∙ known in
    let own = alone (lacks_guest heads (slice_get nodes v.to)) (not (is_port_number i (find_wire v.to v.input ws))) guest both.1 in
    let into = input_there heads nodes ws op v.to 0 n is (rw one (omega arith)) in
    let same : into.number ≡ i = number_is into.number i (subst (λ o. not (is_port_number i o) ≡ false) into.finds (subst (λ p. not (is_port_number i (find_wire v.to p ws)) ≡ false) first own)) in
    ap (option_and_then (slice_get ws)) into.finds ∙ ap (slice_get ws) same ∙ at
  where
    number_is : (k j : ℕ) → not (k == j) ≡ false → k ≡ j
    number_is k j h = by_test (k == j) refl h
      where
        by_test : (b : Bool) → (k == j) ≡ b → not b ≡ false → k ≡ j
        by_test true e h = eqb-true k j e
        by_test false e h = cc

-- ---- heads

-- a plug that is named is found
named_found : (name : List ℕ) (plugs : List PlugHead) → list_any (same_text name) (map (λ (p : PlugHead). p.name) plugs) ≡ true → is_some (plug_named name plugs) ≡ true
named_found name [] h = cc
named_found name (p ∷ ps) h = by_test (same_text name p.name) h (named_found name ps)
  where
    by_test : (b : Bool) → (b || list_any (same_text name) (map (λ (p : PlugHead). p.name) ps)) ≡ true → (list_any (same_text name) (map (λ (p : PlugHead). p.name) ps) ≡ true → is_some (plug_named name ps) ≡ true)
        → is_some (if b then Some p else plug_named name ps) ≡ true
    by_test true k more = refl
    by_test false k more = more k

-- and so is a custom stage
hired_found : (name : List ℕ) (customs : List CustomShape) → list_any (same_text name) (map (λ (c : CustomShape). c.name) customs) ≡ true → is_some (named (λ (c : CustomShape). c.name) name customs) ≡ true
hired_found name [] h = cc
hired_found name (c ∷ cs) h = by_test (same_text name c.name) h (hired_found name cs)
  where
    by_test : (b : Bool) → (b || list_any (same_text name) (map (λ (c : CustomShape). c.name) cs)) ≡ true → (list_any (same_text name) (map (λ (c : CustomShape). c.name) cs) ≡ true → is_some (named (λ (c : CustomShape). c.name) name cs) ≡ true)
        → is_some (if b then Some c else named (λ (c : CustomShape). c.name) name cs) ≡ true
    by_test true k more = refl
    by_test false k more = more k

is_there : (b : Bool) (name : List ℕ) → when (not b) name ≡ None → b ≡ true
is_there true name h = refl
is_there false name h = cc

-- the names of the plugs and those of the custom stages
abbrev plug_names : HeadLists → List (List ℕ)
plug_names heads = map (λ (p : PlugHead). p.name) heads.plugs

abbrev custom_names : HeadLists → List (List ℕ)
custom_names heads = map (λ (c : CustomShape). c.name) heads.customs

kind_is_known : (heads : HeadLists) (q : Kind) → unknown_guest_at (plug_names heads) (custom_names heads) q ≡ None → is_known heads q ≡ true
kind_is_known heads (Plug name) e = named_found name heads.plugs (is_there (list_any (same_text name) (plug_names heads)) name (none_parts (unknown_plug_at (plug_names heads) (Some name)) None e).0)
kind_is_known heads (Custom name) e = hired_found name heads.customs (is_there (list_any (same_text name) (custom_names heads)) name e)
kind_is_known heads _ e = refl

-- each node is of a kind that is known
pub known_kind : (heads : HeadLists) (chains : List ChainDecl) (nodes : List Node) → unknown_guest heads chains nodes ≡ None → (k : ℕ) (n : Node) → slice_get nodes k ≡ Some n → is_known heads n.kind ≡ true
known_kind heads chains nodes h k n at =
    kind_is_known heads n.kind (nowhere (λ _ (x : Node). unknown_guest_at (plug_names heads) (custom_names heads) x.kind) nodes k n (none_parts (unknown_in_chains (plug_names heads) (custom_names heads) chains) (unknown_in_nodes (plug_names heads) (custom_names heads) nodes) h).1 at)

-- and so is each step of a chain
steps_are_known : (heads : HeadLists) (n : ℕ) (steps : List Step) → first_from (λ _ (s : Step). unknown_guest_at (plug_names heads) (custom_names heads) s.kind) n steps ≡ None
    → list_all (λ (s : Step). is_known heads s.kind) steps ≡ true
steps_are_known heads n [] h = refl
steps_are_known heads n (s ∷ ss) h =
    let at : ℕ → Step → Option (List ℕ) = λ _ t. unknown_guest_at (plug_names heads) (custom_names heads) t.kind in
    let parts = none_parts (at n s) (first_from at (n + 1) ss) h in
    rw (kind_is_known heads s.kind parts.0, steps_are_known heads (n + 1) ss parts.1) refl

chains_are_known : (heads : HeadLists) (n : ℕ) (chains : List ChainDecl) → first_from (λ _ (c : ChainDecl). unknown_in_steps (plug_names heads) (custom_names heads) c.steps.items) n chains ≡ None
    → list_all (λ (c : ChainDecl). list_all (λ (s : Step). is_known heads s.kind) c.steps.items) chains ≡ true
chains_are_known heads n [] h = refl
chains_are_known heads n (c ∷ cs) h =
    let at : ℕ → ChainDecl → Option (List ℕ) = λ _ d. unknown_in_steps (plug_names heads) (custom_names heads) d.steps.items in
    let parts = none_parts (at n c) (first_from at (n + 1) cs) h in
    rw (steps_are_known heads 0 c.steps.items parts.0, chains_are_known heads (n + 1) cs parts.1) refl

pub known_steps : (heads : HeadLists) (chains : List ChainDecl) (nodes : List Node) → unknown_guest heads chains nodes ≡ None → HasKnownSteps heads chains
known_steps heads chains nodes h =
    record { all = chains_are_known heads 0 chains (none_parts (unknown_in_chains (plug_names heads) (custom_names heads) chains) (unknown_in_nodes (plug_names heads) (custom_names heads) nodes) h).0 }

-- ---- sizes

fits_by : (b : Bool) (i : ℕ) → when (not b) i ≡ None → b ≡ true
fits_by true i h = refl
fits_by false i h = cc

least : (a b n : ℕ) → is_within a b n ≡ true → a ≤ n
least a b n h = leb-true a n (and_parts (nat_le a n) (nat_le n b) h).0

-- a node that joins has an input
-- the output at which a wire begins is one of its node
pub output_there : (heads : HeadLists) (chains : List ChainDecl) (nodes : List Node) (ws : List Edge) → unknown_guest heads chains nodes ≡ None → port_missing heads nodes ws ≡ None → port_open heads nodes ws ≡ None
    → (i : ℕ) (v : Edge) (n : Node) → slice_get ws i ≡ Some v → slice_get nodes v.from ≡ Some n → v.output < kind_outputs heads n.kind
output_there heads chains nodes ws named missing op i v n at is =
    let s = source_port heads nodes ws (λ k m there. known_by heads chains nodes named k m there) missing op i v at in
    let both : Some s.0 ≡ Some n = sym s.1.0 ∙ is in
    let same : s.0 ≡ n = cc in
    subst (λ (m : Node). v.output < kind_outputs heads m.kind) same s.1.1

none_behind : {X : Type 0} (xs : List X) (p : ℕ) → slice_get xs p ≡ None → length xs ≤ p
none_behind [] p e = omega arith
none_behind (x ∷ xs) zero e = absurd cc
none_behind (x ∷ xs) (suc p) e = let later = none_behind xs p e in omega (arith, later)

-- an output of a head has a type
pub has_output_type : (o : Option CustomShape) (p : ℕ) → p < (head_ports o).1 → output_type o p ≡ None → ⊥
has_output_type None p lt e = absurd (omega (arith, lt))
has_output_type (Some h) p lt e = let few = none_behind h.outputs p e in absurd (omega (arith, lt, few))

first_or_none : (found : Option Sort) (outputs : List Sort) (p : ℕ) → p < length outputs → option_or found (slice_get outputs 0) ≡ None → ⊥
first_or_none (Some t) outputs p lt e = cc
first_or_none None [] p lt e = absurd (omega (arith, lt))
first_or_none None (t ∷ outputs) p lt e = cc

-- so where it has one, something stands for the types of its outputs
pub no_outputs : (o : Option CustomShape) (p : ℕ) → p < (head_ports o).1 → outputs_type o ≡ None → ⊥
no_outputs None p lt e = absurd (omega (arith, lt))
no_outputs (Some h) p lt e = let below : p < length h.outputs = omega (arith, lt) in first_or_none _ h.outputs p below e

pub heads_fit : (heads : HeadLists) (nodes : List Node) → node_wrong heads nodes ≡ None → (k : ℕ) (n : Node) → slice_get nodes k ≡ Some n → head_fits (custom_head heads n.kind) ≡ true
heads_fit heads nodes h k n at =
    (and_parts (sizes_fit n.kind) (head_fits (custom_head heads n.kind)) (fits_by (node_fits heads n.kind) k (nowhere (λ i (x : Node). when (not (node_fits heads x.kind)) i) nodes k n h at))).1

pub joins_some : (heads : HeadLists) (nodes : List Node) → node_wrong heads nodes ≡ None → (k : ℕ) (n : Node) → slice_get nodes k ≡ Some n → shape_of n.kind ≡ joining → 0 < kind_inputs heads n.kind
joins_some heads nodes h k n at s =
    by_kind n.kind s (and_parts (sizes_fit n.kind) (head_fits (custom_head heads n.kind)) (fits_by (node_fits heads n.kind) k (nowhere (λ i (x : Node). when (not (node_fits heads x.kind)) i) nodes k n h at))).0
  where
    by_kind : (q : Kind) → shape_of q ≡ joining → sizes_fit q ≡ true → 0 < kind_inputs heads q
    by_kind (Merge m) s f = omega (arith, least 2 MAX_FAN m f)
    by_kind (MergeHub l m) s f = omega (arith, least 1 MAX_FAN m (and_parts (is_within 1 MAX_LANE l) (is_within 1 MAX_FAN m) f).1)
    by_kind (Concat m) s f = omega (arith, least 2 MAX_FAN m f)
    by_kind (Interleave m l) s f = omega (arith, least 2 MAX_FAN m (and_parts (is_within 2 MAX_FAN m) (is_within 1 MAX_COUNT l) f).0)
    by_kind MergeSorted s f = omega arith
    by_kind _ s f = cc

-- ---- types

module _ (heads : HeadLists) (chains : List ChainDecl) (nodes : List Node) (ws : List Edge) where
  abbrev types : ℕ → Option Sort
  types = settled heads chains nodes ws

  -- no wire brings a type that its target does not accept
  pub accepts : type_clash heads chains nodes ws ≡ None → (i : ℕ) (v : Edge) (k : ℕ) (n : Node) (t : Sort) → slice_get ws i ≡ Some v → v.to ≡ k → slice_get nodes k ≡ Some n → type_on heads nodes ws types (Some v) ≡ Some t
      → clash_with heads chains i v.input (Some n) (types k) (Some t) ≡ None
  accepts h i v k n t at to is on =
      let none = nowhere (clash_on heads chains nodes ws types) ws i v h at in
      let here : slice_get nodes v.to ≡ Some n = ap (slice_get nodes) to ∙ is in
      let of_node = subst (λ m. clash_with heads chains i v.input m (types v.to) (type_on heads nodes ws types (Some v)) ≡ None) here none in
      let of_type = subst (λ o. clash_with heads chains i v.input (Some n) (types v.to) o ≡ None) on of_node in
      subst (λ j. clash_with heads chains i v.input (Some n) (types j) (Some t) ≡ None) to of_type

  unlike_by : (b : Bool) (c : Clash) → (if b then None else Some c) ≡ None → b ≡ true
  unlike_by true c h = refl
  unlike_by false c h = cc

  same_by : (i : ℕ) (s t : Sort) → unlike i t (Some s) ≡ None → t ≡ s
  same_by i s t h = sym (sort_from_same s t (unlike_by (same_sort s t) (record { wire = i; left = t; want = Is s }) h))

  joined_by : (b : Bool) (i : ℕ) (s t : Sort) (r : Typed) → b ≡ true → (if b then unlike i t (Some s) else clash_of i r) ≡ None → t ≡ s
  joined_by true i s t r e h = same_by i s t h
  joined_by false i s t r e h = cc

  -- what arrives at a node that joins is of the type of that node
  pub joins_alike : type_clash heads chains nodes ws ≡ None → (i : ℕ) (v : Edge) (k : ℕ) (n : Node) (t s : Sort) → slice_get ws i ≡ Some v → v.to ≡ k → slice_get nodes k ≡ Some n → type_on heads nodes ws types (Some v) ≡ Some t
      → is_joining n.kind ≡ true → types k ≡ Some s → t ≡ s
  joins_alike h i v k n t s at to is on j e =
      joined_by (is_joining n.kind) i s t (port_typed heads chains v.input n.kind t) j (subst (λ o. clash_with heads chains i v.input (Some n) o (Some t) ≡ None) e (accepts h i v k n t at to is on))

  met_by : (b : Bool) (i : ℕ) (t : Sort) (o : Option Sort) (r : Typed) → b ≡ false → (if b then unlike i t o else clash_of i r) ≡ None → clash_of i r ≡ None
  met_by true i t o r e h = cc
  met_by false i t o r e h = h

  -- what arrives at any other node is of a type that its input takes
  pub meets_port : type_clash heads chains nodes ws ≡ None → (i : ℕ) (v : Edge) (k : ℕ) (n : Node) (t : Sort) → slice_get ws i ≡ Some v → v.to ≡ k → slice_get nodes k ≡ Some n → type_on heads nodes ws types (Some v) ≡ Some t
      → is_joining n.kind ≡ false → clash_of i (port_typed heads chains v.input n.kind t) ≡ None
  meets_port h i v k n t at to is on j = met_by (is_joining n.kind) i t (types k) (port_typed heads chains v.input n.kind t) j (accepts h i v k n t at to is on)

  -- and that its function takes
  pub meets : type_clash heads chains nodes ws ≡ None → (i : ℕ) (v : Edge) (k : ℕ) (n : Node) (t : Sort) → slice_get ws i ≡ Some v → v.to ≡ k → slice_get nodes k ≡ Some n → type_on heads nodes ws types (Some v) ≡ Some t
      → is_joining n.kind ≡ false → clash_of i (stage_typed heads chains n.kind t) ≡ None
  meets h i v k n t at to is on j =
      let port = meets_port h i v k n t at to is on j in
      subst (λ r. clash_of i r ≡ None) (clash_by (option_map Is (input_type (custom_head heads n.kind) v.input)) i t (stage_typed heads chains n.kind t) port).1 port

  -- no type is too deep
  pub not_deep : too_deep heads chains nodes ws ≡ None → (k : ℕ) (n : Node) → slice_get nodes k ≡ Some n → is_deep (attempt_at heads chains nodes ws types k (Some n)) ≡ false
  not_deep h k n at = when_none (is_deep (attempt_at heads chains nodes ws types k (Some n))) k (nowhere (λ i x. when (is_deep (attempt_at heads chains nodes ws types i (Some x))) i) nodes k n h at)
