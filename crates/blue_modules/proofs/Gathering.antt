-- The parts of a body are gathered entry by entry, and a body that comes to nothing has none.
use Rattle.std.proofs.Common.{◌≡◌, ℕ, ◌+◌, ◌-◌, ◌^◌, ◌<◌, ◌==◌, ◌&&◌, min, Bool, true, false, cond, List, [], ◌∷◌, ◌++◌, length, take, get_or, map, Option, Some, None, refl, sym, ap, subst, ◌∙◌, ⊎_elim, append_assoc, append-nil, arith}
use Rattle.std.specs.Prelude.{nat_lt, ◌||◌}
use Rattle.std.specs.Option.{option_or}
use Rattle.std.specs.List.{filter_map, flat_map, sum_by, insert}
use Rattle.std.proofs.lemmas.Bool.{cases_Bool, and_parts, eqb-true, lt-ltb, ltb-true, ltb-false, le-ltb}
use Rattle.std.proofs.lemmas.List.{take_more, map_more}
use Rattle.std.proofs.lemmas.List.Concat.{flat_map-append}
use Rattle.std.proofs.lemmas.List.Elements.{filter_map-append}
use Rattle.std.proofs.lemmas.List.Sums.{sum_by-cons, sum_by-append, sum_by_more}
use Rattle.elem_core.specs.Bytes.{point_byte}
use Rattle.elem_core.specs.Values.{same_text}
use Rattle.blue_modules.specs.declared.text.Entry.{Entry}
use Rattle.blue_modules.specs.declared.text.Entry.TheVariants.{Node, Instance, Wire}
use Rattle.blue_modules.specs.declared.text.PortMark.TheVariants.{Name}
use Rattle.blue_modules.specs.declared.text.UseText.{UseText}
use Rattle.blue_modules.specs.declared.text.WireText.{WireText}
use Rattle.blue_modules.specs.declared.text.BlueText.{BlueText}
use Rattle.blue_modules.specs.declared.text.Module.{Module}
use Rattle.blue_modules.specs.declared.parts.Around.{Around}
use Rattle.blue_modules.specs.Plain.{PlainChain, PlainBlueprint}
use Rattle.blue_modules.specs.Text.{PlainModule, plain_module, plain_chain_text, plain_text}
use Rattle.blue_modules.specs.Names.{entry_named, module_of}
use Rattle.blue_modules.specs.Flatten.{FlatPart, node, wire, entry_parts, replaced, flat_body, prefix_of, around_body, latest_onto, latest_first, part_nodes, part_wires, instance_port, beneath, place, port_through, flat_lane, flat_wire, inside, around_text, flat_chain, flat_parts, flat}
use Rattle.stream_model.specs.declared.blueprint.Node as blueprint
use Rattle.stream_model.specs.declared.blueprint.WireDecl.{WireDecl}
use Rattle.blue_names.specs.First.{first_from}
use Rattle.blue_modules.specs.Fitness.{exceeds_limits}
use Rattle.blue_modules.specs.declared.counts.Counted.{Counted}
use Rattle.blue_modules.specs.Counts.{entry_weight, module_weight, body_weight, capped, plain_counted, counted_modules, AreCounted, body_parts}

-- ---- one entry more
pub gathered-more : {X A B : Type 0} (g : A → Option B) (f : X → List A) (old now later : List B) (xs : List X) (i : ℕ) (x : X) → i < length xs → x ≡ get_or xs i x → now ≡ old ++ filter_map g (flat_map f (take i xs)) → later ≡ now ++ filter_map g (f x) → later ≡ old ++ filter_map g (flat_map f (take (i + 1) xs))
gathered-more g f old now later xs i x lt at is more =
    let one : take (i + 1) xs ≡ take i xs ++ x ∷ [] = take_more xs i x lt ∙ ap (λ y. take i xs ++ y ∷ []) (sym at) in
    let whole : flat_map f (take (i + 1) xs) ≡ flat_map f (take i xs) ++ (f x ++ []) = ap (flat_map f) one ∙ flat_map-append f (take i xs) (x ∷ []) in
    let parts : filter_map g (flat_map f (take (i + 1) xs)) ≡ filter_map g (flat_map f (take i xs)) ++ filter_map g (f x) = ap (filter_map g) (whole ∙ ap (λ y. flat_map f (take i xs) ++ y) (append-nil (f x))) ∙ filter_map-append g (flat_map f (take i xs)) (f x) in
    more ∙ (ap (λ y. y ++ filter_map g (f x)) is ∙ (append_assoc old (filter_map g (flat_map f (take i xs))) (filter_map g (f x)) ∙ ap (λ y. old ++ y) (sym parts)))

-- ---- the weight of parts is that of what they are the parts of
pub part_weight : ℕ → ℕ → FlatPart → ℕ
part_weight n w (node t) = n
part_weight n w (wire t) = w

sum_by-flat_map : {X A : Type 0} (h : A → ℕ) (k : X → ℕ) (f : X → List A) → ((x : X) → sum_by h (f x) ≡ k x) → (xs : List X) → sum_by h (flat_map f xs) ≡ sum_by k xs
sum_by-flat_map h k f each [] = refl
sum_by-flat_map h k f each (x ∷ xs) = sum_by-append h (f x) (flat_map f xs) ∙ (ap (λ n. n + sum_by h (flat_map f xs)) (each x) ∙ (ap (λ n. k x + n) (sum_by-flat_map h k f each xs) ∙ sym (sum_by-cons k x xs)))

module _ (n w : ℕ) where
  abbrev total : List FlatPart → ℕ
  total ps = sum_by (part_weight n w) ps

  entry_total : (ms : List PlainModule) (body : List Entry) (prefix : List ℕ) (around : Around)
      → ((p : List ℕ) (a : Around) (u : UseText) → total (replaced ms p a u) ≡ module_weight n w ms u.of)
      → (e : Entry) → total (entry_parts ms (replaced ms) body prefix around e) ≡ entry_weight n w (module_weight n w ms) e
  unfolding part_weight
  entry_total ms body prefix around inner (Node t) = omega arith
  entry_total ms body prefix around inner (Instance u) = inner prefix around u
  entry_total ms body prefix around inner (Wire t) = omega arith

  replaced_total : (ms : List PlainModule) (p : List ℕ) (a : Around) (u : UseText) → total (replaced ms p a u) ≡ module_weight n w ms u.of
  replaced_total [] p a u = refl
  replaced_total (m ∷ ms) p a u = at (same_text m.name u.of) (replaced_total ms)
    where
      at : (t : Bool) → ((q : List ℕ) (b : Around) (v : UseText) → total (replaced ms q b v) ≡ module_weight n w ms v.of)
          → total (cond t (flat_body ms (prefix_of p u.name) (around_body m u a) m.body) (replaced ms p a u)) ≡ cond t (body_weight n w ms m.body) (module_weight n w ms u.of)
      at true inner =
          sum_by-flat_map (part_weight n w) (entry_weight n w (module_weight n w ms)) (entry_parts ms (replaced ms) m.body (prefix_of p u.name) (around_body m u a))
          (entry_total ms m.body (prefix_of p u.name) (around_body m u a) inner) m.body
      at false inner = inner p a u

  pub flat_total : (ms : List PlainModule) (p : List ℕ) (a : Around) (body : List Entry) → total (flat_body ms p a body) ≡ body_weight n w ms body
  flat_total ms p a body =
      sum_by-flat_map (part_weight n w) (entry_weight n w (module_weight n w ms)) (entry_parts ms (replaced ms) body p a) (entry_total ms body p a (replaced_total ms)) body

-- ---- parts that weigh nothing
no_parts : (ps : List FlatPart) → sum_by (part_weight 1 0) ps ≡ 0 → sum_by (part_weight 0 1) ps ≡ 0 → ps ≡ []
unfolding part_weight
no_parts [] a b = refl
no_parts (node t ∷ ps) a b = absurd (omega (arith, a, sum_by-cons (part_weight 1 0) (node t) ps))
no_parts (wire t ∷ ps) a b = absurd (omega (arith, b, sum_by-cons (part_weight 0 1) (wire t) ps))

pub nothing_in : (ms : List PlainModule) (p : List ℕ) (a : Around) (body : List Entry) → body_weight 1 0 ms body ≡ 0 → body_weight 0 1 ms body ≡ 0 → flat_body ms p a body ≡ []
nothing_in ms p a body n w = no_parts (flat_body ms p a body) (flat_total 1 0 ms p a body ∙ n) (flat_total 0 1 ms p a body ∙ w)

-- ---- a module that comes to nothing
zero_capped : (n x : ℕ) → n ≡ capped x → n ≡ 0 → x ≡ 0
zero_capped n x e z = omega (arith, e, z)

pub nothing_more : {B : Type 0} (g : FlatPart → Option B) (xs : List B) (cs : List Counted) (c : Counted) (p : List ℕ) (a : Around) (u : UseText) → AreCounted (c ∷ cs) → ((c.nodes == 0) && (c.wires == 0)) ≡ true → xs ≡ xs ++ filter_map g (body_parts cs c p a u)
nothing_more g xs cs c p a u counted none =
    let both = and_parts (c.nodes == 0) (c.wires == 0) none in
    let n : body_weight 1 0 (counted_modules cs) c.body ≡ 0 = zero_capped c.nodes _ counted.0 (eqb-true c.nodes 0 both.0) in
    let w : body_weight 0 1 (counted_modules cs) c.body ≡ 0 = zero_capped c.wires _ counted.1 (eqb-true c.wires 0 both.1) in
    let none_of : body_parts cs c p a u ≡ [] = nothing_in (counted_modules cs) (prefix_of p u.name) (around_body (plain_counted c) u a) c.body n w in
    sym (ap (λ x. xs ++ filter_map g x) none_of ∙ append-nil xs)

-- ---- one entry more in a count
pub capped-more : {X : Type 0} (f : X → ℕ) (xs : List X) (i : ℕ) (x : X) (size more : ℕ) → i < length xs → x ≡ get_or xs i x → size ≡ capped (sum_by f (take i xs)) → more ≡ capped (f x) → min (size + more) (2 ^ 32 - 1) ≡ capped (sum_by f (take (i + 1) xs))
capped-more f xs i x size more lt at s m = omega (arith, s, m, sum_by_more f xs i x lt, ap f at)

-- ---- the latest first
pub latest_onto-more : (done ms : List PlainModule) (m : PlainModule) → latest_onto done (ms ++ m ∷ []) ≡ m ∷ latest_onto done ms
latest_onto-more done [] m = refl
latest_onto-more done (x ∷ ms) m = latest_onto-more (x ∷ done) ms m

pub latest-more : {X : Type 0} (f : X → PlainModule) (xs : List X) (i : ℕ) (d : X) → i < length xs → latest_first (map f (take (i + 1) xs)) ≡ f (get_or xs i d) ∷ latest_first (map f (take i xs))
latest-more f xs i d lt =
    ap latest_first (map_more f xs i d lt) ∙ latest_onto-more [] (map f (take i xs)) (f (get_or xs i d))

-- one module more, with what it comes to
pub counted-more : (c : Counted) (book new seen : List Counted) → new ≡ insert book 0 c → seen ≡ book → c.nodes ≡ capped (body_weight 1 0 (counted_modules seen) c.body) → c.wires ≡ capped (body_weight 0 1 (counted_modules seen) c.body) → AreCounted book → AreCounted new
counted-more c book new seen e s n w h =
    let nodes : c.nodes ≡ capped (body_weight 1 0 (counted_modules book) c.body) = n ∙ ap (λ x. capped (body_weight 1 0 (counted_modules x) c.body)) s in
    let wires : c.wires ≡ capped (body_weight 0 1 (counted_modules book) c.body) = w ∙ ap (λ x. capped (body_weight 0 1 (counted_modules x) c.body)) s in
    let whole : AreCounted (c ∷ book) = (nodes, wires, h) in
    subst AreCounted (sym e) whole

pub modules-more : (xs : List Module) (i : ℕ) (x : Module) (c : Counted) (book new : List Counted) → i < length xs → x ≡ get_or xs i x → plain_counted c ≡ plain_module x → new ≡ insert book 0 c → counted_modules book ≡ latest_first (map plain_module (take i xs)) → counted_modules new ≡ latest_first (map plain_module (take (i + 1) xs))
modules-more xs i x c book new lt at is e h =
    let one : counted_modules new ≡ plain_counted c ∷ counted_modules book = ap counted_modules e in
    one ∙ (ap (λ m. m ∷ counted_modules book) (is ∙ ap plain_module at) ∙ (ap (λ ms. plain_module (get_or xs i x) ∷ ms) h ∙ sym (latest-more plain_module xs i x lt)))

-- ---- whether parts are more than a blueprint may have
nodes_weigh : (ps : List FlatPart) → length (part_nodes ps) ≡ sum_by (part_weight 1 0) ps
unfolding part_weight
nodes_weigh [] = refl
nodes_weigh (node t ∷ ps) = omega (arith, nodes_weigh ps, sum_by-cons (part_weight 1 0) (node t) ps)
nodes_weigh (wire t ∷ ps) = omega (arith, nodes_weigh ps, sum_by-cons (part_weight 1 0) (wire t) ps)

wires_weigh : (ps : List FlatPart) → length (part_wires ps) ≡ sum_by (part_weight 0 1) ps
unfolding part_weight
wires_weigh [] = refl
wires_weigh (node t ∷ ps) = omega (arith, wires_weigh ps, sum_by-cons (part_weight 0 1) (node t) ps)
wires_weigh (wire t ∷ ps) = omega (arith, wires_weigh ps, sum_by-cons (part_weight 0 1) (wire t) ps)

above_capped : (n x k : ℕ) → k < 2 ^ 32 - 1 → n ≡ capped x → nat_lt k n ≡ nat_lt k x
above_capped n x k few e = ⊎_elim (yes refl) (no refl) (cases_Bool (nat_lt k x))
  where
    yes : {t : Bool} → nat_lt k x ≡ t → t ≡ true → nat_lt k n ≡ nat_lt k x
    yes is t = let l = ltb-true k x (is ∙ t) in lt-ltb k n (omega (arith, l, few, e)) ∙ sym (is ∙ t)

    no : {t : Bool} → nat_lt k x ≡ t → t ≡ false → nat_lt k n ≡ nat_lt k x
    no is t = let l = ltb-false k x (is ∙ t) in le-ltb k n (omega (arith, l, e)) ∙ sym (is ∙ t)

pub passes_by_size : (nodes wires : ℕ) (ms : List PlainModule) (p : List ℕ) (a : Around) (body : List Entry) → nodes ≡ capped (body_weight 1 0 ms body) → wires ≡ capped (body_weight 0 1 ms body) → (nat_lt 1024 nodes || nat_lt 2048 wires) ≡ exceeds_limits (flat_body ms p a body)
passes_by_size nodes wires ms p a body n w =
    let ln : length (part_nodes (flat_body ms p a body)) ≡ body_weight 1 0 ms body = nodes_weigh (flat_body ms p a body) ∙ flat_total 1 0 ms p a body in
    let lw : length (part_wires (flat_body ms p a body)) ≡ body_weight 0 1 ms body = wires_weigh (flat_body ms p a body) ∙ flat_total 0 1 ms p a body in
    let en : nat_lt 1024 nodes ≡ nat_lt 1024 (length (part_nodes (flat_body ms p a body))) = above_capped nodes _ 1024 (omega arith) n ∙ ap (nat_lt 1024) (sym ln) in
    let ew : nat_lt 2048 wires ≡ nat_lt 2048 (length (part_wires (flat_body ms p a body))) = above_capped wires _ 2048 (omega arith) w ∙ ap (nat_lt 2048) (sym lw) in
    ap (λ x. x || nat_lt 2048 wires) en ∙ ap (λ x. nat_lt 1024 (length (part_nodes (flat_body ms p a body))) || x) ew

-- ---- the first place among bodies is that among what is seen of them
pub first_from-map : {X Y F : Type 0} (f : Y → Option F) (g : X → Y) (n : ℕ) (xs : List X) → first_from (λ _ x. f (g x)) n xs ≡ first_from (λ _ y. f y) n (map g xs)
first_from-map f g n [] = refl
first_from-map f g n (x ∷ xs) = ap (option_or (f (g x))) (first_from-map f g (n + 1) xs)

-- ---- a text without modules
-- a port by a name is one of an instance, and nothing there
pub own_place : (output : Bool) (body : List Entry) (name p : List ℕ) → (name ++ point_byte ∷ [], 0) ≡ place (port_through output []) body name (Name p)
own_place output body name p = at (module_of (entry_named name body))
  where
    at : (m : Option (List ℕ)) → (name ++ point_byte ∷ [], 0) ≡ beneath name (instance_port (port_through output []) m p)
    at None = refl
    at (Some m) = refl

-- a wire between its places, whose names are taken over
abbrev wire_of : List ℕ → ℕ → List ℕ → ℕ → Option ℕ → Bool → WireDecl
wire_of f o t i l k = record { from = f; output = o; to = t; input = i; lane = l; keep = k }

pub own_wire : (body : List Entry) (a : Around) (w : WireText) (f t : List ℕ) (o i : ℕ) (l : Option ℕ) → f ≡ (place (port_through true []) body w.from w.output).0 → o ≡ (place (port_through true []) body w.from w.output).1
    → t ≡ (place (port_through false []) body w.to w.input).0 → i ≡ (place (port_through false []) body w.to w.input).1 → l ≡ flat_lane a w.lane → wire_of f o t i l w.keep ≡ flat_wire [] body [] a w
own_wire body a w f t o i l ef eo et ei el =
    let b = place (port_through true []) body w.from w.output in
    let e = place (port_through false []) body w.to w.input in
    ap (λ x. wire_of x o t i l w.keep) ef ∙ (ap (λ x. wire_of b.0 x t i l w.keep) eo ∙ (ap (λ x. wire_of b.0 b.1 x i l w.keep) et ∙ (ap (λ x. wire_of b.0 b.1 e.0 x l w.keep) ei ∙ ap (λ x. wire_of b.0 b.1 e.0 e.1 x w.keep) el)))

-- one entry more of those that are taken one by one
pub gathered-next : {X A B : Type 0} (g : A → Option B) (f : X → List A) (all now later : List B) (x : X) (was rest : List X) → was ≡ x ∷ rest → later ≡ now ++ filter_map g (f x)
    → now ++ filter_map g (flat_map f was) ≡ all → later ++ filter_map g (flat_map f rest) ≡ all
gathered-next g f all now later x was rest at more kept =
    let parts : filter_map g (flat_map f was) ≡ filter_map g (f x) ++ filter_map g (flat_map f rest) = ap (λ l. filter_map g (flat_map f l)) at ∙ filter_map-append g (f x) (flat_map f rest) in
    ap (λ l. l ++ filter_map g (flat_map f rest)) more ∙ (append_assoc now (filter_map g (f x)) (filter_map g (flat_map f rest)) ∙ (ap (λ l. now ++ l) (sym parts) ∙ kept))

-- and none is left
pub gathered-last : {X A B : Type 0} (g : A → Option B) (f : X → List A) (all now : List B) (was : List X) → was ≡ [] → now ++ filter_map g (flat_map f was) ≡ all → now ≡ all
gathered-last g f all now was none kept = sym (append-nil now) ∙ (ap (λ l. now ++ filter_map g (flat_map f l)) (sym none) ∙ kept)

pub none_left : {X : Type 0} (xs : List X) (n : ℕ) → n ≡ 0 → n ≡ length xs → xs ≡ []
none_left [] n a b = refl
none_left (x ∷ xs) n a b = absurd (omega (arith, a, b))

-- it is flattened without any
abbrev blueprint_of : List (List ℕ) → List PlainChain → List blueprint.Node → List WireDecl → PlainBlueprint
blueprint_of s c n w = record { switches = s; chains = c; nodes = n; wires = w }

pub own_is : (t : BlueText) (a : Around) (ss : List (List ℕ)) (cs : List PlainChain) (ns : List blueprint.Node) (ws : List WireDecl) → t.modules.items ≡ [] → a ≡ inside t.attrs around_text
    → ss ≡ t.switches.items → cs ≡ map (flat_chain a.decider) (map plain_chain_text t.chains.items) → ns ≡ part_nodes (flat_body [] [] a t.body.items) → ws ≡ part_wires (flat_body [] [] a t.body.items)
    → blueprint_of ss cs ns ws ≡ flat (plain_text t)
own_is t a ss cs ns ws none is s c n w =
    let ms : [] ≡ latest_first (map plain_module t.modules.items) = ap (λ m. latest_first (map plain_module m)) (sym none) in
    let parts : flat_body [] [] a t.body.items ≡ flat_parts (plain_text t) = ap (λ x. flat_body [] [] x t.body.items) is ∙ ap (λ m. flat_body m [] (inside t.attrs around_text) t.body.items) ms in
    let chains : cs ≡ map (flat_chain (inside t.attrs around_text).decider) (map plain_chain_text t.chains.items) = c ∙ ap (λ (x : Around). map (flat_chain x.decider) (map plain_chain_text t.chains.items)) is in
    let nodes : ns ≡ part_nodes (flat_parts (plain_text t)) = n ∙ ap part_nodes parts in
    let wires : ws ≡ part_wires (flat_parts (plain_text t)) = w ∙ ap part_wires parts in
    ap (λ x. blueprint_of x cs ns ws) s ∙ (ap (λ x. blueprint_of t.switches.items x ns ws) chains
    ∙ (ap (λ x. blueprint_of t.switches.items (flat (plain_text t)).chains x ws) nodes ∙ ap (λ x. blueprint_of t.switches.items (flat (plain_text t)).chains (flat (plain_text t)).nodes x) wires))
