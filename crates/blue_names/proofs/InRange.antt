-- Where no wire uses a port that is missing, the ends of each wire are nodes.
use Rattle.std.proofs.Common.{◌≡◌, ℕ, zero, suc, ◌+◌, ◌<◌, ◌≤◌, Bool, true, false, ◌||◌, List, [], ◌∷◌, length, map, drop, get_or, Option, Some, None, refl, ap, sym, ◌∙◌, subst, arith}
use Rattle.std.specs.Prelude.{slice_get}
use Rattle.std.specs.Option.{option_or}
use Rattle.std.proofs.lemmas.Bool.{or_parts}
use Rattle.std.proofs.lemmas.List.{get_or-map, length-map, drop_all}
use Rattle.stream_model.specs.Graph.{Edge}
use Rattle.stream_model.specs.Known.{HeadLists}
use Rattle.stream_model.specs.declared.blueprint.Node.{Node}
use Rattle.blue_names.specs.First.{first_from, when}
use Rattle.blue_names.specs.Ports.{port_missing, lacks_output, lacks_input}
use Rattle.blue_names.specs.Links.{AreInRange, wire_of_link, wires_of_links}
use Rattle.blue_names.specs.declared.links.NumberedWire.{NumberedWire}

both_none : {X : Type 0} (a b : Option X) → option_or a b ≡ None → (a ≡ None) × (b ≡ None)
both_none None b h = (refl, h)
both_none (Some x) b h = cc

-- nothing is said of any place
none_at : {X F : Type 0} (f : ℕ → X → Option F) (n : ℕ) (xs : List X) (i : ℕ) (d : X) → first_from f n xs ≡ None → i < length xs → f (n + i) (get_or xs i d) ≡ None
none_at f n [] i d h lt = absurd (omega arith)
none_at f n (x ∷ xs) zero d h lt = let e : n ≡ n + 0 = omega arith in subst (λ k. f k x ≡ None) e (both_none (f n x) (first_from f (n + 1) xs) h).0
none_at f n (x ∷ xs) (suc i) d h lt =
    let e : n + 1 + i ≡ n + suc i = omega arith in
    subst (λ k. f k (get_or xs i d) ≡ None) e (none_at f (n + 1) xs i d (both_none (f n x) (first_from f (n + 1) xs) h).1 (omega arith))

not_when : {F : Type 0} (b : Bool) (x : F) → when b x ≡ None → b ≡ false
not_when true x h = cc
not_when false x h = refl

has_output : (heads : HeadLists) (nodes : List Node) (i p : ℕ) → lacks_output heads (slice_get nodes i) p ≡ false → i < length nodes
has_output heads [] i p h = cc
has_output heads (n ∷ ns) zero p h = omega arith
has_output heads (n ∷ ns) (suc i) p h = let lt : i < length ns = has_output heads ns i p h in omega arith

has_input : (heads : HeadLists) (nodes : List Node) (i p : ℕ) → lacks_input heads (slice_get nodes i) p ≡ false → i < length nodes
has_input heads [] i p h = cc
has_input heads (n ∷ ns) zero p h = omega arith
has_input heads (n ∷ ns) (suc i) p h = let lt : i < length ns = has_input heads ns i p h in omega arith

pub in_range : (heads : HeadLists) (nodes : List Node) (ls : List NumberedWire) → None ≡ port_missing heads nodes (wires_of_links ls) → AreInRange (length nodes) ls
in_range heads nodes ls h = λ k d lt.
    let f : ℕ → Edge → Option ℕ = λ i w. when (lacks_output heads (slice_get nodes w.from) w.output || lacks_input heads (slice_get nodes w.to) w.input) i in
    let w = wire_of_link (get_or ls k d) in
    let long : k < length (wires_of_links ls) = omega (arith, length-map ls wire_of_link) in
    let none = none_at f 0 (wires_of_links ls) k w (sym h) long in
    let at : f (0 + k) w ≡ None = sym (ap (f (0 + k)) (get_or-map wire_of_link ls k d w lt)) ∙ none in
    let parts = or_parts (lacks_output heads (slice_get nodes w.from) w.output) (lacks_input heads (slice_get nodes w.to) w.input) (not_when (lacks_output heads (slice_get nodes w.from) w.output || lacks_input heads (slice_get nodes w.to) w.input) (0 + k) at) in
    (has_output heads nodes w.from w.output parts.0, has_input heads nodes w.to w.input parts.1)

-- the same behind a search that found none
pub in_range_end : (heads : HeadLists) (nodes : List Node) (ls : List NumberedWire) (i : ℕ) → length ls ≤ i
    → port_missing heads nodes (wires_of_links ls) ≡ first_from (λ i w. when (lacks_output heads (slice_get nodes w.from) w.output || lacks_input heads (slice_get nodes w.to) w.input) i) i (wires_of_links (drop i ls)) → AreInRange (length nodes) ls
in_range_end heads nodes ls i le h =
    let f : ℕ → Edge → Option ℕ = λ i w. when (lacks_output heads (slice_get nodes w.from) w.output || lacks_input heads (slice_get nodes w.to) w.input) i in
    let rest : List NumberedWire → Option ℕ = λ xs. first_from f i (wires_of_links xs) in
    in_range heads nodes ls (sym (h ∙ ap rest (drop_all i ls le)))
