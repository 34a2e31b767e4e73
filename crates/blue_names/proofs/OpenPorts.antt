-- Open ports by a table of the wires at ports.
use Rattle.std.proofs.Common.{◌≡◌, ℕ, ◌+◌, ◌-◌, ◌<◌, zero, suc, Bool, true, false, List, [], ◌∷◌, Option, Some, None, is_none, refl, ap, sym, ◌∙◌, subst, arith}
use Rattle.std.specs.Option.{option_map, option_or}
use Rattle.std.specs.HashMap.{HashMap}
use Rattle.stream_model.specs.Composed.{count_from}
use Rattle.stream_model.specs.Known.{HeadLists}
use Rattle.stream_model.specs.Graph.{Edge, find_wire, find_source}
use Rattle.stream_model.specs.declared.kind.Kind.{Kind}
use Rattle.stream_model.specs.declared.blueprint.Node.{Node}
use Rattle.blue_names.specs.CustomPorts.{kind_inputs, kind_outputs}
use Rattle.blue_names.specs.Ports.{OpenPort, open_input, open_output}
use Rattle.blue_names.specs.Wiring.{found_in, FindsWires, FindsSources}
use Rattle.blue_names.specs.First.{first_from, when}

option_map-when : {X Y : Type 0} (f : X → Y) (b : Bool) (x : X) (o : Option X) (u : Option Y) → option_map f o ≡ u → option_map f (option_or (when b x) o) ≡ option_or (when b (f x)) u
option_map-when f true x o u h = refl
option_map-when f false x o u h = h

-- two ways to look a wire up find the same open ports
pub same_open : {Y : Type 0} (a b : ℕ → Option ℕ) (mk : ℕ → Y) (n : ℕ) (ps : List ℕ) → ((p : ℕ) → a p ≡ b p)
    → option_map mk (first_from (λ _ p. when (is_none (a p)) p) n ps) ≡ first_from (λ _ p. when (is_none (b p)) (mk p)) n ps
same_open a b mk n [] h = refl
same_open a b mk n (p ∷ ps) h =
    let rest = same_open a b mk (n + 1) ps h in
    option_map-when mk (is_none (a p)) p (first_from (λ _ q. when (is_none (a q)) q) (n + 1) ps) (first_from (λ _ q. when (is_none (b q)) (mk q)) (n + 1) ps) rest
    ∙ ap (λ o. option_or (when (is_none o) (mk p)) (first_from (λ _ q. when (is_none (b q)) (mk q)) (n + 1) ps)) (h p)

-- numbers up to n, from k on
pub count_from_here : (k n : ℕ) → k < n → count_from k (n - k) ≡ k ∷ count_from (k + 1) (n - (k + 1))
count_from_here k n lt =
    let e : n - k ≡ suc (n - (k + 1)) = omega arith in
    ap (count_from k) e

pub first_from_count : {F : Type 0} (f : ℕ → ℕ → Option F) (k n : ℕ) → k < n → first_from f k (count_from k (n - k)) ≡ option_or (f k k) (first_from f (k + 1) (count_from (k + 1) (n - (k + 1))))
first_from_count f k n lt = ap (first_from f k) (count_from_here k n lt)

-- the first open input of a node, and its first open output
pub open_input-found : {S : Type 0} (heads : HeadLists) (m : HashMap (ℕ × ℕ) ℕ S) (i : ℕ) (n : Node) (ws : List Edge) (kind : Kind) (count : ℕ) (o : Option ℕ) → n.kind ≡ kind → FindsWires m ws → count ≡ kind_inputs heads kind
    → o ≡ first_from (λ _ p. when (is_none (found_in m i p)) p) 0 (count_from 0 count) → option_map (λ p. record { node = i; output = false; port = p }) o ≡ open_input heads i n ws
open_input-found heads m i n ws kind count o k finds counted e =
    let mk : ℕ → OpenPort = λ p. record { node = i; output = false; port = p } in
    let same : count ≡ kind_inputs heads n.kind = counted ∙ ap (kind_inputs heads) (sym k) in
    ap (option_map mk) e ∙ same_open (λ p. found_in m i p) (λ p. find_wire i p ws) mk 0 (count_from 0 count) (λ p. finds.wire_at i p)
    ∙ ap (λ x. first_from (λ _ p. when (is_none (find_wire i p ws)) (mk p)) 0 (count_from 0 x)) same

pub open_output-found : {S : Type 0} (heads : HeadLists) (m : HashMap (ℕ × ℕ) ℕ S) (i : ℕ) (n : Node) (ws : List Edge) (kind : Kind) (count : ℕ) (o : Option ℕ) → n.kind ≡ kind → FindsSources m ws → count ≡ kind_outputs heads kind
    → o ≡ first_from (λ _ p. when (is_none (found_in m i p)) p) 0 (count_from 0 count) → option_map (λ p. record { node = i; output = true; port = p }) o ≡ open_output heads i n ws
open_output-found heads m i n ws kind count o k finds counted e =
    let mk : ℕ → OpenPort = λ p. record { node = i; output = true; port = p } in
    let same : count ≡ kind_outputs heads n.kind = counted ∙ ap (kind_outputs heads) (sym k) in
    ap (option_map mk) e ∙ same_open (λ p. found_in m i p) (λ p. find_source i p ws) mk 0 (count_from 0 count) (λ p. finds.wire_at i p)
    ∙ ap (λ x. first_from (λ _ p. when (is_none (find_source i p ws)) (mk p)) 0 (count_from 0 x)) same
