-- The numbers of those that pass a test, and lanes, of a list with one more.
use Rattle.std.proofs.Common.{◌≡◌, ℕ, zero, suc, ◌+◌, ◌<◌, Bool, true, false, cond, List, [], ◌∷◌, ◌++◌, length, map, take, get_or, refl, ap, sym, ◌==◌, ◌∙◌, append_assoc, arith}
use Rattle.std.specs.Prelude.{slice_index}
use Rattle.std.proofs.lemmas.List.{append-nil, take_more, map_more, length-take-le, length-map}
use Rattle.stream_model.specs.Graph.{Edge}
use Rattle.blue_names.specs.declared.links.NumberedWire.{NumberedWire}
use Rattle.blue_names.specs.Links.{wire_of_link, wires_of_links}
use Rattle.blue_check.specs.declared.plan.LanePlan.{LanePlan}
use Rattle.blue_check.specs.Plan.{numbers_from, island_nodes, is_wire_of, island_wires, lane_plan_of, lanes_from}

cond_push : (b : Bool) (n : ℕ) (ns ms : List ℕ) → cond b (n ∷ (ns ++ ms)) (ns ++ ms) ≡ cond b (n ∷ ns) ns ++ ms
cond_push true n ns ms = refl
cond_push false n ns ms = refl

pub numbers_from-push : {X : Type 0} (n : ℕ) (p : X → Bool) (xs : List X) (x : X) → numbers_from n p (xs ++ x ∷ []) ≡ numbers_from n p xs ++ cond (p x) ((n + length xs) ∷ []) []
numbers_from-push n p [] x = let e : n ≡ n + 0 = omega arith in ap (λ k. cond (p x) (k ∷ []) []) e
numbers_from-push n p (y ∷ xs) x =
    let e : n + 1 + length xs ≡ n + suc (length xs) = omega arith in
    let rest = numbers_from-push (n + 1) p xs x ∙ ap (λ k. numbers_from (n + 1) p xs ++ cond (p x) (k ∷ []) []) e in
    ap (λ ns. cond (p y) (n ∷ ns) ns) rest ∙ cond_push (p y) n (numbers_from (n + 1) p xs) (cond (p x) ((n + suc (length xs)) ∷ []) [])

-- the same for the next of a list, and for what is read off it
pub numbers_from-more : {X : Type 0} (p : X → Bool) (xs : List X) (i : ℕ) (d : X) → i < length xs → numbers_from 0 p (take (i + 1) xs) ≡ numbers_from 0 p (take i xs) ++ cond (p (get_or xs i d)) (i ∷ []) []
numbers_from-more p xs i d lt =
    let e : 0 + length (take i xs) ≡ i = omega (arith, length-take-le i xs (omega arith)) in
    ap (numbers_from 0 p) (take_more xs i d lt) ∙ numbers_from-push 0 p (take i xs) (get_or xs i d) ∙ ap (λ k. numbers_from 0 p (take i xs) ++ cond (p (get_or xs i d)) (k ∷ []) []) e

pub numbers_from-map_more : {L X : Type 0} (g : L → X) (p : X → Bool) (ls : List L) (i : ℕ) (d : L) → i < length ls
    → numbers_from 0 p (map g (take (i + 1) ls)) ≡ numbers_from 0 p (map g (take i ls)) ++ cond (p (g (get_or ls i d))) (i ∷ []) []
numbers_from-map_more g p ls i d lt =
    let e : 0 + length (map g (take i ls)) ≡ i = omega (arith, length-map (take i ls) g, length-take-le i ls (omega arith)) in
    ap (numbers_from 0 p) (map_more g ls i d lt) ∙ numbers_from-push 0 p (map g (take i ls)) (g (get_or ls i d)) ∙ ap (λ k. numbers_from 0 p (map g (take i ls)) ++ cond (p (g (get_or ls i d))) (k ∷ []) []) e

-- the first that passes is the first of the numbers
pub first_number : (p : ℕ → Bool) (xs : List ℕ) (n f : ℕ) → f < length xs → p (get_or xs f 0) ≡ true → ((a : ℕ) → a < f → p (get_or xs a 0) ≡ false)
    → (0 < length (numbers_from n p xs)) × (slice_index (numbers_from n p xs) 0 ≡ n + f)
first_number p [] n f lt h before = absurd (omega arith)
first_number p (x ∷ xs) n zero lt h before =
    let e : numbers_from n p (x ∷ xs) ≡ n ∷ numbers_from (n + 1) p xs = ap (λ b. cond b (n ∷ numbers_from (n + 1) p xs) (numbers_from (n + 1) p xs)) h in
    let at : n ≡ n + 0 = omega arith in
    (omega (arith, ap (length {A = ℕ}) e), ap (λ ns. slice_index ns 0) e ∙ at)
first_number p (x ∷ xs) n (suc f) lt h before =
    let e : numbers_from n p (x ∷ xs) ≡ numbers_from (n + 1) p xs = ap (λ b. cond b (n ∷ numbers_from (n + 1) p xs) (numbers_from (n + 1) p xs)) (before 0 (omega arith)) in
    let r = first_number p xs (n + 1) f (omega arith) h (λ a below. before (suc a) (omega arith)) in
    let at : n + 1 + f ≡ n + suc f = omega arith in
    (omega (arith, r.0, ap (length {A = ℕ}) e), ap (λ ns. slice_index ns 0) e ∙ r.1 ∙ at)

pub lanes_from-push : (homes : List ℕ) (n : ℕ) (ws : List Edge) (w : Edge) → lanes_from homes n (ws ++ w ∷ []) ≡ lanes_from homes n ws ++ lane_plan_of homes (n + length ws) w
lanes_from-push homes n [] w = let e : n ≡ n + 0 = omega arith in append-nil (lane_plan_of homes n w) ∙ ap (λ k. lane_plan_of homes k w) e
lanes_from-push homes n (v ∷ ws) w =
    let e : n + 1 + length ws ≡ n + suc (length ws) = omega arith in
    let rest = lanes_from-push homes (n + 1) ws w ∙ ap (λ k. lanes_from homes (n + 1) ws ++ lane_plan_of homes k w) e in
    ap (λ ls. lane_plan_of homes n v ++ ls) rest ∙ sym (append_assoc (lane_plan_of homes n v) (lanes_from homes (n + 1) ws) (lane_plan_of homes (n + suc (length ws)) w))

pub lanes_from-more : {L : Type 0} (g : L → Edge) (homes : List ℕ) (ls : List L) (i : ℕ) (d : L) → i < length ls
    → lanes_from homes 0 (map g (take (i + 1) ls)) ≡ lanes_from homes 0 (map g (take i ls)) ++ lane_plan_of homes i (g (get_or ls i d))
lanes_from-more g homes ls i d lt =
    let e : 0 + length (map g (take i ls)) ≡ i = omega (arith, length-map (take i ls) g, length-take-le i ls (omega arith)) in
    ap (lanes_from homes 0) (map_more g ls i d lt) ∙ lanes_from-push homes 0 (map g (take i ls)) (g (get_or ls i d)) ∙ ap (λ k. lanes_from homes 0 (map g (take i ls)) ++ lane_plan_of homes k (g (get_or ls i d))) e

-- the same as code fills its lists
pub nodes_more : (homes : List ℕ) (i d k : ℕ) (old new : List ℕ) → i < length homes → old ≡ island_nodes (take i homes) k → new ≡ old ++ cond (get_or homes i d == k) (i ∷ []) [] → new ≡ island_nodes (take (i + 1) homes) k
nodes_more homes i d k old new lt was is = is ∙ ap (λ ns. ns ++ cond (get_or homes i d == k) (i ∷ []) []) was ∙ sym (numbers_from-more (λ h. h == k) homes i d lt)

pub wires_more : (homes : List ℕ) (ls : List NumberedWire) (i : ℕ) (d : NumberedWire) (k : ℕ) (old new : List ℕ) → i < length ls → old ≡ island_wires homes (wires_of_links (take i ls)) k
    → new ≡ old ++ cond (is_wire_of homes k (wire_of_link (get_or ls i d))) (i ∷ []) [] → new ≡ island_wires homes (wires_of_links (take (i + 1) ls)) k
wires_more homes ls i d k old new lt was is =
    is ∙ ap (λ ns. ns ++ cond (is_wire_of homes k (wire_of_link (get_or ls i d))) (i ∷ []) []) was ∙ sym (numbers_from-map_more wire_of_link (is_wire_of homes k) ls i d lt)

pub all_lanes_more : (homes : List ℕ) (ls : List NumberedWire) (i : ℕ) (d : NumberedWire) (old new : List LanePlan) → i < length ls → old ≡ lanes_from homes 0 (wires_of_links (take i ls)) → new ≡ old ++ lane_plan_of homes i (wire_of_link (get_or ls i d))
    → new ≡ lanes_from homes 0 (wires_of_links (take (i + 1) ls))
all_lanes_more homes ls i d old new lt was is = is ∙ ap (λ lanes. lanes ++ lane_plan_of homes i (wire_of_link (get_or ls i d))) was ∙ sym (lanes_from-more wire_of_link homes ls i d lt)
