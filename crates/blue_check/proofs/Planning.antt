-- What was found of nodes and wires makes a plan.
use Rattle.std.proofs.Common.{◌≡◌, ℕ, zero, suc, ◌<◌, ◌≤◌, Bool, true, false, cond, ◌==◌, List, [], ◌∷◌, length, get_or, Some, refl, ap, sym, ◌∙◌, subst, ⊎_elim, zero-add, arith}
use Rattle.std.specs.Prelude.{slice_get, slice_index, is_none}
use Rattle.std.specs.List.{filter, All}
use Rattle.std.proofs.lemmas.Bool.{cases_Bool, eq-eqb, ne_eqb}
use Rattle.std.proofs.lemmas.List.Elements.{All-from_get_or}
use Rattle.stream_model.specs.Graph.{Edge}
use Rattle.blue_check.specs.Forest.{Linked}
use Rattle.blue_check.proofs.VisitSteps.{wire_in_range}
use Rattle.blue_names.specs.declared.links.NumberedWire.{NumberedWire}
use Rattle.blue_names.specs.Links.{AreInRange, wire_of_link, wires_of_links}
use Rattle.blue_check.specs.declared.plan.IslandPlan.{IslandPlan}
use Rattle.blue_check.specs.Plan.{is_fused, AreHomes, island_nodes, nodes_at, AreInOrder}
use Rattle.blue_check.specs.Labels.{AreLabels}
use Rattle.blue_check.specs.Homes.{AreNumbered}
use Rattle.blue_check.proofs.Linking.{linked_alike}
use Rattle.blue_check.proofs.Numbers.{first_number}

-- the wires of the links without a lane
wires_fused : (ls : List NumberedWire) → wires_of_links (filter (λ (l : NumberedWire). is_none l.lane) ls) ≡ filter is_fused (wires_of_links ls)
wires_fused [] = refl
wires_fused (l ∷ ls) = kept (is_none l.lane) (filter (λ (m : NumberedWire). is_none m.lane) ls) ∙ ap (λ ws. cond (is_none l.lane) (wire_of_link l ∷ ws) ws) (wires_fused ls)
  where
    kept : (b : Bool) (ms : List NumberedWire) → wires_of_links (cond b (l ∷ ms) ms) ≡ cond b (wire_of_link l ∷ wires_of_links ms) (wires_of_links ms)
    kept true ms = refl
    kept false ms = refl

-- what passes a filter is in its list
kept_at : {X : Type 0} (p : X → Bool) (xs : List X) (i : ℕ) (x : X) → slice_get xs i ≡ Some x → p x ≡ true → (j : ℕ) × (slice_get (filter p xs) j ≡ Some x)
kept_at p [] i x h t = cc
kept_at p (y ∷ xs) zero x h t =
    let same : y ≡ x = cc in
    let passes : p y ≡ true = ap p same ∙ t in
    (0, ap (λ b. slice_get (cond b (y ∷ filter p xs) (filter p xs)) 0) passes ∙ h)
kept_at p (y ∷ xs) (suc i) x h t =
    let rest = kept_at p xs i x h t in
    ⊎_elim
    (λ (passes : p y ≡ true). (suc rest.0, ap (λ b. slice_get (cond b (y ∷ filter p xs) (filter p xs)) (suc rest.0)) passes ∙ rest.1))
    (λ (fails : p y ≡ false). (rest.0, ap (λ b. slice_get (cond b (y ∷ filter p xs) (filter p xs)) rest.0) fails ∙ rest.1))
    (cases_Bool (p y))

-- the numbers of labels are islands
pub AreHomes-numbered : (count : ℕ) (ls : List NumberedWire) (labels homes firsts : List ℕ) → AreLabels (wires_of_links (filter (λ (l : NumberedWire). is_none l.lane) ls)) count labels
    → AreNumbered labels homes firsts → length homes ≡ length labels → AreInRange count ls → AreHomes count (wires_of_links ls) homes
AreHomes-numbered count ls labels homes firsts is n long range = record {
  each = long ∙ is.each;
  linked = λ a b la lb e.
      let home_a = n.alike a (omega (arith, la, long, is.each)) in
      let home_b = n.alike b (omega (arith, lb, long, is.each)) in
      subst (λ ws. Linked ws a b) (wires_fused ls) (is.linked a b la lb (sym home_a ∙ ap (λ h. slice_index labels (slice_index firsts h)) e ∙ home_b));
  whole = λ a b la lb l.
      let ha : a < length homes = omega (arith, la, long, is.each) in
      let hb : b < length homes = omega (arith, lb, long, is.each) in
      let one = linked_alike (wires_of_links (filter (λ (m : NumberedWire). is_none m.lane) ls)) count labels a b is (subst (λ ws. Linked ws a b) (sym (wires_fused ls)) l) in
      n.apart (slice_index homes a) (slice_index homes b) (n.here a ha) (n.here b hb) (n.alike a ha ∙ one ∙ sym (n.alike b hb));
  inside = λ i w at fused.
      let ends = wire_in_range count ls i w range at in
      let hf : w.from < length homes = omega (arith, ends.0, long, is.each) in
      let ht : w.to < length homes = omega (arith, ends.1, long, is.each) in
      let kept = kept_at is_fused (wires_of_links ls) i w at fused in
      let one = is.alike kept.0 w (ap (λ ws. slice_get ws kept.0) (wires_fused ls) ∙ kept.1) in
      n.apart (slice_index homes w.from) (slice_index homes w.to) (n.here w.from hf) (n.here w.to ht) (n.alike w.from hf ∙ one ∙ sym (n.alike w.to ht));
}

-- the least node of island k is the first that it lists
first_of : (labels homes firsts : List ℕ) (k : ℕ) → AreNumbered labels homes firsts → k < length firsts → (0 < length (island_nodes homes k)) × (slice_index (island_nodes homes k) 0 ≡ slice_index firsts k)
first_of labels homes firsts k n lt =
    let f = n.first k lt in
    let none_before : (a : ℕ) → a < slice_index firsts k → (slice_index homes a == k) ≡ false = λ a below. ne_eqb (slice_index homes a) k (λ e.
    let not_less : slice_index firsts (slice_index homes a) ≤ a = n.least a (omega (arith, below, f.0)) in
    let is : slice_index firsts (slice_index homes a) ≡ slice_index firsts k = ap (slice_index firsts) e in
    omega (arith, not_less, is, below)) in
    let r = first_number (λ h. h == k) homes 0 (slice_index firsts k) f.0 (eq-eqb (slice_index homes (slice_index firsts k)) k f.1) none_before in
    (r.0, r.1 ∙ zero-add (slice_index firsts k))

pub AreInOrder-numbered : (labels homes firsts : List ℕ) (islands : List IslandPlan) → AreNumbered labels homes firsts → length islands ≡ length firsts → ((k : ℕ) → nodes_at islands k ≡ island_nodes homes k) → AreInOrder islands
AreInOrder-numbered labels homes firsts islands n long nodes = record {
  some = λ k lt. let f = first_of labels homes firsts k n (omega (arith, lt, long)) in subst (λ ns. 0 < length ns) (sym (nodes k)) f.0;
  rising = λ j k jk lt.
      let lk : k < length firsts = omega (arith, lt, long) in
      let lj : j < length firsts = omega (arith, jk, lk) in
      let at_j = ap (λ ns. slice_index ns 0) (nodes j) ∙ (first_of labels homes firsts j n lj).1 in
      let at_k = ap (λ ns. slice_index ns 0) (nodes k) ∙ (first_of labels homes firsts k n lk).1 in
      omega (arith, at_j, at_k, n.rising j k jk lk);
}

-- each label is one of as many numbers as there are labels, and each home one of the islands
pub labels_below : (ws : List Edge) (count : ℕ) (labels seen : List ℕ) → AreLabels ws count labels → seen ≡ labels → All (λ l. l < length seen) seen
labels_below ws count labels seen is e =
    subst (λ xs. All (λ l. l < length xs) xs) (sym e) (All-from_get_or (λ l. l < length labels) labels 0 (λ i lt. let below : get_or labels i 0 < count = is.below i (omega (arith, lt, is.each)) in omega (arith, below, is.each)))

pub homes_below : (labels homes firsts seen : List ℕ) (n : ℕ) → AreNumbered labels homes firsts → seen ≡ homes → n ≡ length firsts → All (λ h. h < n) seen
homes_below labels homes firsts seen n is e long =
    subst (λ xs. All (λ h. h < n) xs) (sym e) (All-from_get_or (λ h. h < n) homes 0 (λ i lt. let here : get_or homes i 0 < length firsts = is.here i lt in omega (arith, here, long)))
