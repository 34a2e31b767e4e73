-- Labels over the links of a list.
use Rattle.std.proofs.Common.{◌≡◌, ℕ, zero, suc, ◌+◌, ◌<◌, true, false, cond, ◌==◌, ◌||◌, List, [], ◌∷◌, ◌++◌, length, take, get_or, Some, refl, ap, sym, ◌∙◌, subst, ⊎_elim, arith}
use Rattle.std.specs.Prelude.{slice_get, slice_index}
use Rattle.std.proofs.lemmas.Bool.{cases_Bool, eqb-true}
use Rattle.std.proofs.lemmas.List.{map_more, get_or-take, length-take}
use Rattle.stream_model.specs.Graph.{Edge}
use Rattle.stream_model.specs.Shape.{Joins, Walk, stay, along, IsPolytree}
use Rattle.blue_names.specs.declared.links.NumberedWire.{NumberedWire}
use Rattle.blue_names.specs.Links.{AreInRange, wire_of_link, wires_of_links}
use Rattle.blue_check.specs.Forest.{wiring, Labels}
use Rattle.blue_names.specs.Members.{is_in}
use Rattle.blue_check.specs.Classes.{IsRelabeled, AreMerged, AreListed}
use Rattle.blue_check.proofs.Joining.{row_in_range}
use Rattle.std.specs.declared.vec.Vec.{Vec}
use Rattle.std.specs.declared.alloc.Global.{Global}
use Rattle.blue_names.specs.Outs.{row_at}
use Rattle.blue_check.proofs.Forests.{Labels-more, Labels-alike, other_alike, not_a_tree}
use Rattle.blue_check.proofs.VisitSteps.{wire_in_range}

-- the first links are in range where all are
AreInRange-take : (count : ℕ) (ls : List NumberedWire) (n : ℕ) → AreInRange count ls → AreInRange count (take n ls)
AreInRange-take count ls n r = λ k d lt.
    let short : k < n = omega (arith, lt, length-take n ls) in
    let long : k < length ls = omega (arith, lt, length-take n ls) in
    subst (λ (l : NumberedWire). (l.from < count) × (l.to < count)) (sym (get_or-take n ls k d short)) (r k d long)

-- walks over the first wires are walks over all
walk_up : (front whole : List Edge) → ((i : ℕ) (w : Edge) → slice_get front i ≡ Some w → slice_get whole i ≡ Some w) → (a b : ℕ) (is : List ℕ) → Walk (wiring front) a b is → Walk (wiring whole) a b is
walk_up front whole up a b [] stay = stay
walk_up front whole up a b (i ∷ is) (along {b = m} j p) =
    let k : Joins (wiring whole) i a m = record { wire = j.wire; at = up i j.wire j.at; ends = j.ends } in along k (walk_up front whole up m b is p)

tree_of_front : (front whole : List Edge) → ((i : ℕ) (w : Edge) → slice_get front i ≡ Some w → slice_get whole i ≡ Some w) → IsPolytree (wiring whole) → IsPolytree (wiring front)
tree_of_front front whole up t = record { open_walks = λ a is p d. t.open_walks a is (walk_up front whole up a a is p) d }

front_up : (ls : List NumberedWire) (n i : ℕ) (w : Edge) → slice_get (wires_of_links (take n ls)) i ≡ Some w → slice_get (wires_of_links ls) i ≡ Some w
front_up ls zero i w h = cc
front_up [] (suc n) i w h = h
front_up (l ∷ ls) (suc n) zero w h = h
front_up (l ∷ ls) (suc n) (suc i) w h = front_up ls n i w h

module _ (ls : List NumberedWire) (i : ℕ) (d : NumberedWire) (count : ℕ) (old : List ℕ) (first second : List ℕ) (from to : ℕ) (lt : i < length ls) (range : AreInRange count ls)
    (one : first ≡ old) (two : second ≡ old) (is_from : from ≡ slice_index first (get_or ls i d).from) (is_to : to ≡ slice_index second (get_or ls i d).to)
    (labels : Labels (wires_of_links (take i ls)) count (slice_index old)) where
  more : wires_of_links (take i ls) ++ wire_of_link (get_or ls i d) ∷ [] ≡ wires_of_links (take (i + 1) ls)
  more = sym (map_more wire_of_link ls i d lt)

  from_label : from ≡ slice_index old (get_or ls i d).from
  from_label = is_from ∙ ap (λ xs. slice_index xs (get_or ls i d).from) one

  to_label : to ≡ slice_index old (get_or ls i d).to
  to_label = is_to ∙ ap (λ xs. slice_index xs (get_or ls i d).to) two

  in_range : ((get_or ls i d).from < count) × ((get_or ls i d).to < count)
  in_range = range i d lt

  -- equal labels close a walk
  pub Labels-cycle : from ≡ to → IsPolytree (wiring (wires_of_links ls)) → ⊥
  Labels-cycle e t =
      let front : IsPolytree (wiring (wires_of_links (take (i + 1) ls))) = tree_of_front (wires_of_links (take (i + 1) ls)) (wires_of_links ls) (front_up ls (i + 1)) t in
      let here : IsPolytree (wiring (wires_of_links (take i ls) ++ wire_of_link (get_or ls i d) ∷ [])) = subst (λ ws. IsPolytree (wiring ws)) (sym more) front in
      not_a_tree (wires_of_links (take i ls)) (wire_of_link (get_or ls i d)) count (slice_index old) labels in_range.0 in_range.1 (sym from_label ∙ e ∙ to_label) here

  -- all labels as one of the two, by what the old ones are
  by_old : (new : List ℕ) (a b : ℕ) (f t : ℕ) → length old ≡ count → a ≡ f → b ≡ t → IsRelabeled old new a b → (n : ℕ) → n < count → slice_index new n ≡ cond (slice_index old n == f) t (slice_index old n)
  by_old new a b f t long ea eb r n ln =
      let l : n < length old = omega (arith, ln, long) in
      r.at n l ∙ ap (λ x. cond (slice_index old n == x) b (slice_index old n)) ea ∙ ap (λ x. cond (slice_index old n == f) x (slice_index old n)) eb

  -- other labels become one
  pub Labels-step : (new : List ℕ) → length old ≡ count → (from ≡ to → ⊥) → AreMerged old new from to → Labels (wires_of_links (take (i + 1) ls)) count (slice_index new)
  Labels-step new long apart joined =
      let w = wire_of_link (get_or ls i d) in
      let ws = wires_of_links (take i ls) in
      let f = slice_index old w.from in
      let t = slice_index old w.to in
      let mixed : ℕ → ℕ = λ n. cond (slice_index old n == t) f (slice_index old n) in
      let one_way : (label' : ℕ → ℕ) → ((n : ℕ) → n < count → label' n ≡ mixed n) → Labels (wires_of_links (take (i + 1) ls)) count label' = λ label' same.
      subst (λ us. Labels us count label') more
      (Labels-more ws w count (slice_index old) labels in_range.0 in_range.1 (λ e. apart (from_label ∙ e ∙ sym to_label)) label' same (λ j v at. wire_in_range count (take i ls) j v (AreInRange-take count ls i range) at)) in
      ⊎_elim
      (λ (r : IsRelabeled old new from to).
      let is = by_old new from to f t long from_label to_label r in
      Labels-alike (wires_of_links (take (i + 1) ls)) count mixed (slice_index new) (λ j v at. wire_in_range count (take (i + 1) ls) j v (AreInRange-take count ls (i + 1) range) at)
      (λ a b la lb e. other_alike f t (slice_index old a) (slice_index old b) (sym (is a la) ∙ e ∙ is b lb))
      (λ a b la lb e. is a la ∙ other_alike t f (slice_index old a) (slice_index old b) e ∙ sym (is b lb))
      (one_way mixed (λ n ln. refl)))
      (λ (r : IsRelabeled old new to from). one_way (slice_index new) (by_old new to from t f long to_label from_label r))
      joined.either

-- the label of a node has a list
pub label_in_range : (old seen : List ℕ) (rows : List (Vec ℕ Global)) (node count label : ℕ) → node < count → length old ≡ count → seen ≡ old → label ≡ slice_index seen node → AreListed old rows → label < length rows
label_in_range old seen rows node count label lt long same is l =
    let e : label ≡ slice_index old node = is ∙ ap (λ xs. slice_index xs node) same in
    let below : node < length old = omega (arith, lt, long) in
    let here : ((label == node) || is_in node (row_at rows label)) ≡ true = ap (λ n. is_in node (n ∷ row_at rows n)) e ∙ l.listed node below in
    ⊎_elim
    (λ (t : (label == node) ≡ true). let own : label ≡ node = eqb-true label node t in omega (arith, own, below, l.many))
    (λ (f : (label == node) ≡ false). row_in_range rows node label (sym (ap (λ b. b || is_in node (row_at rows label)) f) ∙ here))
    (cases_Bool (label == node))
