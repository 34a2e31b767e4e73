-- Labels over the wires so far: a wire makes the labels of its ends one.
use Rattle.std.proofs.Common.{◌≡◌, ℕ, ◌+◌, ◌<◌, true, false, cond, ◌==◌, List, [], ◌∷◌, ◌++◌, length, take, get_or, Some, refl, ap, sym, ◌∙◌, subst, ⊎_elim, inl, inr, arith}
use Rattle.std.specs.Prelude.{slice_get, slice_index}
use Rattle.std.proofs.lemmas.Bool.{cases_Bool, eqb-true, eq-eqb}
use Rattle.std.proofs.lemmas.List.{map_more, length-take, get_or-take}
use Rattle.stream_model.specs.Graph.{Graph, Edge}
use Rattle.stream_model.specs.Shape.{Joins, Walk, stay, along}
use Rattle.blue_names.specs.declared.links.NumberedWire.{NumberedWire}
use Rattle.blue_names.specs.Links.{AreInRange, wire_of_link, wires_of_links}
use Rattle.blue_names.proofs.OutRows.{slice_get-push_old, slice_get-push_new, slice_get-push_cases}
use Rattle.blue_check.specs.Forest.{wiring, Linked}
use Rattle.blue_check.specs.Classes.{IsRelabeled, AreMerged}
use Rattle.blue_check.proofs.VisitSteps.{wire_in_range}
use Rattle.blue_check.specs.Labels.{AreLabels}

-- a label that was made one with itself
pub AreMerged-same : (old : List ℕ) (a b : ℕ) → a ≡ b → AreMerged old old a b
AreMerged-same old a b e = record { either = inl (record { at = λ i lt. stays (slice_index old i) }) }
  where
    stays : (x : ℕ) → x ≡ cond (x == a) b x
    stays x = ⊎_elim (λ t. eqb-true x a t ∙ e ∙ sym (ap (λ c. cond c b x) t)) (λ f. sym (ap (λ c. cond c b x) f)) (cases_Bool (x == a))

-- two walks, one after another
walk_append : (g : Graph) (a b c : ℕ) (is js : List ℕ) → Walk g a b is → Walk g b c js → Walk g a c (is ++ js)
walk_append g a b c [] js stay q = q
walk_append g a b c (i ∷ is) js (along j p) q = along j (walk_append g _ b c is js p q)

linked_on : (ws : List Edge) (a b c : ℕ) → Linked ws a b → Linked ws b c → Linked ws a c
linked_on ws a b c l m = record { by = l.by ++ m.by; walk = walk_append (wiring ws) a b c l.by m.by l.walk m.walk }

-- linked nodes have one label
walked_alike : (ws : List Edge) (label : ℕ → ℕ) → ((i : ℕ) (w : Edge) → slice_get ws i ≡ Some w → label w.from ≡ label w.to) → (a b : ℕ) (is : List ℕ) → Walk (wiring ws) a b is → label a ≡ label b
walked_alike ws label alike a b [] stay = refl
walked_alike ws label alike a b (i ∷ is) (along {b = m} j p) =
    let h = alike i j.wire j.at in
    let here : label a ≡ label m = ⊎_elim (λ e. sym (ap label e.0) ∙ h ∙ ap label e.1) (λ e. sym (ap label e.0) ∙ sym h ∙ ap label e.1) j.ends in
    here ∙ walked_alike ws label alike m b is p

pub linked_alike : (ws : List Edge) (count : ℕ) (labels : List ℕ) (a b : ℕ) → AreLabels ws count labels → Linked ws a b → slice_index labels a ≡ slice_index labels b
linked_alike ws count labels a b is l = walked_alike ws (slice_index labels) is.alike a b l.by l.walk

module _ (ws : List Edge) (w : Edge) where
  walk_old : (a b : ℕ) (is : List ℕ) → Walk (wiring ws) a b is → Walk (wiring (ws ++ w ∷ [])) a b is
  walk_old a b [] stay = stay
  walk_old a b (i ∷ is) (along {b = m} j p) =
      let k : Joins (wiring (ws ++ w ∷ [])) i a m = record { wire = j.wire; at = slice_get-push_old ws w j.wire i j.at; ends = j.ends } in
      along k (walk_old m b is p)

  linked_old : (a b : ℕ) → Linked ws a b → Linked (ws ++ w ∷ []) a b
  linked_old a b l = record { by = l.by; walk = walk_old a b l.by l.walk }

  forth : Linked (ws ++ w ∷ []) w.from w.to
  forth = record { by = length ws ∷ []; walk = along (record { wire = w; at = slice_get-push_new ws w; ends = inl (refl, refl) }) stay }

  back : Linked (ws ++ w ∷ []) w.to w.from
  back = record { by = length ws ∷ []; walk = along (record { wire = w; at = slice_get-push_new ws w; ends = inr (refl, refl) }) stay }

  module _ (count : ℕ) (old new : List ℕ) (is : AreLabels ws count old) (long : length new ≡ length old)
      (range : (i : ℕ) (v : Edge) → slice_get ws i ≡ Some v → (v.from < count) × (v.to < count)) where
    -- the nodes with the label f of x have got the label t of y; the new wire joins x and y
    module _ (x y f t : ℕ) (lx : x < count) (ly : y < count) (is_f : f ≡ slice_index old x) (is_t : t ≡ slice_index old y)
        (xy : Linked (ws ++ w ∷ []) x y) (yx : Linked (ws ++ w ∷ []) y x) (ends : slice_index new x ≡ slice_index new y → slice_index new w.from ≡ slice_index new w.to) (r : IsRelabeled old new f t) where
      at : (n : ℕ) → n < count → slice_index new n ≡ cond (slice_index old n == f) t (slice_index old n)
      at n lt = r.at n (omega (arith, lt, is.each))

      yes : (n : ℕ) → n < count → (slice_index old n == f) ≡ true → slice_index new n ≡ t
      yes n lt e = at n lt ∙ ap (λ b. cond b t (slice_index old n)) e

      no : (n : ℕ) → n < count → (slice_index old n == f) ≡ false → slice_index new n ≡ slice_index old n
      no n lt e = at n lt ∙ ap (λ b. cond b t (slice_index old n)) e

      before : (a b : ℕ) → a < count → b < count → slice_index old a ≡ slice_index old b → Linked (ws ++ w ∷ []) a b
      before a b la lb e = linked_old a b (is.linked a b la lb e)

      linked_more : (a b : ℕ) → a < count → b < count → slice_index new a ≡ slice_index new b → Linked (ws ++ w ∷ []) a b
      linked_more a b la lb e =
          ⊎_elim
          (λ (ta : (slice_index old a == f) ≡ true).
          let ea : slice_index old a ≡ f = eqb-true (slice_index old a) f ta in
          ⊎_elim
          (λ (tb : (slice_index old b == f) ≡ true). before a b la lb (ea ∙ sym (eqb-true (slice_index old b) f tb)))
          (λ (fb : (slice_index old b == f) ≡ false).
          let eb : slice_index old y ≡ slice_index old b = sym is_t ∙ sym (yes a la ta) ∙ e ∙ no b lb fb in
          linked_on (ws ++ w ∷ []) a x b (before a x la lx (ea ∙ is_f)) (linked_on (ws ++ w ∷ []) x y b xy (before y b ly lb eb)))
          (cases_Bool (slice_index old b == f)))
          (λ (fa : (slice_index old a == f) ≡ false).
          ⊎_elim
          (λ (tb : (slice_index old b == f) ≡ true).
          let ea : slice_index old a ≡ slice_index old y = sym (no a la fa) ∙ e ∙ yes b lb tb ∙ is_t in
          let eb : slice_index old x ≡ slice_index old b = sym is_f ∙ sym (eqb-true (slice_index old b) f tb) in
          linked_on (ws ++ w ∷ []) a y b (before a y la ly ea) (linked_on (ws ++ w ∷ []) y x b yx (before x b lx lb eb)))
          (λ (fb : (slice_index old b == f) ≡ false). before a b la lb (sym (no a la fa) ∙ e ∙ no b lb fb))
          (cases_Bool (slice_index old b == f)))
          (cases_Bool (slice_index old a == f))

      alike_old : (i : ℕ) (v : Edge) → slice_get ws i ≡ Some v → slice_index new v.from ≡ slice_index new v.to
      alike_old i v h = let lt = range i v h in at v.from lt.0 ∙ ap (λ l. cond (l == f) t l) (is.alike i v h) ∙ sym (at v.to lt.1)

      alike_new : slice_index new w.from ≡ slice_index new w.to
      alike_new =
          let ex : slice_index new x ≡ t = yes x lx (eq-eqb (slice_index old x) f (sym is_f)) in
          let ey : slice_index new y ≡ t = ⊎_elim (λ e. yes y ly e) (λ e. no y ly e ∙ sym is_t) (cases_Bool (slice_index old y == f)) in
          ends (ex ∙ sym ey)

      below_more : (a : ℕ) → a < count → slice_index new a < count
      below_more a lt =
          let target : t < count = omega (arith, is_t, is.below y ly) in
          ⊎_elim (λ e. omega (arith, target, yes a lt e)) (λ e. omega (arith, no a lt e, is.below a lt)) (cases_Bool (slice_index old a == f))

      AreLabels-relabeled : AreLabels (ws ++ w ∷ []) count new
      AreLabels-relabeled = record {
        each = long ∙ is.each;
        below = below_more;
        linked = linked_more;
        alike = λ i v h. ⊎_elim (alike_old i v) (λ e. subst (λ (u : Edge). slice_index new u.from ≡ slice_index new u.to) (sym e.1) alike_new) (slice_get-push_cases ws w v i h);
      }

    pub AreLabels-push : (f t : ℕ) → w.from < count → w.to < count → f ≡ slice_index old w.from → t ≡ slice_index old w.to → AreMerged old new f t → AreLabels (ws ++ w ∷ []) count new
    AreLabels-push f t lf lt is_f is_t joined =
        ⊎_elim
        (λ (r : IsRelabeled old new f t). AreLabels-relabeled w.from w.to f t lf lt is_f is_t forth back (λ e. e) r)
        (λ (r : IsRelabeled old new t f). AreLabels-relabeled w.to w.from t f lt lf is_t is_f back forth sym r)
        joined.either

-- at first each node has its own label
pub AreLabels-own : (labels : List ℕ) (count : ℕ) → length labels ≡ count → ((a : ℕ) → a < count → slice_index labels a ≡ a) → AreLabels [] count labels
AreLabels-own labels count long own = record {
  each = long;
  below = λ a lt. omega (arith, own a lt, lt);
  linked = λ a b la lb e. let same : a ≡ b = sym (own a la) ∙ e ∙ own b lb in record { by = []; walk = subst (λ x. Walk (wiring []) a x []) same stay };
  alike = λ i w at. cc;
}

-- the first links are in range where all are
in_range_front : (count : ℕ) (ls : List NumberedWire) (n : ℕ) → AreInRange count ls → AreInRange count (take n ls)
in_range_front count ls n r = λ k d lt.
    let short : k < n = omega (arith, lt, length-take n ls) in
    let long : k < length ls = omega (arith, lt, length-take n ls) in
    subst (λ (l : NumberedWire). (l.from < count) × (l.to < count)) (sym (get_or-take n ls k d short)) (r k d long)

-- the same for the next link of a list, as code reads it
pub AreLabels-more : (ls : List NumberedWire) (i : ℕ) (d : NumberedWire) (count : ℕ) (old new first second : List ℕ) (from to : ℕ) → i < length ls → AreInRange count ls → first ≡ old → second ≡ old
    → from ≡ slice_index first (get_or ls i d).from → to ≡ slice_index second (get_or ls i d).to → length new ≡ length old → AreLabels (wires_of_links (take i ls)) count old → AreMerged old new from to
    → AreLabels (wires_of_links (take (i + 1) ls)) count new
AreLabels-more ls i d count old new first second from to lt range one two is_from is_to long is joined =
    let l = get_or ls i d in
    let ends = range i d lt in
    subst (λ ws. AreLabels ws count new) (sym (map_more wire_of_link ls i d lt))
    (AreLabels-push (wires_of_links (take i ls)) (wire_of_link l) count old new is long (λ j v at. wire_in_range count (take i ls) j v (in_range_front count ls i range) at) from to ends.0 ends.1
    (is_from ∙ ap (λ xs. slice_index xs l.from) one) (is_to ∙ ap (λ xs. slice_index xs l.to) two) joined)
