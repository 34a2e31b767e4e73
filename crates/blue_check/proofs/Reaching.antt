-- Steps of a walk that marks nodes.
use Rattle.std.proofs.Common.{◌≡◌, ℕ, zero, suc, ◌+◌, ◌<◌, ◌≤◌, Bool, true, false, ◌==◌, ◌||◌, List, [], ◌∷◌, ◌++◌, length, set, take, get_or, replicate, Some, refl, ap, sym, ◌∙◌, subst, ⊎_elim, arith}
use Rattle.std.specs.Prelude.{slice_get, nat_eq}
use Rattle.std.specs.Cmp.{nat_eq_equiv}
use Rattle.std.specs.List.{list_any, IsDistinct}
use Rattle.std.proofs.lemmas.Bool.{cases_eq, eqb-true, eq-eqb, ne_eqb, or_cases}
use Rattle.std.proofs.lemmas.List.{take_more, take_all}
use Rattle.std.proofs.lemmas.Map.Keys.{IsDistinct-push}
use Rattle.std.proofs.lemmas.Map.Steps.{length-le_from_distinct_below}
use Rattle.stream_model.specs.Graph.{Edge}
use Rattle.blue_names.specs.Paths.{Path, Leads, stay, along}
use Rattle.blue_names.specs.Members.{is_in}
use Rattle.blue_check.specs.Marks.{Reaches, mark_at}

-- marks after one more is set
mark_at-set_same : (marks : List Bool) (i : ℕ) → i < length marks → mark_at (set marks i true) i ≡ true
mark_at-set_same [] i lt = absurd (omega arith)
mark_at-set_same (m ∷ ms) zero lt = refl
mark_at-set_same (m ∷ ms) (suc i) lt = mark_at-set_same ms i (omega arith)

mark_at-set_other : (marks : List Bool) (i j : ℕ) → (i ≡ j → ⊥) → mark_at (set marks i true) j ≡ mark_at marks j
mark_at-set_other [] i j ne = refl
mark_at-set_other (m ∷ ms) zero zero ne = absurd (ne refl)
mark_at-set_other (m ∷ ms) zero (suc j) ne = refl
mark_at-set_other (m ∷ ms) (suc i) zero ne = refl
mark_at-set_other (m ∷ ms) (suc i) (suc j) ne = mark_at-set_other ms i j (λ e. ne (ap suc e))

pub mark_at-none : (n i : ℕ) → mark_at (replicate n false) i ≡ false
mark_at-none zero i = refl
mark_at-none (suc n) zero = refl
mark_at-none (suc n) (suc i) = mark_at-none n i

pub mark_at-get_or : (marks : List Bool) (i : ℕ) (d : Bool) → i < length marks → mark_at marks i ≡ get_or marks i d
mark_at-get_or [] i d lt = absurd (omega arith)
mark_at-get_or (m ∷ ms) zero d lt = refl
mark_at-get_or (m ∷ ms) (suc i) d lt = mark_at-get_or ms i d (omega arith)

pub is_in-push : (i n : ℕ) (ns : List ℕ) → is_in i (ns ++ n ∷ []) ≡ (is_in i ns || (n == i))
is_in-push i n [] = grind arith
is_in-push i n (k ∷ ns) = grind (arith, is_in-push i n ns)

pub or_true : (b : Bool) → (b || true) ≡ true
or_true true = refl
or_true false = refl

or_false : (b : Bool) → (b || false) ≡ b
or_false true = refl
or_false false = refl

eqb-sym : (a b : ℕ) → (a == b) ≡ (b == a)
eqb-sym a b = ⊎_elim (λ e. eq-eqb a b e ∙ sym (eq-eqb b a (sym e))) (λ ne. ne_eqb a b ne ∙ sym (ne_eqb b a (λ e. ne (sym e)))) (cases_eq a b)

is_in-turned : (i : ℕ) (ns : List ℕ) → list_any (nat_eq i) ns ≡ is_in i ns
is_in-turned i [] = refl
is_in-turned i (n ∷ ns) = ap (λ b. b || list_any (nat_eq i) ns) (eqb-sym i n) ∙ ap (λ b. (n == i) || b) (is_in-turned i ns)

pub is_in-kept : (i n : ℕ) (ns : List ℕ) → is_in i ns ≡ true → is_in i (ns ++ n ∷ []) ≡ true
is_in-kept i n ns h = is_in-push i n ns ∙ ap (λ b. b || (n == i)) h

pub is_in-last : (n : ℕ) (ns : List ℕ) → is_in n (ns ++ n ∷ []) ≡ true
is_in-last n ns = is_in-push n n ns ∙ ap (λ b. is_in n ns || b) (eq-eqb n n refl) ∙ or_true (is_in n ns)

pub is_in-at : (ns : List ℕ) (k d : ℕ) → k < length ns → is_in (get_or ns k d) ns ≡ true
is_in-at [] k d lt = absurd (omega arith)
is_in-at (n ∷ ns) zero d lt = ap (λ b. b || is_in n ns) (eq-eqb n n refl)
is_in-at (n ∷ ns) (suc k) d lt = ap (λ b. (n == get_or ns k d) || b) (is_in-at ns k d (omega arith)) ∙ or_true (n == get_or ns k d)

module _ (ws : List Edge) where
  -- a walk and one more wire
  pub path_on : (a b c : ℕ) → Path ws a b → Leads ws b c → Path ws a c
  path_on a b c stay l = along l stay
  path_on a b c (along f p) l = along f (path_on _ b c p l)

  pub path_append : (a b c : ℕ) → Path ws a b → Path ws b c → Path ws a c
  path_append a b c stay q = q
  path_append a b c (along f p) q = along f (path_append _ b c p q)

  module _ (start count : ℕ) (marks : List Bool) (order : List ℕ) (node : ℕ) where
    -- a node that was not marked is marked and put last
    pub Reaches-push : Path ws start node → node < count → node < length marks → mark_at marks node ≡ false → Reaches ws start count marks order
        → Reaches ws start count (set marks node true) (order ++ node ∷ [])
    Reaches-push path lt long free r =
        let out : is_in node order ≡ false = sym (r.marked node) ∙ free in
        record {
          marked = λ i. ⊎_elim
              (λ (e : node ≡ i). subst (λ k. mark_at (set marks node true) k ≡ is_in k (order ++ node ∷ [])) e (mark_at-set_same marks node long ∙ sym (is_in-last node order)))
              (λ (ne : node ≡ i → ⊥). mark_at-set_other marks node i ne ∙ r.marked i ∙ sym (is_in-push i node order ∙ ap (λ b. is_in i order || b) (ne_eqb node i ne) ∙ or_false (is_in i order)))
              (cases_eq node i);
          walked = λ i h. ⊎_elim (λ o. r.walked i o) (λ o. subst (Path ws start) (eqb-true node i o) path) (or_cases (is_in i order) (node == i) (sym (is_in-push i node order) ∙ h));
          below = λ i h. ⊎_elim (λ o. r.below i o) (λ o. subst (λ k. k < count) (eqb-true node i o) lt) (or_cases (is_in i order) (node == i) (sym (is_in-push i node order) ∙ h));
          distinct = IsDistinct-push nat_eq_equiv order node r.distinct (is_in-turned node order ∙ out);
          begins = is_in-kept start node order r.begins;
        }

    -- a marked node stands in the list
    pub Reaches-there : mark_at marks node ≡ true → Reaches ws start count marks order → is_in node order ≡ true
    Reaches-there h r = sym (r.marked node) ∙ h

    -- there are no more nodes than that
    pub Reaches-count : Reaches ws start count marks order → length order ≤ count
    Reaches-count r = length-le_from_distinct_below order count r.distinct (λ q h. r.below q (sym (is_in-turned q order) ∙ h))

  -- at first only the start is marked
  pub Reaches-first : (start count : ℕ) (marks : List Bool) → start < count → start < length marks → ((i : ℕ) → mark_at marks i ≡ false) → Reaches ws start count (set marks start true) (start ∷ [])
  unfolding IsDistinct
  Reaches-first start count marks lt long none = record {
    marked = λ i. ⊎_elim
        (λ (e : start ≡ i). subst (λ k. mark_at (set marks start true) k ≡ is_in k (start ∷ [])) e (mark_at-set_same marks start long ∙ sym (is_in-last start [])))
        (λ (ne : start ≡ i → ⊥). mark_at-set_other marks start i ne ∙ none i ∙ sym (ap (λ b. b || false) (ne_eqb start i ne)))
        (cases_eq start i);
    walked = λ i h. let e : start ≡ i = only i h in subst (Path ws start) e stay;
    below = λ i h. let e : start ≡ i = only i h in subst (λ k. k < count) e lt;
    distinct = IsDistinct-push nat_eq_equiv [] start tt refl;
    begins = is_in-last start [];
  }
    where
      only : (i : ℕ) → is_in i (start ∷ []) ≡ true → start ≡ i
      only i h = eqb-true start i (sym (or_false (start == i)) ∙ h)

  -- the wires out of the first k nodes lead to nodes of the list
  pub record IsClosed (order : List ℕ) (k : ℕ) : Type 0 where
    pub leads : (i : ℕ) (w : Edge) → slice_get ws i ≡ Some w → is_in w.from (take k order) ≡ true → is_in w.to order ≡ true

  pub IsClosed-none : (order : List ℕ) → IsClosed order 0
  IsClosed-none order = record { leads = λ i w at h. let e : false ≡ true = h in cc }

  pub IsClosed-more : (order later : List ℕ) (k : ℕ) (d : ℕ) → k < length order → take (k + 1) later ≡ take (k + 1) order → ((q : ℕ) → is_in q order ≡ true → is_in q later ≡ true)
      → ((i : ℕ) (w : Edge) → slice_get ws i ≡ Some w → w.from ≡ get_or order k d → is_in w.to later ≡ true) → IsClosed order k → IsClosed later (k + 1)
  IsClosed-more order later k d lt front kept here c = record {
    leads = λ i w at h.
        let t : take (k + 1) later ≡ take k order ++ get_or order k d ∷ [] = front ∙ take_more order k d lt in
        let e : (is_in w.from (take k order) || (get_or order k d == w.from)) ≡ true = sym (is_in-push w.from (get_or order k d) (take k order)) ∙ ap (is_in w.from) (sym t) ∙ h in
        ⊎_elim (λ o. kept w.to (c.leads i w at o)) (λ o. here i w at (sym (eqb-true (get_or order k d) w.from o))) (or_cases (is_in w.from (take k order)) (get_or order k d == w.from) e);
  }

  -- a list that no wire leaves has all that a walk from it reaches
  stays_in : (order : List ℕ) → ((i : ℕ) (w : Edge) → slice_get ws i ≡ Some w → is_in w.from order ≡ true → is_in w.to order ≡ true) → (a b : ℕ) → Path ws a b → is_in a order ≡ true → is_in b order ≡ true
  stays_in order leads a b stay h = h
  stays_in order leads a b (along f p) h =
      let from : is_in f.is.from order ≡ true = ap (λ k. is_in k order) f.from ∙ h in
      stays_in order leads _ b p (ap (λ k. is_in k order) (sym f.to) ∙ leads f.wire f.is f.at from)

  pub IsClosed-all : (start count : ℕ) (marks : List Bool) (order : List ℕ) (k : ℕ) → length order ≤ k → Reaches ws start count marks order → IsClosed order k → (i : ℕ) → Path ws start i → mark_at marks i ≡ true
  IsClosed-all start count marks order k le r c i p =
      let t : take k order ≡ order = take_all k order le in
      r.marked i ∙ stays_in order (λ j w at h. c.leads j w at (ap (is_in w.from) t ∙ h)) start i p r.begins
