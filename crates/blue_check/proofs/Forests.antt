-- Walks that ignore directions, over the wires so far: labels tell which nodes they link.
use Rattle.std.proofs.Common.{◌≡◌, ℕ, ◌<◌, true, false, cond, ◌==◌, List, [], ◌∷◌, ◌++◌, length, Some, None, refl, ap, sym, ◌∙◌, subst, ⊎_elim, inl, inr, arith}
use Rattle.std.specs.Prelude.{slice_get, ◌⊎◌}
use Rattle.std.proofs.lemmas.Bool.{cases_eq, cases_Bool, eqb-true, eq-eqb, ne_eqb}
use Rattle.std.proofs.lemmas.Option.{slice_get_within}
use Rattle.stream_model.specs.Graph.{Graph, Edge}
use Rattle.stream_model.specs.Shape.{Joins, Walk, stay, along, IsNoneOf, AreDistinct, IsPolytree}
use Rattle.blue_names.proofs.OutRows.{slice_get-push_old, slice_get-push_new, slice_get-push_cases}
use Rattle.blue_check.specs.Forest.{wiring, Linked, Labels}

-- the ends of a wire, in either order
abbrev Ends : Edge → ℕ → ℕ → Type 0
Ends w a b = ((w.from ≡ a) × (w.to ≡ b)) ⊎ ((w.to ≡ a) × (w.from ≡ b))

-- two walks, one after another
walk_append : (g : Graph) (a b c : ℕ) (is js : List ℕ) → Walk g a b is → Walk g b c js → Walk g a c (is ++ js)
walk_append g a b c [] js stay q = q
walk_append g a b c (i ∷ is) js (along j p) q = along j (walk_append g _ b c is js p q)

module _ (g : Graph) where
  -- a walk that uses no wire twice
  record Short (a b : ℕ) : Type 0 where
    pub by : List ℕ
    pub walk : Walk g a b by
    pub distinct : AreDistinct by

  -- the rest of such a walk behind a wire
  record Behind (i b : ℕ) : Type 0 where
    pub from : ℕ
    pub to : ℕ
    pub joins : Joins g i from to
    pub by : List ℕ
    pub walk : Walk g to b by
    pub distinct : AreDistinct by
    pub new : IsNoneOf i by

  find_wire : (i a b : ℕ) (is : List ℕ) → Walk g a b is → AreDistinct is → IsNoneOf i is ⊎ Behind i b
  find_wire i a b [] stay d = inl tt
  find_wire i a b (k ∷ is) (along {b = m} j p) d =
      ⊎_elim
      (λ (e : k ≡ i). inr (record { from = a; to = m; joins = subst (λ x. Joins g x a m) e j; by = is; walk = p; distinct = d.1; new = subst (λ x. IsNoneOf x is) e d.0 }))
      (λ (ne : k ≡ i → ⊥). ⊎_elim (λ (n : IsNoneOf i is). inl ((λ e. ne (sym e)), n)) (λ (f : Behind i b). inr f) (find_wire i m b is p d.1))
      (cases_eq k i)

  -- a walk over a wire, where the rest uses that wire again
  over : (i a m b : ℕ) → Joins g i a m → Behind i b → Short a b
  over i a m b j f =
      let got : Some j.wire ≡ Some f.joins.wire = sym j.at ∙ f.joins.at in
      let same : j.wire ≡ f.joins.wire = cc in
      let ends : Ends f.joins.wire a m = subst (λ (w : Edge). Ends w a m) same j.ends in
      let first : f.to ≡ a → Short a b = λ e. record { by = f.by; walk = subst (λ x. Walk g x b f.by) e f.walk; distinct = f.distinct } in
      let second : f.to ≡ m → Short a b = λ e. record { by = i ∷ f.by; walk = along j (subst (λ x. Walk g x b f.by) e f.walk); distinct = (f.new, f.distinct) } in
      ⊎_elim
      (λ p. ⊎_elim (λ q. second (sym q.1 ∙ p.1)) (λ q. first (sym q.1 ∙ p.0)) f.joins.ends)
      (λ p. ⊎_elim (λ q. first (sym q.1 ∙ p.0)) (λ q. second (sym q.1 ∙ p.1)) f.joins.ends)
      ends

  -- each walk can be made such a one
  shorten : (a b : ℕ) (is : List ℕ) → Walk g a b is → Short a b
  shorten a b [] stay = record { by = []; walk = stay; distinct = tt }
  shorten a b (i ∷ is) (along j p) =
      let s = shorten _ b is p in
      ⊎_elim (λ (n : IsNoneOf i s.by). record { by = i ∷ s.by; walk = along j s.walk; distinct = (n, s.distinct) }) (λ (f : Behind i b). over i a _ b j f) (find_wire i _ b s.by s.walk s.distinct)

module _ (ws : List Edge) (w : Edge) where
  -- a wire of the list with one more
  joins_old : (i a b : ℕ) → Joins (wiring ws) i a b → Joins (wiring (ws ++ w ∷ [])) i a b
  joins_old i a b j = record { wire = j.wire; at = slice_get-push_old ws w j.wire i j.at; ends = j.ends }

  walk_old : (a b : ℕ) (is : List ℕ) → Walk (wiring ws) a b is → Walk (wiring (ws ++ w ∷ [])) a b is
  walk_old a b [] stay = stay
  walk_old a b (i ∷ is) (along j p) = along (joins_old i a _ j) (walk_old _ b is p)

  joins_cases : (i a b : ℕ) → Joins (wiring (ws ++ w ∷ [])) i a b → Joins (wiring ws) i a b ⊎ ((i ≡ length ws) × Ends w a b)
  joins_cases i a b j =
      ⊎_elim (λ at. inl (record { wire = j.wire; at = at; ends = j.ends })) (λ e. inr (e.0, subst (λ (u : Edge). Ends u a b) e.1 j.ends)) (slice_get-push_cases ws w j.wire i j.at)

  -- walks over the old wires do not use the new one
  new_in_old : (a b : ℕ) (is : List ℕ) → Walk (wiring ws) a b is → IsNoneOf (length ws) is
  new_in_old a b [] stay = tt
  new_in_old a b (i ∷ is) (along j p) =
      let lt : i < length ws = slice_get_within ws i j.wire j.at in
      ((λ (e : length ws ≡ i). absurd (omega arith)), new_in_old _ b is p)

  old_walk : (a b : ℕ) (is : List ℕ) → Walk (wiring (ws ++ w ∷ [])) a b is → IsNoneOf (length ws) is → Walk (wiring ws) a b is
  old_walk a b [] stay n = stay
  old_walk a b (i ∷ is) (along j p) n =
      ⊎_elim (λ o. along o (old_walk _ b is p n.1)) (λ e. absurd (n.0 (sym e.0))) (joins_cases i a _ j)

  module _ (count : ℕ) (label : ℕ → ℕ) (ls : Labels ws count label) where
    ends_alike : (v : Edge) (a b : ℕ) → Ends v a b → label v.from ≡ label v.to → label a ≡ label b
    ends_alike v a b e h = ⊎_elim (λ p. sym (ap label p.0) ∙ h ∙ ap label p.1) (λ p. sym (ap label p.0) ∙ sym h ∙ ap label p.1) e

    joined_alike : (i a b : ℕ) → Joins (wiring ws) i a b → label a ≡ label b
    joined_alike i a b j = ends_alike j.wire a b j.ends (ls.alike i j.wire j.at)

    walked_alike : (a b : ℕ) (is : List ℕ) → Walk (wiring ws) a b is → label a ≡ label b
    walked_alike a b [] stay = refl
    walked_alike a b (i ∷ is) (along j p) = joined_alike i a _ j ∙ walked_alike _ b is p

    -- a walk over the new wire, once
    record Crosses (a b : ℕ) : Type 0 where
      pub x : ℕ
      pub y : ℕ
      pub ends : Ends w x y
      pub before : label a ≡ label x
      pub after : label y ≡ label b

    crossing : (a b : ℕ) (is : List ℕ) → Walk (wiring (ws ++ w ∷ [])) a b is → AreDistinct is → Walk (wiring ws) a b is ⊎ Crosses a b
    crossing a b [] stay d = inl stay
    crossing a b (i ∷ is) (along j p) d =
        ⊎_elim
        (λ (o : Joins (wiring ws) i a _). ⊎_elim (λ q. inl (along o q)) (λ (c : Crosses _ b). inr (record { x = c.x; y = c.y; ends = c.ends; before = joined_alike i a _ o ∙ c.before; after = c.after })) (crossing _ b is p d.1))
        (λ e. inr (record { x = a; y = _; ends = e.1; before = refl; after = walked_alike _ b is (old_walk _ b is p (subst (λ x. IsNoneOf x is) e.0 d.0)) }))
        (joins_cases i a _ j)

    -- a new wire between nodes with one label closes a walk
    pub not_a_tree : w.from < count → w.to < count → label w.from ≡ label w.to → IsPolytree (wiring (ws ++ w ∷ [])) → ⊥
    not_a_tree from to same t =
        let l = ls.sound w.to w.from to from (sym same) in
        let s = shorten (wiring ws) w.to w.from l.by l.walk in
        let j : Joins (wiring (ws ++ w ∷ [])) (length ws) w.from w.to = record { wire = w; at = slice_get-push_new ws w; ends = inl (refl, refl) } in
        let e : (length ws ∷ s.by) ≡ [] = t.open_walks w.from (length ws ∷ s.by) (along j (walk_old w.to w.from s.by s.walk)) (new_in_old w.to w.from s.by s.walk, s.distinct) in
        cc

    module _ (from : w.from < count) (to : w.to < count) (apart : label w.from ≡ label w.to → ⊥) (label' : ℕ → ℕ)
        (relabeled : (a : ℕ) → a < count → label' a ≡ cond (label a == label w.to) (label w.from) (label a))
        (range : (i : ℕ) (v : Edge) → slice_get ws i ≡ Some v → (v.from < count) × (v.to < count)) where
      no_crossing : (a : ℕ) → Crosses a a → ⊥
      no_crossing a c =
          let e : label c.x ≡ label c.y = sym c.before ∙ sym c.after in
          ⊎_elim (λ p. apart (ap label p.0 ∙ e ∙ sym (ap label p.1))) (λ p. apart (ap label p.1 ∙ sym e ∙ sym (ap label p.0))) c.ends

      tree_more : IsPolytree (wiring (ws ++ w ∷ []))
      tree_more = record { open_walks = λ a is p d. ⊎_elim (λ q. ls.tree.open_walks a is q d) (λ c. absurd (no_crossing a c)) (crossing a a is p d) }

      yes : (a : ℕ) → a < count → (label a == label w.to) ≡ true → label' a ≡ label w.from
      yes a lt t = relabeled a lt ∙ ap (λ b. cond b (label w.from) (label a)) t

      no : (a : ℕ) → a < count → (label a == label w.to) ≡ false → label' a ≡ label a
      no a lt t = relabeled a lt ∙ ap (λ b. cond b (label w.from) (label a)) t

      linked_old : (a b : ℕ) → Linked ws a b → Linked (ws ++ w ∷ []) a b
      linked_old a b l = record { by = l.by; walk = walk_old a b l.by l.walk }

      linked_on : (a b c : ℕ) → Linked (ws ++ w ∷ []) a b → Linked (ws ++ w ∷ []) b c → Linked (ws ++ w ∷ []) a c
      linked_on a b c l m = record { by = l.by ++ m.by; walk = walk_append (wiring (ws ++ w ∷ [])) a b c l.by m.by l.walk m.walk }

      forth : Linked (ws ++ w ∷ []) w.from w.to
      forth = record { by = length ws ∷ []; walk = along (record { wire = w; at = slice_get-push_new ws w; ends = inl (refl, refl) }) stay }

      back : Linked (ws ++ w ∷ []) w.to w.from
      back = record { by = length ws ∷ []; walk = along (record { wire = w; at = slice_get-push_new ws w; ends = inr (refl, refl) }) stay }

      old_linked : (a b : ℕ) → a < count → b < count → label a ≡ label b → Linked (ws ++ w ∷ []) a b
      old_linked a b la lb e = linked_old a b (ls.sound a b la lb e)

      sound_more : (a b : ℕ) → a < count → b < count → label' a ≡ label' b → Linked (ws ++ w ∷ []) a b
      sound_more a b la lb e =
          ⊎_elim
          (λ (ta : (label a == label w.to) ≡ true).
          let ea : label a ≡ label w.to = eqb-true (label a) (label w.to) ta in
          ⊎_elim
          (λ (tb : (label b == label w.to) ≡ true). old_linked a b la lb (ea ∙ sym (eqb-true (label b) (label w.to) tb)))
          (λ (fb : (label b == label w.to) ≡ false).
          let eb : label w.from ≡ label b = sym (yes a la ta) ∙ e ∙ no b lb fb in
          linked_on a w.to b (old_linked a w.to la to ea) (linked_on w.to w.from b back (old_linked w.from b from lb eb)))
          (cases_Bool (label b == label w.to)))
          (λ (fa : (label a == label w.to) ≡ false).
          ⊎_elim
          (λ (tb : (label b == label w.to) ≡ true).
          let ea : label a ≡ label w.from = sym (no a la fa) ∙ e ∙ yes b lb tb in
          linked_on a w.from b (old_linked a w.from la from ea) (linked_on w.from w.to b forth (old_linked w.to b to lb (sym (eqb-true (label b) (label w.to) tb)))))
          (λ (fb : (label b == label w.to) ≡ false). old_linked a b la lb (sym (no a la fa) ∙ e ∙ no b lb fb))
          (cases_Bool (label b == label w.to)))
          (cases_Bool (label a == label w.to))

      alike_old : (i : ℕ) (v : Edge) → slice_get ws i ≡ Some v → label' v.from ≡ label' v.to
      alike_old i v at =
          let r = range i v at in
          relabeled v.from r.0 ∙ ap (λ l. cond (l == label w.to) (label w.from) l) (ls.alike i v at) ∙ sym (relabeled v.to r.1)

      alike_new : label' w.from ≡ label' w.to
      alike_new = no w.from from (ne_eqb (label w.from) (label w.to) apart) ∙ sym (yes w.to to (eq-eqb (label w.to) (label w.to) refl))

      -- with one more wire, whose ends had two labels
      pub Labels-more : Labels (ws ++ w ∷ []) count label'
      Labels-more = record {
        sound = sound_more;
        alike = λ i v at. ⊎_elim (alike_old i v) (λ e. subst (λ (u : Edge). label' u.from ≡ label' u.to) (sym e.1) alike_new) (slice_get-push_cases ws w v i at);
        tree = tree_more;
      }

-- at first each node has its own label
pub Labels-none : (count : ℕ) (label : ℕ → ℕ) → ((a : ℕ) → a < count → label a ≡ a) → Labels [] count label
Labels-none count label own = record {
  sound = λ a b la lb e. let same : a ≡ b = sym (own a la) ∙ e ∙ own b lb in record { by = []; walk = subst (λ x. Walk (wiring []) a x []) same stay };
  alike = λ i w at. cc;
  tree = record { open_walks = λ a is p d. nothing a a is p };
}
  where
    nothing : (a b : ℕ) (is : List ℕ) → Walk (wiring []) a b is → is ≡ []
    nothing a b [] stay = refl
    nothing a b (i ∷ is) (along j p) = let none : None ≡ Some j.wire = j.at in cc

-- labels that are alike just where others are
pub Labels-alike : (ws : List Edge) (count : ℕ) (label label' : ℕ → ℕ) → ((i : ℕ) (w : Edge) → slice_get ws i ≡ Some w → (w.from < count) × (w.to < count))
    → ((a b : ℕ) → a < count → b < count → label' a ≡ label' b → label a ≡ label b) → ((a b : ℕ) → a < count → b < count → label a ≡ label b → label' a ≡ label' b) → Labels ws count label → Labels ws count label'
Labels-alike ws count label label' range forth back ls = record {
  sound = λ a b la lb e. ls.sound a b la lb (forth a b la lb e);
  alike = λ i w at. let r = range i w at in back w.from w.to r.0 r.1 (ls.alike i w at);
  tree = ls.tree;
}

-- one of two labels for both, and the other for both
other_label : (f t x : ℕ) → cond (cond (x == f) t x == t) f (cond (x == f) t x) ≡ cond (x == t) f x
other_label f t x = ⊎_elim
    (λ (e : x ≡ f).
    let lhs : cond (x == f) t x ≡ t = ap (λ b. cond b t x) (eq-eqb x f e) in
    ap (λ z. cond (z == t) f z) lhs ∙ ap (λ b. cond b f t) (eq-eqb t t refl) ∙ sym (⊎_elim (λ h. ap (λ b. cond b f x) h) (λ h. ap (λ b. cond b f x) h ∙ e) (cases_Bool (x == t))))
    (λ (ne : x ≡ f → ⊥). ap (λ b. cond (cond b t x == t) f (cond b t x)) (ne_eqb x f ne))
    (cases_eq x f)

pub other_alike : (f t x y : ℕ) → cond (x == f) t x ≡ cond (y == f) t y → cond (x == t) f x ≡ cond (y == t) f y
other_alike f t x y e = sym (other_label f t x) ∙ ap (λ z. cond (z == t) f z) e ∙ other_label f t y
