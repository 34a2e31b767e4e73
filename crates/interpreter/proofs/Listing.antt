-- The lists of the connections at the ends of lanes.
use Rattle.std.proofs.Common.{◌≡◌, ◌≢◌, ◌⊎◌, inl, inr, ℕ, zero, suc, ◌+◌, ◌<◌, ◌≤◌, Bool, true, false, None, Some, List, [], ◌∷◌, ◌++◌, length, slice_get, refl, sym, ap, ◌∙◌, subst, arith}
use Rattle.std.proofs.lemmas.Bool.{ne_eqb, eq-eqb}
use Rattle.std.proofs.lemmas.List.{length-append}
use Rattle.std.proofs.lemmas.Option.{slice_get-get_or, slice_get_within}
use Rattle.std.specs.Prelude.{slice_index_or, if◌then◌else◌}
use Rattle.fused_net.proofs.Reading.{same_or_not}
use Rattle.interpreter.specs.declared.parts.Link.{Link}
use Rattle.interpreter.specs.declared.parts.Seated.{Seated}
use Rattle.interpreter.specs.declared.ways.LanePlace.{LanePlace}
use Rattle.interpreter.specs.LanePlaces.{listed_place, place_or_none, lane_place_of, HasEachOnce}
use Rattle.interpreter.specs.Ways.{IsOnce, ListsIns, ListsOuts, comes_in, goes_out}

-- ---- one list

lane_is : (x y : LanePlace) → Some x ≡ Some y → x ≡ y
lane_is x y e = cc

-- where the first lane is another wire, the rest is looked at
past_other : (x : LanePlace) (xs : List LanePlace) (u : ℕ) → x.wire ≢ u → listed_place (x ∷ xs) u ≡ listed_place xs u
past_other x xs u ne = rw (ne_eqb x.wire u ne) refl

at_first : (x : LanePlace) (xs : List LanePlace) (u : ℕ) → x.wire ≡ u → listed_place (x ∷ xs) u ≡ Some x.place
at_first x xs u e = rw (eq-eqb x.wire u e) refl

apart_rest : (x : LanePlace) (xs : List LanePlace) → HasEachOnce (x ∷ xs) → HasEachOnce xs
apart_rest x xs a i j y z ey ez same = let next : suc i ≡ suc j = a (suc i) (suc j) y z ey ez same in omega (arith, next)

pub none_twice : (xs : List LanePlace) → xs ≡ [] → HasEachOnce xs
none_twice xs e = rw e (λ i j x y h. absurd cc)

-- a lane of the list is found
pub listed_here : (xs : List LanePlace) (j : ℕ) (x : LanePlace) → HasEachOnce xs → slice_get xs j ≡ Some x → listed_place xs x.wire ≡ Some x.place
listed_here [] j x a e = absurd cc
listed_here (y ∷ ys) zero x a e = let same : y ≡ x = lane_is y x e in subst (λ (z : LanePlace). listed_place (y ∷ ys) z.wire ≡ Some z.place) same (at_first y ys y.wire refl)
listed_here (y ∷ ys) (suc j) x a e = past_other y ys x.wire (λ same. let none : zero ≡ suc j = a zero (suc j) y x refl e same in omega (arith, none)) ∙ listed_here ys j x (apart_rest y ys a) e

-- so its place is that of the wire
pub place_here : (xs : List LanePlace) (j u : ℕ) (x : LanePlace) → HasEachOnce xs → slice_get xs j ≡ Some x → x.wire ≡ u → x.place ≡ lane_place_of xs u
place_here xs j u x a e same = sym (ap place_or_none (ap (λ (v : ℕ). listed_place xs v) (sym same) ∙ listed_here xs j x a e))

pub place_got : (xs : List LanePlace) (n u : ℕ) (x : LanePlace) → n < length xs → x ≡ slice_index_or xs n x → HasEachOnce xs → x.wire ≡ u → x.place ≡ lane_place_of xs u
place_got xs n u x h g a same = place_here xs n u x a (slice_get-get_or xs n x h ∙ ap (λ (z : LanePlace). Some z) (sym g)) same

-- where no lane is a wire, none is found
none_listed : (xs : List LanePlace) (u : ℕ) → ((j : ℕ) (x : LanePlace) → slice_get xs j ≡ Some x → x.wire ≢ u) → listed_place xs u ≡ None
none_listed [] u other = refl
none_listed (y ∷ ys) u other = past_other y ys u (other zero y refl) ∙ none_listed ys u (λ j x e. other (suc j) x e)

pub place_none : (xs : List LanePlace) (u : ℕ) → ((j : ℕ) (x : LanePlace) → slice_get xs j ≡ Some x → x.wire ≢ u) → 0 ≡ lane_place_of xs u
place_none xs u other = sym (ap place_or_none (none_listed xs u other))

-- none of the first i lanes and not the next is a wire
pub other_next : (xs : List LanePlace) (u i : ℕ) (y : LanePlace) → slice_get xs i ≡ Some y → y.wire ≢ u → ((j : ℕ) (x : LanePlace) → j < i → slice_get xs j ≡ Some x → x.wire ≢ u) → (j : ℕ) (x : LanePlace) → j < i + 1 → slice_get xs j ≡ Some x → x.wire ≢ u
other_next xs u i y here other before j x below at = elim (same_or_not j i) [
  | inl same ↦ (let one : x ≡ y = lane_is x y (sym at ∙ (ap (λ (k : ℕ). slice_get xs k) same ∙ here)) in λ e. other (ap (λ (z : LanePlace). z.wire) (sym one) ∙ e))
  | inr apart ↦ before j x (omega (arith, below, apart)) at
]

-- ---- one lane more

-- what is found in a list is found in a longer one
more_listed : (xs : List LanePlace) (x : LanePlace) (u q : ℕ) → listed_place xs u ≡ Some q → listed_place (xs ++ x ∷ []) u ≡ Some q
more_listed [] x u q e = absurd cc
more_listed (y ∷ ys) x u q e = elim (same_or_not y.wire u) [
  | inl same ↦ at_first y (ys ++ x ∷ []) u same ∙ (sym (at_first y ys u same) ∙ e)
  | inr other ↦ past_other y (ys ++ x ∷ []) u other ∙ more_listed ys x u q (sym (past_other y ys u other) ∙ e)
]

-- a wire that was not found is found where the last lane is it
last_listed : (xs : List LanePlace) (x : LanePlace) → listed_place xs x.wire ≡ None → listed_place (xs ++ x ∷ []) x.wire ≡ Some x.place
last_listed [] x e = at_first x [] x.wire refl
last_listed (y ∷ ys) x e = elim (same_or_not y.wire x.wire) [
  | inl same ↦ (let found : Some y.place ≡ None = sym (at_first y ys x.wire same) ∙ e in absurd cc)
  | inr other ↦ past_other y (ys ++ x ∷ []) x.wire other ∙ last_listed ys x (sym (past_other y ys x.wire other) ∙ e)
]

pushed : (xs : List LanePlace) (x y : LanePlace) (j : ℕ) → slice_get (xs ++ x ∷ []) j ≡ Some y → (slice_get xs j ≡ Some y) ⊎ ((j ≡ length xs) × (x ≡ y))
pushed [] x y zero e = inr (refl, lane_is x y e)
pushed [] x y (suc j) e = inl e
pushed (z ∷ xs) x y zero e = inl e
pushed (z ∷ xs) x y (suc j) e = elim (pushed xs x y j e) [ inl h ↦ inl h | inr t ↦ inr (ap suc t.0, t.1) ]

-- ---- the lanes of links: `lane` says which links are at the end of one

module _ (lane : Link → Bool) (links : List Link) where
  -- a lane of the list is one of the first k links
  abbrev pub StandsFor : ℕ → LanePlace → Type 0
  StandsFor k x = (l : Link) × ((x.place < k) × ((slice_get links x.place ≡ Some l) × ((lane l ≡ true) × (l.wire ≡ x.wire))))

  -- the list has those of the first k links that are at the end of a lane, and none else
  pub record Lists (xs : List LanePlace) (k : ℕ) : Type 0 where
    pub few : length xs ≤ k
    pub listed : (q : ℕ) (l : Link) → q < k → slice_get links q ≡ Some l → lane l ≡ true → listed_place xs l.wire ≡ Some q
    pub stand : (j : ℕ) (x : LanePlace) → slice_get xs j ≡ Some x → StandsFor k x
    pub apart : HasEachOnce xs

  link_is : (x y : Link) → Some x ≡ Some y → x ≡ y
  link_is x y e = cc

  pub lists_none : (xs : List LanePlace) → xs ≡ [] → Lists xs 0
  lists_none xs e = rw e (record {
    few = omega arith;
    listed = λ q l h. absurd (omega (arith, h));
    stand = λ j x h. absurd cc;
    apart = λ i j x y h. absurd cc;
  })

  later : (k : ℕ) (x : LanePlace) → StandsFor k x → StandsFor (k + 1) x
  later k x s = let h = s.1.0 in (s.0, (omega (arith, h), s.1.1))

  -- a link that is at the end of no lane
  pub lists_past : (xs : List LanePlace) (k : ℕ) (m : Link) → slice_get links k ≡ Some m → lane m ≡ false → Lists xs k → Lists xs (k + 1)
  lists_past xs k m at no_lane s = record {
    few = (let h = s.few in omega (arith, h));
    listed = λ q l below there is. elim (same_or_not q k) [
      | inl same ↦ (let one : l ≡ m = link_is l m (sym there ∙ (ap (λ (i : ℕ). slice_get links i) same ∙ at)) in let both : true ≡ false = sym is ∙ (ap lane one ∙ no_lane) in absurd cc)
      | inr other ↦ s.listed q l (omega (arith, below, other)) there is
    ];
    stand = λ j x e. later k x (s.stand j x e);
    apart = s.apart;
  }

  -- a link that is at the end of one
  module _ (once : (p q : ℕ) (l m : Link) → slice_get links p ≡ Some l → slice_get links q ≡ Some m → lane l ≡ true → lane m ≡ true → l.wire ≡ m.wire → p ≡ q) (xs : List LanePlace) (k : ℕ) (m : Link) (at : slice_get links k ≡ Some m) (is_lane : lane m ≡ true) (s : Lists xs k) where
    abbrev next : LanePlace
    next = record { wire = m.wire; place = k }

    is_new : (j : ℕ) (x : LanePlace) → slice_get xs j ≡ Some x → x.wire ≢ m.wire
    is_new j x e same =
        let t = s.stand j x e in
        let here : x.place ≡ k = once x.place k t.0 m t.1.1.0 at t.1.1.1.0 is_lane (t.1.1.1.1 ∙ same) in
        let below : x.place < k = t.1.0 in
        omega (arith, here, below)

    pub lists_next : Lists (xs ++ record { wire = m.wire; place = k } ∷ []) (k + 1)
    lists_next = record {
      few = (let h = s.few in let n = length-append xs (next ∷ []) in omega (arith, h, n));
      listed = λ q l below there is. elim (same_or_not q k) [
        | inl same ↦ (let one : l ≡ m = link_is l m (sym there ∙ (ap (λ (i : ℕ). slice_get links i) same ∙ at)) in ap (λ (x : Link). listed_place (xs ++ next ∷ []) x.wire) one ∙ (last_listed xs next (none_listed xs m.wire is_new) ∙ ap (λ (i : ℕ). Some i) (sym same)))
        | inr other ↦ more_listed xs next l.wire q (s.listed q l (omega (arith, below, other)) there is)
      ];
      stand = λ j x e. elim (pushed xs next x j e) [
        | inl old ↦ later k x (s.stand j x old)
        | inr last ↦ subst (StandsFor (k + 1)) last.1 (m, (omega arith, (at, (is_lane, refl))))
      ];
      apart = λ i j x y ex ey same. elim (pushed xs next x i ex) [
        | inl old ↦ elim (pushed xs next y j ey) [
          | inl older ↦ s.apart i j x y old older same
          | inr last ↦ absurd (is_new i x old (same ∙ ap (λ (z : LanePlace). z.wire) (sym last.1)))
        ]
        | inr first ↦ elim (pushed xs next y j ey) [
          | inl older ↦ absurd (is_new j y older (sym same ∙ ap (λ (z : LanePlace). z.wire) (sym first.1)))
          | inr last ↦ first.0 ∙ sym last.0
        ]
      ];
    }

  -- one link more
  pub lists_step : ((p q : ℕ) (l m : Link) → slice_get links p ≡ Some l → slice_get links q ≡ Some m → lane l ≡ true → lane m ≡ true → l.wire ≡ m.wire → p ≡ q) → (xs ys : List LanePlace) (k : ℕ) (m : Link) (b : Bool) → slice_get links k ≡ Some m → b ≡ lane m
      → ys ≡ (if b then xs ++ record { wire = m.wire; place = k } ∷ [] else xs) → Lists xs k → Lists ys (k + 1)
  lists_step once xs ys k m true at is e s = rw e (lists_next once xs k m at (sym is) s)
  lists_step once xs ys k m false at is e s = rw e (lists_past xs k m at (sym is) s)

-- ---- both lists

module _ {S D L H B : Type 0} (places : List (Seated S D L H B)) (links : List Link) where
  -- of the first k links, those at which lanes come in are listed
  abbrev pub ListsInsTo : List LanePlace → ℕ → Type 0
  ListsInsTo xs k = Lists (λ (l : Link). comes_in places l.from) links xs k

  -- and those at which they go out
  abbrev pub ListsOutsTo : List LanePlace → ℕ → Type 0
  ListsOutsTo xs k = Lists (λ (l : Link). goes_out places l.to) links xs k

  pub ins_whole : (xs : List LanePlace) (k : ℕ) → k ≡ length links → ListsInsTo xs k → ListsIns places links xs
  ins_whole xs k e s = record { listed = λ q l at is. s.listed q l (let h = slice_get_within links q l at in omega (arith, e, h)) at is; apart = s.apart }

  pub outs_whole : (xs : List LanePlace) (k : ℕ) → k ≡ length links → ListsOutsTo xs k → ListsOuts places links xs
  outs_whole xs k e s = record { listed = λ q l at is. s.listed q l (let h = slice_get_within links q l at in omega (arith, e, h)) at is; apart = s.apart }
