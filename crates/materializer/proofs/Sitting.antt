-- The seats of the nodes that sit at a place.
use Rattle.std.proofs.Common.{◌≡◌, ◌≢◌, ℕ, zero, suc, ◌+◌, ◌<◌, ◌≤◌, Bool, true, false, List, [], ◌∷◌, ◌++◌, length, refl, sym, ap, ◌∙◌, subst, arith, Option, Some, None, ◌⊎◌, inl, inr, ⊎_elim, length-append, append-nil}
use Rattle.std.specs.Prelude.{slice_get, filter, if◌then◌else◌}
use Rattle.std.specs.List.{Contains}
use Rattle.std.proofs.lemmas.Bool.Decides.{Decides-eqb}
use Rattle.std.proofs.lemmas.List.Elements.{Contains-append_left, Contains-push, Contains-push_cases}
use Rattle.stage_switch.specs.Public.{SeatState}
use Rattle.materializer.specs.Board.{sits, count_at, numbered_from}
use Rattle.materializer.specs.Dealing.{AreRooted, own_seat, sits_in, seats_at}

abbrev pub tally_is : Bool → ℕ
tally_is b = if b then 1 else 0

count_if : (b : Bool) (x : Option ℕ) (xs : List (Option ℕ)) → length (if b then x ∷ xs else xs) ≡ length xs + tally_is b
count_if true x xs = omega arith
count_if false x xs = omega arith

pub count_first : (j : ℕ) (p : Option ℕ) (ps : List (Option ℕ)) → count_at j (p ∷ ps) ≡ count_at j ps + tally_is (sits j p)
count_first j p ps = count_if (sits j p) p (filter (sits j) ps)

own_length : (b : Bool) (xs : List SeatState) (s : SeatState) → length (xs ++ own_seat b s) ≡ length xs + tally_is b
own_length true xs s = length-append xs (s ∷ [])
own_length false xs s = length-append xs []

-- ---- who sits where

pub sits_there : (j : ℕ) (p : Option ℕ) → sits j p ≡ true → p ≡ Some j
sits_there j None h = cc
sits_there j (Some i) h = ap (λ x. Some x) ((Decides-eqb i j).0 h)

pub sits_own : (j : ℕ) → sits j (Some j) ≡ true
sits_own j = (Decides-eqb j j).1 refl

pub differs : (j i : ℕ) → i ≢ j → sits j (Some i) ≡ false
differs j i other = here (sits j (Some i)) refl
  where
    here : (b : Bool) → sits j (Some i) ≡ b → b ≡ false
    here true e = absurd (other ((Decides-eqb i j).0 e))
    here false e = refl

-- somebody sits there
pub some_sit : (j k : ℕ) (ps : List (Option ℕ)) (p : Option ℕ) → slice_get ps k ≡ Some p → sits j p ≡ true → 0 < count_at j ps
some_sit j k [] p at h = cc
some_sit j zero (q ∷ ps) p at h =
    let same : q ≡ p = cc in
    let one : tally_is (sits j q) ≡ 1 = ap tally_is (ap (sits j) same ∙ h) in
    omega (arith, count_first j q ps, one)
some_sit j (suc k) (q ∷ ps) p at h = let more = some_sit j k ps p at h in omega (arith, count_first j q ps, more)

-- nobody sits at a place where the node of that number does not
not_there : (j : ℕ) (p : Option ℕ) (b : Bool) → sits j p ≡ b → (p ≡ Some j → ⊥) → tally_is (sits j p) ≡ 0
not_there j p true e none = absurd (none (sits_there j p e))
not_there j p false e none = ap tally_is e

none_sit : (j : ℕ) (ps : List (Option ℕ)) → ((k : ℕ) → slice_get ps k ≡ Some (Some j) → ⊥) → count_at j ps ≡ 0
none_sit j [] none = refl
none_sit j (p ∷ ps) none =
    let rest = none_sit j ps (λ k. none (suc k)) in
    let here = not_there j p (sits j p) refl (λ e. none 0 (ap (λ q. Some q) e)) in
    omega (arith, count_first j p ps, rest, here)

pub nobody_sits : (j : ℕ) (places : List (Option ℕ)) (p : Option ℕ) → AreRooted places → slice_get places j ≡ Some p → sits j p ≡ false → count_at j places ≡ 0
nobody_sits j places p r at not_here = none_sit j places (λ k e.
    let same : Some p ≡ Some (Some j) = sym at ∙ r k j e in
    let is : p ≡ Some j = cc in
    let yes : sits j p ≡ true = ap (sits j) is ∙ sits_own j in
    cc)

module _ (j : ℕ) (whole : List (Option ℕ)) where
  -- these are the places from node k on
  abbrev pub IsRest : ℕ → List (Option ℕ) → Type 0
  IsRest k ps = (i : ℕ) → slice_get whole (k + i) ≡ slice_get ps i

  rest_next : (k : ℕ) (p : Option ℕ) (ps : List (Option ℕ)) → IsRest k (p ∷ ps) → IsRest (k + 1) ps
  rest_next k p ps h = λ i. let e : k + 1 + i ≡ k + suc i = omega arith in ap (slice_get whole) e ∙ h (suc i)

  rest_first : (k : ℕ) (p : Option ℕ) (ps : List (Option ℕ)) → IsRest k (p ∷ ps) → slice_get whole k ≡ Some p
  rest_first k p ps h = let e : k ≡ k + 0 = omega arith in ap (slice_get whole) e ∙ h 0

  -- each node that sits at the place has a seat
  abbrev pub HaveSeatsThere : List (Option ℕ) → List (Option SeatState) → Type 0
  HaveSeatsThere ps ss = (i : ℕ) (p : Option ℕ) (s : Option SeatState) → slice_get ps i ≡ Some p → slice_get ss i ≡ Some s → sits j p ≡ true → (t : SeatState) × (s ≡ Some t)

  none_here : (p : Option ℕ) (b : Bool) → sits j p ≡ b → (sits j p ≡ true → (t : SeatState) × (None ≡ Some t)) → tally_is (sits j p) ≡ 0
  none_here p true e h = let t = h e in let no = t.1 in cc
  none_here p false e h = ap tally_is e

  pub seats_count : (k : ℕ) (ps : List (Option ℕ)) (ss : List (Option SeatState)) → IsRest k ps → length ss ≡ length ps → HaveSeatsThere ps ss → length (seats_at j whole (numbered_from k ss)) ≡ count_at j ps
  seats_count k [] [] r l h = refl
  seats_count k [] (s ∷ ss) r l h = absurd (omega (arith, l))
  seats_count k (p ∷ ps) [] r l h = absurd (omega (arith, l))
  seats_count k (p ∷ ps) (None ∷ ss) r l h =
      let more = seats_count (k + 1) ps ss (rest_next k p ps r) (omega (arith, l)) (λ i. h (suc i)) in
      let none = none_here p (sits j p) refl (h 0 p None refl refl) in
      omega (arith, more, none, count_first j p ps)
  seats_count k (p ∷ ps) (Some s ∷ ss) r l h =
      let more = seats_count (k + 1) ps ss (rest_next k p ps r) (omega (arith, l)) (λ i. h (suc i)) in
      let here : tally_is (sits_in j (slice_get whole k)) ≡ tally_is (sits j p) = ap (λ o. tally_is (sits_in j o)) (rest_first k p ps r) in
      omega (arith, more, here, count_first j p ps, own_length (sits_in j (slice_get whole k)) (seats_at j whole (numbered_from (k + 1) ss)) s)

  -- the seat of each node that sits there is among them
  own_in : (b : Bool) (xs : List SeatState) (s : SeatState) → b ≡ true → Contains (xs ++ own_seat b s) s
  own_in true xs s e = Contains-push xs s
  own_in false xs s e = cc

  pub seats_in : (k : ℕ) (ps : List (Option ℕ)) (ss : List (Option SeatState)) → IsRest k ps → (i : ℕ) (p : Option ℕ) (s : SeatState) → slice_get ps i ≡ Some p → sits j p ≡ true → slice_get ss i ≡ Some (Some s) → Contains (seats_at j whole (numbered_from k ss)) s
  seats_in k [] ss r i p s at sit is = cc
  seats_in k (q ∷ ps) [] r i p s at sit is = cc
  seats_in k (q ∷ ps) (None ∷ ss) r zero p s at sit is = cc
  seats_in k (q ∷ ps) (None ∷ ss) r (suc i) p s at sit is = seats_in (k + 1) ps ss (rest_next k q ps r) i p s at sit is
  seats_in k (q ∷ ps) (Some t ∷ ss) r zero p s at sit is =
      let same : q ≡ p = cc in
      let seat : t ≡ s = cc in
      let here : sits_in j (slice_get whole k) ≡ true = ap (sits_in j) (rest_first k q ps r) ∙ ap (sits j) same ∙ sit in
      subst (λ x. Contains (seats_at j whole (numbered_from (k + 1) ss) ++ own_seat (sits_in j (slice_get whole k)) t) x) seat (own_in (sits_in j (slice_get whole k)) (seats_at j whole (numbered_from (k + 1) ss)) t here)
  seats_in k (q ∷ ps) (Some t ∷ ss) r (suc i) p s at sit is =
      Contains-append_left (seats_at j whole (numbered_from (k + 1) ss)) (own_seat (sits_in j (slice_get whole k)) t) s (seats_in (k + 1) ps ss (rest_next k q ps r) i p s at sit is)

  -- and only such
  pub record IsSeatThere (ps : List (Option ℕ)) (ss : List (Option SeatState)) (s : SeatState) : Type 0 where
    pub node : ℕ
    pub place : Option ℕ
    pub at : slice_get ps node ≡ Some place
    pub sit : sits j place ≡ true
    pub is : slice_get ss node ≡ Some (Some s)

  own_cases : (b : Bool) (xs : List SeatState) (t s : SeatState) → Contains (xs ++ own_seat b t) s → Contains xs s ⊎ ((b ≡ true) × (t ≡ s))
  own_cases true xs t s c = ⊎_elim (λ l. inl l) (λ e. inr (refl, e)) (Contains-push_cases xs t s c)
  own_cases false xs t s c = inl (subst (λ l. Contains l s) (append-nil xs) c)

  later : (q : Option ℕ) (o : Option SeatState) (ps : List (Option ℕ)) (ss : List (Option SeatState)) (s : SeatState) → IsSeatThere ps ss s → IsSeatThere (q ∷ ps) (o ∷ ss) s
  later q o ps ss s x = record { node = suc x.node; place = x.place; at = x.at; sit = x.sit; is = x.is }

  pub seats_only : (k : ℕ) (ps : List (Option ℕ)) (ss : List (Option SeatState)) → IsRest k ps → length ss ≡ length ps → (s : SeatState) → Contains (seats_at j whole (numbered_from k ss)) s → IsSeatThere ps ss s
  seats_only k ps [] r l s c = (let less = c.1 in absurd (omega (arith, less)))
  seats_only k [] (o ∷ ss) r l s c = absurd (omega (arith, l))
  seats_only k (q ∷ ps) (None ∷ ss) r l s c = later q None ps ss s (seats_only (k + 1) ps ss (rest_next k q ps r) (omega (arith, l)) s c)
  seats_only k (q ∷ ps) (Some t ∷ ss) r l s c =
      ⊎_elim (λ e. later q (Some t) ps ss s (seats_only (k + 1) ps ss (rest_next k q ps r) (omega (arith, l)) s e))
      (λ e. record { node = 0; place = q; at = refl; sit = ap (sits_in j) (sym (rest_first k q ps r)) ∙ e.0; is = ap (λ x. Some (Some x)) e.1 })
      (own_cases (sits_in j (slice_get whole k)) (seats_at j whole (numbered_from (k + 1) ss)) t s c)

  -- more entries, more seats
  pub seats_less : (xs ys : List (ℕ × SeatState)) → length (seats_at j whole ys) ≤ length (seats_at j whole (xs ++ ys))
  seats_less [] ys = omega arith
  seats_less (x ∷ xs) ys = let more = seats_less xs ys in omega (arith, more, own_length (sits_in j (slice_get whole x.0)) (seats_at j whole (xs ++ ys)) x.1)
