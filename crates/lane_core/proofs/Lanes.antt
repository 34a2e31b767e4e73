-- The lanes between several bodies, while these meet and go on.
use Rattle.std.specs.Prelude.{IsTrue, Ok, true, false, Bool}
use Rattle.std.proofs.Common.{refl, ◌≡◌, ◌≤◌, ◌<◌, ◌+◌, ◌⊎◌, inl, inr, ℕ, Some, List, length, get_or, slice_get, sym, ap, subst, ◌∙◌, arith}
use Rattle.std.proofs.lemmas.Option.{slice_get-get_or, slice_get_within}
use Rattle.lane_core.specs.declared.room.Waits.{Waits}
use Rattle.lane_core.specs.Pairs.{MetAt}
use Rattle.lane_core.specs.declared.crossing.Crossing.{Crossing}
use Rattle.lane_core.specs.Bodies.{AllOf, EachOf, BrokeOff}
use Rattle.lane_core.specs.Crossings.{MeetsAt, QuietBelow, AtRest, IsWithin, AreCrossings, JoinedAt, LanesFrom, LaneEvent, FirstEvent}
use Rattle.lane_core.proofs.Each.{same_or, one_there, at_place, at_count}

module _ {B : Type 0} where
  -- two ends may still meet where each body went on or stands as it was
  pub within_each : (may : B → ℕ → B → ℕ → Type 0) (R : B → B → Type 0) → ((a b c : B) (o i : ℕ) → R a c → may a o b i → may c o b i) → ((a b d : B) (o i : ℕ) → R b d → may a o b i → may a o d i) → (xs ys : List B) (c : Crossing) → EachOf R xs ys → IsWithin may xs c → IsWithin may ys c
  within_each may R mo mi xs ys c e w = record {
    from_there = let l = w.from_there in let n = e.count in omega (arith, l, n);
    to_there = let l = w.to_there in let n = e.count in omega (arith, l, n);
    may = λ a b ea eb.
        let a' = at_count ys xs c.from a (sym e.count) ea in
        let b' = at_count ys xs c.to b (sym e.count) eb in
        mi a b'.0 b c.out c.inp (e.each c.to b'.0 b b'.1 eb) (mo a'.0 b'.0 a c.out c.inp (e.each c.from a'.0 a a'.1 ea) (w.may a'.0 b'.0 a'.1 b'.1));
  }

  pub within_at : (may : B → ℕ → B → ℕ → Type 0) (R : B → B → Type 0) → ((a b c : B) (o i : ℕ) → R a c → may a o b i → may c o b i) → ((a b d : B) (o i : ℕ) → R b d → may a o b i → may a o d i) → (xs ys : List B) (lanes : List Crossing) (n : ℕ) (d : Crossing) → EachOf R xs ys → AreCrossings may xs lanes → n < length lanes → IsWithin may ys (get_or lanes n d)
  within_at may R mo mi xs ys lanes n d e h l = within_each may R mo mi xs ys (get_or lanes n d) e (h n (get_or lanes n d) (slice_get-get_or lanes n d l))

  pub crossings_each : (may : B → ℕ → B → ℕ → Type 0) (R : B → B → Type 0) → ((a b c : B) (o i : ℕ) → R a c → may a o b i → may c o b i) → ((a b d : B) (o i : ℕ) → R b d → may a o b i → may a o d i) → (xs ys : List B) (lanes : List Crossing) → EachOf R xs ys → AreCrossings may xs lanes → AreCrossings may ys lanes
  crossings_each may R mo mi xs ys lanes e h = λ n c t. within_each may R mo mi xs ys c e (h n c t)

  -- also where one body broke off
  pub went_or_broke : (keeps : B → Type 0) (goes breaks : B → B → Type 0) (xs ys : List B) → BrokeOff keeps goes breaks xs ys → EachOf (λ a b. goes a b ⊎ breaks a b) xs ys
  went_or_broke keeps goes breaks xs ys q = record {
    count = q.count;
    each = λ k a b ea eb. elim (same_or k q.at) [
      | inl e ↦ inr (q.broke a b (ap (λ n. slice_get xs n) (sym e) ∙ ea) (ap (λ n. slice_get ys n) (sym e) ∙ eb))
      | inr ne ↦ inl (q.others_go k a b ne ea eb)
    ];
  }

  pub crossings_broke : (may : B → ℕ → B → ℕ → Type 0) (keeps : B → Type 0) (goes breaks : B → B → Type 0)
      → ((a b c : B) (o i : ℕ) → goes a c → may a o b i → may c o b i) → ((a b d : B) (o i : ℕ) → goes b d → may a o b i → may a o d i)
      → ((a b c : B) (o i : ℕ) → breaks a c → may a o b i → may c o b i) → ((a b d : B) (o i : ℕ) → breaks b d → may a o b i → may a o d i)
      → (xs ys : List B) (lanes : List Crossing) → BrokeOff keeps goes breaks xs ys → AreCrossings may xs lanes → AreCrossings may ys lanes
  crossings_broke may keeps goes breaks go gi bo bi xs ys lanes q h =
      crossings_each may (λ a b. goes a b ⊎ breaks a b)
      (λ a b c o i r m. elim r [ inl g ↦ go a b c o i g m | inr k ↦ bo a b c o i k m ])
      (λ a b d o i r m. elim r [ inl g ↦ gi a b d o i g m | inr k ↦ bi a b d o i k m ])
      xs ys lanes (went_or_broke keeps goes breaks xs ys q) h

  -- what was joined stays joined while the bodies only meet
  pub joined_each : (joined : B → ℕ → B → ℕ → Waits → Type 0) (S : B → B → Type 0) → ((a b c : B) (o i : ℕ) (w : Waits) → S a c → joined a o b i w → joined c o b i w) → ((a b d : B) (o i : ℕ) (w : Waits) → S b d → joined a o b i w → joined a o d i w) → (xs ys : List B) (c : Crossing) (w : Waits) → EachOf S xs ys → JoinedAt joined xs c w → JoinedAt joined ys c w
  joined_each joined S jo ji xs ys c w e h = λ a b ea eb.
      let a' = at_count ys xs c.from a (sym e.count) ea in
      let b' = at_count ys xs c.to b (sym e.count) eb in
      ji a b'.0 b c.out c.inp w (e.each c.to b'.0 b b'.1 eb) (jo a'.0 b'.0 a c.out c.inp w (e.each c.from a'.0 a a'.1 ea) (h a'.0 b'.0 a'.1 b'.1))

  pub event_each : (joined : B → ℕ → B → ℕ → Waits → Type 0) (S : B → B → Type 0) → ((a b c : B) (o i : ℕ) (w : Waits) → S a c → joined a o b i w → joined c o b i w) → ((a b d : B) (o i : ℕ) (w : Waits) → S b d → joined a o b i w → joined a o d i w) → (xs ys : List B) (lanes : List Crossing) (k : ℕ) → EachOf S xs ys → LaneEvent joined xs lanes k → LaneEvent joined ys lanes k
  event_each joined S jo ji xs ys lanes k e h = record {
    lane = h.lane;
    crossing = h.crossing;
    waits = h.waits;
    there = h.there;
    joined_there = joined_each joined S jo ji xs ys h.crossing h.waits e h.joined_there;
    event = h.event;
  }

  -- one more lane, whose ends were brought together
  pub lanes_more : (joined : B → ℕ → B → ℕ → Waits → Type 0) (S : B → B → Type 0) → ((a b c : B) (o i : ℕ) (w : Waits) → S a c → joined a o b i w → joined c o b i w) → ((a b d : B) (o i : ℕ) (w : Waits) → S b d → joined a o b i w → joined a o d i w)
      → (xs ys : List B) (lanes : List Crossing) (n first next : ℕ) (c : Crossing) (w : Waits) → slice_get lanes n ≡ Some c → EachOf S xs ys → LanesFrom joined xs lanes n first → JoinedAt joined ys c w → next ≤ first → (IsTrue w.item → next ≤ c.to) → (IsTrue w.demand → next ≤ c.from) → LanesFrom joined ys lanes (n + 1) next
  lanes_more joined S jo ji xs ys lanes n first next c w t e h j l item demand = λ m d b td. elim (same_or m n) [
    | inl s ↦ let v = one_there lanes n c d t (ap (λ x. slice_get lanes x) (sym s) ∙ td) in
        (w, subst (λ x. JoinedAt joined ys x w) v j, λ i. subst (λ (x : Crossing). next ≤ x.to) v (item i), λ i. subst (λ (x : Crossing). next ≤ x.from) v (demand i))
    | inr ne ↦ let p = h m d (omega (arith, b, ne)) td in
        (p.0, joined_each joined S jo ji xs ys d p.0 e p.1, λ i. let x = p.2 i in omega (arith, x, l), λ i. let x = p.3 i in omega (arith, x, l))
  ]

  -- the body for which something waits, if there is one
  pub event_more : (joined : B → ℕ → B → ℕ → Waits → Type 0) (S : B → B → Type 0) → ((a b c : B) (o i : ℕ) (w : Waits) → S a c → joined a o b i w → joined c o b i w) → ((a b d : B) (o i : ℕ) (w : Waits) → S b d → joined a o b i w → joined a o d i w)
      → (xs ys : List B) (lanes : List Crossing) (n first next : ℕ) (c : Crossing) (w : Waits) → slice_get lanes n ≡ Some c → EachOf S xs ys → (first < length xs → LaneEvent joined xs lanes first) → JoinedAt joined ys c w → ((next ≡ first) ⊎ (((c.to ≡ next) × IsTrue w.item) ⊎ ((c.from ≡ next) × IsTrue w.demand))) → next < length ys → LaneEvent joined ys lanes next
  event_more joined S jo ji xs ys lanes n first next c w t e h j one l = elim one [
    | inl s ↦ let v = e.count in event_each joined S jo ji xs ys lanes next e (subst (LaneEvent joined xs lanes) (sym s) (h (omega (arith, s, l, v))))
    | inr f ↦ record { lane = n; crossing = c; waits = w; there = t; joined_there = j; event = f }
  ]

  -- the two bodies that met, and all others, stand in a relation to what they were
  pub met_each : {E : Type 0} (met : B → ℕ → B → ℕ → B → B → Waits → Type 0) (R : B → B → Type 0) → ((a : B) → R a a) → (f o t i : ℕ) (w : Waits) → ((a b c d : B) → met a o b i c d w → (R a c) × (R b d)) → (xs ys : List B) → f < length xs → t < length xs → MetAt {E = E} met xs f o t i ys (Ok w) → EachOf R xs ys
  met_each met R r f o t i w m xs ys lf lt h = record {
    count = h.count;
    each = λ k a b ea eb. elim (same_or k f) [
      | inl e ↦
          let q = at_place xs t lt in
          let q' = at_count xs ys t q.0 h.count q.1 in
          (m a q.0 b q'.0 (h.meets a q.0 b q'.0 (ap (λ n. slice_get xs n) (sym e) ∙ ea) q.1 (ap (λ n. slice_get ys n) (sym e) ∙ eb) q'.1)).0
      | inr nf ↦ elim (same_or k t) [
        | inl e ↦
            let q = at_place xs f lf in
            let q' = at_count xs ys f q.0 h.count q.1 in
            (m q.0 a q'.0 b (h.meets q.0 a q'.0 b q.1 (ap (λ n. slice_get xs n) (sym e) ∙ ea) q'.1 (ap (λ n. slice_get ys n) (sym e) ∙ eb))).1
        | inr nt ↦ subst (λ v. R a v) (one_there xs k a b ea (sym (h.others k nf nt) ∙ eb)) (r a)
      ]
    ];
  }

  pub met_joined : {E : Type 0} (met : B → ℕ → B → ℕ → B → B → Waits → Type 0) (joined : B → ℕ → B → ℕ → Waits → Type 0) (cr : Crossing) (w : Waits) → ((a b c d : B) → met a cr.out b cr.inp c d w → joined c cr.out d cr.inp w) → (xs ys : List B) → MetAt {E = E} met xs cr.from cr.out cr.to cr.inp ys (Ok w) → JoinedAt joined ys cr w
  met_joined met joined cr w m xs ys h = λ c d ec ed.
      let a = at_count ys xs cr.from c (sym h.count) ec in
      let b = at_count ys xs cr.to d (sym h.count) ed in
      m a.0 b.0 c d (h.meets a.0 b.0 c d a.1 b.1 ec ed)

  -- the two bodies that met are known by their places
  pub meets_at : {E : Type 0} (met : B → ℕ → B → ℕ → B → B → Waits → Type 0) (c : Crossing) (w : Waits) (xs ys : List B) → MetAt {E = E} met xs c.from c.out c.to c.inp ys (Ok w) → MeetsAt met xs c ys w
  meets_at met c w xs ys h = λ a b d e ea eb ed ee. h.meets a b d e ea eb ed ee

  -- one more lane at which nothing waits
  pub quiet_more : (joined : B → ℕ → B → ℕ → Waits → Type 0) (S : B → B → Type 0) → ((a b c : B) (o i : ℕ) (w : Waits) → S a c → joined a o b i w → joined c o b i w) → ((a b d : B) (o i : ℕ) (w : Waits) → S b d → joined a o b i w → joined a o d i w)
      → (xs ys : List B) (lanes : List Crossing) (n : ℕ) (c : Crossing) (w : Waits) → slice_get lanes n ≡ Some c → EachOf S xs ys → QuietBelow joined xs lanes n → JoinedAt joined ys c w → w.item ≡ false → w.demand ≡ false → QuietBelow joined ys lanes (n + 1)
  quiet_more joined S jo ji xs ys lanes n c w t e h j item demand = λ m d b td. elim (same_or m n) [
    | inl s ↦ (let v = one_there lanes n c d t (ap (λ x. slice_get lanes x) (sym s) ∙ td) in (w, subst (λ x. JoinedAt joined ys x w) v j, item, demand))
    | inr ne ↦ (let p = h m d (omega (arith, b, ne)) td in (p.0, joined_each joined S jo ji xs ys d p.0 e p.1, p.2, p.3))
  ]

  -- a lane at which an item waits has something to do for the body that takes from it
  pub item_stirs : (may : B → ℕ → B → ℕ → Type 0) (met : B → ℕ → B → ℕ → B → B → Waits → Type 0) (goes idle : B → B → Type 0) → ((a b c d e : B) (o i : ℕ) (w : Waits) → may a o b i → met a o b i c d w → IsTrue w.item → goes d e → idle d e → ⊥)
      → (xs ys zs : List B) (c : Crossing) (w : Waits) → IsWithin may xs c → length ys ≡ length xs → MeetsAt met xs c ys w → w.item ≡ true → (y z : B) → slice_get ys c.to ≡ Some y → slice_get zs c.to ≡ Some z → goes y z → idle y z → ⊥
  item_stirs may met goes idle law xs ys zs c w within count m item y z ey ez g i =
      let a = at_place xs c.from within.from_there in
      let b = at_place xs c.to within.to_there in
      let d = at_count xs ys c.from a.0 count a.1 in
      law a.0 b.0 d.0 y z c.out c.inp w (within.may a.0 b.0 a.1 b.1) (m a.0 b.0 d.0 y a.1 b.1 d.1 ey) (is_true w.item item) g i
    where
      is_true : (t : Bool) → t ≡ true → IsTrue t
      is_true t e = cc

  -- and one at which demand waits for the body that sends on it
  pub demand_stirs : (may : B → ℕ → B → ℕ → Type 0) (met : B → ℕ → B → ℕ → B → B → Waits → Type 0) (goes idle : B → B → Type 0) → ((a b c d e : B) (o i : ℕ) (w : Waits) → may a o b i → met a o b i c d w → IsTrue w.demand → goes c e → idle c e → ⊥)
      → (xs ys zs : List B) (c : Crossing) (w : Waits) → IsWithin may xs c → length ys ≡ length xs → MeetsAt met xs c ys w → w.demand ≡ true → (y z : B) → slice_get ys c.from ≡ Some y → slice_get zs c.from ≡ Some z → goes y z → idle y z → ⊥
  demand_stirs may met goes idle law xs ys zs c w within count m demand y z ey ez g i =
      let a = at_place xs c.from within.from_there in
      let b = at_place xs c.to within.to_there in
      let e = at_count xs ys c.to b.0 count b.1 in
      law a.0 b.0 y e.0 z c.out c.inp w (within.may a.0 b.0 a.1 b.1) (m a.0 b.0 y e.0 a.1 b.1 ey e.1) (is_true w.demand demand) g i
    where
      is_true : (t : Bool) → t ≡ true → IsTrue t
      is_true t e = cc

  -- no body has an event
  pub at_rest : (pending : B → Bool) (joined : B → ℕ → B → ℕ → Waits → Type 0) (xs : List B) (lanes : List Crossing) → AllOf (λ b. pending b ≡ false) xs → QuietBelow joined xs lanes (length lanes) → AtRest pending joined xs lanes
  at_rest pending joined xs lanes p q = record { rings = p; nothing_waits = λ n c e. q n c (slice_get_within lanes n c e) e }

  pub none_pending : (pending : B → Bool) (xs : List B) (found : ℕ) → ((k : ℕ) (b : B) → slice_get xs k ≡ Some b → pending b ≡ true → k < length xs → found ≤ k) → (found < length xs → ⊥) → AllOf (λ b. pending b ≡ false) xs
  none_pending pending xs found h all k b e = by_case (pending b) refl
    where
      by_case : (t : Bool) → pending b ≡ t → pending b ≡ false
      by_case false p = p
      by_case true p = let l = slice_get_within xs k b e in let f = h k b e p l in absurd (all (omega (arith, l, f)))
