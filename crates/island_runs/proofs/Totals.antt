-- Sums over places of islands, each of which is that of one wire at most.
use Rattle.std.proofs.Common.{◌≡◌, ◌≢◌, inl, inr, ℕ, zero, suc, ◌+◌, ◌<◌, ◌≤◌, Bool, true, false, refl, ap, sym, ◌∙◌, arith}
use Rattle.std.specs.Prelude.{◌==◌, ◌&&◌, cond}
use Rattle.std.proofs.lemmas.Bool.{cases_Bool, eq-eqb, eqb-true, cond-false}
use Rattle.fused_net.specs.Costs.{sum_below}
use Rattle.fused_net.proofs.Reading.{same_or_not}
use Rattle.fused_net.proofs.Sums.{sum_le}
use Rattle.run_laws.specs.Seats.{IslandPlace}

-- where no other grew less, and one grew by so much, the sum grew by it
sum_more : (f g : ℕ → ℕ) (n w c : ℕ) → w < n → ((k : ℕ) → k ≢ w → f k ≤ g k) → f w + c ≤ g w → sum_below f n + c ≤ sum_below g n
sum_more f g zero w c lt others at = absurd (omega (arith, lt))
sum_more f g (suc n) w c lt others at = elim (same_or_not w n) [
  | inl e ↦
      let here : f n + c ≤ g n = rw (sym e) at in
      let rest : sum_below f n ≤ sum_below g n = sum_le f g n (λ k l. others k (λ s. omega (arith, s, e, l))) in
      omega (arith, here, rest)
  | inr ne ↦ let last : f n ≤ g n = others n (λ s. ne (sym s)) in let rest = sum_more f g n w c (omega (arith, lt, ne)) others at in omega (arith, last, rest)
]

-- what stands at all places but one
abbrev but : IslandPlace → (ℕ → ℕ → ℕ) → ℕ → ℕ → ℕ
but p f b q = cond ((b == p.island) && (q == p.at)) 0 (f b q)

but_less : (t : Bool) (n : ℕ) → cond t 0 n ≤ n
but_less true n = omega arith
but_less false n = omega arith

but_here : (p : IslandPlace) (f : ℕ → ℕ → ℕ) → but p f p.island p.at ≡ 0
but_here p f = rw (eq-eqb p.island p.island refl, eq-eqb p.at p.at refl) refl

both : (a b : Bool) → (a && b) ≡ true → (a ≡ true) × (b ≡ true)
both true true e = (refl, refl)
both true false e = absurd cc
both false b e = absurd cc

but_other : (p r : IslandPlace) (f : ℕ → ℕ → ℕ) → r ≢ p → but p f r.island r.at ≡ f r.island r.at
but_other p r f ne = elim (cases_Bool ((r.island == p.island) && (r.at == p.at))) [
  | inl t ↦ let s = both (r.island == p.island) (r.at == p.at) t in absurd (ne (one r p (eqb-true r.island p.island s.0) (eqb-true r.at p.at s.1)))
  | inr e ↦ cond-false ((r.island == p.island) && (r.at == p.at)) 0 (f r.island r.at) e
]
  where
    one : (r p : IslandPlace) → r.island ≡ p.island → r.at ≡ p.at → r ≡ p
    one r p a b = ap (λ k. record { island = k; at = r.at }) a ∙ ap (λ k. record { island = p.island; at = k }) b

module _ (islands : ℕ) (size : ℕ → ℕ) where
  -- over all places of all islands
  abbrev pub over_places : (ℕ → ℕ → ℕ) → ℕ
  over_places f = sum_below (λ b. sum_below (λ q. f b q) (size b)) islands

  one_less : (p : IslandPlace) (f : ℕ → ℕ → ℕ) → p.island < islands → p.at < size p.island → over_places (but p f) + f p.island p.at ≤ over_places f
  one_less p f here there =
      let fewer : (b q : ℕ) → but p f b q ≤ f b q = λ b q. but_less ((b == p.island) && (q == p.at)) (f b q) in
      let gone = but_here p f in
      let inner : sum_below (λ q. but p f p.island q) (size p.island) + f p.island p.at ≤ sum_below (λ q. f p.island q) (size p.island) =
      sum_more (λ q. but p f p.island q) (λ q. f p.island q) (size p.island) p.at (f p.island p.at) there (λ q ne. fewer p.island q) (omega (arith, gone)) in
      sum_more (λ b. sum_below (λ q. but p f b q) (size b)) (λ b. sum_below (λ q. f b q) (size b)) islands p.island (f p.island p.at) here (λ b ne. sum_le (λ q. but p f b q) (λ q. f b q) (size b) (λ q lt. fewer b q)) inner

  -- the sum over wires that have each a place of its own
  pub sum_places : (n : ℕ) (near : ℕ → IslandPlace) (f : ℕ → ℕ → ℕ) → ((u : ℕ) → u < n → ((near u).island < islands) × ((near u).at < size (near u).island)) → ((u w : ℕ) → u < n → w < n → near u ≡ near w → u ≡ w)
      → sum_below (λ u. f (near u).island (near u).at) n ≤ over_places f
  sum_places zero near f within apart = omega arith
  sum_places (suc n) near f within apart =
      let p : IslandPlace = near n in
      let less = one_less p f (within n (omega arith)).0 (within n (omega arith)).1 in
      let rest : sum_below (λ u. but p f (near u).island (near u).at) n ≤ over_places (but p f) = sum_places n near (but p f) (λ u lt. within u (omega (arith, lt))) (λ u w a b e. apart u w (omega (arith, a)) (omega (arith, b)) e) in
      let same : sum_below (λ u. f (near u).island (near u).at) n ≤ sum_below (λ u. but p f (near u).island (near u).at) n =
      sum_le (λ u. f (near u).island (near u).at) (λ u. but p f (near u).island (near u).at) n (λ u lt. let e = but_other p (near u) f (λ s. let z : u ≡ n = apart u n (omega (arith, lt)) (omega arith) s in omega (arith, z, lt)) in omega (arith, e)) in
      omega (arith, less, rest, same)
