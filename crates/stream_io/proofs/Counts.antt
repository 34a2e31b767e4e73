-- Counts that follow one another.
use Rattle.std.proofs.Common.{◌≡◌, ◌≢◌, ℕ, ◌+◌, ◌<◌, ◌≤◌, List, [], ◌∷◌, ◌⊎◌, inl, inr, refl, ◌∙◌, arith}
use Rattle.std.proofs.lemmas.Bool.Decides.{eqb_tells}
use Rattle.stream_io.specs.Counts.{Rose, Grew, last_count}
use Rattle.stream_io.specs.Quiet.{Quiet, QuietBut}

-- a count that is as before did not rise
pub grew_same : (a b : ℕ) → b ≡ a → Grew a 0 b
grew_same a b e = record { stays = omega (arith, e); grew = λ h. omega (arith, e) }

-- it grew by m and then by n
pub grew_two : (a b c m n : ℕ) → Grew a m b → Grew b n c → Grew a (m + n) c
grew_two a b c m n p q = record {
  stays = omega (arith, p.stays, q.stays);
  grew = λ h.
      let first : b < last_count → b ≡ a + m = p.grew in
      let then : c < last_count → c ≡ b + n = q.grew in
      let stays : b ≤ c = q.stays in
      let third : c ≡ b + n = then h in
      let second : b ≡ a + m = first (omega arith) in
      omega (arith, second, third);
}

pub quiet_same : (f g : List ℕ → ℕ) → ((n : List ℕ) → g n ≡ f n) → Quiet f g
quiet_same f g e = λ n. grew_same (f n) (g n) (e n)

pub quiet_two : (f g h : List ℕ → ℕ) → Quiet f g → Quiet g h → Quiet f h
quiet_two f g h p q = λ n. grew_two (f n) (g n) (h n) 0 0 (p n) (q n)

-- what rose behind a count that did not fall rose from its first value, also where it stays as it is then
pub rose_after : (a b c d : ℕ) → a ≤ b → Rose b c → d ≡ c → Rose a d
rose_after a b c d stays rose e = λ h. let risen : c < last_count → b < c = rose in let above : b < c = risen (omega (arith, e, h)) in omega (arith, stays, above, e)

-- of counts that did not rise, one name's then may
pub quiet_but : (n : List ℕ) (f g h k : List ℕ → ℕ) → Quiet f g → g n ≤ h n → ((m : List ℕ) → m ≢ n → h m ≡ g m) → ((m : List ℕ) → k m ≡ h m) → QuietBut n f k
quiet_but n f g h k quiet stays others same = record {
  stays = omega (arith, (quiet n).stays, stays, same n);
  others = λ m differs. grew_two (f m) (g m) (k m) 0 0 (quiet m) (grew_same (g m) (k m) (same m ∙ others m differs));
}

-- two names are one, or differ
pub same_name : (a b : List ℕ) → (a ≡ b) ⊎ (a ≢ b)
same_name [] [] = inl refl
same_name [] (b ∷ bs) = inr (λ e. cc)
same_name (a ∷ cs) [] = inr (λ e. cc)
same_name (a ∷ cs) (b ∷ bs) = elim (eqb_tells a b) [
  | inl e ↦ (elim (same_name cs bs) as (λ _. (a ∷ cs ≡ b ∷ bs) ⊎ (a ∷ cs ≢ b ∷ bs)) [ inl f ↦ inl (cc (e.1, f)) | inr differs ↦ inr (λ f. differs (cc)) ])
  | inr differs ↦ inr (λ f. differs.1 (cc))
]
