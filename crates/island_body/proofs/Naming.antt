-- The islands that a body names are those which it told something.
use Rattle.std.proofs.Common.{◌≡◌, ◌⊎◌, inl, inr, ℕ, zero, suc, ◌==◌, Bool, true, false, ◌||◌, List, [], ◌∷◌, Some, slice_get, refl, ap, arith}
use Rattle.std.proofs.lemmas.Grind.{common_steps}
use Rattle.std.proofs.lemmas.Bool.Decides.{nat_tests}
use Rattle.port_core.specs.Ring.{is_queued, Distinct}
use Rattle.dispatcher.specs.Naming.{NamesEach}
use Rattle.island_body.specs.Telling.{HasTold, Wakes}
use Rattle.island_body.specs.declared.body.Body.{Body}

-- a number that stands in the list is among it
queued_at : (q : List ℕ) (i n : ℕ) → slice_get q i ≡ Some n → is_queued q n ≡ true
queued_at [] i n e = absurd cc
queued_at (x ∷ xs) zero n e = let same : x ≡ n = cc in grind (arith, common_steps, nat_tests, same)
queued_at (x ∷ xs) (suc i) n e = let later : is_queued xs n ≡ true = queued_at xs i n e in grind (arith, common_steps, later)

-- and one that is among it stands somewhere
at_first_or_later : (x : ℕ) (xs : List ℕ) (n : ℕ) (b : Bool) → (x == n) ≡ b → is_queued (x ∷ xs) n ≡ true → (is_queued xs n ≡ true → (i : ℕ) × (slice_get xs i ≡ Some n)) → (i : ℕ) × (slice_get (x ∷ xs) i ≡ Some n)
at_first_or_later x xs n true eb e later = let same : x ≡ n = grind (arith, nat_tests, eb) in (0, ap Some same)
at_first_or_later x xs n false eb e later = let there : is_queued xs n ≡ true = grind (arith, common_steps, eb, e) in let h = later there in (suc h.0, h.1)

at_queued : (q : List ℕ) (n : ℕ) → is_queued q n ≡ true → (i : ℕ) × (slice_get q i ≡ Some n)
at_queued [] n e = absurd cc
at_queued (x ∷ xs) n e = at_first_or_later x xs n (x == n) refl e (λ there. at_queued xs n there)

no_both : (b : Bool) → b ≡ true → b ≡ false → ⊥
no_both b p q = cc

-- none stands there twice
stands_once : (q : List ℕ) → Distinct q → (i j n : ℕ) → slice_get q i ≡ Some n → slice_get q j ≡ Some n → i ≡ j
stands_once [] d i j n e f = absurd cc
stands_once (x ∷ xs) d zero zero n e f = refl
stands_once (x ∷ xs) d zero (suc j) n e f = let same : x ≡ n = cc in absurd (no_both (is_queued xs x) (rw same (queued_at xs j n f)) d.0)
stands_once (x ∷ xs) d (suc i) zero n e f = let same : x ≡ n = cc in absurd (no_both (is_queued xs x) (rw same (queued_at xs i n e)) d.0)
stands_once (x ∷ xs) d (suc i) (suc j) n e f = ap suc (stands_once xs d.1 i j n e f)

pub names_told : {S D L H B : Type 0} (old new : Body S D L H B) → Wakes old new → NamesEach (HasTold old new) new.peers.woken.queue
names_told old new w = record {
  only = λ i n at. w.each n (queued_at new.peers.woken.queue i n at);
  all = λ n told. at_queued new.peers.woken.queue n (w.all n told);
  once = stands_once new.peers.woken.queue w.once;
}
