-- How many handles are open, as one more is opened or closed.
use Rattle.std.proofs.Common.{◌≡◌, ℕ, ◌+◌, ◌-◌, List, [], ◌∷◌, ◌++◌, length, ap, ◌∙◌, length-append, arith}

pub less_next : {A : Type 0} (a b c : ℕ) (done : List A) (x : A) → b ≡ a - length done → c ≡ b - 1 → c ≡ a - length (done ++ x ∷ [])
less_next a b c done x e f = let size : length (done ++ x ∷ []) ≡ length done + 1 = length-append done (x ∷ []) in omega (arith, e, f, size)

pub more_next : {A : Type 0} (a b c : ℕ) (was now : List A) (x : A) → b ≡ a + length was → c ≡ b + 1 → now ≡ was ++ x ∷ [] → c ≡ a + length now
more_next a b c was now x e f more = let size : length now ≡ length was + 1 = ap length more ∙ length-append was (x ∷ []) in omega (arith, e, f, size)
