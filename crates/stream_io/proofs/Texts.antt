-- The bytes of a source, read piece by piece.
use Rattle.std.proofs.Common.{◌≡◌, ℕ, ◌+◌, ◌≤◌, List, ◌++◌, length, take, drop, sym, ap, ◌∙◌, subst, arith}
use Rattle.std.specs.Prelude.{Option, Some, None, IfSome}
use Rattle.std.proofs.Math.Seq.{take-add}
use Rattle.std.proofs.lemmas.List.{take_all}

-- the text is the first bytes of the whole, and the next piece stands behind it
pub first_bytes_more : (w v : Option (List ℕ)) (old new : List ℕ) (len len' given n : ℕ) → v ≡ w → given ≡ len → len' ≡ len + n → IfSome w (λ b. old ≡ take len b) → IfSome v (λ b. new ≡ old ++ take n (drop given b)) → IfSome w (λ b. new ≡ take len' b)
first_bytes_more None v old new len len' given n e g l p q = tt
first_bytes_more (Some b) v old new len len' given n e g l p q =
    let next : new ≡ old ++ take n (drop given b) = subst (λ o. IfSome o (λ b. new ≡ old ++ take n (drop given b))) e q in
    next ∙ ap (λ x. x ++ take n (drop given b)) p ∙ ap (λ k. take len b ++ take n (drop k b)) g ∙ sym (take-add len n b) ∙ ap (λ k. take k b) (sym l)

pub within_more : (w v : Option (List ℕ)) (len len' given n : ℕ) → v ≡ w → given ≡ len → len' ≡ len + n → IfSome v (λ b. given + n ≤ length b) → IfSome w (λ b. len' ≤ length b)
within_more None v len len' given n e g l q = tt
within_more (Some b) v len len' given n e g l q =
    let fits : given + n ≤ length b = subst (λ o. IfSome o (λ b. given + n ≤ length b)) e q in
    omega (arith, g, l, fits)

-- at the end of the source the first bytes are all of it
pub first_bytes_end : (w v : Option (List ℕ)) (old new : List ℕ) (len given limit : ℕ) → v ≡ w → given ≡ len → len ≤ limit → new ≡ old → IfSome w (λ b. old ≡ take len b) → IfSome v (λ b. length b ≤ given) → IfSome w (λ b. new ≡ take limit b)
first_bytes_end None v old new len given limit e g l s p q = tt
first_bytes_end (Some b) v old new len given limit e g l s p q =
    let short : length b ≤ given = subst (λ o. IfSome o (λ b. length b ≤ given)) e q in
    s ∙ p ∙ take_all len b (omega (arith, g, short)) ∙ sym (take_all limit b (omega (arith, g, short)))

pub first_bytes_limit : (w : Option (List ℕ)) (new : List ℕ) (len limit : ℕ) → len ≡ limit → IfSome w (λ b. new ≡ take len b) → IfSome w (λ b. new ≡ take limit b)
first_bytes_limit None new len limit e p = tt
first_bytes_limit (Some b) new len limit e p = p ∙ ap (λ k. take k b) e
