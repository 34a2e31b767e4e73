-- Words behind one space each.
use Rattle.std.proofs.Common.{◌≡◌, ℕ, List, [], ◌∷◌, ◌++◌, refl, sym, ap, ◌∙◌, append_assoc}
use Rattle.blue_lang.specs.Spaced.{spaced}

pub spaced_append : (ws vs : List (List ℕ)) → spaced (ws ++ vs) ≡ spaced ws ++ spaced vs
spaced_append [] vs = refl
spaced_append (w ∷ ws) vs =
    ap (λ x. 32 ∷ (w ++ x)) (spaced_append ws vs) ∙ ap (λ x. 32 ∷ x) (sym (append_assoc w (spaced ws) (spaced vs)))

-- words written behind words
pub spaced_behind : (old mid new : List ℕ) (ws vs : List (List ℕ)) → mid ≡ old ++ spaced ws → new ≡ mid ++ spaced vs → new ≡ old ++ spaced (ws ++ vs)
spaced_behind old mid new ws vs e f =
    f ∙ (ap (λ x. x ++ spaced vs) e ∙ (append_assoc old (spaced ws) (spaced vs) ∙ ap (λ x. old ++ x) (sym (spaced_append ws vs))))
