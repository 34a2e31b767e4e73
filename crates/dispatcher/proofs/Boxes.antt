-- Lists of which the last comes first, as bodies go into boxes and out of them.
use Rattle.std.proofs.Common.{◌≡◌, List, [], ◌∷◌, ◌++◌, map, reverse, refl, ap, sym, ◌∙◌}
use Rattle.std.proofs.lemmas.List.{reverse-append, append-nil}
use Rattle.lane_core.specs.Bodies.{AllOf}
use Rattle.dispatcher.proofs.Lists.{app_next, next_of}

-- the last one comes first once the list is turned
pub turned_last : {A B : Type 0} (f : A → B) (xs ys : List A) (x : A) → ys ≡ xs ++ x ∷ [] → map f (reverse ys) ≡ f x ∷ map f (reverse xs)
turned_last f xs ys x e = ap (λ l. map f (reverse l)) e ∙ ap (map f) (reverse-append xs (x ∷ []))

-- the last of one list goes to the end of another, which is turned
pub moved_over : {A B : Type 0} (f : A → B) (us vs : List B) (xs ys : List A) (x : A) → us ≡ vs ++ f x ∷ [] → ys ≡ xs ++ x ∷ []
    → vs ++ map f (reverse ys) ≡ us ++ map f (reverse xs)
moved_over f us vs xs ys x ea ey = ap (λ l. vs ++ l) (turned_last f xs ys x ey) ∙ sym (app_next vs (f x) (map f (reverse xs))) ∙ ap (λ l. l ++ map f (reverse xs)) (sym ea)

-- nothing comes of an empty list
pub nothing_over : {A B : Type 0} (f : A → B) (us : List B) (xs : List A) → xs ≡ [] → us ++ map f (reverse xs) ≡ us
nothing_over f us xs e = ap (λ l. us ++ map f (reverse l)) e ∙ append-nil us

mapped : {A B : Type 0} (f : A → B) (xs ys : List A) → map f (xs ++ ys) ≡ map f xs ++ map f ys
mapped f [] ys = refl
mapped f (x ∷ xs) ys = ap (λ l. f x ∷ l) (mapped f xs ys)

-- what follows those that were passed is one of which P holds
pub boxed_next : {A B : Type 0} (f : A → B) (P : B → Type 0) (done : List A) (x : A) (left : List A) (xs : List A) → xs ≡ done ++ x ∷ left → AllOf P (map f xs) → P (f x)
boxed_next f P done x left xs e all = next_of P (map f done) (f x) (map f left) (map f xs) (ap (map f) e ∙ mapped f done (x ∷ left)) all
