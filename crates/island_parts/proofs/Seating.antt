-- A list with what is still to come behind it, while a loop adds one after another.
use Rattle.std.proofs.Common.{◌≡◌, ◌+◌, ◌<◌, ℕ, List, [], ◌∷◌, ◌++◌, length, get_or, map, drop, ap, sym, ◌∙◌, append_assoc, append-nil}
use Rattle.std.proofs.lemmas.List.{drop_more}

pub one_added : {X Y : Type 0} (f : X → Y) (xs : List X) (i : ℕ) (other : X) (old new all : List Y) → i < length xs → new ≡ old ++ f (get_or xs i other) ∷ [] → old ++ map f (drop i xs) ≡ all
    → new ++ map f (drop (i + 1) xs) ≡ all
one_added f xs i other old new all less more h =
    let behind = map f (drop (i + 1) xs) in
    ap (λ l. l ++ behind) more ∙ append_assoc old (f (get_or xs i other) ∷ []) behind ∙ ap (λ l. old ++ map f l) (sym (drop_more xs i other less)) ∙ h

pub all_added : {X Y : Type 0} (f : X → Y) (behind : List X) (made all : List Y) → behind ≡ [] → made ++ map f behind ≡ all → made ≡ all
all_added f behind made all none h = sym (append-nil made) ∙ ap (λ l. made ++ map f l) (sym none) ∙ h
