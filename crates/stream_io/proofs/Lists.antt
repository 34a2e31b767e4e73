-- Lists with one more at their end, and names that do not stand twice.
use Rattle.std.proofs.Common.{◌≡◌, ℕ, zero, suc, ◌+◌, ◌<◌, List, [], ◌∷◌, ◌++◌, map, length, slice_get, Some, refl, sym, ap, ◌∙◌, arith, append-nil, append_assoc, get_or}
use Rattle.std.specs.List.{All, Contains}
use Rattle.std.proofs.lemmas.List.{length-map, get_or-map}
use Rattle.std.proofs.lemmas.List.Elements.{All-nil, All-cons, All-head, All-tail, All-contains, Contains-get_or, Contains-push}
use Rattle.std.proofs.lemmas.Option.{slice_get_within, slice_get-get_or}
use Rattle.stream_io.specs.Names.{DistinctNames}

-- what stands in a list with more behind it
pub get_before : {A : Type 0} (xs ys : List A) (k : ℕ) → k < length xs → slice_get (xs ++ ys) k ≡ slice_get xs k
get_before [] ys k h = absurd (omega arith)
get_before (x ∷ xs) ys zero h = refl
get_before (x ∷ xs) ys (suc k) h = get_before xs ys k (omega arith)

pub get_at : {A : Type 0} (xs : List A) (y : A) (ys : List A) → slice_get (xs ++ y ∷ ys) (length xs) ≡ Some y
get_at [] y ys = refl
get_at (x ∷ xs) y ys = get_at xs y ys

-- what holds of all, by their places among them
pub all_with : {A : Type 0} (P Q : A → Type 0) (xs : List A) → ((x : A) → Contains xs x → P x → Q x) → All P xs → All Q xs
all_with P Q xs f all = λ k d h. f (get_or xs k d) (Contains-get_or xs k d h) (all k d h)

pub all_left : {A : Type 0} (P : A → Type 0) (xs ys : List A) → All P (xs ++ ys) → All P xs
all_left P [] ys all = All-nil P
all_left P (x ∷ xs) ys all = All-cons P x xs (All-head P x (xs ++ ys) all) (all_left P xs ys (All-tail P x (xs ++ ys) all))

pub all_last : {A : Type 0} (P : A → Type 0) (xs : List A) (x : A) → All P (xs ++ x ∷ []) → P x
all_last P xs x all = All-contains P (xs ++ x ∷ []) x all (Contains-push xs x)

pub contains_none : {A : Type 0} (x : A) → ¬ (Contains [] x)
contains_none x c = let h : c.0 < 0 = c.1 in absurd (omega arith)

pub contains_map : {A B : Type 0} (f : A → B) (xs : List A) (x : A) → Contains xs x → Contains (map f xs) (f x)
contains_map f xs x c =
    let within : c.0 < length xs = c.1 in
    let size : length (map f xs) ≡ length xs = length-map xs f in
    (c.0, omega (arith, size, within), get_or-map f xs c.0 x (f x) within ∙ ap f c.2)

-- distinct names are so without the last one, which is none of them
pub distinct_left : (ns : List (List ℕ)) (n : List ℕ) → DistinctNames (ns ++ n ∷ []) → DistinctNames ns
distinct_left ns n d =
    let more : (k : ℕ) (m : List ℕ) → slice_get ns k ≡ Some m → slice_get (ns ++ n ∷ []) k ≡ Some m = λ k m e. get_before ns (n ∷ []) k (slice_get_within ns k m e) ∙ e in
    λ i j m a b. d i j m (more i m a) (more j m b)

pub distinct_last : (ns : List (List ℕ)) (n : List ℕ) → DistinctNames (ns ++ n ∷ []) → ¬ (Contains ns n)
distinct_last ns n d c =
    let within : c.0 < length ns = c.1 in
    let first : slice_get (ns ++ n ∷ []) c.0 ≡ Some n = get_before ns (n ∷ []) c.0 within ∙ slice_get-get_or ns c.0 n within ∙ ap Some c.2 in
    let same : c.0 ≡ length ns = d c.0 (length ns) n first (get_at ns n []) in
    absurd (omega (arith, within, same))

-- the next of a list moves behind those that came
pub place_next : {A : Type 0} (all done rest left : List A) (x : A) → all ≡ done ++ rest → rest ≡ x ∷ left → all ≡ (done ++ x ∷ []) ++ left
place_next all done rest left x e f = e ∙ ap (λ l. done ++ l) f ∙ sym (append_assoc done (x ∷ []) left)

pub place_end : {A : Type 0} (all done rest : List A) → all ≡ done ++ rest → rest ≡ [] → done ≡ all
place_end all done rest e f = sym (e ∙ ap (λ l. done ++ l) f ∙ append-nil done)

pub none_left : {A : Type 0} (xs : List A) (n : ℕ) → n ≡ 0 → n ≡ length xs → xs ≡ []
none_left [] n e h = refl
none_left (x ∷ xs) n e h = absurd (omega arith)

pub len_next : {A : Type 0} (old new : List A) (x : A) (n m : ℕ) → old ≡ x ∷ new → m + 1 ≡ n → n ≡ length old → m ≡ length new
len_next old new x n m e l h = let c : length old ≡ suc (length new) = ap (λ (l : List _). length l) e in omega arith
