-- Lists of which one thing is said, and lists of lists.
use Rattle.std.specs.Prelude.{slice_get}
use Rattle.std.specs.Option.{option_map}
use Rattle.std.proofs.Common.{◌≡◌, ℕ, zero, suc, ◌<◌, List, [], ◌∷◌, length, map, Some, sym, ap, ◌∙◌, arith}
use Rattle.std.proofs.lemmas.List.{length-map}
use Rattle.std.proofs.lemmas.Option.{slice_get-map}
use Rattle.std.specs.declared.vec.Vec.{Vec}
use Rattle.std.specs.declared.alloc.Global.{Global}
use Rattle.scatter.specs.Shares.{items_at}

pub some_same : {X : Type 0} (x y : X) → Some x ≡ Some y → x ≡ y
some_same x y e = cc

-- of two lists of which f says the same, it says so of what stands at one place, and they are as long
pub same_at : {X Y : Type 0} (f : X → Y) (xs ys : List X) (k : ℕ) (x y : X) → map f ys ≡ map f xs → slice_get xs k ≡ Some x → slice_get ys k ≡ Some y → f y ≡ f x
same_at f xs ys k x y same at there =
    let old : slice_get (map f xs) k ≡ Some (f x) = slice_get-map f xs k ∙ ap (option_map f) at in
    let new : slice_get (map f ys) k ≡ Some (f y) = slice_get-map f ys k ∙ ap (option_map f) there in
    some_same (f y) (f x) (sym new ∙ (ap (λ l. slice_get l k) same ∙ old))

pub same_many : {X Y : Type 0} (f : X → Y) (xs ys : List X) → map f ys ≡ map f xs → length ys ≡ length xs
same_many f xs ys same = sym (length-map ys f) ∙ (ap length same ∙ length-map xs f)

-- a list in which something stands is there
pub list_there : {X : Type 0} (lists : List (Vec X Global)) (k p : ℕ) (x : X) → slice_get (items_at lists k) p ≡ Some x → k < length lists
list_there [] k p x at = absurd cc
list_there (v ∷ vs) zero p x at = omega arith
list_there (v ∷ vs) (suc k) p x at = let rest = list_there vs k p x at in omega (arith, rest)
