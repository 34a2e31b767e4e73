-- Lists of elements of one type.
use Rattle.std.proofs.Common.{◌≡◌, Bool, true, false, List, [], ◌∷◌, ◌++◌, subst, sym}
use Rattle.std.specs.Prelude.{if◌then◌else◌}
use Rattle.elem_core.specs.Sort.{Sort}
use Rattle.elem_core.specs.Tree.{Tree, items, row, items_of_row}
use Rattle.elem_core.specs.Prefix.{IsPrefix}
use Rattle.run_blueprint.specs.Types.{HasType, AllTyped}

pub retype : (t u : Sort) (x : Tree) → t ≡ u → HasType t x → HasType u x
retype t u x e h = subst (λ s. HasType s x) e h

pub retype_all : (t u : Sort) (xs : List Tree) → t ≡ u → AllTyped t xs → AllTyped u xs
retype_all t u xs e h = subst (λ s. AllTyped s xs) e h

pub typed_append : (t : Sort) (xs ys : List Tree) → AllTyped t xs → AllTyped t ys → AllTyped t (xs ++ ys)
typed_append t [] ys h k = k
typed_append t (x ∷ xs) ys h k = (h.0, typed_append t xs ys h.1 k)

-- a first part of a list of such elements
typed_front : (t : Sort) (xs ys : List Tree) → AllTyped t (xs ++ ys) → AllTyped t xs
typed_front t [] ys h = tt
typed_front t (x ∷ xs) ys h = (h.0, typed_front t xs ys h.1)

pub typed_prefix : (t : Sort) {xs ys : List Tree} → IsPrefix xs ys → AllTyped t ys → AllTyped t xs
typed_prefix t {xs = xs} p h = typed_front t xs p.rest (subst (λ l. AllTyped t l) p.is h)

-- the items of a list that was made of such elements
pub typed_row : (t : Sort) (xs : List Tree) → AllTyped t xs → AllTyped t (items (row xs))
typed_row t xs h = subst (λ l. AllTyped t l) (sym (items_of_row xs)) h

pub typed_if : (t : Sort) (b : Bool) (x y : Tree) → HasType t x → HasType t y → HasType t (if b then x else y)
typed_if t true x y h k = h
typed_if t false x y h k = k
