-- Histories: how told lists are put together, and that a list can be read from what was told.
use Rattle.std.proofs.Common.{◌≡◌, List, [], ◌∷◌, ◌++◌, refl, ap}
use Rattle.elem_core.specs.Tree.{Tree}
use Rattle.stream_model.specs.Outlook.{End, unended}
use Rattle.elem_core.specs.declared.item.Item.{Item}
use Rattle.elem_core.specs.declared.item.Item.TheVariants as item
use Rattle.stage_core.specs.Held.{told, end_items}

-- behind elements
pub told-append : (l k : List Tree) (e : End) → told (l ++ k) e ≡ told l unended ++ told k e
told-append [] k e = refl
told-append (t ∷ l) k e = ap (λ (is : List Item). item.Elem t ∷ is) (told-append l k e)

pub told-end : (l : List Tree) (e : End) → told l e ≡ told l unended ++ end_items e
told-end [] e = refl
told-end (t ∷ l) e = ap (λ (is : List Item). item.Elem t ∷ is) (told-end l e)

-- elements that were told in two parts
pub record Parts (l : List Tree) (out : List Item) (k : List Tree) : Type 0 where
  pub first : List Tree
  pub out_is : out ≡ told first unended
  pub list_is : l ≡ first ++ k

told_same : (l k : List Tree) → told l unended ≡ told k unended → l ≡ k
told_same [] [] h = refl
told_same [] (t ∷ k) h = cc
told_same (t ∷ l) [] h = cc
told_same (t ∷ l) (u ∷ k) h =
    let e : told l unended ≡ told k unended = cc in
    let i : l ≡ k = told_same l k e in
    let j : t ≡ u = cc in
    cc

pub parts : (l : List Tree) (out : List Item) (k : List Tree) → told l unended ≡ out ++ told k unended → Parts l out k
parts l [] k h = record { first = []; out_is = refl; list_is = told_same l k h }
parts [] (i ∷ out) k h = cc
parts (t ∷ l) (i ∷ out) k h =
    let e : told l unended ≡ out ++ told k unended = cc in
    let j : i ≡ item.Elem t = cc in
    let p = parts l out k e in
    record {
      first = t ∷ p.first;
      out_is = let q = p.out_is in cc;
      list_is = ap (λ (x : List Tree). t ∷ x) p.list_is;
    }
