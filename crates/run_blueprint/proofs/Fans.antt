-- What the nodes with several inputs give is of the type of their inputs.
use Rattle.std.proofs.Common.{ℕ, zero, suc, ◌+◌, ◌-◌, Bool, true, false, List, [], ◌∷◌, ◌++◌, map, Option, Some, None}
use Rattle.std.specs.Prelude.{if◌then◌else◌, nat_le, slice_get, slice_set}
use Rattle.std.specs.Ordering.{is_lt}
use Rattle.elem_core.specs.Sort.{Sort, pair_type}
use Rattle.elem_core.specs.Tree.{Tree}
use Rattle.elem_core.specs.Order.{tree_cmp}
use Rattle.stream_model.specs.Outlook.{Outlook}
use Rattle.stream_model.specs.FanIn.{Tagged, tag, concat_of, Inlet, inlets, rest_of, interleave_of, against, sorted_of, pairs, next_of, merge_of}
use Rattle.run_blueprint.specs.Types.{Each, HasType, AllTyped, OutlooksTyped}

-- halves of two lists, in pairs
pub pairs_typed : (t u : Sort) (xs ys : List Tree) → AllTyped t xs → AllTyped u ys → AllTyped (pair_type t u) (pairs xs ys)
pairs_typed t u [] ys h k = tt
pairs_typed t u (x ∷ xs) [] h k = tt
pairs_typed t u (x ∷ xs) (y ∷ ys) h k = ((h.0, k.0), pairs_typed t u xs ys h.1 k.1)

module _ (t : Sort) where
  abbrev pub TagsTyped : List Tagged → Type 0
  TagsTyped l = Each (λ (x : Tagged). HasType t x.item) l

  pub items_typed : (l : List Tagged) → TagsTyped l → AllTyped t (map (λ x. x.item) l)
  items_typed [] h = tt
  items_typed (x ∷ xs) h = (h.0, items_typed xs h.1)

  pub tagged : (n : ℕ) (l : List Tree) → AllTyped t l → TagsTyped (map (tag n) l)
  tagged n [] h = tt
  tagged n (x ∷ xs) h = (h.0, tagged n xs h.1)

  tags_append : (l r : List Tagged) → TagsTyped l → TagsTyped r → TagsTyped (l ++ r)
  tags_append [] r h k = k
  tags_append (x ∷ xs) r h k = (h.0, tags_append xs r h.1 k)

  tags_if : (b : Bool) (l r : List Tagged) → TagsTyped l → TagsTyped r → TagsTyped (if b then l else r)
  tags_if true l r h k = h
  tags_if false l r h k = k

  -- ---- one input after another

  pub concat_typed : (n : ℕ) (os : List Outlook) → OutlooksTyped t os → TagsTyped (concat_of n os)
  concat_typed n [] h = tt
  concat_typed n (o ∷ os) h =
      tags_append (map (tag n) o.list) (if o.ends then concat_of (n + 1) os else []) (tagged n o.list h.0)
      (tags_if o.ends (concat_of (n + 1) os) [] (concat_typed (n + 1) os h.1) tt)

  -- ---- in turn

  abbrev InletsTyped : List Inlet → Type 0
  InletsTyped q = Each (λ (i : Inlet). AllTyped t i.list) q

  pub inlets_typed : (n : ℕ) (os : List Outlook) → OutlooksTyped t os → InletsTyped (inlets n os)
  inlets_typed n [] h = tt
  inlets_typed n (o ∷ os) h = (h.0, inlets_typed (n + 1) os h.1)

  inlets_behind : (q : List Inlet) (i : Inlet) → InletsTyped q → AllTyped t i.list → InletsTyped (q ++ i ∷ [])
  inlets_behind [] i h k = (k, tt)
  inlets_behind (j ∷ q) i h k = (h.0, inlets_behind q i h.1 k)

  turn_typed : (segment fuel left : ℕ) (i : Inlet) (q : List Inlet) (l : List Tree) → ((m : ℕ) (r : List Inlet) → InletsTyped r → TagsTyped (interleave_of segment fuel m r)) → AllTyped t l → InletsTyped q
      → TagsTyped (elim l as (λ _. List Tagged) [
        | [] ↦ if i.ends then interleave_of segment fuel segment q else []
        | x ∷ xs ↦ tag i.port x ∷ (if nat_le left 1 then interleave_of segment fuel segment (q ++ rest_of i xs ∷ []) else interleave_of segment fuel (left - 1) (rest_of i xs ∷ q))
      ])
  turn_typed segment fuel left i q [] more h k = tags_if i.ends (interleave_of segment fuel segment q) [] (more segment q k) tt
  turn_typed segment fuel left i q (x ∷ xs) more h k = (
    h.0,
    tags_if (nat_le left 1) (interleave_of segment fuel segment (q ++ rest_of i xs ∷ [])) (interleave_of segment fuel (left - 1) (rest_of i xs ∷ q))
        (more segment (q ++ rest_of i xs ∷ []) (inlets_behind q (rest_of i xs) k h.1)) (more (left - 1) (rest_of i xs ∷ q) (h.1, k)),
  )

  pub interleave_typed : (segment fuel left : ℕ) (q : List Inlet) → InletsTyped q → TagsTyped (interleave_of segment fuel left q)
  interleave_typed segment zero left q h = tt
  interleave_typed segment (suc fuel) left [] h = tt
  interleave_typed segment (suc fuel) left (i ∷ q) h = turn_typed segment fuel left i q i.list (λ m r k. interleave_typed segment fuel m r k) h.0 h.1

  -- ---- by order

  against_typed : (x : Tree) (rest : List Tagged) (k : List Tree → List Tagged) (ys : List Tree) → HasType t x → TagsTyped rest → ((l : List Tree) → AllTyped t l → TagsTyped (k l)) → AllTyped t ys → TagsTyped (against x rest k ys)
  against_typed x rest k [] h r more a = r
  against_typed x rest k (y ∷ ys) h r more a =
      tags_if (is_lt (tree_cmp y x)) (tag 1 y ∷ against x rest k ys) (tag 0 x ∷ k (y ∷ ys)) (a.0, against_typed x rest k ys h r more a.1) (h, more (y ∷ ys) a)

  pub sorted_typed : (first second : Bool) (xs ys : List Tree) → AllTyped t xs → AllTyped t ys → TagsTyped (sorted_of first second xs ys)
  sorted_typed first second [] ys h k = tags_if first (map (tag 1) ys) [] (tagged 1 ys k) tt
  sorted_typed first second (x ∷ xs) ys h k =
      against_typed x (if second then map (tag 0) (x ∷ xs) else []) (sorted_of first second xs) ys h.0
      (tags_if second (map (tag 0) (x ∷ xs)) [] (tagged 0 (x ∷ xs) h) tt) (λ l a. sorted_typed first second xs l h.1 a) k

  -- ---- by moves

  abbrev pub ListsTyped : List (List Tree) → Type 0
  ListsTyped ls = Each (AllTyped t) ls

  pub lists_typed : (os : List Outlook) → OutlooksTyped t os → ListsTyped (map (λ o. o.list) os)
  lists_typed [] h = tt
  lists_typed (o ∷ os) h = (h.0, lists_typed os h.1)

  abbrev IfListed : Option (List Tree) → Type 0
  IfListed None = Unit {0}
  IfListed (Some l) = AllTyped t l

  listed : (ls : List (List Tree)) (i : ℕ) → ListsTyped ls → IfListed (slice_get ls i)
  listed [] i h = tt
  listed (l ∷ ls) zero h = h.0
  listed (l ∷ ls) (suc i) h = listed ls i h.1

  set_typed : (ls : List (List Tree)) (i : ℕ) (l : List Tree) → ListsTyped ls → AllTyped t l → ListsTyped (slice_set ls i l)
  set_typed [] i l h k = tt
  set_typed (m ∷ ls) zero l h k = (k, h.1)
  set_typed (m ∷ ls) (suc i) l h k = (h.0, set_typed ls i l h.1 k)

  next_typed : (i : ℕ) (ls : List (List Tree)) (o : Option (List Tree)) (more : List (List Tree) → List Tagged) → ListsTyped ls → IfListed o → ((ms : List (List Tree)) → ListsTyped ms → TagsTyped (more ms)) → TagsTyped (next_of i ls o more)
  next_typed i ls None more h k m = m ls h
  next_typed i ls (Some []) more h k m = m ls h
  next_typed i ls (Some (x ∷ xs)) more h k m = (k.0, m (slice_set ls i xs) (set_typed ls i xs h k.1))

  pub merge_typed : (moves : List ℕ) (ls : List (List Tree)) → ListsTyped ls → TagsTyped (merge_of moves ls)
  merge_typed [] ls h = tt
  merge_typed (i ∷ moves) ls h = next_typed i ls (slice_get ls i) (merge_of moves) h (listed ls i h) (λ ms k. merge_typed moves ms k)
