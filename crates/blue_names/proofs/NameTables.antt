-- What a table of names knows after one more name.
use Rattle.std.proofs.Common.{◌≡◌, ℕ, ◌+◌, ◌<◌, Bool, true, false, not, cond, List, [], ◌∷◌, ◌++◌, length, map, take, get_or, Option, Some, None, is_some, ◌||◌, refl, ap, sym, ◌∙◌, subst, ⊎_elim, arith}
use Rattle.std.specs.HashMap.{HashMap, UpdatesBy}
use Rattle.std.specs.List.{list_any}
use Rattle.std.specs.Option.{option_or}
use Rattle.std.specs.Str.{bytes_eq}
use Rattle.std.proofs.lemmas.Bool.{cases_Bool, false_from_ne_true}
use Rattle.std.proofs.lemmas.Grind.{common_steps}
use Rattle.std.proofs.lemmas.List.{map_more}
use Rattle.std.proofs.lemmas.Map.Text.{hash_map_updates_str}
use Rattle.std.proofs.lemmas.Slice.Eq.{bytes_eq-Decides}
use denote.Ref.{Bor}
use Rattle.elem_core.specs.Values.{same_text}
use Rattle.blue_names.specs.First.{when}
use Rattle.blue_names.specs.RuleLinks.{number_from}
use Rattle.stream_model.specs.Known.{CustomShape, head_shape}
use Rattle.stream_model.specs.declared.blueprint.Node.{Node}
use Rattle.stream_model.specs.declared.blueprint.WireDecl.{WireDecl}
use Rattle.stream_model.specs.declared.head.CustomHead.{CustomHead}
use Rattle.blue_names.specs.Names.{missing, unknown_end}
use Rattle.blue_names.specs.Table.{number_in, Numbers}

-- the test is the same both ways
pub bytes_eq_false-sym : (a b : List ℕ) → bytes_eq a b ≡ false → bytes_eq b a ≡ false
bytes_eq_false-sym a b h =
    false_from_ne_true (bytes_eq b a) (λ t. let e : b ≡ a = (bytes_eq-Decides b a).0 t in let u : bytes_eq a b ≡ true = (bytes_eq-Decides a b).1 (sym e) in cc)

option_or-none : {X : Type 0} (o : Option X) → option_or o None ≡ o
option_or-none None = refl
option_or-none (Some x) = refl

module _ {S : Type 0} (m n : HashMap (Bor (List ℕ)) ℕ S) (name : List ℕ) (k : ℕ) (u : UpdatesBy (λ x y. bytes_eq x.now y.now) (λ x. bytes_eq name x.now) m n (Some k)) where
  -- a name that is noted in a table that had none of it
  pub noted_free : None ≡ number_in m name → (q : List ℕ) → number_in n q ≡ option_or (number_in m q) (when (same_text q name) k)
  noted_free h q =
      let f : number_in n q ≡ cond (bytes_eq name q) (Some k) (number_in m q) = hash_map_updates_str name m n (Some k) u q in
      ⊎_elim
      (λ (t : bytes_eq name q ≡ true).
      let s : name ≡ q = (bytes_eq-Decides name q).0 t in
      let r : same_text q name ≡ true = (bytes_eq-Decides q name).1 (sym s) in
      let g : number_in m q ≡ None = subst (λ x. number_in m x ≡ None) s (sym h) in
      grind (arith, t, r, g, f))
      (λ (t : bytes_eq name q ≡ false).
      let r : same_text q name ≡ false = bytes_eq_false-sym name q t in
      grind (arith, t, r, f, option_or-none (number_in m q)))
      (cases_Bool (bytes_eq name q))

  -- a name that the table had keeps its number
  pub noted_again : (l : HashMap (Bor (List ℕ)) ℕ S) (first : ℕ) → UpdatesBy (λ x y. bytes_eq x.now y.now) (λ x. bytes_eq name x.now) n l (Some first) → Some first ≡ number_in m name
      → (q : List ℕ) → number_in l q ≡ option_or (number_in m q) (when (same_text q name) k)
  noted_again l first v h q =
      let f : number_in n q ≡ cond (bytes_eq name q) (Some k) (number_in m q) = hash_map_updates_str name m n (Some k) u q in
      let e : number_in l q ≡ cond (bytes_eq name q) (Some first) (number_in n q) = hash_map_updates_str name n l (Some first) v q in
      ⊎_elim
      (λ (t : bytes_eq name q ≡ true).
      let s : name ≡ q = (bytes_eq-Decides name q).0 t in
      let g : number_in m q ≡ Some first = subst (λ x. number_in m x ≡ Some first) s (sym h) in
      grind (arith, t, g, e))
      (λ (t : bytes_eq name q ≡ false).
      let r : same_text q name ≡ false = bytes_eq_false-sym name q t in
      grind (arith, t, r, e, f, option_or-none (number_in m q)))
      (cases_Bool (bytes_eq name q))

-- the number of a name in a list with one more at its end
pub number_from-push : (q : List ℕ) (n : ℕ) (names : List (List ℕ)) (name : List ℕ) → number_from q n (names ++ name ∷ []) ≡ option_or (number_from q n names) (when (same_text q name) (n + length names))
number_from-push q n [] name = grind arith
number_from-push q n (x ∷ xs) name = grind (arith, number_from-push q (n + 1) xs name)

-- a table of the first names, with one more
pub Numbers-more : {T S : Type 0} (f : T → List ℕ) (m n : HashMap (Bor (List ℕ)) ℕ S) (xs : List T) (i : ℕ) (x : T) (name : List ℕ) → i < length xs → x ≡ get_or xs i x → name ≡ f x
    → Numbers m (map f (take i xs)) → ((q : List ℕ) → number_in n q ≡ option_or (number_in m q) (when (same_text q name) i)) → Numbers n (map f (take (i + 1) xs))
Numbers-more f m n xs i x name lt is e old new =
    let l : length (map f (take i xs)) ≡ i = grind (arith, common_steps) in
    let t : map f (take (i + 1) xs) ≡ map f (take i xs) ++ f (get_or xs i x) ∷ [] = map_more f xs i x lt in
    record {
      at = λ q.
          let a = number_from-push q 0 (map f (take i xs)) name in
          let o : number_in m q ≡ number_from q 0 (map f (take i xs)) = old.at q in
          let w = new q in
          let y : map f (take i xs) ++ name ∷ [] ≡ map f (take (i + 1) xs) = cc in
          let z : number_from q 0 (map f (take (i + 1) xs)) ≡ option_or (number_from q 0 (map f (take i xs))) (when (same_text q name) (0 + length (map f (take i xs)))) = rw (← y) a in
          let zero_add : 0 + length (map f (take i xs)) ≡ i = omega (arith, l) in
          rw z (rw zero_add (w ∙ ap (λ u. option_or u (when (same_text q name) i)) o));
    }

-- each name is in the list where it has a number there
pub is_some-number_from : (q : List ℕ) (n : ℕ) (names : List (List ℕ)) → is_some (number_from q n names) ≡ list_any (same_text q) names
is_some-number_from q n [] = refl
is_some-number_from q n (x ∷ xs) = elim (same_text q x) as (λ b. is_some (cond b (Some n) (number_from q (n + 1) xs)) ≡ (b || list_any (same_text q) xs)) [ true ↦ refl | false ↦ is_some-number_from q (n + 1) xs ]

-- a name that the table has is not missing, and one that it has not is
pub missing_there : {S : Type 0} (m : HashMap (Bor (List ℕ)) ℕ S) (name : List ℕ) (names : List (List ℕ)) → Numbers m names → is_some (number_in m name) ≡ true → None ≡ missing name names
missing_there m name names n h =
    let e : list_any (same_text name) names ≡ true = sym (is_some-number_from name 0 names) ∙ ap is_some (sym (n.at name)) ∙ h in
    ap (λ b. when (not b) name) (sym e)

pub missing_not_there : {S : Type 0} (m : HashMap (Bor (List ℕ)) ℕ S) (name : List ℕ) (names : List (List ℕ)) → Numbers m names → is_some (number_in m name) ≡ false → Some name ≡ missing name names
missing_not_there m name names n h =
    let e : list_any (same_text name) names ≡ false = sym (is_some-number_from name 0 names) ∙ ap is_some (sym (n.at name)) ∙ h in
    ap (λ b. when (not b) name) (sym e)

-- a wire whose ends a table has, and one of which it lacks an end
module _ {S : Type 0} (m : HashMap (Bor (List ℕ)) ℕ S) (nodes : List Node) (w : WireDecl) (n : Numbers m (map (λ x. x.name) nodes)) where
  known : (name : List ℕ) (a : ℕ) → Some a ≡ number_in m name → missing name (map (λ x. x.name) nodes) ≡ None
  known name a e = sym (missing_there m name (map (λ x. x.name) nodes) n (ap is_some (sym e)))

  lacked : (name : List ℕ) → None ≡ number_in m name → missing name (map (λ x. x.name) nodes) ≡ Some name
  lacked name e = sym (missing_not_there m name (map (λ x. x.name) nodes) n (ap is_some (sym e)))

  pub both_known : (a b : ℕ) → Some a ≡ number_in m w.from → Some b ≡ number_in m w.to → unknown_end (map (λ x. x.name) nodes) w ≡ None
  both_known a b e f = ap (λ o. option_or o (missing w.to (map (λ x. x.name) nodes))) (known w.from a e) ∙ known w.to b f

  pub from_lacked : None ≡ number_in m w.from → unknown_end (map (λ x. x.name) nodes) w ≡ Some w.from
  from_lacked e = ap (λ o. option_or o (missing w.to (map (λ x. x.name) nodes))) (lacked w.from e)

  pub to_lacked : (a : ℕ) → Some a ≡ number_in m w.from → None ≡ number_in m w.to → unknown_end (map (λ x. x.name) nodes) w ≡ Some w.to
  to_lacked a e f = ap (λ o. option_or o (missing w.to (map (λ x. x.name) nodes))) (known w.from a e) ∙ lacked w.to f

-- the names of heads are those of what they say
pub shapes_named : (heads : List CustomHead) → map (λ (h : CustomHead). h.name) heads ≡ map (λ (s : CustomShape). s.name) (map head_shape heads)
shapes_named [] = refl
shapes_named (h ∷ hs) = ap (λ l. h.name ∷ l) (shapes_named hs)
