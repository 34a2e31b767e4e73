-- What a search by name finds among plugs or custom stages, where there is one of that name.
use Rattle.std.proofs.Common.{◌≡◌, ℕ, suc, ◌+◌, ◌<◌, Bool, true, false, ◌||◌, List, [], ◌∷◌, length, map, Option, Some, None, refl, sym, subst, arith}
use Rattle.std.specs.Prelude.{slice_get}
use Rattle.std.specs.List.{remove}
use Rattle.std.specs.Option.{option_or}
use Rattle.std.proofs.lemmas.Option.{slice_get_within}
use Rattle.std.proofs.lemmas.Slice.Eq.{bytes_eq-Decides}
use Rattle.elem_core.specs.Values.{same_text}
use Rattle.blue_names.specs.First.{first_from, when}
use Rattle.blue_names.specs.Names.{is_named}
use Rattle.graph_stage.specs.declared.custom.Custom.{Custom}
use Rattle.plug_logic.specs.declared.plug.Plug.{Plug}
use Rattle.materializer.specs.Handing.{names_of, plug_place, IsTaken}
use Rattle.materializer.specs.HandedCustoms.{custom_names, custom_place, IsTakenCustom}

-- where a search finds nothing, no test holds
none_here : (b : Bool) (k : ℕ) (later : Option ℕ) (rest : Bool) → (later ≡ None → rest ≡ true → ⊥) → option_or (when b k) later ≡ None → (b || rest) ≡ true → ⊥
none_here true k later rest behind h is = absurd cc
none_here false k later rest behind h is = behind h is

-- the place of the first of that name, from number k on
abbrev pub place_from : {A : Type 0} → (A → List ℕ) → List ℕ → ℕ → List A → Option ℕ
place_from text name k all = first_from (λ k a. when (same_text name (text a)) k) k all

module _ {A : Type 0} (text : A → List ℕ) (name : List ℕ) where
  -- one of that name, behind so many
  record IsFound (k : ℕ) (all : List A) (i : ℕ) : Type 0 where
    pub past : ℕ
    pub is : i ≡ k + past
    pub one : A
    pub there : slice_get all past ≡ Some one
    pub named : text one ≡ name

  found_here : (k : ℕ) (a : A) (all : List A) (i : ℕ) (b : Bool) (later : Option ℕ) → same_text name (text a) ≡ b → (later ≡ Some i → IsFound (k + 1) all i) → option_or (when b k) later ≡ Some i → IsFound k (a ∷ all) i
  found_here k a all i true later t behind h = let same : k ≡ i = cc in record { past = 0; is = omega (arith, same); one = a; there = refl; named = sym ((bytes_eq-Decides name (text a)).0 t) }
  found_here k a all i false later t behind h = let f = behind h in let is = f.is in record { past = suc f.past; is = omega (arith, is); one = f.one; there = f.there; named = f.named }

  found_from : (k : ℕ) (all : List A) (i : ℕ) → place_from text name k all ≡ Some i → IsFound k all i
  found_from k [] i h = absurd cc
  found_from k (a ∷ all) i h = found_here k a all i (same_text name (text a)) _ refl (λ e. found_from (k + 1) all i e) h

  none_from : (k : ℕ) (all : List A) → place_from text name k all ≡ None → is_named name (map text all) ≡ true → ⊥
  none_from k [] h is = absurd cc
  none_from k (a ∷ all) h is = none_here (same_text name (text a)) k _ _ (none_from (k + 1) all) h is

  found : (all : List A) (i : ℕ) → place_from text name 0 all ≡ Some i → (a : A) × ((slice_get all i ≡ Some a) × (text a ≡ name))
  found all i h =
      let f = found_from 0 all i h in
      let is = f.is in
      let e : f.past ≡ i = omega (arith, is) in
      (f.one, (subst (λ k. slice_get all k ≡ Some f.one) e f.there, f.named))

  within : (all : List A) (i : ℕ) → place_from text name 0 all ≡ Some i → i < length all
  within all i h = let f = found all i h in slice_get_within all i f.0 f.1.0

-- ---- plugs

-- one that is named is found
pub is_there : {L : Type 0} (name : List ℕ) (plugs : List (Plug L)) → plug_place name plugs ≡ None → is_named name (names_of plugs) ≡ true → ⊥
is_there name plugs h is = none_from (λ (p : Plug _). p.head.name) name 0 plugs h is

-- its place is within them
pub found_within : {L : Type 0} (name : List ℕ) (plugs : List (Plug L)) (i : ℕ) → plug_place name plugs ≡ Some i → i < length plugs
found_within name plugs i h = within (λ (p : Plug _). p.head.name) name plugs i h

-- what is removed at its place is it
pub found_taken : {L : Type 0} (name : List ℕ) (old : List (Plug L)) (i : ℕ) (p : Plug L) (new : List (Plug L)) → plug_place name old ≡ Some i → ((d : Plug L) → slice_get old i ≡ Some d → p ≡ d) → new ≡ remove old i → IsTaken name old p new
found_taken name old i p new h is left =
    let f = found (λ (p : Plug _). p.head.name) name old i h in
    let same : p ≡ f.0 = is f.0 f.1.0 in
    record { at = i; there = subst (λ q. slice_get old i ≡ Some q) (sym same) f.1.0; named = subst (λ (q : Plug _). q.head.name ≡ name) (sym same) f.1.1; left = left }

-- ---- custom stages

-- one that is named is found
pub custom_is_there : {H : Type 0} (name : List ℕ) (customs : List (Custom H)) → custom_place name customs ≡ None → is_named name (custom_names customs) ≡ true → ⊥
custom_is_there name customs h is = none_from (λ (c : Custom _). c.head.name) name 0 customs h is

-- its place is within them
pub custom_within : {H : Type 0} (name : List ℕ) (customs : List (Custom H)) (i : ℕ) → custom_place name customs ≡ Some i → i < length customs
custom_within name customs i h = within (λ (c : Custom _). c.head.name) name customs i h

-- what is removed at its place is it
pub custom_taken : {H : Type 0} (name : List ℕ) (old : List (Custom H)) (i : ℕ) (c : Custom H) (new : List (Custom H)) → custom_place name old ≡ Some i → ((d : Custom H) → slice_get old i ≡ Some d → c ≡ d) → new ≡ remove old i → IsTakenCustom name old c new
custom_taken name old i c new h is left =
    let f = found (λ (c : Custom _). c.head.name) name old i h in
    let same : c ≡ f.0 = is f.0 f.1.0 in
    record { at = i; there = subst (λ d. slice_get old i ≡ Some d) (sym same) f.1.0; named = subst (λ (d : Custom _). d.head.name ≡ name) (sym same) f.1.1; left = left }
