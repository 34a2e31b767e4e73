-- The places of nodes: two nodes have one place exactly where they name one switch.
use Rattle.std.proofs.Common.{◌≡◌, ℕ, zero, suc, ◌+◌, ◌<◌, Bool, true, false, List, [], ◌∷◌, length, map, refl, sym, ap, ◌∙◌, subst, arith, Option, Some, None}
use Rattle.std.specs.Prelude.{slice_get, if◌then◌else◌}
use Rattle.std.proofs.lemmas.Slice.Eq.{bytes_eq-Decides}
use Rattle.elem_core.specs.Values.{same_text}
use Rattle.stream_model.specs.declared.kind.Kind.{Kind}
use Rattle.stream_model.specs.declared.kind.Kind.TheVariants.{Valve, TripShutdown, TripAbort}
use Rattle.stage_switch.specs.Settling.{IsAt}
use Rattle.materializer.specs.Board.{switch_of, is_at_switch, least_at_switch, place_by, switch_place, places_in}
use Rattle.materializer.specs.Dealing.{AreRooted}

-- ---- lists

pub mapped_at : {A B : Type 0} (f : A → B) (xs : List A) (i : ℕ) (x : A) → slice_get xs i ≡ Some x → slice_get (map f xs) i ≡ Some (f x)
mapped_at f [] i x e = absurd cc
mapped_at f (y ∷ ys) zero x e = let same : y ≡ x = cc in ap (λ z. Some (f z)) same
mapped_at f (y ∷ ys) (suc i) x e = mapped_at f ys i x e

pub unmapped_at : {A B : Type 0} (f : A → B) (xs : List A) (i : ℕ) (y : B) → slice_get (map f xs) i ≡ Some y → (x : A) × ((slice_get xs i ≡ Some x) × (y ≡ f x))
unmapped_at f [] i y e = absurd cc
unmapped_at f (x ∷ xs) zero y e = (x, (refl, cc))
unmapped_at f (x ∷ xs) (suc i) y e = unmapped_at f xs i y e

pub there_is : {A : Type 0} (xs : List A) (i : ℕ) → i < length xs → (x : A) × (slice_get xs i ≡ Some x)
there_is [] i less = absurd (omega (arith, less))
there_is (x ∷ xs) zero less = (x, refl)
there_is (x ∷ xs) (suc i) less = there_is xs i (omega (arith, less))

pub is_within : {A : Type 0} (xs : List A) (i : ℕ) (x : A) → slice_get xs i ≡ Some x → i < length xs
is_within [] i x e = absurd cc
is_within (y ∷ ys) zero x e = omega arith
is_within (y ∷ ys) (suc i) x e = let less = is_within ys i x e in omega (arith, less)

-- ---- names

pub same_name : (s name : List ℕ) → s ≡ name → same_text s name ≡ true
same_name s name e = (bytes_eq-Decides s name).1 e

pub name_same : (s name : List ℕ) → same_text s name ≡ true → s ≡ name
name_same s name h = (bytes_eq-Decides s name).0 h

pub names_it : (name : List ℕ) (o : Option (List ℕ)) → is_at_switch name o ≡ true → o ≡ Some name
names_it name None h = cc
names_it name (Some s) h = ap (λ t. Some t) (name_same s name h)

pub is_named : (name : List ℕ) (o : Option (List ℕ)) → o ≡ Some name → is_at_switch name o ≡ true
is_named name None e = cc
is_named name (Some s) e = let f : s ≡ name = cc in same_name s name f

-- a node is at a switch where it names it
pub at_named : (name : List ℕ) (kind : Kind) → IsAt name kind → switch_of kind ≡ Some name
at_named name (Valve s) at = ap (λ t. Some t) (name_same s name at)
at_named name (TripShutdown s n) at = ap (λ t. Some t) (name_same s name at)
at_named name (TripAbort s n) at = ap (λ t. Some t) (name_same s name at)
at_named name kind at = absurd at

pub named_at : (name : List ℕ) (kind : Kind) → switch_of kind ≡ Some name → IsAt name kind
named_at name (Valve s) e = let f : s ≡ name = cc in same_name s name f
named_at name (TripShutdown s n) e = let f : s ≡ name = cc in same_name s name f
named_at name (TripAbort s n) e = let f : s ≡ name = cc in same_name s name f
named_at name kind e = absurd cc

-- ---- places

-- the node that was found names the switch
record IsFound (k : ℕ) (name : List ℕ) (kinds : List Kind) (i : ℕ) : Type 0 where
  past : ℕ
  is : i ≡ k + past
  kind : Kind
  at : slice_get kinds past ≡ Some kind
  names : switch_of kind ≡ Some name

found_at : (k : ℕ) (name : List ℕ) (kind : Kind) (kinds : List Kind) (i : ℕ) (b : Bool) → is_at_switch name (switch_of kind) ≡ b → (least_at_switch (k + 1) name kinds ≡ Some i → IsFound (k + 1) name kinds i)
    → (if b then Some k else least_at_switch (k + 1) name kinds) ≡ Some i → IsFound k name (kind ∷ kinds) i
found_at k name kind kinds i true t later h = let same : k ≡ i = cc in record { past = 0; is = omega (arith, same); kind = kind; at = refl; names = names_it name (switch_of kind) t }
found_at k name kind kinds i false t later h = let f = later h in let is = f.is in record { past = suc f.past; is = omega (arith, is); kind = f.kind; at = f.at; names = f.names }

found : (k : ℕ) (name : List ℕ) (kinds : List Kind) (i : ℕ) → least_at_switch k name kinds ≡ Some i → IsFound k name kinds i
found k name [] i e = cc
found k name (kind ∷ kinds) i e = found_at k name kind kinds i (is_at_switch name (switch_of kind)) refl (λ h. found (k + 1) name kinds i h) e

finds_at : (k : ℕ) (name : List ℕ) (x : Kind) (xs : List Kind) (kind : Kind) (b : Bool) → is_at_switch name (switch_of x) ≡ b → switch_of kind ≡ Some name → (d : ℕ) → slice_get (x ∷ xs) d ≡ Some kind
    → ((d : ℕ) → slice_get xs d ≡ Some kind → (i : ℕ) × (least_at_switch (k + 1) name xs ≡ Some i)) → (i : ℕ) × ((if b then Some k else least_at_switch (k + 1) name xs) ≡ Some i)
finds_at k name x xs kind true t names d at later = (k, refl)
finds_at k name x xs kind false t names zero at later = let same : x ≡ kind = cc in let yes = is_named name (switch_of x) (ap switch_of same ∙ names) in cc
finds_at k name x xs kind false t names (suc d) at later = later d at

finds : (k : ℕ) (name : List ℕ) (kinds : List Kind) (d : ℕ) (kind : Kind) → slice_get kinds d ≡ Some kind → switch_of kind ≡ Some name → (i : ℕ) × (least_at_switch k name kinds ≡ Some i)
finds k name [] d kind at names = cc
finds k name (x ∷ xs) d kind at names = finds_at k name x xs kind (is_at_switch name (switch_of x)) refl names d at (λ d at. finds (k + 1) name xs d kind at names)

-- the switch of a place, which a node there names, as its least node does
pub record Places (kinds : List Kind) (o : Option (List ℕ)) (j : ℕ) : Type 0 where
  pub name : List ℕ
  pub names : o ≡ Some name
  pub kind : Kind
  pub at : slice_get kinds j ≡ Some kind
  pub least : switch_of kind ≡ Some name

module _ (kinds : List Kind) where
  pub place_names : (o : Option (List ℕ)) (j : ℕ) → place_by kinds o ≡ Some j → Places kinds o j
  place_names None j e = cc
  place_names (Some name) j e =
      let f = found 0 name kinds j e in
      let same : f.past ≡ j = (let e = f.is in omega (arith, e)) in
      record { name = name; names = refl; kind = f.kind; at = subst (λ i. slice_get kinds i ≡ Some f.kind) same f.at; least = f.names }

  -- two nodes of one place name one switch
  pub one_name : (o p : Option (List ℕ)) (j : ℕ) → place_by kinds o ≡ Some j → place_by kinds p ≡ Some j → o ≡ p
  one_name o p j e f =
      let x = place_names o j e in
      let y = place_names p j f in
      let same : x.kind ≡ y.kind = let s : Some x.kind ≡ Some y.kind = sym x.at ∙ y.at in cc in
      x.names ∙ sym x.least ∙ ap switch_of same ∙ y.least ∙ sym y.names

  -- a node that names a switch has a place
  pub has_place : (k : ℕ) (kind : Kind) (name : List ℕ) → slice_get kinds k ≡ Some kind → switch_of kind ≡ Some name → (j : ℕ) × (switch_place kinds kind ≡ Some j)
  has_place k kind name at names = let f = finds 0 name kinds k kind at names in (f.0, ap (place_by kinds) names ∙ f.1)

  -- what the place of a node is
  pub place_at : (k : ℕ) (kind : Kind) (p : Option ℕ) → slice_get kinds k ≡ Some kind → slice_get (places_in kinds) k ≡ Some p → p ≡ switch_place kinds kind
  place_at k kind p at is = let e : Some p ≡ Some (switch_place kinds kind) = sym is ∙ mapped_at (switch_place kinds) kinds k kind at in cc

  pub kind_there : (k : ℕ) (p : Option ℕ) → slice_get (places_in kinds) k ≡ Some p → (kind : Kind) × ((slice_get kinds k ≡ Some kind) × (p ≡ switch_place kinds kind))
  kind_there k p is = unmapped_at (switch_place kinds) kinds k p is

  -- the least node at a switch has the place that all its nodes have
  pub rooted : AreRooted (places_in kinds)
  rooted = λ k j e.
      let u = kind_there k (Some j) e in
      let p = place_names (switch_of u.0) j (sym u.1.1) in
      let own : switch_place kinds p.kind ≡ Some j = ap (place_by kinds) (p.least ∙ sym p.names) ∙ sym u.1.1 in
      mapped_at (switch_place kinds) kinds j p.kind p.at ∙ ap (λ q. Some q) own
