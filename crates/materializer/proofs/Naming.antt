-- The names of the plugs and of the custom stages that are left, and of those that the nodes behind want.
use Rattle.std.proofs.Common.{◌≡◌, ℕ, zero, suc, ◌+◌, Bool, true, false, ◌||◌, if◌then◌else◌, List, [], ◌∷◌, map, Option, Some, None, refl, sym, subst}
use Rattle.std.specs.Prelude.{slice_get, ⊤}
use Rattle.std.specs.List.{list_any, remove}
use Rattle.std.specs.Option.{option_or}
use Rattle.elem_core.specs.Values.{same_text}
use Rattle.stream_model.specs.declared.blueprint.Node.{Node}
use Rattle.stream_model.specs.declared.kind.Kind.{Kind}
use Rattle.stream_model.specs.declared.kind.Kind.TheVariants as kind
use Rattle.blue_names.specs.CustomPorts.{custom_of}
use Rattle.blue_names.specs.First.{first_from}
use Rattle.blue_names.specs.Names.{Claim, called, hires, same_claim, text_of, first_again, is_named, missing, plug_of, unknown_plug_at, unknown_guest_at, claiming, guests_of_nodes}

-- each node that names one, of plugs or of custom stages, names one of these
abbrev pub Known : (Kind → Option (List ℕ)) → List (List ℕ) → List Node → Type 0
Known of names [] = ⊤
Known of names (n ∷ ns) = (unknown_plug_at names (of n.kind) ≡ None) × Known of names ns

-- it is another name
abbrev pub Differs : List ℕ → Option (List ℕ) → Type 0
Differs name None = ⊤
Differs name (Some q) = same_text q name ≡ false

-- none of these nodes names it
abbrev pub Apart : (Kind → Option (List ℕ)) → List ℕ → List Node → Type 0
Apart of name [] = ⊤
Apart of name (n ∷ ns) = Differs name (of n.kind) × Apart of name ns

-- the same of a name that a node may have
abbrev pub IsOnce : (Kind → Option (List ℕ)) → Option (List ℕ) → List Node → Type 0
IsOnce of None ns = ⊤
IsOnce of (Some name) ns = Apart of name ns

-- no two of these nodes name one
abbrev pub AreOnce : (Kind → Option (List ℕ)) → List Node → Type 0
AreOnce of [] = ⊤
AreOnce of (n ∷ ns) = IsOnce of (of n.kind) ns × AreOnce of ns

-- ---- names that are known

pub none_some : {A : Type 0} {x : A} → None ≡ Some x → ⊥
none_some e = absurd cc

pub none_both : {F : Type 0} (o p : Option F) → option_or o p ≡ None → (o ≡ None) × (p ≡ None)
none_both None p h = (refl, h)
none_both (Some x) p h = absurd cc

pub known_all : (plugs customs : List (List ℕ)) (k : ℕ) (ns : List Node) → first_from (λ _ n. unknown_guest_at plugs customs n.kind) k ns ≡ None → Known plug_of plugs ns × Known custom_of customs ns
known_all plugs customs k [] h = (tt, tt)
known_all plugs customs k (n ∷ ns) h =
    let two = none_both _ _ h in
    let at = none_both (unknown_plug_at plugs (plug_of n.kind)) (unknown_plug_at customs (custom_of n.kind)) two.0 in
    let rest = known_all plugs customs (k + 1) ns two.1 in
    ((at.0, rest.0), (at.1, rest.1))

-- a name is known where it is one of them, and else it is not
pub known_name : (names : List (List ℕ)) (name : List ℕ) (b : Bool) → is_named name names ≡ b → missing name names ≡ None → b ≡ true
known_name names name true is h = refl
known_name names name false is h = absurd cc

pub not_missing : (names : List (List ℕ)) (name : List ℕ) → is_named name names ≡ true → missing name names ≡ None
not_missing names name is = rw is refl

-- ---- names that are told once

-- a test that fails with these claims fails with those
abbrev Fewer : List Claim → List Claim → Type 0
Fewer more fewer = (c : Claim) → list_any (same_claim c) more ≡ false → list_any (same_claim c) fewer ≡ false

fewer_head : (p : Bool) (more fewer : Bool) → (more ≡ false → fewer ≡ false) → (p || more) ≡ false → (p || fewer) ≡ false
fewer_head true more fewer h e = absurd cc
fewer_head false more fewer h e = h e

-- the first of them is none of those before it, and is before the others
pub once_head : (c : Claim) (before cs : List Claim) (b : Bool) → list_any (same_claim c) before ≡ b → (if b then Some (text_of c) else first_again (c ∷ before) cs) ≡ None → (b ≡ false) × (first_again (c ∷ before) cs ≡ None)
once_head c before cs true is h = absurd cc
once_head c before cs false is h = (refl, h)

once_fewer : (more fewer cs : List Claim) → Fewer more fewer → first_again more cs ≡ None → first_again fewer cs ≡ None
once_fewer more fewer [] less h = refl
once_fewer more fewer (c ∷ cs) less h =
    let head = once_head c more cs (list_any (same_claim c) more) refl h in
    let none : list_any (same_claim c) fewer ≡ false = less c head.0 in
    let rest : first_again (c ∷ fewer) cs ≡ None = once_fewer (c ∷ more) (c ∷ fewer) cs (λ d. fewer_head (same_claim d c) _ _ (less d)) head.1 in
    rw none rest

-- this claim is among them
abbrev pub Holds : (List ℕ → Claim) → List ℕ → List Claim → Type 0
Holds claim name before = (q : List ℕ) → list_any (same_claim (claim q)) before ≡ false → same_text q name ≡ false

pub behind : (p q r : Bool) → (q ≡ false → r ≡ false) → (p || q) ≡ false → r ≡ false
behind true q r h e = absurd cc
behind false q r h e = h e

pub first_of : (p q : Bool) → (p || q) ≡ false → p ≡ false
first_of true q e = absurd cc
first_of false q e = refl

-- a node that names a plug names no custom stage
pub no_custom_at : (k : Kind) (q : List ℕ) → plug_of k ≡ Some q → custom_of k ≡ None
no_custom_at (kind.Plug p) q e = refl
no_custom_at k q e = absurd (none_some e)

-- the plugs that nodes name

plug_apart_at : (name : List ℕ) (before : List Claim) (o c : Option (List ℕ)) (cs : List Claim) → Holds called name before → first_again before (claiming o c cs) ≡ None
    → Differs name o × ((b : List Claim) × (Holds called name b × (first_again b cs ≡ None)))
plug_apart_at name before None None cs holds h = (tt, (before, (holds, h)))
plug_apart_at name before None (Some r) cs holds h =
    let head = once_head (hires r) before cs (list_any (same_claim (hires r)) before) refl h in
    (tt, (hires r ∷ before, ((λ q. behind false _ _ (holds q)), head.1)))
plug_apart_at name before (Some r) c cs holds h =
    let head = once_head (called r) before cs (list_any (same_claim (called r)) before) refl h in
    (holds r head.0, (called r ∷ before, ((λ q. behind (same_text q r) _ _ (holds q)), head.1)))

plugs_apart : (name : List ℕ) (before : List Claim) (ns : List Node) → Holds called name before → first_again before (guests_of_nodes ns) ≡ None → Apart plug_of name ns
plugs_apart name before [] holds h = tt
plugs_apart name before (n ∷ ns) holds h = let at = plug_apart_at name before (plug_of n.kind) (custom_of n.kind) (guests_of_nodes ns) holds h in (at.0, plugs_apart name at.1.0 ns at.1.1.0 at.1.1.1)

plug_once_at : (o c : Option (List ℕ)) (ns : List Node) → first_again [] (claiming o c (guests_of_nodes ns)) ≡ None → IsOnce plug_of o ns × (first_again [] (guests_of_nodes ns) ≡ None)
plug_once_at None None ns h = (tt, h)
plug_once_at None (Some r) ns h = (tt, once_fewer (hires r ∷ []) [] (guests_of_nodes ns) (λ d e. refl) h)
plug_once_at (Some name) c ns h =
    (plugs_apart name (called name ∷ []) ns (λ q. first_of (same_text q name) false) h, once_fewer (called name ∷ []) [] (guests_of_nodes ns) (λ d e. refl) h)

-- the custom stages that nodes name

custom_apart_at : (name : List ℕ) (before : List Claim) (o c : Option (List ℕ)) (cs : List Claim) → ((q : List ℕ) → o ≡ Some q → c ≡ None) → Holds hires name before → first_again before (claiming o c cs) ≡ None
    → Differs name c × ((b : List Claim) × (Holds hires name b × (first_again b cs ≡ None)))
custom_apart_at name before None None cs one holds h = (tt, (before, (holds, h)))
custom_apart_at name before None (Some r) cs one holds h =
    let head = once_head (hires r) before cs (list_any (same_claim (hires r)) before) refl h in
    (holds r head.0, (hires r ∷ before, ((λ q. behind (same_text q r) _ _ (holds q)), head.1)))
custom_apart_at name before (Some r) None cs one holds h =
    let head = once_head (called r) before cs (list_any (same_claim (called r)) before) refl h in
    (tt, (called r ∷ before, ((λ q. behind false _ _ (holds q)), head.1)))
custom_apart_at name before (Some r) (Some c) cs one holds h = absurd (none_some (sym (one r refl)))

customs_apart : (name : List ℕ) (before : List Claim) (ns : List Node) → Holds hires name before → first_again before (guests_of_nodes ns) ≡ None → Apart custom_of name ns
customs_apart name before [] holds h = tt
customs_apart name before (n ∷ ns) holds h = let at = custom_apart_at name before (plug_of n.kind) (custom_of n.kind) (guests_of_nodes ns) (no_custom_at n.kind) holds h in (at.0, customs_apart name at.1.0 ns at.1.1.0 at.1.1.1)

custom_once_at : (o c : Option (List ℕ)) (ns : List Node) → ((q : List ℕ) → o ≡ Some q → c ≡ None) → first_again [] (claiming o c (guests_of_nodes ns)) ≡ None → IsOnce custom_of c ns
custom_once_at o None ns one h = tt
custom_once_at None (Some name) ns one h = customs_apart name (hires name ∷ []) ns (λ q. first_of (same_text q name) false) h
custom_once_at (Some r) (Some name) ns one h = absurd (none_some (sym (one r refl)))

pub once_all : (ns : List Node) → first_again [] (guests_of_nodes ns) ≡ None → AreOnce plug_of ns × AreOnce custom_of ns
once_all [] h = (tt, tt)
once_all (n ∷ ns) h =
    let at = plug_once_at (plug_of n.kind) (custom_of n.kind) ns h in
    let here = custom_once_at (plug_of n.kind) (custom_of n.kind) ns (no_custom_at n.kind) h in
    let rest = once_all ns at.1 in
    ((at.0, rest.0), (here, rest.1))

-- ---- the names that are left

still_head : (p a b : Bool) → (a ≡ true → b ≡ true) → (p || a) ≡ true → (p || b) ≡ true
still_head true a b h e = refl
still_head false a b h e = h e

module _ {A : Type 0} (text : A → List ℕ) where
  -- another name is still there
  still_named : (q : List ℕ) (old : List A) (at : ℕ) (a : A) → slice_get old at ≡ Some a → same_text q (text a) ≡ false → is_named q (map text old) ≡ true → is_named q (map text (remove old at)) ≡ true
  still_named q [] at a there other is = absurd cc
  still_named q (x ∷ xs) zero a there other is =
      let same : x ≡ a = cc in
      let no : same_text q (text x) ≡ false = rw same other in
      subst (λ b. (b || is_named q (map text xs)) ≡ true) no is
  still_named q (x ∷ xs) (suc at) a there other is = still_head (same_text q (text x)) _ _ (still_named q xs at a there other) is

  still_known_at : (name : List ℕ) (o : Option (List ℕ)) (old : List A) (at : ℕ) (a : A) → slice_get old at ≡ Some a → text a ≡ name → Differs name o → unknown_plug_at (map text old) o ≡ None → unknown_plug_at (map text (remove old at)) o ≡ None
  still_known_at name None old at a there named other known = refl
  still_known_at name (Some q) old at a there named other known =
      not_missing (map text (remove old at)) q (still_named q old at a there (subst (λ m. same_text q m ≡ false) (sym named) other) (known_name (map text old) q (is_named q (map text old)) refl known))

  pub still_known : (of : Kind → Option (List ℕ)) (name : List ℕ) (ns : List Node) (old : List A) (at : ℕ) (a : A) → slice_get old at ≡ Some a → text a ≡ name → Apart of name ns → Known of (map text old) ns → Known of (map text (remove old at)) ns
  still_known of name [] old at a there named other known = tt
  still_known of name (n ∷ ns) old at a there named other known = (still_known_at name (of n.kind) old at a there named other.0 known.0, still_known of name ns old at a there named other.1 known.1)
