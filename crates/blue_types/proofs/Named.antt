-- What has a name, by the number of that name.
use Rattle.std.proofs.Common.{◌≡◌, ℕ, zero, suc, ◌+◌, Bool, true, false, cond, List, [], ◌∷◌, map, Option, Some, None, refl, ap, sym, ◌∙◌, subst, arith}
use Rattle.std.specs.Prelude.{slice_get, MatchOption}
use Rattle.elem_core.specs.Values.{same_text}
use Rattle.blue_names.specs.RuleLinks.{number_from}
use Rattle.blue_names.specs.CustomPorts.{named}

-- the value at a place that is counted from n
record At {X : Type 0} (xs : List X) (o : Option X) (n i : ℕ) : Type 0 where
  pub place : ℕ
  pub is : i ≡ n + place
  pub at : slice_get xs place ≡ o

one_on : {X : Type 0} (x : X) (xs : List X) (o : Option X) (n : ℕ) (found : Option ℕ) → MatchOption found (o ≡ None) (At xs o (n + 1)) → MatchOption found (o ≡ None) (At (x ∷ xs) o n)
one_on x xs o n None h = h
one_on x xs o n (Some i) h =
    let e : i ≡ n + 1 + h.place = h.is in
    record { place = suc h.place; is = omega arith; at = h.at }

named_from : {X : Type 0} (text : X → List ℕ) (name : List ℕ) (n : ℕ) (xs : List X) → MatchOption (number_from name n (map text xs)) (named text name xs ≡ None) (At xs (named text name xs) n)
named_from text name n [] = refl
named_from text name n (x ∷ xs) =
    elim (same_text name (text x)) as (λ b. MatchOption (cond b (Some n) (number_from name (n + 1) (map text xs))) (cond b (Some x) (named text name xs) ≡ None) (At (x ∷ xs) (cond b (Some x) (named text name xs)) n))
    [ true ↦ record { place = 0; is = omega arith; at = refl } | false ↦ one_on x xs (named text name xs) n (number_from name (n + 1) (map text xs)) (named_from text name (n + 1) xs) ]

-- by its number, where it has one
pub named_at : {X : Type 0} (text : X → List ℕ) (name : List ℕ) (xs : List X) (i : ℕ) → Some i ≡ number_from name 0 (map text xs) → slice_get xs i ≡ named text name xs
named_at text name xs i e =
    let h : At xs (named text name xs) 0 i = subst (λ o. MatchOption o (named text name xs ≡ None) (At xs (named text name xs) 0)) (sym e) (named_from text name 0 xs) in
    let same : i ≡ h.place = omega (arith, h.is) in
    ap (slice_get xs) same ∙ h.at

pub named_none : {X : Type 0} (text : X → List ℕ) (name : List ℕ) (xs : List X) → None ≡ number_from name 0 (map text xs) → None ≡ named text name xs
named_none text name xs e =
    sym (let h : named text name xs ≡ None = subst (λ o. MatchOption o (named text name xs ≡ None) (At xs (named text name xs) 0)) (sym e) (named_from text name 0 xs) in h)
