-- What the tables of the names and the files that are taken know after one more claim.
use Rattle.std.proofs.Common.{◌≡◌, ℕ, ◌+◌, ◌<◌, Bool, true, false, cond, not, List, [], ◌∷◌, ◌++◌, length, map, take, drop, get_or, Option, Some, None, is_some, is_none, ◌||◌, refl, ap, sym, ◌∙◌, subst, arith}
use Rattle.std.specs.HashMap.{HashMap}
use Rattle.std.specs.List.{list_any}
use Rattle.std.specs.Option.{option_or}
use Rattle.std.proofs.lemmas.Bool.{cases_Bool, cond-true, cond-false, not-true, not-false}
use Rattle.std.proofs.lemmas.Grind.{common_steps}
use Rattle.std.proofs.lemmas.List.{at_drop_more, at_drop_all}
use Rattle.std.proofs.lemmas.List.Folds.{list_any-append}
use denote.Ref.{Bor}
use Rattle.elem_core.specs.Values.{same_text}
use Rattle.blue_names.specs.First.{when}
use Rattle.blue_names.specs.Names.{Claim, called, opens, hires, same_claim, first_again, text_of}
use Rattle.blue_names.specs.Claims.{Knows}
use Rattle.blue_names.specs.Table.{number_in}

-- a name that is noted is there, beside those that were
is_some-when : (b : Bool) (k : ℕ) (o : Option ℕ) → is_some (option_or o (when b k)) ≡ (b || is_some o)
is_some-when true k None = refl
is_some-when true k (Some x) = refl
is_some-when false k None = refl
is_some-when false k (Some x) = refl

-- it was free where it is not there
is_none-not : {X : Type 0} (o : Option X) → is_none o ≡ not (is_some o)
is_none-not None = refl
is_none-not (Some x) = refl

module _ {S : Type 0} (names files customs : HashMap (Bor (List ℕ)) ℕ S) (before : List Claim) (name : List ℕ) (k : Knows names files customs before) where
  pub free-named : is_none (number_in names name) ≡ not (list_any (same_claim (called name)) before)
  free-named = is_none-not (number_in names name) ∙ ap not (k.named name)

  pub free-opened : is_none (number_in files name) ≡ not (list_any (same_claim (opens name)) before)
  free-opened = is_none-not (number_in files name) ∙ ap not (k.opened name)

  pub free-hired : is_none (number_in customs name) ≡ not (list_any (same_claim (hires name)) before)
  free-hired = is_none-not (number_in customs name) ∙ ap not (k.hired name)

-- the tables with one more name, with one more file, and with one more custom stage
module _ {S : Type 0} (names files customs new : HashMap (Bor (List ℕ)) ℕ S) (before : List Claim) (name : List ℕ) (n : ℕ) (k : Knows names files customs before) where
  pub Knows-called : ((q : List ℕ) → number_in new q ≡ option_or (number_in names q) (when (same_text q name) n)) → Knows new files customs (called name ∷ before)
  Knows-called e = record {
    named = λ q. ap is_some (e q) ∙ is_some-when (same_text q name) n (number_in names q) ∙ ap (λ b. same_text q name || b) (k.named q);
    opened = λ q. k.opened q;
    hired = λ q. k.hired q;
  }

  pub Knows-opens : ((q : List ℕ) → number_in new q ≡ option_or (number_in files q) (when (same_text q name) n)) → Knows names new customs (opens name ∷ before)
  Knows-opens e = record {
    named = λ q. k.named q;
    opened = λ q. ap is_some (e q) ∙ is_some-when (same_text q name) n (number_in files q) ∙ ap (λ b. same_text q name || b) (k.opened q);
    hired = λ q. k.hired q;
  }

  pub Knows-hires : ((q : List ℕ) → number_in new q ≡ option_or (number_in customs q) (when (same_text q name) n)) → Knows names files new (hires name ∷ before)
  Knows-hires e = record {
    named = λ q. k.named q;
    opened = λ q. k.opened q;
    hired = λ q. ap is_some (e q) ∙ is_some-when (same_text q name) n (number_in customs q) ∙ ap (λ b. same_text q name || b) (k.hired q);
  }

-- the order of claims does not matter to the tables
any_last : {X : Type 0} (p : X → Bool) (xs : List X) (x : X) → list_any p (x ∷ xs) ≡ list_any p (xs ++ x ∷ [])
any_last p [] x = refl
any_last p (y ∷ ys) x = grind (arith, any_last p ys x)

pub Knows-last : {S : Type 0} (names files customs : HashMap (Bor (List ℕ)) ℕ S) (before : List Claim) (c : Claim) → Knows names files customs (c ∷ before) → Knows names files customs (before ++ c ∷ [])
Knows-last names files customs before c k = record {
  named = λ q. k.named q ∙ any_last (same_claim (called q)) before c;
  opened = λ q. k.opened q ∙ any_last (same_claim (opens q)) before c;
  hired = λ q. k.hired q ∙ any_last (same_claim (hires q)) before c;
}

-- a search for the first claim that was made before: those behind are sought among those before
pub record Going {S : Type 0} (names files customs : HashMap (Bor (List ℕ)) ℕ S) (whole : Option (List ℕ)) (rest : List Claim) : Type 0 where
  pub before : List Claim
  pub knows : Knows names files customs before
  pub same : whole ≡ first_again before rest

module _ {C S : Type 0} (g : C → Claim) (names files customs : HashMap (Bor (List ℕ)) ℕ S) (xs : List C) (i : ℕ) (x : C) (whole : Option (List ℕ)) (lt : i < length xs) (is : x ≡ get_or xs i x)
    (going : Going names files customs whole (map g (drop i xs))) where
  -- the next claim and those behind it
  split : map g (drop i xs) ≡ g x ∷ map g (drop (i + 1) xs)
  split = at_drop_more (map g) xs i x lt ∙ ap (λ y. g y ∷ map g (drop (i + 1) xs)) (sym is)

  whole_is : whole ≡ cond (list_any (same_claim (g x)) going.before) (Some (text_of (g x))) (first_again (g x ∷ going.before) (map g (drop (i + 1) xs)))
  whole_is = going.same ∙ ap (first_again going.before) split

  -- a claim that was free is among those before from then on
  pub Going-next : (next_names next_files next_customs : HashMap (Bor (List ℕ)) ℕ S) → true ≡ not (list_any (same_claim (g x)) going.before) → Knows next_names next_files next_customs (g x ∷ going.before)
      → Going next_names next_files next_customs whole (map g (drop (i + 1) xs))
  Going-next next_names next_files next_customs free knows = record {
    before = g x ∷ going.before;
    knows = knows;
    same = whole_is ∙ cond-false (list_any (same_claim (g x)) going.before) (Some (text_of (g x))) (first_again (g x ∷ going.before) (map g (drop (i + 1) xs))) (not-true (list_any (same_claim (g x)) going.before) (sym free));
  }

  -- one that was not free is the first that was made before
  pub Going-found : (text : List ℕ) → false ≡ not (list_any (same_claim (g x)) going.before) → text ≡ text_of (g x) → Some text ≡ whole
  Going-found text free e =
      ap Some e ∙ sym (whole_is ∙ cond-true (list_any (same_claim (g x)) going.before) (Some (text_of (g x))) (first_again (g x ∷ going.before) (map g (drop (i + 1) xs))) (not-false (list_any (same_claim (g x)) going.before) (sym free)))
