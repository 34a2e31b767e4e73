-- Numbers of labels, over the nodes so far.
use Rattle.std.proofs.Common.{◌≡◌, ℕ, zero, suc, ◌<◌, ◌≤◌, List, [], ◌∷◌, ◌++◌, length, set, Option, Some, None, refl, ap, sym, ◌∙◌, subst, ⊎_elim, arith}
use Rattle.std.specs.Prelude.{slice_get, slice_index}
use Rattle.std.proofs.lemmas.Bool.{cases_eq}
use Rattle.std.proofs.lemmas.List.{length_push, length-set, get_or_push, get_or_append_left}
use Rattle.std.proofs.lemmas.Option.{slice_get_within}
use Rattle.blue_check.proofs.Filling.{get_set_other}
use Rattle.blue_check.specs.Homes.{AreNumbered, IsOld, IsNewNumber, IsNumbered}

-- the numbers of the labels of the nodes so far, as tables have them
pub record Numbering (labels homes firsts : List ℕ) (table : List (Option ℕ)) : Type 0 where
  pub here : (a : ℕ) → a < length homes → slice_index homes a < length firsts
  pub alike : (a : ℕ) → a < length homes → slice_index labels (slice_index firsts (slice_index homes a)) ≡ slice_index labels a
  pub least : (a : ℕ) → a < length homes → slice_index firsts (slice_index homes a) ≤ a
  pub first : (k : ℕ) → k < length firsts → (slice_index firsts k < length homes) × (slice_index homes (slice_index firsts k) ≡ k)
  pub rising : (j k : ℕ) → j < k → k < length firsts → slice_index firsts j < slice_index firsts k
  pub known : (k : ℕ) → k < length firsts → slice_get table (slice_index labels (slice_index firsts k)) ≡ Some (Some k)
  pub sound : (l k : ℕ) → slice_get table l ≡ Some (Some k) → (k < length firsts) × (slice_index labels (slice_index firsts k) ≡ l)

pub Numbering-none : (labels : List ℕ) (table : List (Option ℕ)) → ((l : ℕ) → l < length table → slice_get table l ≡ Some None) → Numbering labels [] [] table
Numbering-none labels table none = record {
  here = λ a lt. absurd (omega arith);
  alike = λ a lt. absurd (omega arith);
  least = λ a lt. absurd (omega arith);
  first = λ k lt. absurd (omega arith);
  rising = λ j k jk lt. absurd (omega arith);
  known = λ k lt. absurd (omega arith);
  sound = λ l k at.
      let is : Some (Some k) ≡ Some None = sym at ∙ none l (slice_get_within table l (Some k) at) in
      cc;
}

pub AreNumbered-all : (labels homes firsts : List ℕ) (table : List (Option ℕ)) → Numbering labels homes firsts table → AreNumbered labels homes firsts
AreNumbered-all labels homes firsts table n = record {
  here = n.here;
  alike = n.alike;
  least = n.least;
  first = n.first;
  rising = n.rising;
  apart = λ j k lj lk e.
      let is : Some (Some j) ≡ Some (Some k) = sym (n.known j lj) ∙ ap (slice_get table) e ∙ n.known k lk in
      cc;
}

-- an item of a list with one more
at_old : (xs : List ℕ) (y i : ℕ) → i < length xs → slice_index (xs ++ y ∷ []) i ≡ slice_index xs i
at_old xs y i lt = get_or_append_left xs (y ∷ []) 0 i lt

at_new : (xs : List ℕ) (y : ℕ) → slice_index (xs ++ y ∷ []) (length xs) ≡ y
at_new xs y = get_or_push xs y 0 (length xs) refl

-- what holds of each item and of one more
of_all : (P : ℕ → ℕ → Type 0) (xs : List ℕ) (y : ℕ) → ((a : ℕ) → a < length xs → P a (slice_index xs a)) → P (length xs) y → (a : ℕ) → a < length (xs ++ y ∷ []) → P a (slice_index (xs ++ y ∷ []) a)
of_all P xs y all more a lt =
    ⊎_elim
    (λ (e : a ≡ length xs). subst (λ b. P b (slice_index (xs ++ y ∷ []) b)) (sym e) (subst (P (length xs)) (sym (at_new xs y)) more))
    (λ (ne : a ≡ length xs → ⊥).
    let short : a < length xs = omega (arith, lt, ne, length_push xs y) in
    subst (P a) (sym (at_old xs y a short)) (all a short))
    (cases_eq a (length xs))

-- an entry of a table in which one was set
get_set_same : (table : List (Option ℕ)) (i : ℕ) (v w : Option ℕ) → slice_get table i ≡ Some v → slice_get (set table i w) i ≡ Some w
get_set_same [] i v w h = cc
get_set_same (t ∷ table) zero v w h = refl
get_set_same (t ∷ table) (suc i) v w h = get_set_same table i v w h

module _ (labels homes firsts : List ℕ) (table : List (Option ℕ)) (n : Numbering labels homes firsts table) (label : ℕ) (is : label ≡ slice_index labels (length homes)) where
  -- the next node has a label with a number
  more_old : (number : ℕ) → slice_get table label ≡ Some (Some number) → Numbering labels (homes ++ number ∷ []) firsts table
  more_old number at =
      let s = n.sound label number at in
      record {
        here = of_all (λ a h. h < length firsts) homes number n.here s.0;
        alike = of_all (λ a h. slice_index labels (slice_index firsts h) ≡ slice_index labels a) homes number n.alike (s.1 ∙ is);
        least = of_all (λ a h. slice_index firsts h ≤ a) homes number n.least (omega (arith, (n.first number s.0).0));
        first = λ k lt.
            let f = n.first k lt in
            (omega (arith, f.0, length_push homes number), at_old homes number (slice_index firsts k) f.0 ∙ f.1);
        rising = n.rising;
        known = n.known;
        sound = n.sound;
      }

  -- it has one without
  module _ (none : slice_get table label ≡ Some None) where
    more_new : Numbering labels (homes ++ length firsts ∷ []) (firsts ++ length homes ∷ []) (set table label (Some (length firsts)))
    more_new = record {
      here = of_all (λ a h. h < length (firsts ++ length homes ∷ [])) homes (length firsts) (λ a lt. omega (arith, n.here a lt, length_push firsts (length homes))) (omega (arith, length_push firsts (length homes)));
      alike = of_all (λ a h. slice_index labels (slice_index (firsts ++ length homes ∷ []) h) ≡ slice_index labels a) homes (length firsts)
          (λ a lt. ap (slice_index labels) (at_old firsts (length homes) (slice_index homes a) (n.here a lt)) ∙ n.alike a lt)
          (ap (slice_index labels) (at_new firsts (length homes)));
      least = of_all (λ a h. slice_index (firsts ++ length homes ∷ []) h ≤ a) homes (length firsts)
          (λ a lt. omega (arith, at_old firsts (length homes) (slice_index homes a) (n.here a lt), n.least a lt))
          (omega (arith, at_new firsts (length homes)));
      first = of_all (λ k f. (f < length (homes ++ length firsts ∷ [])) × (slice_index (homes ++ length firsts ∷ []) f ≡ k)) firsts (length homes)
          (λ k lt. let f = n.first k lt in (omega (arith, f.0, length_push homes (length firsts)), at_old homes (length firsts) (slice_index firsts k) f.0 ∙ f.1))
          (omega (arith, length_push homes (length firsts)), at_new homes (length firsts));
      rising = λ j k jk lt. of_all (λ k f. j < k → slice_index (firsts ++ length homes ∷ []) j < f) firsts (length homes)
          (λ k lt jk. omega (arith, at_old firsts (length homes) j (omega arith), n.rising j k jk lt))
          (λ jk. omega (arith, at_old firsts (length homes) j jk, (n.first j jk).0))
          k lt jk;
      known = of_all (λ k f. slice_get (set table label (Some (length firsts))) (slice_index labels f) ≡ Some (Some k)) firsts (length homes)
          (λ k lt. get_set_other table label (slice_index labels (slice_index firsts k)) (Some (length firsts)) (other k lt) ∙ n.known k lt)
          (ap (slice_get (set table label (Some (length firsts)))) (sym is) ∙ get_set_same table label None (Some (length firsts)) none);
      sound = sound_more;
    }
      where
        other : (k : ℕ) → k < length firsts → slice_index labels (slice_index firsts k) ≡ label → ⊥
        other k lt e =
            let two : Some (Some k) ≡ Some None = sym (n.known k lt) ∙ ap (slice_get table) e ∙ none in
            cc

        sound_more : (l k : ℕ) → slice_get (set table label (Some (length firsts))) l ≡ Some (Some k) → (k < length (firsts ++ length homes ∷ [])) × (slice_index labels (slice_index (firsts ++ length homes ∷ []) k) ≡ l)
        sound_more l k at =
            ⊎_elim
            (λ (e : l ≡ label).
            let two : Some (Some (length firsts)) ≡ Some (Some k) = sym (get_set_same table label None (Some (length firsts)) none) ∙ ap (slice_get (set table label (Some (length firsts)))) (sym e) ∙ at in
            let same : length firsts ≡ k = cc in
            (omega (arith, same, length_push firsts (length homes)), ap (λ j. slice_index labels (slice_index (firsts ++ length homes ∷ []) j)) (sym same) ∙ ap (slice_index labels) (at_new firsts (length homes)) ∙ sym is ∙ sym e))
            (λ (ne : l ≡ label → ⊥).
            let s = n.sound l k (sym (get_set_other table label l (Some (length firsts)) ne) ∙ at) in
            (omega (arith, s.0, length_push firsts (length homes)), ap (slice_index labels) (at_old firsts (length homes) k s.0) ∙ s.1))
            (cases_eq l label)

-- one more node, as code numbers its label
pub Numbering-more : (labels homes firsts firsts' : List ℕ) (table table' : List (Option ℕ)) (label node number : ℕ) → Numbering labels homes firsts table → node ≡ length homes → label ≡ slice_index labels node
    → IsNumbered table table' firsts firsts' label node number → Numbering labels (homes ++ number ∷ []) firsts' table'
Numbering-more labels homes firsts firsts' table table' label node number n long is done =
    let at : label ≡ slice_index labels (length homes) = is ∙ ap (slice_index labels) long in
    ⊎_elim
    (λ (o : IsOld table table' firsts firsts' label number).
    subst (λ t. Numbering labels (homes ++ number ∷ []) firsts' t) (sym o.kept) (subst (λ f. Numbering labels (homes ++ number ∷ []) f table) (sym o.same) (more_old labels homes firsts table n label at number o.had)))
    (λ (w : IsNewNumber table table' firsts firsts' label node number).
    let start = more_new labels homes firsts table n label at w.had in
    let named : Numbering labels (homes ++ number ∷ []) (firsts ++ length homes ∷ []) (set table label (Some number)) = subst (λ k. Numbering labels (homes ++ k ∷ []) (firsts ++ length homes ∷ []) (set table label (Some k))) (sym w.next) start in
    let placed : Numbering labels (homes ++ number ∷ []) (firsts ++ node ∷ []) (set table label (Some number)) = subst (λ m. Numbering labels (homes ++ number ∷ []) (firsts ++ m ∷ []) (set table label (Some number))) (sym long) named in
    subst (λ t. Numbering labels (homes ++ number ∷ []) firsts' t) (sym w.set) (subst (λ f. Numbering labels (homes ++ number ∷ []) f (set table label (Some number))) (sym w.more) placed))
    done.either

-- and the table is as long as it was
pub same_table : (firsts firsts' : List ℕ) (table table' : List (Option ℕ)) (label node number : ℕ) → IsNumbered table table' firsts firsts' label node number → length table' ≡ length table
same_table firsts firsts' table table' label node number done =
    ⊎_elim (λ (o : IsOld table table' firsts firsts' label number). ap length o.kept) (λ (w : IsNewNumber table table' firsts firsts' label node number). ap length w.set ∙ length-set table label (Some number)) done.either

-- of all nodes
pub numbered : (labels homes firsts : List ℕ) (table : List (Option ℕ)) → Numbering labels homes firsts table → AreNumbered labels homes firsts
numbered labels homes firsts table n = record {
  here = n.here;
  alike = n.alike;
  least = n.least;
  first = n.first;
  rising = n.rising;
  apart = λ j k lj lk e.
      let two : Some (Some j) ≡ Some (Some k) = sym (n.known j lj) ∙ ap (slice_get table) e ∙ n.known k lk in
      cc;
}
