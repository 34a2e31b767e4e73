-- Loops over the news of a round.
use Rattle.std.proofs.Common.{◌≡◌, ℕ, zero, suc, ◌+◌, ◌<◌, Bool, true, false, ◌==◌, ◌||◌, List, [], ◌∷◌, ◌++◌, length, take, get_or, Option, Some, None, is_some, refl, ap, sym, ◌∙◌, subst, ⊎_elim, arith}
use Rattle.std.specs.Prelude.{slice_get}
use Rattle.std.specs.Option.{option_or}
use Rattle.std.proofs.lemmas.Bool.{or_cases, eqb-true, cases_Bool, both_ways}
use Rattle.std.proofs.lemmas.List.{take_more}
use Rattle.elem_core.specs.Sort.{Sort}
use Rattle.stream_model.specs.Graph.{Edge}
use Rattle.blue_names.specs.First.{when}
use Rattle.blue_types.specs.declared.news.Fixed.{Fixed}
use Rattle.blue_names.specs.Members.{is_in}
use Rattle.blue_types.specs.News.{AreBelow, AreReached, news_at}
use Rattle.blue_types.proofs.NewsLists.{news_at-push, option_or_assoc}

pub AreBelow-at : (n : ℕ) (fs : List Fixed) (i : ℕ) (d : Fixed) → AreBelow n fs → i < length fs → (get_or fs i d).node < n
AreBelow-at n [] i d h lt = absurd (omega arith)
AreBelow-at n (f ∷ fs) zero d h lt = h.0
AreBelow-at n (f ∷ fs) (suc i) d h lt = AreBelow-at n fs i d h.1 (omega arith)

pub AreBelow-item : (n : ℕ) (fs : List Fixed) (i : ℕ) (f : Fixed) → AreBelow n fs → i < length fs → f ≡ get_or fs i f → f.node < n
AreBelow-item n fs i f h lt is = subst (λ g. g.node < n) (sym is) (AreBelow-at n fs i f h lt)

-- the news so far, with one more
news_at-more : (fs : List Fixed) (k : ℕ) (f : Fixed) (i : ℕ) → k < length fs → f ≡ get_or fs k f → news_at (take (k + 1) fs) i ≡ option_or (news_at (take k fs) i) (when (f.node == i) f.fixed)
news_at-more fs k f i lt is =
    let t : take (k + 1) fs ≡ take k fs ++ f ∷ [] = take_more fs k f lt ∙ ap (λ g. take k fs ++ g ∷ []) (sym is) in
    ap (λ gs. news_at gs i) t ∙ news_at-push (take k fs) f i

pub put_more : (fs : List Fixed) (k : ℕ) (f : Fixed) (i : ℕ) (old now new : Option Sort) → k < length fs → f ≡ get_or fs k f → now ≡ option_or old (news_at (take k fs) i)
    → new ≡ option_or now (when (f.node == i) f.fixed) → new ≡ option_or old (news_at (take (k + 1) fs) i)
put_more fs k f i old now new lt is so_far here =
    here ∙ ap (λ o. option_or o (when (f.node == i) f.fixed)) so_far ∙ option_or_assoc old (news_at (take k fs) i) (when (f.node == i) f.fixed) ∙ ap (option_or old) (sym (news_at-more fs k f i lt is))

some_of_either : {X : Type 0} (a : Option X) (b : Bool) (x : X) → is_some (option_or a (when b x)) ≡ (is_some a || b)
some_of_either None true x = refl
some_of_either None false x = refl
some_of_either (Some y) b x = refl

none_of : {X : Type 0} (o : Option X) → is_some o ≡ false → o ≡ None
none_of None h = refl
none_of (Some x) h = cc

pub AreReached-more : (ws : List Edge) (t now : ℕ → Option Sort) (fs : List Fixed) (k : ℕ) (f : Fixed) (old new : List ℕ) → k < length fs → f ≡ get_or fs k f
    → ((i : ℕ) → now i ≡ option_or (t i) (news_at (take k fs) i)) → AreReached ws t (take k fs) old → ((q : ℕ) → is_in q old ≡ true → is_in q new ≡ true)
    → (now f.node ≡ None → (i : ℕ) (w : Edge) → slice_get ws i ≡ Some w → w.from ≡ f.node → is_in w.to new ≡ true) → AreReached ws t (take (k + 1) fs) new
AreReached-more ws t now fs k f old new lt is so_far h kept added = record {
  target = λ i w at none some.
      let e : (is_some (news_at (take k fs) w.from) || (f.node == w.from)) ≡ true =
      sym (some_of_either (news_at (take k fs) w.from) (f.node == w.from) f.fixed) ∙ ap is_some (sym (news_at-more fs k f w.from lt is)) ∙ some in
      ⊎_elim
      (λ (o : is_some (news_at (take k fs) w.from) ≡ true). kept w.to (h.target i w at none o))
      (λ (no : is_some (news_at (take k fs) w.from) ≡ false).
      let here : (f.node == w.from) ≡ true = ⊎_elim (λ o. absurd (both_ways (is_some (news_at (take k fs) w.from)) no o)) (λ o. o) (or_cases (is_some (news_at (take k fs) w.from)) (f.node == w.from) e) in
      let same : f.node ≡ w.from = eqb-true f.node w.from here in
      let free : now w.from ≡ None = so_far w.from ∙ ap (λ x. option_or x (news_at (take k fs) w.from)) none ∙ none_of (news_at (take k fs) w.from) no in
      added (ap now same ∙ free) i w at (sym same))
      (cases_Bool (is_some (news_at (take k fs) w.from)));
}
