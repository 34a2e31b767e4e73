-- What the calls of a substream come to in the model.
use Rattle.std.proofs.Common.{◌≡◌, ℕ, suc, ◌+◌, Bool, true, false, ◌⊎◌, inl, inr, List, [], ◌∷◌, ◌++◌, map, length, drop, Option, Some, None, refl, sym, ap, ◌∙◌, subst, append-nil, arith}
use Rattle.std.proofs.Math.Seq.{drop-append_seam, drop-length}
use Rattle.elem_core.specs.Tree.{Tree}
use Rattle.elem_core.specs.declared.why.Why.{Why}
use Rattle.elem_core.specs.declared.why.Cause.{Cause}
use Rattle.stream_model.specs.Outlook.{End, unended, ended, failed}
use Rattle.stream_model.specs.Machine.{Given}
use Rattle.stream_model.specs.FanIn.{Tagged, tag}
use Rattle.stream_model.specs.Substreams.{Sub, Fault, by_element, by_end, end_sub, end_all, take_in, take_last, last_open, given_by, news, fault_in, fault_of, trouble}
use Rattle.port_core.specs.declared.chain.ChainStep.{ChainStep}
use Rattle.port_core.specs.declared.chain.ChainStep.TheVariants.{Go, Closed, Failed}
use Rattle.port_core.specs.ListFunction.{ListFunction}
use Rattle.step_work.specs.Means.{ChainStandsAs, ChainEndsAs, Means}
use Rattle.stage_sub.specs.Splits.{EndsSub, Calm}
use Rattle.stage_sub.specs.Subs.{AllEnded}

-- ---- lists of substreams

module _ (yields : List Tree → End → Given Tree) where
  -- the first of two faults
  abbrev pub pick : Option Fault → Option Fault → Option Fault
  pick (Some f) b = Some f
  pick None b = b

  front_calm : (x a : Option Fault) → pick x a ≡ None → (x ≡ None) × (a ≡ None)
  front_calm None a e = (refl, e)
  front_calm (Some f) a e = cc

  pub first_of : (s : Sub) (ss : List Sub) → trouble yields (s ∷ ss) ≡ pick (fault_of yields s) (trouble yields ss)
  first_of s ss = by_fault (fault_of yields s)
    where
      by_fault : (x : Option Fault) → (elim x as (λ _. Option Fault) [ Some f ↦ Some f | None ↦ trouble yields ss ]) ≡ pick x (trouble yields ss)
      by_fault None = refl
      by_fault (Some f) = refl

  -- none of the first fails: the fault is that of the others
  pub trouble_append : (a b : List Sub) → trouble yields a ≡ None → trouble yields (a ++ b) ≡ trouble yields b
  trouble_append [] b e = refl
  trouble_append (s ∷ a) b e =
      let q = front_calm (fault_of yields s) (trouble yields a) (sym (first_of s a) ∙ e) in
      first_of s (a ++ b) ∙ ap (λ x. pick x (trouble yields (a ++ b))) q.0 ∙ trouble_append a b q.1

  pub trouble_both : (a b : List Sub) → trouble yields a ≡ None → trouble yields b ≡ None → trouble yields (a ++ b) ≡ None
  trouble_both a b e h = trouble_append a b e ∙ h

  pub trouble_one : (s : Sub) → fault_of yields s ≡ None → trouble yields (s ∷ []) ≡ None
  trouble_one s e = first_of s [] ∙ ap (λ x. pick x None) e

  pub trouble_fails : (s : Sub) (ss : List Sub) (f : Fault) → fault_of yields s ≡ Some f → trouble yields (s ∷ ss) ≡ Some f
  trouble_fails s ss f e = first_of s ss ∙ ap (λ x. pick x (trouble yields ss)) e

  -- what is the same gave nothing new
  news_same : (n : ℕ) (s : Sub) (x y : List Tagged) → x ≡ y → map (tag n) (drop (length (given_by yields s).list) (given_by yields s).list) ++ x ≡ y
  news_same n s x y e = ap (λ (l : List Tree). map (tag n) l ++ x) (drop-length (given_by yields s).list) ∙ e

  pub news_append : (n : ℕ) (a xs ys : List Sub) → news yields n (a ++ xs) (a ++ ys) ≡ news yields (n + length a) xs ys
  news_append n [] xs ys = ap (λ k. news yields k xs ys) (omega arith)
  news_append n (s ∷ a) xs ys = news_same n s (news yields (n + 1) (a ++ xs) (a ++ ys)) (news yields (n + suc (length a)) xs ys) (news_append (n + 1) a xs ys ∙ ap (λ k. news yields k xs ys) (omega arith))

  -- one more
  pub news_one : (n : ℕ) (r s : Sub) (given : List Tree) → (given_by yields s).list ≡ (given_by yields r).list ++ given → news yields n (r ∷ []) (s ∷ []) ≡ map (tag n) given
  news_one n r s given e = append-nil _ ∙ ap (map (tag n)) (ap (drop (length (given_by yields r).list)) e ∙ drop-append_seam (given_by yields r).list given)

  pub news_new : (n : ℕ) (s : Sub) → news yields n [] (s ∷ []) ≡ map (tag n) (given_by yields s).list
  news_new n s = append-nil _

pub done_append : (a b : List Sub) → AllEnded a → AllEnded b → AllEnded (a ++ b)
done_append [] b d e = e
done_append (s ∷ a) b d e = (d.0, done_append a b d.1 e)

same_ended : (s : Sub) → s.ended ≡ true → end_sub s ≡ s
same_ended s e = ap (λ (b : Bool). record { key = s.key; took = s.took; ended = b }) (sym e)

pub end_done : (a : List Sub) → AllEnded a → end_all a ≡ a
end_done [] d = refl
end_done (s ∷ a) d = cc (same_ended s d.0, end_done a d.1)

pub end_append : (a b : List Sub) → end_all (a ++ b) ≡ end_all a ++ end_all b
end_append [] b = refl
end_append (s ∷ a) b = ap (λ (l : List Sub). end_sub s ∷ l) (end_append a b)

pub open_append : (a : List Sub) (s : Sub) → last_open (a ++ s ∷ []) ≡ last_open (s ∷ [])
open_append [] s = refl
open_append (r ∷ []) s = refl
open_append (r ∷ q ∷ a) s = open_append (q ∷ a) s

pub open_done : (a : List Sub) → AllEnded a → last_open a ≡ false
open_done [] d = refl
open_done (s ∷ []) d = rw d.0 refl
open_done (s ∷ r ∷ a) d = open_done (r ∷ a) d.1

pub take_append : (t : Tree) (a : List Sub) (s : Sub) → take_last t (a ++ s ∷ []) ≡ a ++ take_in t s ∷ []
take_append t [] s = refl
take_append t (r ∷ []) s = refl
take_append t (r ∷ q ∷ a) s = ap (λ (l : List Sub). r ∷ l) (take_append t (q ∷ a) s)

-- ---- one substream

module _ (f : ListFunction) (yields : List Tree → End → Given Tree) (means : Means yields f) where
  calm_end : (x : ChainStep) (e a : End) → (x ≡ Go) ⊎ (x ≡ Closed) → ChainStandsAs x e → fault_in yields false e a ≡ None
  calm_end Go e a h s = rw s refl
  calm_end Closed e a h s = rw s refl
  calm_end (Failed w) e a (inl h) s = cc
  calm_end (Failed w) e a (inr h) s = cc

  failing_end : (b : Bool) (x : ChainStep) (e a : End) (w : Why) → x ≡ Failed w → ChainStandsAs x e → fault_in yields b e a ≡ Some (by_element w)
  failing_end b (Failed v) e a w h s = rw s.1.0 (ap (λ (u : Why). Some (by_element u)) (s.1.1 ∙ cc))
  failing_end b Go e a w h s = cc
  failing_end b Closed e a w h s = cc

  -- a substream that goes on, or has stopped, did not fail
  pub sub_calm : (key : Tree) (took : List Tree) → Calm f took → fault_of yields (record { key = key; took = took; ended = false }) ≡ None
  sub_calm key took h = calm_end (f.stop took) (yields took unended).end (yields took ended).end h (means.stands took)

  -- one whose chain failed did, whether it has ended or not
  pub sub_fails : (s : Sub) (w : Why) → f.stop s.took ≡ Failed w → fault_of yields s ≡ Some (by_element w)
  sub_fails s w h = failing_end s.ended (f.stop s.took) (yields s.took unended).end (yields s.took ended).end w h (means.stands s.took)

  -- its end
  ends_as : (took given : List Tree) → EndsSub f took None given → yields took ended ≡ record { list = f.gives took ++ given; end = ended }
  ends_as took given (inl h) = subst (λ x. ChainEndsAs x (f.gives took) (yields took ended)) h.1 (means.ends took h.0)
  ends_as took given (inr h) =
      let same : f.gives took ≡ f.gives took ++ given = sym (append-nil (f.gives took)) ∙ ap (λ (l : List Tree). f.gives took ++ l) (sym h.1) in
      means.closed took h.0 ∙ ap (λ (l : List Tree). record { list = l; end = ended }) same

  stands_open : (x : ChainStep) (e a : End) → (x ≡ Go) ⊎ (x ≡ Closed) → ChainStandsAs x e → a ≡ ended → fault_in yields true e a ≡ None
  stands_open Go e a h s q = rw (s, q) refl
  stands_open Closed e a h s q = rw (s, q) refl
  stands_open (Failed w) e a (inl h) s q = cc
  stands_open (Failed w) e a (inr h) s q = cc

  ends_calm : (took given : List Tree) → EndsSub f took None given → Calm f took
  ends_calm took given (inl h) = inl h.0
  ends_calm took given (inr h) = inr h.0

  pub end_calm : (s : Sub) (given : List Tree) → EndsSub f s.took None given → fault_of yields (end_sub s) ≡ None
  end_calm s given h = stands_open (f.stop s.took) (yields s.took unended).end (yields s.took ended).end (ends_calm s.took given h) (means.stands s.took) (ap (λ (g : Given Tree). g.end) (ends_as s.took given h))

  failing_at_end : (x : ChainStep) (e a : End) (w : Why) → x ≡ Go → ChainStandsAs x e → (c : Cause) × ((a ≡ failed c) × (c.why ≡ w)) → fault_in yields true e a ≡ Some (by_end w)
  failing_at_end Go e a w h s q = rw (s, q.1.0) (ap (λ (u : Why). Some (by_end u)) q.1.1)
  failing_at_end Closed e a w h s q = cc
  failing_at_end (Failed v) e a w h s q = cc

  pub end_fails : (s : Sub) (w : Why) → EndsSub f s.took (Some w) [] → fault_of yields (end_sub s) ≡ Some (by_end w)
  end_fails s w h = failing_at_end (f.stop s.took) (yields s.took unended).end (yields s.took ended).end w h.0 (means.stands s.took) (subst (λ x. ChainEndsAs x (f.gives s.took) (yields s.took ended)) h.1 (means.ends s.took h.0))

  -- what it gave
  pub given_open : (key : Tree) (took : List Tree) → (given_by yields (record { key = key; took = took; ended = false })).list ≡ f.gives took
  given_open key took = means.list took

  pub given_end : (s : Sub) (given : List Tree) → s.ended ≡ false → EndsSub f s.took None given → (given_by yields (end_sub s)).list ≡ (given_by yields s).list ++ given
  given_end s given e h = ap (λ (g : Given Tree). g.list) (ends_as s.took given h) ∙ ap (λ (l : List Tree). l ++ given) (sym (means.list s.took) ∙ rw e refl)
