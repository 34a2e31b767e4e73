-- The steps of a chain one after another: what the first i of them made of the list, and what is left to do.
use Rattle.std.specs.Prelude.{slice_get, slice_set}
use Rattle.std.proofs.Common.{◌≡◌, ℕ, zero, suc, ◌+◌, ◌≤◌, List, [], ◌∷◌, ◌++◌, length, take, drop, Some, refl, sym, ap, ◌∙◌, add-one, append_assoc, append-nil, arith}
use Rattle.std.proofs.lemmas.Option.{same_Some}
use Rattle.elem_core.specs.Tree.{Tree}
use Rattle.stream_model.specs.Outlook.{End, unended, ended, failed}
use Rattle.stream_model.specs.Machine.{State, going, done, broken, Run, Finish, adds, refuses, Given, run, close, close_at, finish_at}
use Rattle.stream_model.specs.Linear.{Stage}
use Rattle.stream_model.specs.Substreams.{Chain, through}
use Rattle.step_work.specs.LineChains.{after, emptied}
use Rattle.line_chain.specs.Line.{no_plugs}
use Rattle.line_chain.specs.Steps.{machine, start_of, now_of}
use Rattle.line_chain.specs.Chains.{starts_of, nows_of, RanAt, RanAll}
use Rattle.line_chain.specs.declared.step.LineStep.{LineStep}

-- ---- places of a list

drop_at : {X : Type 0} (xs : List X) (i : ℕ) (x : X) → slice_get xs i ≡ Some x → drop i xs ≡ x ∷ drop (suc i) xs
drop_at [] i x e = cc
drop_at (y ∷ xs) zero x e = ap (λ z. z ∷ xs) (same_Some y x e)
drop_at (y ∷ xs) (suc i) x e = drop_at xs i x e

drop_set : {X : Type 0} (xs : List X) (i : ℕ) (y : X) → drop (suc i) (slice_set xs i y) ≡ drop (suc i) xs
drop_set [] i y = refl
drop_set (x ∷ xs) zero y = refl
drop_set (x ∷ xs) (suc i) y = drop_set xs i y

take_set : {X : Type 0} (xs : List X) (i : ℕ) (x y : X) → slice_get xs i ≡ Some x → take (suc i) (slice_set xs i y) ≡ take i xs ++ y ∷ []
take_set [] i x y e = cc
take_set (z ∷ xs) zero x y e = refl
take_set (z ∷ xs) (suc i) x y e = ap (λ l. z ∷ l) (take_set xs i x y e)

length_set : {X : Type 0} (xs : List X) (i : ℕ) (y : X) → length (slice_set xs i y) ≡ length xs
length_set [] i y = refl
length_set (x ∷ xs) zero y = refl
length_set (x ∷ xs) (suc i) y = ap suc (length_set xs i y)

past_drop : {X : Type 0} (xs : List X) (i : ℕ) → length xs ≤ i → drop i xs ≡ []
past_drop [] zero h = refl
past_drop [] (suc i) h = refl
past_drop (x ∷ xs) zero h = absurd (omega (arith, h))
past_drop (x ∷ xs) (suc i) h = past_drop xs i (omega (arith, h))

past_take : {X : Type 0} (xs : List X) (i : ℕ) → length xs ≤ i → take i xs ≡ xs
past_take [] zero h = refl
past_take [] (suc i) h = refl
past_take (x ∷ xs) zero h = absurd (omega (arith, h))
past_take (x ∷ xs) (suc i) h = ap (λ l. x ∷ l) (past_take xs i (omega (arith, h)))

map_append : (xs : List LineStep) (y : LineStep) → nows_of (xs ++ y ∷ []) ≡ nows_of xs ++ now_of y ∷ []
map_append [] y = refl
map_append (x ∷ xs) y = ap (λ l. now_of x ∷ l) (map_append xs y)

starts_set : (xs : List LineStep) (i : ℕ) (x y : LineStep) → slice_get xs i ≡ Some x → start_of y ≡ start_of x → starts_of (slice_set xs i y) ≡ starts_of xs
starts_set [] i x y e h = cc
starts_set (z ∷ xs) zero x y e h = ap (λ s. s ∷ starts_of xs) (h ∙ ap start_of (sym (same_Some z x e)))
starts_set (z ∷ xs) (suc i) x y e h = ap (λ l. start_of z ∷ l) (starts_set xs i x y e h)

-- ---- a stage whose outputs go on was open, as its input was, and gave no more

pub record Open (g : List Tree) (e : End) (outs : List Tree) : Type 0 where
  pub input : e ≡ unended
  pub same : outs ≡ g

no_finish : (g : List Tree) (f : Finish Tree) (outs : List Tree) (d : End) → finish_at machine g f ≡ record { list = outs; end = d } → d ≡ unended → ⊥
no_finish g (adds o) outs d c h = let x : ended ≡ unended = ap (λ (y : Given Tree). y.end) c ∙ h in cc
no_finish g (refuses w) outs d c h = let x : failed w ≡ unended = ap (λ (y : Given Tree). y.end) c ∙ h in cc

goes_open : (g : List Tree) (st : State Stage) (e : End) (outs : List Tree) (d : End) → close_at machine g st e ≡ record { list = outs; end = d } → d ≡ unended → Open g e outs
goes_open g (going s) unended outs d c h = record { input = refl; same = sym (ap (λ (x : Given Tree). x.list) c) }
goes_open g (going s) ended outs d c h = absurd (no_finish g (machine.finish s) outs d c h)
goes_open g (going s) (failed w) outs d c h = let x : failed w ≡ unended = ap (λ (y : Given Tree). y.end) c ∙ h in cc
goes_open g done e outs d c h = let x : ended ≡ unended = ap (λ (y : Given Tree). y.end) c ∙ h in cc
goes_open g (broken w) e outs d c h = let x : failed w ≡ unended = ap (λ (y : Given Tree). y.end) c ∙ h in cc

-- ---- the loop over the steps

-- the first i steps made `ins` of the list, and it stands so; they went on where it goes on
pub record Half (olds : List LineStep) (l : List Tree) (e : End) (i : ℕ) (steps : List LineStep) (ins : List Tree) (now : End) : Type 0 where
  pub count : length steps ≡ length olds
  pub rest : through no_plugs (nows_of (drop i steps)) ins now ≡ through no_plugs (nows_of olds) l e
  pub began : starts_of steps ≡ starts_of olds
  pub goes : now ≡ unended → nows_of (take i steps) ++ after no_plugs (nows_of (drop i steps)) ins ≡ after no_plugs (nows_of olds) l

next_rest : (s : LineStep) (ss : List LineStep) (ins outs : List Tree) (e d : End) → close machine (run machine (now_of s) ins) e ≡ record { list = outs; end = d } → through no_plugs (nows_of ss) outs d ≡ through no_plugs (nows_of (s ∷ ss)) ins e
next_rest s ss ins outs e d c = ap (λ (x : Given Tree). through no_plugs (nows_of ss) x.list x.end) (sym c)

next_goes : (was is : LineStep) (xs ss : List LineStep) (ins outs : List Tree) → now_of is ≡ emptied no_plugs (run machine (now_of was) ins) → outs ≡ (run machine (now_of was) ins).gave
    → nows_of (xs ++ is ∷ []) ++ after no_plugs (nows_of ss) outs ≡ nows_of xs ++ after no_plugs (nows_of (was ∷ ss)) ins
next_goes was is xs ss ins outs n o =
    ap (λ (k : Chain). k ++ after no_plugs (nows_of ss) outs) (map_append xs is) ∙ append_assoc (nows_of xs) (now_of is ∷ []) (after no_plugs (nows_of ss) outs)
    ∙ ap (λ (r : Run Stage Tree). nows_of xs ++ r ∷ after no_plugs (nows_of ss) outs) n ∙ ap (λ (k : List Tree). nows_of xs ++ emptied no_plugs (run machine (now_of was) ins) ∷ after no_plugs (nows_of ss) k) o

half_more : (olds : List LineStep) (l : List Tree) (e : End) (i : ℕ) (steps new : List LineStep) (ins outs : List Tree) (now d : End) → Half olds l e i steps ins now → RanAt steps i ins now new outs d → Half olds l e (suc i) new outs d
half_more olds l e i steps new ins outs now d h r =
    let behind : drop (suc i) new ≡ drop (suc i) steps = ap (drop (suc i)) r.set ∙ drop_set steps i r.is in
    let here : drop i steps ≡ r.was ∷ drop (suc i) steps = drop_at steps i r.was r.at in
    let front : take (suc i) new ≡ take i steps ++ r.is ∷ [] = ap (take (suc i)) r.set ∙ take_set steps i r.was r.is r.at in record {
      count = ap length r.set ∙ length_set steps i r.is ∙ h.count;
      rest = ap (λ (ss : List LineStep). through no_plugs (nows_of ss) outs d) behind ∙ next_rest r.was (drop (suc i) steps) ins outs now d r.ran.comes ∙ ap (λ (ss : List LineStep). through no_plugs (nows_of ss) ins now) (sym here) ∙ h.rest;
      began = ap starts_of r.set ∙ starts_set steps i r.was r.is r.at r.ran.began ∙ h.began;
      goes = λ on.
          let o = goes_open (run machine (now_of r.was) ins).gave (run machine (now_of r.was) ins).state now outs d r.ran.comes on in
          ap (λ (xs : List LineStep). nows_of xs ++ after no_plugs (nows_of (drop (suc i) new)) outs) front ∙ ap (λ (ss : List LineStep). nows_of (take i steps ++ r.is ∷ []) ++ after no_plugs (nows_of ss) outs) behind
          ∙ next_goes r.was r.is (take i steps) (drop (suc i) steps) ins outs (r.ran.goes on) o.same ∙ ap (λ (ss : List LineStep). nows_of (take i steps) ++ after no_plugs (nows_of ss) ins) (sym here) ∙ h.goes o.input;
    }

-- one step more
pub half_next : (olds : List LineStep) (l : List Tree) (e : End) (i : ℕ) (steps new : List LineStep) (ins outs : List Tree) (now d : End) → Half olds l e i steps ins now → RanAt steps i ins now new outs d → Half olds l e (i + 1) new outs d
half_next olds l e i steps new ins outs now d h r = rw add-one (half_more olds l e i steps new ins outs now d h r)

-- all of them
pub half_all : (olds : List LineStep) (l : List Tree) (e : End) (i : ℕ) (steps : List LineStep) (ins : List Tree) (now : End) (before out : List Tree) → length steps ≤ i → Half olds l e i steps ins now → out ≡ before ++ ins → RanAll olds l e steps before out now
half_all olds l e i steps ins now before out past h put =
    let none : drop i steps ≡ [] = past_drop steps i past in
    let is : record { list = ins; end = now } ≡ through no_plugs (nows_of olds) l e = ap (λ (ss : List LineStep). through no_plugs (nows_of ss) ins now) (sym none) ∙ h.rest in record {
      gave = put ∙ ap (λ (x : Given Tree). before ++ x.list) is;
      ends = ap (λ (x : Given Tree). x.end) (sym is);
      began = h.began;
      goes = λ on.
          ap nows_of (sym (past_take steps i past)) ∙ sym (append-nil (nows_of (take i steps))) ∙ ap (λ (ss : List LineStep). nows_of (take i steps) ++ after no_plugs (nows_of ss) ins) (sym none) ∙ h.goes on;
    }
