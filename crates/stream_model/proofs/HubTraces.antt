-- The law of traces for a merge hub: where its inputs agree with their outlooks, what it gave by its moves agrees with its own, though it
-- took each failure as an end.
use Rattle.std.proofs.Common.{◌≡◌, ℕ, ◌+◌, ◌≤◌, Bool, true, false, IsTrue, ◌⊎◌, inl, inr, List, [], ◌∷◌, length, map, refl, sym, ap, ◌∙◌, subst, arith}
use Rattle.std.specs.Prelude.{◌&&◌, ◌||◌, ◌==◌}
use Rattle.std.proofs.lemmas.Bool.{and_from, and_parts}
use Rattle.std.proofs.lemmas.Bool.Decides.{nat_tests}
use Rattle.elem_core.proofs.Prefixes.{prefix_refl}
use Rattle.elem_core.specs.Prefix.{IsPrefix}
use Rattle.elem_core.specs.Tree.{Tree}
use Rattle.elem_core.specs.declared.why.Cause.{Cause}
use Rattle.stream_model.specs.Outlook.{Outlook, End, unended, ended, failed, Agrees}
use Rattle.stream_model.specs.FanIn.{Tagged, merge_of, Inflow, flow, AllAgree}
use Rattle.stream_model.specs.Machine.{is_ended}
use Rattle.stream_model.specs.Picks.{count_of, used_up, may_fail_at, FailsWithin, MergeStands, merge_fits, soft, softened, softened_by, over_by, hub_outlook, gathered_by}
use Rattle.stream_model.proofs.Agreeing.{merge_moves_fit}
use Rattle.stream_model.proofs.MergeTraces.{PrefixAll, merge_same, merge_trace}
use Rattle.stream_model.proofs.Fitting.{finds_fits, may_fail}

-- an input of which a failure was taken as an end agrees with its outlook
abbrev pub SoftlyAgrees : Outlook → List Tree → End → Type 0
SoftlyAgrees o l unended = Agrees o l unended
SoftlyAgrees o l ended = Agrees o l ended ⊎ ((c : Cause) × Agrees o l (failed c))
SoftlyAgrees o l (failed c) = ⊥

-- the same of each input
abbrev pub AllSoftlyAgree : List Outlook → List Inflow → Type 0
AllSoftlyAgree [] [] = Unit {0}
AllSoftlyAgree (o ∷ os) (f ∷ fs) = SoftlyAgrees o f.list f.end × AllSoftlyAgree os fs
AllSoftlyAgree _ _ = ⊥

-- what agrees, agrees where its failure is taken as an end
softly : (o : Outlook) (l : List Tree) (e : End) → Agrees o l e → SoftlyAgrees o l (soft e)
softly o l unended a = a
softly o l ended a = inl a
softly o l (failed c) a = inr (c, a)

all_softly : (os : List Outlook) (fs : List Inflow) → AllAgree os fs → AllSoftlyAgree os (softened fs)
all_softly [] [] a = tt
all_softly [] (f ∷ fs) a = absurd a
all_softly (o ∷ os) [] a = absurd a
all_softly (o ∷ os) (f ∷ fs) a = (softly o f.list f.end a.0, all_softly os fs a.1)

lists_prefix : (os : List Outlook) (fs : List Inflow) → AllSoftlyAgree os fs → PrefixAll (map (λ f. f.list) fs) (map (λ o. o.list) os)
lists_prefix [] [] a = tt
lists_prefix [] (f ∷ fs) a = absurd a
lists_prefix (o ∷ os) [] a = absurd a
lists_prefix (o ∷ os) (f ∷ fs) a = (of_agrees o f.list f.end a.0, lists_prefix os fs a.1)
  where
    of_agrees : (o : Outlook) (l : List Tree) (e : End) → SoftlyAgrees o l e → IsPrefix l o.list
    of_agrees o l unended a = a
    of_agrees o l ended (inl a) = rw a.1 (prefix_refl o.list)
    of_agrees o l ended (inr a) = a.1.0
    of_agrees o l (failed c) a = absurd a

lists_long : (os : List Outlook) (fs : List Inflow) → AllSoftlyAgree os fs → length (map (λ f. f.list) fs) ≡ length os
lists_long [] [] a = refl
lists_long [] (f ∷ fs) a = absurd a
lists_long (o ∷ os) [] a = absurd a
lists_long (o ∷ os) (f ∷ fs) a = let r = lists_long os fs a.1 in omega (arith, r)

or_right : (a b : Bool) → b ≡ true → (a || b) ≡ true
or_right true b h = refl
or_right false b h = h

or_left : (a b : Bool) → a ≡ true → (a || b) ≡ true
or_left a b h = rw h refl

-- where all that was taken is over and used up, so is all that may come
over_whole : (moves : List ℕ) (n : ℕ) (os : List Outlook) (fs : List Inflow) → AllSoftlyAgree os fs → IsTrue (used_up moves n (map flow fs)) → IsTrue (over_by moves n os)
over_whole moves n [] [] a h = refl
over_whole moves n [] (f ∷ fs) a h = absurd a
over_whole moves n (o ∷ os) [] a h = absurd a
over_whole moves n (o ∷ os) (f ∷ fs) a h = first o f.list f.end a.0 h (λ k. over_whole moves (n + 1) os fs a.1 k)
  where
    first : (o : Outlook) (l : List Tree) (e : End) → SoftlyAgrees o l e → IsTrue (is_ended e && (count_of n moves == length l) && used_up moves (n + 1) (map flow fs))
        → (IsTrue (used_up moves (n + 1) (map flow fs)) → IsTrue (over_by moves (n + 1) os))
        → IsTrue (((o.ends && (count_of n moves == length o.list)) || may_fail_at (count_of n moves) o.fails) && over_by moves (n + 1) os)
    first o l unended a h k = cc
    first o l (failed c) a h k = absurd a
    first o l ended (inl a) h k =
        let p = and_parts (count_of n moves == length l) (used_up moves (n + 1) (map flow fs)) h in
        let same : (count_of n moves == length o.list) ≡ true = ap (λ x. count_of n moves == length x) (sym a.1) ∙ p.0 in
        and_from ((o.ends && (count_of n moves == length o.list)) || may_fail_at (count_of n moves) o.fails) (over_by moves (n + 1) os)
        (or_left (o.ends && (count_of n moves == length o.list)) (may_fail_at (count_of n moves) o.fails) (and_from o.ends (count_of n moves == length o.list) a.0 same)) (k p.1)
    first o l ended (inr a) h k =
        let p = and_parts (count_of n moves == length l) (used_up moves (n + 1) (map flow fs)) h in
        let same : length l ≡ count_of n moves = grind (arith, nat_tests, p.0) in
        and_from ((o.ends && (count_of n moves == length o.list)) || may_fail_at (count_of n moves) o.fails) (over_by moves (n + 1) os)
        (or_right (o.ends && (count_of n moves == length o.list)) (may_fail_at (count_of n moves) o.fails) (subst (λ m. may_fail_at m o.fails ≡ true) same (may_fail o.fails a.0 (length l) a.1.1))) (k p.1)

-- no input of it fails
none_fails : (moves : List ℕ) (n : ℕ) (os : List Outlook) (fs : List Inflow) (c : Cause) → AllSoftlyAgree os fs → FailsWithin moves n fs c → ⊥
none_fails moves n [] [] c a h = h
none_fails moves n [] (f ∷ fs) c a h = absurd a
none_fails moves n (o ∷ os) [] c a h = absurd a
none_fails moves n (o ∷ os) (f ∷ fs) c a (inr h) = none_fails moves (n + 1) os fs c a.1 h
none_fails moves n (o ∷ os) (f ∷ fs) c a (inl h) = subst (λ e. SoftlyAgrees o f.list e) h.0 a.0

-- what a merge hub gave agrees with the outlook of its output by its moves
pub hub_trace : (moves : List ℕ) (os : List Outlook) (ins : List Inflow) (g : List Tree) (e : End) → AllAgree os ins → MergeStands moves (softened ins) g e → Agrees (hub_outlook moves os) g e
hub_trace moves os ins g e a s = by_end e refl
  where
    same : g ≡ map (λ x. x.item) (merge_of moves (map (λ o. o.list) os))
    same = s.gave ∙ ap (λ (l : List Tagged). map (λ x. x.item) l) (merge_same moves (map (λ f. f.list) (softened ins)) (map (λ o. o.list) os) (lists_prefix os (softened ins) (all_softly os ins a)) s.finds)

    by_end : (f : End) → e ≡ f → Agrees (hub_outlook moves os) g f
    by_end unended is = rw (← same) (prefix_refl g)
    by_end ended is = (over_whole moves 0 os (softened ins) (all_softly os ins a) (s.ends is), same)
    by_end (failed c) is = absurd (none_fails moves 0 os (softened ins) c (all_softly os ins a) (s.fails c is))

-- and its moves fit
pub hub_moves_fit : (moves : List ℕ) (os : List Outlook) (ins : List Inflow) (g : List Tree) (e : End) → AllAgree os ins → MergeStands moves (softened ins) g e → merge_fits moves os ≡ true
hub_moves_fit moves os ins g e a s =
    let b = all_softly os ins a in
    finds_fits moves (map (λ f. f.list) (softened ins)) os (lists_prefix os (softened ins) b) (lists_long os (softened ins) b) s.finds

-- the same of a stage that gathers or does not
pub gathered_trace : (gathers : Bool) (moves : List ℕ) (os : List Outlook) (ins : List Inflow) (g : List Tree) (e : End) → AllAgree os ins → MergeStands moves (softened_by gathers ins) g e → Agrees (gathered_by gathers moves os) g e
gathered_trace false moves os ins g e a s = merge_trace moves os ins g e a s
gathered_trace true moves os ins g e a s = hub_trace moves os ins g e a s

pub gathered_fits : (gathers : Bool) (moves : List ℕ) (os : List Outlook) (ins : List Inflow) (g : List Tree) (e : End) → AllAgree os ins → MergeStands moves (softened_by gathers ins) g e → merge_fits moves os ≡ true
gathered_fits false moves os ins g e a s = merge_moves_fit moves os ins g e a s
gathered_fits true moves os ins g e a s = hub_moves_fit moves os ins g e a s
