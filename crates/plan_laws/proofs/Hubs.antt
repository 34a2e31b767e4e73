-- A merge hub whose inputs do not fail is a merge: what it gave by the first moves of a plan agrees with the outlook by the whole plan.
use Rattle.std.proofs.Common.{◌≡◌, ℕ, ◌+◌, Bool, true, false, IsTrue, List, [], ◌∷◌, ◌++◌, length, map, refl, sym, ap, ◌∙◌, subst}
use Rattle.std.specs.Prelude.{◌&&◌, ◌||◌, ◌==◌}
use Rattle.elem_core.specs.Tree.{Tree}
use Rattle.elem_core.specs.declared.why.Cause.{Cause}
use Rattle.stream_model.specs.Outlook.{Outlook, Entry, End, unended, ended, failed, Agrees, Allows}
use Rattle.stream_model.specs.FanIn.{Inflow, AllAgree}
use Rattle.stream_model.specs.Picks.{count_of, used_up, may_fail_at, merge_fits, merge_outlook, MergeStands, soft, softened, over_by, hub_outlook}
use Rattle.plan_laws.specs.Sure.{AllSure}
use Rattle.plan_laws.proofs.Serving.{merge_serves, none_fails}

-- an input that does not fail stands as it stands
flow_same : (o : Outlook) (f : Inflow) → o.fails ≡ [] → Agrees o f.list f.end → ◌≡◌ {A = Inflow} (record { list = f.list; end = soft f.end }) f
flow_same o f sure a = by_end f.end refl
  where
    by_end : (e : End) → f.end ≡ e → ◌≡◌ {A = Inflow} (record { list = f.list; end = soft f.end }) f
    by_end unended is = ap (λ (e : End). record { list = f.list; end = soft e }) is ∙ sym (ap (λ (e : End). record { list = f.list; end = e }) is)
    by_end ended is = ap (λ (e : End). record { list = f.list; end = soft e }) is ∙ sym (ap (λ (e : End). record { list = f.list; end = e }) is)
    by_end (failed c) is =
        let failing : Agrees o f.list (failed c) = subst (λ e. Agrees o f.list e) is a in
        absurd (subst (λ (es : List Entry). Allows es c (length f.list)) sure failing.1)

softened_same : (os : List Outlook) (fs : List Inflow) → AllSure os → AllAgree os fs → softened fs ≡ fs
softened_same [] [] s a = refl
softened_same [] (f ∷ fs) s a = absurd a
softened_same (o ∷ os) [] s a = absurd a
softened_same (o ∷ os) (f ∷ fs) s a = ap (λ (x : Inflow). x ∷ softened fs) (flow_same o f s.0 a.0) ∙ ap (λ (xs : List Inflow). f ∷ xs) (softened_same os fs s.1 a.1)

or_none : (b : Bool) → (b || false) ≡ b
or_none true = refl
or_none false = refl

over_same : (moves : List ℕ) (n : ℕ) (os : List Outlook) → AllSure os → over_by moves n os ≡ used_up moves n os
over_same moves n [] s = refl
over_same moves n (o ∷ os) s =
    ap (λ (es : List Entry). ((o.ends && (count_of n moves == length o.list)) || may_fail_at (count_of n moves) es) && over_by moves (n + 1) os) s.0
    ∙ ap (λ b. b && over_by moves (n + 1) os) (or_none (o.ends && (count_of n moves == length o.list)))
    ∙ ap (λ b. (o.ends && (count_of n moves == length o.list)) && b) (over_same moves (n + 1) os s.1)

module _ (made rest : List ℕ) (os : List Outlook) (ins : List Inflow) (g : List Tree) (fits : merge_fits (made ++ rest) os ≡ true) (sure : AllSure os) (a : AllAgree os ins) where
  as_merge : (e : End) → MergeStands made (softened ins) g e → MergeStands made ins g e
  as_merge e s = subst (λ (fs : List Inflow). MergeStands made fs g e) (softened_same os ins sure a) s

  pub hub_serves : (e : End) → MergeStands made (softened ins) g e → Agrees (hub_outlook (made ++ rest) os) g e
  hub_serves unended s = merge_serves made rest os ins g unended fits sure a (as_merge unended s)
  hub_serves ended s =
      let t : Agrees (merge_outlook (made ++ rest) os) g ended = merge_serves made rest os ins g ended fits sure a (as_merge ended s) in
      (subst IsTrue (sym (over_same (made ++ rest) 0 os sure)) t.0, t.1)
  hub_serves (failed c) s = absurd (none_fails made 0 os ins c sure a ((as_merge (failed c) s).fails c refl))
