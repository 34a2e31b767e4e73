-- What was given by the first moves of a plan agrees with the outlook by the whole plan, where nothing fails.
use Rattle.std.proofs.Common.{◌≡◌, ℕ, zero, suc, ◌+◌, ◌≤◌, ◌<◌, Bool, true, false, IsTrue, ◌⊎◌, inl, inr, List, [], ◌∷◌, ◌++◌, length, map, refl, sym, ap, ◌∙◌, subst, arith, append-nil, length-append, Option, Some, None}
use Rattle.std.specs.Prelude.{slice_get, slice_set, cond, if◌then◌else◌, ◌&&◌, ◌==◌, nat_le, nat_lt}
use Rattle.std.specs.List.{list_all}
use Rattle.std.proofs.lemmas.Bool.{cases_eq, and_parts}
use Rattle.std.proofs.lemmas.Bool.Decides.{nat_tests}
use Rattle.std.proofs.lemmas.List.Sums.{sum_by-cons, sum_by-append}
use Rattle.elem_core.specs.Prefix.{IsPrefix}
use Rattle.elem_core.specs.Tree.{Tree}
use Rattle.elem_core.specs.declared.why.Cause.{Cause}
use Rattle.elem_core.proofs.Prefixes.{prefix_refl, prefix_trans}
use Rattle.stream_model.specs.Outlook.{Outlook, Entry, End, unended, ended, failed, Agrees, Allows}
use Rattle.stream_model.specs.FanIn.{Tagged, tag, merge_of, Finds, Inflow, flow, AllAgree}
use Rattle.stream_model.specs.Machine.{is_ended}
use Rattle.stream_model.specs.Picks.{count_of, used_up, within, all_below, merge_fits, merge_outlook, FailsWithin, MergeStands, sent_to, balance_fits, balance_outlook, BalanceStands}
use Rattle.stream_model.proofs.Fitting.{yes_one}
use Rattle.stream_model.proofs.Cuts.{prefix_more}
use Rattle.stream_model.proofs.MergeTraces.{lists_prefix, merge_same, merge_trace}
use Rattle.stream_model.proofs.PickTraces.{agrees_prefix, balance_trace}
use Rattle.plan_laws.specs.Sure.{AllSure}

-- ---- merge

-- further moves only add to what the first give
pub merge_grows : (made rest : List ℕ) (ls : List (List Tree)) → IsPrefix (map (λ x. x.item) (merge_of made ls)) (map (λ x. x.item) (merge_of (made ++ rest) ls))
merge_grows [] rest ls = record { rest = map (λ x. x.item) (merge_of rest ls); is = refl }
merge_grows (i ∷ made) rest ls = by_slot (slice_get ls i) refl (λ ks. merge_grows made rest ks)
  where
    by_slot : (o : Option (List Tree)) → slice_get ls i ≡ o → ((ks : List (List Tree)) → IsPrefix (map (λ x. x.item) (merge_of made ks)) (map (λ x. x.item) (merge_of (made ++ rest) ks))) → IsPrefix (map (λ x. x.item) (merge_of (i ∷ made) ls)) (map (λ x. x.item) (merge_of (i ∷ (made ++ rest)) ls))
    by_slot None e later = rw e (later ls)
    by_slot (Some []) e later = rw e (later ls)
    by_slot (Some (t ∷ ts)) e later = rw e (prefix_more t (later (slice_set ls i ts)))

-- an input that fails has a failure in its outlook
pub none_fails : (moves : List ℕ) (n : ℕ) (os : List Outlook) (fs : List Inflow) (c : Cause) → AllSure os → AllAgree os fs → FailsWithin moves n fs c → ⊥
none_fails moves n [] [] c s a h = h
none_fails moves n [] (f ∷ fs) c s a h = a
none_fails moves n (o ∷ os) [] c s a h = a
none_fails moves n (o ∷ os) (f ∷ fs) c s a (inl h) =
    let failing : Agrees o f.list (failed c) = subst (λ e. Agrees o f.list e) h.0 a.0 in
    subst (λ (es : List Entry). Allows es c (length f.list)) s.0 failing.1
none_fails moves n (o ∷ os) (f ∷ fs) c s a (inr h) = none_fails moves (n + 1) os fs c s.1 a.1 h

more_named : (n j : ℕ) (made js : List ℕ) → j ≡ n → count_of n made + 1 ≤ count_of n (made ++ j ∷ js)
more_named n j made js h =
    let a = sum_by-append (λ k. cond (k == n) 1 0) made (j ∷ js) in
    let b = sum_by-cons (λ k. cond (k == n) 1 0) j js in
    let one = yes_one j n h in
    omega (arith, a, b, one)

same_count : (a b : ℕ) → (a == b) ≡ true → a ≡ b
same_count a b h = grind (arith, nat_tests)

at_most : (a b : ℕ) → nat_le a b ≡ true → a ≤ b
at_most a b h = grind (arith, nat_tests)

is_below : (a b : ℕ) → nat_lt a b ≡ true → a < b
is_below a b h = grind (arith, nat_tests)

-- where the first moves use up all inputs, there are no others
over_used : (n : ℕ) (os : List Outlook) (made js : List ℕ) (j : ℕ) → IsTrue (used_up made n os) → within (made ++ j ∷ js) n os ≡ true → n ≤ j → j < n + length os → ⊥
over_used n [] made js j u w l b = omega (arith, l, b)
over_used n (o ∷ os) made js j u w l b =
    let p = and_parts (o.ends && (count_of n made == length o.list)) (used_up made (n + 1) os) u in
    let q = and_parts o.ends (count_of n made == length o.list) p.0 in
    let used : count_of n made ≡ length o.list = same_count (count_of n made) (length o.list) q.1 in
    let v = and_parts (nat_le (count_of n (made ++ j ∷ js)) (length o.list)) (within (made ++ j ∷ js) (n + 1) os) w in
    let few : count_of n (made ++ j ∷ js) ≤ length o.list = at_most (count_of n (made ++ j ∷ js)) (length o.list) v.0 in
    by_place (cases_eq j n) used few (λ k m. over_used (n + 1) os made js j p.1 v.1 k m)
  where
    by_place : (j ≡ n) ⊎ (j ≡ n → ⊥) → count_of n made ≡ length o.list → count_of n (made ++ j ∷ js) ≤ length o.list → (n + 1 ≤ j → j < n + 1 + length os → ⊥) → ⊥
    by_place (inl e) used few later = let more = more_named n j made js e in omega (arith, used, few, more)
    by_place (inr e) used few later = later (omega (arith, l, e)) (omega (arith, b))

-- a move of a list that is below n
named_in : (n : ℕ) (made js : List ℕ) (j : ℕ) → all_below n (made ++ j ∷ js) ≡ true → j < n
named_in n [] js j h = let p = and_parts (nat_lt j n) (list_all (λ k. nat_lt k n) js) h in is_below j n p.0
named_in n (i ∷ made) js j h = let p = and_parts (nat_lt i n) (list_all (λ k. nat_lt k n) (made ++ j ∷ js)) h in named_in n made js j p.1

module _ (made rest : List ℕ) (os : List Outlook) (ins : List Inflow) (g : List Tree) (fits : merge_fits (made ++ rest) os ≡ true) (sure : AllSure os) (a : AllAgree os ins) where
  part : (e : End) → MergeStands made ins g e → IsPrefix g (merge_outlook (made ++ rest) os).list
  part e s =
      let same : g ≡ map (λ x. x.item) (merge_of made (map (λ o. o.list) os)) = s.gave ∙ ap (λ (l : List Tagged). map (λ x. x.item) l) (merge_same made (map (λ f. f.list) ins) (map (λ o. o.list) os) (lists_prefix os ins a) s.finds) in
      rw same (merge_grows made rest (map (λ o. o.list) os))

  no_more : (r : List ℕ) → rest ≡ r → IsTrue (used_up made 0 os) → rest ≡ []
  no_more [] e u = e
  no_more (j ∷ js) e u =
      let f : merge_fits (made ++ j ∷ js) os ≡ true = subst (λ (l : List ℕ). merge_fits (made ++ l) os ≡ true) e fits in
      let p = and_parts (all_below (length os) (made ++ j ∷ js)) (within (made ++ j ∷ js) 0 os) f in
      let b = named_in (length os) made js j p.0 in
      absurd (over_used 0 os made js j u p.1 (omega arith) (omega (arith, b)))

  all_made : MergeStands made ins g ended → Agrees (merge_outlook (made ++ rest) os) g ended
  all_made s =
      let t : Agrees (merge_outlook made os) g ended = merge_trace made os ins g ended a s in
      let e : rest ≡ [] = no_more rest refl t.0 in
      subst (λ (l : List ℕ). Agrees (merge_outlook l os) g ended) (sym (ap (λ (l : List ℕ). made ++ l) e ∙ append-nil made)) t

pub merge_serves : (made rest : List ℕ) (os : List Outlook) (ins : List Inflow) (g : List Tree) (e : End) → merge_fits (made ++ rest) os ≡ true → AllSure os → AllAgree os ins → MergeStands made ins g e → Agrees (merge_outlook (made ++ rest) os) g e
merge_serves made rest os ins g unended fits sure a s = part made rest os ins g fits sure a unended s
merge_serves made rest os ins g ended fits sure a s = all_made made rest os ins g fits sure a s
merge_serves made rest os ins g (failed c) fits sure a s = absurd (none_fails made 0 os ins c sure a (s.fails c refl))

-- ---- balance

sent_grows : (i : ℕ) (made rest : List ℕ) (l : List Tree) → IsPrefix (sent_to i made l) (sent_to i (made ++ rest) l)
sent_grows i [] rest l = record { rest = sent_to i rest l; is = refl }
sent_grows i (j ∷ made) rest [] = record { rest = []; is = refl }
sent_grows i (j ∷ made) rest (t ∷ l) = by_flag (j == i) (sent_grows i made rest l)
  where
    by_flag : (b : Bool) → IsPrefix (sent_to i made l) (sent_to i (made ++ rest) l) → IsPrefix (if b then t ∷ sent_to i made l else sent_to i made l) (if b then t ∷ sent_to i (made ++ rest) l else sent_to i (made ++ rest) l)
    by_flag true p = prefix_more t p
    by_flag false p = p

sent_same : (i : ℕ) (made : List ℕ) (l r : List Tree) → length made ≤ length l → sent_to i made (l ++ r) ≡ sent_to i made l
sent_same i [] l r h = refl
sent_same i (j ∷ made) [] r h = absurd (omega (arith, h))
sent_same i (j ∷ made) (t ∷ l) r h = let later = sent_same i made l r (omega (arith, h)) in ap (λ x. if j == i then t ∷ x else x) later

module _ (n i : ℕ) (made rest : List ℕ) (o : Outlook) (f : Inflow) (g : List Tree) (fits : balance_fits n (made ++ rest) o ≡ true) (a : Agrees o f.list f.end) where
  sent_part : (e : End) → BalanceStands made i f g e → IsPrefix g (sent_to i (made ++ rest) o.list)
  sent_part e s =
      let p = agrees_prefix o f.list f.end a in
      let same : g ≡ sent_to i made o.list = s.gave ∙ sym (ap (sent_to i made) p.is ∙ sent_same i made f.list p.rest s.taken) in
      rw same (sent_grows i made rest o.list)

  none_rests : (r : List ℕ) → rest ≡ r → length made ≡ length o.list → rest ≡ []
  none_rests [] e h = e
  none_rests (j ∷ js) e h =
      let b : balance_fits n (made ++ j ∷ js) o ≡ true = subst (λ (l : List ℕ). balance_fits n (made ++ l) o ≡ true) e fits in
      let p = and_parts (all_below n (made ++ j ∷ js)) (nat_le (length (made ++ j ∷ js)) (length o.list)) b in
      let few = at_most (length (made ++ j ∷ js)) (length o.list) p.1 in
      let long = length-append made (j ∷ js) in
      absurd (omega (arith, few, long, h))

  all_sent : BalanceStands made i f g ended → Agrees (balance_outlook (made ++ rest) o i) g ended
  all_sent s =
      let q = s.ends refl in
      let all : Agrees o f.list ended = subst (λ x. Agrees o f.list x) q.0 a in
      let e : rest ≡ [] = none_rests rest refl (q.1 ∙ ap length all.1) in
      subst (λ (l : List ℕ). Agrees (balance_outlook l o i) g ended) (sym (ap (λ (l : List ℕ). made ++ l) e ∙ append-nil made)) (balance_trace made i o f g ended a s)

pub balance_serves : (n i : ℕ) (made rest : List ℕ) (o : Outlook) (f : Inflow) (g : List Tree) (e : End) → balance_fits n (made ++ rest) o ≡ true → o.fails ≡ [] → Agrees o f.list f.end → BalanceStands made i f g e
    → Agrees (balance_outlook (made ++ rest) o i) g e
balance_serves n i made rest o f g unended fits sure a s = sent_part n i made rest o f g fits a unended s
balance_serves n i made rest o f g ended fits sure a s = all_sent n i made rest o f g fits a s
balance_serves n i made rest o f g (failed c) fits sure a s =
    let q = s.fails c refl in
    let failing : Agrees o f.list (failed c) = subst (λ x. Agrees o f.list x) q.0 a in
    absurd (subst (λ (es : List Entry). Allows es c (length f.list)) sure failing.1)

-- ---- a balance that dropped elements

pub dealt_serves : (i : ℕ) (made rest : List ℕ) (o : Outlook) (f : Inflow) (g : List Tree) → Agrees o f.list f.end → length made ≤ length f.list → IsPrefix g (sent_to i made f.list) → Agrees (balance_outlook (made ++ rest) o i) g unended
dealt_serves i made rest o f g a taken part =
    let p = agrees_prefix o f.list f.end a in
    let same : sent_to i made f.list ≡ sent_to i made o.list = sym (ap (sent_to i made) p.is ∙ sent_same i made f.list p.rest taken) in
    prefix_trans (subst (λ (x : List Tree). IsPrefix g x) same part) (sent_grows i made rest o.list)
