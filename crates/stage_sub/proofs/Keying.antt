-- The calls of a group_by, over the substreams of the model: what each exit needs.
use Rattle.std.specs.Prelude.{slice_get, slice_set, if◌then◌else◌, nat_lt, IfOk, OnOk, Result, ⊤}
use Rattle.std.specs.Ordering.{is_eq}
use Rattle.std.proofs.Common.{◌≡◌, ℕ, zero, suc, ◌+◌, ◌<◌, ◌≤◌, Bool, true, false, inl, inr, List, [], ◌∷◌, ◌++◌, map, length, drop, Option, Some, None, Ok, Err, refl, sym, ap, ◌∙◌, subst, append-nil, append_assoc, arith}
use Rattle.std.proofs.lemmas.Option.{same_Some}
use Rattle.elem_core.specs.Tree.{Tree}
use Rattle.elem_core.specs.Order.{tree_cmp}
use Rattle.elem_core.specs.Values.{map_value}
use Rattle.elem_core.specs.declared.function.MapFn.{MapFn}
use Rattle.elem_core.specs.declared.why.Why.{Why}
use Rattle.elem_core.specs.declared.why.Why.TheVariants.{TooManySubstreams}
use Rattle.port_core.specs.declared.chain.ChainStep.TheVariants.{Failed}
use Rattle.stream_model.specs.Outlook.{End}
use Rattle.stream_model.specs.Machine.{Given}
use Rattle.stream_model.specs.FanIn.{Tagged, tag}
use Rattle.stream_model.specs.Substreams.{Sub, by_element, by_end, by_key, arranged, find_key, end_sub, end_all, take_at, given_by, news, trouble}
use Rattle.port_core.specs.ListFunction.{ListFunction, Same}
use Rattle.step_work.specs.Means.{Means}
use Rattle.step_work.specs.Slots.{SlotHolds, Fed, Begun}
use Rattle.stage_sub.specs.Splits.{Last, LastTook, LastEnds}
use Rattle.stage_sub.specs.Groups.{EachHolds, Grouped, Halfway, GroupEndsAt, EndsOne, Within}
use Rattle.stage_sub.specs.Subs.{SubsReach, Arranges}
use Rattle.stage_sub.specs.declared.blame.Blame.{Blame}
use Rattle.stage_sub.specs.declared.blame.Blame.TheVariants.{AtElement}
use Rattle.stage_sub.proofs.Models.{trouble_append, trouble_both, trouble_one, trouble_fails, sub_fails, end_calm, end_fails, end_append, given_end, news_one}
use Rattle.stage_sub.proofs.Groups.{each_calm, group_takes, group_opens, group_fails, find_taken}
use Rattle.stage_sub.proofs.Placing.{new_key}

pub there : {X : Type 0} (xs : List X) (i : ℕ) → i < length xs → (c : X) × (slice_get xs i ≡ Some c)
there [] i h = absurd (omega (arith, h))
there (x ∷ xs) zero h = (x, refl)
there (x ∷ xs) (suc i) h = there xs i (omega (arith, h))

module _ {C : Type 0} (rest : C → ListFunction) (is_open : C → Bool) where
  pub each_length : (f : ListFunction) (cs : List (Option C)) (ss : List Sub) → EachHolds rest is_open f cs ss → length cs ≡ length ss
  each_length f [] [] h = refl
  each_length f (c ∷ cs) (s ∷ ss) h = ap suc (each_length f cs ss h.1)
  each_length f [] (s ∷ ss) h = absurd h
  each_length f (c ∷ cs) [] h = absurd h

  -- what `feed_at` ensures
  abbrev pub FedAt : List (Option C) → ℕ → Tree → Option Why → List Tree → List (Option C) → Type 0
  FedAt cs i t r a new = (d : Option C) × ((new ≡ slice_set cs i d) × ((f : ListFunction) (took : List Tree) (c : Option C) → slice_get cs i ≡ Some c → SlotHolds rest is_open f c took → Fed rest is_open f took t r [] a d))

  module _ (f : ListFunction) (yields : List Tree → End → Given Tree) (means : Means yields f) (ss : List Sub) where
    pub feed_some_exit : (cs new : List (Option C)) (i : ℕ) (t : Tree) (r : Option Why) (a : List Tree) (w : Why) → r ≡ Some w → i < length cs → FedAt cs i t r a new → EachHolds rest is_open f cs ss → trouble yields (take_at i t ss) ≡ Some (by_element w)
    feed_some_exit cs new i t r a w is within fed h =
        let at = there cs i within in
        group_fails rest is_open f yields means i cs ss t at.0 w h at.1 (λ took k. subst (λ x. Fed rest is_open f took t x [] a fed.0) is (fed.1.1 f took at.0 at.1 k))

    pub feed_none_exit : (cs new : List (Option C)) (i : ℕ) (t : Tree) (r : Option Why) (a : List Tree) (b out : List Tagged) → r ≡ None → i < length cs → FedAt cs i t r a new → out ≡ b ++ map (tag i) a → EachHolds rest is_open f cs ss
        → SubsReach yields (EachHolds rest is_open f new) ss (take_at i t ss) None b out
    feed_none_exit cs new i t r a b out is within fed put h =
        let at = there cs i within in
        let x = group_takes rest is_open f yields means i cs ss t at.0 fed.0 [] a h at.1 (λ took k. subst (λ q. Fed rest is_open f took t q [] a fed.0) is (fed.1.1 f took at.0 at.1 k)) in
        (x.1.1.calm, (put ∙ ap (λ (l : List Tree). b ++ map (tag i) l) x.1.0 ∙ ap (λ (l : List Tagged). b ++ l) (sym x.1.1.out), subst (λ k. EachHolds rest is_open f k (take_at i t ss)) (sym fed.1.0) x.1.1.holds))

    pub open_some_exit : (cs : List (Option C)) (places : Tree → Option ℕ) (key t : Tree) (w : Why) → f.stop (t ∷ []) ≡ Failed w → Grouped rest is_open f places cs ss
        → trouble yields (ss ++ record { key = key; took = t ∷ []; ended = false } ∷ []) ≡ Some (by_element w)
    open_some_exit cs places key t w stops g =
        let s : Sub = record { key = key; took = t ∷ []; ended = false } in
        trouble_append yields ss (s ∷ []) (each_calm rest is_open f yields means cs ss g.holds) ∙ trouble_fails yields s [] (by_element w) (sub_fails f yields means s w stops)

    pub open_none_exit : (cs new : List (Option C)) (old now : Tree → Option ℕ) (key t : Tree) (a : List Tree) (b out : List Tagged) → old key ≡ None
        → ((k : Tree) → now k ≡ (if is_eq (tree_cmp key k) then Some (length cs) else old k))
        → (d : Option C) × ((new ≡ cs ++ d ∷ []) × Begun rest is_open f t (Ok d) [] a) → out ≡ b ++ map (tag (length cs)) a → Grouped rest is_open f old cs ss
        → SubsReach yields (Grouped rest is_open f now new) ss (ss ++ record { key = key; took = t ∷ []; ended = false } ∷ []) None b out
    open_none_exit cs new old now key t a b out none adds begun put g =
        let s : Sub = record { key = key; took = t ∷ []; ended = false } in
        let n : length cs ≡ length ss = each_length f cs ss g.holds in
        let x = group_opens rest is_open f yields means cs ss key t begun.0 g.holds begun.1.1.1 in (
          x.calm,
          (
            put ∙ ap (λ (l : List Tree). b ++ map (tag (length cs)) l) begun.1.1.0 ∙ ap (λ k. b ++ map (tag k) (f.gives (t ∷ []))) n ∙ ap (λ (l : List Tagged). b ++ l) (sym x.out),
            record {
              at = new_key old now ss s g.at none (λ k. adds k ∙ ap (λ j. if is_eq (tree_cmp key k) then Some j else old k) n);
              holds = subst (λ k. EachHolds rest is_open f k (ss ++ s ∷ [])) (sym begun.1.0) x.holds;
            },
          ),
        )

  pub within_new : (cs new : List (Option C)) (old now : Tree → Option ℕ) (key : Tree) → Within old cs → ((k : Tree) → now k ≡ (if is_eq (tree_cmp key k) then Some (length cs) else old k)) → length new ≡ length cs + 1 → Within now new
  within_new cs new old now key h adds n k i e = by_test (is_eq (tree_cmp key k)) (sym (adds k) ∙ e)
    where
      by_test : (b : Bool) → (if b then Some (length cs) else old k) ≡ Some i → i < length new
      by_test true q = let r = same_Some (length cs) i q in omega (arith, r, n)
      by_test false q = let r = h k i q in omega (arith, r, n)

  pub within_same : (cs new : List (Option C)) (places : Tree → Option ℕ) → Within places cs → length new ≡ length cs → Within places new
  within_same cs new places h n k i e = let r = h k i e in omega (arith, r, n)

-- ---- by the key

module _ (t key : Tree) (most : ℕ) (by : MapFn) (ss : List Sub) where
  arranged_found : (i : ℕ) → map_value by t ≡ Ok key → find_key key 0 ss ≡ Some i → arranged (by_key most by) ss t ≡ Ok (take_at i t ss)
  arranged_found i v p = rw (v, p, arranged) refl

  arranged_new : map_value by t ≡ Ok key → find_key key 0 ss ≡ None → nat_lt (length ss) most ≡ true → arranged (by_key most by) ss t ≡ Ok (ss ++ record { key = key; took = t ∷ []; ended = false } ∷ [])
  arranged_new v p l = rw (v, p, l, arranged) refl

  arranged_full : map_value by t ≡ Ok key → find_key key 0 ss ≡ None → nat_lt (length ss) most ≡ false → arranged (by_key most by) ss t ≡ Err TooManySubstreams
  arranged_full v p l = rw (v, p, l, arranged) refl

module _ {C : Type 0} (rest : C → ListFunction) (is_open : C → Bool) (whole : ListFunction) (cs : List (Option C)) (places : Tree → Option ℕ) (t key : Tree) (most : ℕ) (by : MapFn) where
  abbrev pub TakesFor : (Tree → Option ℕ) → List (Option C) → List Tagged → List Tagged → Option Blame → Type 0
  TakesFor now new b a x = (f : ListFunction) → Same whole f → (yields : List Tree → End → Given Tree) → Means yields f → (ss : List Sub) → Grouped rest is_open f places cs ss → Arranges yields (Grouped rest is_open f now new) (by_key most by) ss t x b a

  kept : (f : ListFunction) (yields : List Tree → End → Given Tree) (ss : List Sub) (new : List (Option C)) (i : ℕ) (x : Option Blame) (b a : List Tagged) → Grouped rest is_open f places cs ss
      → SubsReach yields (EachHolds rest is_open f new) ss (take_at i t ss) x b a → SubsReach yields (Grouped rest is_open f places new) ss (take_at i t ss) x b a
  kept f yields ss new i None b a g h = (h.0, (h.1.0, record { at = λ k. g.at k ∙ sym (find_taken k t 0 i ss); holds = h.1.1 }))
  kept f yields ss new i (Some x) b a g h = h

  pub taken_found : {E : Type 0} (new : List (Option C)) (i : ℕ) (b a : List Tagged) (r : Result (Option Blame) E) → map_value by t ≡ Ok key → places key ≡ Some i
      → IfOk r (λ x. (f : ListFunction) (yields : List Tree → End → Given Tree) → Means yields f → (ss : List Sub) → EachHolds rest is_open f cs ss → SubsReach yields (EachHolds rest is_open f new) ss (take_at i t ss) x b a)
      → IfOk r (TakesFor places new b a)
  taken_found {E} new i b a (Ok x) v p h = λ f same yields means ss g. inr (take_at i t ss, (arranged_found t key most by ss i v (sym (g.at key) ∙ p), kept f yields ss new i x b a g (h f yields means ss g.holds)))
  taken_found {E} new i b a (Err e) v p h = tt

  pub taken_new : {E : Type 0} (new : List (Option C)) (now : Tree → Option ℕ) (b a : List Tagged) (r : Result (Option Blame) E) → map_value by t ≡ Ok key → places key ≡ None → nat_lt (length cs) most ≡ true
      → IfOk r (λ x. (f : ListFunction) → Same whole f → (yields : List Tree → End → Given Tree) → Means yields f → (ss : List Sub) → Grouped rest is_open f places cs ss
      → SubsReach yields (Grouped rest is_open f now new) ss (ss ++ record { key = key; took = t ∷ []; ended = false } ∷ []) x b a)
      → IfOk r (TakesFor now new b a)
  taken_new {E} new now b a (Ok x) v p l h = λ f same yields means ss g.
      inr (ss ++ record { key = key; took = t ∷ []; ended = false } ∷ [], (arranged_new t key most by ss v (sym (g.at key) ∙ p) (ap (λ n. nat_lt n most) (sym (each_length rest is_open f cs ss g.holds)) ∙ l), h f same yields means ss g))
  taken_new {E} new now b a (Err e) v p l h = tt

  pub taken_full : (new : List (Option C)) (now : Tree → Option ℕ) (b a : List Tagged) → map_value by t ≡ Ok key → places key ≡ None → nat_lt (length cs) most ≡ false → TakesFor now new b a (Some (AtElement TooManySubstreams))
  taken_full new now b a v p l = λ f same yields means ss g. inl (TooManySubstreams, (arranged_full t key most by ss v (sym (g.at key) ∙ p) (ap (λ n. nat_lt n most) (sym (each_length rest is_open f cs ss g.holds)) ∙ l), refl))

-- ---- the end of the input

module _ (yields : List Tree → End → Given Tree) where
  -- those that ended, and then the others
  pub news_ends : (n : ℕ) (a xs ys : List Sub) → news yields n (a ++ xs) (end_all a ++ ys) ≡ news yields n a (end_all a) ++ news yields (n + length a) xs ys
  news_ends n [] xs ys = ap (λ k. news yields k xs ys) (omega arith)
  news_ends n (s ∷ a) xs ys =
      let now : List Tagged = map (tag n) (drop (length (given_by yields s).list) (given_by yields (end_sub s)).list) in
      ap (λ (l : List Tagged). now ++ l) (news_ends (n + 1) a xs ys ∙ ap (λ k. news yields (n + 1) a (end_all a) ++ news yields k xs ys) (omega arith)) ∙ sym (append_assoc now (news yields (n + 1) a (end_all a)) (news yields (n + suc (length a)) xs ys))

pub length_append : {X : Type 0} (a : List X) (x : X) (i : ℕ) → length a ≡ i → length (a ++ x ∷ []) ≡ i + 1
length_append [] x i e = ap suc e ∙ omega arith
length_append (y ∷ a) x i e = ap suc (length_append a x (length a) refl) ∙ let q : suc (length a) ≡ i = e in omega (arith, q)

module _ {C : Type 0} (rest : C → ListFunction) (is_open : C → Bool) where
  module _ (f : ListFunction) (yields : List Tree → End → Given Tree) (means : Means yields f) (ss : List Sub) where
    pub half_start : (cs : List (Option C)) (b : List Tagged) → EachHolds rest is_open f cs ss → Halfway rest is_open f yields 0 cs ss b b
    half_start cs b h = record { olds = []; left = ss; are = refl; count = refl; calm = refl; out = sym (append-nil b); holds = h }

    half_by : {cs : List (Option C)} {i : ℕ} {c : Option C} {b m a : List Tagged} {new : Last C} → (h : Halfway rest is_open f yields i (c ∷ cs) ss b m) → (left : List Sub) → h.left ≡ left → EachHolds rest is_open f (c ∷ cs) left → GroupEndsAt rest is_open i c None m a new
        → Halfway rest is_open f yields (i + 1) cs ss b a
    half_by h [] is k e = absurd k
    half_by {cs} {i} {c} {b} {m} {a} {new} h (s ∷ left) is k e =
        let x = e f (Some s.took) (refl, k.0.1) in
        let one : news yields (0 + length h.olds) (s ∷ []) (end_sub s ∷ []) ≡ map (tag i) x.0 = news_one yields (0 + length h.olds) s (end_sub s) x.0 (given_end f yields means s x.0 k.0.0 x.1.0) ∙ ap (λ j. map (tag j) x.0) (let q = h.count in omega (arith, q)) in
        record {
          olds = h.olds ++ s ∷ [];
          left = left;
          are = h.are ∙ ap (λ (l : List Sub). h.olds ++ l) is ∙ sym (append_assoc h.olds (s ∷ []) left);
          count = length_append h.olds s i h.count;
          calm = ap (trouble yields) (end_append h.olds (s ∷ [])) ∙ trouble_both yields (end_all h.olds) (end_sub s ∷ []) h.calm (trouble_one yields (end_sub s) (end_calm f yields means s x.0 x.1.0));
          out = x.1.1.0 ∙ ap (λ (l : List Tagged). l ++ map (tag i) x.0) h.out ∙ append_assoc b (news yields 0 h.olds (end_all h.olds)) (map (tag i) x.0)
              ∙ ap (λ (l : List Tagged). b ++ l) (ap (λ (l : List Tagged). news yields 0 h.olds (end_all h.olds) ++ l) (sym one) ∙ sym (news_ends yields 0 h.olds (s ∷ []) (end_sub s ∷ [])) ∙ ap (news yields 0 (h.olds ++ s ∷ [])) (sym (end_append h.olds (s ∷ []))));
          holds = k.1;
        }

    pub half_step : {ds cs : List (Option C)} {i : ℕ} {c : Option C} {r : Option Why} {b m a : List Tagged} {new : Last C} → r ≡ None → ds ≡ c ∷ cs → Halfway rest is_open f yields i ds ss b m → GroupEndsAt rest is_open i c r m a new → Halfway rest is_open f yields (i + 1) cs ss b a
    half_step {ds} {cs} {i} {c} {r} {b} {m} {a} {new} is are h e =
        let g : Halfway rest is_open f yields i (c ∷ cs) ss b m = subst (λ l. Halfway rest is_open f yields i l ss b m) are h in
        half_by g g.left refl g.holds (subst (λ x. GroupEndsAt rest is_open i c x m a new) is e)

    fails_by : {cs : List (Option C)} {i : ℕ} {c : Option C} {b m a : List Tagged} {new : Last C} {w : Why} → (h : Halfway rest is_open f yields i (c ∷ cs) ss b m) → (left : List Sub) → h.left ≡ left → EachHolds rest is_open f (c ∷ cs) left → GroupEndsAt rest is_open i c (Some w) m a new
        → trouble yields (end_all ss) ≡ Some (by_end w)
    fails_by h [] is k e = absurd k
    fails_by {cs} {i} {c} {b} {m} {a} {new} {w} h (s ∷ left) is k e =
        ap (λ (l : List Sub). trouble yields (end_all l)) (h.are ∙ ap (λ (l : List Sub). h.olds ++ l) is) ∙ ap (trouble yields) (end_append h.olds (s ∷ left))
        ∙ trouble_append yields (end_all h.olds) (end_all (s ∷ left)) h.calm ∙ trouble_fails yields (end_sub s) (end_all left) (by_end w) (end_fails f yields means s w (e f (Some s.took) (refl, k.0.1)))

    pub half_fails : {ds cs : List (Option C)} {i : ℕ} {c : Option C} {r : Option Why} {b m a : List Tagged} {new : Last C} {w : Why} → r ≡ Some w → ds ≡ c ∷ cs → Halfway rest is_open f yields i ds ss b m → GroupEndsAt rest is_open i c r m a new → trouble yields (end_all ss) ≡ Some (by_end w)
    half_fails {ds} {cs} {i} {c} {r} {b} {m} {a} {new} {w} is are h e =
        let g : Halfway rest is_open f yields i (c ∷ cs) ss b m = subst (λ l. Halfway rest is_open f yields i l ss b m) are h in
        fails_by g g.left refl g.holds (subst (λ x. GroupEndsAt rest is_open i c x m a new) is e)

    done_by : {i : ℕ} {b a : List Tagged} → (h : Halfway rest is_open f yields i [] ss b a) → (left : List Sub) → h.left ≡ left → EachHolds rest is_open f [] left → SubsReach yields (λ now. ⊤) ss (end_all ss) None b a
    done_by {i} {b} {a} h [] is k =
        let all : ss ≡ h.olds = h.are ∙ ap (λ (l : List Sub). h.olds ++ l) is ∙ append-nil h.olds in
        subst (λ (l : List Sub). SubsReach yields (λ now. ⊤) l (end_all l) None b a) (sym all) (h.calm, (h.out, tt))
    done_by h (s ∷ left) is k = absurd k

    pub half_done : {ds : List (Option C)} {i : ℕ} {b a : List Tagged} → ds ≡ [] → Halfway rest is_open f yields i ds ss b a → SubsReach yields (λ now. ⊤) ss (end_all ss) None b a
    half_done {ds} {i} {b} {a} none h = let g : Halfway rest is_open f yields i [] ss b a = subst (λ l. Halfway rest is_open f yields i l ss b a) none h in done_by g g.left refl g.holds

-- ---- the loop

-- the slots from i on, once the one before was taken
pub slot_drop : {X : Type 0} (xs : List X) (i : ℕ) (c d : X) → slice_get xs i ≡ Some c → (drop i xs ≡ c ∷ drop (suc i) xs) × (drop (suc i) (slice_set xs i d) ≡ drop (suc i) xs)
slot_drop [] i c d e = cc
slot_drop (x ∷ xs) zero c d e = (ap (λ y. y ∷ xs) (same_Some x c e), refl)
slot_drop (x ∷ xs) (suc i) c d e = slot_drop xs i c d e

pub drop_all : {X : Type 0} (xs : List X) (i : ℕ) → length xs ≤ i → drop i xs ≡ []
drop_all [] zero h = refl
drop_all [] (suc i) h = refl
drop_all (x ∷ xs) zero h = absurd (omega (arith, h))
drop_all (x ∷ xs) (suc i) h = drop_all xs i (omega (arith, h))

module _ {C : Type 0} (rest : C → ListFunction) (is_open : C → Bool) (all : List (Option C)) (b : List Tagged) where
  -- whatever its chains come to in the model
  abbrev pub Half : ℕ → List (Option C) → List Tagged → Type 0
  Half i slots a = (f : ListFunction) (yields : List Tree → End → Given Tree) → Means yields f → (ss : List Sub) → EachHolds rest is_open f all ss → Halfway rest is_open f yields i (drop i slots) ss b a

  pub half_next : (slots now : List (Option C)) (i : ℕ) (r : Option Why) (m a : List Tagged) → r ≡ None → Half i slots m → EndsOne rest is_open slots i r m a → now ≡ slice_set slots i None → Half (i + 1) now a
  half_next slots now i r m a is h e set = λ f yields means ss k.
      let d = slot_drop slots i e.0 None e.1.0 in
      let one : i + 1 ≡ suc i = omega arith in
      subst (λ (l : List (Option C)). Halfway rest is_open f yields (i + 1) l ss b a) (sym (ap (λ k. drop k now) one ∙ ap (drop (suc i)) set ∙ d.1)) (half_step rest is_open f yields means ss is d.0 (h f yields means ss k) e.1.1.1)

  pub half_fault : (slots : List (Option C)) (i : ℕ) (r : Option Why) (m a : List Tagged) (w : Why) → r ≡ Some w → Half i slots m → EndsOne rest is_open slots i r m a
      → (f : ListFunction) (yields : List Tree → End → Given Tree) → Means yields f → (ss : List Sub) → EachHolds rest is_open f all ss → trouble yields (end_all ss) ≡ Some (by_end w)
  half_fault slots i r m a w is h e = λ f yields means ss k. half_fails rest is_open f yields means ss is (slot_drop slots i e.0 None e.1.0).0 (h f yields means ss k) e.1.1.1

  pub half_all : (slots : List (Option C)) (i : ℕ) (a : List Tagged) → length slots ≤ i → Half i slots a
      → (f : ListFunction) (yields : List Tree → End → Given Tree) → Means yields f → (ss : List Sub) → EachHolds rest is_open f all ss → SubsReach yields (λ now. ⊤) ss (end_all ss) None b a
  half_all slots i a long h = λ f yields means ss k. half_done rest is_open f yields means ss (drop_all slots i long) (h f yields means ss k)

pub within_after : {C E : Type 0} (rest : C → ListFunction) (is_open : C → Bool) (cs new : List (Option C)) (places : Tree → Option ℕ) (r : Result (Option Blame) E) → Within places cs → OnOk r (length new ≡ length cs) → OnOk r (Within places new)
within_after rest is_open cs new places (Ok x) h n = within_same rest is_open cs new places h n
within_after rest is_open cs new places (Err e) h n = tt

pub ends_one : {C : Type 0} (rest : C → ListFunction) (is_open : C → Bool) (slots : List (Option C)) (i : ℕ) (c : Option C) (l new : Last C) (why : Option Why) (b a : List Tagged) → slice_get slots i ≡ Some c → l ≡ record { ended = i; live = true; slot = c }
    → ((f : ListFunction) (took : Option (List Tree)) → LastTook rest is_open f l took → LastEnds rest is_open f l took why b a new) → EndsOne rest is_open slots i why b a
ends_one rest is_open slots i c l new why b a e is h = (c, (e, (new, subst (λ k. (f : ListFunction) (took : Option (List Tree)) → LastTook rest is_open f k took → LastEnds rest is_open f k took why b a new) is h)))
