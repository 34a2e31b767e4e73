-- What substreams give is of the type of their chain.
use Rattle.std.proofs.Common.{◌≡◌, ℕ, zero, suc, ◌+◌, Bool, true, false, List, [], ◌∷◌, ◌++◌, length, map, drop, Option, Some, None, Result, Ok, Err, refl}
use Rattle.std.specs.Prelude.{if◌then◌else◌, ◌==◌, nat_lt}
use Rattle.std.specs.List.{filter}
use Rattle.elem_core.specs.Sort.{Sort}
use Rattle.elem_core.specs.Tree.{Tree}
use Rattle.elem_core.specs.Values.{map_value, pred_value}
use Rattle.elem_core.specs.declared.why.Why.{Why}
use Rattle.elem_core.specs.declared.why.Why.TheVariants.{TooManySubstreams}
use Rattle.stream_model.specs.FanIn.{Tagged, tag, merge_of}
use Rattle.stream_model.specs.Linear.{Book}
use Rattle.stream_model.specs.Machine.{Run, Finish, Given, whole}
use Rattle.stream_model.specs.Outlook.{Outlook, End}
use Rattle.stream_model.specs.Substreams.{Chain, through, Opening, by_key, before, behind, Sub, Subs, Fault, given_by, news, arranged, trouble, substreams, begin_subs, concat_subs, merge_subs, of_sub, by_sub, sub_count}
use Rattle.stream_model.specs.Known.{HeadLists}
use Rattle.run_blueprint.specs.Plugs.{KeepsPlugTypes}
use Rattle.run_blueprint.specs.Types.{Each, HasType, AllTyped}
use Rattle.run_blueprint.proofs.Lists.{typed_append}
use Rattle.run_blueprint.proofs.Keeping.{RunKeeps, FinishKeeps, each_append, whole_keeps}
use Rattle.run_blueprint.proofs.Fans.{TagsTyped, tagged, items_typed, merge_typed}
use Rattle.run_blueprint.proofs.Chains.{ChainTyped, through_typed}

-- ---- what substreams took, as elements come

-- as the model has them for itself
abbrev with_one : Tree → Sub → Sub
with_one x s = record s { took = s.took ++ x ∷ [] }

abbrev at_place : ℕ → Tree → List Sub → List Sub
at_place n x [] = []
at_place zero x (s ∷ ss) = with_one x s ∷ ss
at_place (suc n) x (s ∷ ss) = s ∷ at_place n x ss

abbrev at_last : Tree → List Sub → List Sub
at_last x [] = []
at_last x (s ∷ []) = with_one x s ∷ []
at_last x (s ∷ r ∷ ss) = s ∷ at_last x (r ∷ ss)

module _ (t : Sort) where
  -- what each of them took
  pub record SubsTyped (ss : List Sub) : Type 0 where
    pub each : Each (λ (s : Sub). AllTyped t s.took) ss

  abbrev IfArranged : Result (List Sub) Why → Type 0
  IfArranged (Ok ss) = SubsTyped ss
  IfArranged (Err w) = Unit {0}

  pub record Arranged (r : Result (List Sub) Why) : Type 0 where
    pub are : IfArranged r

  -- The functions of the model that are not named here are found from the goal.
  by_answer : {T : Type 0} (f : T → Result (List Sub) Why) → ((x : T) → Arranged (f x)) → (r : Result T Why) → Arranged (elim r as (λ _. Result (List Sub) Why) [ Err w ↦ Err w | Ok x ↦ f x ])
  by_answer f h (Ok x) = h x
  by_answer f h (Err w) = record { are = tt }

  by_place : (f : ℕ → List Sub) (none : Result (List Sub) Why) → ((i : ℕ) → SubsTyped (f i)) → Arranged none → (o : Option ℕ) → Arranged (elim o as (λ _. Result (List Sub) Why) [ Some i ↦ Ok (f i) | None ↦ none ])
  by_place f none h k None = k
  by_place f none h k (Some i) = record { are = h i }

  ok_if : (b : Bool) (ss : List Sub) (w : Why) → SubsTyped ss → Arranged (if b then Ok ss else Err w)
  ok_if true ss w h = record { are = h }
  ok_if false ss w h = record { are = tt }

  subs_if : (b : Bool) (x y : List Sub) → SubsTyped x → SubsTyped y → SubsTyped (if b then x else y)
  subs_if true x y h k = h
  subs_if false x y h k = k

  -- one more element of one of them
  taken_at : (n : ℕ) (x : Tree) (ss : List Sub) → HasType t x → Each (λ (s : Sub). AllTyped t s.took) ss → Each (λ (s : Sub). AllTyped t s.took) (at_place n x ss)
  taken_at n x [] h k = tt
  taken_at zero x (s ∷ ss) h k = (typed_append t s.took (x ∷ []) k.0 (h, tt), k.1)
  taken_at (suc n) x (s ∷ ss) h k = (k.0, taken_at n x ss h k.1)

  -- one more element of the last of them
  taken_last : (x : Tree) (ss : List Sub) → HasType t x → Each (λ (s : Sub). AllTyped t s.took) ss → Each (λ (s : Sub). AllTyped t s.took) (at_last x ss)
  taken_last x [] h k = tt
  taken_last x (s ∷ []) h k = (typed_append t s.took (x ∷ []) k.0 (h, tt), tt)
  taken_last x (s ∷ r ∷ ss) h k = (k.0, taken_last x (r ∷ ss) h k.1)

  -- they all end
  ended_all : (f : Sub → Sub) → ((s : Sub) → (f s).took ≡ s.took) → (ss : List Sub) → SubsTyped ss → SubsTyped (map f ss)
  ended_all f e [] k = record { each = tt }
  ended_all f e (s ∷ ss) k = record { each = (rw (e s) k.each.0, (ended_all f e ss (record { each = k.each.1 })).each) }

  -- a new one begins with this element, and the others end
  opens_typed : (key x : Tree) (f : Sub → Sub) → ((s : Sub) → (f s).took ≡ s.took) → (ss : List Sub) → HasType t x → SubsTyped ss → SubsTyped (map f ss ++ record { key = key; took = x ∷ []; ended = false } ∷ [])
  opens_typed key x f e ss h k =
      record { each = each_append (λ (s : Sub). AllTyped t s.took) (map f ss) (record { key = key; took = x ∷ []; ended = false } ∷ []) (ended_all f e ss k).each ((h, tt), tt) }

  -- the last goes on, or a new one begins
  goes_on : (b : Bool) (x : Tree) (ss : List Sub) → HasType t x → SubsTyped ss
      → SubsTyped (if b then at_last x ss else map (λ (s : Sub). record s { ended = true }) ss ++ record { key = x; took = x ∷ []; ended = false } ∷ [])
  goes_on true x ss h k = record { each = taken_last x ss h k.each }
  goes_on false x ss h k = opens_typed x x (λ (s : Sub). record s { ended = true }) (λ s. refl) ss h k

  pub arranged_typed : (o : Opening) (ss : List Sub) (x : Tree) → SubsTyped ss → HasType t x → Arranged (arranged o ss x)
  arranged_typed (by_key n f) ss x k h =
      by_answer _
      (λ key.
      by_place _ _ (λ i. record { each = taken_at i x ss h k.each })
      (ok_if (nat_lt (length ss) n) (ss ++ record { key = key; took = x ∷ []; ended = false } ∷ []) TooManySubstreams
      (record { each = each_append (λ (s : Sub). AllTyped t s.took) ss (record { key = key; took = x ∷ []; ended = false } ∷ []) k.each ((h, tt), tt) })) _) (map_value f x)
  arranged_typed (before p) ss x k h =
      by_answer _ (λ opens. record { are = subs_if opens _ _ (opens_typed x x (λ (s : Sub). record s { ended = true }) (λ s. refl) ss h k) (goes_on _ x ss h k) }) (pred_value p x)
  arranged_typed (behind p) ss x k h =
      by_answer _ (λ closes. record { are = subs_if closes _ _ (ended_all (λ (s : Sub). record s { ended = true }) (λ s. refl) _ (goes_on _ x ss h k)) (goes_on _ x ss h k) }) (pred_value p x)

-- ---- what they give

module _ (heads : HeadLists) (book : Book) (keeps : KeepsPlugTypes heads book) (chain : Chain) (t u : Sort) (typed : ChainTyped heads t u chain) where
  abbrev yields : List Tree → End → Given Tree
  yields = through book chain

  drop_typed : (n : ℕ) (l : List Tree) → AllTyped u l → AllTyped u (drop n l)
  drop_typed zero l h = h
  drop_typed (suc n) [] h = tt
  drop_typed (suc n) (x ∷ l) h = drop_typed n l h.1

  given_typed : (s : Sub) → AllTyped t s.took → AllTyped u (given_by yields s).list
  given_typed s h = through_typed heads book keeps chain t u s.took _ typed h

  news_typed : (n : ℕ) (old now : List Sub) → Each (λ (s : Sub). AllTyped t s.took) now → TagsTyped u (news yields n old now)
  news_typed n old [] h = tt
  news_typed n [] (s ∷ now) h =
      each_append (λ (x : Tagged). HasType u x.item) (map (tag n) (given_by yields s).list) (news yields (n + 1) [] now) (tagged u n (given_by yields s).list (given_typed s h.0)) (news_typed (n + 1) [] now h.1)
  news_typed n (r ∷ old) (s ∷ now) h =
      each_append (λ (x : Tagged). HasType u x.item) (map (tag n) (drop (length (given_by yields r).list) (given_by yields s).list)) (news yields (n + 1) old now)
      (tagged u n (drop (length (given_by yields r).list) (given_by yields s).list) (drop_typed (length (given_by yields r).list) (given_by yields s).list (given_typed s h.0)))
      (news_typed (n + 1) old now h.1)

  abbrev Kept : Subs → Type 0
  Kept s = SubsTyped t s.subs

  abbrev Good : Tagged → Type 0
  Good x = HasType u x.item

  run_by : (f : Fault → Run Subs Tagged) (r : Run Subs Tagged) → ((x : Fault) → RunKeeps Kept Good (f x)) → RunKeeps Kept Good r → (o : Option Fault) → RunKeeps Kept Good (elim o as (λ _. Run Subs Tagged) [ Some x ↦ f x | None ↦ r ])
  run_by f r h k None = k
  run_by f r h k (Some x) = h x

  -- the functions of a step are found from the goal
  step_by : (f : List Sub → Run Subs Tagged) (g : Why → Run Subs Tagged) → ((now : List Sub) → SubsTyped t now → RunKeeps Kept Good (f now)) → ((w : Why) → RunKeeps Kept Good (g w)) → (r : Result (List Sub) Why) → Arranged t r
      → RunKeeps Kept Good (elim r as (λ _. Run Subs Tagged) [ Ok now ↦ f now | Err w ↦ g w ])
  step_by f g h k (Ok now) a = h now a.are
  step_by f g h k (Err w) a = k w

  sub_step_typed : (o : Opening) (s : Subs) (x : Tree) → Kept s → HasType t x → RunKeeps Kept Good ((substreams yields o).step s x)
  sub_step_typed o s x k h =
      step_by _ _
      (λ now i. run_by _ _ (λ f. record { gave = tt; state = tt }) (record { gave = news_typed 0 s.subs now i.each; state = i }) (trouble yields now))
      (λ w. record { gave = tt; state = tt }) (arranged o s.subs x) (arranged_typed t o s.subs x k h)

  finish_by : (f : Fault → Finish Tagged) (r : Finish Tagged) → ((x : Fault) → FinishKeeps Kept Good (f x)) → FinishKeeps Kept Good r → (o : Option Fault) → FinishKeeps Kept Good (elim o as (λ _. Finish Tagged) [ Some x ↦ f x | None ↦ r ])
  finish_by f r h k None = k
  finish_by f r h k (Some x) = h x

  sub_finish_typed : (o : Opening) (s : Subs) → Kept s → FinishKeeps Kept Good ((substreams yields o).finish s)
  sub_finish_typed o s k =
      let all = ended_all t (λ (s : Sub). record s { ended = true }) (λ s. refl) s.subs k in
      finish_by _ _ (λ f. tt) (news_typed 0 s.subs (map (λ (s : Sub). record s { ended = true }) s.subs) all.each) (trouble yields (map (λ (s : Sub). record s { ended = true }) s.subs))

  given_all : (node : ℕ) (o : Opening) (i : Outlook) → AllTyped t i.list → TagsTyped u (whole (substreams yields o) (begin_subs yields node) i).list
  given_all node o i h =
      whole_keeps Kept Good (substreams yields o) (HasType t) (sub_step_typed o) (sub_finish_typed o) (begin_subs yields node) i (record { gave = tt; state = record { each = tt } }) h

  -- joined by `concat`
  pub concat_subs_typed : (node : ℕ) (o : Opening) (i : Outlook) → AllTyped t i.list → AllTyped u (concat_subs yields node o i).list
  concat_subs_typed node o i h = items_typed u (whole (substreams yields o) (begin_subs yields node) i).list (given_all node o i h)

  of_sub_typed : (n : ℕ) (l : List Tagged) → TagsTyped u l → AllTyped u (of_sub yields n l)
  of_sub_typed n [] h = tt
  of_sub_typed n (x ∷ l) h = by_test (x.port == n) (of_sub_typed n l h.1)
    where
      by_test : (b : Bool) → AllTyped u (of_sub yields n l) → AllTyped u (map (λ (y : Tagged). y.item) (if b then x ∷ filter (λ y. y.port == n) l else filter (λ y. y.port == n) l))
      by_test true k = (h.0, k)
      by_test false k = k

  by_sub_typed : (k n : ℕ) (l : List Tagged) → TagsTyped u l → Each (AllTyped u) (by_sub yields k n l)
  by_sub_typed zero n l h = tt
  by_sub_typed (suc k) n l h = (of_sub_typed n l h, by_sub_typed k (n + 1) l h)

  -- joined by `merge`
  pub merge_subs_typed : (node : ℕ) (o : Opening) (moves : List ℕ) (i : Outlook) → AllTyped t i.list → AllTyped u (merge_subs yields node o moves i).list
  merge_subs_typed node o moves i h =
      let all = (whole (substreams yields o) (begin_subs yields node) i).list in
      items_typed u (merge_of moves (by_sub yields (sub_count yields all) 0 all)) (merge_typed u moves (by_sub yields (sub_count yields all) 0 all) (by_sub_typed (sub_count yields all) 0 all (given_all node o i h)))
