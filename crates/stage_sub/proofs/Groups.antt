-- The substreams of a group_by, place by place: one more element of one of them, and a new one.
use Rattle.std.specs.Prelude.{slice_get, slice_set}
use Rattle.std.proofs.Common.{◌≡◌, ℕ, zero, suc, ◌+◌, ◌<◌, get_or, Bool, true, false, List, [], ◌∷◌, ◌++◌, map, length, drop, Option, Some, None, refl, sym, ap, ◌∙◌, subst, append-nil, arith}
use Rattle.std.proofs.lemmas.Option.{same_Some}
use Rattle.std.proofs.Math.Seq.{drop-append_seam, drop-length}
use Rattle.elem_core.specs.Tree.{Tree}
use Rattle.std.specs.Prelude.{if◌then◌else◌}
use Rattle.std.specs.Ordering.{is_eq}
use Rattle.elem_core.specs.Order.{tree_cmp}
use Rattle.elem_core.specs.declared.why.Why.{Why}
use Rattle.port_core.specs.declared.chain.ChainStep.TheVariants.{Failed}
use Rattle.stream_model.specs.Outlook.{End}
use Rattle.stream_model.specs.Machine.{Given}
use Rattle.stream_model.specs.FanIn.{Tagged, tag}
use Rattle.stream_model.specs.Substreams.{Sub, by_element, find_key, take_in, take_at, given_by, news, fault_of, trouble}
use Rattle.port_core.specs.ListFunction.{ListFunction}
use Rattle.step_work.specs.Means.{Means}
use Rattle.step_work.specs.Slots.{MayCall, SlotHolds, Fed}
use Rattle.stage_sub.specs.Groups.{MayCallAll, EachHolds}
use Rattle.stage_sub.proofs.Models.{pick, first_of, trouble_fails, sub_fails, news_append, news_new, sub_calm, given_open}
use Rattle.stage_sub.proofs.Lasts.{calm_slot}

module _ {C : Type 0} (rest : C → ListFunction) (is_open : C → Bool) where
  pub may_at : (cs : List (Option C)) (i : ℕ) (c : Option C) → MayCallAll rest is_open cs → slice_get cs i ≡ Some c → MayCall rest is_open c
  may_at (d ∷ cs) zero c m e = subst (MayCall rest is_open) (same_Some d c e) m.0
  may_at (d ∷ cs) (suc i) c m e = may_at cs i c m.1 e
  may_at [] i c m e = cc

  pub may_set : (cs : List (Option C)) (i : ℕ) (d : Option C) → MayCallAll rest is_open cs → MayCall rest is_open d → MayCallAll rest is_open (slice_set cs i d)
  may_set [] i d m h = tt
  may_set (c ∷ cs) zero d m h = (h, m.1)
  may_set (c ∷ cs) (suc i) d m h = (m.0, may_set cs i d m.1 h)

  pub may_push : (cs : List (Option C)) (d : Option C) → MayCallAll rest is_open cs → MayCall rest is_open d → MayCallAll rest is_open (cs ++ d ∷ [])
  may_push [] d m h = (h, tt)
  may_push (c ∷ cs) d m h = (m.0, may_push cs d m.1 h)

  module _ (f : ListFunction) (yields : List Tree → End → Given Tree) (means : Means yields f) where
    -- none of them failed
    pub each_calm : (cs : List (Option C)) (ss : List Sub) → EachHolds rest is_open f cs ss → trouble yields ss ≡ None
    each_calm [] [] h = refl
    each_calm (c ∷ cs) (s ∷ ss) h =
        let is : s ≡ record { key = s.key; took = s.took; ended = false } = ap (λ (b : Bool). record { key = s.key; took = s.took; ended = b }) h.0.0 in
        let well : fault_of yields s ≡ None = ap (fault_of yields) is ∙ sub_calm f yields means s.key s.took (calm_slot rest is_open f c s.took h.0.1) in
        first_of yields s ss ∙ ap (λ x. pick yields x (trouble yields ss)) well ∙ each_calm cs ss h.1
    each_calm [] (s ∷ ss) h = absurd h
    each_calm (c ∷ cs) [] h = absurd h

    -- one more element of the substream at place i: the others gave nothing
    same_news : (n : ℕ) (ss : List Sub) → news yields n ss ss ≡ []
    same_news n [] = refl
    same_news n (s ∷ ss) = ap (λ (l : List Tree). map (tag n) l ++ news yields (n + 1) ss ss) (drop-length (given_by yields s).list) ∙ same_news (n + 1) ss

    open_given : (s : Sub) → s.ended ≡ false → (given_by yields s).list ≡ f.gives s.took
    open_given s e = ap (λ (b : Bool). (given_by yields (record { key = s.key; took = s.took; ended = b })).list) e ∙ given_open f yields means s.key s.took

    pub record GroupFed (n i : ℕ) (cs : List (Option C)) (ss : List Sub) (t : Tree) (d : Option C) (before now : List Tree) : Type 0 where
      pub gave : List Tree
      pub out : now ≡ before ++ gave
      pub fresh : news yields n ss (take_at i t ss) ≡ map (tag (n + i)) gave
      pub holds : EachHolds rest is_open f (slice_set cs i d) (take_at i t ss)

    pub group_fed : (n i : ℕ) (cs : List (Option C)) (ss : List Sub) (t : Tree) (c d : Option C) (before now : List Tree) → EachHolds rest is_open f cs ss → slice_get cs i ≡ Some c
        → ((took : List Tree) → SlotHolds rest is_open f c took → Fed rest is_open f took t None before now d) → GroupFed n i cs ss t d before now
    group_fed n zero (b ∷ cs) (s ∷ ss) t c d before now h e fed =
        let x = fed s.took (subst (λ (k : Option C). SlotHolds rest is_open f k s.took) (same_Some b c e) h.0.1) in
        let more : (given_by yields (take_in t s)).list ≡ (given_by yields s).list ++ x.0 = open_given (take_in t s) h.0.0 ∙ x.1.0 ∙ ap (λ (l : List Tree). l ++ x.0) (sym (open_given s h.0.0)) in
        record {
          gave = x.0;
          out = x.1.1.0;
          fresh = ap (λ (l : List Tree). map (tag n) l ++ news yields (n + 1) ss ss) (ap (drop (length (given_by yields s).list)) more ∙ drop-append_seam (given_by yields s).list x.0) ∙ ap (λ (l : List Tagged). map (tag n) x.0 ++ l) (same_news (n + 1) ss)
              ∙ append-nil (map (tag n) x.0) ∙ ap (λ k. map (tag k) x.0) (omega arith);
          holds = ((h.0.0, x.1.1.1), h.1);
        }
    group_fed n (suc i) (b ∷ cs) (s ∷ ss) t c d before now h e fed =
        let r = group_fed (n + 1) i cs ss t c d before now h.1 e fed in
        record {
          gave = r.gave;
          out = r.out;
          fresh = ap (λ (l : List Tree). map (tag n) l ++ news yields (n + 1) ss (take_at i t ss)) (drop-length (given_by yields s).list) ∙ r.fresh ∙ ap (λ k. map (tag k) r.gave) (omega arith);
          holds = (h.0, r.holds);
        }
    group_fed n i [] ss t c d before now h e fed = cc
    group_fed n i (b ∷ cs) [] t c d before now h e fed = absurd h

    -- a new one behind them
    pub each_push : (cs : List (Option C)) (ss : List Sub) (d : Option C) (s : Sub) → EachHolds rest is_open f cs ss → s.ended ≡ false → SlotHolds rest is_open f d s.took → EachHolds rest is_open f (cs ++ d ∷ []) (ss ++ s ∷ [])
    each_push [] [] d s h e k = ((e, k), tt)
    each_push (c ∷ cs) (r ∷ ss) d s h e k = (h.0, each_push cs ss d s h.1 e k)
    each_push [] (r ∷ ss) d s h e k = absurd h
    each_push (c ∷ cs) [] d s h e k = absurd h

    pub new_news : (ss : List Sub) (s : Sub) → s.ended ≡ false → news yields 0 ss (ss ++ s ∷ []) ≡ map (tag (length ss)) (f.gives s.took)
    new_news ss s e =
        ap (λ (l : List Sub). news yields 0 l (ss ++ s ∷ [])) (sym (append-nil ss)) ∙ news_append yields 0 ss [] (s ∷ []) ∙ ap (λ k. news yields k [] (s ∷ [])) (omega arith) ∙ news_new yields (length ss) s ∙ ap (map (tag (length ss))) (open_given s e)

-- the item at a place
pub got : {X : Type 0} (xs : List X) (i : ℕ) (d c : X) → slice_get xs i ≡ Some c → get_or xs i d ≡ c
got [] i d c e = cc
got (x ∷ xs) zero d c e = same_Some x c e
got (x ∷ xs) (suc i) d c e = got xs i d c e

pub is_there : {X : Type 0} (xs : List X) (i : ℕ) (d : X) → i < length xs → slice_get xs i ≡ Some (get_or xs i d)
is_there [] i d h = absurd (omega (arith, h))
is_there (x ∷ xs) zero d h = refl
is_there (x ∷ xs) (suc i) d h = is_there xs i d (omega (arith, h))

-- ---- one more element of a group_by, in the words of the model

module _ {C : Type 0} (rest : C → ListFunction) (is_open : C → Bool) (f : ListFunction) (yields : List Tree → End → Given Tree) (means : Means yields f) where
  -- from these substreams to those
  pub record GroupMoves (ss now : List Sub) (slots : List (Option C)) (place : ℕ) (gave : List Tree) : Type 0 where
    pub calm : trouble yields now ≡ None
    pub out : news yields 0 ss now ≡ map (tag place) gave
    pub holds : EachHolds rest is_open f slots now

  -- the substream at place i took it
  pub group_takes : (i : ℕ) (cs : List (Option C)) (ss : List Sub) (t : Tree) (c d : Option C) (before now : List Tree) → EachHolds rest is_open f cs ss → slice_get cs i ≡ Some c
      → ((took : List Tree) → SlotHolds rest is_open f c took → Fed rest is_open f took t None before now d) → (gave : List Tree) × ((now ≡ before ++ gave) × GroupMoves ss (take_at i t ss) (slice_set cs i d) i gave)
  group_takes i cs ss t c d before now h e fed =
      let r = group_fed rest is_open f yields means 0 i cs ss t c d before now h e fed in
      (r.gave, (r.out, record { calm = each_calm rest is_open f yields means (slice_set cs i d) (take_at i t ss) r.holds; out = r.fresh ∙ ap (λ k. map (tag k) r.gave) (omega arith); holds = r.holds }))

  -- a new one opened
  pub group_opens : (cs : List (Option C)) (ss : List Sub) (key t : Tree) (d : Option C) → EachHolds rest is_open f cs ss → SlotHolds rest is_open f d (t ∷ [])
      → GroupMoves ss (ss ++ record { key = key; took = t ∷ []; ended = false } ∷ []) (cs ++ d ∷ []) (length ss) (f.gives (t ∷ []))
  group_opens cs ss key t d h k =
      let s : Sub = record { key = key; took = t ∷ []; ended = false } in
      let all = each_push rest is_open f yields means cs ss d s h refl k in
      record { calm = each_calm rest is_open f yields means (cs ++ d ∷ []) (ss ++ s ∷ []) all; out = new_news rest is_open f yields means ss s refl; holds = all }

  -- the substream at place i failed: it is the first that did
  pub group_fails : (i : ℕ) (cs : List (Option C)) (ss : List Sub) (t : Tree) (c : Option C) (w : Why) → EachHolds rest is_open f cs ss → slice_get cs i ≡ Some c
      → ((took : List Tree) → SlotHolds rest is_open f c took → f.stop (took ++ t ∷ []) ≡ Failed w) → trouble yields (take_at i t ss) ≡ Some (by_element w)
  group_fails zero (b ∷ cs) (s ∷ ss) t c w h e stops =
      trouble_fails yields (take_in t s) ss (by_element w) (sub_fails f yields means (take_in t s) w (stops s.took (subst (λ (k : Option C). SlotHolds rest is_open f k s.took) (same_Some b c e) h.0.1)))
  group_fails (suc i) (b ∷ cs) (s ∷ ss) t c w h e stops =
      let is : s ≡ record { key = s.key; took = s.took; ended = false } = ap (λ (x : Bool). record { key = s.key; took = s.took; ended = x }) h.0.0 in
      let well : fault_of yields s ≡ None = ap (fault_of yields) is ∙ sub_calm f yields means s.key s.took (calm_slot rest is_open f b s.took h.0.1) in
      first_of yields s (take_at i t ss) ∙ ap (λ x. pick yields x (trouble yields (take_at i t ss))) well ∙ group_fails i cs ss t c w h.1 e stops
  group_fails i [] ss t c w h e stops = cc
  group_fails i (b ∷ cs) [] t c w h e stops = absurd h

-- ---- the places of keys

-- an element more of a substream leaves its key
pub find_taken : (k t : Tree) (n i : ℕ) (ss : List Sub) → find_key k n (take_at i t ss) ≡ find_key k n ss
find_taken k t n i [] = refl
find_taken k t n zero (s ∷ ss) = refl
find_taken k t n (suc i) (s ∷ ss) = ap (λ (r : Option ℕ). if is_eq (tree_cmp k s.key) then Some n else r) (find_taken k t (n + 1) i ss)

-- by the place among the first ones, or by the key of the new one
abbrev pub or_last : Tree → Sub → ℕ → Option ℕ → Option ℕ
or_last k s n (Some i) = Some i
or_last k s n None = if is_eq (tree_cmp k s.key) then Some n else None

pub find_new : (k : Tree) (n : ℕ) (ss : List Sub) (s : Sub) → find_key k n (ss ++ s ∷ []) ≡ or_last k s (n + length ss) (find_key k n ss)
find_new k n [] s = ap (λ j. if is_eq (tree_cmp k s.key) then Some j else None) (omega arith)
find_new k n (r ∷ ss) s = by_test (is_eq (tree_cmp k r.key)) (find_new k (n + 1) ss s ∙ ap (λ j. or_last k s j (find_key k (n + 1) ss)) (omega arith))
  where
    by_test : (b : Bool) → find_key k (n + 1) (ss ++ s ∷ []) ≡ or_last k s (n + suc (length ss)) (find_key k (n + 1) ss)
        → (if b then Some n else find_key k (n + 1) (ss ++ s ∷ [])) ≡ or_last k s (n + suc (length ss)) (if b then Some n else find_key k (n + 1) ss)
    by_test true e = refl
    by_test false e = e
