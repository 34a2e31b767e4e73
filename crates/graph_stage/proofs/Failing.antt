-- A failure that a custom stage gave is its own, or came to it.
use Rattle.std.specs.Prelude.{slice_set, slice_index_or, replicate, if◌then◌else◌, ⊤}
use Rattle.std.proofs.Common.{◌≡◌, ◌⊎◌, inl, inr, ℕ, zero, suc, ◌+◌, Bool, true, false, List, [], ◌∷◌, ◌++◌, length, Option, None, Some, refl, sym, ap, ◌∙◌, subst}
use Rattle.elem_core.specs.Sort.{Sort}
use Rattle.elem_core.specs.declared.item.Item.{Item}
use Rattle.elem_core.specs.declared.item.Item.TheVariants as item
use Rattle.elem_core.specs.declared.why.Cause.{Cause}
use Rattle.port_core.specs.declared.act.Act.{Act}
use Rattle.port_core.specs.declared.act.Act.TheVariants as act
use Rattle.port_core.specs.declared.view.InView.{InView}
use Rattle.port_core.specs.declared.view.InView.TheVariants.{Cancelled}
use Rattle.port_core.specs.View.{View, IsInOpen, acted_all}
use Rattle.port_core.specs.Call.{Call, starts, pulls, arrives, cancels, CallAllowed, seen}
use Rattle.stream_model.specs.Linear.{Book}
use Rattle.stage_core.specs.Histories.{with_item, given_all, brought_by}
use Rattle.graph_stage.specs.declared.ask.Ask.{Ask}
use Rattle.graph_stage.specs.declared.ask.Ask.TheVariants.{Pull, Push, Complete, Cancel, Finish, Fail, Pass}
use Rattle.graph_stage.specs.declared.occasion.Occasion.{Occasion}
use Rattle.graph_stage.specs.declared.sight.InSight.{InSight}
use Rattle.graph_stage.specs.declared.sight.OutSight.{OutSight}
use Rattle.graph_stage.specs.OwnView.{Seen, sees_then, is_closed_in, is_closed_out, end_act, outs_ended, ins_cancelled, ports_ended, forbidden, acts_of, sees_behind, own_cause, illegal_cause, preceded_by, fails_by, by_code, carried_out}
use Rattle.graph_stage.specs.Standing.{without_taken_back}
use Rattle.graph_stage.specs.Ruled.{occasion_at, failure_by}
use Rattle.graph_stage.specs.State.{CustomState, answered_as, RuledAs}
use Rattle.graph_stage.specs.Calls.{CallMade, CallsAllowed, brought_by_calls, given_by_calls, CalledOn}
use Rattle.graph_stage.specs.Failing.{HasFailed, AnyFailed, IsOwnCause}
use Rattle.graph_stage.specs.Laws.{CustomLaw}
use Rattle.graph_stage.specs.Ports.{Sees}
use Rattle.graph_stage.proofs.Handles.{goes, sees_on}
use Rattle.graph_stage.proofs.Passing.{InsPassed, AllPassed, call_passed, acts_passed, begun}

same_failure : (c d : Cause) → item.Failed c ≡ item.Failed d → c ≡ d
same_failure c d e = cc

-- ---- the actions of one call

module _ (P : Cause → Type 0) where
  -- each failure of an output has P
  abbrev FailsAs : List Act → Type 0
  FailsAs [] = ⊤
  FailsAs (act.FailOut j c ∷ acts) = P c × FailsAs acts
  FailsAs (act.Push j e ∷ acts) = FailsAs acts
  FailsAs (act.Pull i ∷ acts) = FailsAs acts
  FailsAs (act.Complete j ∷ acts) = FailsAs acts
  FailsAs (act.Cancel i ∷ acts) = FailsAs acts

  fails_append : (a b : List Act) → FailsAs a → FailsAs b → FailsAs (a ++ b)
  fails_append [] b h k = k
  fails_append (act.FailOut j c ∷ a) b h k = (h.0, fails_append a b h.1 k)
  fails_append (act.Push j e ∷ a) b h k = fails_append a b h k
  fails_append (act.Pull i ∷ a) b h k = fails_append a b h k
  fails_append (act.Complete j ∷ a) b h k = fails_append a b h k
  fails_append (act.Cancel i ∷ a) b h k = fails_append a b h k

  one_end : (end : Option Cause) (n : ℕ) (b : Bool) (acts : List Act) → ((c : Cause) → end ≡ Some c → P c) → FailsAs acts → FailsAs (if b then acts else end_act end n ∷ acts)
  one_end end n true acts so h = h
  one_end None n false acts so h = h
  one_end (Some c) n false acts so h = (so c refl, h)

  outs_fail : (end : Option Cause) (n : ℕ) (ys : List OutSight) → ((c : Cause) → end ≡ Some c → P c) → FailsAs (outs_ended end n ys)
  outs_fail end n [] so = tt
  outs_fail end n (y ∷ ys) so = one_end end n y.closed (outs_ended end (n + 1) ys) so (outs_fail end (n + 1) ys so)

  one_cancel : (n : ℕ) (b : Bool) (acts : List Act) → FailsAs acts → FailsAs (if b then acts else act.Cancel n ∷ acts)
  one_cancel n true acts h = h
  one_cancel n false acts h = h

  ins_fail : (n : ℕ) (xs : List InSight) → FailsAs (ins_cancelled n xs)
  ins_fail n [] = tt
  ins_fail n (x ∷ xs) = one_cancel n x.closed (ins_cancelled (n + 1) xs) (ins_fail (n + 1) xs)

  all_fail : (end : Option Cause) (s : Seen) → ((c : Cause) → end ≡ Some c → P c) → FailsAs (ports_ended end s)
  all_fail end s so = fails_append (outs_ended end 0 s.outs) (ins_cancelled 0 s.ins) (outs_fail end 0 s.outs so) (ins_fail 0 s.ins)

  maybe_complete : (b : Bool) (j : ℕ) → FailsAs (if b then [] else act.Complete j ∷ [])
  maybe_complete true j = tt
  maybe_complete false j = tt

  none_fails : (c : Cause) → None ≡ Some c → P c
  none_fails c e = absurd cc

  -- without the pulls that are taken back too
  fewer_fail : (s : Seen) (acts : List Act) → FailsAs acts → FailsAs (without_taken_back s acts)
  fewer_fail s [] h = tt
  fewer_fail s (act.FailOut j c ∷ acts) h = (h.0, fewer_fail s acts h.1)
  fewer_fail s (act.Push j e ∷ acts) h = fewer_fail s acts h
  fewer_fail s (act.Pull i ∷ acts) h = by (is_closed_in s i) (fewer_fail s acts h)
    where
      by : (b : Bool) → FailsAs (without_taken_back s acts) → FailsAs (if b then without_taken_back s acts else act.Pull i ∷ without_taken_back s acts)
      by true g = g
      by false g = g
  fewer_fail s (act.Complete j ∷ acts) h = fewer_fail s acts h
  fewer_fail s (act.Cancel i ∷ acts) h = fewer_fail s acts h

  module _ (types : List Sort) (o : Occasion) (own : (c : Cause) → IsOwnCause o.node c → P c) (passes : (c : Cause) → o.failure ≡ Some c → P c) where
    ask_fails : (s : Seen) (a : Ask) → FailsAs (acts_of o s a)
    ask_fails s (Pull i) = tt
    ask_fails s (Push j e) = tt
    ask_fails s (Complete j) = maybe_complete (is_closed_out s j) j
    ask_fails s (Cancel i) = one_cancel i (is_closed_in s i) [] tt
    ask_fails s Finish = all_fail None s none_fails
    ask_fails s (Fail n) = all_fail (Some (own_cause o n)) s (λ c e. let same : own_cause o n ≡ c = cc in subst P same (own (own_cause o n) (refl, inl (n, refl))))
    ask_fails s Pass = all_fail o.failure s passes

    carried_fails : (s : Seen) (asks : List Ask) → FailsAs (carried_out types o s asks).acts
    carried_fails s [] = tt
    carried_fails s (a ∷ more) = by (forbidden types o s a) (carried_fails (sees_behind s a) more)
      where
        by : (x : Option ℕ) → FailsAs (carried_out types o (sees_behind s a) more).acts → FailsAs (by_code x (preceded_by (acts_of o s a) (carried_out types o (sees_behind s a) more)) (fails_by o s)).acts
        by None rest = fails_append (acts_of o s a) (carried_out types o (sees_behind s a) more).acts (ask_fails s a) rest
        by (Some code) rest = all_fail (Some (illegal_cause o code)) s (λ c e. let same : illegal_cause o code ≡ c = cc in subst P same (own (illegal_cause o code) (refl, inr (code, refl))))

-- ---- what passed

last_failed : (c : Cause) (h : List Item) (x : Item) → HasFailed c (h ++ x ∷ []) → HasFailed c h ⊎ (x ≡ item.Failed c)
last_failed c [] x (inl e) = inr e
last_failed c [] x (inr f) = absurd f
last_failed c (y ∷ h) x (inl e) = inl (inl e)
last_failed c (y ∷ h) x (inr f) = elim (last_failed c h x f) as (λ _. HasFailed c (y ∷ h) ⊎ (x ≡ item.Failed c)) [ inl g ↦ inl (inr g) | inr e ↦ inr e ]

-- one more item at a port
with_failed : (c : Cause) (hs : List (List Item)) (k : ℕ) (x : Item) → AnyFailed c (with_item hs k x) → AnyFailed c hs ⊎ (x ≡ item.Failed c)
with_failed c [] k x f = inl f
with_failed c (h ∷ hs) zero x (inl f) = elim (last_failed c h x f) as (λ _. AnyFailed c (h ∷ hs) ⊎ (x ≡ item.Failed c)) [ inl g ↦ inl (inl g) | inr e ↦ inr e ]
with_failed c (h ∷ hs) zero x (inr f) = inl (inr f)
with_failed c (h ∷ hs) (suc k) x (inl f) = inl (inl f)
with_failed c (h ∷ hs) (suc k) x (inr f) = elim (with_failed c hs k x f) as (λ _. AnyFailed c (h ∷ hs) ⊎ (x ≡ item.Failed c)) [ inl g ↦ inl (inr g) | inr e ↦ inr e ]

stays_failed : (c : Cause) (h more : List Item) → HasFailed c h → HasFailed c (h ++ more)
stays_failed c [] more f = absurd f
stays_failed c (y ∷ h) more (inl e) = inl e
stays_failed c (y ∷ h) more (inr f) = inr (stays_failed c h more f)

with_more : (c : Cause) (hs : List (List Item)) (k : ℕ) (x : Item) → AnyFailed c hs → AnyFailed c (with_item hs k x)
with_more c [] k x f = f
with_more c (h ∷ hs) zero x (inl f) = inl (stays_failed c h (x ∷ []) f)
with_more c (h ∷ hs) zero x (inr f) = inr f
with_more c (h ∷ hs) (suc k) x (inl f) = inl f
with_more c (h ∷ hs) (suc k) x (inr f) = inr (with_more c hs k x f)

brought_more : (c : Cause) (call : Call) (took : List (List Item)) → AnyFailed c took → AnyFailed c (brought_by call took)
brought_more c starts took f = f
brought_more c (pulls j) took f = f
brought_more c (arrives i x) took f = with_more c took i x f
brought_more c (cancels j) took f = f

ends_failed : (c : Cause) (h : List Item) → HasFailed c (h ++ item.Failed c ∷ [])
ends_failed c [] = inl refl
ends_failed c (y ∷ h) = inr (ends_failed c h)

-- a failure that comes to an input that is open is noted there
comes_failed : (c : Cause) (xs : List InView) (hs : List (List Item)) (i : ℕ) → InsPassed xs hs → IsInOpen (slice_index_or xs i Cancelled) → AnyFailed c (with_item hs i (item.Failed c))
comes_failed c [] [] i p o = absurd o
comes_failed c (x ∷ xs) (h ∷ hs) zero p o = inl (ends_failed c h)
comes_failed c (x ∷ xs) (h ∷ hs) (suc i) p o = inr (comes_failed c xs hs i p.1 o)
comes_failed c [] (h ∷ hs) i p o = absurd p
comes_failed c (x ∷ xs) [] i p o = absurd p

call_failed : (c : Cause) (call : Call) (v : View) (took : List (List Item)) → InsPassed v.ins took → CallAllowed call v → failure_by call ≡ Some c → AnyFailed c (brought_by call took)
call_failed c starts v took p may e = absurd cc
call_failed c (pulls j) v took p may e = absurd cc
call_failed c (cancels j) v took p may e = absurd cc
call_failed c (arrives i (item.Elem t)) v took p may e = absurd cc
call_failed c (arrives i item.Ended) v took p may e = absurd cc
call_failed c (arrives i (item.Failed d)) v took p may e = let same : d ≡ c = cc in subst (λ (z : Cause). AnyFailed c (with_item took i (item.Failed z))) (sym same) (comes_failed c v.ins took i p may)

-- what the actions give
acts_lead : (P : Cause → Type 0) (acts : List Act) (gave : List (List Item)) → FailsAs P acts → ((c : Cause) → AnyFailed c gave → P c) → (c : Cause) → AnyFailed c (given_all acts gave) → P c
acts_lead P [] gave f up c h = up c h
acts_lead P (act.Pull i ∷ acts) gave f up c h = acts_lead P acts gave f up c h
acts_lead P (act.Cancel i ∷ acts) gave f up c h = acts_lead P acts gave f up c h
acts_lead P (act.Push j t ∷ acts) gave f up c h =
    acts_lead P acts (with_item gave j (item.Elem t)) f (λ d k. elim (with_failed d gave j (item.Elem t) k) as (λ _. P d) [ inl g ↦ up d g | inr e ↦ absurd cc ]) c h
acts_lead P (act.Complete j ∷ acts) gave f up c h =
    acts_lead P acts (with_item gave j item.Ended) f (λ d k. elim (with_failed d gave j item.Ended k) as (λ _. P d) [ inl g ↦ up d g | inr e ↦ absurd cc ]) c h
acts_lead P (act.FailOut j b ∷ acts) gave f up c h =
    acts_lead P acts (with_item gave j (item.Failed b)) f.1
    (λ d k. elim (with_failed d gave j (item.Failed b) k) as (λ _. P d) [ inl g ↦ up d g | inr e ↦ subst P (same_failure b d e) f.0 ]) c h

-- ---- a run

module _ (node : ℕ) where
  -- it is the stage's own, or came to one of its inputs
  abbrev Known : List (List Item) → Cause → Type 0
  Known took c = IsOwnCause node c ⊎ AnyFailed c took

  known_more : (call : Call) (took : List (List Item)) (c : Cause) → Known took c → Known (brought_by call took) c
  known_more call took c (inl own) = inl own
  known_more call took c (inr came) = inr (brought_more c call took came)

  ruled_fails : {b : Book} (call : Call) (old new : CustomState) (acts : List Act) (v : View) (took : List (List Item)) → old.node ≡ node → InsPassed v.ins took → CallAllowed call v → RuledAs b call old new acts → FailsAs (Known (brought_by call took)) acts
  ruled_fails call old new acts v took e p may r =
      let P = Known (brought_by call took) in
      subst (λ (z : List Act). FailsAs P z) (sym r.acts_are)
      (fewer_fail P new.sight (answered_as old call r.asks).acts
      (carried_fails P old.types (occasion_at old.node old.taken call) (λ c own. inl (own.0 ∙ e, own.1)) (λ c f. inr (call_failed c call v took p may f)) (sees_then call old.sight) r.asks))

  calls_lead : (b : Book) (x now : CustomState) (calls : List CallMade) (v : View) (took gave : List (List Item)) → x.node ≡ node → Sees v x.sight → CalledOn b x calls now → CallsAllowed v calls → AllPassed v took gave
      → ((c : Cause) → AnyFailed c gave → Known took c) → (c : Cause) → AnyFailed c (given_by_calls calls gave) → Known (brought_by_calls calls took) c
  calls_lead b x now [] v took gave e sees h may p up c f = up c f
  calls_lead b x now (m ∷ calls) v took gave e sees h may p up c f =
      let g = goes m.call x m.after m.acts h.0 v may.0 sees in
      let q = acts_passed m.acts (seen m.call v) (brought_by m.call took) gave g.leads.allowed (call_passed m.call v took gave may.0 p) in
      let lead = acts_lead (Known (brought_by m.call took)) m.acts gave (ruled_fails m.call x m.after m.acts v took e p.ins may.0 h.0) (λ d k. known_more m.call took d (up d k)) in
      calls_lead b m.after now calls (acted_all (seen m.call v) m.acts) (brought_by m.call took) (given_all m.acts gave) (h.0.node_stays ∙ e) (sees_on m.call x m.after m.acts h.0 v may.0 sees) h.1 may.1 q lead c f

none_failed : (c : Cause) (n : ℕ) → AnyFailed c (replicate n []) → ⊥
none_failed c zero f = f
none_failed c (suc n) (inl f) = f
none_failed c (suc n) (inr f) = none_failed c n f

pub failures_lead : {b : Book} (first now : CustomState) (v : View) (took gave : List (List Item)) → CustomLaw b first now v took gave → (c : Cause) → AnyFailed c gave → IsOwnCause first.node c ⊎ AnyFailed c took
failures_lead {b} first now v took gave l c f =
    let led =
    calls_lead first.node b first now l.calls l.begin (replicate (length l.begin.ins) []) (replicate (length l.begin.outs) []) refl l.fresh.sees l.called l.allowed (begun l.calls l.begin l.begins l.allowed)
    (λ d k. absurd (none_failed d (length l.begin.outs) k)) c (subst (λ (z : List (List Item)). AnyFailed c z) l.gave_is f) in
    subst (λ (z : List (List Item)). IsOwnCause first.node c ⊎ AnyFailed c z) (sym l.took_is) led
