-- Only elements of an output's type are pushed there: another one is forbidden.
use Rattle.std.specs.Prelude.{slice_get, not, ◌||◌, if◌then◌else◌, replicate, ⊤}
use Rattle.std.proofs.Common.{◌≡◌, ℕ, zero, suc, ◌+◌, Bool, true, false, List, [], ◌∷◌, ◌++◌, length, Option, None, Some, refl, sym, ap, ◌∙◌, subst}
use Rattle.elem_core.specs.Sort.{Sort}
use Rattle.elem_core.specs.Tree.{Tree}
use Rattle.elem_core.specs.declared.item.Item.{Item}
use Rattle.elem_core.specs.declared.item.Item.TheVariants as item
use Rattle.elem_core.specs.declared.why.Cause.{Cause}
use Rattle.port_core.specs.declared.act.Act.{Act}
use Rattle.port_core.specs.declared.act.Act.TheVariants as act
use Rattle.port_core.specs.View.{View}
use Rattle.port_core.specs.Call.{Call}
use Rattle.stream_model.specs.Linear.{Book}
use Rattle.stage_core.specs.Histories.{with_item, given_all}
use Rattle.graph_stage.specs.declared.ask.Ask.{Ask}
use Rattle.graph_stage.specs.declared.ask.Ask.TheVariants.{Pull, Push, Complete, Cancel, Finish, Fail, Pass}
use Rattle.graph_stage.specs.declared.occasion.Occasion.{Occasion}
use Rattle.graph_stage.specs.declared.sight.InSight.{InSight}
use Rattle.graph_stage.specs.declared.sight.OutSight.{OutSight}
use Rattle.graph_stage.specs.OwnView.{Seen, sees_then, is_closed_in, is_closed_out, refused, type_code, push_code, end_act, outs_ended, ins_cancelled, ports_ended, forbidden, acts_of, sees_behind, own_cause, illegal_cause, preceded_by, fails_by, by_code, carried_out}
use Rattle.elem_core.specs.Typed.{is_of}
use Rattle.graph_stage.specs.Pushes.{IsOf, PushesTyped}
use Rattle.graph_stage.specs.Passed.{ItemsTyped}
use Rattle.graph_stage.specs.Standing.{without_taken_back}
use Rattle.graph_stage.specs.Ruled.{occasion_at}
use Rattle.graph_stage.specs.State.{CustomState, answered_as, RuledAs}
use Rattle.graph_stage.specs.Calls.{CallMade, given_by_calls, CalledOn}
use Rattle.graph_stage.specs.Laws.{CustomLaw}
use Rattle.graph_stage.proofs.Rooms.{not_refused, not_false}

module _ (types : List Sort) where
  typed_append : (a b : List Act) → PushesTyped types a → PushesTyped types b → PushesTyped types (a ++ b)
  typed_append [] b h k = k
  typed_append (act.Push j e ∷ a) b h k = (h.0, typed_append a b h.1 k)
  typed_append (act.Pull i ∷ a) b h k = typed_append a b h k
  typed_append (act.Complete j ∷ a) b h k = typed_append a b h k
  typed_append (act.FailOut j c ∷ a) b h k = typed_append a b h k
  typed_append (act.Cancel i ∷ a) b h k = typed_append a b h k

  one_end : (end : Option Cause) (n : ℕ) (c : Bool) (acts : List Act) → PushesTyped types acts → PushesTyped types (if c then acts else end_act end n ∷ acts)
  one_end end n true acts h = h
  one_end None n false acts h = h
  one_end (Some c) n false acts h = h

  outs_typed : (end : Option Cause) (n : ℕ) (ys : List OutSight) → PushesTyped types (outs_ended end n ys)
  outs_typed end n [] = tt
  outs_typed end n (y ∷ ys) = one_end end n y.closed (outs_ended end (n + 1) ys) (outs_typed end (n + 1) ys)

  one_cancel : (n : ℕ) (c : Bool) (acts : List Act) → PushesTyped types acts → PushesTyped types (if c then acts else act.Cancel n ∷ acts)
  one_cancel n true acts h = h
  one_cancel n false acts h = h

  ins_typed : (n : ℕ) (xs : List InSight) → PushesTyped types (ins_cancelled n xs)
  ins_typed n [] = tt
  ins_typed n (x ∷ xs) = one_cancel n x.closed (ins_cancelled (n + 1) xs) (ins_typed (n + 1) xs)

  all_typed : (end : Option Cause) (s : Seen) → PushesTyped types (ports_ended end s)
  all_typed end s = typed_append (outs_ended end 0 s.outs) (ins_cancelled 0 s.ins) (outs_typed end 0 s.outs) (ins_typed 0 s.ins)

  is_typed : (t : Option Sort) (e : Tree) → type_code t e ≡ None → IsOf t e
  is_typed None e h = cc
  is_typed (Some t) e h = not_false (is_of t e) (not_refused 4 (not (is_of t e)) None h).0

  push_typed : (y : Option OutSight) (t : Option Sort) (e : Tree) → push_code y t e ≡ None → IsOf t e
  push_typed None t e h = cc
  push_typed (Some y) t e h = is_typed t e (not_refused 2 (not y.asked || y.closed) (type_code t e) h).1

  maybe_typed : (c : Bool) (j : ℕ) → PushesTyped types (if c then [] else act.Complete j ∷ [])
  maybe_typed true j = tt
  maybe_typed false j = tt

  ask_typed : (o : Occasion) (s : Seen) (a : Ask) → forbidden types o s a ≡ None → PushesTyped types (acts_of o s a)
  ask_typed o s (Pull i) h = tt
  ask_typed o s (Push j e) h = (push_typed (slice_get s.outs j) (slice_get types j) e h, tt)
  ask_typed o s (Complete j) h = maybe_typed (is_closed_out s j) j
  ask_typed o s (Cancel i) h = one_cancel i (is_closed_in s i) [] tt
  ask_typed o s Finish h = all_typed None s
  ask_typed o s (Fail n) h = all_typed (Some (own_cause o n)) s
  ask_typed o s Pass h = all_typed o.failure s

  pub carried_typed : (o : Occasion) (s : Seen) (asks : List Ask) → PushesTyped types (carried_out types o s asks).acts
  carried_typed o s [] = tt
  carried_typed o s (a ∷ more) = by (forbidden types o s a) refl (carried_typed o (sees_behind s a) more)
    where
      by : (x : Option ℕ) → forbidden types o s a ≡ x → PushesTyped types (carried_out types o (sees_behind s a) more).acts → PushesTyped types (by_code x (preceded_by (acts_of o s a) (carried_out types o (sees_behind s a) more)) (fails_by o s)).acts
      by None e rest = typed_append (acts_of o s a) (carried_out types o (sees_behind s a) more).acts (ask_typed o s a e) rest
      by (Some code) e rest = all_typed (Some (illegal_cause o code)) s

-- ---- a run

-- what passed at each output is of its type
abbrev OutsTyped : List Sort → List (List Item) → Type 0
OutsTyped ts [] = ⊤
OutsTyped [] (h ∷ hs) = ItemsTyped None h × OutsTyped [] hs
OutsTyped (t ∷ ts) (h ∷ hs) = ItemsTyped (Some t) h × OutsTyped ts hs

none_typed : (ts : List Sort) (n : ℕ) → OutsTyped ts (replicate n [])
none_typed ts zero = tt
none_typed [] (suc n) = (tt, none_typed [] n)
none_typed (t ∷ ts) (suc n) = (tt, none_typed ts n)

one_more : (t : Option Sort) (h : List Item) (x : Item) → ItemsTyped t h → ItemsTyped t (x ∷ []) → ItemsTyped t (h ++ x ∷ [])
one_more t [] x p q = q
one_more t (item.Elem e ∷ h) x p q = (p.0, one_more t h x p.1 q)
one_more t (item.Ended ∷ h) x p q = one_more t h x p q
one_more t (item.Failed c ∷ h) x p q = one_more t h x p q

set_typed : (ts : List Sort) (hs : List (List Item)) (j : ℕ) (x : Item) → OutsTyped ts hs → ItemsTyped (slice_get ts j) (x ∷ []) → OutsTyped ts (with_item hs j x)
set_typed ts [] j x p q = p
set_typed [] (h ∷ hs) zero x p q = (one_more None h x p.0 q, p.1)
set_typed (t ∷ ts) (h ∷ hs) zero x p q = (one_more (Some t) h x p.0 q, p.1)
set_typed [] (h ∷ hs) (suc j) x p q = (p.0, set_typed [] hs j x p.1 q)
set_typed (t ∷ ts) (h ∷ hs) (suc j) x p q = (p.0, set_typed ts hs j x p.1 q)

acts_typed : (ts : List Sort) (acts : List Act) (gave : List (List Item)) → PushesTyped ts acts → OutsTyped ts gave → OutsTyped ts (given_all acts gave)
acts_typed ts [] gave h p = p
acts_typed ts (act.Push j e ∷ acts) gave h p = acts_typed ts acts (with_item gave j (item.Elem e)) h.1 (set_typed ts gave j (item.Elem e) p (h.0, tt))
acts_typed ts (act.Pull i ∷ acts) gave h p = acts_typed ts acts gave h p
acts_typed ts (act.Complete j ∷ acts) gave h p = acts_typed ts acts (with_item gave j item.Ended) h (set_typed ts gave j item.Ended p tt)
acts_typed ts (act.FailOut j c ∷ acts) gave h p = acts_typed ts acts (with_item gave j (item.Failed c)) h (set_typed ts gave j (item.Failed c) p tt)
acts_typed ts (act.Cancel i ∷ acts) gave h p = acts_typed ts acts gave h p

-- without the pulls that are taken back too
fewer_typed : (ts : List Sort) (s : Seen) (acts : List Act) → PushesTyped ts acts → PushesTyped ts (without_taken_back s acts)
fewer_typed ts s [] h = tt
fewer_typed ts s (act.Push j e ∷ acts) h = (h.0, fewer_typed ts s acts h.1)
fewer_typed ts s (act.Pull i ∷ acts) h = by (is_closed_in s i) (fewer_typed ts s acts h)
  where
    by : (b : Bool) → PushesTyped ts (without_taken_back s acts) → PushesTyped ts (if b then without_taken_back s acts else act.Pull i ∷ without_taken_back s acts)
    by true g = g
    by false g = g
fewer_typed ts s (act.Complete j ∷ acts) h = fewer_typed ts s acts h
fewer_typed ts s (act.FailOut j c ∷ acts) h = fewer_typed ts s acts h
fewer_typed ts s (act.Cancel i ∷ acts) h = fewer_typed ts s acts h

typed_at : (ts : List Sort) (hs : List (List Item)) (j : ℕ) (h : List Item) → OutsTyped ts hs → slice_get hs j ≡ Some h → ItemsTyped (slice_get ts j) h
typed_at ts [] j h p e = cc
typed_at [] (g ∷ hs) zero h p e = let same : g ≡ h = cc in subst (λ (z : List Item). ItemsTyped None z) same p.0
typed_at (t ∷ ts) (g ∷ hs) zero h p e = let same : g ≡ h = cc in subst (λ (z : List Item). ItemsTyped (Some t) z) same p.0
typed_at [] (g ∷ hs) (suc j) h p e = typed_at [] hs j h p.1 e
typed_at (t ∷ ts) (g ∷ hs) (suc j) h p e = typed_at ts hs j h p.1 e

ruled_typed : {b : Book} (call : Call) (old new : CustomState) (acts : List Act) → RuledAs b call old new acts → PushesTyped old.types acts
ruled_typed call old new acts r =
    subst (λ (z : List Act). PushesTyped old.types z) (sym r.acts_are)
    (fewer_typed old.types new.sight (answered_as old call r.asks).acts (carried_typed old.types (occasion_at old.node old.taken call) (sees_then call old.sight) r.asks))

calls_typed : (b : Book) (ts : List Sort) (x now : CustomState) (calls : List CallMade) (gave : List (List Item)) → x.types ≡ ts → CalledOn b x calls now → OutsTyped ts gave
    → OutsTyped ts (given_by_calls calls gave)
calls_typed b ts x now [] gave e h p = p
calls_typed b ts x now (c ∷ calls) gave e h p =
    let t = subst (λ (z : List Sort). PushesTyped z c.acts) e (ruled_typed c.call x c.after c.acts h.0) in
    calls_typed b ts c.after now calls (given_all c.acts gave) (h.0.types_stay ∙ e) h.1 (acts_typed ts c.acts gave t p)

pub gives_typed : {b : Book} (first now : CustomState) (v : View) (took gave : List (List Item)) → CustomLaw b first now v took gave
    → (j : ℕ) (items : List Item) → slice_get gave j ≡ Some items → ItemsTyped (slice_get first.types j) items
gives_typed {b} first now v took gave l j items e =
    let p = calls_typed b first.types first now l.calls (replicate (length l.begin.outs) []) refl l.called (none_typed first.types (length l.begin.outs)) in
    typed_at first.types gave j items (subst (λ (z : List (List Item)). OutsTyped first.types z) (sym l.gave_is) p) e

-- its node and the types of its outputs
calls_stay : (b : Book) (x now : CustomState) (calls : List CallMade) → CalledOn b x calls now → (now.node ≡ x.node) × (now.types ≡ x.types)
calls_stay b x now [] h = (ap (λ (z : CustomState). z.node) h, ap (λ (z : CustomState). z.types) h)
calls_stay b x now (c ∷ calls) h = let r = calls_stay b c.after now calls h.1 in (r.0 ∙ h.0.node_stays, r.1 ∙ h.0.types_stay)

pub stays : {b : Book} (first now : CustomState) (v : View) (took gave : List (List Item)) → CustomLaw b first now v took gave → (now.node ≡ first.node) × (now.types ≡ first.types)
stays {b} first now v took gave l = calls_stay b first now l.calls l.called
