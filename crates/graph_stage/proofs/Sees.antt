-- The actions of a custom stage are allowed, and it goes on to see its ports as they are.
use Rattle.std.specs.Prelude.{slice_get, slice_set, slice_index_or, map, if◌then◌else◌}
use Rattle.std.proofs.Common.{◌≡◌, ℕ, zero, suc, ◌+◌, ◌≤◌, Bool, true, false, List, [], ◌∷◌, ◌++◌, length, Option, None, Some, refl, sym, ap, ◌∙◌, subst, arith, append_assoc, length-append}
use Rattle.elem_core.specs.Sort.{Sort}
use Rattle.elem_core.specs.Tree.{Tree}
use Rattle.elem_core.specs.declared.item.Item.{Item}
use Rattle.elem_core.specs.declared.item.Item.TheVariants as item
use Rattle.elem_core.specs.declared.why.Cause.{Cause}
use Rattle.port_core.specs.declared.act.Act.{Act}
use Rattle.port_core.specs.declared.act.Act.TheVariants as act
use Rattle.port_core.specs.declared.view.InView.{InView}
use Rattle.port_core.specs.declared.view.InView.TheVariants.{Idle, Pulled, Finished, Cancelled}
use Rattle.port_core.specs.declared.view.OutView.{OutView}
use Rattle.port_core.specs.declared.view.OutView.TheVariants as outlet
use Rattle.port_core.specs.View.{View, in_at, out_at, with_in, with_out, IsInOpen, IsOutOpen, ActAllowed, acted, ActsAllowed, acted_all}
use Rattle.port_core.specs.Call.{Call, starts, pulls, arrives, cancels, CallAllowed, seen}
use Rattle.port_core.proofs.Views.{acted_append, allowed_append}
use Rattle.graph_stage.specs.declared.ask.Ask.{Ask}
use Rattle.graph_stage.specs.declared.ask.Ask.TheVariants.{Pull, Push, Complete, Cancel, Finish, Fail, Pass}
use Rattle.graph_stage.specs.declared.occasion.Occasion.{Occasion}
use Rattle.graph_stage.specs.declared.sight.InSight.{InSight}
use Rattle.graph_stage.specs.declared.sight.OutSight.{OutSight}
use Rattle.graph_stage.specs.OwnView.{Seen, no_input, no_output, input_at, output_at, with_input, with_output, closed_in, closed_out, all_closed, sees_then, end_act, outs_ended, ins_cancelled, ports_ended, forbidden, acts_of, sees_behind, own_cause, illegal_cause, Outcome, preceded_by, fails_by, by_code, carried_out}
use Rattle.graph_stage.specs.Ports.{SeesIn, SeesOut, SeesIns, SeesOuts, Sees}
use Rattle.graph_stage.proofs.Rooms.{MayPull, may_pull, MayPush, may_push, at_in, at_out}

-- ---- one port

pub at_sees_in : (vs : List InView) (xs : List InSight) (i : ℕ) → SeesIns vs xs → SeesIn (slice_index_or vs i Cancelled) (slice_index_or xs i no_input)
at_sees_in [] [] i h = refl
at_sees_in (v ∷ vs) (x ∷ xs) zero h = h.0
at_sees_in (v ∷ vs) (x ∷ xs) (suc i) h = at_sees_in vs xs i h.1
at_sees_in [] (x ∷ xs) i h = absurd h
at_sees_in (v ∷ vs) [] i h = absurd h

at_sees_out : (vs : List OutView) (ys : List OutSight) (j : ℕ) → SeesOuts vs ys → SeesOut (slice_index_or vs j outlet.Closed) (slice_index_or ys j no_output)
at_sees_out [] [] j h = refl
at_sees_out (v ∷ vs) (y ∷ ys) zero h = h.0
at_sees_out (v ∷ vs) (y ∷ ys) (suc j) h = at_sees_out vs ys j h.1
at_sees_out [] (y ∷ ys) j h = absurd h
at_sees_out (v ∷ vs) [] j h = absurd h

set_sees_in : (vs : List InView) (xs : List InSight) (i : ℕ) (a : InView) (x : InSight) → SeesIns vs xs → SeesIn a x → SeesIns (slice_set vs i a) (slice_set xs i x)
set_sees_in [] [] i a x h k = h
set_sees_in (v ∷ vs) (z ∷ xs) zero a x h k = (k, h.1)
set_sees_in (v ∷ vs) (z ∷ xs) (suc i) a x h k = (h.0, set_sees_in vs xs i a x h.1 k)
set_sees_in [] (z ∷ xs) i a x h k = absurd h
set_sees_in (v ∷ vs) [] i a x h k = absurd h

set_sees_out : (vs : List OutView) (ys : List OutSight) (j : ℕ) (a : OutView) (y : OutSight) → SeesOuts vs ys → SeesOut a y → SeesOuts (slice_set vs j a) (slice_set ys j y)
set_sees_out [] [] j a y h k = h
set_sees_out (v ∷ vs) (z ∷ ys) zero a y h k = (k, h.1)
set_sees_out (v ∷ vs) (z ∷ ys) (suc j) a y h k = (h.0, set_sees_out vs ys j a y h.1 k)
set_sees_out [] (z ∷ ys) j a y h k = absurd h
set_sees_out (v ∷ vs) [] j a y h k = absurd h

-- what is known of the port stays
keep_sees_in : (vs : List InView) (xs : List InSight) (i : ℕ) (x : InSight) → SeesIns vs xs → SeesIn (slice_index_or vs i Cancelled) x → SeesIns vs (slice_set xs i x)
keep_sees_in [] [] i x h k = h
keep_sees_in (v ∷ vs) (z ∷ xs) zero x h k = (k, h.1)
keep_sees_in (v ∷ vs) (z ∷ xs) (suc i) x h k = (h.0, keep_sees_in vs xs i x h.1 k)
keep_sees_in [] (z ∷ xs) i x h k = absurd h
keep_sees_in (v ∷ vs) [] i x h k = absurd h

keep_sees_out : (vs : List OutView) (ys : List OutSight) (j : ℕ) (y : OutSight) → SeesOuts vs ys → SeesOut (slice_index_or vs j outlet.Closed) y → SeesOuts vs (slice_set ys j y)
keep_sees_out [] [] j y h k = h
keep_sees_out (v ∷ vs) (z ∷ ys) zero y h k = (k, h.1)
keep_sees_out (v ∷ vs) (z ∷ ys) (suc j) y h k = (h.0, keep_sees_out vs ys j y h.1 k)
keep_sees_out [] (z ∷ ys) j y h k = absurd h
keep_sees_out (v ∷ vs) [] j y h k = absurd h

input : (v : View) (s : Seen) (i : ℕ) → Sees v s → SeesIn (in_at v i) (input_at s i)
input v s i h = at_sees_in v.ins s.ins i h.ins

output : (v : View) (s : Seen) (j : ℕ) → Sees v s → SeesOut (out_at v j) (output_at s j)
output v s j h = at_sees_out v.outs s.outs j h.outs

input_set : (v : View) (s : Seen) (i : ℕ) (a : InView) (x : InSight) → Sees v s → SeesIn a x → Sees (with_in v i a) (with_input s i x)
input_set v s i a x h k = record { ins = set_sees_in v.ins s.ins i a x h.ins k; outs = h.outs }

output_set : (v : View) (s : Seen) (j : ℕ) (a : OutView) (y : OutSight) → Sees v s → SeesOut a y → Sees (with_out v j a) (with_output s j y)
output_set v s j a y h k = record { ins = h.ins; outs = set_sees_out v.outs s.outs j a y h.outs k }

-- what is known of a port, by what is seen
idle : (a : InView) (x : InSight) → SeesIn a x → x.asked ≡ false → x.closed ≡ false → a ≡ Idle
idle Idle x h e f = refl
idle Pulled x h e f = let k = h.0 in cc
idle Finished x h e f = cc
idle Cancelled x h e f = cc

available : (a : OutView) (y : OutSight) → SeesOut a y → y.asked ≡ true → y.closed ≡ false → a ≡ outlet.Available
available outlet.Unpulled y h e f = let k = h.0 in cc
available outlet.Available y h e f = refl
available outlet.Closed y h e f = cc
available outlet.Cancelled y h e f = cc

open_in : (a : InView) (x : InSight) → SeesIn a x → x.closed ≡ false → IsInOpen a
open_in Idle x h f = tt
open_in Pulled x h f = tt
open_in Finished x h f = cc
open_in Cancelled x h f = cc

open_out : (a : OutView) (y : OutSight) → SeesOut a y → y.closed ≡ false → IsOutOpen a
open_out outlet.Unpulled y h f = tt
open_out outlet.Available y h f = tt
open_out outlet.Closed y h f = cc
open_out outlet.Cancelled y h f = cc

shut_in : (a : InView) (x : InSight) → SeesIn a x → x.closed ≡ true → SeesIn a (closed_in x)
shut_in Idle x h f = let k = h.1 in cc
shut_in Pulled x h f = let k = h.1 in cc
shut_in Finished x h f = refl
shut_in Cancelled x h f = refl

shut_out : (a : OutView) (y : OutSight) → SeesOut a y → y.closed ≡ true → SeesOut a (closed_out y)
shut_out outlet.Unpulled y h f = let k = h.1 in cc
shut_out outlet.Available y h f = let k = h.1 in cc
shut_out outlet.Closed y h f = refl
shut_out outlet.Cancelled y h f = refl

-- ---- a call

unpulled_open : (a : OutView) (y : OutSight) → SeesOut a y → a ≡ outlet.Unpulled → y.closed ≡ false
unpulled_open outlet.Unpulled y h e = h.1
unpulled_open outlet.Available y h e = cc
unpulled_open outlet.Closed y h e = cc
unpulled_open outlet.Cancelled y h e = cc

pulled_open : (a : InView) (x : InSight) → SeesIn a x → a ≡ Pulled → x.closed ≡ false
pulled_open Idle x h e = cc
pulled_open Pulled x h e = h.1
pulled_open Finished x h e = cc
pulled_open Cancelled x h e = cc

pub heard : (call : Call) (v : View) (s : Seen) → CallAllowed call v → Sees v s → Sees (seen call v) (sees_then call s)
heard starts v s may h = h
heard (pulls j) v s may h = output_set v s j outlet.Available _ h (refl, unpulled_open (out_at v j) (output_at s j) (output v s j h) may)
heard (arrives i (item.Elem e)) v s may h = input_set v s i Idle _ h (refl, pulled_open (in_at v i) (input_at s i) (input v s i h) may)
heard (arrives i item.Ended) v s may h = input_set v s i Finished _ h refl
heard (arrives i (item.Failed c)) v s may h = input_set v s i Finished _ h refl
heard (cancels j) v s may h = output_set v s j outlet.Cancelled _ h refl

-- ---- all ports are closed

set_behind : {A : Type 0} (a b : List A) (x y : A) (n : ℕ) → length a ≡ n → slice_set (a ++ x ∷ b) n y ≡ a ++ y ∷ b
set_behind [] b x y n h = rw (← h) refl
set_behind (z ∷ a) b x y zero h = absurd (omega (arith, h))
set_behind (z ∷ a) b x y (suc n) h = ap (λ xs. z ∷ xs) (set_behind a b x y n (omega (arith, h)))

at_behind : {A : Type 0} (a b : List A) (x d : A) (n : ℕ) → length a ≡ n → slice_index_or (a ++ x ∷ b) n d ≡ x
at_behind [] b x d n h = rw (← h) refl
at_behind (z ∷ a) b x d zero h = absurd (omega (arith, h))
at_behind (z ∷ a) b x d (suc n) h = at_behind a b x d n (omega (arith, h))

one_longer : {A : Type 0} (a : List A) (x : A) (n : ℕ) → length a ≡ n → length (a ++ x ∷ []) ≡ n + 1
one_longer a x n h = let l = length-append a (x ∷ []) in omega (arith, l, h)

-- these actions are allowed, and lead to this view
pub record Leads (v : View) (acts : List Act) (w : View) : Type 0 where
  pub allowed : ActsAllowed v acts
  pub is : acted_all v acts ≡ w

first_then : (v w x : View) (a : Act) (acts : List Act) → ActAllowed v a → acted v a ≡ w → Leads w acts x → Leads v (a ∷ acts) x
first_then v w x a acts may e l = record { allowed = (may, subst (λ (z : View). ActsAllowed z acts) (sym e) l.allowed); is = ap (λ (z : View). acted_all z acts) e ∙ l.is }

pub both : (v w x : View) (a b : List Act) → Leads v a w → Leads w b x → Leads v (a ++ b) x
both v w x a b l m = record {
  allowed = allowed_append v a b l.allowed (subst (λ (z : View). ActsAllowed z b) (sym l.is) m.allowed);
  is = acted_append v a b ∙ ap (λ (z : View). acted_all z b) l.is ∙ m.is;
}

end_allowed : (end : Option Cause) (v : View) (n : ℕ) → IsOutOpen (out_at v n) → ActAllowed v (end_act end n)
end_allowed None v n h = h
end_allowed (Some c) v n h = h

end_acted : (end : Option Cause) (v : View) (n : ℕ) → acted v (end_act end n) ≡ with_out v n outlet.Closed
end_acted None v n = refl
end_acted (Some c) v n = refl

-- the outputs from number n on
record OutsEnd (end : Option Cause) (ins : List InView) (os pre : List OutView) (ys : List OutSight) (acts : List Act) : Type 0 where
  pub behind : List OutView
  pub leads : Leads (record { ins = ins; outs = os }) acts (record { ins = ins; outs = pre ++ behind })
  pub sees : SeesOuts behind (map closed_out ys)

outs_end : (end : Option Cause) (ins : List InView) (pre vs os : List OutView) (ys : List OutSight) (n : ℕ) → length pre ≡ n → os ≡ pre ++ vs → SeesOuts vs ys → OutsEnd end ins os pre ys (outs_ended end n ys)
outs_end end ins pre [] os [] n len e h = record { behind = []; leads = record { allowed = tt; is = ap (λ z. record { ins = ins; outs = z }) e }; sees = tt }
outs_end end ins pre (v ∷ vs) os (y ∷ ys) n len e h =
    by y.closed refl (λ z os' e'. outs_end end ins (pre ++ z ∷ []) vs os' ys (n + 1) (one_longer pre z n len) e' h.1)
  where
    by : (b : Bool) → y.closed ≡ b → ((z : OutView) (os' : List OutView) → os' ≡ (pre ++ z ∷ []) ++ vs → OutsEnd end ins os' (pre ++ z ∷ []) ys (outs_ended end (n + 1) ys))
        → OutsEnd end ins os pre (y ∷ ys) (if b then outs_ended end (n + 1) ys else end_act end n ∷ outs_ended end (n + 1) ys)
    by true closed next =
        let r = next v os (e ∙ sym (append_assoc pre (v ∷ []) vs)) in
        record {
          behind = v ∷ r.behind;
          leads = record { allowed = r.leads.allowed; is = r.leads.is ∙ ap (λ z. record { ins = ins; outs = z }) (append_assoc pre (v ∷ []) r.behind) };
          sees = (shut_out v y h.0 closed, r.sees);
        }
    by false open' next =
        let set : slice_set os n outlet.Closed ≡ pre ++ outlet.Closed ∷ vs = ap (λ z. slice_set z n outlet.Closed) e ∙ set_behind pre vs v outlet.Closed n len in
        let at : slice_index_or os n outlet.Closed ≡ v = ap (λ z. slice_index_or z n outlet.Closed) e ∙ at_behind pre vs v outlet.Closed n len in
        let r = next outlet.Closed (slice_set os n outlet.Closed) (set ∙ sym (append_assoc pre (outlet.Closed ∷ []) vs)) in
        let here : View = record { ins = ins; outs = os } in
        let l = first_then here (with_out here n outlet.Closed) _ (end_act end n) (outs_ended end (n + 1) ys) (end_allowed end here n (subst IsOutOpen (sym at) (open_out v y h.0 open'))) (end_acted end here n) r.leads in
        record {
          behind = outlet.Closed ∷ r.behind;
          leads = record { allowed = l.allowed; is = l.is ∙ ap (λ z. record { ins = ins; outs = z }) (append_assoc pre (outlet.Closed ∷ []) r.behind) };
          sees = (refl, r.sees);
        }
outs_end end ins pre [] os (y ∷ ys) n len e h = absurd h
outs_end end ins pre (v ∷ vs) os [] n len e h = absurd h

-- the inputs from number n on
record InsEnd (outs : List OutView) (is pre : List InView) (xs : List InSight) (acts : List Act) : Type 0 where
  pub behind : List InView
  pub leads : Leads (record { ins = is; outs = outs }) acts (record { ins = pre ++ behind; outs = outs })
  pub sees : SeesIns behind (map closed_in xs)

ins_end : (outs : List OutView) (pre vs is : List InView) (xs : List InSight) (n : ℕ) → length pre ≡ n → is ≡ pre ++ vs → SeesIns vs xs → InsEnd outs is pre xs (ins_cancelled n xs)
ins_end outs pre [] is [] n len e h = record { behind = []; leads = record { allowed = tt; is = ap (λ z. record { ins = z; outs = outs }) e }; sees = tt }
ins_end outs pre (v ∷ vs) is (x ∷ xs) n len e h =
    by x.closed refl (λ z is' e'. ins_end outs (pre ++ z ∷ []) vs is' xs (n + 1) (one_longer pre z n len) e' h.1)
  where
    by : (b : Bool) → x.closed ≡ b → ((z : InView) (is' : List InView) → is' ≡ (pre ++ z ∷ []) ++ vs → InsEnd outs is' (pre ++ z ∷ []) xs (ins_cancelled (n + 1) xs))
        → InsEnd outs is pre (x ∷ xs) (if b then ins_cancelled (n + 1) xs else act.Cancel n ∷ ins_cancelled (n + 1) xs)
    by true closed next =
        let r = next v is (e ∙ sym (append_assoc pre (v ∷ []) vs)) in
        record {
          behind = v ∷ r.behind;
          leads = record { allowed = r.leads.allowed; is = r.leads.is ∙ ap (λ z. record { ins = z; outs = outs }) (append_assoc pre (v ∷ []) r.behind) };
          sees = (shut_in v x h.0 closed, r.sees);
        }
    by false open' next =
        let set : slice_set is n Cancelled ≡ pre ++ Cancelled ∷ vs = ap (λ z. slice_set z n Cancelled) e ∙ set_behind pre vs v Cancelled n len in
        let at : slice_index_or is n Cancelled ≡ v = ap (λ z. slice_index_or z n Cancelled) e ∙ at_behind pre vs v Cancelled n len in
        let r = next Cancelled (slice_set is n Cancelled) (set ∙ sym (append_assoc pre (Cancelled ∷ []) vs)) in
        let here : View = record { ins = is; outs = outs } in
        let l = first_then here (with_in here n Cancelled) _ (act.Cancel n) (ins_cancelled (n + 1) xs) (subst IsInOpen (sym at) (open_in v x h.0 open')) refl r.leads in
        record {
          behind = Cancelled ∷ r.behind;
          leads = record { allowed = l.allowed; is = l.is ∙ ap (λ z. record { ins = z; outs = outs }) (append_assoc pre (Cancelled ∷ []) r.behind) };
          sees = (refl, r.sees);
        }
ins_end outs pre [] is (x ∷ xs) n len e h = absurd h
ins_end outs pre (v ∷ vs) is [] n len e h = absurd h

-- actions that lead to a view which is seen so
pub record Goes (v : View) (acts : List Act) (s : Seen) : Type 0 where
  pub to : View
  pub leads : Leads v acts to
  pub sees : Sees to s

pub all_end : (end : Option Cause) (v : View) (s : Seen) → Sees v s → Goes v (ports_ended end s) (all_closed s)
all_end end v s h =
    let o = outs_end end v.ins [] v.outs v.outs s.outs 0 refl refl h.outs in
    let i = ins_end o.behind [] v.ins v.ins s.ins 0 refl refl h.ins in
    record {
      to = record { ins = i.behind; outs = o.behind };
      leads = both v (record { ins = v.ins; outs = o.behind }) _ (outs_ended end 0 s.outs) (ins_cancelled 0 s.ins) o.leads i.leads;
      sees = record { ins = i.sees; outs = o.sees };
    }

-- ---- one ask

none_goes : (v : View) (s : Seen) → Sees v s → Goes v [] s
none_goes v s h = record { to = v; leads = record { allowed = tt; is = refl }; sees = h }

one_goes : (v : View) (a : Act) (s : Seen) → ActAllowed v a → Sees (acted v a) s → Goes v (a ∷ []) s
one_goes v a s may h = record { to = acted v a; leads = record { allowed = (may, tt); is = refl }; sees = h }

pull_goes : (v : View) (s : Seen) (i : ℕ) → Sees v s → MayPull s.ins i → Goes v (act.Pull i ∷ []) (sees_behind s (Pull i))
pull_goes v s i h m =
    let same = at_in s.ins i m.is m.at in
    let not_begun : (input_at s i).asked ≡ false = ap (λ (x : InSight). x.asked) same ∙ m.not_begun in
    let unclosed : (input_at s i).closed ≡ false = ap (λ (x : InSight). x.closed) same ∙ m.unclosed in
    one_goes v (act.Pull i) _ (idle (in_at v i) (input_at s i) (input v s i h) not_begun unclosed) (input_set v s i Pulled _ h (refl, unclosed))

push_goes : (v : View) (s : Seen) (j : ℕ) (e : Tree) → Sees v s → MayPush s.outs j → Goes v (act.Push j e ∷ []) (sees_behind s (Push j e))
push_goes v s j e h m =
    let same = at_out s.outs j m.is m.at in
    let asked : (output_at s j).asked ≡ true = ap (λ (y : OutSight). y.asked) same ∙ m.asked in
    let unclosed : (output_at s j).closed ≡ false = ap (λ (y : OutSight). y.closed) same ∙ m.unclosed in
    one_goes v (act.Push j e) _ (available (out_at v j) (output_at s j) (output v s j h) asked unclosed) (output_set v s j outlet.Unpulled _ h (refl, unclosed))

complete_goes : (v : View) (s : Seen) (j : ℕ) → Sees v s → (b : Bool) → (output_at s j).closed ≡ b → Goes v (if b then [] else act.Complete j ∷ []) (sees_behind s (Complete j))
complete_goes v s j h true e = none_goes v _ (record { ins = h.ins; outs = keep_sees_out v.outs s.outs j _ h.outs (shut_out (out_at v j) (output_at s j) (output v s j h) e) })
complete_goes v s j h false e = one_goes v (act.Complete j) _ (open_out (out_at v j) (output_at s j) (output v s j h) e) (output_set v s j outlet.Closed _ h refl)

cancel_goes : (v : View) (s : Seen) (i : ℕ) → Sees v s → (b : Bool) → (input_at s i).closed ≡ b → Goes v (if b then [] else act.Cancel i ∷ []) (sees_behind s (Cancel i))
cancel_goes v s i h true e = none_goes v _ (record { ins = keep_sees_in v.ins s.ins i _ h.ins (shut_in (in_at v i) (input_at s i) (input v s i h) e); outs = h.outs })
cancel_goes v s i h false e = one_goes v (act.Cancel i) _ (open_in (in_at v i) (input_at s i) (input v s i h) e) (input_set v s i Cancelled _ h refl)

ask_goes : (types : List Sort) (o : Occasion) (v : View) (s : Seen) (a : Ask) → Sees v s → forbidden types o s a ≡ None → Goes v (acts_of o s a) (sees_behind s a)
ask_goes types o v s (Pull i) h f = pull_goes v s i h (may_pull s.ins i (slice_get s.ins i) refl f)
ask_goes types o v s (Push j e) h f = push_goes v s j e h (may_push s.outs j (slice_get s.outs j) (slice_get types j) e refl f)
ask_goes types o v s (Complete j) h f = complete_goes v s j h (output_at s j).closed refl
ask_goes types o v s (Cancel i) h f = cancel_goes v s i h (input_at s i).closed refl
ask_goes types o v s Finish h f = all_end None v s h
ask_goes types o v s (Fail n) h f = all_end (Some (own_cause o n)) v s h
ask_goes types o v s Pass h f = all_end o.failure v s h

-- ---- all asks

pub carried_goes : (types : List Sort) (o : Occasion) (v : View) (s : Seen) (asks : List Ask) → Sees v s → Goes v (carried_out types o s asks).acts (carried_out types o s asks).sight
carried_goes types o v s [] h = none_goes v s h
carried_goes types o v s (a ∷ more) h = by (forbidden types o s a) refl (λ w k. carried_goes types o w (sees_behind s a) more k)
  where
    by : (x : Option ℕ) → forbidden types o s a ≡ x → ((w : View) → Sees w (sees_behind s a) → Goes w (carried_out types o (sees_behind s a) more).acts (carried_out types o (sees_behind s a) more).sight)
        → Goes v (by_code x (preceded_by (acts_of o s a) (carried_out types o (sees_behind s a) more)) (fails_by o s)).acts (by_code x (preceded_by (acts_of o s a) (carried_out types o (sees_behind s a) more)) (fails_by o s)).sight
    by None e next =
        let one = ask_goes types o v s a h e in
        let r = next one.to one.sees in
        record { to = r.to; leads = both v one.to r.to (acts_of o s a) _ one.leads r.leads; sees = r.sees }
    by (Some code) e next = all_end (Some (illegal_cause o code)) v s h
