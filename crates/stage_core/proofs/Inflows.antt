-- The histories of several inputs: what comes in parts, and that they stay as the stage knows of its ports from call to call.
use Rattle.std.specs.Prelude.{◌==◌, if◌then◌else◌, slice_get, slice_index_or}
use Rattle.std.proofs.Common.{◌≡◌, ℕ, zero, suc, ◌+◌, Bool, true, false, List, [], ◌∷◌, ◌++◌, length, refl, sym, ap, ◌∙◌, arith, append_assoc, append-nil, Some}
use Rattle.std.proofs.lemmas.Bool.Decides.{nat_tests}
use Rattle.std.proofs.lemmas.List.{length-set}
use Rattle.elem_core.specs.Tree.{Tree}
use Rattle.elem_core.specs.declared.item.Item.{Item}
use Rattle.elem_core.specs.declared.item.Item.TheVariants as item
use Rattle.stream_model.specs.Outlook.{End, unended, ended, failed}
use Rattle.stream_model.specs.FanIn.{Inflow}
use Rattle.port_core.specs.declared.act.Act.{Act}
use Rattle.port_core.specs.declared.act.Act.TheVariants.{Pull, Push, Complete, FailOut, Cancel}
use Rattle.port_core.specs.declared.view.InView.{InView}
use Rattle.port_core.specs.declared.view.InView.TheVariants.{Pulled, Cancelled}
use Rattle.port_core.specs.View.{View, in_at, out_at, with_in, ActsAllowed, acted, acted_all}
use Rattle.port_core.specs.Call.{Call, starts, pulls, arrives, cancels, AllIdle, MayCome, came, CallAllowed, seen, brought_to, given_on}
use Rattle.stage_core.specs.Held.{told}
use Rattle.stage_core.specs.Law.{TookAs, GaveAs}
use Rattle.stage_core.specs.Inflows.{nothing_came, flow_of, joined_at, joined, joined_all, coming, untouched, PortsLaw}
use Rattle.stage_core.proofs.Told.{told-append}
use Rattle.stage_core.proofs.Ports.{SetAt, is_set, is_same, set_at, in_unended, took_acted, may_open, came_at, gave_seen, gave_acted}

-- ---- what comes in parts

joined_at-assoc : (e d : End) (l k : List Tree) (r : Inflow) → joined (joined_at e l (record { list = k; end = d })) r ≡ joined_at e l (joined_at d k r)
joined_at-assoc unended unended l k r = ap (λ (x : List Tree). joined_at unended [] (record { list = x; end = r.end })) (append_assoc l k r.list)
joined_at-assoc unended ended l k r = refl
joined_at-assoc unended (failed c) l k r = refl
joined_at-assoc ended d l k r = refl
joined_at-assoc (failed c) d l k r = refl

joined-assoc : (f a b : Inflow) → joined (joined f a) b ≡ joined f (joined a b)
joined-assoc f a b = joined_at-assoc f.end a.end f.list a.list b

pub joined_all-assoc : (n : ℕ) (fs : List Inflow) (a b : ℕ → Inflow) → joined_all n (joined_all n fs a) b ≡ joined_all n fs (λ i. joined (a i) (b i))
joined_all-assoc n [] a b = refl
joined_all-assoc n (f ∷ fs) a b =
    let first : joined (joined f (a n)) (b n) ≡ joined f (joined (a n) (b n)) = joined-assoc f (a n) (b n) in
    let others : joined_all (n + 1) (joined_all (n + 1) fs a) b ≡ joined_all (n + 1) fs (λ i. joined (a i) (b i)) = joined_all-assoc (n + 1) fs a b in
    ap (λ x. x ∷ joined_all (n + 1) (joined_all (n + 1) fs a) b) first ∙ ap (λ xs. joined f (joined (a n) (b n)) ∷ xs) others

joined_at-nothing_came : (e : End) (l : List Tree) → ◌≡◌ {A = Inflow} (joined_at e l nothing_came) (record { list = l; end = e })
joined_at-nothing_came unended l = ap (λ (x : List Tree). record { list = x; end = unended }) (append-nil l)
joined_at-nothing_came ended l = refl
joined_at-nothing_came (failed c) l = refl

pub joined-nothing_came : (f : Inflow) → joined f nothing_came ≡ f
joined-nothing_came f = joined_at-nothing_came f.end f.list

pub joined_all-nothing_came : (n : ℕ) (fs : List Inflow) → joined_all n fs (λ _. nothing_came) ≡ fs
joined_all-nothing_came n [] = refl
joined_all-nothing_came n (f ∷ fs) = ap (λ x. x ∷ joined_all (n + 1) fs (λ _. nothing_came)) (joined-nothing_came f) ∙ ap (λ xs. f ∷ xs) (joined_all-nothing_came (n + 1) fs)

pub length-joined_all : (n : ℕ) (fs : List Inflow) (more : ℕ → Inflow) → length (joined_all n fs more) ≡ length fs
length-joined_all n [] more = refl
length-joined_all n (f ∷ fs) more = ap suc (length-joined_all (n + 1) fs more)

-- an input that is there, once more has come
pub record Before (n : ℕ) (fs : List Inflow) (more : ℕ → Inflow) (i : ℕ) (now : Inflow) : Type 0 where
  pub was : Inflow
  pub at : slice_get fs i ≡ Some was
  pub is : now ≡ joined was (more (n + i))

pub before : (n : ℕ) (fs : List Inflow) (more : ℕ → Inflow) (i : ℕ) (now : Inflow) → slice_get (joined_all n fs more) i ≡ Some now → Before n fs more i now
before n [] more i now h = cc
before n (f ∷ fs) more zero now h =
    let e : n + 0 ≡ n = omega arith in
    let g : joined f (more n) ≡ now = cc in
    record { was = f; at = refl; is = rw e (sym g) }
before n (f ∷ fs) more (suc i) now h =
    let r = before (n + 1) fs more i now h in
    let e : n + suc i ≡ n + 1 + i = omega arith in
    record { was = r.was; at = r.at; is = rw e r.is }

-- ---- from call to call

same_number : (i k : ℕ) → (i == k) ≡ true → i ≡ k
same_number i k h = grind (arith, nat_tests)

other_number : (i k : ℕ) → (i == k) ≡ false → i ≡ k → ⊥
other_number i k h e = grind (arith, nat_tests)

-- by whether it is this input
pub data Which (i k : ℕ) (b : Bool) : Type 0 where
  this_one : b ≡ true → i ≡ k → Which i k b
  another : b ≡ false → (i ≡ k → ⊥) → Which i k b

pub which : (i k : ℕ) → Which i k (i == k)
which i k = by_test (i == k) refl
  where
    by_test : (b : Bool) → (i == k) ≡ b → Which i k b
    by_test true h = this_one refl (same_number i k h)
    by_test false h = another refl (other_number i k h)

told_item : (b : Item) → told (flow_of b).list (flow_of b).end ≡ b ∷ []
told_item (item.Elem t) = refl
told_item item.Ended = refl
told_item (item.Failed c) = refl

-- an input that has not ended tells what came, and then the item
told_more : (f : Inflow) (r : Inflow) → f.end ≡ unended → told (joined f r).list (joined f r).end ≡ told f.list f.end ++ told r.list r.end
told_more f r u = rw u (told-append f.list r.list r.end)

quiet_told : (t : List Item) (f : Inflow) → t ≡ told f.list f.end → t ++ [] ≡ told (joined f nothing_came).list (joined f nothing_came).end
quiet_told t f is = append-nil t ∙ is ∙ ap (λ (g : Inflow). told g.list g.end) (sym (joined-nothing_came f))

told_by : (i k : ℕ) (b : Item) (t : List Item) (f : Inflow) (m : Bool) → Which i k m → (i ≡ k → f.end ≡ unended) → t ≡ told f.list f.end
    → t ++ (if m then b ∷ [] else []) ≡ told (joined f (if m then flow_of b else nothing_came)).list (joined f (if m then flow_of b else nothing_came)).end
told_by i k b t f true (this_one h e) u is = ap (λ (x : List Item). x ++ b ∷ []) is ∙ ap (λ (x : List Item). told f.list f.end ++ x) (sym (told_item b)) ∙ sym (told_more f (flow_of b) (u e))
told_by i k b t f false (another h e) u is = quiet_told t f is
told_by i k b t f true (another h e) u is = cc
told_by i k b t f false (this_one h e) u is = cc

pub told_coming : (call : Call) (v : View) (k : ℕ) (t : List Item) (f : Inflow) → CallAllowed call v → TookAs (in_at v k) f.end → t ≡ told f.list f.end
    → t ++ brought_to k call ≡ told (joined f (coming call k)).list (joined f (coming call k)).end
told_coming starts v k t f may known is = quiet_told t f is
told_coming (pulls j) v k t f may known is = quiet_told t f is
told_coming (cancels j) v k t f may known is = quiet_told t f is
told_coming (arrives i b) v k t f may known is = told_by i k b t f (i == k) (which i k) (λ e. in_unended (in_at v k) f.end (let open_here = may_open b (in_at v i) may in rw e at open_here) known) is

known_item : (b : Item) (f : Inflow) → f.end ≡ unended → TookAs (came b) (joined f (flow_of b)).end
known_item b f u = rw u (of_item b)
  where
    of_item : (b : Item) → TookAs (came b) (flow_of b).end
    of_item (item.Elem t) = refl
    of_item item.Ended = tt
    of_item (item.Failed c) = tt

quiet_as : (x : InView) (f : Inflow) → TookAs x f.end → TookAs x (joined f nothing_came).end
quiet_as x f known = rw joined-nothing_came known

-- another input stays as it is
in_other : (v : View) (i k : ℕ) (x : InView) → (i ≡ k → ⊥) → in_at (with_in v i x) k ≡ in_at v k
in_other v i k x n = by_place (set_at Cancelled v.ins i x k)
  where
    by_place : SetAt Cancelled v.ins i x k → in_at (with_in v i x) k ≡ in_at v k
    by_place (is_set same h) = absurd (n same)
    by_place (is_same h f) = h

as_by : (v : View) (i k : ℕ) (b : Item) (f : Inflow) (m : Bool) → Which i k m → MayCome b (in_at v i) → TookAs (in_at v k) f.end → TookAs (in_at (with_in v i (came b)) k) (joined f (if m then flow_of b else nothing_came)).end
as_by v i k b f true (this_one h e) may known =
    let here : in_at (with_in v i (came b)) k ≡ came b = ap (λ n. in_at (with_in v i (came b)) n) (sym e) ∙ came_at b v i may in
    let u : f.end ≡ unended = in_unended (in_at v k) f.end (let open_here = may_open b (in_at v i) may in rw e at open_here) known in
    rw here (known_item b f u)
as_by v i k b f false (another h e) may known = rw (in_other v i k (came b) e) (quiet_as (in_at v k) f known)
as_by v i k b f true (another h e) may known = cc
as_by v i k b f false (this_one h e) may known = cc

pub as_coming : (call : Call) (v : View) (k : ℕ) (f : Inflow) → CallAllowed call v → TookAs (in_at v k) f.end → TookAs (in_at (seen call v) k) (joined f (coming call k)).end
as_coming starts v k f may known = quiet_as (in_at v k) f known
as_coming (pulls j) v k f may known = quiet_as (in_at v k) f known
as_coming (cancels j) v k f may known = quiet_as (in_at v k) f known
as_coming (arrives i b) v k f may known = as_by v i k b f (i == k) (which i k) may known

-- the ports stay there
ports_acted : (acts : List Act) (v : View) → length (acted_all v acts).ins ≡ length v.ins
ports_acted [] v = refl
ports_acted (Pull i ∷ acts) v = ports_acted acts (acted v (Pull i)) ∙ length-set v.ins i Pulled
ports_acted (Push j x ∷ acts) v = ports_acted acts (acted v (Push j x))
ports_acted (Complete j ∷ acts) v = ports_acted acts (acted v (Complete j))
ports_acted (FailOut j c ∷ acts) v = ports_acted acts (acted v (FailOut j c))
ports_acted (Cancel i ∷ acts) v = ports_acted acts (acted v (Cancel i)) ∙ length-set v.ins i Cancelled

ports_seen : (call : Call) (v : View) → length (seen call v).ins ≡ length v.ins
ports_seen starts v = refl
ports_seen (pulls j) v = refl
ports_seen (arrives i b) v = length-set v.ins i (came b)
ports_seen (cancels j) v = refl

-- what was pushed, and what the kind keeps then
pub record Stepped (Keeps : List Inflow → List Tree → End → Type 0) (ins : List Inflow) (g : List Tree) (out : List Item) : Type 0 where
  pub list : List Tree
  pub end : End
  pub out_is : out ≡ told list end
  pub keeps : Keeps ins (g ++ list) end

-- the law of several inputs, from before a call to once its actions are done
pub ports_law : (K L : List Inflow → List Tree → End → Type 0) (call : Call) (v : View) (took : ℕ → List Item) (gave : List Item) (acts : List Act) → CallAllowed call v → ActsAllowed (seen call v) acts → (law : PortsLaw K v took gave)
    → law.out_end ≡ unended → Stepped L (joined_all 0 law.ins (coming call)) law.out_list (given_on 0 acts) → PortsLaw L (acted_all (seen call v) acts) (λ i. took i ++ brought_to i call) (gave ++ given_on 0 acts)
ports_law K L call v took gave acts may allowed law u s = record {
  ins = joined_all 0 law.ins (coming call);
  out_list = law.out_list ++ s.list;
  out_end = s.end;
  ports = length-joined_all 0 law.ins (coming call) ∙ law.ports ∙ sym (ports_acted acts (seen call v) ∙ ports_seen call v);
  took_is = λ i now h.
      let r = before 0 law.ins (coming call) i now h in
      let e : 0 + i ≡ i = omega arith in
      let is : now ≡ joined r.was (coming call i) = rw e at r.is in
      told_coming call v i (took i) r.was may (law.took_as i r.was r.at) (law.took_is i r.was r.at) ∙ ap (λ (g : Inflow). told g.list g.end) (sym is);
  took_as = λ i now h.
      let r = before 0 law.ins (coming call) i now h in
      let e : 0 + i ≡ i = omega arith in
      let is : now ≡ joined r.was (coming call i) = rw e at r.is in
      took_acted acts (seen call v) i now.end allowed (rw is (as_coming call v i r.was may (law.took_as i r.was r.at)));
  gave_is =
      ap (λ (x : List Item). x ++ given_on 0 acts) (law.gave_is ∙ ap (λ (f : End). told law.out_list f) u)
      ∙ ap (λ (x : List Item). told law.out_list unended ++ x) s.out_is ∙ sym (told-append law.out_list s.list s.end);
  gave_as = gave_acted 0 acts (seen call v) s.list s.end s.out_is allowed (gave_seen call v 0 unended may (let stood = law.gave_as in rw u at stood));
  keeps = s.keeps;
}

-- ---- before anything came

pub untouched_at : (n i : ℕ) (f : Inflow) → slice_get (untouched n) i ≡ Some f → f ≡ nothing_came
untouched_at zero i f h = cc
untouched_at (suc n) zero f h = cc
untouched_at (suc n) (suc i) f h = untouched_at n i f h

pub length-untouched : (n : ℕ) → length (untouched n) ≡ n
length-untouched zero = refl
length-untouched (suc n) = ap suc (length-untouched n)

idle_as : (xs : List InView) (i : ℕ) → AllIdle xs → TookAs (slice_index_or xs i Cancelled) unended
idle_as [] i h = refl
idle_as (x ∷ xs) zero h = rw h.0 refl
idle_as (x ∷ xs) (suc i) h = idle_as xs i h.1

pub new_ports : (K : List Inflow → List Tree → End → Type 0) (v : View) → AllIdle v.ins → GaveAs (out_at v 0) unended → K (untouched (length v.ins)) [] unended → PortsLaw K v (λ _. []) []
new_ports K v idle open_out k = record {
  ins = untouched (length v.ins);
  out_list = [];
  out_end = unended;
  ports = length-untouched (length v.ins);
  took_is = λ i f h. let e = untouched_at (length v.ins) i f h in rw e refl;
  took_as = λ i f h. let e = untouched_at (length v.ins) i f h in rw e (idle_as v.ins i idle);
  gave_is = refl;
  gave_as = open_out;
  keeps = k;
}
