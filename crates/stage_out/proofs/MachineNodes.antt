-- The laws of the outputs over histories in order, from call to call.
use Rattle.std.specs.Prelude.{slice_index_or}
use Rattle.std.proofs.Common.{◌≡◌, ℕ, zero, suc, ◌+◌, ◌≤◌, ◌<◌, true, List, [], ◌∷◌, ◌++◌, length, refl, sym, ap, ◌∙◌, subst, arith}
use Rattle.std.proofs.lemmas.List.{length-map}
use Rattle.elem_core.specs.Tree.{Tree}
use Rattle.elem_core.specs.declared.item.Item.{Item}
use Rattle.elem_core.specs.declared.why.Decider.{Decider}
use Rattle.port_core.specs.declared.act.Act.{Act}
use Rattle.port_core.specs.declared.view.InView.{InView}
use Rattle.port_core.specs.declared.view.InView.TheVariants.{Cancelled}
use Rattle.port_core.specs.declared.view.OutView.{OutView}
use Rattle.port_core.specs.declared.view.OutView.TheVariants.{Closed}
use Rattle.port_core.specs.Asking.{PullsStand}
use Rattle.port_core.specs.View.{View, in_at, out_at, ActsAllowed, acted_all}
use Rattle.port_core.specs.Call.{Call, starts, AllIdle, AllUnpulled, CallAllowed, seen, Obeys, brought_to, given_on}
use Rattle.stream_model.specs.declared.kind.Kind.{Kind}
use Rattle.stream_model.specs.Graph.{Graph}
use Rattle.stream_model.specs.Linear.{Book, Stage}
use Rattle.stream_model.specs.Machine.{Stands}
use Rattle.stream_model.specs.Node.{World, head_of, node_outlook}
use Rattle.stream_model.specs.Outlook.{Outlook, End, unended, ended, failed, Agrees}
use Rattle.stage_core.specs.Handling.{Starts, Handles}
use Rattle.stage_core.specs.Histories.{given_all, brought_by, AllEmpty}
use Rattle.stage_core.specs.Held.{told, Held}
use Rattle.stage_core.specs.Law.{TookAs, GaveAs, Law}
use Rattle.stage_core.specs.Outs.{Outlet, OutsLaw, owe}
use Rattle.stage_core.proofs.Calls.{new_law}
use Rattle.stage_core.proofs.Whole.{stage_stands}
use Rattle.stage_core.proofs.OutTurns.{outs_call}
use Rattle.stage_out.specs.declared.machines.OutMachines.{OutMachines}
use Rattle.stage_out.specs.declared.machines.OutMachines.TheVariants.{Copies, Deals}
use Rattle.stage_core.specs.OpenOuts.{want_view}
use Rattle.stage_out.specs.CopyStates.{part_by}
use Rattle.stage_out.specs.CopyStates as copy
use Rattle.stage_out.specs.PartitionStates.{then_of}
use Rattle.stage_out.specs.PartitionStates as part
use Rattle.stage_out.specs.Machines.{is_live, port_state, Turned, outlets, owed, EachStarts, IsNew, EachAgrees, Begins, IsAlike}
use Rattle.stage_out.specs.MachineNodes.{MachinesFresh, MachinesLaw, GaveAgrees}
use Rattle.stage_out.proofs.OutMachines.{turns_of, owe_copies, owe_deals, length-owed, length-dues}
use Rattle.stage_out.proofs.Rests.{told_lists}
use Rattle.stage_core.proofs.Histories.{brought_at, length-brought, given_at, length-given_all}
use Rattle.stage_out.proofs.OutRests.{called_is_live, length-copiers, length-dealers}

-- ---- the laws of the outputs

outs_as : (n : ℕ) (os : List (Outlet Stage)) (v : View) (took : List Item) (g h : ℕ → List Item) → ((j : ℕ) → n ≤ j → j < n + length os → h j ≡ g j) → OutsLaw n os v took g → OutsLaw n os v took h
outs_as n [] v took g h e law = tt
outs_as n (o ∷ os) v took g h e law =
    let here : h n ≡ g n = e n (omega arith) (omega arith) in
    (rw here law.0, outs_as (n + 1) os v took g h (λ j l k. e j (omega (arith, l)) (omega (arith, k))) law.1)

length-owe : (os : List (Outlet Stage)) (hs : List (Held Stage)) → length (owe os hs) ≡ length os
length-owe [] hs = refl
length-owe (o ∷ os) [] = refl
length-owe (o ∷ os) (h ∷ hs) = ap suc (length-owe os hs)

brought_one : (c : Call) (h : List Item) → brought_by c (h ∷ []) ≡ (h ++ brought_to 0 c) ∷ []
brought_one c h = one_of (brought_by c (h ∷ [])) (length-brought c (h ∷ [])) ∙ ap (λ (x : List Item). x ∷ []) (brought_at c (h ∷ []) 0 (omega arith))
  where
    one_of : (hs : List (List Item)) → length hs ≡ 1 → hs ≡ slice_index_or hs 0 [] ∷ []
    one_of [] e = absurd (omega (arith, e))
    one_of (x ∷ []) e = refl
    one_of (x ∷ y ∷ hs) e = absurd (omega (arith, e))

pub length-outlets : (book : Book) (l : OutMachines) → length (outlets book l) ≡ length (owed l)
length-outlets book (Copies l) = length-copiers (part_by l.halves) l.live 0 l.outs ∙ sym (length-owed l.live l.outs)
length-outlets book (Deals l) = length-dealers book l (then_of l.live l) 0 l.outs ∙ sym (length-dues (then_of l.live l) 0 l.outs)

-- a live one has one input, and as many outputs as it owes at
pub record Ports (l : OutMachines) (v : View) : Type 0 where
  pub one : length v.ins ≡ 1
  pub outs : length v.outs ≡ length (owed l)

pub live_ports : (l : OutMachines) (v : View) → is_live l ≡ true → port_state l v → Ports l v
live_ports (Copies l) v h r =
    let s = subst (λ b. copy.port_state_by b l v) h r in
    record { one = ap (λ (w : View). length w.ins) s.0; outs = ap (λ (w : View). length w.outs) s.0 ∙ length-map l.outs want_view ∙ sym (length-owed l.live l.outs) }
live_ports (Deals l) v h r =
    let s = subst (λ b. part.port_state_by b l v) h r in
    record { one = ap (λ (w : View). length w.ins) s.0; outs = ap (λ (w : View). length w.outs) s.0 ∙ length-map l.outs want_view ∙ sym (length-dues (then_of l.live l) 0 l.outs) }

-- what is owed last counts
owe_last : (os : List (Outlet Stage)) (hs ks : List (Held Stage)) → length ks ≡ length hs → owe (owe os hs) ks ≡ owe os ks
owe_last [] hs ks e = refl
owe_last (o ∷ os) [] [] e = refl
owe_last (o ∷ os) [] (k ∷ ks) e = absurd (omega (arith, e))
owe_last (o ∷ os) (h ∷ hs) [] e = absurd (omega (arith, e))
owe_last (o ∷ os) (h ∷ hs) (k ∷ ks) e = rw (owe_last os hs ks (omega (arith, e))) refl

-- it stays of its kind
alike_on : (c : Call) (first old new : OutMachines) (acts : List Act) → Turned c old acts new → IsAlike first old → IsAlike first new
alike_on c (Copies f) (Copies l) (Copies m) acts t a = tt
alike_on c (Deals f) (Deals l) (Deals m) acts t a = tt
alike_on c first (Copies l) (Deals m) acts t a = absurd t
alike_on c first (Deals l) (Copies m) acts t a = absurd t
alike_on c (Copies f) (Deals l) new acts t a = absurd a
alike_on c (Deals f) (Copies l) new acts t a = absurd a

alike_self : (l : OutMachines) → IsAlike l l
alike_self (Copies l) = tt
alike_self (Deals l) = tt

keeps : (c : Call) (first old new : OutMachines) (v : View) (took gave : List (List Item)) (acts : List Act) → is_live old ≡ true → CallAllowed c v → ActsAllowed (seen c v) acts → port_state old v → Turned c old acts new
    → MachinesLaw first old v took gave → MachinesLaw first new (acted_all (seen c v) acts) (brought_by c took) (given_all acts gave)
keeps c first old new v took gave acts live may allowed r turned law =
    let t = turns_of c old new acts live turned in
    let p = live_ports old v live r in
    record {
      alike = alike_on c first old new acts turned law.alike;
      same = λ book. let a = t.outputs in sym (owe_last (outlets book first) (owed old) (owed new) a) ∙ ap (λ os. owe os (owed new)) (law.same book) ∙ t.same book;
      outputs = t.outputs ∙ law.outputs;
      rests = λ is os x. law.rests is os (t.rests is os x);
      taken = law.taken ++ brought_to 0 c;
      took_is = ap (brought_by c) law.took_is ∙ brought_one c law.taken;
      ports = length-given_all acts gave ∙ law.ports ∙ sym t.outputs;
      law = λ book. subst (λ os. OutsLaw 0 os (acted_all (seen c v) acts) (law.taken ++ brought_to 0 c) (λ j. slice_index_or (given_all acts gave) j [])) (t.same book)
          (outs_as 0 (owe (outlets book old) (owed new)) (acted_all (seen c v) acts) (law.taken ++ brought_to 0 c) (λ j. slice_index_or gave j [] ++ given_on j acts) (λ j. slice_index_or (given_all acts gave) j [])
          (λ j l k. let n = length-owe (outlets book old) (owed new) in let m = law.ports in let q = length-outlets book old in given_at acts gave j (omega (arith, k, n, m, q)))
          (outs_call 0 c (outlets book old) (owed new) v law.taken (λ j. slice_index_or gave j []) acts p.one may allowed (t.turns book) (law.law book)));
    }

stands_of : (c : Call) (old new : OutMachines) (acts : List Act) → Turned c old acts new → PullsStand acts
stands_of c (Copies l) (Copies m) acts t = t.stands
stands_of c (Deals l) (Deals m) acts t = t.stands
stands_of c (Copies l) (Deals m) acts t = absurd t
stands_of c (Deals l) (Copies m) acts t = absurd t

pub handled : (c : Call) (old new : OutMachines) (acts : List Act) → Obeys c (port_state old) (port_state new) acts → Turned c old acts new → Handles port_state MachinesLaw c old new acts
handled c old new acts o t = record {
  obeys = o;
  stands = stands_of c old new acts t;
  keeps = λ first v took gave may r law. keeps c first old new v took gave acts (called_is_live old c v may r) may (o.allowed v may r) r t law;
}

-- ---- before anything came

laws_start : (os : List (Outlet Stage)) (n : ℕ) (v : View) → TookAs (in_at v 0) unended → ((i : ℕ) → i < length os → GaveAs (out_at v (n + i)) unended) → EachStarts os → OutsLaw n os v [] (λ j. [])
laws_start [] n v t g s = tt
laws_start (o ∷ os) n v t g s =
    let z : n + 0 ≡ n = omega arith in
    let here : GaveAs (out_at v n) unended = subst (λ m. GaveAs (out_at v m) unended) z (g 0 (omega arith)) in
    (rw s.0.0 (new_law o.machine o.start (in_at v 0) (out_at v n) t here (λ h. s.0.1)), laws_start os (n + 1) v t (λ i l. let a : n + suc i ≡ n + 1 + i = omega arith in subst (λ m. GaveAs (out_at v m) unended) a (g (suc i) (omega (arith, l)))) s.1)

idle_first : (xs : List InView) → length xs ≡ 1 → AllIdle xs → TookAs (slice_index_or xs 0 Cancelled) unended
idle_first [] l a = absurd (omega (arith, l))
idle_first (x ∷ xs) l a = rw a.0 refl

unasked_at : (ys : List OutView) (i : ℕ) → i < length ys → AllUnpulled ys → GaveAs (slice_index_or ys i Closed) unended
unasked_at [] i l a = absurd (omega (arith, l))
unasked_at (y ∷ ys) zero l a = rw a.0 refl
unasked_at (y ∷ ys) (suc i) l a = unasked_at ys i (omega (arith, l)) a.1

empty_at : (hs : List (List Item)) (i : ℕ) → AllEmpty hs → slice_index_or hs i [] ≡ []
empty_at [] i h = refl
empty_at (x ∷ hs) zero h = h.0
empty_at (x ∷ hs) (suc i) h = empty_at hs i h.1

one_empty : (hs : List (List Item)) → AllEmpty hs → length hs ≡ 1 → hs ≡ [] ∷ []
one_empty [] h l = absurd (omega (arith, l))
one_empty (x ∷ []) h l = ap (λ (y : List Item). y ∷ []) h.0
one_empty (x ∷ y ∷ hs) h l = absurd (omega (arith, l))

owe_same : (book : Book) (l : OutMachines) → owe (outlets book l) (owed l) ≡ outlets book l
owe_same book (Copies l) = owe_copies (part_by l.halves) l.live l.live 0 l.outs l.outs refl
owe_same book (Deals l) = owe_deals book l (then_of l.live l) (then_of l.live l) 0 l.outs l.outs refl

fresh_law : (l : OutMachines) (v : View) (took gave : List (List Item)) → CallAllowed starts v → IsNew l → port_state l v → AllEmpty took → AllEmpty gave → length took ≡ length v.ins → length gave ≡ length v.outs → MachinesLaw l l v took gave
fresh_law l v took gave may n r a b m k =
    let p = live_ports l v n.live r in
    record {
      alike = alike_self l;
      same = λ book. owe_same book l;
      outputs = refl;
      rests = λ is os x. x;
      taken = [];
      took_is = one_empty took a (m ∙ p.one);
      ports = k ∙ p.outs;
      law = λ book. outs_as 0 (outlets book l) v [] (λ j. []) (λ j. slice_index_or gave j []) (λ j x y. empty_at gave j b)
          (laws_start (outlets book l) 0 v (idle_first v.ins p.one may.0)
          (λ i x. let z : i ≡ 0 + i = omega arith in let q = length-outlets book l in let o = p.outs in subst (λ m. GaveAs (out_at v m) unended) z (unasked_at v.outs i (omega (arith, x, q, o)) may.1)) (n.starts book));
    }

pub started : (old new : OutMachines) (acts : List Act) → Obeys starts (port_state old) (port_state new) acts → Turned starts old acts new → Starts port_state MachinesLaw MachinesFresh old new acts
started old new acts o t = record {
  obeys = record { allowed = λ v may r. o.allowed v may r.ports; ports = λ v may r. o.ports v may r.ports };
  stands = stands_of starts old new acts t;
  begins = λ v took gave may r a b m k. keeps starts old old new v took gave acts r.fresh.live may (o.allowed v may r.ports) r.ports t (fresh_law old v took gave may r.fresh r.ports a b m k);
}

-- ---- outlooks

told_ends : (l k : List Tree) (e d : End) → told l e ≡ told k d → e ≡ d
told_ends [] [] unended unended h = refl
told_ends [] [] unended ended h = cc
told_ends [] [] unended (failed c) h = cc
told_ends [] [] ended unended h = cc
told_ends [] [] ended ended h = refl
told_ends [] [] ended (failed c) h = cc
told_ends [] [] (failed c) unended h = cc
told_ends [] [] (failed c) ended h = cc
told_ends [] [] (failed c) (failed d) h = let x : c ≡ d = cc in ap (λ y. failed y) x
told_ends [] (t ∷ k) unended d h = cc
told_ends [] (t ∷ k) ended d h = cc
told_ends [] (t ∷ k) (failed c) d h = cc
told_ends (t ∷ l) [] e unended h = cc
told_ends (t ∷ l) [] e ended h = cc
told_ends (t ∷ l) [] e (failed c) h = cc
told_ends (t ∷ l) (u ∷ k) e d h = let rest : told l e ≡ told k d = cc in told_ends l k e d rest

module _ (is : List Outlook) (f : ℕ → List Outlook → Outlook) (v : View) (taken : List Item) (l : List Tree) (e : End) (t : taken ≡ told l e) (a : Agrees (head_of is) l e) where
  agrees_here : (n : ℕ) (o : Outlet Stage) (h : Held Stage) (gave : List Item) → ((is : List Outlook) (l : List Tree) (e : End) (g : List Tree) (h : End) → Agrees (head_of is) l e → Stands o.machine o.start l e g h → Agrees (f n is) g h)
      → Law o.machine o.start h (in_at v 0) (out_at v n) taken gave → GaveAgrees (f n is) gave
  agrees_here n o h gave all law =
      let lists : l ≡ law.in_list = told_lists l law.in_list e law.in_end (sym t ∙ law.took_is) in
      let ends : e ≡ law.in_end = told_ends l law.in_list e law.in_end (sym t ∙ law.took_is) in
      let b : Agrees (head_of is) law.in_list law.in_end = subst (λ k. Agrees (head_of is) k law.in_end) lists (subst (λ d. Agrees (head_of is) l d) ends a) in
      record { list = law.out_list; end = law.out_end; is = law.gave_is; agrees = all is law.in_list law.in_end law.out_list law.out_end b (stage_stands o.machine o.start h (in_at v 0) (out_at v n) taken gave law) }

  agrees_each : (os : List (Outlet Stage)) (hs : List (Held Stage)) (n j : ℕ) (gave : ℕ → List Item) → length hs ≡ length os → EachAgrees n f os → OutsLaw n (owe os hs) v taken gave → j < length os → GaveAgrees (f (n + j) is) (gave (n + j))
  agrees_each [] hs n j gave s x law k = absurd (omega (arith, k))
  agrees_each (o ∷ os) [] n j gave s x law k = absurd (omega (arith, s))
  agrees_each (o ∷ os) (h ∷ hs) n zero gave s x law k = let z : n ≡ n + 0 = omega arith in subst (λ m. GaveAgrees (f m is) (gave m)) z (agrees_here n o h (gave n) x.0 law.0)
  agrees_each (o ∷ os) (h ∷ hs) n (suc j) gave s x law k =
      let z : n + 1 + j ≡ n + suc j = omega arith in
      subst (λ m. GaveAgrees (f m is) (gave m)) z (agrees_each os hs (n + 1) j gave (omega (arith, s)) x.1 law.1 (omega (arith, k)))

pub stage_agrees : (g : Graph) (w : World) (node : ℕ) (kind : Kind) (d : Decider) (is : List Outlook) (first now : OutMachines) (v : View) (took gave : List (List Item)) → Begins node kind first → (law : MachinesLaw first now v took gave)
    → (l : List Tree) (e : End) → law.taken ≡ told l e → Agrees (head_of is) l e → (j : ℕ) → j < length gave → GaveAgrees (node_outlook g w node kind d is j) (slice_index_or gave j [])
stage_agrees g w node kind d is first now v took gave b law l e t a j k =
    let q = length-outlets w.book first in let o = law.outputs in let p = law.ports in
    let z : 0 + j ≡ j = omega arith in
    subst (λ m. GaveAgrees (node_outlook g w node kind d is m) (slice_index_or gave m [])) z
    (agrees_each is (λ j is. node_outlook g w node kind d is j) v law.taken l e t a (outlets w.book first) (owed now) 0 j (λ j. slice_index_or gave j []) (omega (arith, q, o)) (b.agrees g w d)
    (subst (λ os. OutsLaw 0 os v law.taken (λ j. slice_index_or gave j [])) (sym (law.same w.book)) (law.law w.book)) (omega (arith, q, o, p, k)))
