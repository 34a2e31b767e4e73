-- Histories of each port in order: what a call and its actions add to them, and the law over them.
use Rattle.std.specs.Prelude.{◌==◌, if◌then◌else◌, slice_set, slice_index_or}
use Rattle.std.proofs.Common.{◌≡◌, ℕ, zero, suc, ◌<◌, Bool, true, false, List, [], ◌∷◌, ◌++◌, length, refl, sym, ap, ◌∙◌, arith, append_assoc, append-nil}
use Rattle.std.proofs.lemmas.Bool.Decides.{nat_tests}
use Rattle.std.proofs.lemmas.List.{length-set}
use Rattle.std.proofs.lemmas.Option.{slice_get_within}
use Rattle.elem_core.specs.Tree.{Tree}
use Rattle.elem_core.specs.declared.item.Item.{Item}
use Rattle.elem_core.specs.declared.item.Item.TheVariants as item
use Rattle.port_core.specs.declared.act.Act.{Act}
use Rattle.port_core.specs.declared.act.Act.TheVariants.{Pull, Push, Complete, FailOut, Cancel}
use Rattle.port_core.specs.View.{View, acted, acted_all}
use Rattle.port_core.specs.Call as call
use Rattle.port_core.specs.Call.{Call, starts, pulls, arrives, cancels, CallAllowed, seen, brought_to, given_on}
use Rattle.port_core.proofs.Views.{ins_stay}
use Rattle.stream_model.specs.Outlook.{End}
use Rattle.stream_model.specs.FanIn.{Inflow}
use Rattle.stage_core.specs.Histories.{with_item, given_by, given_all, brought_by, AllEmpty}
use Rattle.stage_core.specs.Inflows.{PortsLaw}
use Rattle.stage_core.specs.PortsLaws.{InPortsLaw}
use Rattle.stage_core.proofs.Flags.{other}

-- ---- one more item at a port

at_set : (hs : List (List Item)) (k j : ℕ) (h : List Item) (b : Bool) → (k == j) ≡ b → j < length hs → slice_index_or (slice_set hs k h) j [] ≡ (if b then h else slice_index_or hs j [])
at_set [] k j h b e l = absurd (omega (arith, l))
at_set (x ∷ hs) zero zero h b e l = let t : (0 == 0) ≡ true = refl in let u : b ≡ true = sym e ∙ t in rw u refl
at_set (x ∷ hs) zero (suc j) h b e l = let t : (0 == suc j) ≡ false = other 0 (suc j) (λ y. absurd (omega (arith, y))) in let u : b ≡ false = sym e ∙ t in rw u refl
at_set (x ∷ hs) (suc k) zero h b e l = let t : (suc k == 0) ≡ false = other (suc k) 0 (λ y. absurd (omega (arith, y))) in let u : b ≡ false = sym e ∙ t in rw u refl
at_set (x ∷ hs) (suc k) (suc j) h b e l = at_set hs k j h b (smaller k j b e) (omega (arith, l))
  where
    smaller : (k j : ℕ) (b : Bool) → (suc k == suc j) ≡ b → (k == j) ≡ b
    smaller k j true e = grind (arith, nat_tests)
    smaller k j false e = grind (arith, nat_tests)

-- an item that passed at port k, at port j
one_more : (hs : List (List Item)) (k j : ℕ) (x : Item) → j < length hs → slice_index_or (with_item hs k x) j [] ≡ slice_index_or hs j [] ++ (if k == j then x ∷ [] else [])
one_more hs k j x l = by_test (k == j) refl
  where
    by_test : (b : Bool) → (k == j) ≡ b → slice_index_or (with_item hs k x) j [] ≡ slice_index_or hs j [] ++ (if b then x ∷ [] else [])
    by_test true e =
        let is : k ≡ j = grind (arith, nat_tests) in
        at_set hs k j (slice_index_or hs k [] ++ x ∷ []) true e l ∙ ap (λ n. slice_index_or hs n [] ++ x ∷ []) is
    by_test false e = at_set hs k j (slice_index_or hs k [] ++ x ∷ []) false e l ∙ sym (append-nil (slice_index_or hs j []))

pub brought_at : (c : Call) (hs : List (List Item)) (i : ℕ) → i < length hs → slice_index_or (brought_by c hs) i [] ≡ slice_index_or hs i [] ++ brought_to i c
brought_at starts hs i l = sym (append-nil (slice_index_or hs i []))
brought_at (pulls j) hs i l = sym (append-nil (slice_index_or hs i []))
brought_at (arrives k x) hs i l = one_more hs k i x l
brought_at (cancels j) hs i l = sym (append-nil (slice_index_or hs i []))

pub length-brought : (c : Call) (hs : List (List Item)) → length (brought_by c hs) ≡ length hs
length-brought starts hs = refl
length-brought (pulls j) hs = refl
length-brought (arrives k x) hs = length-set hs k _
length-brought (cancels j) hs = refl

given_step : (a : Act) (hs : List (List Item)) (j : ℕ) → j < length hs → slice_index_or (given_by a hs) j [] ≡ slice_index_or hs j [] ++ call.given_by j a
given_step (Pull i) hs j l = sym (append-nil (slice_index_or hs j []))
given_step (Push k e) hs j l = one_more hs k j (item.Elem e) l
given_step (Complete k) hs j l = one_more hs k j item.Ended l
given_step (FailOut k c) hs j l = one_more hs k j (item.Failed c) l
given_step (Cancel i) hs j l = sym (append-nil (slice_index_or hs j []))

length-given_by : (a : Act) (hs : List (List Item)) → length (given_by a hs) ≡ length hs
length-given_by (Pull i) hs = refl
length-given_by (Push k e) hs = length-set hs k _
length-given_by (Complete k) hs = length-set hs k _
length-given_by (FailOut k c) hs = length-set hs k _
length-given_by (Cancel i) hs = refl

pub given_at : (acts : List Act) (hs : List (List Item)) (j : ℕ) → j < length hs → slice_index_or (given_all acts hs) j [] ≡ slice_index_or hs j [] ++ given_on j acts
given_at [] hs j l = sym (append-nil (slice_index_or hs j []))
given_at (a ∷ acts) hs j l =
    let n = length-given_by a hs in
    given_at acts (given_by a hs) j (omega (arith, n, l)) ∙ ap (λ (h : List Item). h ++ given_on j acts) (given_step a hs j l) ∙ append_assoc (slice_index_or hs j []) (call.given_by j a) (given_on j acts)

pub length-given_all : (acts : List Act) (hs : List (List Item)) → length (given_all acts hs) ≡ length hs
length-given_all [] hs = refl
length-given_all (a ∷ acts) hs = length-given_all acts (given_by a hs) ∙ length-given_by a hs

-- ---- several inputs

ports_as : (K : List Inflow → List Tree → End → Type 0) (v : View) (took now : ℕ → List Item) (gave : List Item) → ((i : ℕ) → i < length v.ins → now i ≡ took i) → PortsLaw K v took gave → PortsLaw K v now gave
ports_as K v took now gave same_at law = record {
  ins = law.ins;
  out_list = law.out_list;
  out_end = law.out_end;
  ports = law.ports;
  took_is = λ i f at. let l = slice_get_within law.ins i f at in let n = law.ports in same_at i (omega (arith, l, n)) ∙ law.took_is i f at;
  took_as = law.took_as;
  gave_is = law.gave_is;
  gave_as = law.gave_as;
  keeps = law.keeps;
}

given_one : (acts : List Act) (h : List Item) → given_all acts (h ∷ []) ≡ (h ++ given_on 0 acts) ∷ []
given_one acts h = one_of (given_all acts (h ∷ [])) (length-given_all acts (h ∷ [])) ∙ ap (λ (x : List Item). x ∷ []) (given_at acts (h ∷ []) 0 (omega arith))
  where
    one_of : (hs : List (List Item)) → length hs ≡ 1 → hs ≡ slice_index_or hs 0 [] ∷ []
    one_of [] e = absurd (omega (arith, e))
    one_of (x ∷ []) e = refl
    one_of (x ∷ y ∷ hs) e = absurd (omega (arith, e))

module _ (K L : List Inflow → List Tree → End → Type 0) (c : Call) (v w : View) (took gave : List (List Item)) (acts : List Act) (ins_same : length w.ins ≡ length v.ins) where
  -- a call that keeps the law by ports keeps it over histories in order
  pub in_node : ((given : List Item) → PortsLaw K v (λ i. slice_index_or took i []) given → PortsLaw L w (λ i. slice_index_or took i [] ++ brought_to i c) (given ++ given_on 0 acts))
      → InPortsLaw K v took gave → InPortsLaw L w (brought_by c took) (given_all acts gave)
  in_node keeps law = record {
    given = law.given ++ given_on 0 acts;
    gave_is = ap (given_all acts) law.gave_is ∙ given_one acts law.given;
    ports = length-brought c took ∙ law.ports ∙ sym ins_same;
    law = ports_as L w (λ i. slice_index_or took i [] ++ brought_to i c) (λ i. slice_index_or (brought_by c took) i []) (law.given ++ given_on 0 acts)
        (λ i l. let n = law.ports in brought_at c took i (omega (arith, l, ins_same, n))) (keeps law.given law.law);
  }

pub ins_seen : (c : Call) (v : View) → length (seen c v).ins ≡ length v.ins
ins_seen starts v = refl
ins_seen (pulls j) v = refl
ins_seen (arrives i b) v = length-set v.ins i _
ins_seen (cancels j) v = refl

pub ins_acted : (acts : List Act) (v : View) → length (acted_all v acts).ins ≡ length v.ins
ins_acted [] v = refl
ins_acted (a ∷ acts) v = ins_acted acts (acted v a) ∙ ins_stay v a

-- ---- before anything came

empty_at : (hs : List (List Item)) (i : ℕ) → AllEmpty hs → slice_index_or hs i [] ≡ []
empty_at [] i h = refl
empty_at (x ∷ hs) zero h = h.0
empty_at (x ∷ hs) (suc i) h = empty_at hs i h.1

one_empty : (hs : List (List Item)) → AllEmpty hs → length hs ≡ 1 → hs ≡ [] ∷ []
one_empty [] h l = absurd (omega (arith, l))
one_empty (x ∷ []) h l = ap (λ (y : List Item). y ∷ []) h.0
one_empty (x ∷ y ∷ hs) h l = absurd (omega (arith, l))

-- the law before anything came, where both histories are empty
pub begun : (K : List Inflow → List Tree → End → Type 0) (v : View) (took gave : List (List Item)) → AllEmpty took → AllEmpty gave → length took ≡ length v.ins → length gave ≡ 1 → PortsLaw K v (λ _. []) [] → InPortsLaw K v took gave
begun K v took gave a b m n law = record {
  given = [];
  gave_is = one_empty gave b n;
  ports = m;
  law = ports_as K v (λ _. []) (λ i. slice_index_or took i []) [] (λ i l. empty_at took i a) law;
}
