-- The stage where a lane goes out: its calls keep its law, and so does what is done with it between them.
use Rattle.std.proofs.Common.{◌≡◌, ◌≤◌, ℕ, zero, suc, List, [], ◌∷◌, ◌++◌, length, refl, sym, ap, subst, ◌∙◌, arith, append_assoc}
use Rattle.std.specs.Prelude.{Option, None, Some, Result, Ok, Err, OnOk, IfNone, IfSome}
use Rattle.std.specs.Option.{option_to_list}
use Rattle.elem_core.specs.declared.item.Item.{Item}
use Rattle.elem_core.specs.declared.item.Item.TheVariants as item
use Rattle.port_core.specs.declared.act.Act.{Act}
use Rattle.port_core.specs.declared.act.Act.TheVariants.{Pull, Cancel}
use Rattle.port_core.specs.declared.view.InView.{InView}
use Rattle.port_core.specs.declared.view.InView.TheVariants.{Idle, Pulled, Finished, Cancelled}
use Rattle.port_core.specs.View.{View, in_at, with_in, IsInOpen}
use Rattle.port_core.specs.Call.{arrives, came, MayCome}
use Rattle.stage_core.specs.Histories.{with_item, AllEmpty}
use Rattle.stage_core.specs.Handling.{Starts, Handles}
use Rattle.stream_model.specs.Outlook.{End, unended}
use Rattle.stage_core.specs.Held.{told}
use Rattle.stage_core.specs.Law.{TookAs}
use Rattle.nodes.specs.OnePort.{input_only, MayDo}
use Rattle.nodes.specs.Leaving.{Leaving, LeavingFresh, leaving_in, LeavingPortState, LeavingLaw}
use Rattle.nodes.proofs.Histories.{end_after, list_after, told_after, took_after}

-- an input that is open had no end
open_end : (y : InView) (e : End) → IsInOpen y → TookAs y e → e ≡ unended
open_end Idle e o g = g
open_end Pulled e o g = g
open_end Finished e o g = absurd o
open_end Cancelled e o g = absurd o

may_open : (i : Item) (y : InView) → MayCome i y → IsInOpen y
may_open (item.Elem t) y h = rw h tt
may_open item.Ended y h = h
may_open (item.Failed c) y h = h

idle_open : (y : InView) → y ≡ Idle → IsInOpen y
idle_open y e = rw e tt

-- ---- what waits lies in two places

abbrev pub placed : ℕ → Option Item → Option Item → List Item → Leaving
placed wire f s gone = record { wire = wire; waits = option_to_list f ++ option_to_list s; gone = gone }

-- the second place is emptied, where the first is empty: nothing waited there either, or what did was the first
pub second_none : (wire : ℕ) (f f' s s' r : Option Item) (gone : List Item) (x : Leaving) → placed wire f s gone ≡ x → f ≡ None → f' ≡ None → r ≡ s → s' ≡ None → IfNone r ((x.waits ≡ []) × (placed wire f' s' gone ≡ x))
second_none wire f f' s s' None gone x is e e' v n = (sym (ap (λ (y : Leaving). y.waits) is) ∙ none, same ∙ is)
  where
    none : option_to_list f ++ option_to_list s ≡ []
    none = rw (e, sym v) refl

    same : placed wire f' s' gone ≡ placed wire f s gone
    same = rw (e, e', sym v, n) refl
second_none wire f f' s s' (Some i) gone x is e e' v n = tt

pub second_some : (wire : ℕ) (f f' s s' r : Option Item) (gone : List Item) (x : Leaving) → placed wire f s gone ≡ x → f ≡ None → f' ≡ None → r ≡ s → s' ≡ None
    → IfSome r (λ i. (x.waits ≡ i ∷ (option_to_list f' ++ option_to_list s')) × (placed wire f' s' gone ≡ record x { waits = option_to_list f' ++ option_to_list s' }))
second_some wire f f' s s' None gone x is e e' v n = tt
second_some wire f f' s s' (Some i) gone x is e e' v n = (sym (ap (λ (y : Leaving). y.waits) is) ∙ was, ap (λ (y : Leaving). record y { waits = option_to_list f' ++ option_to_list s' }) is)
  where
    was : option_to_list f ++ option_to_list s ≡ i ∷ (option_to_list f' ++ option_to_list s')
    was = rw (e, e', sym v, n) refl

-- ---- an item comes

one_more : (waits : List Item) (i : Item) → waits ≡ [] → length (waits ++ i ∷ []) ≤ 1
one_more waits i e = rw e (omega arith)

row_after : (i : Item) (waits : List Item) (y : InView) → MayCome i y → leaving_in waits y → leaving_in (waits ++ i ∷ []) (came i)
row_after (item.Elem t) waits y h r = one_more waits (item.Elem t) (subst (λ (z : InView). leaving_in waits z) h r)
row_after item.Ended waits y h r = tt
row_after (item.Failed c) waits y h r = tt

module _ (i : Item) (x : Leaving) where
  abbrev more : Leaving
  more = record x { waits = x.waits ++ i ∷ [] }

  law_after : (first : Leaving) (y : InView) (took gave : List (List Item)) → MayCome i y → LeavingLaw first x (input_only y) took gave → LeavingLaw first more (input_only (came i)) (with_item took 0 i) gave
  law_after first y took gave h law =
      let open_is : law.end ≡ unended = open_end y law.end (may_open i y h) law.took_as in
      let longer : told law.list unended ++ i ∷ [] ≡ told (list_after i law.list) (end_after i) = told_after i law.list in
      let was : told law.list unended ≡ x.gone ++ x.waits = ap (λ (e : End). told law.list e) (sym open_is) ∙ law.parts in
      record {
        list = list_after i law.list;
        end = end_after i;
        gave_is = law.gave_is;
        took_is = ap (λ (h : List (List Item)). with_item h 0 i) law.took_is ∙ ap (λ (e : End). (told law.list e ++ i ∷ []) ∷ []) open_is ∙ ap (λ (h : List Item). h ∷ []) longer;
        took_as = took_after i;
        parts = sym longer ∙ ap (λ (h : List Item). h ++ i ∷ []) was ∙ append_assoc x.gone x.waits (i ∷ []);
        same = law.same;
      }

  none_left : MayCome i Cancelled → ⊥
  none_left h = no i h
    where
      no : (k : Item) → MayCome k Cancelled → ⊥
      no (item.Elem t) h = cc
      no item.Ended h = h
      no (item.Failed c) h = h

  row_at : (p : ℕ) (y : InView) → MayCome i (in_at (input_only y) p) → leaving_in x.waits y → LeavingPortState more (with_in (input_only y) p (came i))
  row_at zero y h r = (came i, (refl, row_after i x.waits y h r))
  row_at (suc p) y h r = absurd (none_left h)

  law_at : (p : ℕ) (first : Leaving) (y : InView) (took gave : List (List Item)) → MayCome i (in_at (input_only y) p) → LeavingLaw first x (input_only y) took gave → LeavingLaw first more (with_in (input_only y) p (came i)) (with_item took p i) gave
  law_at zero first y took gave h law = law_after first y took gave h law
  law_at (suc p) first y took gave h law = absurd (none_left h)

  got : (p : ℕ) → Handles LeavingPortState LeavingLaw (arrives p i) x more []
  got p = record {
    obeys = record {
      allowed = λ v h r. tt;
      ports = λ v h r. subst (λ (w : View). MayCome i (in_at w p) → LeavingPortState more (with_in w p (came i))) (sym r.1.0) (λ m. row_at p r.0 m r.1.1) h;
    };
    stands = tt;
    keeps = λ first v took gave h r law. subst (λ (w : View). MayCome i (in_at w p) → LeavingLaw first x w took gave → LeavingLaw first more (with_in w p (came i)) (with_item took p i) gave) (sym r.1.0) (λ m l. law_at p first r.0 took gave m l) h law;
  }

pub leaves_got : {T E : Type 0} (r : Result T E) (p : ℕ) (i : Item) (x new : Leaving) (acts : List Act) → new ≡ record x { waits = x.waits ++ i ∷ [] } → acts ≡ [] → OnOk r (Handles LeavingPortState LeavingLaw (arrives p i) x new acts)
leaves_got (Ok y) p i x new acts e f = rw (e, f) (got i x p)
leaves_got (Err y) p i x new acts e f = tt

-- ---- the start

begun : (x : Leaving) (took gave : List (List Item)) → x.waits ≡ [] → x.gone ≡ [] → AllEmpty took → AllEmpty gave → length took ≡ 1 → length gave ≡ 0 → LeavingLaw x x (input_only Idle) took gave
begun x (t ∷ []) [] w g a b m n = record {
  list = [];
  end = unended;
  gave_is = refl;
  took_is = ap (λ (h : List Item). h ∷ []) a.0;
  took_as = refl;
  parts = rw (w, g) refl;
  same = refl;
}
begun x [] gave w g a b m n = absurd (omega (arith, m))
begun x (t ∷ u ∷ took) gave w g a b m n = absurd (omega (arith, m))
begun x (t ∷ []) (h ∷ gave) w g a b m n = absurd (omega (arith, n))

none_waits : (waits : List Item) → waits ≡ [] → length waits ≤ 1
none_waits waits e = rw e (omega arith)

leaves_started : (x : Leaving) → Starts LeavingPortState LeavingLaw LeavingFresh x x []
leaves_started x = record {
  obeys = record { allowed = λ v h r. tt; ports = λ v h r. (Idle, (r.port, none_waits x.waits r.waits)) };
  stands = tt;
  begins = λ v took gave h f t g i j. subst (λ (w : View). length took ≡ length w.ins → length gave ≡ length w.outs → LeavingLaw x x w took gave) (sym f.port) (λ m n. begun x took gave f.waits f.gone t g m n) i j;
}

pub starts_leaving : {T E : Type 0} (r : Result T E) (x new : Leaving) (acts : List Act) → new ≡ x → acts ≡ [] → OnOk r (Starts LeavingPortState LeavingLaw LeavingFresh x new acts)
starts_leaving (Ok y) x new acts e f = rw (e, f) (leaves_started x)
starts_leaving (Err y) x new acts e f = tt

-- ---- it asks and cancels between two calls

known : (x first : Leaving) (y z : InView) (took gave : List (List Item)) → IsInOpen y → ((e : End) → e ≡ unended → TookAs z e) → LeavingLaw first x (input_only y) took gave → LeavingLaw first x (input_only z) took gave
known x first y z took gave o f law = record {
  list = law.list;
  end = law.end;
  gave_is = law.gave_is;
  took_is = law.took_is;
  took_as = f law.end (open_end y law.end o law.took_as);
  parts = law.parts;
  same = law.same;
}

pull_at : (x first : Leaving) (y : InView) (took gave : List (List Item)) (i : ℕ) → x.waits ≡ [] → LeavingLaw first x (input_only y) took gave → in_at (input_only y) i ≡ Idle → MayDo LeavingPortState LeavingLaw x first (input_only y) took gave (Pull i)
pull_at x first y took gave zero none law h = record { allowed = h; port_state_holds = (Pulled, (refl, none)); law_holds = known x first y Pulled took gave (idle_open y h) (λ e s. s) law }
pull_at x first y took gave (suc i) none law h = absurd cc

cancel_at : (x first : Leaving) (y : InView) (took gave : List (List Item)) (i : ℕ) → LeavingLaw first x (input_only y) took gave → IsInOpen (in_at (input_only y) i) → MayDo LeavingPortState LeavingLaw x first (input_only y) took gave (Cancel i)
cancel_at x first y took gave zero law o = record { allowed = o; port_state_holds = (Cancelled, (refl, tt)); law_holds = known x first y Cancelled took gave o (λ e s. s) law }
cancel_at x first y took gave (suc i) law o = absurd o

module _ (first now : Leaving) (v : View) (took gave : List (List Item)) (r : LeavingPortState now v) (law : LeavingLaw first now v took gave) where
  abbrev Done : (View → Type 0) → Act → View → Type 0
  Done H a w = LeavingLaw first now w took gave → H w → MayDo LeavingPortState LeavingLaw now first w took gave a

  pub may_pull : (i : ℕ) → now.waits ≡ [] → in_at v i ≡ Idle → MayDo LeavingPortState LeavingLaw now first v took gave (Pull i)
  may_pull i none h = subst (Done (λ w. in_at w i ≡ Idle) (Pull i)) (sym r.1.0) (pull_at now first r.0 took gave i none) law h

  pub may_cancel : (i : ℕ) → IsInOpen (in_at v i) → MayDo LeavingPortState LeavingLaw now first v took gave (Cancel i)
  may_cancel i h = subst (Done (λ w. IsInOpen (in_at w i)) (Cancel i)) (sym r.1.0) (cancel_at now first r.0 took gave i) law h
