-- A stage with several outputs has nothing to do over its own ports; and where it is called, its ports are not all closed.
use Rattle.std.specs.Prelude.{slice_get, slice_index_or, Some, None, Option}
use Rattle.std.proofs.Common.{◌≡◌, ℕ, zero, suc, ◌+◌, ◌≤◌, inl, inr, Bool, true, false, List, [], ◌∷◌, length, map, refl, sym, ap, ◌∙◌, subst, arith}
use Rattle.std.proofs.lemmas.List.{length-map}
use Rattle.elem_core.specs.Tree.{Tree}
use Rattle.elem_core.specs.declared.item.Item.{Item}
use Rattle.elem_core.specs.declared.item.Item.TheVariants as item
use Rattle.port_core.specs.declared.view.InView.{InView}
use Rattle.port_core.specs.declared.view.InView.TheVariants.{Idle, Pulled, Finished, Cancelled}
use Rattle.port_core.specs.declared.view.OutView.{OutView}
use Rattle.port_core.specs.declared.view.OutView.TheVariants as outlet
use Rattle.port_core.specs.View as port
use Rattle.port_core.specs.View.{IsOutOpen}
use Rattle.port_core.specs.Call.{Call, starts, pulls, arrives, cancels, AllIdle, MayCome, CallAllowed, Meets}
use Rattle.stream_model.specs.Linear.{Book, Stage}
use Rattle.stream_model.specs.Outlook.{End}
use Rattle.stream_model.specs.View.{SomeWire}
use Rattle.stream_model.specs.Rests.{IsUnasked}
use Rattle.stage_core.specs.Held.{told, Held}
use Rattle.stage_core.specs.Outs.{Outlet, OutsLaw}
use Rattle.stage_core.specs.OwnPorts.{own_input}
use Rattle.stage_core.specs.Rooms.{acts_for}
use Rattle.stage_core.specs.Seats.{room_for}
use Rattle.stage_core.specs.declared.outs.OutputState.{OutputState}
use Rattle.stage_core.specs.declared.outs.OutputState.TheVariants.{Quiet, Asks, Gone}
use Rattle.stage_out.specs.declared.machines.OutMachines.{OutMachines}
use Rattle.stage_out.specs.declared.machines.OutMachines.TheVariants.{Copies, Deals}
use Rattle.stage_out.specs.Copies as copies
use Rattle.stage_core.specs.OpenOuts.{want_view, open_count, OneInClosed, OutsClosed, AllClosed, asks_count}
use Rattle.stage_out.specs.CopyStates.{CopyLogic, part_by}
use Rattle.stage_out.specs.CopyStates as copy
use Rattle.stage_out.specs.PartitionStates.{PartitionLogic, input_of, Holding, Sound, dealers, then_of}
use Rattle.stage_out.specs.PartitionStates as part
use Rattle.stage_out.specs.Machines.{DealsRest, is_live, room_of, port_state, no_stage, copiers, outlets}
use Rattle.stage_out.specs.OwnRows.{own_outs, Even, OutLists, OutputsRest}
use Rattle.stage_out.proofs.OutMachines.{copiers_are}
use Rattle.stage_out.proofs.Rests.{copy_rests, ins_shut, outs_shut, outlists}

-- ---- the lists that were given

pub record Listed (n k : ℕ) (gave : ℕ → List Item) : Type 0 where
  pub lists : List (List Tree)
  pub ports : length lists ≡ k
  pub told_at : (i : ℕ) (g : List Tree) → slice_get lists i ≡ Some g → (h : End) × (gave (n + i) ≡ told g h)

listed : (os : List (Outlet Stage)) (n : ℕ) (v : port.View) (took : List Item) (gave : ℕ → List Item) → OutsLaw n os v took gave → Listed n (length os) gave
listed [] n v took gave law = record { lists = []; ports = refl; told_at = λ i g h. cc }
listed (o ∷ os) n v took gave law =
    let r = listed os (n + 1) v took gave law.1 in
    record { lists = law.0.out_list ∷ r.lists; ports = ap suc r.ports; told_at = told_by law.0.out_list law.0.out_end law.0.gave_is r.lists r.told_at }
  where
    told_by : (g : List Tree) (h : End) → gave n ≡ told g h → (gs : List (List Tree)) → ((i : ℕ) (k : List Tree) → slice_get gs i ≡ Some k → (d : End) × (gave (n + 1 + i) ≡ told k d))
        → (i : ℕ) (k : List Tree) → slice_get (g ∷ gs) i ≡ Some k → (d : End) × (gave (n + i) ≡ told k d)
    told_by g h t gs r zero k at = let z : n + 0 ≡ n = omega arith in let same : g ≡ k = cc in (h, rw (z, ← same) t)
    told_by g h t gs r (suc i) k at = let z : n + suc i ≡ n + 1 + i = omega arith in let x = r i k at in (x.0, rw z x.1)

even_length : (ws : List OutputState) (l : List Tree) (gs : List (List Tree)) → Even ws l gs → length gs ≡ length ws
even_length [] l [] e = refl
even_length [] l (g ∷ gs) e = absurd e
even_length (Quiet ∷ ws) l [] e = absurd e
even_length (Asks ∷ ws) l [] e = absurd e
even_length (Gone ∷ ws) l [] e = absurd e
even_length (Quiet ∷ ws) l (g ∷ gs) e = ap suc (even_length ws l gs e.1)
even_length (Asks ∷ ws) l (g ∷ gs) e = ap suc (even_length ws l gs e.1)
even_length (Gone ∷ ws) l (g ∷ gs) e = ap suc (even_length ws l gs e)

-- ---- a partition

unasked_there : (ws : List OutputState) (gs : List (List Tree)) (i : ℕ) → length gs ≡ length ws → slice_get ws i ≡ Some Quiet → SomeWire IsUnasked (own_outs (map want_view ws) gs)
unasked_there [] gs i e h = cc
unasked_there (w ∷ ws) [] i e h = absurd (omega (arith, e))
unasked_there (Quiet ∷ ws) (g ∷ gs) zero e h = inl (refl, refl)
unasked_there (Asks ∷ ws) (g ∷ gs) zero e h = cc
unasked_there (Gone ∷ ws) (g ∷ gs) zero e h = cc
unasked_there (w ∷ ws) (g ∷ gs) (suc i) e h = inr (unasked_there ws gs i (omega (arith, e)) h)

-- where an output is open and none asks, some is unasked
some_unasked : (ws : List OutputState) (gs : List (List Tree)) → length gs ≡ length ws → 1 ≤ open_count ws → asks_count ws ≡ 0 → SomeWire IsUnasked (own_outs (map want_view ws) gs)
some_unasked [] gs e o q = absurd (omega (arith, o))
some_unasked (w ∷ ws) [] e o q = absurd (omega (arith, e))
some_unasked (Quiet ∷ ws) (g ∷ gs) e o q = inl (refl, refl)
some_unasked (Asks ∷ ws) (g ∷ gs) e o q = absurd (omega (arith, q))
some_unasked (Gone ∷ ws) (g ∷ gs) e o q = inr (some_unasked ws gs (omega (arith, e)) o q)

module _ (l : PartitionLogic) (took : List Tree) (gs : List (List Tree)) (e : length gs ≡ length l.outs) (s : Sound l) where
  by_held : (h : Option Tree) (b c : Bool) → l.over ≡ b → l.waits ≡ c → Holding h l → DealsRest (own_input (input_of b c) took) (own_outs (map want_view l.outs) gs)
  by_held h false true o w x = inl (refl, refl)
  by_held None false false o w x =
      let none : asks_count l.outs ≡ 0 = sym s.asking_is ∙ x.1 w in
      let some : 1 ≤ open_count l.outs = let a = s.open_is in let b = s.some in omega (arith, a, b) in
      inr (some_unasked l.outs gs e some none, inl (inr (refl, refl)))
  by_held (Some t) false false o w x = inr (unasked_there l.outs gs l.to e x.1, inl (inr (refl, refl)))
  by_held None true c o w x = let f : true ≡ false = sym o ∙ x.0 in cc
  by_held (Some t) true c o w x = inr (unasked_there l.outs gs l.to e x.1, inr refl)

deals_rest : (l : PartitionLogic) (v : port.View) (took : List Tree) (gs : List (List Tree)) → part.port_state l v → length gs ≡ length l.outs → OutputsRest (Deals l) v took gs
deals_rest l v took gs r e = by_live l.live r
  where
    by_live : (b : Bool) → part.port_state_by b l v → OutputsRest (Deals l) v took gs
    by_live true r = subst (λ w. OutputsRest (Deals l) w took gs) (sym r.0) (inr (by_held l took gs e r.1 l.held l.over l.waits refl refl r.1.holds))
    by_live false r = inl (ins_shut v.ins took r.0, outs_shut v.outs gs r.1)

-- ---- all kinds
pub length-copiers : (part : ℕ → Tree → Tree) (live : Bool) (n : ℕ) (ws : List OutputState) → length (copiers part live n ws) ≡ length ws
length-copiers part live n [] = refl
length-copiers part live n (w ∷ ws) = ap suc (length-copiers part live (n + 1) ws)

pub length-dealers : (book : Book) (l : PartitionLogic) (h : ℕ → OutputState → Held Stage) (n : ℕ) (ws : List OutputState) → length (dealers book l h n ws) ≡ length ws
length-dealers book l h n [] = refl
length-dealers book l h n (w ∷ ws) = ap suc (length-dealers book l h (n + 1) ws)

at_zero : (gs : List (List Tree)) (gave : ℕ → List Item) → ((i : ℕ) (g : List Tree) → slice_get gs i ≡ Some g → (h : End) × (gave (0 + i) ≡ told g h)) → (i : ℕ) (g : List Tree) → slice_get gs i ≡ Some g → (h : End) × (gave i ≡ told g h)
at_zero gs gave r i g at = let z : 0 + i ≡ i = omega arith in let x = r i g at in (x.0, subst (λ k. gave k ≡ told g x.0) z x.1)

from_listed : (n : ℕ) (gave : ℕ → List Item) → Listed 0 n gave → OutLists n gave
from_listed n gave r = record { lists = r.lists; ports = r.ports; told_at = at_zero r.lists gave r.told_at }

copies_stand : (book : Book) (l : CopyLogic) (v : port.View) (took : List Item) (gave : ℕ → List Item) (taken : List Tree) (e : End) → copy.port_state l v → took ≡ told taken e → OutsLaw 0 (outlets book (Copies l)) v took gave
    → (o : OutLists (length (outlets book (Copies l))) gave) × OutputsRest (Copies l) v taken o.lists
copies_stand book l v took gave taken e r is law = by_live l.live refl r law
  where
    by_live : (b : Bool) → l.live ≡ b → copy.port_state_by b l v → OutsLaw 0 (copiers (part_by l.halves) b 0 l.outs) v took gave → (o : OutLists (length (outlets book (Copies l))) gave) × OutputsRest (Copies l) v taken o.lists
    by_live true h r law =
        let laws : OutsLaw 0 (copies.outlets (part_by l.halves) 0 no_stage l.outs) v took gave = subst (λ os. OutsLaw 0 os v took gave) (copiers_are (part_by l.halves) 0 l.outs) law in
        let o = outlists (part_by l.halves) no_stage v took taken e is l.outs 0 gave laws in
        (record { lists = o.lists; ports = even_length l.outs taken o.lists o.even ∙ sym (length-copiers (part_by l.halves) l.live 0 l.outs); told_at = at_zero o.lists gave o.told_at }, copy_rests l v taken o.lists (subst (λ b. copy.port_state_by b l v) (sym h) r) o.even)
    by_live false h r law =
        let k = listed (copiers (part_by l.halves) false 0 l.outs) 0 v took gave law in
        let n : length (copiers (part_by l.halves) false 0 l.outs) ≡ length (outlets book (Copies l)) = length-copiers (part_by l.halves) false 0 l.outs ∙ sym (length-copiers (part_by l.halves) l.live 0 l.outs) in
        (record { lists = k.lists; ports = k.ports ∙ n; told_at = at_zero k.lists gave k.told_at }, inl (ins_shut v.ins taken r.0, outs_shut v.outs k.lists r.1))

deals_stand : (book : Book) (l : PartitionLogic) (v : port.View) (took : List Item) (gave : ℕ → List Item) (taken : List Tree) → part.port_state l v → OutsLaw 0 (outlets book (Deals l)) v took gave
    → (o : OutLists (length (outlets book (Deals l))) gave) × OutputsRest (Deals l) v taken o.lists
deals_stand book l v took gave taken r law =
    let k = from_listed (length (outlets book (Deals l))) gave (listed (outlets book (Deals l)) 0 v took gave law) in
    (k, deals_rest l v taken k.lists r (k.ports ∙ length-dealers book l (then_of l.live l) 0 l.outs))

pub stage_rests : (book : Book) (l : OutMachines) (v : port.View) (took : List Item) (gave : ℕ → List Item) (taken : List Tree) (e : End) → port_state l v → took ≡ told taken e → OutsLaw 0 (outlets book l) v took gave
    → (o : OutLists (length (outlets book l)) gave) × OutputsRest l v taken o.lists
stage_rests book (Copies l) v took gave taken e r is law = copies_stand book l v took gave taken e r is law
stage_rests book (Deals l) v took gave taken e r is law = deals_stand book l v took gave taken r law

-- ---- a call finds an open port

no_in : (xs : List InView) (i : ℕ) (x : Item) → OneInClosed xs → MayCome x (slice_index_or xs i Cancelled) → ⊥
no_in [] i x c m = c
no_in (y ∷ z ∷ xs) i x c m = c
no_in (Idle ∷ []) i x c m = c
no_in (Pulled ∷ []) i x c m = c
no_in (Finished ∷ []) zero (item.Elem t) c m = cc
no_in (Finished ∷ []) zero item.Ended c m = m
no_in (Finished ∷ []) zero (item.Failed d) c m = m
no_in (Cancelled ∷ []) zero (item.Elem t) c m = cc
no_in (Cancelled ∷ []) zero item.Ended c m = m
no_in (Cancelled ∷ []) zero (item.Failed d) c m = m
no_in (Finished ∷ []) (suc i) (item.Elem t) c m = cc
no_in (Finished ∷ []) (suc i) item.Ended c m = m
no_in (Finished ∷ []) (suc i) (item.Failed d) c m = m
no_in (Cancelled ∷ []) (suc i) (item.Elem t) c m = cc
no_in (Cancelled ∷ []) (suc i) item.Ended c m = m
no_in (Cancelled ∷ []) (suc i) (item.Failed d) c m = m

no_idle : (xs : List InView) → OneInClosed xs → AllIdle xs → ⊥
no_idle [] c a = c
no_idle (y ∷ z ∷ xs) c a = c
no_idle (Idle ∷ []) c a = c
no_idle (Pulled ∷ []) c a = c
no_idle (Finished ∷ []) c a = let x : Finished ≡ Idle = a.0 in cc
no_idle (Cancelled ∷ []) c a = let x : Cancelled ≡ Idle = a.0 in cc

no_out : (ys : List OutView) (j : ℕ) → OutsClosed ys → IsOutOpen (slice_index_or ys j outlet.Closed) → ⊥
no_out [] j c o = o
no_out (outlet.Unpulled ∷ ys) zero c o = c.0
no_out (outlet.Available ∷ ys) zero c o = c.0
no_out (outlet.Closed ∷ ys) zero c o = o
no_out (outlet.Cancelled ∷ ys) zero c o = o
no_out (y ∷ ys) (suc j) c o = no_out ys j c.1 o

none_called : (call : Call) (v : port.View) → CallAllowed call v → AllClosed v → ⊥
none_called starts v may c = no_idle v.ins c.0 may.0
none_called (pulls j) v may c = no_out v.outs j c.1 (subst IsOutOpen (sym may) tt)
none_called (arrives i x) v may c = no_in v.ins i x c.0 may
none_called (cancels j) v may c = no_out v.outs j c.1 may

pub called_is_live : (l : OutMachines) (call : Call) (v : port.View) → CallAllowed call v → port_state l v → is_live l ≡ true
called_is_live (Copies l) call v may r = by_live l.live r
  where
    by_live : (b : Bool) → copy.port_state_by b l v → b ≡ true
    by_live true r = refl
    by_live false r = absurd (none_called call v may r)
called_is_live (Deals l) call v may r = by_live l.live r
  where
    by_live : (b : Bool) → part.port_state_by b l v → b ≡ true
    by_live true r = refl
    by_live false r = absurd (none_called call v may r)

-- two actions for each of its ports are enough
pub called_fits : (l : OutMachines) (call : Call) (v : port.View) → CallAllowed call v → port_state l v → room_of l ≤ acts_for v
called_fits (Copies l) call v may r = by_live l.live r
  where
    by_live : (b : Bool) → copy.port_state_by b l v → room_for (length l.outs) ≤ acts_for v
    by_live true r =
        let ins : length v.ins ≡ 1 = ap (λ (w : port.View). length w.ins) r.0 in
        let outs : length v.outs ≡ length l.outs = ap (λ (w : port.View). length w.outs) r.0 ∙ length-map l.outs want_view in
        omega (arith, ins, outs)
    by_live false r = absurd (none_called call v may r)
called_fits (Deals l) call v may r = by_live l.live r
  where
    by_live : (b : Bool) → part.port_state_by b l v → room_for (length l.outs) ≤ acts_for v
    by_live true r =
        let ins : length v.ins ≡ 1 = ap (λ (w : port.View). length w.ins) r.0 in
        let outs : length v.outs ≡ length l.outs = ap (λ (w : port.View). length w.outs) r.0 ∙ length-map l.outs want_view in
        omega (arith, ins, outs)
    by_live false r = absurd (none_called call v may r)

-- the same of a call that may come
module _ (call : Call) where
  pub copies_live : (l : CopyLogic) (whole : OutMachines) → whole ≡ Copies l → Meets call (port_state whole) → l.live ≡ true
  copies_live l whole is m = called_is_live (Copies l) call m.0 m.1.0 (subst (λ x. port_state x m.0) is m.1.1)

  pub deals_live : (l : PartitionLogic) (whole : OutMachines) → whole ≡ Deals l → Meets call (port_state whole) → l.live ≡ true
  deals_live l whole is m = called_is_live (Deals l) call m.0 m.1.0 (subst (λ x. port_state x m.0) is m.1.1)
