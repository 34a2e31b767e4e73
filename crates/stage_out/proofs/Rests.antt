-- A broadcast or an unzip has nothing to do over its own ports.
use Rattle.std.specs.Prelude.{slice_get}
use Rattle.std.proofs.Common.{◌≡◌, ℕ, zero, suc, ◌+◌, ◌≤◌, ◌⊎◌, inl, inr, Bool, true, false, List, [], ◌∷◌, ◌++◌, length, map, refl, sym, ap, ◌∙◌, subst, arith, append-nil, Some}
use Rattle.std.proofs.lemmas.List.{length-map}
use Rattle.elem_core.specs.declared.item.Item.{Item}
use Rattle.stream_model.specs.Outlook.{End, unended, ended, failed}
use Rattle.stream_model.specs.Machine.{going, done, broken, Run, run}
use Rattle.stream_model.specs.Linear.{Stage}
use Rattle.stage_core.specs.Held.{told}
use Rattle.stage_core.specs.Law.{ends_by, Law}
use Rattle.stage_core.specs.Outs.{OutsLaw}
use Rattle.stage_out.proofs.Agreeing.{copies_run}
use Rattle.elem_core.specs.Tree.{Tree}
use Rattle.port_core.specs.declared.view.InView.{InView}
use Rattle.port_core.specs.declared.view.InView.TheVariants.{Idle, Pulled, Finished, Cancelled}
use Rattle.port_core.specs.declared.view.OutView.{OutView}
use Rattle.port_core.specs.declared.view.OutView.TheVariants as outlet
use Rattle.port_core.specs.View as port
use Rattle.stream_model.specs.View.{EachWire, SomeWire}
use Rattle.stream_model.specs.Rests.{IsShut, IsUnasked, AllOpenAsked, CopiesAll, CopiesSome, OneToMany, BroadcastRests}
use Rattle.stage_core.specs.OwnPorts.{own_input}
use Rattle.stage_core.specs.declared.outs.OutputState.{OutputState}
use Rattle.stage_core.specs.declared.outs.OutputState.TheVariants.{Quiet, Asks, Gone}
use Rattle.stage_core.specs.OpenOuts.{want_view, OneInClosed, OutsClosed}
use Rattle.stage_out.specs.Copies.{copying, nothing_owed, owed_by, outlets, input_by, quiet_count}
use Rattle.stage_out.specs.CopyStates.{CopyLogic, port_state_by, port_state}
use Rattle.stage_out.specs.OwnRows.{own_ins, own_outs, Even, Outlists}

all_asked : (ws : List OutputState) (gs : List (List Tree)) → quiet_count ws ≡ 0 → AllOpenAsked (own_outs (map want_view ws) gs)
all_asked [] gs h = tt
all_asked (w ∷ ws) [] h = tt
all_asked (Quiet ∷ ws) (g ∷ gs) h = absurd (omega (arith, h))
all_asked (Asks ∷ ws) (g ∷ gs) h = (inr (refl, refl), all_asked ws gs h)
all_asked (Gone ∷ ws) (g ∷ gs) h = (inl refl, all_asked ws gs h)

copies_all : (x : InView) (ws : List OutputState) (l : List Tree) (gs : List (List Tree)) → Even ws l gs → CopiesAll (own_input x l) (own_outs (map want_view ws) gs)
copies_all x [] l gs e = tt
copies_all x (w ∷ ws) l [] e = tt
copies_all x (Quiet ∷ ws) l (g ∷ gs) e = (inr e.0, copies_all x ws l gs e.1)
copies_all x (Asks ∷ ws) l (g ∷ gs) e = (inr e.0, copies_all x ws l gs e.1)
copies_all x (Gone ∷ ws) l (g ∷ gs) e = (inl refl, copies_all x ws l gs e)

copies_some : (x : InView) (ws : List OutputState) (l : List Tree) (gs : List (List Tree)) → Even ws l gs → CopiesSome (own_input x l) (own_outs (map want_view ws) gs)
copies_some x [] l gs e = tt
copies_some x (w ∷ ws) l [] e = tt
copies_some x (Quiet ∷ ws) l (g ∷ gs) e = (inr (omega (arith, e.0), inr e.0), copies_some x ws l gs e.1)
copies_some x (Asks ∷ ws) l (g ∷ gs) e = (inr (omega (arith, e.0), inr e.0), copies_some x ws l gs e.1)
copies_some x (Gone ∷ ws) l (g ∷ gs) e = (inl refl, copies_some x ws l gs e)

some_unasked : (ws : List OutputState) (l : List Tree) (gs : List (List Tree)) → Even ws l gs → 1 ≤ quiet_count ws → SomeWire IsUnasked (own_outs (map want_view ws) gs)
some_unasked [] l gs e h = absurd (omega (arith, h))
some_unasked (Quiet ∷ ws) l (g ∷ gs) e h = inl (refl, refl)
some_unasked (Asks ∷ ws) l (g ∷ gs) e h = inr (some_unasked ws l gs e.1 h)
some_unasked (Gone ∷ ws) l (g ∷ gs) e h = inr (some_unasked ws l gs e h)
some_unasked (Quiet ∷ ws) l [] e h = absurd e
some_unasked (Asks ∷ ws) l [] e h = absurd e
some_unasked (Gone ∷ ws) l [] e h = absurd e

abbrev CopyRests : port.View → List Tree → List (List Tree) → Type 0
CopyRests v l gs = (EachWire IsShut (own_ins v.ins l) × EachWire IsShut (own_outs v.outs gs)) ⊎ OneToMany BroadcastRests (own_ins v.ins l) (own_outs v.outs gs)

open_rests : (q : ℕ) (ws : List OutputState) (l : List Tree) (gs : List (List Tree)) → q ≡ quiet_count ws → Even ws l gs → CopyRests (record { ins = input_by q ∷ []; outs = map want_view ws }) l gs
open_rests zero ws l gs h e = inr (inl (all_asked ws gs (sym h), (refl, refl), copies_all Pulled ws l gs e))
open_rests (suc q) ws l gs h e = inr (inr (some_unasked ws l gs e (omega (arith, h)), inr (refl, refl), copies_some Idle ws l gs e))

pub ins_shut : (xs : List InView) (l : List Tree) → OneInClosed xs → EachWire IsShut (own_ins xs l)
ins_shut (Finished ∷ []) l h = (refl, tt)
ins_shut (Cancelled ∷ []) l h = (refl, tt)
ins_shut (Idle ∷ []) l h = absurd h
ins_shut (Pulled ∷ []) l h = absurd h
ins_shut [] l h = absurd h
ins_shut (x ∷ y ∷ xs) l h = absurd h

pub outs_shut : (ys : List OutView) (gs : List (List Tree)) → OutsClosed ys → EachWire IsShut (own_outs ys gs)
outs_shut [] gs h = tt
outs_shut (y ∷ ys) [] h = tt
outs_shut (outlet.Closed ∷ ys) (g ∷ gs) h = (refl, outs_shut ys gs h.1)
outs_shut (outlet.Cancelled ∷ ys) (g ∷ gs) h = (refl, outs_shut ys gs h.1)
outs_shut (outlet.Unpulled ∷ ys) (g ∷ gs) h = absurd h.0
outs_shut (outlet.Available ∷ ys) (g ∷ gs) h = absurd h.0

pub copy_rests : (l : CopyLogic) (v : port.View) (took : List Tree) (gs : List (List Tree)) → port_state l v → Even l.outs took gs → CopyRests v took gs
copy_rests l v took gs r e = by_live l.live r
  where
    by_live : (b : Bool) → port_state_by b l v → CopyRests v took gs
    by_live true r = subst (λ w. CopyRests w took gs) (sym r.0) (open_rests l.quiet l.outs took gs r.1.quiet_is e)
    by_live false r = inl (ins_shut v.ins took r.0, outs_shut v.outs gs r.1)

-- ---- each open output was given as many elements as were taken

pub told_lists : (l k : List Tree) (e d : End) → told l e ≡ told k d → l ≡ k
told_lists [] [] e d h = refl
told_lists [] (t ∷ k) unended d h = cc
told_lists [] (t ∷ k) ended d h = cc
told_lists [] (t ∷ k) (failed c) d h = cc
told_lists (t ∷ l) [] e unended h = cc
told_lists (t ∷ l) [] e ended h = cc
told_lists (t ∷ l) [] e (failed c) h = cc
told_lists (t ∷ l) (u ∷ k) e d h =
    let first : t ≡ u = cc in
    let rest : told l e ≡ told k d = cc in
    ap (λ x. x ∷ l) first ∙ ap (λ (xs : List Tree). u ∷ xs) (told_lists l k e d rest)

module _ (f : Tree → Tree) (s : Stage) where
  gave_all : (l : List Tree) (e : End) (g : List Tree) → ends_by (copying f) (run (copying f) (nothing_owed s) l) e ≡ record { gave = g ++ []; state = going s } → length g ≡ length l
  gave_all l e g h = by_end e (ap (λ (x : Run Stage Tree). ends_by (copying f) x e) (sym (copies_run f s l)) ∙ h)
    where
      by_end : (e : End) → ends_by (copying f) (record { gave = map f l; state = going s }) e ≡ record { gave = g ++ []; state = going s } → length g ≡ length l
      by_end unended k = let x : length (g ++ []) ≡ length (map f l) = sym (ap (λ (y : Run Stage Tree). length y.gave) k) in sym (ap length (append-nil g)) ∙ x ∙ length-map l f
      by_end ended k = let x : done ≡ going s = ap (λ (y : Run Stage Tree). y.state) k in cc
      by_end (failed c) k = let x : broken c ≡ going s = ap (λ (y : Run Stage Tree). y.state) k in cc

module _ (part : ℕ → Tree → Tree) (s : Stage) (v : port.View) (took : List Item) (l : List Tree) (e : End) (is : took ≡ told l e) where
  even_one : (n : ℕ) (w : OutputState) (gave : List Item) → (law : Law (copying (part n)) (nothing_owed s) (owed_by s w) (port.in_at v 0) (port.out_at v n) took gave) → (ws : List OutputState) (gs : List (List Tree)) → Even ws l gs → Even (w ∷ ws) l (law.out_list ∷ gs)
  even_one n Quiet gave law ws gs r = let same : law.in_list ≡ l = told_lists law.in_list l law.in_end e (sym law.took_is ∙ is) in (gave_all (part n) s law.in_list law.in_end law.out_list law.keeps.1.0 ∙ ap length same, r)
  even_one n Asks gave law ws gs r = let same : law.in_list ≡ l = told_lists law.in_list l law.in_end e (sym law.took_is ∙ is) in (gave_all (part n) s law.in_list law.in_end law.out_list law.keeps.1.0 ∙ ap length same, r)
  even_one n Gone gave law ws gs r = r

  pub outlists : (ws : List OutputState) (n : ℕ) (gave : ℕ → List Item) → OutsLaw n (outlets part n s ws) v took gave → Outlists ws n l gave
  outlists [] n gave law = record { lists = []; even = tt; told_at = λ i g h. cc }
  outlists (w ∷ ws) n gave law =
      let r = outlists ws (n + 1) gave law.1 in
      record { lists = law.0.out_list ∷ r.lists; even = even_one n w (gave n) law.0 ws r.lists r.even; told_at = told_by n gave law.0.out_list law.0.out_end law.0.gave_is r.lists r.told_at }
    where
      told_by : (n : ℕ) (gave : ℕ → List Item) (g : List Tree) (h : End) → gave n ≡ told g h → (gs : List (List Tree)) → ((i : ℕ) (k : List Tree) → slice_get gs i ≡ Some k → (d : End) × (gave (n + 1 + i) ≡ told k d))
          → (i : ℕ) (k : List Tree) → slice_get (g ∷ gs) i ≡ Some k → (d : End) × (gave (n + i) ≡ told k d)
      told_by n gave g h t gs r zero k at = let z : n + 0 ≡ n = omega arith in let same : g ≡ k = cc in (h, rw (z, ← same) t)
      told_by n gave g h t gs r (suc i) k at = let z : n + suc i ≡ n + 1 + i = omega arith in let x = r i k at in (x.0, rw z x.1)
