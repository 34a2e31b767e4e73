-- A turn of a zip keeps its law, and the law says what the zip may have given.
use Rattle.std.proofs.Common.{◌≡◌, ℕ, suc, ◌+◌, ◌⊎◌, inl, inr, List, [], ◌∷◌, ◌++◌, length, refl, sym, ap, ◌∙◌, arith, append_assoc, append-nil, length-append}
use Rattle.elem_core.specs.Prefix.{IsPrefix}
use Rattle.elem_core.specs.Tree.{Tree, both}
use Rattle.elem_core.specs.declared.item.Item.{Item}
use Rattle.elem_core.specs.declared.why.Cause.{Cause}
use Rattle.stream_model.specs.Outlook.{End, unended, ended, failed}
use Rattle.stream_model.specs.FanIn.{Inflow, pairs, IsPaired, ZipStands}
use Rattle.port_core.specs.declared.act.Act.{Act}
use Rattle.stage_core.specs.Law.{GaveAs}
use Rattle.port_core.specs.View.{View, out_at, ActsAllowed, acted_all}
use Rattle.port_core.specs.Call.{Call, starts, pulls, arrives, cancels, AllIdle, CallAllowed, seen, brought_to, given_on}
use Rattle.stage_core.specs.Inflows.{joined_at, joined, joined_all, coming, nothing_came, untouched}
use Rattle.stage_core.specs.Zips.{ZipHeld, waits, shut, Paired, IsUsedUp, FailedWith, ZipTurn, ZipClose, completes, fails, ZipTurnAt, ZipKeeps, ZipLaw, ZipStandsOf}
use Rattle.stage_core.proofs.Inflows.{Stepped, ports_law, new_ports}

-- even fronts are paired by themselves
pairs-append : (xs ys r s : List Tree) → length xs ≡ length ys → pairs (xs ++ r) (ys ++ s) ≡ pairs xs ys ++ pairs r s
pairs-append [] [] r s h = refl
pairs-append [] (y ∷ ys) r s h = absurd (omega (arith, h))
pairs-append (x ∷ xs) [] r s h = absurd (omega (arith, h))
pairs-append (x ∷ xs) (y ∷ ys) r s h = ap (λ l. both x y ∷ l) (pairs-append xs ys r s (omega (arith, h)))

length-pairs : (xs ys : List Tree) → length xs ≡ length ys → length (pairs xs ys) ≡ length xs
length-pairs [] [] h = refl
length-pairs [] (y ∷ ys) h = absurd (omega (arith, h))
length-pairs (x ∷ xs) [] h = absurd (omega (arith, h))
length-pairs (x ∷ xs) (y ∷ ys) h = ap suc (length-pairs xs ys (omega (arith, h)))

module _ (a b w u : Inflow) (g : List Tree) (p : Paired a b g w u) where
  -- for every rest: all pairs are those that were given and those of what waits
  pub paired_rest : (r s : List Tree) → pairs (a.list ++ r) (b.list ++ s) ≡ g ++ pairs (w.list ++ r) (u.list ++ s)
  paired_rest r s =
      let x : a.list ++ r ≡ p.lefts ++ (w.list ++ r) = ap (λ l. l ++ r) p.left_is ∙ append_assoc p.lefts w.list r in
      let y : b.list ++ s ≡ p.rights ++ (u.list ++ s) = ap (λ l. l ++ s) p.right_is ∙ append_assoc p.rights u.list s in
      rw (x, y) (pairs-append p.lefts p.rights (w.list ++ r) (u.list ++ s) p.even ∙ ap (λ l. l ++ pairs (w.list ++ r) (u.list ++ s)) (sym p.gave_is))

  paired_now : pairs a.list b.list ≡ g ++ pairs w.list u.list
  paired_now = ap (λ l. pairs l b.list) p.left_is ∙ ap (λ l. pairs (p.lefts ++ w.list) l) p.right_is ∙ pairs-append p.lefts p.rights w.list u.list p.even ∙ ap (λ l. l ++ pairs w.list u.list) (sym p.gave_is)

  pub paired_prefix : IsPrefix g (pairs a.list b.list)
  paired_prefix = record { rest = pairs w.list u.list; is = paired_now }

  gave_long : length g ≡ length p.lefts
  gave_long = ap length p.gave_is ∙ length-pairs p.lefts p.rights p.even

  left_long : length a.list ≡ length g + length w.list
  left_long = ap length p.left_is ∙ length-append p.lefts w.list ∙ ap (λ n. n + length w.list) (sym gave_long)

  right_long : length b.list ≡ length g + length u.list
  right_long = ap length p.right_is ∙ length-append p.rights u.list ∙ ap (λ n. n + length u.list) (sym p.even ∙ sym gave_long)

  -- the last pairs
  done_left : IsUsedUp w → (g ≡ pairs a.list b.list) × IsPaired a b
  done_left f =
      let no_more : pairs w.list u.list ≡ [] = ap (λ l. pairs l u.list) f.1 in
      let n : length w.list ≡ 0 = ap length f.1 in
      (sym (paired_now ∙ ap (λ l. g ++ l) no_more ∙ append-nil g), (sym p.left_end ∙ f.0, omega (arith, left_long, right_long, n)))

  none_right : (l : List Tree) → pairs l [] ≡ []
  none_right [] = refl
  none_right (x ∷ l) = refl

  done_right : IsUsedUp u → (g ≡ pairs a.list b.list) × IsPaired b a
  done_right f =
      let no_more : pairs w.list u.list ≡ [] = ap (λ l. pairs w.list l) f.1 ∙ none_right w.list in
      let n : length u.list ≡ 0 = ap length f.1 in
      (sym (paired_now ∙ ap (λ l. g ++ l) no_more ∙ append-nil g), (sym p.right_end ∙ f.0, omega (arith, left_long, right_long, n)))

  pub done_stands : IsUsedUp w ⊎ IsUsedUp u → ZipStands a b g ended
  done_stands (inl f) = let d = done_left f in (d.0, inl d.1)
  done_stands (inr f) = let d = done_right f in (d.0, inr d.1)

  pub failed_stands : (c : Cause) → FailedWith c w ⊎ FailedWith c u → ZipStands a b g (failed c)
  failed_stands c (inl f) = (paired_prefix, inl (sym p.left_end ∙ f.0, omega (arith, left_long, f.1)))
  failed_stands c (inr f) = (paired_prefix, inr (sym p.right_end ∙ f.0, omega (arith, right_long, f.1)))

-- more came behind what waits
joined_is : (e : End) (l k first : List Tree) (r : Inflow) → l ≡ first ++ k → (joined_at e l r).list ≡ first ++ (joined_at e k r).list
joined_is unended l k first r h = ap (λ x. x ++ r.list) h ∙ append_assoc first k r.list
joined_is ended l k first r h = h
joined_is (failed c) l k first r h = h

joined_end : (e : End) (l k : List Tree) (r : Inflow) → (joined_at e k r).end ≡ (joined_at e l r).end
joined_end unended l k r = refl
joined_end ended l k r = refl
joined_end (failed c) l k r = refl

more_paired : (a b w u : Inflow) (g : List Tree) (r s : Inflow) → Paired a b g w u → Paired (joined a r) (joined b s) g (joined w r) (joined u s)
more_paired a b w u g r s p = record {
  lefts = p.lefts;
  rights = p.rights;
  left_is = rw p.left_end (joined_is a.end a.list w.list p.lefts r p.left_is);
  right_is = rw p.right_end (joined_is b.end b.list u.list p.rights s p.right_is);
  even = p.even;
  gave_is = p.gave_is;
  left_end = rw p.left_end (joined_end a.end a.list w.list r);
  right_end = rw p.right_end (joined_end b.end b.list u.list s);
}

-- pairs behind pairs
then_paired : (a b w u x y : Inflow) (g h : List Tree) → Paired a b g w u → Paired w u h x y → Paired a b (g ++ h) x y
then_paired a b w u x y g h p q = record {
  lefts = p.lefts ++ q.lefts;
  rights = p.rights ++ q.rights;
  left_is = p.left_is ∙ ap (λ l. p.lefts ++ l) q.left_is ∙ sym (append_assoc p.lefts q.lefts x.list);
  right_is = p.right_is ∙ ap (λ l. p.rights ++ l) q.right_is ∙ sym (append_assoc p.rights q.rights y.list);
  even = omega (arith, p.even, q.even, length-append p.lefts q.lefts, length-append p.rights q.rights);
  gave_is = ap (λ l. l ++ h) p.gave_is ∙ ap (λ l. pairs p.lefts p.rights ++ l) q.gave_is ∙ sym (pairs-append p.lefts p.rights q.lefts q.rights p.even);
  left_end = q.left_end ∙ p.left_end;
  right_end = q.right_end ∙ p.right_end;
}

-- at any moment: what it gave stands, over what it took
zip_stands : (x : ZipHeld) (ins : List Inflow) (g : List Tree) (f : End) → ZipKeeps x ins g f → ZipStandsOf ins g f
zip_stands (waits w u) (a ∷ b ∷ []) g unended h = paired_prefix a b w u g h.1.0
zip_stands (waits w u) (a ∷ b ∷ []) g ended h = let e = h.0 in cc
zip_stands (waits w u) (a ∷ b ∷ []) g (failed c) h = let e = h.0 in cc
zip_stands shut (a ∷ b ∷ []) g f h = h
zip_stands (waits w u) [] g f h = absurd h
zip_stands (waits w u) (a ∷ []) g f h = absurd h
zip_stands (waits w u) (a ∷ b ∷ d ∷ ins) g f h = absurd h
zip_stands shut [] g f h = absurd h
zip_stands shut (a ∷ []) g f h = absurd h
zip_stands shut (a ∷ b ∷ d ∷ ins) g f h = absurd h

module _ (a b w u : Inflow) (g : List Tree) (call : Call) (p : Paired a b g w u) where
  abbrev more_came : Paired (joined a (coming call 0)) (joined b (coming call 1)) g (joined w (coming call 0)) (joined u (coming call 1))
  more_came = more_paired a b w u g (coming call 0) (coming call 1) p

  turned : (out : List Item) (x y : Inflow) → ZipTurn (joined w (coming call 0)) (joined u (coming call 1)) out x y → Stepped (ZipKeeps (waits x y)) (joined_all 0 (a ∷ b ∷ []) (coming call)) g out
  turned out x y t = record {
    list = t.given;
    end = unended;
    out_is = t.out_is;
    keeps = (refl, (then_paired (joined a (coming call 0)) (joined b (coming call 1)) (joined w (coming call 0)) (joined u (coming call 1)) x y g t.given more_came t.paired, t.few));
  }

  closed : (out : List Item) → ZipClose (joined w (coming call 0)) (joined u (coming call 1)) out → Stepped (ZipKeeps shut) (joined_all 0 (a ∷ b ∷ []) (coming call)) g out
  closed out (completes given x y q done is) = record {
    list = given;
    end = ended;
    out_is = is;
    keeps = done_stands (joined a (coming call 0)) (joined b (coming call 1)) x y (g ++ given) (then_paired (joined a (coming call 0)) (joined b (coming call 1)) (joined w (coming call 0)) (joined u (coming call 1)) x y g given more_came q) done;
  }
  closed out (fails c bad is) = record {
    list = [];
    end = failed c;
    out_is = is;
    keeps = rw append-nil (failed_stands (joined a (coming call 0)) (joined b (coming call 1)) (joined w (coming call 0)) (joined u (coming call 1)) g more_came c bad);
  }

  refused : (out : List Item) → out ≡ [] → Stepped (ZipKeeps shut) (joined_all 0 (a ∷ b ∷ []) (coming call)) g out
  refused out is = record {
    list = [];
    end = unended;
    out_is = is;
    keeps = rw append-nil (paired_prefix (joined a (coming call 0)) (joined b (coming call 1)) (joined w (coming call 0)) (joined u (coming call 1)) g more_came);
  }

stepped : (call : Call) (w u : Inflow) (new : ZipHeld) (ins : List Inflow) (g : List Tree) (f : End) (out : List Item) → ZipKeeps (waits w u) ins g f → ZipTurnAt call (waits w u) out new → Stepped (ZipKeeps new) (joined_all 0 ins (coming call)) g out
stepped call w u new [] g f out k t = absurd k
stepped call w u new (a ∷ []) g f out k t = absurd k
stepped call w u new (a ∷ b ∷ d ∷ ins) g f out k t = absurd k
stepped starts w u (waits x y) (a ∷ b ∷ []) g f out k t = turned a b w u g starts k.1.0 out x y t
stepped starts w u shut (a ∷ b ∷ []) g f out k t = closed a b w u g starts k.1.0 out t
stepped (pulls j) w u (waits x y) (a ∷ b ∷ []) g f out k t = turned a b w u g (pulls j) k.1.0 out x y t
stepped (pulls j) w u shut (a ∷ b ∷ []) g f out k t = closed a b w u g (pulls j) k.1.0 out t
stepped (arrives i c) w u (waits x y) (a ∷ b ∷ []) g f out k t = turned a b w u g (arrives i c) k.1.0 out x y t
stepped (arrives i c) w u shut (a ∷ b ∷ []) g f out k t = closed a b w u g (arrives i c) k.1.0 out t
stepped (cancels j) w u new (a ∷ b ∷ []) g f out k t = rw t.1 (refused a b w u g (cancels j) k.1.0 out t.0)

open_keeps : (w u : Inflow) (ins : List Inflow) (g : List Tree) (f : End) → ZipKeeps (waits w u) ins g f → f ≡ unended
open_keeps w u (a ∷ b ∷ []) g f k = k.0
open_keeps w u [] g f k = absurd k
open_keeps w u (a ∷ []) g f k = absurd k
open_keeps w u (a ∷ b ∷ d ∷ ins) g f k = absurd k

-- before anything came
pub zip_new : (v : View) → length v.ins ≡ 2 → AllIdle v.ins → GaveAs (out_at v 0) unended → ZipLaw (waits nothing_came nothing_came) v (λ _. []) []
zip_new v two idle open_out =
    let k : ZipKeeps (waits nothing_came nothing_came) (untouched 2) [] unended = (refl, (record { lefts = []; rights = []; left_is = refl; right_is = refl; even = refl; gave_is = refl; left_end = refl; right_end = refl }, (omega arith, omega arith))) in
    new_ports (ZipKeeps (waits nothing_came nothing_came)) v idle open_out (rw two k)

-- a call keeps the law
pub zip_call : (call : Call) (old new : ZipHeld) (v : View) (took : ℕ → List Item) (gave : List Item) (acts : List Act) → CallAllowed call v → ActsAllowed (seen call v) acts → ZipTurnAt call old (given_on 0 acts) new
    → ZipLaw old v took gave → ZipLaw new (acted_all (seen call v) acts) (λ i. took i ++ brought_to i call) (gave ++ given_on 0 acts)
zip_call call shut new v took gave acts may allowed turn law = absurd turn
zip_call call (waits w u) new v took gave acts may allowed turn law =
    ports_law (ZipKeeps (waits w u)) (ZipKeeps new) call v took gave acts may allowed law (open_keeps w u law.ins law.out_list law.out_end law.keeps) (stepped call w u new law.ins law.out_list law.out_end (given_on 0 acts) law.keeps turn)

pub zip_history_stands : (x : ZipHeld) (v : View) (took : ℕ → List Item) (gave : List Item) → (law : ZipLaw x v took gave) → ZipStandsOf law.ins law.out_list law.out_end
zip_history_stands x v took gave law = zip_stands x law.ins law.out_list law.out_end law.keeps
